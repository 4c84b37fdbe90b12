-- Each name in a spelled tree is the text of a name token.
use Rattle.std.proofs.Common.{◌≡◌, ◌∙◌, sym, ap, subst, ℕ, zero, suc, ◌<◌, Bool, List, [], ◌∷◌, ◌++◌, map, Option, Some, None, arith}
use Rattle.std.specs.List.{AllByRecursion}
use Rattle.source_combinators.specs.Separated as several
use Rattle.source_combinators.specs.Separated.{IsSeparated, IsListed}
use Rattle.py_syntax.specs.declared.lexeme.Lexeme.{Lexeme}
use Rattle.py_syntax.specs.declared.lexeme.Lexeme.TheVariants as token
use Rattle.py_syntax.specs.declared.expr.Expr.{Expr, roll-Expr, map-Expr}
use Rattle.py_syntax.specs.declared.expr.Expr.TheVariants as exp
use Rattle.py_syntax.specs.declared.expr.Expr.TheVariants.{rolls-Name, rolls-Number, rolls-Str, rolls-Nothing, rolls-True, rolls-False, rolls-Tuple, rolls-List, rolls-Attribute, rolls-Call, rolls-Subscript, rolls-Negative, rolls-Binary, rolls-Compare, rolls-Not, rolls-And, rolls-Or}
use Rattle.py_syntax.specs.declared.expr.Expr.TheOpen.{Expr-F}
use Rattle.py_syntax.specs.declared.expr.Expr.TheFolds.{fold-roll-Expr}
use Rattle.py_syntax.specs.declared.expr.BinaryOp.TheVariants as op
use Rattle.py_syntax.specs.declared.expr.Level.{Level}
use Rattle.py_syntax.specs.declared.expr.Spelled.{Spelled}
use Rattle.py_syntax.specs.declared.stmt.Alias.{Alias}
use Rattle.py_syntax.specs.declared.stmt.ImportedNames.{ImportedNames}
use Rattle.py_syntax.specs.declared.stmt.Stmt.{Stmt, roll-Stmt, map-Stmt}
use Rattle.py_syntax.specs.declared.stmt.Stmt.TheVariants as tree
use Rattle.py_syntax.specs.declared.stmt.Stmt.TheVariants.{rolls-Evaluate, rolls-Assign, rolls-Augment, rolls-Delete, rolls-Pass, rolls-Break, rolls-Continue, rolls-Return, rolls-Raise, rolls-Import, rolls-From, rolls-If, rolls-While, rolls-Try, rolls-Def}
use Rattle.py_syntax.specs.declared.stmt.Stmt.TheOpen.{Stmt-F}
use Rattle.py_syntax.specs.declared.stmt.Stmt.TheFolds.{fold-roll-Stmt}
use Rattle.py_syntax.specs.declared.stmt.Branch.{Branch, fold-roll-Branch}
use Rattle.py_syntax.specs.declared.stmt.FuncDef.{FuncDef, fold-roll-FuncDef}
use Rattle.py_syntax.specs.declared.stmt.Handler.{Handler, fold-roll-Handler}
use Rattle.py_syntax.specs.declared.stmt.Script.{Script}
use Rattle.py_syntax.specs.declared.context.Context.{Context}
use Rattle.py_syntax.specs.Expressions as exprs
use Rattle.py_syntax.specs.Expressions.{IsOperator, IsChain, IsOperand, IsInversion, IsComparison, IsFactor, IsPrimary, IsItems}
use Rattle.py_syntax.specs.Simple as simple
use Rattle.py_syntax.specs.Simple.{IsName, IsBound, IsAlias, IsDots, IsSource, IsItem, IsNames, IsSimple, IsLine}
use Rattle.py_syntax.specs.Statements as stmts
use Rattle.py_syntax.specs.Statements.{IsParameters, IsGlobal, IsGlobalLines, Body, IsStmt, IsStmts, IsBlock, IsBranch, IsElifs, IsElse, IsFinally, IsHandler, IsHandlers, IsBody}
use Rattle.py_syntax.specs.Grammar as grammar
use Rattle.py_syntax.specs.Grammar.{Spells}
use Rattle.source_print.specs.Lines.{Held}
use Rattle.source_laws.specs.Mentions.{Mention, Named, Dotted, Mentions, in_order, each_named, optional_name, expr_at, in_expr, in_optional, in_alias, in_aliases, in_imported, in_source, stmt_at, branch_at, function_at, handler_at, in_stmt, in_branch, in_function, in_handler, in_stmts, mentions}

-- ---- layers

expr_layer : (d : Expr-F Expr) (e : Expr) → roll-Expr d ≡ e → in_expr e ≡ expr_at (map-Expr Expr Mentions in_expr d)
expr_layer d e is = ap in_expr (sym is) ∙ fold-roll-Expr Mentions expr_at d

abbrev Layer : Type 0
Layer = Stmt-F Stmt Branch FuncDef Handler

stmt_layer : (d : Layer) (s : Stmt) → roll-Stmt d ≡ s → in_stmt s ≡ stmt_at (map-Stmt Stmt Branch FuncDef Handler Mentions Mentions Mentions Mentions in_stmt in_branch in_function in_handler d)
stmt_layer d s is = ap in_stmt (sym is) ∙ fold-roll-Stmt Mentions Mentions Mentions Mentions stmt_at branch_at function_at handler_at d

branch_layer : (b : Branch) → in_branch b ≡ in_expr b.test ++ in_stmts b.body
branch_layer b = fold-roll-Branch Mentions Mentions Mentions Mentions stmt_at branch_at function_at handler_at (record { test = b.test; body = b.body })

handler_layer : (h : Handler) → in_handler h ≡ in_optional h.kinds ++ (optional_name h.bound ++ in_stmts h.body)
handler_layer h = fold-roll-Handler Mentions Mentions Mentions Mentions stmt_at branch_at function_at handler_at (record { kinds = h.kinds; bound = h.bound; body = h.body })

function_layer : (f : FuncDef) → in_function f ≡ Named f.name ∷ (each_named f.parameters ++ (each_named f.globals ++ in_stmts f.body))
function_layer f = fold-roll-FuncDef Mentions Mentions Mentions Mentions stmt_at branch_at function_at handler_at (record { number = f.number; name = f.name; parameters = f.parameters; globals = f.globals; body = f.body })

-- ---- facts of lists

module _ {X : Type 0} (P : X → Type 0) where
  join : (xs ys : List X) → AllByRecursion P xs → AllByRecursion P ys → AllByRecursion P (xs ++ ys)
  join [] ys h k = k
  join (x ∷ xs) ys h k = (h.0, join xs ys h.1 k)

front : (P : Lexeme → Type 0) (xs ys : List Lexeme) → Held P (xs ++ ys) → Held P xs
front P [] ys h = tt
front P (x ∷ xs) ys h = (h.0, front P xs ys h.1)

back : (P : Lexeme → Type 0) (xs ys : List Lexeme) → Held P (xs ++ ys) → Held P ys
back P [] ys h = h
back P (x ∷ xs) ys h = back P xs ys h.1

-- What holds of the text of each name token, and of the parts of a dotted name where it holds of each.
module _ (P : List ℕ → Type 0) (Q : List (List ℕ) → Type 0) (dotted : (n : List ℕ) (ns : List (List ℕ)) → AllByRecursion P (n ∷ ns) → Q (n ∷ ns)) where
  abbrev pub IsFine : Lexeme → Type 0
  IsFine (token.Name n) = P n
  IsFine t = Unit {0}

  abbrev pub IsTold : Mention → Type 0
  IsTold (Named n) = P n
  IsTold (Dotted parts) = Q parts

  abbrev pub Told : Mentions → Type 0
  Told ms = AllByRecursion IsTold ms

  abbrev Fine : List Lexeme → Type 0
  Fine = Held IsFine

  both : (ms ns : Mentions) → Told ms → Told ns → Told (ms ++ ns)
  both = join IsTold

  moved : (ms ns : Mentions) → ms ≡ ns → Told ns → Told ms
  moved ms ns e h = subst Told (sym e) h

  -- ---- expressions

  operator_told : {level : Level} {t : Lexeme} {f : Expr → Expr → Expr} (a b : Expr) → IsOperator level t f → Told (in_expr a) → Told (in_expr b) → Told (in_expr (f a b))
  operator_told a b exprs.disjunction h k = moved _ (in_expr a ++ in_expr b) (expr_layer (Expr-F.Or a b) (exp.Or a b) (rolls-Or a b)) (both (in_expr a) (in_expr b) h k)
  operator_told a b exprs.conjunction h k = moved _ (in_expr a ++ in_expr b) (expr_layer (Expr-F.And a b) (exp.And a b) (rolls-And a b)) (both (in_expr a) (in_expr b) h k)
  operator_told a b exprs.add h k = moved _ (in_expr a ++ in_expr b) (expr_layer (Expr-F.Binary op.Add a b) (exp.Binary op.Add a b) (rolls-Binary op.Add a b)) (both (in_expr a) (in_expr b) h k)
  operator_told a b exprs.subtract h k = moved _ (in_expr a ++ in_expr b) (expr_layer (Expr-F.Binary op.Sub a b) (exp.Binary op.Sub a b) (rolls-Binary op.Sub a b)) (both (in_expr a) (in_expr b) h k)
  operator_told a b exprs.multiply h k = moved _ (in_expr a ++ in_expr b) (expr_layer (Expr-F.Binary op.Mul a b) (exp.Binary op.Mul a b) (rolls-Binary op.Mul a b)) (both (in_expr a) (in_expr b) h k)
  operator_told a b exprs.divide h k = moved _ (in_expr a ++ in_expr b) (expr_layer (Expr-F.Binary op.FloorDiv a b) (exp.Binary op.FloorDiv a b) (rolls-Binary op.FloorDiv a b)) (both (in_expr a) (in_expr b) h k)
  operator_told a b exprs.modulo h k = moved _ (in_expr a ++ in_expr b) (expr_layer (Expr-F.Binary op.Mod a b) (exp.Binary op.Mod a b) (rolls-Binary op.Mod a b)) (both (in_expr a) (in_expr b) h k)

  mutual
    chain_told : {level : Level} {room : ℕ} {ts : List Lexeme} {e : Spelled} → IsChain level room ts e → Fine ts → Told (in_expr e.tree)
    chain_told (exprs.alone h) f = operand_told h f
    chain_told (exprs.joined {xs = xs} {ys = ys} {t = t} {a = a} {b = b} h o k) f = operator_told a.tree b.tree o (chain_told h (front IsFine xs (t ∷ ys) f)) (operand_told k (back IsFine xs (t ∷ ys) f).1)

    operand_told : {level : Level} {room : ℕ} {ts : List Lexeme} {e : Spelled} → IsOperand level room ts e → Fine ts → Told (in_expr e.tree)
    operand_told (exprs.of_or h) f = chain_told h f
    operand_told (exprs.of_and h) f = inversion_told h f
    operand_told (exprs.of_sum h) f = chain_told h f
    operand_told (exprs.of_term h) f = factor_told h f

    inversion_told : {room : ℕ} {ts : List Lexeme} {e : Spelled} → IsInversion room ts e → Fine ts → Told (in_expr e.tree)
    inversion_told (exprs.inverted {e = e} h) f = moved _ (in_expr e.tree) (expr_layer (Expr-F.Not e.tree) (exp.Not e.tree) (rolls-Not e.tree)) (inversion_told h f.1)
    inversion_told (exprs.comparison h) f = comparison_told h f

    comparison_told : {room : ℕ} {ts : List Lexeme} {e : Spelled} → IsComparison room ts e → Fine ts → Told (in_expr e.tree)
    comparison_told (exprs.sum h) f = chain_told h f
    comparison_told (exprs.compared {xs = xs} {os = os} {ys = ys} {c = c} {a = a} {b = b} h o k) f =
        moved _ (in_expr a.tree ++ in_expr b.tree) (expr_layer (Expr-F.Compare c a.tree b.tree) (exp.Compare c a.tree b.tree) (rolls-Compare c a.tree b.tree))
        (both (in_expr a.tree) (in_expr b.tree) (chain_told h (front IsFine xs (os ++ ys) f)) (chain_told k (back IsFine os ys (back IsFine xs (os ++ ys) f))))

    factor_told : {room : ℕ} {ts : List Lexeme} {e : Spelled} → IsFactor room ts e → Fine ts → Told (in_expr e.tree)
    factor_told (exprs.negative {e = e} h) f = moved _ (in_expr e.tree) (expr_layer (Expr-F.Negative e.tree) (exp.Negative e.tree) (rolls-Negative e.tree)) (factor_told h f.1)
    factor_told (exprs.primary h) f = primary_told h f

    primary_told : {room : ℕ} {ts : List Lexeme} {e : Spelled} → IsPrimary room ts e → Fine ts → Told (in_expr e.tree)
    primary_told (exprs.name n) f = moved _ (Named n ∷ []) (expr_layer (Expr-F.Name n) (exp.Name n) (rolls-Name n)) (f.0, tt)
    primary_told (exprs.number n) f = moved _ [] (expr_layer (Expr-F.Number n) (exp.Number n) (rolls-Number n)) tt
    primary_told (exprs.string s) f = moved _ [] (expr_layer (Expr-F.Str s) (exp.Str s) (rolls-Str s)) tt
    primary_told exprs.none f = moved _ [] (expr_layer Expr-F.Nothing exp.Nothing rolls-Nothing) tt
    primary_told exprs.yes f = moved _ [] (expr_layer Expr-F.True exp.True rolls-True) tt
    primary_told exprs.no f = moved _ [] (expr_layer Expr-F.False exp.False rolls-False) tt
    primary_told (exprs.parens {ts = ts} h) f = chain_told h (front IsFine ts (token.CloseParen ∷ []) f.1)
    primary_told exprs.empty_tuple f = moved _ [] (expr_layer (Expr-F.Tuple []) (exp.Tuple []) (rolls-Tuple [])) tt
    primary_told (exprs.tuple {ts = ts} {us = us} {e = e} {es = es} h k) f =
        let inside : Fine (ts ++ token.Comma ∷ us) = front IsFine (ts ++ token.Comma ∷ us) (token.CloseParen ∷ []) f.1 in
        moved _ (in_expr e.tree ++ in_order (map in_expr es)) (expr_layer (Expr-F.Tuple (e.tree ∷ es)) (exp.Tuple (e.tree ∷ es)) (rolls-Tuple (e.tree ∷ es)))
        (both (in_expr e.tree) (in_order (map in_expr es)) (chain_told h (front IsFine ts (token.Comma ∷ us) inside)) (items_told k (back IsFine ts (token.Comma ∷ us) inside).1))
    primary_told (exprs.display {ts = ts} {es = es} h) f = moved _ (in_order (map in_expr es)) (expr_layer (Expr-F.List es) (exp.List es) (rolls-List es)) (items_told h (front IsFine ts (token.CloseBracket ∷ []) f.1))
    primary_told (exprs.attribute {ts = ts} {e = e} n h) f =
        moved _ (in_expr e.tree ++ Named n ∷ []) (expr_layer (Expr-F.Attribute e.tree n) (exp.Attribute e.tree n) (rolls-Attribute e.tree n))
        (both (in_expr e.tree) (Named n ∷ []) (primary_told h (front IsFine ts (token.Dot ∷ token.Name n ∷ []) f)) ((back IsFine ts (token.Dot ∷ token.Name n ∷ []) f).1.0, tt))
    primary_told (exprs.call {ts = ts} {us = us} {e = e} {es = es} h k) f =
        let behind : Fine (token.OpenParen ∷ (us ++ token.CloseParen ∷ [])) = back IsFine ts (token.OpenParen ∷ (us ++ token.CloseParen ∷ [])) f in
        moved _ (in_expr e.tree ++ in_order (map in_expr es)) (expr_layer (Expr-F.Call e.tree es) (exp.Call e.tree es) (rolls-Call e.tree es))
        (both (in_expr e.tree) (in_order (map in_expr es)) (primary_told h (front IsFine ts (token.OpenParen ∷ (us ++ token.CloseParen ∷ [])) f)) (items_told k (front IsFine us (token.CloseParen ∷ []) behind.1)))
    primary_told (exprs.subscript {ts = ts} {us = us} {e = e} {x = x} h k) f =
        let behind : Fine (token.OpenBracket ∷ (us ++ token.CloseBracket ∷ [])) = back IsFine ts (token.OpenBracket ∷ (us ++ token.CloseBracket ∷ [])) f in
        moved _ (in_expr e.tree ++ in_expr x.tree) (expr_layer (Expr-F.Subscript e.tree x.tree) (exp.Subscript e.tree x.tree) (rolls-Subscript e.tree x.tree))
        (both (in_expr e.tree) (in_expr x.tree) (primary_told h (front IsFine ts (token.OpenBracket ∷ (us ++ token.CloseBracket ∷ [])) f)) (chain_told k (front IsFine us (token.CloseBracket ∷ []) behind.1)))

    items_told : {room : ℕ} {ts : List Lexeme} {es : List Expr} {is_open : Bool} → IsItems room ts es is_open → Fine ts → Told (in_order (map in_expr es))
    items_told exprs.no_items f = tt
    items_told (exprs.last_item {e = e} h) f = both (in_expr e.tree) [] (chain_told h f) tt
    items_told (exprs.next_item {ts = ts} {us = us} {e = e} {es = es} h k) f =
        both (in_expr e.tree) (in_order (map in_expr es)) (chain_told h (front IsFine ts (token.Comma ∷ us) f)) (items_told k (back IsFine ts (token.Comma ∷ us) f).1)

  -- ---- separated forms

  abbrev Tells : {A : Type 0} → (ℕ → List Lexeme → A → Type 0) → (A → Type 0) → Type 0
  Tells {A = A} Is T = (room : ℕ) (ts : List Lexeme) (a : A) → Is room ts a → Fine ts → T a

  separated_told : {A : Type 0} {sep : Lexeme} {Is : ℕ → List Lexeme → A → Type 0} (T : A → Type 0) → Tells Is T → {room : ℕ} {ts : List Lexeme} {found : List A} → IsSeparated sep Is room ts found → Fine ts → AllByRecursion T found
  separated_told T each (several.one {room = room} {ts = ts} {a = a} h) f = (each room ts a h f, tt)
  separated_told {sep = sep} T each (several.more {room = room} {xs = xs} {ys = ys} {a = a} h k) f = (each room xs a h (front IsFine xs (sep ∷ ys) f), separated_told T each k (back IsFine xs (sep ∷ ys) f).1)

  listed_told : {A : Type 0} {sep : Lexeme} {Is : ℕ → List Lexeme → A → Type 0} (T : A → Type 0) → Tells Is T → {room : ℕ} {ts : List Lexeme} {x : List A × Bool} → IsListed sep Is room ts x → Fine ts → AllByRecursion T x.0
  listed_told T each (several.single {room = room} {ts = ts} {a = a} h) f = (each room ts a h f, tt)
  listed_told {sep = sep} T each (several.sep_last {room = room} {ts = ts} {a = a} h) f = (each room ts a h (front IsFine ts (sep ∷ []) f), tt)
  listed_told {sep = sep} T each (several.several {room = room} {xs = xs} {ys = ys} {a = a} h k) f = (each room xs a h (front IsFine xs (sep ∷ ys) f), listed_told T each k (back IsFine xs (sep ∷ ys) f).1)

  each_told : (ns : List (List ℕ)) → AllByRecursion P ns → Told (each_named ns)
  each_told [] h = tt
  each_told (n ∷ ns) h = (h.0, each_told ns h.1)

  -- ---- imports

  name_told : Tells IsName P
  name_told room ts n (simple.name m) f = f.0

  -- a dotted name has a part
  parts_told : {room : ℕ} {ts : List Lexeme} {ns : List (List ℕ)} → IsSeparated token.Dot IsName room ts ns → Fine ts → Q ns
  parts_told (several.one {a = n} h) f = dotted n [] (separated_told {sep = token.Dot} P name_told (several.one h) f)
  parts_told (several.more {a = n} {found = ns} h k) f = dotted n ns (separated_told {sep = token.Dot} P name_told (several.more h k) f)

  bound_told : {room : ℕ} {ts : List Lexeme} {n : Option (List ℕ)} → IsBound room ts n → Fine ts → Told (optional_name n)
  bound_told simple.own_name f = tt
  bound_told (simple.bound n) f = (f.1.0, tt)

  alias_told : Tells IsAlias (λ a. Told (in_alias a))
  alias_told room ts a (simple.alias {xs = xs} {ys = ys} h k) f = (parts_told h (front IsFine xs ys f), bound_told k (back IsFine xs ys f))

  item_told : Tells IsItem (λ a. Told (in_alias a))
  item_told room ts a (simple.item n h) f = (dotted n [] (f.0, tt), bound_told h f.1)

  aliases_told : (aliases : List Alias) → AllByRecursion (λ a. Told (in_alias a)) aliases → Told (in_aliases aliases)
  aliases_told [] h = tt
  aliases_told (a ∷ aliases) h = both (in_alias a) (in_aliases aliases) h.0 (aliases_told aliases h.1)

  named_source : (dots : ℕ) (ns : List (List ℕ)) → Q ns → Told (in_source dots ns)
  named_source zero ns q = (q, tt)
  named_source (suc dots) [] q = tt
  named_source (suc dots) (n ∷ ns) q = (q, tt)

  dots_source : (dots : ℕ) → 0 < dots → Told (in_source dots [])
  dots_source zero l = absurd (omega arith)
  dots_source (suc dots) l = tt

  source_told : {room : ℕ} {ts : List Lexeme} {s : ℕ × List (List ℕ)} → IsSource room ts s → Fine ts → Told (in_source s.0 s.1)
  source_told (simple.named {ts = ts} {us = us} {n = n} {ns = ns} h k) f = named_source n ns (parts_told k (back IsFine ts us f))
  source_told (simple.only_dots {n = n} h some) f = dots_source n some

  names_told : {c : Context} {room : ℕ} {ts : List Lexeme} {names : ImportedNames} → IsNames c room ts names → Fine ts → Told (in_imported names)
  names_told (simple.all_names e) f = tt
  names_told (simple.plain {items = items} h) f = aliases_told items (separated_told (λ a. Told (in_alias a)) item_told h f)
  names_told (simple.in_parens {ts = ts} {items = items} h) f = aliases_told items (listed_told (λ a. Told (in_alias a)) item_told h (front IsFine ts (token.CloseParen ∷ []) f.1))

  -- ---- lines

  simple_told : (c : Context) → Tells (IsSimple c) (λ s. Told (in_stmt s))
  simple_told c room ts s (simple.evaluate {e = e} h) f = moved _ (in_expr e.tree) (stmt_layer (Stmt-F.Evaluate e.tree) (tree.Evaluate e.tree) (rolls-Evaluate e.tree)) (chain_told h f)
  simple_told c room ts s (simple.assign {ts = xs} {us = ys} {e = e} {x = x} h t k) f =
      moved _ (in_expr e.tree ++ in_expr x.tree) (stmt_layer (Stmt-F.Assign e.tree x.tree) (tree.Assign e.tree x.tree) (rolls-Assign e.tree x.tree))
      (both (in_expr e.tree) (in_expr x.tree) (primary_told h (front IsFine xs (token.Assign ∷ ys) f)) (chain_told k (back IsFine xs (token.Assign ∷ ys) f).1))
  simple_told c room ts s (simple.augment {o = o} {x = x} n a h) f = moved _ (Named n ∷ in_expr x.tree) (stmt_layer (Stmt-F.Augment n o x.tree) (tree.Augment n o x.tree) (rolls-Augment n o x.tree)) (f.0, chain_told h f.1.1)
  simple_told c room ts s (simple.delete {e = e} h t) f = moved _ (in_expr e.tree) (stmt_layer (Stmt-F.Delete e.tree) (tree.Delete e.tree) (rolls-Delete e.tree)) (primary_told h f.1)
  simple_told c room ts s simple.pass f = moved _ [] (stmt_layer Stmt-F.Pass tree.Pass rolls-Pass) tt
  simple_told c room ts s (simple.break h) f = moved _ [] (stmt_layer Stmt-F.Break tree.Break rolls-Break) tt
  simple_told c room ts s (simple.continue h) f = moved _ [] (stmt_layer Stmt-F.Continue tree.Continue rolls-Continue) tt
  simple_told c room ts s (simple.return_none h k) f = moved _ [] (stmt_layer (Stmt-F.Return None) (tree.Return None) (rolls-Return None)) tt
  simple_told c room ts s (simple.return_value {e = e} h k q) f = moved _ (in_expr e.tree) (stmt_layer (Stmt-F.Return (Some e.tree)) (tree.Return (Some e.tree)) (rolls-Return (Some e.tree))) (chain_told q f.1)
  simple_told c room ts s simple.raise_again f = moved _ [] (stmt_layer (Stmt-F.Raise None) (tree.Raise None) (rolls-Raise None)) tt
  simple_told c room ts s (simple.raise {e = e} h) f = moved _ (in_expr e.tree) (stmt_layer (Stmt-F.Raise (Some e.tree)) (tree.Raise (Some e.tree)) (rolls-Raise (Some e.tree))) (chain_told h f.1)
  simple_told c room ts s (simple.import_modules {aliases = aliases} h) f =
      moved _ (in_aliases aliases) (stmt_layer (Stmt-F.Import aliases) (tree.Import aliases) (rolls-Import aliases)) (aliases_told aliases (separated_told (λ a. Told (in_alias a)) alias_told h f.1))
  simple_told c room ts s (simple.import_from {ts = xs} {us = ys} {dots = dots} {ns = ns} {names = names} h k) f =
      moved _ (in_source dots ns ++ in_imported names) (stmt_layer (Stmt-F.From dots ns names) (tree.From dots ns names) (rolls-From dots ns names))
      (both (in_source dots ns) (in_imported names) (source_told h (front IsFine xs (token.Import ∷ ys) f.1)) (names_told k (back IsFine xs (token.Import ∷ ys) f.1).1))

  run_told : (ss : List Stmt) → AllByRecursion (λ s. Told (in_stmt s)) ss → Told (in_stmts ss)
  run_told [] h = tt
  run_told (s ∷ ss) h = both (in_stmt s) (in_stmts ss) h.0 (run_told ss h.1)

  line_told : {c : Context} {room : ℕ} {ts : List Lexeme} {ss : List Stmt} → IsLine c room ts ss → Fine ts → AllByRecursion (λ s. Told (in_stmt s)) ss
  line_told {c = c} (simple.line h) f = listed_told (λ s. Told (in_stmt s)) (simple_told c) h f

  -- ---- statements

  parameters_told : {found : List (List ℕ)} {room : ℕ} {ts : List Lexeme} {all : List (List ℕ) × Bool} → IsParameters found room ts all → Fine ts → AllByRecursion P found → AllByRecursion P all.0
  parameters_told stmts.no_parameters f h = h
  parameters_told {found = found} (stmts.last_parameter n e) f h = join P found (n ∷ []) h (f.0, tt)
  parameters_told {found = found} (stmts.next_parameter n e k) f h = parameters_told k f.1.1 (join P found (n ∷ []) h (f.0, tt))

  global_told : (parameters : List (List ℕ)) → Tells (IsGlobal parameters) P
  global_told parameters room ts n (stmts.global m e) f = f.0

  globals_told : {parameters : List (List ℕ)} {room : ℕ} {ts : List Lexeme} {names : List (List ℕ)} → IsGlobalLines parameters room ts names → Fine ts → AllByRecursion P names
  globals_told stmts.no_globals f = tt
  globals_told {parameters = parameters} (stmts.global_line {ns = ns} {ms = ms} {ts = xs} {us = ys} h k) f =
      join P ns ms (separated_told P (global_told parameters) h (front IsFine xs (token.Newline ∷ ys) f.1)) (globals_told k (back IsFine xs (token.Newline ∷ ys) f.1).1)

  abbrev Each : List Stmt → Type 0
  Each ss = AllByRecursion (λ s. Told (in_stmt s)) ss

  one : (s : Stmt) (ms : Mentions) → in_stmt s ≡ ms → Told ms → Each (s ∷ [])
  one s ms is h = (moved (in_stmt s) ms is h, tt)

  branches_told : (bs : List Branch) → AllByRecursion (λ b. Told (in_branch b)) bs → Told (in_order (map in_branch bs))
  branches_told [] h = tt
  branches_told (b ∷ bs) h = both (in_branch b) (in_order (map in_branch bs)) h.0 (branches_told bs h.1)

  handlers_all : (hs : List Handler) → AllByRecursion (λ h. Told (in_handler h)) hs → Told (in_order (map in_handler hs))
  handlers_all [] h = tt
  handlers_all (x ∷ hs) h = both (in_handler x) (in_order (map in_handler hs)) h.0 (handlers_all hs h.1)

  mutual
    stmt_told : {c : Context} {n room : ℕ} {ts : List Lexeme} {x : List Stmt × ℕ} → IsStmt c n room ts x → Fine ts → Each x.0
    stmt_told (stmts.on_line {ts = xs} h) f = line_told h (front IsFine xs (token.Newline ∷ []) f)
    stmt_told (stmts.if_stmt {xs = xs} {ys = ys} {zs = zs} {b = b} {bs = bs} {ss = ss} h k l) f =
        one (tree.If (b ∷ bs) ss) (in_order (map in_branch (b ∷ bs)) ++ in_stmts ss) (stmt_layer (Stmt-F.If (b ∷ bs) ss) (tree.If (b ∷ bs) ss) (rolls-If (b ∷ bs) ss))
        (both (in_order (map in_branch (b ∷ bs))) (in_stmts ss) (branches_told (b ∷ bs) (branch_told h (front IsFine xs (ys ++ zs) f.1), elifs_told k (front IsFine ys zs (back IsFine xs (ys ++ zs) f.1))))
        (run_told ss (else_told l (back IsFine ys zs (back IsFine xs (ys ++ zs) f.1)))))
    stmt_told (stmts.while_stmt {b = b} h) f =
        one (tree.While b.test b.body) (in_branch b) (stmt_layer (Stmt-F.While b.test b.body) (tree.While b.test b.body) (rolls-While b.test b.body) ∙ sym (branch_layer b)) (branch_told h f.1)
    stmt_told (stmts.try_finally {xs = xs} {ys = ys} {ss = ss} {fs = fs} h k) f =
        one (tree.Try ss [] [] fs) (in_stmts ss ++ in_stmts fs) (stmt_layer (Stmt-F.Try ss [] [] fs) (tree.Try ss [] [] fs) (rolls-Try ss [] [] fs))
        (both (in_stmts ss) (in_stmts fs) (run_told ss (block_told h (front IsFine xs (token.Finally ∷ token.Colon ∷ ys) f.1.1))) (run_told fs (block_told k (back IsFine xs (token.Finally ∷ token.Colon ∷ ys) f.1.1).1.1)))
    stmt_told (stmts.try_except {xs = xs} {hs = ts} {ys = ys} {zs = zs} {ss = ss} {es = es} {fs = fs} {handlers = hs} h k l q) f =
        let behind : Fine (ts ++ (ys ++ zs)) = back IsFine xs (ts ++ (ys ++ zs)) f.1.1 in
        let ends : Fine (ys ++ zs) = back IsFine ts (ys ++ zs) behind in
        one (tree.Try ss hs es fs) (in_stmts ss ++ (in_order (map in_handler hs) ++ (in_stmts es ++ in_stmts fs))) (stmt_layer (Stmt-F.Try ss hs es fs) (tree.Try ss hs es fs) (rolls-Try ss hs es fs))
        (both (in_stmts ss) (in_order (map in_handler hs) ++ (in_stmts es ++ in_stmts fs)) (run_told ss (block_told h (front IsFine xs (ts ++ (ys ++ zs)) f.1.1)))
        (both (in_order (map in_handler hs)) (in_stmts es ++ in_stmts fs) (handlers_all hs (handlers_told k (front IsFine ts (ys ++ zs) behind)))
        (both (in_stmts es) (in_stmts fs) (run_told es (else_told l (front IsFine ys zs ends))) (run_told fs (finally_told q (back IsFine ys zs ends))))))
    stmt_told (stmts.def_stmt {n = n} {ts = xs} {us = ys} {parameters = parameters} {b = b} name e h k) f =
        let function : FuncDef = record { number = n; name = name; parameters = parameters; globals = b.globals; body = b.stmts } in
        let rest : Fine (xs ++ token.CloseParen ∷ token.Colon ∷ ys) = f.1.1.1 in
        let body = body_told k (back IsFine xs (token.CloseParen ∷ token.Colon ∷ ys) rest).1.1 in
        one (tree.Def function) (Named name ∷ (each_named parameters ++ (each_named b.globals ++ in_stmts b.stmts)))
        (stmt_layer (Stmt-F.Def function) (tree.Def function) (rolls-Def function) ∙ function_layer function) (
          f.1.0,
          both (each_named parameters) (each_named b.globals ++ in_stmts b.stmts) (each_told parameters (parameters_told h (front IsFine xs (token.CloseParen ∷ token.Colon ∷ ys) rest) tt))
              (both (each_named b.globals) (in_stmts b.stmts) (each_told b.globals body.0) (run_told b.stmts body.1)),
        )

    stmts_told : {c : Context} {n room : ℕ} {ts : List Lexeme} {x : List Stmt × ℕ} → IsStmts c n room ts x → Fine ts → Each x.0
    stmts_told (stmts.last_stmt h) f = stmt_told h f
    stmts_told (stmts.more_stmts {xs = xs} {ys = ys} {ss = ss} {rs = rs} h k) f = join (λ s. Told (in_stmt s)) ss rs (stmt_told h (front IsFine xs ys f)) (stmts_told k (back IsFine xs ys f))

    block_told : {c : Context} {n room : ℕ} {ts : List Lexeme} {x : List Stmt × ℕ} → IsBlock c n room ts x → Fine ts → Each x.0
    block_told (stmts.line_block {ts = xs} h) f = line_told h (front IsFine xs (token.Newline ∷ []) f)
    block_told (stmts.indented {ts = xs} h) f = stmts_told h (front IsFine xs (token.Dedent ∷ []) f.1.1)

    branch_told : {c : Context} {n room : ℕ} {ts : List Lexeme} {x : Branch × ℕ} → IsBranch c n room ts x → Fine ts → Told (in_branch x.0)
    branch_told (stmts.branch {xs = xs} {ys = ys} {e = e} {ss = ss} h k) f =
        moved _ (in_expr e.tree ++ in_stmts ss) (branch_layer (record { test = e.tree; body = ss }))
        (both (in_expr e.tree) (in_stmts ss) (chain_told h (front IsFine xs (token.Colon ∷ ys) f)) (run_told ss (block_told k (back IsFine xs (token.Colon ∷ ys) f).1)))

    elifs_told : {c : Context} {n room : ℕ} {ts : List Lexeme} {x : List Branch × ℕ} → IsElifs c n room ts x → Fine ts → AllByRecursion (λ b. Told (in_branch b)) x.0
    elifs_told stmts.no_elif f = tt
    elifs_told (stmts.elif {xs = xs} {ys = ys} h k) f = (branch_told h (front IsFine xs ys f.1), elifs_told k (back IsFine xs ys f.1))

    else_told : {c : Context} {n room : ℕ} {ts : List Lexeme} {x : List Stmt × ℕ} → IsElse c n room ts x → Fine ts → Each x.0
    else_told stmts.no_else f = tt
    else_told (stmts.else_block h) f = block_told h f.1.1

    finally_told : {c : Context} {n room : ℕ} {ts : List Lexeme} {x : List Stmt × ℕ} → IsFinally c n room ts x → Fine ts → Each x.0
    finally_told stmts.no_finally f = tt
    finally_told (stmts.finally_block h) f = block_told h f.1.1

    handler_told : {c : Context} {n room : ℕ} {ts : List Lexeme} {x : Handler × ℕ} → IsHandler c n room ts x → Fine ts → Told (in_handler x.0)
    handler_told (stmts.handler {xs = xs} {ys = ys} {zs = zs} {e = e} {as_name = as_name} {ss = ss} h k q) f =
        let behind : Fine (ys ++ token.Colon ∷ zs) = back IsFine xs (ys ++ token.Colon ∷ zs) f.1 in
        moved _ (in_expr e.tree ++ (optional_name as_name ++ in_stmts ss)) (handler_layer (record { kinds = Some e.tree; bound = as_name; body = ss }))
        (both (in_expr e.tree) (optional_name as_name ++ in_stmts ss) (chain_told h (front IsFine xs (ys ++ token.Colon ∷ zs) f.1))
        (both (optional_name as_name) (in_stmts ss) (bound_told k (front IsFine ys (token.Colon ∷ zs) behind)) (run_told ss (block_told q (back IsFine ys (token.Colon ∷ zs) behind).1))))

    handlers_told : {c : Context} {n room : ℕ} {ts : List Lexeme} {x : List Handler × ℕ} → IsHandlers c n room ts x → Fine ts → AllByRecursion (λ h. Told (in_handler h)) x.0
    handlers_told (stmts.last_handler h) f = (handler_told h f, tt)
    handlers_told (stmts.takes_all {ss = ss} h) f = (moved _ (in_stmts ss) (handler_layer (record { kinds = None; bound = None; body = ss })) (run_told ss (block_told h f.1.1)), tt)
    handlers_told (stmts.more_handlers {xs = xs} {ys = ys} h k) f = (handler_told h (front IsFine xs ys f), handlers_told k (back IsFine xs ys f))

    body_told : {parameters : List (List ℕ)} {n room : ℕ} {ts : List Lexeme} {x : Body × ℕ} → IsBody parameters n room ts x → Fine ts → AllByRecursion P x.0.globals × Each x.0.stmts
    body_told (stmts.line_body {ts = xs} h) f = (tt, line_told h (front IsFine xs (token.Newline ∷ []) f))
    body_told (stmts.indented_body {xs = xs} {ys = ys} h k) f =
        let behind : Fine (ys ++ token.Dedent ∷ []) = back IsFine xs (ys ++ token.Dedent ∷ []) f.1.1 in
        (globals_told h (front IsFine xs (ys ++ token.Dedent ∷ []) f.1.1), stmts_told k (front IsFine ys (token.Dedent ∷ []) behind))

  pub script_told : (room : ℕ) (ts : List Lexeme) (s : Script) → Spells room ts s → Fine ts → Told (mentions s)
  script_told room ts s grammar.no_statements f = tt
  script_told room ts s (grammar.statements {ts = xs} {ss = ss} h) f = run_told ss (stmts_told h (front IsFine xs (token.End ∷ []) f))
