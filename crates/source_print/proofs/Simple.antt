-- What is printed of a simple statement spells it.
use Rattle.std.proofs.Common.{◌≡◌, ◌∙◌, refl, sym, ap, subst, ℕ, zero, suc, ◌+◌, Bool, List, [], ◌∷◌, ◌++◌, map, flat_map, Some, None, append-nil, arith}
use Rattle.source_combinators.specs.Separated.{IsSeparated, one, more, IsListed, single, sep_last, several}
use Rattle.py_syntax.specs.declared.lexeme.Lexeme.{Lexeme}
use Rattle.py_syntax.specs.declared.lexeme.Lexeme.TheVariants as token
use Rattle.py_syntax.specs.declared.expr.BinaryOp.{BinaryOp}
use Rattle.py_syntax.specs.declared.stmt.Branch.{Branch}
use Rattle.py_syntax.specs.declared.stmt.FuncDef.{FuncDef}
use Rattle.py_syntax.specs.declared.stmt.Handler.{Handler}
use Rattle.py_syntax.specs.declared.stmt.Stmt.{Stmt, roll-Stmt, map-Stmt}
use Rattle.py_syntax.specs.declared.stmt.Stmt.TheVariants as tree
use Rattle.py_syntax.specs.declared.stmt.Stmt.TheVariants.{rolls-Evaluate, rolls-Assign, rolls-Augment, rolls-Delete, rolls-Pass, rolls-Break, rolls-Continue, rolls-Return, rolls-Raise, rolls-Import, rolls-From}
use Rattle.py_syntax.specs.declared.stmt.Stmt.TheOpen.{Stmt-F}
use Rattle.py_syntax.specs.declared.stmt.Stmt.TheFolds.{fold-roll-Stmt}
use Rattle.py_syntax.specs.declared.context.Context.{Context}
use Rattle.py_syntax.specs.Simple as grammar
use Rattle.py_syntax.specs.Simple.{IsAugmented, IsName, IsDotted, IsBound, IsAlias, IsDots, IsSource, IsItem, IsNames, IsSimple, IsLine}
use Rattle.py_syntax.specs.Statements as statement
use Rattle.py_syntax.specs.Statements.{IsStmt}
use Rattle.source_spec_lines.proofs.LineFamilies.{grows_separated, grows_item}
use Rattle.source_print.specs.Expressions.{separated, expr_tokens}
use Rattle.source_print.specs.Statements.{name_tokens, names_with, bound_tokens, alias_tokens, aliases, imported, dots, augmented, on_line, stmt_at, branch_at, handler_at, function_at, stmt_tokens, branch_tokens, function_tokens, handler_tokens}
use Rattle.source_print.proofs.Expressions.{expr_printed, target_printed}

-- ---- items with separators

-- each form is spelled by what is printed of it
abbrev pub IsPrinted : {A : Type 0} → (ℕ → List Lexeme → A → Type 0) → (A → List Lexeme) → Type 0
IsPrinted {A = A} Is print = (room : ℕ) (ts : List Lexeme) (a : A) → Is room ts a → Is room (print a) a

-- items behind others, with a separator before each
pub others_printed : {A : Type 0} {sep : Lexeme} {Is : ℕ → List Lexeme → A → Type 0} {room : ℕ} {ts : List Lexeme} {found : List A} (print : A → List Lexeme) → IsSeparated sep Is room ts found
    → sep ∷ separated sep (map print found) ≡ flat_map (λ us. sep ∷ us) (map print found)
others_printed print (one h) = refl
others_printed print (more h k) = refl

pub separated_printed : {A : Type 0} {sep : Lexeme} {Is : ℕ → List Lexeme → A → Type 0} (print : A → List Lexeme) → IsPrinted Is print
    → (room : ℕ) (ts : List Lexeme) (found : List A) → IsSeparated sep Is room ts found → IsSeparated sep Is room (separated sep (map print found)) found
separated_printed {sep = sep} {Is = Is} print each room ts found (one {ts = us} {a = a} h) = subst (λ xs. IsSeparated sep Is room xs (a ∷ [])) (sym (append-nil (print a))) (one (each room us a h))
separated_printed {sep = sep} {Is = Is} print each room ts found (more {xs = xs} {ys = ys} {a = a} {found = behind} h k) =
    subst (λ zs. IsSeparated sep Is room (print a ++ zs) (a ∷ behind)) (others_printed print k) (more (each room xs a h) (separated_printed print each room ys behind k))

-- without the separator that may stand last
pub without_last : {A : Type 0} {sep : Lexeme} {Is : ℕ → List Lexeme → A → Type 0} {room : ℕ} {ts : List Lexeme} {s : List A × Bool} → IsListed sep Is room ts s → (us : List Lexeme) × IsSeparated sep Is room us s.0
without_last (single {ts = ts} h) = (ts, one h)
without_last (sep_last {ts = ts} h) = (ts, one h)
without_last {sep = sep} (several {xs = xs} h k) = (xs ++ sep ∷ (without_last k).0, more h (without_last k).1)

-- ---- names

name_printed : IsPrinted IsName name_tokens
name_printed room ts n (grammar.name m) = grammar.name m

pub bound_printed : IsPrinted IsBound bound_tokens
bound_printed room ts b grammar.own_name = grammar.own_name
bound_printed room ts b (grammar.bound n) = grammar.bound n

dotted_printed : (room : ℕ) (ts : List Lexeme) (ns : List (List ℕ)) → IsDotted room ts ns → IsDotted room (names_with token.Dot ns) ns
dotted_printed room ts ns h = separated_printed name_tokens name_printed room ts ns h

alias_printed : IsPrinted IsAlias alias_tokens
alias_printed room ts a (grammar.alias {xs = xs} {ys = ys} {ns = ns} {as_name = as_name} h k) = grammar.alias (dotted_printed room xs ns h) (bound_printed room ys as_name k)

item_printed : IsPrinted IsItem alias_tokens
item_printed room ts a (grammar.item {ts = us} {as_name = as_name} n k) = grammar.item n (bound_printed room us as_name k)

dots_printed : (room n : ℕ) → IsDots room (dots n) n
dots_printed room zero = grammar.no_dots
dots_printed room (suc n) =
    let next : n + 1 ≡ suc n = omega arith in
    subst (λ k. IsDots room (token.Dot ∷ dots n) k) next (grammar.dot (dots_printed room n))

source_printed : (room : ℕ) (ts : List Lexeme) (s : ℕ × List (List ℕ)) → IsSource room ts s → IsSource room (dots s.0 ++ names_with token.Dot s.1) s
source_printed room ts s (grammar.named {us = us} {n = n} {ns = ns} h k) = grammar.named (dots_printed room n) (dotted_printed room us ns k)
source_printed room ts s (grammar.only_dots {n = n} h l) = subst (λ us. IsSource room us (n, [])) (sym (append-nil (dots n))) (grammar.only_dots (dots_printed room n) l)

names_printed : (c : Context) → IsPrinted (IsNames c) imported
names_printed c room ts names (grammar.all_names h) = grammar.all_names h
names_printed c room ts names (grammar.plain {items = items} h) = grammar.plain (separated_printed alias_tokens item_printed room ts items h)
names_printed c room ts names (grammar.in_parens {room = less} {ts = us} {items = items} h) =
    let listed = without_last h in
    grammar.plain (grows_separated grows_item less (aliases items) items (separated_printed alias_tokens item_printed less listed.0 items listed.1))

-- ---- statements

augmented_is : {t : Lexeme} {o : BinaryOp} → IsAugmented t o → augmented o ≡ t
augmented_is grammar.add = refl
augmented_is grammar.subtract = refl
augmented_is grammar.multiply = refl
augmented_is grammar.divide = refl
augmented_is grammar.modulo = refl

abbrev pub Layer : Type 0
Layer = Stmt-F Stmt Branch FuncDef Handler

abbrev pub printed_layer : Layer → List Lexeme
printed_layer d = stmt_at (map-Stmt Stmt Branch FuncDef Handler (List Lexeme) (List Lexeme) (List Lexeme) (List Lexeme) stmt_tokens branch_tokens function_tokens handler_tokens d)

-- what is printed of one layer
pub stmt_layer : (d : Layer) (s : Stmt) → roll-Stmt d ≡ s → stmt_tokens s ≡ printed_layer d
stmt_layer d s is = ap stmt_tokens (sym is) ∙ fold-roll-Stmt (List Lexeme) (List Lexeme) (List Lexeme) (List Lexeme) stmt_at branch_at function_at handler_at d

as_line : {c : Context} {room : ℕ} (n : ℕ) (d : Layer) (s : Stmt) (ts : List Lexeme) → roll-Stmt d ≡ s → printed_layer d ≡ on_line ts → IsSimple c room ts s → IsStmt c n room (stmt_tokens s) (s ∷ [], n)
as_line {c = c} {room = room} n d s ts rolls is h = subst (λ us. IsStmt c n room us (s ∷ [], n)) (sym (stmt_layer d s rolls ∙ is)) (statement.on_line (grammar.line (single h)))

pub simple_printed : {c : Context} {room : ℕ} {ts : List Lexeme} {s : Stmt} (n : ℕ) → IsSimple c room ts s → IsStmt c n room (stmt_tokens s) (s ∷ [], n)
simple_printed n (grammar.evaluate {e = e} h) = as_line n (Stmt-F.Evaluate e.tree) (tree.Evaluate e.tree) (expr_tokens e.tree) (rolls-Evaluate e.tree) refl (grammar.evaluate (expr_printed h).1)
simple_printed n (grammar.assign {e = e} {x = x} h t k) =
    as_line n (Stmt-F.Assign e.tree x.tree) (tree.Assign e.tree x.tree) (expr_tokens e.tree ++ token.Assign ∷ expr_tokens x.tree) (rolls-Assign e.tree x.tree) refl (grammar.assign (target_printed h t) refl (expr_printed k).1)
simple_printed {c = c} {room = room} n (grammar.augment {t = t} {o = o} {x = x} m a h) =
    as_line n (Stmt-F.Augment m o x.tree) (tree.Augment m o x.tree) (token.Name m ∷ augmented o ∷ expr_tokens x.tree) (rolls-Augment m o x.tree) refl
    (subst (λ u. IsSimple c room (token.Name m ∷ u ∷ expr_tokens x.tree) (tree.Augment m o x.tree)) (sym (augmented_is a)) (grammar.augment m a (expr_printed h).1))
simple_printed n (grammar.delete {e = e} h t) = as_line n (Stmt-F.Delete e.tree) (tree.Delete e.tree) (token.Del ∷ expr_tokens e.tree) (rolls-Delete e.tree) refl (grammar.delete (target_printed h t) refl)
simple_printed n grammar.pass = as_line n Stmt-F.Pass tree.Pass (token.Pass ∷ []) rolls-Pass refl grammar.pass
simple_printed n (grammar.break h) = as_line n Stmt-F.Break tree.Break (token.Break ∷ []) rolls-Break refl (grammar.break h)
simple_printed n (grammar.continue h) = as_line n Stmt-F.Continue tree.Continue (token.Continue ∷ []) rolls-Continue refl (grammar.continue h)
simple_printed n (grammar.return_none h k) = as_line n (Stmt-F.Return None) (tree.Return None) (token.Return ∷ []) (rolls-Return None) refl (grammar.return_none h k)
simple_printed n (grammar.return_value {e = e} h k q) = as_line n (Stmt-F.Return (Some e.tree)) (tree.Return (Some e.tree)) (token.Return ∷ expr_tokens e.tree) (rolls-Return (Some e.tree)) refl (grammar.return_value h k (expr_printed q).1)
simple_printed n grammar.raise_again = as_line n (Stmt-F.Raise None) (tree.Raise None) (token.Raise ∷ []) (rolls-Raise None) refl grammar.raise_again
simple_printed n (grammar.raise {e = e} h) = as_line n (Stmt-F.Raise (Some e.tree)) (tree.Raise (Some e.tree)) (token.Raise ∷ expr_tokens e.tree) (rolls-Raise (Some e.tree)) refl (grammar.raise (expr_printed h).1)
simple_printed {room = room} n (grammar.import_modules {ts = ts} {aliases = items} h) =
    as_line n (Stmt-F.Import items) (tree.Import items) (token.Import ∷ aliases items) (rolls-Import items) refl (grammar.import_modules (separated_printed alias_tokens alias_printed room ts items h))
simple_printed {c = c} {room = room} n (grammar.import_from {ts = ts} {us = us} {dots = count} {ns = ns} {names = names} h k) =
    as_line n (Stmt-F.From count ns names) (tree.From count ns names) (token.From ∷ ((dots count ++ names_with token.Dot ns) ++ token.Import ∷ imported names)) (rolls-From count ns names) refl
    (grammar.import_from (source_printed room ts (count, ns) h) (names_printed c room us names k))
