-- What is printed of a simple statement is a row with a line end.
use Rattle.std.proofs.Common.{◌≡◌, ◌∙◌, refl, sym, ap, subst, ℕ, zero, suc, ◌<◌, Bool, true, List, [], ◌∷◌, ◌++◌, length, map, Some, None, append_assoc, length-append, arith}
use Rattle.source_combinators.specs.Separated.{IsSeparated, one, more, IsListed, single, sep_last, several}
use Rattle.py_syntax.specs.declared.lexeme.Lexeme.{Lexeme}
use Rattle.py_syntax.specs.declared.lexeme.Lexeme.TheVariants as token
use Rattle.py_syntax.specs.declared.expr.BinaryOp.{BinaryOp}
use Rattle.py_syntax.specs.declared.expr.BinaryOp.TheVariants as op
use Rattle.py_syntax.specs.declared.expr.Spelled.{Spelled}
use Rattle.py_syntax.specs.declared.stmt.Alias.{Alias}
use Rattle.py_syntax.specs.declared.stmt.ImportedNames.{ImportedNames}
use Rattle.py_syntax.specs.declared.stmt.Stmt.{Stmt, roll-Stmt}
use Rattle.py_syntax.specs.declared.stmt.Stmt.TheVariants as tree
use Rattle.py_syntax.specs.declared.stmt.Stmt.TheVariants.{rolls-Evaluate, rolls-Assign, rolls-Augment, rolls-Delete, rolls-Pass, rolls-Break, rolls-Continue, rolls-Return, rolls-Raise, rolls-Import, rolls-From}
use Rattle.py_syntax.specs.declared.stmt.Stmt.TheOpen.{Stmt-F}
use Rattle.py_syntax.specs.declared.context.Context.{Context}
use Rattle.py_syntax.specs.Expressions.{IsExpr}
use Rattle.py_syntax.specs.Simple as grammar
use Rattle.py_syntax.specs.Simple.{IsName, IsDotted, IsBound, IsAlias, IsSource, IsItem, IsNames, IsSimple, IsLine}
use Rattle.source_spec_lines.proofs.ExpressionFamilies.{some_chain}
use Rattle.source_print.specs.Expressions.{expr_tokens}
use Rattle.source_print.specs.Statements.{name_tokens, names_with, bound_tokens, alias_tokens, aliases, imported, dots, augmented, on_line, stmt_tokens}
use Rattle.source_print.proofs.Expressions.{expr_printed}
use Rattle.source_print.proofs.Simple.{Layer, printed_layer, stmt_layer}
use Rattle.source_print.specs.Lines as line
use Rattle.source_print.specs.Lines.{Held, IsPlain, Row, Laid, Lined, is_fixed}
use Rattle.source_print.proofs.LaidRows.{held_front, held_back, row_behind, sign_row, Rows, separated_row}
use Rattle.source_print.proofs.LaidExpressions.{chain_row, primary_row}

some_expr : {room : ℕ} {ts : List Lexeme} {e : Spelled} → IsExpr room ts e → 0 < length (expr_tokens e.tree)
some_expr h = some_chain (expr_printed h).1

abbrev RowOf : (Lexeme → Type 0) → {A : Type 0} → (ℕ → List Lexeme → A → Type 0) → (A → List Lexeme) → Type 0
RowOf P {A = A} Is print = (room : ℕ) (ts : List Lexeme) (a : A) → Is room ts a → Held P ts → Row P (print a)

-- behind the statement lexemes go on
abbrev pub Placed : (Lexeme → Type 0) → Stmt → Type 0
Placed P s = (depth : ℕ) (rest : List Lexeme) → Laid P depth rest → Lined P depth (stmt_tokens s ++ rest)

module _ (P : Lexeme → Type 0) where
  -- ---- items with separators

  rows_of : {A : Type 0} {sep : Lexeme} {Is : ℕ → List Lexeme → A → Type 0} (print : A → List Lexeme) → RowOf P Is print → (room : ℕ) (ts : List Lexeme) (found : List A) → IsSeparated sep Is room ts found → Held P ts → Rows P (map print found)
  rows_of print each room ts found (one {ts = us} {a = a} h) p = (each room us a h p, tt)
  rows_of {sep = sep} print each room ts found (more {xs = xs} {ys = ys} {a = a} {found = behind} h k) p = (each room xs a h (held_front P xs (sep ∷ ys) p), rows_of print each room ys behind k (held_back P xs (sep ∷ ys) p).1)

  listed_rows : {A : Type 0} {sep : Lexeme} {Is : ℕ → List Lexeme → A → Type 0} (print : A → List Lexeme) → RowOf P Is print → (room : ℕ) (ts : List Lexeme) (s : List A × Bool) → IsListed sep Is room ts s → Held P ts → Rows P (map print s.0)
  listed_rows print each room ts s (single {ts = us} {a = a} h) p = (each room us a h p, tt)
  listed_rows {sep = sep} print each room ts s (sep_last {ts = us} {a = a} h) p = (each room us a h (held_front P us (sep ∷ []) p), tt)
  listed_rows {sep = sep} print each room ts s (several {xs = xs} {ys = ys} {a = a} {found = behind} {b = b} h k) p = (each room xs a h (held_front P xs (sep ∷ ys) p), listed_rows print each room ys (behind, b) k (held_back P xs (sep ∷ ys) p).1)

  -- ---- names

  name_row : RowOf P IsName name_tokens
  name_row room ts n (grammar.name m) p = line.plain (line.name p.0) line.nothing

  dotted_row : (room : ℕ) (ts : List Lexeme) (ns : List (List ℕ)) → IsDotted room ts ns → Held P ts → Row P (names_with token.Dot ns)
  unfolding is_fixed
  dotted_row room ts ns h p = separated_row token.Dot refl (map name_tokens ns) (rows_of name_tokens name_row room ts ns h p)

  pub bound_row : RowOf P IsBound bound_tokens
  unfolding is_fixed
  bound_row room ts b grammar.own_name p = line.nothing
  bound_row room ts b (grammar.bound n) p = sign_row token.As refl (line.plain (line.name p.1.0) line.nothing)

  alias_row : RowOf P IsAlias alias_tokens
  alias_row room ts a (grammar.alias {xs = xs} {ys = ys} {ns = ns} {as_name = as_name} h k) p = row_behind (dotted_row room xs ns h (held_front P xs ys p)) (bound_row room ys as_name k (held_back P xs ys p))

  item_row : RowOf P IsItem alias_tokens
  item_row room ts a (grammar.item {ts = us} {as_name = as_name} n k) p = line.plain (line.name p.0) (bound_row room us as_name k p.1)

  aliases_row : (items : List Alias) → Rows P (map alias_tokens items) → Row P (aliases items)
  unfolding is_fixed
  aliases_row items h = separated_row token.Comma refl (map alias_tokens items) h

  dots_row : (n : ℕ) → Row P (dots n)
  unfolding is_fixed
  dots_row zero = line.nothing
  dots_row (suc n) = sign_row token.Dot refl (dots_row n)

  source_row : (room : ℕ) (ts : List Lexeme) (s : ℕ × List (List ℕ)) → IsSource room ts s → Held P ts → Row P (dots s.0 ++ names_with token.Dot s.1)
  source_row room ts s (grammar.named {ts = xs} {us = ys} {n = n} {ns = ns} h k) p = row_behind (dots_row n) (dotted_row room ys ns k (held_back P xs ys p))
  source_row room ts s (grammar.only_dots {n = n} h l) p = row_behind (dots_row n) line.nothing

  imported_row : (c : Context) (room : ℕ) (ts : List Lexeme) (names : ImportedNames) → IsNames c room ts names → Held P ts → Row P (imported names)
  unfolding is_fixed
  imported_row c room ts names (grammar.all_names h) p = sign_row token.Star refl line.nothing
  imported_row c room ts names (grammar.plain {items = items} h) p = aliases_row items (rows_of alias_tokens item_row room ts items h p)
  imported_row c room ts names (grammar.in_parens {room = less} {ts = us} {items = items} {comma = comma} h) p = aliases_row items (listed_rows alias_tokens item_row less us (items, comma) h (held_front P us (token.CloseParen ∷ []) p.1))

  -- ---- lines

  placed_line : (d : Layer) (s : Stmt) (row : List Lexeme) → roll-Stmt d ≡ s → printed_layer d ≡ on_line row → Row P row → 0 < length row → Placed P s
  placed_line d s row rolls is r some depth rest l =
      subst (Lined P depth) (sym (ap (λ ts. ts ++ rest) (stmt_layer d s rolls ∙ is) ∙ append_assoc row (token.Newline ∷ []) rest)) (line.line r some l)

  augmented_fixed : (o : BinaryOp) → is_fixed (augmented o) ≡ true
  unfolding is_fixed
  augmented_fixed op.Add = refl
  augmented_fixed op.Sub = refl
  augmented_fixed op.Mul = refl
  augmented_fixed op.FloorDiv = refl
  augmented_fixed op.Mod = refl

  pub placed_simple : {c : Context} {room : ℕ} {ts : List Lexeme} {s : Stmt} → IsSimple c room ts s → Held P ts → Placed P s
  unfolding is_fixed
  placed_simple (grammar.evaluate {e = e} h) p = placed_line (Stmt-F.Evaluate e.tree) (tree.Evaluate e.tree) (expr_tokens e.tree) (rolls-Evaluate e.tree) refl (chain_row P h p) (some_expr h)
  placed_simple (grammar.assign {ts = ts} {us = us} {e = e} {x = x} h t k) p =
      placed_line (Stmt-F.Assign e.tree x.tree) (tree.Assign e.tree x.tree) (expr_tokens e.tree ++ token.Assign ∷ expr_tokens x.tree) (rolls-Assign e.tree x.tree) refl
      (row_behind (primary_row P h (held_front P ts (token.Assign ∷ us) p)) (sign_row token.Assign refl (chain_row P k (held_back P ts (token.Assign ∷ us) p).1)))
      (omega (arith, length-append (expr_tokens e.tree) (token.Assign ∷ expr_tokens x.tree)))
  placed_simple (grammar.augment {o = o} {x = x} n a h) p =
      placed_line (Stmt-F.Augment n o x.tree) (tree.Augment n o x.tree) (token.Name n ∷ augmented o ∷ expr_tokens x.tree) (rolls-Augment n o x.tree) refl
      (line.plain (line.name p.0) (sign_row (augmented o) (augmented_fixed o) (chain_row P h p.1.1))) (omega arith)
  placed_simple (grammar.delete {e = e} h t) p = placed_line (Stmt-F.Delete e.tree) (tree.Delete e.tree) (token.Del ∷ expr_tokens e.tree) (rolls-Delete e.tree) refl (sign_row token.Del refl (primary_row P h p.1)) (omega arith)
  placed_simple grammar.pass p = placed_line Stmt-F.Pass tree.Pass (token.Pass ∷ []) rolls-Pass refl (sign_row token.Pass refl line.nothing) (omega arith)
  placed_simple (grammar.break h) p = placed_line Stmt-F.Break tree.Break (token.Break ∷ []) rolls-Break refl (sign_row token.Break refl line.nothing) (omega arith)
  placed_simple (grammar.continue h) p = placed_line Stmt-F.Continue tree.Continue (token.Continue ∷ []) rolls-Continue refl (sign_row token.Continue refl line.nothing) (omega arith)
  placed_simple (grammar.return_none h k) p = placed_line (Stmt-F.Return None) (tree.Return None) (token.Return ∷ []) (rolls-Return None) refl (sign_row token.Return refl line.nothing) (omega arith)
  placed_simple (grammar.return_value {e = e} h k q) p = placed_line (Stmt-F.Return (Some e.tree)) (tree.Return (Some e.tree)) (token.Return ∷ expr_tokens e.tree) (rolls-Return (Some e.tree)) refl (sign_row token.Return refl (chain_row P q p.1)) (omega arith)
  placed_simple grammar.raise_again p = placed_line (Stmt-F.Raise None) (tree.Raise None) (token.Raise ∷ []) (rolls-Raise None) refl (sign_row token.Raise refl line.nothing) (omega arith)
  placed_simple (grammar.raise {e = e} h) p = placed_line (Stmt-F.Raise (Some e.tree)) (tree.Raise (Some e.tree)) (token.Raise ∷ expr_tokens e.tree) (rolls-Raise (Some e.tree)) refl (sign_row token.Raise refl (chain_row P h p.1)) (omega arith)
  placed_simple {room = room} (grammar.import_modules {ts = ts} {aliases = items} h) p =
      placed_line (Stmt-F.Import items) (tree.Import items) (token.Import ∷ aliases items) (rolls-Import items) refl (sign_row token.Import refl (aliases_row items (rows_of alias_tokens alias_row room ts items h p.1))) (omega arith)
  placed_simple {c = c} {room = room} (grammar.import_from {ts = ts} {us = us} {dots = count} {ns = ns} {names = names} h k) p =
      placed_line (Stmt-F.From count ns names) (tree.From count ns names) (token.From ∷ ((dots count ++ names_with token.Dot ns) ++ token.Import ∷ imported names)) (rolls-From count ns names) refl
      (sign_row token.From refl (row_behind (source_row room ts (count, ns) h (held_front P ts (token.Import ∷ us) p.1)) (sign_row token.Import refl (imported_row c room us names k (held_back P ts (token.Import ∷ us) p.1).1)))) (omega arith)
