-- Each simple statement that is spelled is read, before the end of a line or a semicolon.
use Rattle.std.proofs.Common.{◌≡◌, ℕ, zero, suc, ◌+◌, ◌<◌, ◌&&◌, not, Bool, true, false, List, [], ◌∷◌, ◌++◌, length, Option, Some, None, Result, Ok, Err, refl, sym, ap, subst, ◌∙◌, append_assoc, append-nil, arith, length-append}
use Rattle.std.specs.Prelude.{if◌then◌else◌}
use Rattle.source_combinators.specs.Reading.{Read, ◌>>=◌, given, refused, head_of}
use Rattle.source_combinators.specs.Many.{rounds}
use Rattle.source_combinators.specs.Separated.{separated, listed, next_item, IsSeparated, one, more, IsListed}
use Rattle.source_combinators.proofs.Many.{Shrinks, shrinks, stopped, round_read}
use Rattle.source_combinators.proofs.Forms.{Grows, AllRight}
use Rattle.source_combinators.proofs.Separated.{separated_rounds, complete_separated}
use Rattle.source_combinators.proofs.Listed.{listed_rounds, complete_listed}
use Rattle.py_syntax.specs.declared.lexeme.Lexeme.{Lexeme}
use Rattle.py_syntax.specs.declared.lexeme.Lexeme.TheVariants as token
use Rattle.py_syntax.specs.declared.expr.Expr.{Expr}
use Rattle.py_syntax.specs.declared.expr.Expr.TheVariants as exprs
use Rattle.py_syntax.specs.declared.expr.BinaryOp.{BinaryOp}
use Rattle.py_syntax.specs.declared.expr.BinaryOp.TheVariants as op
use Rattle.py_syntax.specs.declared.expr.Spelled.{Spelled}
use Rattle.py_syntax.specs.declared.stmt.Alias.{Alias}
use Rattle.py_syntax.specs.declared.stmt.ImportedNames.{ImportedNames}
use Rattle.py_syntax.specs.declared.stmt.ImportedNames.TheVariants.{All, Listed}
use Rattle.py_syntax.specs.declared.stmt.Stmt.{Stmt}
use Rattle.py_syntax.specs.declared.stmt.Stmt.TheVariants as tree
use Rattle.py_syntax.specs.declared.context.Context.{Context}
use Rattle.py_syntax.specs.Expressions as expressions
use Rattle.py_syntax.specs.Expressions.{target, IsExpr, IsPrimary}
use Rattle.py_syntax.specs.Simple as grammar
use Rattle.py_syntax.specs.Simple.{IsAugmented, IsName, IsDotted, IsBound, IsAlias, IsDots, IsSource, IsItem, IsNames, IsSimple, IsLine}
use Rattle.source_spec_lines.specs.Expressions.{starts, strength, comma, close_paren, primary, inner_of, expr, name_of, form, Whole}
use Rattle.source_spec_lines.proofs.ExpressionFamilies.{chain_starts}
use Rattle.source_spec_lines.proofs.ExpressionComplete.{complete_expr, full_primary}
use Rattle.source_spec_lines.proofs.Targets.{expr_of, name_of_name}
use Rattle.source_spec_lines.specs.Lines.{name, dot_ahead, comma_ahead, name_ahead, dotted, bound, alias, item, imported, dots_ahead, more_dots, dots, with_dots, parts_after, source, import_word, names_in_parens, plain_names, names, source_import, imported_from, bare_by, bare, augmented_by, assigned_by, after_expr, expr_first, deleted_by, deleted, some_value, value, returned, raised, may_return, simple, semicolon, goes_on, line}
use Rattle.source_spec_lines.proofs.LineFamilies.{grows_separated, grows_name, grows_alias, grows_item, grows_simple, some_simple, some_item}
use Rattle.source_spec_lines.proofs.LineRight.{right_name, right_alias, right_item, right_simple, right_semicolon, right_comma_optional, dots_rounds, is_dot, no_dot, is_comma, no_comma_ahead}

-- ---- what may follow

-- the end of a line, or a semicolon
pub data IsLineEnd : List Lexeme → Type 0 where
  at_newline : (ts : List Lexeme) → IsLineEnd (token.Newline ∷ ts)
  at_semicolon : (ts : List Lexeme) → IsLineEnd (token.Semicolon ∷ ts)

-- what follows goes on neither with a dotted name nor with its new name, and does not begin a name
pub record EndsNames (ts : List Lexeme) : Type 0 where
  pub no_dot_ahead : dot_ahead (head_of ts) ≡ false
  pub no_as : bound ts ≡ given None ts

-- nor is it a comma
pub record EndsLists (ts : List Lexeme) : Type 0 where
  pub names_end : EndsNames ts
  pub no_comma : comma_ahead (head_of ts) ≡ false

line_ends_lists : {ts : List Lexeme} → IsLineEnd ts → EndsLists ts
unfolding dot_ahead bound comma_ahead
line_ends_lists (at_newline ts) = record { names_end = record { no_dot_ahead = refl; no_as = refl }; no_comma = refl }
line_ends_lists (at_semicolon ts) = record { names_end = record { no_dot_ahead = refl; no_as = refl }; no_comma = refl }

comma_ends_names : (ts : List Lexeme) → EndsNames (token.Comma ∷ ts)
unfolding dot_ahead bound
comma_ends_names ts = record { no_dot_ahead = refl; no_as = refl }

import_ends_names : (ts : List Lexeme) → EndsNames (token.Import ∷ ts)
unfolding dot_ahead bound
import_ends_names ts = record { no_dot_ahead = refl; no_as = refl }

close_ends_names : (ts : List Lexeme) → EndsNames (token.CloseParen ∷ ts)
unfolding dot_ahead bound
close_ends_names ts = record { no_dot_ahead = refl; no_as = refl }

line_strength : {ts : List Lexeme} → IsLineEnd ts → strength (head_of ts) ≡ 0
unfolding strength
line_strength (at_newline ts) = refl
line_strength (at_semicolon ts) = refl

line_starts : {ts : List Lexeme} → IsLineEnd ts → starts (head_of ts) ≡ false
unfolding starts
line_starts (at_newline ts) = refl
line_starts (at_semicolon ts) = refl

line_after : {ts : List Lexeme} → IsLineEnd ts → (room : ℕ) (e : Spelled) → after_expr room e ts ≡ given (tree.Evaluate e.tree) ts
unfolding after_expr
line_after (at_newline ts) room e = refl
line_after (at_semicolon ts) room e = refl

-- ---- names

name_read : (ts : List Lexeme) (n : List ℕ) (room : ℕ) (rest : List Lexeme) → IsName room ts n → name (ts ++ rest) ≡ given n rest
unfolding name
name_read ts n room rest (grammar.name m) = refl

name_shrinks : Shrinks (λ found. dot_ahead) (next_item name)
name_shrinks = shrinks (separated_rounds token.Dot IsName name dot_ahead 0 is_dot no_dot grows_name (right_name 0))

dot_begins : dot_ahead (Some token.Dot) ≡ true
unfolding dot_ahead
dot_begins = refl

comma_begins : comma_ahead (Some token.Comma) ≡ true
unfolding comma_ahead
comma_begins = refl

pub dotted_read : (room : ℕ) (ts : List Lexeme) (ns : List (List ℕ)) → IsDotted room ts ns → (rest : List Lexeme) → dot_ahead (head_of rest) ≡ false → dotted (ts ++ rest) ≡ given ns rest
dotted_read room ts ns h rest e = complete_separated token.Dot IsName name dot_ahead room (λ l. Unit {0}) name_shrinks dot_begins (λ l. tt) (λ us a more k q. name_read us a room more k) h rest tt e

pub bound_read : (room : ℕ) (ts : List Lexeme) (b : Option (List ℕ)) → IsBound room ts b → (rest : List Lexeme) → bound rest ≡ given None rest → bound (ts ++ rest) ≡ given b rest
unfolding bound name
bound_read room ts b grammar.own_name rest e = e
bound_read room ts b (grammar.bound n) rest e = refl

-- a new name does not begin with a dot
bound_no_dot : (room : ℕ) (ts : List Lexeme) (b : Option (List ℕ)) → IsBound room ts b → (rest : List Lexeme) → dot_ahead (head_of rest) ≡ false → dot_ahead (head_of (ts ++ rest)) ≡ false
unfolding dot_ahead
bound_no_dot room ts b grammar.own_name rest e = e
bound_no_dot room ts b (grammar.bound n) rest e = refl

alias_read : (room : ℕ) (ts : List Lexeme) (a : Alias) (rest : List Lexeme) → IsAlias room ts a → EndsNames rest → alias (ts ++ rest) ≡ given a rest
unfolding alias
alias_read room ts a rest (grammar.alias {xs = xs} {ys = ys} {ns = ns} {as_name = b} h k) e =
    ap alias (append_assoc xs ys rest) ∙ rw (dotted_read room xs ns h (ys ++ rest) (bound_no_dot room ys b k rest e.no_dot_ahead)) (rw (bound_read room ys b k rest e.no_as) refl)

item_read : (room : ℕ) (ts : List Lexeme) (a : Alias) (rest : List Lexeme) → IsItem room ts a → EndsNames rest → item (ts ++ rest) ≡ given a rest
unfolding item name
item_read room ts a rest (grammar.item {ts = us} {as_name = b} n k) e = rw (bound_read room us b k rest e.no_as) refl

alias_shrinks : Shrinks (λ found. comma_ahead) (next_item alias)
alias_shrinks = shrinks (separated_rounds token.Comma IsAlias alias comma_ahead 0 is_comma no_comma_ahead grows_alias (right_alias 0))

item_shrinks : Shrinks (λ found. comma_ahead) (next_item item)
item_shrinks = shrinks (separated_rounds token.Comma IsItem item comma_ahead 0 is_comma no_comma_ahead grows_item (right_item 0))

aliases_read : (room : ℕ) (ts : List Lexeme) (aliases : List Alias) → IsSeparated token.Comma IsAlias room ts aliases → (rest : List Lexeme) → EndsLists rest → separated comma_ahead alias (ts ++ rest) ≡ given aliases rest
aliases_read room ts aliases h rest e = complete_separated token.Comma IsAlias alias comma_ahead room EndsNames alias_shrinks comma_begins comma_ends_names (λ us a more k q. alias_read room us a more k q) h rest e.names_end e.no_comma

items_read : (room : ℕ) (ts : List Lexeme) (items : List Alias) → IsSeparated token.Comma IsItem room ts items → (rest : List Lexeme) → EndsLists rest → separated comma_ahead item (ts ++ rest) ≡ given items rest
items_read room ts items h rest e = complete_separated token.Comma IsItem item comma_ahead room EndsNames item_shrinks comma_begins comma_ends_names (λ us a more k q. item_read room us a more k q) h rest e.names_end e.no_comma

-- ---- from

dots_shrink : Shrinks dots_ahead more_dots
dots_shrink = shrinks (dots_rounds 0)

dots_from : (room : ℕ) {ts : List Lexeme} {n : ℕ} → IsDots room ts n → (k : ℕ) (rest : List Lexeme) → dots_ahead 0 (head_of rest) ≡ false → rounds dots_ahead more_dots k (ts ++ rest) ≡ given (k + n) rest
unfolding dots_ahead more_dots
dots_from room grammar.no_dots k rest e = stopped dots_ahead more_dots (length rest) k rest e ∙ ap (λ (m : ℕ). given m rest) (let z : k ≡ k + 0 = omega arith in z)
dots_from room (grammar.dot {ts = us} {n = n} h) k rest e =
    round_read dots_ahead more_dots dots_shrink k (k + 1) (token.Dot ∷ (us ++ rest)) (us ++ rest) refl refl ∙ dots_from room h (k + 1) rest e ∙ ap (λ (m : ℕ). given m rest) (let z : k + 1 + n ≡ k + (n + 1) = omega arith in z)
dots_from room (grammar.ellipsis {ts = us} {n = n} h) k rest e =
    round_read dots_ahead more_dots dots_shrink k (k + 3) (token.Ellipsis ∷ (us ++ rest)) (us ++ rest) refl refl ∙ dots_from room h (k + 3) rest e ∙ ap (λ (m : ℕ). given m rest) (let z : k + 3 + n ≡ k + (n + 3) = omega arith in z)

dots_read : (room : ℕ) (ts : List Lexeme) (n : ℕ) → IsDots room ts n → (rest : List Lexeme) → dots_ahead 0 (head_of rest) ≡ false → dots (ts ++ rest) ≡ given n rest
unfolding dots
dots_read room ts n h rest e = dots_from room h 0 rest e ∙ ap (λ (m : ℕ). given m rest) (let z : 0 + n ≡ n = omega arith in z)

-- a dotted name begins with a name
dotted_begins : (room : ℕ) (ts : List Lexeme) (ns : List (List ℕ)) → IsDotted room ts ns → (rest : List Lexeme) → (name_ahead (head_of (ts ++ rest)) ≡ true) × (dots_ahead 0 (head_of (ts ++ rest)) ≡ false)
unfolding name_ahead dots_ahead
dotted_begins room ts ns (one (grammar.name n)) rest = (refl, refl)
dotted_begins room ts ns (more (grammar.name n) k) rest = (refl, refl)

with_dots_read : (room n : ℕ) (ts : List Lexeme) (ns : List (List ℕ)) → IsDotted room ts ns → (rest : List Lexeme) → dot_ahead (head_of rest) ≡ false → parts_after n (ts ++ rest) ≡ given (n, ns) rest
unfolding parts_after
with_dots_read room zero ts ns h rest e = rw (dotted_read room ts ns h rest e) refl
with_dots_read room (suc n) ts ns h rest e = let b = dotted_begins room ts ns h rest in rw (b.0) (rw (dotted_read room ts ns h rest e) refl)

no_parts_read : (n : ℕ) (ts : List Lexeme) → 0 < n → parts_after n (token.Import ∷ ts) ≡ given (n, []) (token.Import ∷ ts)
unfolding parts_after name_ahead
no_parts_read zero ts h = absurd (omega arith)
no_parts_read (suc n) ts h = refl

import_no_dots : (ts : List Lexeme) → dots_ahead 0 (head_of (token.Import ∷ ts)) ≡ false
unfolding dots_ahead
import_no_dots ts = refl

source_read : (room : ℕ) (ts : List Lexeme) (s : ℕ × List (List ℕ)) → IsSource room ts s → (rest : List Lexeme) → source (ts ++ token.Import ∷ rest) ≡ given s (token.Import ∷ rest)
unfolding source
source_read room ts s (grammar.named {ts = xs} {us = ys} {n = n} {ns = ns} h k) rest =
    let e = import_ends_names rest in
    let b = dotted_begins room ys ns k (token.Import ∷ rest) in
    ap source (append_assoc xs ys (token.Import ∷ rest)) ∙ rw (dots_read room xs n h (ys ++ token.Import ∷ rest) b.1) (with_dots_read room n ys ns k (token.Import ∷ rest) e.no_dot_ahead)
source_read room ts s (grammar.only_dots {n = n} h k) rest = rw (dots_read room ts n h (token.Import ∷ rest) (import_no_dots rest)) (no_parts_read n rest k)

source_import_read : (room : ℕ) (ts : List Lexeme) (s : ℕ × List (List ℕ)) → IsSource room ts s → (rest : List Lexeme) → source_import (ts ++ token.Import ∷ rest) ≡ given s rest
unfolding source_import import_word
source_import_read room ts s h rest = rw (source_read room ts s h rest) refl

item_begins : (room : ℕ) (ts : List Lexeme) (a : Alias) (rest : List Lexeme) → IsItem room ts a → name_ahead (head_of (ts ++ rest)) ≡ true
unfolding name_ahead
item_begins room ts a rest (grammar.item n k) = refl

as_plain : (c : Context) (room : ℕ) (us : List Lexeme) → name_ahead (head_of us) ≡ true → names c room us ≡ plain_names us
unfolding name_ahead names
as_plain c zero (token.Name n ∷ us) e = refl
as_plain c (suc room) (token.Name n ∷ us) e = refl
as_plain c room [] e = absurd cc
as_plain c room (t ∷ us) e = absurd cc

plain_begins : (room : ℕ) (ts : List Lexeme) (items : List Alias) → IsSeparated token.Comma IsItem room ts items → (rest : List Lexeme) → name_ahead (head_of (ts ++ rest)) ≡ true
unfolding name_ahead
plain_begins room ts items (one (grammar.item n k)) rest = refl
plain_begins room ts items (more (grammar.item n k) q) rest = refl

comma_read : (ts : List Lexeme) → comma (token.Comma ∷ ts) ≡ given true ts
unfolding comma
comma_read ts = refl

close_facts : (ts : List Lexeme) → (name_ahead (head_of (token.CloseParen ∷ ts)) ≡ false) × (comma (token.CloseParen ∷ ts) ≡ given false (token.CloseParen ∷ ts))
unfolding name_ahead comma
close_facts ts = (refl, refl)

listed_read : (room : ℕ) (ts : List Lexeme) (s : List Alias × Bool) → IsListed token.Comma IsItem room ts s → (rest : List Lexeme) → listed name_ahead item comma (ts ++ token.CloseParen ∷ rest) ≡ given s (token.CloseParen ∷ rest)
listed_read room ts s h rest =
    let e = close_facts rest in
    complete_listed token.Comma IsItem item comma name_ahead room EndsNames (shrinks (listed_rounds token.Comma IsItem item comma name_ahead room grows_item some_item (right_item room) (right_comma_optional room))) comma_read comma_ends_names (λ us a more k. item_begins room us a more k) (λ us a more k q. item_read room us a more k q) h (token.CloseParen ∷ rest) (close_ends_names rest) e.0 e.1

names_read : (c : Context) (room : ℕ) (ts : List Lexeme) (n : ImportedNames) → IsNames c room ts n → (rest : List Lexeme) → EndsLists rest → names c room (ts ++ rest) ≡ given n rest
unfolding names plain_names names_in_parens close_paren
names_read c room ts n (grammar.all_names h) rest e = rw h refl
names_read c room ts n (grammar.plain {items = items} h) rest e = as_plain c room (ts ++ rest) (plain_begins room ts items h rest) ∙ rw (items_read room ts items h rest e) refl
names_read c room ts n (grammar.in_parens {room = k} {ts = us} {items = items} {comma = b} h) rest e = rw (append_assoc us (token.CloseParen ∷ []) rest) (rw (listed_read k us (items, b) h rest) refl)

-- ---- simple statements

as_expr : (c : Context) (room : ℕ) (us : List Lexeme) → starts (head_of us) ≡ true → simple c room us ≡ expr_first room us
unfolding starts simple
as_expr c room [] e = refl
as_expr c room (token.Del ∷ us) e = absurd cc
as_expr c room (token.Pass ∷ us) e = absurd cc
as_expr c room (token.Break ∷ us) e = absurd cc
as_expr c room (token.Continue ∷ us) e = absurd cc
as_expr c room (token.Return ∷ us) e = absurd cc
as_expr c room (token.Raise ∷ us) e = absurd cc
as_expr c room (token.Import ∷ us) e = absurd cc
as_expr c room (token.From ∷ us) e = absurd cc
as_expr c room (t ∷ us) e = refl

assign_ends : (ts : List Lexeme) → strength (head_of (token.Assign ∷ ts)) < 1
unfolding strength
assign_ends ts = omega arith

augmented_ends : {t : Lexeme} {o : BinaryOp} → IsAugmented t o → strength (Some t) < 1
unfolding strength
augmented_ends grammar.add = omega arith
augmented_ends grammar.subtract = omega arith
augmented_ends grammar.multiply = omega arith
augmented_ends grammar.divide = omega arith
augmented_ends grammar.modulo = omega arith

augmented_after : {t : Lexeme} {o : BinaryOp} → IsAugmented t o → (room : ℕ) (e : Spelled) (us : List Lexeme) → after_expr room e (t ∷ us) ≡ augmented_by room (bare e) o t us
unfolding after_expr
augmented_after grammar.add room e us = refl
augmented_after grammar.subtract room e us = refl
augmented_after grammar.multiply room e us = refl
augmented_after grammar.divide room e us = refl
augmented_after grammar.modulo room e us = refl

expr_read : (c : Context) (room : ℕ) (ts us : List Lexeme) (e : Spelled) (s : Stmt) (rest : List Lexeme) → IsExpr room ts e → strength (head_of us) < 1 → after_expr room e us ≡ given s rest → simple c room (ts ++ us) ≡ given s rest
unfolding expr_first
expr_read c room ts us e s rest h q k = as_expr c room (ts ++ us) (chain_starts h us) ∙ rw (complete_expr h us q) k

assigned_read : (room : ℕ) (e x : Spelled) (us rest : List Lexeme) → e.is_target ≡ true → expr room us ≡ given x rest → after_expr room e (token.Assign ∷ us) ≡ given (tree.Assign e.tree x.tree) rest
unfolding after_expr assigned_by
assigned_read room e x us rest t h = rw t (rw h refl)

augmented_read : (room : ℕ) (n : List ℕ) (t : Lexeme) (o : BinaryOp) (x : Spelled) (us rest : List Lexeme) → IsAugmented t o → expr room us ≡ given x rest → after_expr room (target (exprs.Name n)) (t ∷ us) ≡ given (tree.Augment n o x.tree) rest
unfolding augmented_by
augmented_read room n t o x us rest a h = augmented_after a room (target (exprs.Name n)) us ∙ ap (λ (m : Option (List ℕ)). augmented_by room m o t us) (name_of_name n) ∙ rw h refl

value_read : (room : ℕ) (ts : List Lexeme) (e : Spelled) (rest : List Lexeme) → IsExpr room ts e → strength (head_of rest) < 1 → value room (ts ++ rest) ≡ given (Some e.tree) rest
unfolding value some_value
value_read room ts e rest h q = rw (chain_starts h rest) (rw (complete_expr h rest q) refl)

no_value_read : (room : ℕ) (rest : List Lexeme) → starts (head_of rest) ≡ false → value room rest ≡ given None rest
unfolding value
no_value_read room rest e = rw e refl

return_read : (c : Context) (room : ℕ) (us rest : List Lexeme) (e : Option Expr) → c.in_function ≡ true → c.in_finally ≡ false → value room us ≡ given e rest → simple c room (token.Return ∷ us) ≡ given (tree.Return e) rest
unfolding simple returned
return_read c room us rest e f g h = rw (f, g) (rw h refl)

raise_read : (c : Context) (room : ℕ) (us rest : List Lexeme) (e : Option Expr) → value room us ≡ given e rest → simple c room (token.Raise ∷ us) ≡ given (tree.Raise e) rest
unfolding simple raised
raise_read c room us rest e h = rw h refl

delete_read : (c : Context) (room : ℕ) (us rest : List Lexeme) (e : Spelled) → e.is_target ≡ true → primary (inner_of room) us ≡ given e rest → simple c room (token.Del ∷ us) ≡ given (tree.Delete e.tree) rest
unfolding simple deleted
delete_read c room us rest e t h = rw h (rw t refl)

import_read : (c : Context) (room : ℕ) (us rest : List Lexeme) (aliases : List Alias) → separated comma_ahead alias us ≡ given aliases rest → simple c room (token.Import ∷ us) ≡ given (tree.Import aliases) rest
unfolding simple imported
import_read c room us rest aliases h = rw h refl

from_read : (c : Context) (room : ℕ) (us vs rest : List Lexeme) (s : ℕ × List (List ℕ)) (n : ImportedNames) → source_import us ≡ given s vs → names c room vs ≡ given n rest → simple c room (token.From ∷ us) ≡ given (tree.From s.0 s.1 n) rest
unfolding simple imported_from
from_read c room us vs rest s n h k = rw h (rw k refl)

pub complete_simple : (c : Context) (room : ℕ) (ts : List Lexeme) (s : Stmt) (rest : List Lexeme) → IsSimple c room ts s → IsLineEnd rest → simple c room (ts ++ rest) ≡ given s rest
unfolding simple
complete_simple c room ts s rest (grammar.evaluate {e = e} h) q = expr_read c room ts rest e (tree.Evaluate e.tree) rest h (omega (arith, line_strength q)) (line_after q room e)
complete_simple c room ts s rest (grammar.assign {ts = xs} {us = ys} {e = e} {x = x} h t k) q =
    ap (simple c room) (append_assoc xs (token.Assign ∷ ys) rest) ∙ expr_read c room xs (token.Assign ∷ (ys ++ rest)) e (tree.Assign e.tree x.tree) rest (expr_of h) (assign_ends (ys ++ rest)) (assigned_read room e x (ys ++ rest) rest t (complete_expr k rest (omega (arith, line_strength q))))
complete_simple c room ts s rest (grammar.augment {ts = ys} {t = t} {o = o} {x = x} n a k) q =
    expr_read c room (token.Name n ∷ []) (t ∷ (ys ++ rest)) (target (exprs.Name n)) (tree.Augment n o x.tree) rest (expr_of (expressions.name n)) (augmented_ends a) (augmented_read room n t o x (ys ++ rest) rest a (complete_expr k rest (omega (arith, line_strength q))))
complete_simple c room ts s rest (grammar.delete {ts = us} {e = e} h t) q = delete_read c room (us ++ rest) rest e t (full_primary h rest (omega (arith, line_strength q)))
complete_simple c room ts s rest grammar.pass q = refl
complete_simple c room ts s rest (grammar.break h) q = rw h refl
complete_simple c room ts s rest (grammar.continue h) q = rw h refl
complete_simple c room ts s rest (grammar.return_none f g) q = return_read c room rest rest None f g (no_value_read room rest (line_starts q))
complete_simple c room ts s rest (grammar.return_value {ts = us} {e = e} f g h) q = return_read c room (us ++ rest) rest (Some e.tree) f g (value_read room us e rest h (omega (arith, line_strength q)))
complete_simple c room ts s rest grammar.raise_again q = raise_read c room rest rest None (no_value_read room rest (line_starts q))
complete_simple c room ts s rest (grammar.raise {ts = us} {e = e} h) q = raise_read c room (us ++ rest) rest (Some e.tree) (value_read room us e rest h (omega (arith, line_strength q)))
complete_simple c room ts s rest (grammar.import_modules {ts = us} {aliases = aliases} h) q = import_read c room (us ++ rest) rest aliases (aliases_read room us aliases h rest (line_ends_lists q))
complete_simple c room ts s rest (grammar.import_from {ts = xs} {us = ys} {dots = dots} {ns = ns} {names = n} h k) q =
    ap (λ (l : List Lexeme). simple c room (token.From ∷ l)) (append_assoc xs (token.Import ∷ ys) rest)
    ∙ from_read c room (xs ++ token.Import ∷ (ys ++ rest)) (ys ++ rest) rest (dots, ns) n (source_import_read room xs (dots, ns) h (ys ++ rest)) (names_read c room ys n k rest (line_ends_lists q))

-- ---- lines

-- a simple statement begins with a token that ends no line
expr_goes_on : (t : Option Lexeme) → starts t ≡ true → goes_on t ≡ true
unfolding starts goes_on
expr_goes_on (Some token.Newline) e = absurd cc
expr_goes_on t e = refl

simple_begins : (c : Context) (room : ℕ) (ts : List Lexeme) (s : Stmt) (rest : List Lexeme) → IsSimple c room ts s → goes_on (head_of (ts ++ rest)) ≡ true
unfolding goes_on
simple_begins c room ts s rest (grammar.evaluate h) = expr_goes_on (head_of (ts ++ rest)) (chain_starts h rest)
simple_begins c room ts s rest (grammar.assign {ts = xs} {us = ys} h t k) = ap (λ (l : List Lexeme). goes_on (head_of l)) (append_assoc xs (token.Assign ∷ ys) rest) ∙ expr_goes_on (head_of (xs ++ token.Assign ∷ (ys ++ rest))) (chain_starts (expr_of h) (token.Assign ∷ (ys ++ rest)))
simple_begins c room ts s rest (grammar.augment n a k) = refl
simple_begins c room ts s rest (grammar.delete h t) = refl
simple_begins c room ts s rest grammar.pass = refl
simple_begins c room ts s rest (grammar.break h) = refl
simple_begins c room ts s rest (grammar.continue h) = refl
simple_begins c room ts s rest (grammar.return_none f g) = refl
simple_begins c room ts s rest (grammar.return_value f g h) = refl
simple_begins c room ts s rest grammar.raise_again = refl
simple_begins c room ts s rest (grammar.raise h) = refl
simple_begins c room ts s rest (grammar.import_modules h) = refl
simple_begins c room ts s rest (grammar.import_from h k) = refl

semicolon_read : (ts : List Lexeme) → semicolon (token.Semicolon ∷ ts) ≡ given true ts
unfolding semicolon
semicolon_read ts = refl

newline_facts : (ts : List Lexeme) → (goes_on (head_of (token.Newline ∷ ts)) ≡ false) × (semicolon (token.Newline ∷ ts) ≡ given false (token.Newline ∷ ts))
unfolding goes_on semicolon
newline_facts ts = (refl, refl)

pub complete_line : (c : Context) (room : ℕ) (ts : List Lexeme) (ss : List Stmt) (rest : List Lexeme) → IsLine c room ts ss → line c room (ts ++ token.Newline ∷ rest) ≡ given ss (token.Newline ∷ rest)
unfolding line
complete_line c room ts ss rest (grammar.line {semicolon = b} h) =
    let e = newline_facts rest in
    rw (complete_listed token.Semicolon (IsSimple c) (simple c room) semicolon goes_on room IsLineEnd (shrinks (listed_rounds token.Semicolon (IsSimple c) (simple c room) semicolon goes_on room (grows_simple c) (some_simple c) (right_simple c room) (right_semicolon room))) semicolon_read at_semicolon (λ us s more k. simple_begins c room us s more k) (λ us s more k q. complete_simple c room us s more k q) h (token.Newline ∷ rest) (at_newline rest) e.0 e.1) refl
