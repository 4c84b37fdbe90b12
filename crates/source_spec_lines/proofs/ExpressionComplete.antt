-- What is spelled is read, before a token that does not go on with it.
use Rattle.std.proofs.Common.{◌≡◌, ℕ, zero, suc, ◌+◌, ◌==◌, ◌&&◌, ◌<◌, ◌≤◌, Bool, true, false, List, [], ◌∷◌, ◌++◌, length, Option, Some, None, Result, Ok, Err, refl, sym, ap, subst, ◌∙◌, append_assoc, append-nil, arith, length-append}
use Rattle.std.specs.Prelude.{if◌then◌else◌}
use Rattle.std.proofs.lemmas.Bool.{ne_eqb}
use Rattle.source_combinators.specs.Reading.{Read, ◌>>=◌, given, refused, too_deep, head_of}
use Rattle.source_combinators.specs.Many.{rounds}
use Rattle.source_combinators.proofs.Many.{Shrinks, shrinks, stopped, round_read}
use Rattle.py_syntax.specs.declared.lexeme.Lexeme.{Lexeme}
use Rattle.py_syntax.specs.declared.lexeme.Lexeme.TheVariants as token
use Rattle.py_syntax.specs.declared.expr.Expr.{Expr}
use Rattle.py_syntax.specs.declared.expr.Expr.TheVariants as tree
use Rattle.py_syntax.specs.declared.expr.Comparison.{Comparison}
use Rattle.py_syntax.specs.declared.expr.Comparison.TheVariants as comparing
use Rattle.py_syntax.specs.declared.expr.Level.{Level}
use Rattle.py_syntax.specs.declared.expr.Level.TheVariants.{Disjunction, Conjunction, Sum, Term}
use Rattle.py_syntax.specs.declared.expr.Spelled.{Spelled}
use Rattle.py_syntax.specs.declared.expr.Items.{Items}
use Rattle.py_syntax.specs.Expressions as grammar
use Rattle.py_syntax.specs.Expressions.{target, other, IsOperator, IsComparator, IsChain, IsOperand, IsInversion, IsComparison, IsFactor, IsPrimary, IsItems, IsExpr}
use Rattle.source_spec_lines.specs.Expressions.{Reader, Form, Whole, Inverted, Signed, Inner, starts, strength, strength_of, close_paren, close_bracket, comma, with_item, item, begins_item, all_items, parenthesised_by, parenthesised, in_parens, in_brackets, atom, after_dot, call_with, subscript_with, trailer, begins_trailer, primary, factor, join, joins, begins_join, chain, after_not, after_is, comparator, compare_with, begins_comparison, compared, comparison, inversion, sums, operand, form_by, form, inner_of}
use Rattle.source_spec_lines.proofs.ExpressionFamilies.{begins_atom, begins_factor, primary_begins, factor_begins, comparison_begins, sum_begins, chain_starts}
use Rattle.source_spec_lines.proofs.ExpressionRight.{IsInner, at_bottom, deeper, right_form, right_operand, trailer_rounds, join_rounds, item_rounds, open_items}

pub is_inner : (room : ℕ) → IsInner (inner_of room) room
is_inner zero = at_bottom
is_inner (suc room) = deeper (form room) room (λ entry. right_form room entry)

pub by_inner : (room : ℕ) (entry : Form) (ts : List Lexeme) → form room entry ts ≡ form_by (inner_of room) entry ts
unfolding form
by_inner zero entry ts = refl
by_inner (suc room) entry ts = refl

differs : (n m : ℕ) → n < m → (n == m) ≡ false
differs n m h = ne_eqb n m (λ e. absurd (omega (arith, h, e)))

-- ---- the loops

abbrev pub join_loop : ℕ → Level → Spelled → List Lexeme → Read Lexeme Spelled
join_loop room level e ts = rounds (begins_join level) (joins (operand (inner_of room) level)) e ts

abbrev pub trailer_loop : ℕ → Spelled → List Lexeme → Read Lexeme Spelled
trailer_loop room e ts = rounds begins_trailer (trailer (inner_of room)) e ts

abbrev pub item_loop : ℕ → Items → List Lexeme → Read Lexeme Items
item_loop room s ts = rounds begins_item (item (form room Whole)) s ts

join_shrinks : (room : ℕ) (level : Level) → Shrinks (begins_join level) (joins (operand (inner_of room) level))
join_shrinks room level = shrinks (join_rounds level (operand (inner_of room) level) room (right_operand (inner_of room) room (is_inner room) level))

trailer_shrinks : (room : ℕ) → Shrinks begins_trailer (trailer (inner_of room))
trailer_shrinks room = shrinks (trailer_rounds (inner_of room) room (is_inner room))

item_shrinks : (room : ℕ) → Shrinks begins_item (item (form room Whole))
item_shrinks room = shrinks (item_rounds (form room Whole) room (right_form room Whole))

join_stops : (room : ℕ) (level : Level) (e : Spelled) (ts : List Lexeme) → strength (head_of ts) < strength_of level → join_loop room level e ts ≡ given e ts
join_stops room level e ts h = stopped (begins_join level) (joins (operand (inner_of room) level)) (length ts) e ts (differs (strength (head_of ts)) (strength_of level) h)

trailer_stops : (room : ℕ) (e : Spelled) (ts : List Lexeme) → strength (head_of ts) < 6 → trailer_loop room e ts ≡ given e ts
trailer_stops room e ts h = stopped begins_trailer (trailer (inner_of room)) (length ts) e ts (differs (strength (head_of ts)) 6 h)

-- ---- operators

operator_begins : {level : Level} {t : Lexeme} {f : Expr → Expr → Expr} → IsOperator level t f → (strength (Some t) == strength_of level) ≡ true
unfolding strength
operator_begins grammar.disjunction = refl
operator_begins grammar.conjunction = refl
operator_begins grammar.add = refl
operator_begins grammar.subtract = refl
operator_begins grammar.multiply = refl
operator_begins grammar.divide = refl
operator_begins grammar.modulo = refl

operator_binds : {level : Level} {t : Lexeme} {f : Expr → Expr → Expr} → IsOperator level t f → strength (Some t) < suc (strength_of level)
unfolding strength
operator_binds grammar.disjunction = omega arith
operator_binds grammar.conjunction = omega arith
operator_binds grammar.add = omega arith
operator_binds grammar.subtract = omega arith
operator_binds grammar.multiply = omega arith
operator_binds grammar.divide = omega arith
operator_binds grammar.modulo = omega arith

operator_joins : {level : Level} {t : Lexeme} {f : Expr → Expr → Expr} → IsOperator level t f → (a b : Expr) → join t a b ≡ f a b
unfolding join
operator_joins grammar.disjunction a b = refl
operator_joins grammar.conjunction a b = refl
operator_joins grammar.add a b = refl
operator_joins grammar.subtract a b = refl
operator_joins grammar.multiply a b = refl
operator_joins grammar.divide a b = refl
operator_joins grammar.modulo a b = refl

join_read : (room : ℕ) (level : Level) (t : Lexeme) (f : Expr → Expr → Expr) (a b : Spelled) (us rest : List Lexeme) → IsOperator level t f → operand (inner_of room) level us ≡ given b rest → join_loop room level a (t ∷ us) ≡ join_loop room level (other (f a.tree b.tree)) rest
unfolding joins
join_read room level t f a b us rest o h =
    round_read (begins_join level) (joins (operand (inner_of room) level)) (join_shrinks room level) a (other (join t a.tree b.tree)) (t ∷ us) rest (operator_begins o) (rw h refl)
    ∙ ap (λ (e : Expr). join_loop room level (other e) rest) (operator_joins o a.tree b.tree)

comparator_binds : {os : List Lexeme} {c : Comparison} → IsComparator os c → (us : List Lexeme) → strength (head_of (os ++ us)) ≡ 3
unfolding strength
comparator_binds grammar.equal us = refl
comparator_binds grammar.unequal us = refl
comparator_binds grammar.less us = refl
comparator_binds grammar.less_equal us = refl
comparator_binds grammar.greater us = refl
comparator_binds grammar.greater_equal us = refl
comparator_binds grammar.inside us = refl
comparator_binds grammar.not_inside us = refl
comparator_binds grammar.same us = refl
comparator_binds grammar.not_same us = refl

is_alone : (us : List Lexeme) → begins_factor (head_of us) ≡ true → after_is us ≡ given comparing.Is us
unfolding begins_factor begins_atom after_is
is_alone [] h = refl
is_alone (token.Not ∷ us) h = absurd cc
is_alone (t ∷ us) h = refl

comparator_read : {os : List Lexeme} {c : Comparison} → IsComparator os c → (us : List Lexeme) → begins_factor (head_of us) ≡ true → comparator (os ++ us) ≡ given c us
unfolding comparator after_not after_is
comparator_read grammar.equal us h = refl
comparator_read grammar.unequal us h = refl
comparator_read grammar.less us h = refl
comparator_read grammar.less_equal us h = refl
comparator_read grammar.greater us h = refl
comparator_read grammar.greater_equal us h = refl
comparator_read grammar.inside us h = refl
comparator_read grammar.not_inside us h = refl
comparator_read grammar.same us h = is_alone us h
comparator_read grammar.not_same us h = refl

-- ---- a form that begins as one that binds tighter is read as that one

pub as_comparison : (inner : Inner) (us : List Lexeme) → begins_factor (head_of us) ≡ true → inversion inner us ≡ comparison (sums inner) us
unfolding begins_factor begins_atom inversion
as_comparison None [] h = refl
as_comparison (Some f) [] h = refl
as_comparison None (token.Not ∷ us) h = absurd cc
as_comparison (Some f) (token.Not ∷ us) h = absurd cc
as_comparison None (t ∷ us) h = refl
as_comparison (Some f) (t ∷ us) h = refl

pub as_primary : (inner : Inner) (us : List Lexeme) → begins_atom (head_of us) ≡ true → factor inner us ≡ primary inner us
unfolding begins_atom factor
as_primary None [] h = refl
as_primary (Some f) [] h = refl
as_primary None (token.Minus ∷ us) h = absurd cc
as_primary (Some f) (token.Minus ∷ us) h = absurd cc
as_primary None (t ∷ us) h = refl
as_primary (Some f) (t ∷ us) h = refl

-- ---- comparisons

no_comparison : (f : Reader) (e : Spelled) (rest : List Lexeme) → strength (head_of rest) < 3 → compared f e rest ≡ given e rest
unfolding compared
no_comparison f e rest h = rw (differs (strength (head_of rest)) 3 h) refl

compared_read : (f : Reader) (a b : Spelled) (c : Comparison) (os us rest : List Lexeme) → IsComparator os c → begins_factor (head_of us) ≡ true → f us ≡ given b rest → compared f a (os ++ us) ≡ given (other (tree.Compare c a.tree b.tree)) rest
unfolding compared compare_with
compared_read f a b c os us rest h g k = rw (comparator_binds h us) (rw (comparator_read h us g) (rw k refl))

-- ---- items

-- a closing bracket
pub data IsCloser : List Lexeme → Type 0 where
  paren : (ts : List Lexeme) → IsCloser (token.CloseParen ∷ ts)
  bracket : (ts : List Lexeme) → IsCloser (token.CloseBracket ∷ ts)

closer_ends : {ts : List Lexeme} → IsCloser ts → strength (head_of ts) ≡ 0
unfolding strength
closer_ends (paren ts) = refl
closer_ends (bracket ts) = refl

closer_starts : {ts : List Lexeme} → IsCloser ts → starts (head_of ts) ≡ false
unfolding starts
closer_starts (paren ts) = refl
closer_starts (bracket ts) = refl

closer_comma : {ts : List Lexeme} → IsCloser ts → comma ts ≡ given false ts
unfolding comma
closer_comma (paren ts) = refl
closer_comma (bracket ts) = refl

abbrev closed_items : List Expr → Items
closed_items found = record { found = found; is_open = false }

abbrev some_items : List Expr → Bool → Items
some_items found is_open = record { found = found; is_open = is_open }

-- the items behind those that are found already, up to a closing bracket
abbrev pub Reads_items : ℕ → List Lexeme → List Expr → Bool → Type 0
Reads_items room us es o = (found : List Expr) (rest : List Lexeme) → IsCloser rest → item_loop room (open_items found) (us ++ rest) ≡ given (some_items (found ++ es) o) rest

item_read : (room : ℕ) (found : List Expr) (e : Spelled) (b : Bool) (us rest after : List Lexeme) → starts (head_of us) ≡ true → form room Whole us ≡ given e rest → comma rest ≡ given b after → item_loop room (open_items found) us ≡ item_loop room (with_item found e.tree b) after
unfolding item
item_read room found e b us rest after s h c =
    round_read begins_item (item (form room Whole)) (item_shrinks room) (open_items found) (with_item found e.tree b) us after s (rw (h, c) refl)

none_read : (room : ℕ) → Reads_items room [] [] true
none_read room found rest c =
    stopped begins_item (item (form room Whole)) (length rest) (open_items found) rest (closer_starts c) ∙ ap (λ (f : List Expr). given (some_items f true) rest) (sym (append-nil found))

last_read : (room : ℕ) (us : List Lexeme) (e : Spelled) → ((rest : List Lexeme) → starts (head_of (us ++ rest)) ≡ true) → ((rest : List Lexeme) → strength (head_of rest) < 1 → form room Whole (us ++ rest) ≡ given e rest) → Reads_items room us (e.tree ∷ []) false
last_read room us e s h found rest c =
    item_read room found e false (us ++ rest) rest rest (s rest) (h rest (omega (arith, closer_ends c))) (closer_comma c)
    ∙ stopped begins_item (item (form room Whole)) (length rest) (closed_items (found ++ e.tree ∷ [])) rest refl

next_read : (room : ℕ) (us vs : List Lexeme) (e : Spelled) (es : List Expr) (o : Bool) → ((rest : List Lexeme) → starts (head_of (us ++ rest)) ≡ true) → ((rest : List Lexeme) → strength (head_of rest) < 1 → form room Whole (us ++ rest) ≡ given e rest) → Reads_items room vs es o → Reads_items room (us ++ token.Comma ∷ vs) (e.tree ∷ es) o
unfolding comma strength
next_read room us vs e es o s h k found rest c =
    ap (item_loop room (open_items found)) (append_assoc us (token.Comma ∷ vs) rest)
    ∙ item_read room found e true (us ++ token.Comma ∷ (vs ++ rest)) (token.Comma ∷ (vs ++ rest)) (vs ++ rest) (s (token.Comma ∷ (vs ++ rest))) (h (token.Comma ∷ (vs ++ rest)) (omega arith)) refl
    ∙ k (found ++ e.tree ∷ []) rest c
    ∙ ap (λ (f : List Expr). given (some_items f o) rest) (append_assoc found (e.tree ∷ []) es)

all_read : (room : ℕ) (us : List Lexeme) (es : List Expr) (o : Bool) (rest : List Lexeme) → Reads_items room us es o → IsCloser rest → all_items (form room Whole) (us ++ rest) ≡ given (some_items es o) rest
unfolding all_items
all_read room us es o rest h c = h [] rest c

parens_read : (room : ℕ) (us : List Lexeme) (es : List Expr) (o : Bool) (rest : List Lexeme) → Reads_items room us es o → primary (inner_of (suc room)) ((token.OpenParen ∷ (us ++ token.CloseParen ∷ [])) ++ rest) ≡ trailer_loop (suc room) (parenthesised_by es o) rest
unfolding primary atom in_parens close_paren
parens_read room us es o rest h = rw (append_assoc us (token.CloseParen ∷ []) rest) (rw (all_read room us es o (token.CloseParen ∷ rest) h (paren rest)) refl)

brackets_read : (room : ℕ) (us : List Lexeme) (es : List Expr) (o : Bool) (rest : List Lexeme) → Reads_items room us es o → primary (inner_of (suc room)) ((token.OpenBracket ∷ (us ++ token.CloseBracket ∷ [])) ++ rest) ≡ trailer_loop (suc room) (other (tree.List es)) rest
unfolding primary atom in_brackets close_bracket
brackets_read room us es o rest h = rw (append_assoc us (token.CloseBracket ∷ []) rest) (rw (all_read room us es o (token.CloseBracket ∷ rest) h (bracket rest)) refl)

-- ---- what follows an atom

attribute_read : (room : ℕ) (e : Spelled) (n : List ℕ) (rest : List Lexeme) → trailer_loop room e (token.Dot ∷ token.Name n ∷ rest) ≡ trailer_loop room (target (tree.Attribute e.tree n)) rest
unfolding strength trailer after_dot
attribute_read room e n rest = round_read begins_trailer (trailer (inner_of room)) (trailer_shrinks room) e (target (tree.Attribute e.tree n)) (token.Dot ∷ token.Name n ∷ rest) rest refl refl

call_read : (room : ℕ) (e : Spelled) (us : List Lexeme) (es : List Expr) (o : Bool) (rest : List Lexeme) → Reads_items room us es o → trailer_loop (suc room) e ((token.OpenParen ∷ (us ++ token.CloseParen ∷ [])) ++ rest) ≡ trailer_loop (suc room) (other (tree.Call e.tree es)) rest
unfolding strength trailer call_with close_paren
call_read room e us es o rest h =
    round_read begins_trailer (trailer (inner_of (suc room))) (trailer_shrinks (suc room)) e (other (tree.Call e.tree es)) ((token.OpenParen ∷ (us ++ token.CloseParen ∷ [])) ++ rest) rest refl
    (rw (append_assoc us (token.CloseParen ∷ []) rest) (rw (all_read room us es o (token.CloseParen ∷ rest) h (paren rest)) refl))

subscript_read : (room : ℕ) (e x : Spelled) (us rest : List Lexeme) → form room Whole (us ++ token.CloseBracket ∷ rest) ≡ given x (token.CloseBracket ∷ rest) → trailer_loop (suc room) e ((token.OpenBracket ∷ (us ++ token.CloseBracket ∷ [])) ++ rest) ≡ trailer_loop (suc room) (target (tree.Subscript e.tree x.tree)) rest
unfolding strength trailer subscript_with close_bracket
subscript_read room e x us rest h =
    round_read begins_trailer (trailer (inner_of (suc room))) (trailer_shrinks (suc room)) e (target (tree.Subscript e.tree x.tree)) ((token.OpenBracket ∷ (us ++ token.CloseBracket ∷ [])) ++ rest) rest refl
    (rw (append_assoc us (token.CloseBracket ∷ []) rest) (rw h refl))

-- with a comma, items are a tuple
tuple_of : {room : ℕ} {us : List Lexeme} {es : List Expr} {o : Bool} (e : Expr) → IsItems room us es o → parenthesised_by (e ∷ es) o ≡ other (tree.Tuple (e ∷ es))
tuple_of e grammar.no_items = refl
tuple_of e (grammar.last_item h) = refl
tuple_of e (grammar.next_item h k) = refl

bracket_ends : (rest : List Lexeme) → strength (head_of (token.CloseBracket ∷ rest)) < 1
unfolding strength
bracket_ends rest = omega arith

expr_read : (room : ℕ) (ts : List Lexeme) (e : Spelled) → ((rest : List Lexeme) → strength (head_of rest) < 1 → chain Disjunction (operand (inner_of room) Disjunction) (ts ++ rest) ≡ given e rest) → (rest : List Lexeme) → strength (head_of rest) < 1 → form room Whole (ts ++ rest) ≡ given e rest
expr_read room ts e h rest s = by_inner room Whole (ts ++ rest) ∙ h rest s

-- ---- all forms

mutual
  unfolding chain comparison inversion factor primary atom

  pub complete_chain : {level : Level} {room : ℕ} {ts : List Lexeme} {e : Spelled} → IsChain level room ts e → (rest : List Lexeme) → strength (head_of rest) < suc (strength_of level) → chain level (operand (inner_of room) level) (ts ++ rest) ≡ join_loop room level e rest
  complete_chain (grammar.alone h) rest s = rw (complete_operand h rest s) refl
  complete_chain (grammar.joined {level = level} {room = room} {xs = xs} {ys = ys} {t = t} {f = f} {a = a} {b = b} h o k) rest s =
      ap (chain level (operand (inner_of room) level)) (append_assoc xs (t ∷ ys) rest) ∙ complete_chain h (t ∷ (ys ++ rest)) (operator_binds o)
      ∙ join_read room level t f a b (ys ++ rest) rest o (complete_operand k rest s)

  pub full_chain : {level : Level} {room : ℕ} {ts : List Lexeme} {e : Spelled} → IsChain level room ts e → (rest : List Lexeme) → strength (head_of rest) < strength_of level → chain level (operand (inner_of room) level) (ts ++ rest) ≡ given e rest
  full_chain (grammar.alone {level = level} {room = room} {e = e} h) rest s = rw (complete_operand h rest (omega (arith, s))) (join_stops room level e rest s)
  full_chain (grammar.joined {level = level} {room = room} {xs = xs} {ys = ys} {t = t} {f = f} {a = a} {b = b} h o k) rest s =
      ap (chain level (operand (inner_of room) level)) (append_assoc xs (t ∷ ys) rest) ∙ complete_chain h (t ∷ (ys ++ rest)) (operator_binds o)
      ∙ join_read room level t f a b (ys ++ rest) rest o (complete_operand k rest (omega (arith, s))) ∙ join_stops room level (other (f a.tree b.tree)) rest s

  pub complete_operand : {level : Level} {room : ℕ} {ts : List Lexeme} {e : Spelled} → IsOperand level room ts e → (rest : List Lexeme) → strength (head_of rest) < suc (strength_of level) → operand (inner_of room) level (ts ++ rest) ≡ given e rest
  complete_operand (grammar.of_or h) rest s = full_chain h rest (omega (arith, s))
  complete_operand (grammar.of_and h) rest s = complete_inversion h rest (omega (arith, s))
  complete_operand (grammar.of_sum h) rest s = full_chain h rest (omega (arith, s))
  complete_operand (grammar.of_term h) rest s = complete_factor h rest (omega (arith, s))

  pub complete_inversion : {room : ℕ} {ts : List Lexeme} {e : Spelled} → IsInversion room ts e → (rest : List Lexeme) → strength (head_of rest) < 3 → inversion (inner_of room) (ts ++ rest) ≡ given e rest
  complete_inversion (grammar.inverted {room = room} {ts = ts} h) rest s = rw (by_inner room Inverted (ts ++ rest), complete_inversion h rest s) refl
  complete_inversion (grammar.comparison {room = room} {ts = ts} h) rest s = as_comparison (inner_of room) (ts ++ rest) (comparison_begins h rest) ∙ complete_comparison h rest s

  pub complete_comparison : {room : ℕ} {ts : List Lexeme} {e : Spelled} → IsComparison room ts e → (rest : List Lexeme) → strength (head_of rest) < 3 → comparison (sums (inner_of room)) (ts ++ rest) ≡ given e rest
  complete_comparison (grammar.sum {room = room} {e = e} h) rest s = rw (full_chain h rest (omega (arith, s))) (no_comparison (sums (inner_of room)) e rest s)
  complete_comparison (grammar.compared {room = room} {xs = xs} {os = os} {ys = ys} {c = c} {a = a} {b = b} h q k) rest s =
      ap (comparison (sums (inner_of room))) (append_assoc xs (os ++ ys) rest ∙ ap (λ (l : List Lexeme). xs ++ l) (append_assoc os ys rest))
      ∙ rw (full_chain h (os ++ (ys ++ rest)) (omega (arith, comparator_binds q (ys ++ rest)))) (compared_read (sums (inner_of room)) a b c os (ys ++ rest) rest q (sum_begins k rest) (full_chain k rest (omega (arith, s))))

  pub complete_factor : {room : ℕ} {ts : List Lexeme} {e : Spelled} → IsFactor room ts e → (rest : List Lexeme) → strength (head_of rest) < 6 → factor (inner_of room) (ts ++ rest) ≡ given e rest
  complete_factor (grammar.negative {room = room} {ts = ts} h) rest s = rw (by_inner room Signed (ts ++ rest), complete_factor h rest s) refl
  complete_factor (grammar.primary {room = room} {ts = ts} {e = e} h) rest s = as_primary (inner_of room) (ts ++ rest) (primary_begins h rest) ∙ complete_primary h rest ∙ trailer_stops room e rest s

  pub complete_primary : {room : ℕ} {ts : List Lexeme} {e : Spelled} → IsPrimary room ts e → (rest : List Lexeme) → primary (inner_of room) (ts ++ rest) ≡ trailer_loop room e rest
  complete_primary (grammar.name n) rest = refl
  complete_primary (grammar.number n) rest = refl
  complete_primary (grammar.string s) rest = refl
  complete_primary grammar.none rest = refl
  complete_primary grammar.yes rest = refl
  complete_primary grammar.no rest = refl
  complete_primary (grammar.parens {room = room} {ts = ts} {e = e} h) rest = parens_read room ts (e.tree ∷ []) false rest (last_read room ts e (chain_starts h) (expr_read room ts e (λ more q. full_chain h more q)))
  complete_primary (grammar.empty_tuple {room = room}) rest = parens_read room [] [] true rest (none_read room)
  complete_primary (grammar.tuple {room = room} {ts = ts} {us = us} {e = e} {es = es} {is_open = o} h k) rest =
      parens_read room (ts ++ token.Comma ∷ us) (e.tree ∷ es) o rest (next_read room ts us e es o (chain_starts h) (expr_read room ts e (λ more q. full_chain h more q)) (complete_items k)) ∙ ap (λ (x : Spelled). trailer_loop (suc room) x rest) (tuple_of e.tree k)
  complete_primary (grammar.display {room = room} {ts = ts} {es = es} {is_open = o} h) rest = brackets_read room ts es o rest (complete_items h)
  complete_primary (grammar.attribute {room = room} {ts = ts} {e = e} n h) rest =
      ap (primary (inner_of room)) (append_assoc ts (token.Dot ∷ token.Name n ∷ []) rest) ∙ complete_primary h (token.Dot ∷ token.Name n ∷ rest) ∙ attribute_read room e n rest
  complete_primary (grammar.call {room = room} {ts = ts} {us = us} {e = e} {es = es} {is_open = o} h k) rest =
      ap (primary (inner_of (suc room))) (append_assoc ts (token.OpenParen ∷ (us ++ token.CloseParen ∷ [])) rest) ∙ complete_primary h ((token.OpenParen ∷ (us ++ token.CloseParen ∷ [])) ++ rest) ∙ call_read room e us es o rest (complete_items k)
  complete_primary (grammar.subscript {room = room} {ts = ts} {us = us} {e = e} {x = x} h k) rest =
      ap (primary (inner_of (suc room))) (append_assoc ts (token.OpenBracket ∷ (us ++ token.CloseBracket ∷ [])) rest) ∙ complete_primary h ((token.OpenBracket ∷ (us ++ token.CloseBracket ∷ [])) ++ rest) ∙ subscript_read room e x us rest (expr_read room us x (λ more q. full_chain k more q) (token.CloseBracket ∷ rest) (bracket_ends rest))

  pub complete_items : {room : ℕ} {ts : List Lexeme} {es : List Expr} {o : Bool} → IsItems room ts es o → Reads_items room ts es o
  complete_items (grammar.no_items {room = room}) = none_read room
  complete_items (grammar.last_item {room = room} {ts = ts} {e = e} h) = last_read room ts e (chain_starts h) (expr_read room ts e (λ more q. full_chain h more q))
  complete_items (grammar.next_item {room = room} {ts = ts} {us = us} {e = e} {es = es} {is_open = o} h k) = next_read room ts us e es o (chain_starts h) (expr_read room ts e (λ more q. full_chain h more q)) (complete_items k)

-- an expression is read before a token that does not go on with it
pub complete_expr : {room : ℕ} {ts : List Lexeme} {e : Spelled} → IsExpr room ts e → (rest : List Lexeme) → strength (head_of rest) < 1 → form room Whole (ts ++ rest) ≡ given e rest
complete_expr {room = room} {ts = ts} {e = e} h rest s = expr_read room ts e (λ more q. full_chain h more q) rest s

-- and so is a primary, before a token that does not follow it
pub full_primary : {room : ℕ} {ts : List Lexeme} {e : Spelled} → IsPrimary room ts e → (rest : List Lexeme) → strength (head_of rest) < 6 → primary (inner_of room) (ts ++ rest) ≡ given e rest
full_primary {room = room} {e = e} h rest s = complete_primary h rest ∙ trailer_stops room e rest s
