-- What is printed of an expression spells it.
use Rattle.std.proofs.Common.{◌≡◌, ◌∙◌, refl, sym, ap, subst, ℕ, suc, ◌≤◌, Bool, true, false, List, [], ◌∷◌, ◌++◌, map, append-nil, arith}
use Rattle.py_syntax.specs.declared.lexeme.Lexeme.{Lexeme}
use Rattle.py_syntax.specs.declared.lexeme.Lexeme.TheVariants as token
use Rattle.py_syntax.specs.declared.expr.Expr.{Expr, roll-Expr, map-Expr}
use Rattle.py_syntax.specs.declared.expr.Expr.TheVariants as tree
use Rattle.py_syntax.specs.declared.expr.Expr.TheVariants.{rolls-Name, rolls-Number, rolls-Str, rolls-Nothing, rolls-True, rolls-False, rolls-Tuple, rolls-List, rolls-Attribute, rolls-Call, rolls-Subscript, rolls-Negative, rolls-Binary, rolls-Compare, rolls-Not, rolls-And, rolls-Or}
use Rattle.py_syntax.specs.declared.expr.Expr.TheOpen.{Expr-F}
use Rattle.py_syntax.specs.declared.expr.Expr.TheFolds.{fold-roll-Expr}
use Rattle.py_syntax.specs.declared.expr.BinaryOp.TheVariants as op
use Rattle.py_syntax.specs.declared.expr.Comparison.{Comparison}
use Rattle.py_syntax.specs.declared.expr.Level.{Level}
use Rattle.py_syntax.specs.declared.expr.Level.TheVariants.{Disjunction, Conjunction, Sum, Term}
use Rattle.py_syntax.specs.declared.expr.Spelled.{Spelled}
use Rattle.py_syntax.specs.Expressions as grammar
use Rattle.py_syntax.specs.Expressions.{target, IsOperator, IsComparator, IsChain, IsOperand, IsInversion, IsComparison, IsFactor, IsPrimary, IsItems}
use Rattle.source_print.specs.Expressions.{Printed, enclosed, operand, grouped, prefixed, closed, comparator, compared, items, printed_at, print_of, expr_tokens}
use Rattle.source_print.proofs.Places as place
use Rattle.source_print.proofs.Places.{Place, level, Stands, Fits, whole, placed, parenthesised, looser, exact}

-- what is printed of one layer
pub layer : (d : Expr-F Expr) (e : Expr) → roll-Expr d ≡ e → print_of e ≡ printed_at (map-Expr Expr Printed print_of d)
layer d e is = ap print_of (sym is) ∙ fold-roll-Expr Printed printed_at d

fits_as : (at : Place) (room : ℕ) (e : Expr) (p : Printed) → print_of e ≡ p → p.strength ≡ level at → Stands at room p.tokens e → Fits at room (print_of e) e
fits_as at room e p is binds stands = subst (λ q. Fits at room q e) (sym is) (exact at room p e binds stands)

-- ---- operators

abbrev chain_place : Level → Place
chain_place Disjunction = place.disjunction
chain_place Conjunction = place.conjunction
chain_place Sum = place.sum
chain_place Term = place.term

abbrev operand_place : Level → Place
operand_place Disjunction = place.conjunction
operand_place Conjunction = place.inversion
operand_place Sum = place.term
operand_place Term = place.factor

closer : (at : Level) → level (chain_place at) ≤ level (operand_place at)
closer Disjunction = omega arith
closer Conjunction = omega arith
closer Sum = omega arith
closer Term = omega arith

joined_fits : {at : Level} {room : ℕ} {t : Lexeme} {f : Expr → Expr → Expr} (a b : Expr) → IsOperator at t f
    → Stands (chain_place at) room (operand (level (chain_place at)) (print_of a)) a → Stands (operand_place at) room (operand (level (operand_place at)) (print_of b)) b
    → Fits (chain_place at) room (print_of (f a b)) (f a b)
joined_fits {room = room} a b grammar.disjunction h k = fits_as place.disjunction room (tree.Or a b) (grouped 1 token.Or (print_of a) (print_of b)) (layer (Expr-F.Or a b) (tree.Or a b) (rolls-Or a b)) refl (false, grammar.joined h.1 grammar.disjunction (grammar.of_or k.1))
joined_fits {room = room} a b grammar.conjunction h k = fits_as place.conjunction room (tree.And a b) (grouped 2 token.And (print_of a) (print_of b)) (layer (Expr-F.And a b) (tree.And a b) (rolls-And a b)) refl (false, grammar.joined h.1 grammar.conjunction (grammar.of_and k.1))
joined_fits {room = room} a b grammar.add h k = fits_as place.sum room (tree.Binary op.Add a b) (grouped 5 token.Plus (print_of a) (print_of b)) (layer (Expr-F.Binary op.Add a b) (tree.Binary op.Add a b) (rolls-Binary op.Add a b)) refl (false, grammar.joined h.1 grammar.add (grammar.of_sum k.1))
joined_fits {room = room} a b grammar.subtract h k = fits_as place.sum room (tree.Binary op.Sub a b) (grouped 5 token.Minus (print_of a) (print_of b)) (layer (Expr-F.Binary op.Sub a b) (tree.Binary op.Sub a b) (rolls-Binary op.Sub a b)) refl (false, grammar.joined h.1 grammar.subtract (grammar.of_sum k.1))
joined_fits {room = room} a b grammar.multiply h k = fits_as place.term room (tree.Binary op.Mul a b) (grouped 6 token.Star (print_of a) (print_of b)) (layer (Expr-F.Binary op.Mul a b) (tree.Binary op.Mul a b) (rolls-Binary op.Mul a b)) refl (false, grammar.joined h.1 grammar.multiply (grammar.of_term k.1))
joined_fits {room = room} a b grammar.divide h k = fits_as place.term room (tree.Binary op.FloorDiv a b) (grouped 6 token.SlashSlash (print_of a) (print_of b)) (layer (Expr-F.Binary op.FloorDiv a b) (tree.Binary op.FloorDiv a b) (rolls-Binary op.FloorDiv a b)) refl (false, grammar.joined h.1 grammar.divide (grammar.of_term k.1))
joined_fits {room = room} a b grammar.modulo h k = fits_as place.term room (tree.Binary op.Mod a b) (grouped 6 token.Percent (print_of a) (print_of b)) (layer (Expr-F.Binary op.Mod a b) (tree.Binary op.Mod a b) (rolls-Binary op.Mod a b)) refl (false, grammar.joined h.1 grammar.modulo (grammar.of_term k.1))

comparator_is : {os : List Lexeme} {c : Comparison} → IsComparator os c → comparator c ≡ os
comparator_is grammar.equal = refl
comparator_is grammar.unequal = refl
comparator_is grammar.less = refl
comparator_is grammar.less_equal = refl
comparator_is grammar.greater = refl
comparator_is grammar.greater_equal = refl
comparator_is grammar.inside = refl
comparator_is grammar.not_inside = refl
comparator_is grammar.same = refl
comparator_is grammar.not_same = refl

compared_fits : {room : ℕ} {os : List Lexeme} {c : Comparison} (a b : Expr) → IsComparator os c
    → Stands place.sum room (operand 5 (print_of a)) a → Stands place.sum room (operand 5 (print_of b)) b → Fits place.comparison room (print_of (tree.Compare c a b)) (tree.Compare c a b)
compared_fits {room = room} {os = os} {c = c} a b o h k =
    let stands : Stands place.comparison room (operand 5 (print_of a) ++ (os ++ operand 5 (print_of b))) (tree.Compare c a b) = (false, grammar.compared h.1 o k.1) in
    fits_as place.comparison room (tree.Compare c a b) (compared c (print_of a) (print_of b)) (layer (Expr-F.Compare c a b) (tree.Compare c a b) (rolls-Compare c a b)) refl
    (subst (λ l. Stands place.comparison room (operand 5 (print_of a) ++ (l ++ operand 5 (print_of b))) (tree.Compare c a b)) (sym (comparator_is o)) stands)

-- ---- items

abbrev Each : ℕ → List Expr → Type 0
Each room [] = Unit {0}
Each room (e ∷ es) = Stands place.disjunction room (expr_tokens e) e × Each room es

items_spelled : (room : ℕ) (es : List Expr) → Each room es → (is_open : Bool) × IsItems room (items (map print_of es)) es is_open
items_spelled room [] h = (true, grammar.no_items)
items_spelled room (e ∷ []) h = (false, subst (λ ts. IsItems room ts (e ∷ []) false) (sym (append-nil (expr_tokens e))) (grammar.last_item h.0.1))
items_spelled room (e ∷ x ∷ es) h =
    let others = items_spelled room (x ∷ es) h.1 in
    (others.0, grammar.next_item h.0.1 others.1)

-- an atom fits everywhere
atom_fits : (room : ℕ) (d : Expr-F Expr) (e : Expr) (ts : List Lexeme) → roll-Expr d ≡ e → printed_at (map-Expr Expr Printed print_of d) ≡ closed ts → Stands place.primary room ts e → Fits place.primary room (print_of e) e
atom_fits room d e ts rolls is stands = fits_as place.primary room e (closed ts) (layer d e rolls ∙ is) refl stands

list_fits : (room : ℕ) (es : List Expr) → Each room es → Fits place.primary (suc room) (print_of (tree.List es)) (tree.List es)
list_fits room es h = atom_fits (suc room) (Expr-F.List es) (tree.List es) (enclosed token.OpenBracket (items (map print_of es)) token.CloseBracket) (rolls-List es) refl (false, grammar.display (items_spelled room es h).1)

tuple_fits : (room : ℕ) (e : Expr) (es : List Expr) → Stands place.disjunction room (expr_tokens e) e → Each room es → Fits place.primary (suc room) (print_of (tree.Tuple (e ∷ es))) (tree.Tuple (e ∷ es))
tuple_fits room e es h k =
    atom_fits (suc room) (Expr-F.Tuple (e ∷ es)) (tree.Tuple (e ∷ es)) (enclosed token.OpenParen (expr_tokens e ++ token.Comma ∷ items (map print_of es)) token.CloseParen) (rolls-Tuple (e ∷ es)) refl
    (false, grammar.tuple h.1 (items_spelled room es k).1)

call_fits : (room : ℕ) (e : Expr) (es : List Expr) → Stands place.primary (suc room) (operand 8 (print_of e)) e → Each room es → Fits place.primary (suc room) (print_of (tree.Call e es)) (tree.Call e es)
call_fits room e es h k =
    atom_fits (suc room) (Expr-F.Call e es) (tree.Call e es) (operand 8 (print_of e) ++ enclosed token.OpenParen (items (map print_of es)) token.CloseParen) (rolls-Call e es) refl
    (false, grammar.call h.1 (items_spelled room es k).1)

attribute_stands : (room : ℕ) (e : Expr) (n : List ℕ) → Stands place.primary room (operand 8 (print_of e)) e → IsPrimary room (operand 8 (print_of e) ++ token.Dot ∷ token.Name n ∷ []) (target (tree.Attribute e n))
attribute_stands room e n h = grammar.attribute n h.1

subscript_stands : (room : ℕ) (e x : Expr) → Stands place.primary (suc room) (operand 8 (print_of e)) e → Stands place.disjunction room (expr_tokens x) x
    → IsPrimary (suc room) (operand 8 (print_of e) ++ enclosed token.OpenBracket (expr_tokens x) token.CloseBracket) (target (tree.Subscript e x))
subscript_stands room e x h k = grammar.subscript h.1 k.1

name_is : (n : List ℕ) → print_of (tree.Name n) ≡ closed (token.Name n ∷ [])
name_is n = layer (Expr-F.Name n) (tree.Name n) (rolls-Name n)

attribute_is : (e : Expr) (n : List ℕ) → print_of (tree.Attribute e n) ≡ closed (operand 8 (print_of e) ++ token.Dot ∷ token.Name n ∷ [])
attribute_is e n = layer (Expr-F.Attribute e n) (tree.Attribute e n) (rolls-Attribute e n)

subscript_is : (e x : Expr) → print_of (tree.Subscript e x) ≡ closed (operand 8 (print_of e) ++ enclosed token.OpenBracket (expr_tokens x) token.CloseBracket)
subscript_is e x = layer (Expr-F.Subscript e x) (tree.Subscript e x) (rolls-Subscript e x)

-- ---- what is spelled somewhere fits there when it is printed

mutual
  pub fits_chain : {at : Level} {room : ℕ} {ts : List Lexeme} {e : Spelled} → IsChain at room ts e → Fits (chain_place at) room (print_of e.tree) e.tree
  fits_chain (grammar.alone {level = at} h) = looser (chain_place at) (operand_place at) (closer at) (fits_operand h)
  fits_chain (grammar.joined {a = a} {b = b} h o k) = joined_fits a.tree b.tree o (placed (fits_chain h)) (placed (fits_operand k))

  fits_operand : {at : Level} {room : ℕ} {ts : List Lexeme} {e : Spelled} → IsOperand at room ts e → Fits (operand_place at) room (print_of e.tree) e.tree
  fits_operand (grammar.of_or h) = fits_chain h
  fits_operand (grammar.of_and h) = fits_inversion h
  fits_operand (grammar.of_sum h) = fits_chain h
  fits_operand (grammar.of_term h) = fits_factor h

  fits_inversion : {room : ℕ} {ts : List Lexeme} {e : Spelled} → IsInversion room ts e → Fits place.inversion room (print_of e.tree) e.tree
  fits_inversion (grammar.inverted {room = room} {e = e} h) =
      fits_as place.inversion (suc room) (tree.Not e.tree) (prefixed 3 token.Not (print_of e.tree)) (layer (Expr-F.Not e.tree) (tree.Not e.tree) (rolls-Not e.tree)) refl (false, grammar.inverted (placed (fits_inversion h)).1)
  fits_inversion (grammar.comparison h) = looser place.inversion place.comparison (omega arith) (fits_comparison h)

  fits_comparison : {room : ℕ} {ts : List Lexeme} {e : Spelled} → IsComparison room ts e → Fits place.comparison room (print_of e.tree) e.tree
  fits_comparison (grammar.sum h) = looser place.comparison place.sum (omega arith) (fits_chain h)
  fits_comparison (grammar.compared {a = a} {b = b} h o k) = compared_fits a.tree b.tree o (placed (fits_chain h)) (placed (fits_chain k))

  fits_factor : {room : ℕ} {ts : List Lexeme} {e : Spelled} → IsFactor room ts e → Fits place.factor room (print_of e.tree) e.tree
  fits_factor (grammar.negative {room = room} {e = e} h) =
      fits_as place.factor (suc room) (tree.Negative e.tree) (prefixed 7 token.Minus (print_of e.tree)) (layer (Expr-F.Negative e.tree) (tree.Negative e.tree) (rolls-Negative e.tree)) refl (false, grammar.negative (placed (fits_factor h)).1)
  fits_factor (grammar.primary h) = looser place.factor place.primary (omega arith) (fits_primary h)

  pub fits_primary : {room : ℕ} {ts : List Lexeme} {e : Spelled} → IsPrimary room ts e → Fits place.primary room (print_of e.tree) e.tree
  fits_primary (grammar.name {room = room} n) = fits_as place.primary room (tree.Name n) (closed (token.Name n ∷ [])) (name_is n) refl (true, grammar.name n)
  fits_primary (grammar.number {room = room} n) = atom_fits room (Expr-F.Number n) (tree.Number n) (token.Number n ∷ []) (rolls-Number n) refl (false, grammar.number n)
  fits_primary (grammar.string {room = room} s) = atom_fits room (Expr-F.Str s) (tree.Str s) (token.Str s ∷ []) (rolls-Str s) refl (false, grammar.string s)
  fits_primary (grammar.none {room = room}) = atom_fits room Expr-F.Nothing tree.Nothing (token.None ∷ []) rolls-Nothing refl (false, grammar.none)
  fits_primary (grammar.yes {room = room}) = atom_fits room Expr-F.True tree.True (token.True ∷ []) rolls-True refl (false, grammar.yes)
  fits_primary (grammar.no {room = room}) = atom_fits room Expr-F.False tree.False (token.False ∷ []) rolls-False refl (false, grammar.no)
  fits_primary (grammar.parens h) = parenthesised place.primary (fits_chain h)
  fits_primary (grammar.empty_tuple {room = room}) = atom_fits (suc room) (Expr-F.Tuple []) (tree.Tuple []) (token.OpenParen ∷ token.CloseParen ∷ []) (rolls-Tuple []) refl (false, grammar.empty_tuple)
  fits_primary (grammar.tuple {room = room} {e = e} {es = es} h k) = tuple_fits room e.tree es (whole (fits_chain h).own) (fits_items k)
  fits_primary (grammar.display {room = room} {es = es} h) = list_fits room es (fits_items h)
  fits_primary (grammar.attribute {room = room} {e = e} n h) =
      fits_as place.primary room (tree.Attribute e.tree n) (closed (operand 8 (print_of e.tree) ++ token.Dot ∷ token.Name n ∷ [])) (attribute_is e.tree n) refl (true, attribute_stands room e.tree n (placed (fits_primary h)))
  fits_primary (grammar.call {room = room} {e = e} {es = es} h k) = call_fits room e.tree es (placed (fits_primary h)) (fits_items k)
  fits_primary (grammar.subscript {room = room} {e = e} {x = x} h k) =
      fits_as place.primary (suc room) (tree.Subscript e.tree x.tree) (closed (operand 8 (print_of e.tree) ++ enclosed token.OpenBracket (expr_tokens x.tree) token.CloseBracket)) (subscript_is e.tree x.tree) refl
      (true, subscript_stands room e.tree x.tree (placed (fits_primary h)) (whole (fits_chain k).own))

  fits_items : {room : ℕ} {ts : List Lexeme} {es : List Expr} {is_open : Bool} → IsItems room ts es is_open → Each room es
  fits_items grammar.no_items = tt
  fits_items (grammar.last_item h) = (whole (fits_chain h).own, tt)
  fits_items (grammar.next_item h k) = (whole (fits_chain h).own, fits_items k)

-- ---- for statements

pub expr_printed : {room : ℕ} {ts : List Lexeme} {e : Spelled} → IsChain Disjunction room ts e → Stands place.disjunction room (expr_tokens e.tree) e.tree
expr_printed h = whole (fits_chain h).own

-- a target is printed as a target
pub target_printed : {room : ℕ} {ts : List Lexeme} {e : Spelled} → IsPrimary room ts e → e.is_target ≡ true → IsPrimary room (expr_tokens e.tree) (target e.tree)
target_printed (grammar.name {room = room} n) t = subst (λ p. IsPrimary room p.tokens (target (tree.Name n))) (sym (name_is n)) (grammar.name n)
target_printed (grammar.number n) t = absurd cc
target_printed (grammar.string s) t = absurd cc
target_printed grammar.none t = absurd cc
target_printed grammar.yes t = absurd cc
target_printed grammar.no t = absurd cc
target_printed (grammar.parens h) t = absurd cc
target_printed grammar.empty_tuple t = absurd cc
target_printed (grammar.tuple h k) t = absurd cc
target_printed (grammar.display h) t = absurd cc
target_printed (grammar.attribute {room = room} {e = e} n h) t = subst (λ p. IsPrimary room p.tokens (target (tree.Attribute e.tree n))) (sym (attribute_is e.tree n)) (attribute_stands room e.tree n (placed (fits_primary h)))
target_printed (grammar.call h k) t = absurd cc
target_printed (grammar.subscript {room = room} {e = e} {x = x} h k) t =
    subst (λ p. IsPrimary (suc room) p.tokens (target (tree.Subscript e.tree x.tree))) (sym (subscript_is e.tree x.tree)) (subscript_stands room e.tree x.tree (placed (fits_primary h)) (whole (fits_chain k).own))
