-- Each form of expression is read rightly, where the forms one level further in are.
use Rattle.std.proofs.Common.{◌≡◌, ℕ, zero, suc, ◌==◌, ◌&&◌, ◌<◌, Bool, true, false, List, [], ◌∷◌, ◌++◌, length, Option, Some, None, Result, Ok, Err, refl, sym, ap, subst, ◌∙◌, append_assoc, append-nil, arith, length-append}
use Rattle.std.specs.Prelude.{if◌then◌else◌}
use Rattle.source_combinators.specs.declared.fault.Fault.{Fault}
use Rattle.source_combinators.specs.declared.fault.Refusal.TheVariants.{TooDeep, Syntax}
use Rattle.source_combinators.specs.Reading.{Read, ◌>>=◌, given, refused, too_deep, head_of}
use Rattle.source_combinators.specs.Many.{rounds}
use Rattle.source_combinators.proofs.Right.{at_head, at_end, Found, Goes_on, Stuck, Right, refuses, refuses_end, refuses_level, level, chosen, IsSequence, sequence}
use Rattle.source_combinators.proofs.Steps.{nothing, IsNothing, nothing_right, nothing_goes_on, IsToken, token_goes_on, one_read}
use Rattle.source_combinators.proofs.Many.{IsRounds, bind_pairs, right_many}
use Rattle.source_combinators.proofs.Forms.{Grows, AllRight, right_then, prefixed, enclosed, IsRest, left_rounds, right_left, right_optional, as_named, widened, rest_goes_on, rest_none}
use Rattle.py_syntax.specs.declared.lexeme.Lexeme.{Lexeme}
use Rattle.py_syntax.specs.declared.lexeme.Lexeme.TheVariants as token
use Rattle.py_syntax.specs.declared.expr.Expr.{Expr}
use Rattle.py_syntax.specs.declared.expr.Expr.TheVariants as tree
use Rattle.py_syntax.specs.declared.expr.Comparison.{Comparison}
use Rattle.py_syntax.specs.declared.expr.Comparison.TheVariants as comparing
use Rattle.py_syntax.specs.declared.expr.Level.{Level}
use Rattle.py_syntax.specs.declared.expr.Level.TheVariants.{Disjunction, Conjunction, Sum, Term}
use Rattle.py_syntax.specs.declared.expr.Spelled.{Spelled}
use Rattle.py_syntax.specs.declared.expr.Items.{Items}
use Rattle.py_syntax.specs.Expressions as grammar
use Rattle.py_syntax.specs.Expressions.{target, other, IsOperator, IsComparator, IsChain, IsOperand, IsInversion, IsComparison, IsFactor, IsPrimary, IsItems, IsExpr}
use Rattle.source_spec_lines.specs.Expressions as reading
use Rattle.source_spec_lines.specs.Expressions.{Reader, Form, Whole, Inverted, Signed, Inner, starts, strength, strength_of, close_paren, close_bracket, comma, with_item, item, begins_item, all_items, parenthesised_by, parenthesised, in_parens, in_brackets, atom, after_dot, call_with, subscript_with, trailer, begins_trailer, primary, factor, join, joins, begins_join, chain, after_not, after_is, comparator, compare_with, begins_comparison, compared, comparison, inversion, sums, operand, form_by, form}
use Rattle.source_spec_lines.proofs.ExpressionFamilies.{grows_chain, grows_operand, grows_inversion, grows_comparison, grows_factor, grows_primary, grows_items, some_chain}
use Rattle.source_spec_lines.proofs.TokenForms.{right_close_paren, right_close_bracket, IsComma, comma_there, no_comma, right_comma, operator_of}

-- what each form spells
abbrev pub IsForm : Form → ℕ → List Lexeme → Spelled → Type 0
IsForm Whole = IsExpr
IsForm Inverted = IsInversion
IsForm Signed = IsFactor

-- the readers one level further in, where there is a level left
pub data IsInner : Inner → ℕ → Type 0 where
  at_bottom : IsInner None 0
  deeper : (f : Form → Reader) (room : ℕ) → ((entry : Form) → AllRight (f entry) (IsForm entry) room) → IsInner (Some f) (suc room)

abbrev pub IsExprReader : Reader → ℕ → Type 0
IsExprReader f room = AllRight f IsExpr room

-- a name, where an expression may stand
abbrev pub a_name : List Lexeme
a_name = token.Name (97 ∷ []) ∷ []

abbrev pub the_name : Spelled
the_name = target (tree.Name (97 ∷ []))

pub name_primary : (room : ℕ) → IsPrimary room a_name the_name
name_primary room = grammar.name (97 ∷ [])

pub name_factor : (room : ℕ) → IsFactor room a_name the_name
name_factor room = grammar.primary (name_primary room)

pub name_term : (room : ℕ) → IsChain Term room a_name the_name
name_term room = grammar.alone (grammar.of_term (name_factor room))

pub name_sum : (room : ℕ) → IsChain Sum room a_name the_name
name_sum room = grammar.alone (grammar.of_sum (name_term room))

pub name_inversion : (room : ℕ) → IsInversion room a_name the_name
name_inversion room = grammar.comparison (grammar.sum (name_sum room))

pub name_expr : (room : ℕ) → IsExpr room a_name the_name
name_expr room = grammar.alone (grammar.of_or (grammar.alone (grammar.of_and (name_inversion room))))

-- ---- items

-- one more item
pub data IsItem : Items → ℕ → List Lexeme → Items → Type 0 where
  an_item : {room : ℕ} {found : List Expr} {b : Bool} {ts us : List Lexeme} {e : Spelled} → IsExpr room ts e → IsComma room us b → IsItem (record { found = found; is_open = true }) room (ts ++ us) (with_item found e.tree b)

abbrev pub open_items : List Expr → Items
open_items found = record { found = found; is_open = true }

right_open_item : (f : Reader) (room : ℕ) → IsExprReader f room → (found : List Expr) (ts : List Lexeme) → Right (item f (open_items found)) (IsItem (open_items found)) room ts (item f (open_items found) ts)
unfolding item
right_open_item f room h found ts =
    sequence {p = []} {F = f} {IsA = IsExpr} {G = λ x. comma} {IsB = λ x. IsComma} {f = λ x b. with_item found x.tree b} {H = item f (open_items found)} {IsC = IsItem (open_items found)} (record {
      computes = λ us. refl;
      builds = λ n xs ys x b q c. an_item q c;
      grows = λ n xs x q. grows_chain q;
      finishes = λ n x. record { more = []; value = false; spelled = no_comma };
    }) room ts (h ts) (λ x rest k. right_comma room rest)

right_item : (f : Reader) (room : ℕ) → IsExprReader f room → (found : List Expr) (is_open : Bool) (ts : List Lexeme) → begins_item (record { found = found; is_open = is_open }) (head_of ts) ≡ true → Right (item f (record { found = found; is_open = is_open })) (IsItem (record { found = found; is_open = is_open })) room ts (item f (record { found = found; is_open = is_open }) ts)
right_item f room h found true ts e = right_open_item f room h found ts
right_item f room h found false ts e = absurd cc

grows_comma : (n : ℕ) (ts : List Lexeme) (b : Bool) → IsComma n ts b → IsComma (suc n) ts b
grows_comma n ts b comma_there = comma_there
grows_comma n ts b no_comma = no_comma

grows_item : (n : ℕ) (s t : Items) (ts : List Lexeme) → IsItem s n ts t → IsItem s (suc n) ts t
grows_item n s t ts (an_item h k) = an_item (grows_chain h) (grows_comma n _ _ k)

takes_item : (n : ℕ) (s t : Items) (ts : List Lexeme) → IsItem s n ts t → 0 < length ts
takes_item n s t ts (an_item {ts = xs} {us = us} h k) = omega (arith, length-append xs us, some_chain h)

-- items behind those that are found already, from whether another one may follow to whether one may follow then
pub data IsMore : List Expr → Bool → ℕ → List Lexeme → List Expr → Bool → Type 0 where
  goes_on : {room : ℕ} {found es : List Expr} {ts : List Lexeme} {o : Bool} → IsItems room ts es o → IsMore found true room ts (found ++ es) o
  stays : {room : ℕ} {found : List Expr} {is_open : Bool} → IsMore found is_open room [] found is_open

abbrev pub IsMoreItems : Items → ℕ → List Lexeme → Items → Type 0
IsMoreItems s room ts t = IsMore s.found s.is_open room ts t.found t.is_open

after_comma : {room : ℕ} {found all : List Expr} {o : Bool} {xs ys : List Lexeme} {e : Spelled} → IsExpr room xs e → IsMore (found ++ e.tree ∷ []) true room ys all o → IsMore found true room ((xs ++ token.Comma ∷ []) ++ ys) all o
after_comma {room = room} {found = found} {o = o} {xs = xs} {e = e} h (goes_on {es = es} {ts = ts} k) =
    subst (λ (l : List Lexeme). IsMore found true room l ((found ++ e.tree ∷ []) ++ es) o) (sym (append_assoc xs (token.Comma ∷ []) ts))
    (subst (λ (l : List Expr). IsMore found true room (xs ++ token.Comma ∷ ts) l o) (sym (append_assoc found (e.tree ∷ []) es)) (goes_on (grammar.next_item h k)))
after_comma {room = room} {found = found} {xs = xs} {e = e} h stays =
    subst (λ (l : List Lexeme). IsMore found true room l (found ++ e.tree ∷ []) true) (sym (append-nil (xs ++ token.Comma ∷ []))) (goes_on (grammar.next_item h grammar.no_items))

after_none : {room : ℕ} {found all : List Expr} {o : Bool} {xs ys : List Lexeme} {e : Spelled} → IsExpr room xs e → IsMore (found ++ e.tree ∷ []) false room ys all o → IsMore found true room ((xs ++ []) ++ ys) all o
after_none {room = room} {found = found} {xs = xs} {e = e} h stays =
    subst (λ (l : List Lexeme). IsMore found true room l (found ++ e.tree ∷ []) false) (sym (append-nil (xs ++ []) ∙ append-nil xs)) (goes_on (grammar.last_item h))

more_items : (n : ℕ) (s t u : Items) (xs ys : List Lexeme) → IsItem s n xs t → IsMoreItems t n ys u → IsMoreItems s n (xs ++ ys) u
more_items n s t u xs ys (an_item h comma_there) k = after_comma h k
more_items n s t u xs ys (an_item h no_comma) k = after_none h k

pub item_rounds : (f : Reader) (room : ℕ) → IsExprReader f room → IsRounds begins_item (item f) IsItem IsMoreItems room
item_rounds f room h = record {
  right = λ s ts e. right_item f room h s.found s.is_open ts e;
  takes = takes_item room;
  grows = grows_item;
  none = λ n s. stays;
  more = more_items;
}

-- all items of a list, from none on
abbrev pub IsAllItems : ℕ → List Lexeme → Items → Type 0
IsAllItems room ts a = IsItems room ts a.found a.is_open

more_all : {room : ℕ} {ts : List Lexeme} {found es : List Expr} {is_open o : Bool} → found ≡ [] → is_open ≡ true → IsMore found is_open room ts es o → IsItems room ts es o
more_all {room = room} {ts = ts} {o = o} f e (goes_on {es = es} k) = subst (λ (l : List Expr). IsItems room ts (l ++ es) o) (sym f) k
more_all {room = room} f e (stays {found = found} {is_open = is_open}) = subst (λ (l : List Expr). IsItems room [] l is_open) (sym f) (subst (λ (b : Bool). IsItems room [] [] b) (sym e) grammar.no_items)

items_as_rounds : (f : Reader) (us : List Lexeme) → all_items f us ≡ rounds begins_item (item f) reading.no_items us
unfolding all_items
items_as_rounds f us = refl

pub right_all_items : (f : Reader) (room : ℕ) → IsExprReader f room → AllRight (all_items f) IsAllItems room
right_all_items f room h =
    as_named (rounds begins_item (item f) reading.no_items) (all_items f) IsAllItems room (items_as_rounds f)
    (widened (rounds begins_item (item f) reading.no_items) (IsMoreItems reading.no_items) IsAllItems room (λ n xs a k. more_all refl refl k) (λ ts. right_many (item_rounds f room h) reading.no_items ts))

grows_all : Grows IsAllItems
grows_all n ts a h = grows_items h

-- ---- what stands in brackets

-- one item without a comma stands for itself, and the others are a tuple
parens_of : {room : ℕ} {ts : List Lexeme} {es : List Expr} {o : Bool} → IsItems room ts es o → IsPrimary (suc room) (token.OpenParen ∷ (ts ++ token.CloseParen ∷ [])) (parenthesised_by es o)
parens_of grammar.no_items = grammar.empty_tuple
parens_of (grammar.last_item h) = grammar.parens h
parens_of (grammar.next_item h grammar.no_items) = grammar.tuple h grammar.no_items
parens_of (grammar.next_item h (grammar.last_item k)) = grammar.tuple h (grammar.last_item k)
parens_of (grammar.next_item h (grammar.next_item k q)) = grammar.tuple h (grammar.next_item k q)

right_parens : (f : Form → Reader) (room : ℕ) → IsExprReader (f Whole) room → (ts : List Lexeme) → Right (atom (Some f)) IsPrimary (suc room) (token.OpenParen ∷ ts) (atom (Some f) (token.OpenParen ∷ ts))
unfolding atom in_parens
right_parens f room h ts =
    level (atom (Some f)) IsPrimary room (token.OpenParen ∷ ts) (atom (Some f) (token.OpenParen ∷ ts))
    (enclosed (token.OpenParen ∷ []) token.CloseParen (all_items (f Whole)) IsAllItems close_paren parenthesised (atom (Some f)) (λ n. IsPrimary (suc n)) (λ us. refl) (λ n xs a k. parens_of k) grows_all room (right_close_paren room) ts (right_all_items (f Whole) room h ts))

right_brackets : (f : Form → Reader) (room : ℕ) → IsExprReader (f Whole) room → (ts : List Lexeme) → Right (atom (Some f)) IsPrimary (suc room) (token.OpenBracket ∷ ts) (atom (Some f) (token.OpenBracket ∷ ts))
unfolding atom in_brackets
right_brackets f room h ts =
    level (atom (Some f)) IsPrimary room (token.OpenBracket ∷ ts) (atom (Some f) (token.OpenBracket ∷ ts))
    (enclosed (token.OpenBracket ∷ []) token.CloseBracket (all_items (f Whole)) IsAllItems close_bracket (λ a. other (tree.List a.found)) (atom (Some f)) (λ n. IsPrimary (suc n)) (λ us. refl) (λ n xs a k. grammar.display k) grows_all room (right_close_bracket room) ts (right_all_items (f Whole) room h ts))

some_primary : (room : ℕ) → Goes_on IsPrimary room []
some_primary room = record { more = a_name; value = the_name; spelled = name_primary room }

pub right_atom : (inner : Inner) (room : ℕ) → IsInner inner room → AllRight (atom inner) IsPrimary room
unfolding atom
right_atom inner room i [] = refuses_end (atom inner) IsPrimary room (some_primary room) refl
right_atom inner room i (token.Name n ∷ ts) = one_read (atom inner) IsPrimary room (target (tree.Name n)) (token.Name n) ts (grammar.name n) (λ tail. refl)
right_atom inner room i (token.Number n ∷ ts) = one_read (atom inner) IsPrimary room (other (tree.Number n)) (token.Number n) ts (grammar.number n) (λ tail. refl)
right_atom inner room i (token.Str s ∷ ts) = one_read (atom inner) IsPrimary room (other (tree.Str s)) (token.Str s) ts (grammar.string s) (λ tail. refl)
right_atom inner room i (token.None ∷ ts) = one_read (atom inner) IsPrimary room (other tree.Nothing) token.None ts grammar.none (λ tail. refl)
right_atom inner room i (token.True ∷ ts) = one_read (atom inner) IsPrimary room (other tree.True) token.True ts grammar.yes (λ tail. refl)
right_atom inner room i (token.False ∷ ts) = one_read (atom inner) IsPrimary room (other tree.False) token.False ts grammar.no (λ tail. refl)
right_atom inner room at_bottom (token.OpenParen ∷ ts) = refuses_level (atom None) IsPrimary 0 token.OpenParen ts (some_primary 0) (record { more = token.CloseParen ∷ []; value = other (tree.Tuple []); spelled = grammar.empty_tuple }) (λ tail. refl)
right_atom inner room (deeper f k h) (token.OpenParen ∷ ts) = right_parens f k (h Whole) ts
right_atom inner room at_bottom (token.OpenBracket ∷ ts) = refuses_level (atom None) IsPrimary 0 token.OpenBracket ts (some_primary 0) (record { more = token.CloseBracket ∷ []; value = other (tree.List []); spelled = grammar.display grammar.no_items }) (λ tail. refl)
right_atom inner room (deeper f k h) (token.OpenBracket ∷ ts) = right_brackets f k (h Whole) ts
right_atom inner room i (t ∷ ts) = refuses (atom inner) IsPrimary room t ts (some_primary room) (λ tail. refl)

-- ---- what follows an atom

pub data IsTrailer : Spelled → ℕ → List Lexeme → Spelled → Type 0 where
  dotted : {room : ℕ} {e : Spelled} (n : List ℕ) → IsTrailer e room (token.Dot ∷ token.Name n ∷ []) (target (tree.Attribute e.tree n))
  called : {room : ℕ} {ts : List Lexeme} {e : Spelled} {es : List Expr} {o : Bool} → IsItems room ts es o → IsTrailer e (suc room) (token.OpenParen ∷ (ts ++ token.CloseParen ∷ [])) (other (tree.Call e.tree es))
  subscripted : {room : ℕ} {ts : List Lexeme} {e x : Spelled} → IsExpr room ts x → IsTrailer e (suc room) (token.OpenBracket ∷ (ts ++ token.CloseBracket ∷ [])) (target (tree.Subscript e.tree x.tree))

-- the name behind a dot
pub data IsAttribute : Expr → ℕ → List Lexeme → Spelled → Type 0 where
  an_attribute : {room : ℕ} {e : Expr} (n : List ℕ) → IsAttribute e room (token.Name n ∷ []) (target (tree.Attribute e n))

attribute_goes_on : (e : Expr) (room : ℕ) → Goes_on (IsAttribute e) room []
attribute_goes_on e room = record { more = a_name; value = target (tree.Attribute e (97 ∷ [])); spelled = an_attribute (97 ∷ []) }

right_after_dot : (e : Expr) (room : ℕ) → AllRight (after_dot e) (IsAttribute e) room
unfolding after_dot
right_after_dot e room [] = refuses_end (after_dot e) (IsAttribute e) room (attribute_goes_on e room) refl
right_after_dot e room (token.Name n ∷ ts) = one_read (after_dot e) (IsAttribute e) room (target (tree.Attribute e n)) (token.Name n) ts (an_attribute n) (λ tail. refl)
right_after_dot e room (t ∷ ts) = refuses (after_dot e) (IsAttribute e) room t ts (attribute_goes_on e room) (λ tail. refl)

dotted_by : {room : ℕ} {e x : Spelled} {ts : List Lexeme} → IsAttribute e.tree room ts x → IsTrailer e room (token.Dot ∷ ts) x
dotted_by (an_attribute n) = dotted n

grows_attribute : (e : Expr) → Grows (IsAttribute e)
grows_attribute e n ts x (an_attribute m) = an_attribute m

read_again : (r : Read Lexeme Spelled) → r ≡ (r >>= λ x. given x.0 x.1)
read_again (Ok x) = refl
read_again (Err fault) = refl

right_dot : (inner : Inner) (room : ℕ) (e : Spelled) (ts : List Lexeme) → Right (trailer inner e) (IsTrailer e) room (token.Dot ∷ ts) (trailer inner e (token.Dot ∷ ts))
unfolding trailer
right_dot inner room e ts = prefixed (token.Dot ∷ []) (after_dot e.tree) (IsAttribute e.tree) (λ x. x) (trailer inner e) (IsTrailer e) (λ us. read_again (after_dot e.tree us)) (λ n xs a k. dotted_by k) (grows_attribute e.tree) room ts (right_after_dot e.tree room ts)

right_call : (f : Form → Reader) (room : ℕ) → IsExprReader (f Whole) room → (e : Spelled) (ts : List Lexeme) → Right (trailer (Some f) e) (IsTrailer e) (suc room) (token.OpenParen ∷ ts) (trailer (Some f) e (token.OpenParen ∷ ts))
unfolding trailer call_with
right_call f room h e ts =
    level (trailer (Some f) e) (IsTrailer e) room (token.OpenParen ∷ ts) (trailer (Some f) e (token.OpenParen ∷ ts))
    (enclosed (token.OpenParen ∷ []) token.CloseParen (all_items (f Whole)) IsAllItems close_paren (λ a. other (tree.Call e.tree a.found)) (trailer (Some f) e) (λ n. IsTrailer e (suc n)) (λ us. refl) (λ n xs a k. called k) grows_all room (right_close_paren room) ts (right_all_items (f Whole) room h ts))

right_subscript : (f : Form → Reader) (room : ℕ) → IsExprReader (f Whole) room → (e : Spelled) (ts : List Lexeme) → Right (trailer (Some f) e) (IsTrailer e) (suc room) (token.OpenBracket ∷ ts) (trailer (Some f) e (token.OpenBracket ∷ ts))
unfolding trailer subscript_with
right_subscript f room h e ts =
    level (trailer (Some f) e) (IsTrailer e) room (token.OpenBracket ∷ ts) (trailer (Some f) e (token.OpenBracket ∷ ts))
    (enclosed (token.OpenBracket ∷ []) token.CloseBracket (f Whole) IsExpr close_bracket (λ x. target (tree.Subscript e.tree x.tree)) (trailer (Some f) e) (λ n. IsTrailer e (suc n)) (λ us. refl) (λ n xs a k. subscripted k) (λ n xs a k. grows_chain k) room (right_close_bracket room) ts (h ts))

trailer_goes_on : (e : Spelled) (room : ℕ) → Goes_on (IsTrailer e) room []
trailer_goes_on e room = record { more = token.Dot ∷ a_name; value = target (tree.Attribute e.tree (97 ∷ [])); spelled = dotted (97 ∷ []) }

right_trailer : (inner : Inner) (room : ℕ) → IsInner inner room → (e : Spelled) → AllRight (trailer inner e) (IsTrailer e) room
unfolding trailer
right_trailer inner room i e [] = refuses_end (trailer inner e) (IsTrailer e) room (trailer_goes_on e room) refl
right_trailer inner room i e (token.Dot ∷ ts) = right_dot inner room e ts
right_trailer inner room at_bottom e (token.OpenParen ∷ ts) = refuses_level (trailer None e) (IsTrailer e) 0 token.OpenParen ts (trailer_goes_on e 0) (record { more = token.CloseParen ∷ []; value = other (tree.Call e.tree []); spelled = called grammar.no_items }) (λ tail. refl)
right_trailer inner room (deeper f k h) e (token.OpenParen ∷ ts) = right_call f k (h Whole) e ts
right_trailer inner room at_bottom e (token.OpenBracket ∷ ts) = refuses_level (trailer None e) (IsTrailer e) 0 token.OpenBracket ts (trailer_goes_on e 0) (record { more = token.Name (97 ∷ []) ∷ token.CloseBracket ∷ []; value = target (tree.Subscript e.tree (tree.Name (97 ∷ []))); spelled = subscripted (name_expr 0) }) (λ tail. refl)
right_trailer inner room (deeper f k h) e (token.OpenBracket ∷ ts) = right_subscript f k (h Whole) e ts
right_trailer inner room i e (t ∷ ts) = refuses (trailer inner e) (IsTrailer e) room t ts (trailer_goes_on e room) (λ tail. refl)

takes_trailer : (n : ℕ) (e x : Spelled) (ts : List Lexeme) → IsTrailer e n ts x → 0 < length ts
takes_trailer n e x ts (dotted k) = omega arith
takes_trailer n e x ts (called {ts = us} k) = omega arith
takes_trailer n e x ts (subscripted {ts = us} k) = omega arith

grows_trailer : (n : ℕ) (e x : Spelled) (ts : List Lexeme) → IsTrailer e n ts x → IsTrailer e (suc n) ts x
grows_trailer n e x ts (dotted k) = dotted k
grows_trailer n e x ts (called k) = called (grows_items k)
grows_trailer n e x ts (subscripted k) = subscripted (grows_chain k)

trailed : (n : ℕ) (e x : Spelled) (xs ts : List Lexeme) → IsPrimary n xs e → IsTrailer e n ts x → IsPrimary n (xs ++ ts) x
trailed n e x xs ts h (dotted k) = grammar.attribute k h
trailed n e x xs ts h (called k) = grammar.call h k
trailed n e x xs ts h (subscripted k) = grammar.subscript h k

pub trailer_rounds : (inner : Inner) (room : ℕ) → IsInner inner room → IsRounds begins_trailer (trailer inner) IsTrailer (IsRest IsPrimary) room
trailer_rounds inner room i = left_rounds begins_trailer (trailer inner) IsTrailer IsPrimary room (λ e ts k. right_trailer inner room i e ts) (takes_trailer room) grows_trailer trailed

pub right_primary : (inner : Inner) (room : ℕ) → IsInner inner room → AllRight (primary inner) IsPrimary room
unfolding primary
right_primary inner room i = right_left (atom inner) IsPrimary begins_trailer (trailer inner) IsTrailer (primary inner) IsPrimary room (trailer_rounds inner room i) (λ us. refl) (λ n xs a h. h) (λ n xs a h. grows_primary h) (right_atom inner room i)

-- ---- signs

some_factor : (room : ℕ) → Goes_on IsFactor room []
some_factor room = record { more = a_name; value = the_name; spelled = name_factor room }

right_minus : (f : Form → Reader) (room : ℕ) → AllRight (f Signed) IsFactor room → (ts : List Lexeme) → Right (factor (Some f)) IsFactor (suc room) (token.Minus ∷ ts) (factor (Some f) (token.Minus ∷ ts))
unfolding factor
right_minus f room h ts =
    level (factor (Some f)) IsFactor room (token.Minus ∷ ts) (factor (Some f) (token.Minus ∷ ts))
    (prefixed (token.Minus ∷ []) (f Signed) IsFactor (λ e. other (tree.Negative e.tree)) (factor (Some f)) (λ n. IsFactor (suc n)) (λ us. refl) (λ n xs a k. grammar.negative k) (λ n xs a k. grows_factor k) room ts (h ts))

-- as a primary, where the token ahead is no minus
factor_as : (inner : Inner) (room : ℕ) → IsInner inner room → (ts : List Lexeme) → ((us : List Lexeme) → head_of us ≡ head_of ts → factor inner us ≡ primary inner us) → Right (factor inner) IsFactor room ts (primary inner ts)
factor_as inner room i ts c = chosen (primary inner) (factor inner) IsPrimary IsFactor room ts (primary inner ts) c (λ n xs a h. grammar.primary h) (right_primary inner room i ts)

pub right_factor : (inner : Inner) (room : ℕ) → IsInner inner room → AllRight (factor inner) IsFactor room
unfolding factor
right_factor inner room at_bottom [] = factor_as None 0 at_bottom [] (λ us e. at_end (λ l. factor None l ≡ primary None l) us e refl)
right_factor inner room (deeper f k h) [] = factor_as (Some f) (suc k) (deeper f k h) [] (λ us e. at_end (λ l. factor (Some f) l ≡ primary (Some f) l) us e refl)
right_factor inner room at_bottom (token.Minus ∷ ts) = refuses_level (factor None) IsFactor 0 token.Minus ts (some_factor 0) (record { more = a_name; value = other (tree.Negative (tree.Name (97 ∷ []))); spelled = grammar.negative (name_factor 0) }) (λ tail. refl)
right_factor inner room (deeper f k h) (token.Minus ∷ ts) = right_minus f k (h Signed) ts
right_factor inner room at_bottom (t ∷ ts) = factor_as None 0 at_bottom (t ∷ ts) (λ us e. at_head (λ l. factor None l ≡ primary None l) t us e (λ tail. refl))
right_factor inner room (deeper f k h) (t ∷ ts) = factor_as (Some f) (suc k) (deeper f k h) (t ∷ ts) (λ us e. at_head (λ l. factor (Some f) l ≡ primary (Some f) l) t us e (λ tail. refl))

-- ---- operators between operands

pub data IsJoin : Level → Spelled → ℕ → List Lexeme → Spelled → Type 0 where
  joins_to : {level : Level} {room : ℕ} {t : Lexeme} {f : Expr → Expr → Expr} {ts : List Lexeme} {a b : Spelled} → IsOperator level t f → IsOperand level room ts b → IsJoin level a room (t ∷ ts) (other (f a.tree b.tree))

no_operator : (l : Level) → (strength None == strength_of l) ≡ true → ⊥
unfolding strength
no_operator Disjunction e = absurd cc
no_operator Conjunction e = absurd cc
no_operator Sum e = absurd cc
no_operator Term e = absurd cc

right_join : (level : Level) (f : Reader) (room : ℕ) → AllRight f (IsOperand level) room → (a : Spelled) (ts : List Lexeme) → begins_join level a (head_of ts) ≡ true → Right (joins f a) (IsJoin level a) room ts (joins f a ts)
unfolding joins
right_join level f room h a [] e = absurd (no_operator level e)
right_join level f room h a (t ∷ ts) e =
    prefixed (t ∷ []) f (IsOperand level) (λ b. other (join t a.tree b.tree)) (joins f a) (IsJoin level a) (λ us. refl) (λ n xs b k. joins_to (operator_of level t e) k) (λ n xs b k. grows_operand k) room ts (h ts)

takes_join : (level : Level) (n : ℕ) (a b : Spelled) (ts : List Lexeme) → IsJoin level a n ts b → 0 < length ts
takes_join level n a b ts (joins_to {ts = us} o k) = omega arith

grows_join : (level : Level) (n : ℕ) (a b : Spelled) (ts : List Lexeme) → IsJoin level a n ts b → IsJoin level a (suc n) ts b
grows_join level n a b ts (joins_to o k) = joins_to o (grows_operand k)

chained : (level : Level) (n : ℕ) (a b : Spelled) (xs ts : List Lexeme) → IsChain level n xs a → IsJoin level a n ts b → IsChain level n (xs ++ ts) b
chained level n a b xs ts h (joins_to o k) = grammar.joined h o k

pub join_rounds : (level : Level) (f : Reader) (room : ℕ) → AllRight f (IsOperand level) room → IsRounds (begins_join level) (joins f) (IsJoin level) (IsRest (IsChain level)) room
join_rounds level f room h = left_rounds (begins_join level) (joins f) (IsJoin level) (IsChain level) room (right_join level f room h) (takes_join level room) (grows_join level) (chained level)

pub right_chain : (level : Level) (f : Reader) (room : ℕ) → AllRight f (IsOperand level) room → AllRight (chain level f) (IsChain level) room
unfolding chain
right_chain level f room h = right_left f (IsOperand level) (begins_join level) (joins f) (IsJoin level) (chain level f) (IsChain level) room (join_rounds level f room h) (λ us. refl) (λ n xs a k. grammar.alone k) (λ n xs a k. grows_operand k) h

pub right_terms : (inner : Inner) (room : ℕ) → IsInner inner room → AllRight (chain Term (factor inner)) (IsChain Term) room
right_terms inner room i = right_chain Term (factor inner) room (widened (factor inner) IsFactor (IsOperand Term) room (λ n xs a h. grammar.of_term h) (right_factor inner room i))

pub right_sums : (inner : Inner) (room : ℕ) → IsInner inner room → AllRight (sums inner) (IsChain Sum) room
right_sums inner room i = right_chain Sum (chain Term (factor inner)) room (widened (chain Term (factor inner)) (IsChain Term) (IsOperand Sum) room (λ n xs a h. grammar.of_sum h) (right_terms inner room i))

-- ---- comparisons

abbrev IsCompared : ℕ → List Lexeme → Comparison → Type 0
IsCompared room ts c = IsComparator ts c

-- the second word of `not in`
pub data IsAfterNot : ℕ → List Lexeme → Comparison → Type 0 where
  in_word : {room : ℕ} → IsAfterNot room (token.In ∷ []) comparing.NotIn

in_goes_on : (room : ℕ) → Goes_on IsAfterNot room []
in_goes_on room = record { more = token.In ∷ []; value = comparing.NotIn; spelled = in_word }

right_after_not : (room : ℕ) → AllRight after_not IsAfterNot room
unfolding after_not
right_after_not room [] = refuses_end after_not IsAfterNot room (in_goes_on room) refl
right_after_not room (token.In ∷ ts) = one_read after_not IsAfterNot room comparing.NotIn token.In ts in_word (λ tail. refl)
right_after_not room (t ∷ ts) = refuses after_not IsAfterNot room t ts (in_goes_on room) (λ tail. refl)

pub data IsAfterIs : ℕ → List Lexeme → Comparison → Type 0 where
  not_word : {room : ℕ} → IsAfterIs room (token.Not ∷ []) comparing.IsNot
  no_word : {room : ℕ} → IsAfterIs room [] comparing.Is

is_alone : (room : ℕ) (t : Lexeme) (ts : List Lexeme) → ((tail : List Lexeme) → after_is (t ∷ tail) ≡ given comparing.Is (t ∷ tail)) → Found after_is IsAfterIs room (t ∷ ts) comparing.Is (t ∷ ts)
is_alone room t ts f = record { front = []; parts = refl; spelled = no_word; again = λ more e. at_head (λ m. after_is m ≡ given comparing.Is m) t more e f }

right_after_is : (room : ℕ) → AllRight after_is IsAfterIs room
unfolding after_is
right_after_is room [] = record { front = []; parts = refl; spelled = no_word; again = λ more e. at_end (λ m. after_is m ≡ given comparing.Is m) more e refl }
right_after_is room (token.Not ∷ ts) = one_read after_is IsAfterIs room comparing.IsNot token.Not ts not_word (λ tail. refl)
right_after_is room (t ∷ ts) = is_alone room t ts (λ tail. refl)

after_not_word : {room : ℕ} {ts : List Lexeme} {c : Comparison} → IsAfterNot room ts c → IsComparator (token.Not ∷ ts) c
after_not_word in_word = grammar.not_inside

after_is_word : {room : ℕ} {ts : List Lexeme} {c : Comparison} → IsAfterIs room ts c → IsComparator (token.Is ∷ ts) c
after_is_word not_word = grammar.not_same
after_is_word no_word = grammar.same

grows_after_not : Grows IsAfterNot
grows_after_not n ts c in_word = in_word

grows_after_is : Grows IsAfterIs
grows_after_is n ts c not_word = not_word
grows_after_is n ts c no_word = no_word

pair_again : (r : Read Lexeme Comparison) → r ≡ (r >>= λ x. given x.0 x.1)
pair_again (Ok x) = refl
pair_again (Err fault) = refl

comparator_goes_on : (room : ℕ) → Goes_on IsCompared room []
comparator_goes_on room = record { more = token.EqEq ∷ []; value = comparing.Eq; spelled = grammar.equal }

right_comparator : (room : ℕ) → AllRight comparator IsCompared room
unfolding comparator
right_comparator room [] = refuses_end comparator IsCompared room (comparator_goes_on room) refl
right_comparator room (token.EqEq ∷ ts) = one_read comparator IsCompared room comparing.Eq token.EqEq ts grammar.equal (λ tail. refl)
right_comparator room (token.NotEq ∷ ts) = one_read comparator IsCompared room comparing.Ne token.NotEq ts grammar.unequal (λ tail. refl)
right_comparator room (token.Less ∷ ts) = one_read comparator IsCompared room comparing.Lt token.Less ts grammar.less (λ tail. refl)
right_comparator room (token.LessEq ∷ ts) = one_read comparator IsCompared room comparing.Le token.LessEq ts grammar.less_equal (λ tail. refl)
right_comparator room (token.Greater ∷ ts) = one_read comparator IsCompared room comparing.Gt token.Greater ts grammar.greater (λ tail. refl)
right_comparator room (token.GreaterEq ∷ ts) = one_read comparator IsCompared room comparing.Ge token.GreaterEq ts grammar.greater_equal (λ tail. refl)
right_comparator room (token.In ∷ ts) = one_read comparator IsCompared room comparing.In token.In ts grammar.inside (λ tail. refl)
right_comparator room (token.Not ∷ ts) = prefixed (token.Not ∷ []) after_not IsAfterNot (λ c. c) comparator IsCompared (λ us. pair_again (after_not us)) (λ n xs c k. after_not_word k) grows_after_not room ts (right_after_not room ts)
right_comparator room (token.Is ∷ ts) = prefixed (token.Is ∷ []) after_is IsAfterIs (λ c. c) comparator IsCompared (λ us. pair_again (after_is us)) (λ n xs c k. after_is_word k) grows_after_is room ts (right_after_is room ts)
right_comparator room (t ∷ ts) = refuses comparator IsCompared room t ts (comparator_goes_on room) (λ tail. refl)

-- an operator and its right operand, or nothing
pub data IsComparedWith : Spelled → ℕ → List Lexeme → Spelled → Type 0 where
  with_operand : {room : ℕ} {os ts : List Lexeme} {c : Comparison} {a b : Spelled} → IsComparator os c → IsChain Sum room ts b → IsComparedWith a room (os ++ ts) (other (tree.Compare c a.tree b.tree))
  not_compared : {room : ℕ} {a : Spelled} → IsComparedWith a room [] a

right_compare_with : (f : Reader) (room : ℕ) → AllRight f (IsChain Sum) room → (a : Spelled) → AllRight (compare_with f a) (IsComparedWith a) room
unfolding compare_with
right_compare_with f room h a ts =
    sequence {p = []} {F = comparator} {IsA = IsCompared} {G = λ c. f} {IsB = λ c. IsChain Sum} {f = λ c b. other (tree.Compare c a.tree b.tree)} {H = compare_with f a} {IsC = IsComparedWith a} (record {
      computes = λ us. refl;
      builds = λ n xs ys c b q k. with_operand q k;
      grows = λ n xs c q. q;
      finishes = λ n c. record { more = a_name; value = the_name; spelled = name_sum n };
    }) room ts (right_comparator room ts) (λ c rest k. h rest)

right_compared : (f : Reader) (room : ℕ) → AllRight f (IsChain Sum) room → (a : Spelled) → AllRight (compared f a) (IsComparedWith a) room
unfolding compared
right_compared f room h a = right_optional (compare_with f a) (compared f a) (IsComparedWith a) begins_comparison a room (λ us. refl) not_compared (λ ts e. right_compare_with f room h a ts)

comparison_of : {room : ℕ} {xs ys : List Lexeme} {a b : Spelled} → IsChain Sum room xs a → IsComparedWith a room ys b → IsComparison room (xs ++ ys) b
comparison_of h (with_operand c k) = grammar.compared h c k
comparison_of {room = room} {xs = xs} h (not_compared {a = a}) = subst (λ (l : List Lexeme). IsComparison room l a) (sym (append-nil xs)) (grammar.sum h)

pub right_comparison : (f : Reader) (room : ℕ) → AllRight f (IsChain Sum) room → AllRight (comparison f) IsComparison room
unfolding comparison
right_comparison f room h = right_then f (IsChain Sum) (compared f) IsComparedWith (comparison f) IsComparison (λ us. refl) (λ n xs ys a b q k. comparison_of q k) (λ n xs a q. grows_chain q) (λ n a. record { more = []; value = a; spelled = not_compared }) room h (right_compared f room h)

-- ---- `not`

right_not : (f : Form → Reader) (room : ℕ) → AllRight (f Inverted) IsInversion room → (ts : List Lexeme) → Right (inversion (Some f)) IsInversion (suc room) (token.Not ∷ ts) (inversion (Some f) (token.Not ∷ ts))
unfolding inversion
right_not f room h ts =
    level (inversion (Some f)) IsInversion room (token.Not ∷ ts) (inversion (Some f) (token.Not ∷ ts))
    (prefixed (token.Not ∷ []) (f Inverted) IsInversion (λ e. other (tree.Not e.tree)) (inversion (Some f)) (λ n. IsInversion (suc n)) (λ us. refl) (λ n xs a k. grammar.inverted k) (λ n xs a k. grows_inversion k) room ts (h ts))

inversion_as : (inner : Inner) (room : ℕ) → IsInner inner room → (ts : List Lexeme) → ((us : List Lexeme) → head_of us ≡ head_of ts → inversion inner us ≡ comparison (sums inner) us) → Right (inversion inner) IsInversion room ts (comparison (sums inner) ts)
inversion_as inner room i ts c = chosen (comparison (sums inner)) (inversion inner) IsComparison IsInversion room ts (comparison (sums inner) ts) c (λ n xs a h. grammar.comparison h) (right_comparison (sums inner) room (right_sums inner room i) ts)

some_inversion : (room : ℕ) → Goes_on IsInversion room []
some_inversion room = record { more = a_name; value = the_name; spelled = name_inversion room }

pub right_inversion : (inner : Inner) (room : ℕ) → IsInner inner room → AllRight (inversion inner) IsInversion room
unfolding inversion
right_inversion inner room at_bottom [] = inversion_as None 0 at_bottom [] (λ us e. at_end (λ l. inversion None l ≡ comparison (sums None) l) us e refl)
right_inversion inner room (deeper f k h) [] = inversion_as (Some f) (suc k) (deeper f k h) [] (λ us e. at_end (λ l. inversion (Some f) l ≡ comparison (sums (Some f)) l) us e refl)
right_inversion inner room at_bottom (token.Not ∷ ts) = refuses_level (inversion None) IsInversion 0 token.Not ts (some_inversion 0) (record { more = a_name; value = other (tree.Not (tree.Name (97 ∷ []))); spelled = grammar.inverted (name_inversion 0) }) (λ tail. refl)
right_inversion inner room (deeper f k h) (token.Not ∷ ts) = right_not f k (h Inverted) ts
right_inversion inner room at_bottom (t ∷ ts) = inversion_as None 0 at_bottom (t ∷ ts) (λ us e. at_head (λ l. inversion None l ≡ comparison (sums None) l) t us e (λ tail. refl))
right_inversion inner room (deeper f k h) (t ∷ ts) = inversion_as (Some f) (suc k) (deeper f k h) (t ∷ ts) (λ us e. at_head (λ l. inversion (Some f) l ≡ comparison (sums (Some f)) l) t us e (λ tail. refl))

-- ---- the forms

pub right_operand : (inner : Inner) (room : ℕ) → IsInner inner room → (level : Level) → AllRight (operand inner level) (IsOperand level) room
right_operand inner room i Disjunction = widened (chain Conjunction (inversion inner)) (IsChain Conjunction) (IsOperand Disjunction) room (λ n xs a h. grammar.of_or h) (right_chain Conjunction (inversion inner) room (widened (inversion inner) IsInversion (IsOperand Conjunction) room (λ n xs a h. grammar.of_and h) (right_inversion inner room i)))
right_operand inner room i Conjunction = widened (inversion inner) IsInversion (IsOperand Conjunction) room (λ n xs a h. grammar.of_and h) (right_inversion inner room i)
right_operand inner room i Sum = widened (chain Term (factor inner)) (IsChain Term) (IsOperand Sum) room (λ n xs a h. grammar.of_sum h) (right_terms inner room i)
right_operand inner room i Term = widened (factor inner) IsFactor (IsOperand Term) room (λ n xs a h. grammar.of_term h) (right_factor inner room i)

pub right_form_by : (inner : Inner) (room : ℕ) → IsInner inner room → (entry : Form) → AllRight (form_by inner entry) (IsForm entry) room
right_form_by inner room i Whole = right_chain Disjunction (operand inner Disjunction) room (right_operand inner room i Disjunction)
right_form_by inner room i Inverted = right_inversion inner room i
right_form_by inner room i Signed = right_factor inner room i

pub right_form : (room : ℕ) (entry : Form) → AllRight (form room entry) (IsForm entry) room
unfolding form
right_form zero entry = as_named (form_by None entry) (form 0 entry) (IsForm entry) 0 (λ us. refl) (right_form_by None 0 at_bottom entry)
right_form (suc room) entry = as_named (form_by (Some (form room)) entry) (form (suc room) entry) (IsForm entry) (suc room) (λ us. refl) (right_form_by (Some (form room)) (suc room) (deeper (form room) room (λ e. right_form room e)) entry)
