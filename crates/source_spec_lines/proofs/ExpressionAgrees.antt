-- With one more level the same expression is read, unless a token was too deep.
use Rattle.std.proofs.Common.{◌≡◌, ℕ, zero, suc, Bool, true, false, List, [], ◌∷◌, length, Option, Some, None, Result, Ok, Err, refl}
use Rattle.std.specs.Prelude.{if◌then◌else◌}
use Rattle.source_combinators.specs.declared.fault.Refusal.TheVariants.{TooDeep, Syntax}
use Rattle.source_combinators.specs.declared.fault.Fault.{Fault}
use Rattle.source_combinators.specs.Reading.{Read, ◌>>=◌, given, refused, head_of}
use Rattle.source_combinators.specs.Many.{rounds}
use Rattle.source_combinators.proofs.Agrees.{Agrees, AllAgree, same, agree, agree_many}
use Rattle.py_syntax.specs.declared.lexeme.Lexeme.{Lexeme}
use Rattle.py_syntax.specs.declared.lexeme.Lexeme.TheVariants as token
use Rattle.py_syntax.specs.declared.expr.Expr.{Expr}
use Rattle.py_syntax.specs.declared.expr.Level.{Level}
use Rattle.py_syntax.specs.declared.expr.Level.TheVariants.{Disjunction, Conjunction, Sum, Term}
use Rattle.py_syntax.specs.declared.expr.Spelled.{Spelled}
use Rattle.py_syntax.specs.declared.expr.Items.{Items}
use Rattle.source_spec_lines.specs.Expressions.{Reader, Form, Whole, Inverted, Signed, Inner, close_paren, close_bracket, comma, item, begins_item, all_items, no_items, in_parens, in_brackets, atom, after_dot, call_with, subscript_with, trailer, begins_trailer, primary, factor, joins, begins_join, chain, comparator, compare_with, begins_comparison, compared, comparison, inversion, sums, operand, form_by, form}

-- readers one level further in, the second ones with one more level
pub data AgreesInner : Inner → Inner → Type 0 where
  no_level : (j : Inner) → AgreesInner None j
  one_more : (f g : Form → Reader) → ((entry : Form) → AllAgree (f entry) (g entry)) → AgreesInner (Some f) (Some g)

module _ (f g : Reader) (h : AllAgree f g) where
  agree_item : (s : Items) → AllAgree (item f s) (item g s)
  unfolding item
  agree_item s ts = agree (f ts) (g ts) _ _ (h ts) (λ x. same (comma x.1 >>= λ c. given _ c.1))

  agree_items : AllAgree (all_items f) (all_items g)
  unfolding all_items
  agree_items ts = agree_many begins_item (item f) (item g) agree_item (suc (length ts)) no_items ts

  agree_in_parens : AllAgree (in_parens f) (in_parens g)
  unfolding in_parens
  agree_in_parens ts = agree (all_items f ts) (all_items g ts) _ _ (agree_items ts) (λ a. same (close_paren a.1 >>= λ u. given _ u.1))

  agree_in_brackets : AllAgree (in_brackets f) (in_brackets g)
  unfolding in_brackets
  agree_in_brackets ts = agree (all_items f ts) (all_items g ts) _ _ (agree_items ts) (λ a. same (close_bracket a.1 >>= λ u. given _ u.1))

  agree_call : (e : Expr) → AllAgree (call_with f e) (call_with g e)
  unfolding call_with
  agree_call e ts = agree (all_items f ts) (all_items g ts) _ _ (agree_items ts) (λ a. same (close_paren a.1 >>= λ u. given _ u.1))

  agree_subscript : (e : Expr) → AllAgree (subscript_with f e) (subscript_with g e)
  unfolding subscript_with
  agree_subscript e ts = agree (f ts) (g ts) _ _ (h ts) (λ x. same (close_bracket x.1 >>= λ u. given _ u.1))

agree_atom : (i j : Inner) → AgreesInner i j → AllAgree (atom i) (atom j)
unfolding atom
agree_atom i j a [] = λ k. refl
agree_atom i j a (token.Name n ∷ ts) = refl
agree_atom i j a (token.Number n ∷ ts) = refl
agree_atom i j a (token.Str s ∷ ts) = refl
agree_atom i j a (token.None ∷ ts) = refl
agree_atom i j a (token.True ∷ ts) = refl
agree_atom i j a (token.False ∷ ts) = refl
agree_atom i j (no_level m) (token.OpenParen ∷ ts) = λ k. absurd (k refl)
agree_atom i j (one_more f g h) (token.OpenParen ∷ ts) = agree_in_parens (f Whole) (g Whole) (h Whole) ts
agree_atom i j (no_level m) (token.OpenBracket ∷ ts) = λ k. absurd (k refl)
agree_atom i j (one_more f g h) (token.OpenBracket ∷ ts) = agree_in_brackets (f Whole) (g Whole) (h Whole) ts
agree_atom i j a (t ∷ ts) = λ k. refl

agree_trailer : (i j : Inner) → AgreesInner i j → (e : Spelled) → AllAgree (trailer i e) (trailer j e)
unfolding trailer
agree_trailer i j a e [] = λ k. refl
agree_trailer i j a e (token.Dot ∷ ts) = same (after_dot e.tree ts)
agree_trailer i j (no_level m) e (token.OpenParen ∷ ts) = λ k. absurd (k refl)
agree_trailer i j (one_more f g h) e (token.OpenParen ∷ ts) = agree_call (f Whole) (g Whole) (h Whole) e.tree ts
agree_trailer i j (no_level m) e (token.OpenBracket ∷ ts) = λ k. absurd (k refl)
agree_trailer i j (one_more f g h) e (token.OpenBracket ∷ ts) = agree_subscript (f Whole) (g Whole) (h Whole) e.tree ts
agree_trailer i j a e (t ∷ ts) = λ k. refl

pub agree_primary : (i j : Inner) → AgreesInner i j → AllAgree (primary i) (primary j)
unfolding primary
agree_primary i j a ts = agree (atom i ts) (atom j ts) _ _ (agree_atom i j a ts) (λ x. agree_many begins_trailer (trailer i) (trailer j) (agree_trailer i j a) (suc (length x.1)) x.0 x.1)

agree_factor : (i j : Inner) → AgreesInner i j → AllAgree (factor i) (factor j)
unfolding factor
agree_factor i j (no_level None) ts = same (factor None ts)
agree_factor i j (no_level (Some g)) (token.Minus ∷ ts) = λ k. absurd (k refl)
agree_factor i j (no_level (Some g)) [] = agree_primary None (Some g) (no_level (Some g)) []
agree_factor i j (no_level (Some g)) (t ∷ ts) = agree_primary None (Some g) (no_level (Some g)) (t ∷ ts)
agree_factor i j (one_more f g h) (token.Minus ∷ ts) = agree (f Signed ts) (g Signed ts) _ _ (h Signed ts) (λ x. refl)
agree_factor i j (one_more f g h) [] = agree_primary (Some f) (Some g) (one_more f g h) []
agree_factor i j (one_more f g h) (t ∷ ts) = agree_primary (Some f) (Some g) (one_more f g h) (t ∷ ts)

agree_joins : (f g : Reader) → AllAgree f g → (e : Spelled) → AllAgree (joins f e) (joins g e)
unfolding joins
agree_joins f g h e [] = λ k. refl
agree_joins f g h e (t ∷ ts) = agree (f ts) (g ts) _ _ (h ts) (λ x. refl)

agree_chain : (level : Level) (f g : Reader) → AllAgree f g → AllAgree (chain level f) (chain level g)
unfolding chain
agree_chain level f g h ts = agree (f ts) (g ts) _ _ (h ts) (λ x. agree_many (begins_join level) (joins f) (joins g) (agree_joins f g h) (suc (length x.1)) x.0 x.1)

agree_sums : (i j : Inner) → AgreesInner i j → AllAgree (sums i) (sums j)
agree_sums i j a = agree_chain Sum (chain Term (factor i)) (chain Term (factor j)) (agree_chain Term (factor i) (factor j) (agree_factor i j a))

agree_if : (b : Bool) (e : Spelled) (ts : List Lexeme) (q r : Read Lexeme Spelled) → Agrees q r → Agrees (if b then q else given e ts) (if b then r else given e ts)
agree_if true e ts q r h = h
agree_if false e ts q r h = refl

agree_compare_with : (f g : Reader) → AllAgree f g → (e : Spelled) → AllAgree (compare_with f e) (compare_with g e)
unfolding compare_with
agree_compare_with f g h e ts = agree (comparator ts) (comparator ts) _ _ (same (comparator ts)) (λ c. agree (f c.1) (g c.1) _ _ (h c.1) (λ b. refl))

agree_comparison : (f g : Reader) → AllAgree f g → AllAgree (comparison f) (comparison g)
unfolding comparison compared
agree_comparison f g h ts = agree (f ts) (g ts) _ _ (h ts) (λ x. agree_if (begins_comparison (head_of x.1)) x.0 x.1 (compare_with f x.0 x.1) (compare_with g x.0 x.1) (agree_compare_with f g h x.0 x.1))

agree_inversion : (i j : Inner) → AgreesInner i j → AllAgree (inversion i) (inversion j)
unfolding inversion
agree_inversion i j (no_level None) ts = same (inversion None ts)
agree_inversion i j (no_level (Some g)) (token.Not ∷ ts) = λ k. absurd (k refl)
agree_inversion i j (no_level (Some g)) [] = agree_comparison (sums None) (sums (Some g)) (agree_sums None (Some g) (no_level (Some g))) []
agree_inversion i j (no_level (Some g)) (t ∷ ts) = agree_comparison (sums None) (sums (Some g)) (agree_sums None (Some g) (no_level (Some g))) (t ∷ ts)
agree_inversion i j (one_more f g h) (token.Not ∷ ts) = agree (f Inverted ts) (g Inverted ts) _ _ (h Inverted ts) (λ x. refl)
agree_inversion i j (one_more f g h) [] = agree_comparison (sums (Some f)) (sums (Some g)) (agree_sums (Some f) (Some g) (one_more f g h)) []
agree_inversion i j (one_more f g h) (t ∷ ts) = agree_comparison (sums (Some f)) (sums (Some g)) (agree_sums (Some f) (Some g) (one_more f g h)) (t ∷ ts)

agree_form_by : (i j : Inner) → AgreesInner i j → (entry : Form) → AllAgree (form_by i entry) (form_by j entry)
agree_form_by i j a Whole = agree_chain Disjunction (operand i Disjunction) (operand j Disjunction) (agree_chain Conjunction (inversion i) (inversion j) (agree_inversion i j a))
agree_form_by i j a Inverted = agree_inversion i j a
agree_form_by i j a Signed = agree_factor i j a

pub agree_inner : (room : ℕ) → ((entry : Form) → AllAgree (form room entry) (form (suc room) entry)) → AgreesInner (Some (form room)) (Some (form (suc room)))
agree_inner room h = one_more (form room) (form (suc room)) h

pub agree_form : (room : ℕ) (entry : Form) → AllAgree (form room entry) (form (suc room) entry)
unfolding form
agree_form zero entry ts = agree_form_by None (Some (form zero)) (no_level (Some (form zero))) entry ts
agree_form (suc room) entry ts = agree_form_by (Some (form room)) (Some (form (suc room))) (one_more (form room) (form (suc room)) (λ e us. agree_form room e us)) entry ts
