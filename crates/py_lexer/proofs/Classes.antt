-- What begins an identifier or a number may stand in an identifier.
use Rattle.std.proofs.Common.{◌≡◌, ℕ, ◌-◌, ◌<◌, ◌≤◌, true, List, [], ◌∷◌, length, get_or, ap, sym, ◌∙◌, ◌⊎◌, inl, inr, arith}
use Rattle.std.specs.List.{prefix_len}
use Rattle.std.proofs.lemmas.Bool.Decides.{nat_tests}
use Rattle.unicode_ident.proofs.IdentLemmas.{is_xid_start-is_xid_continue, is_xid_start-ascii, is_xid_continue-ascii}
use Rattle.py_lexer.specs.declared.chars.Class.{Class}
use Rattle.py_lexer.specs.declared.chars.Class.TheVariants.{LineEnd, Digit, Letter}
use Rattle.py_lexer.specs.Chars.{class_of, is_end, is_digit}
use Rattle.spec_core.specs.Identifiers.{starts_identifier, continues_identifier}

letter_starts : (c : ℕ) → class_of c ≡ Letter → starts_identifier c ≡ true
unfolding class_of
letter_starts c e = grind (arith, nat_tests)

digit_digits : (c : ℕ) → class_of c ≡ Digit → is_digit c ≡ true
unfolding class_of
digit_digits c e = grind (arith, nat_tests)

starts_continues : (c : ℕ) → starts_identifier c ≡ true → continues_identifier c ≡ true
starts_continues c e = let h = is_xid_start-is_xid_continue c in grind (arith, nat_tests, h)

pub digit_may : (c : ℕ) → is_digit c ≡ true → continues_identifier c ≡ true
digit_may c e = let h = is_xid_continue-ascii c in grind (arith, nat_tests, h)

some_first : (c : ℕ) (cs : List ℕ) → continues_identifier c ≡ true → 0 < prefix_len continues_identifier (c ∷ cs)
some_first c cs e = rw e (omega arith)

pub letter_continues : (c : ℕ) (cs : List ℕ) → class_of c ≡ Letter → 0 < prefix_len continues_identifier (c ∷ cs)
letter_continues c cs e = some_first c cs (starts_continues c (letter_starts c e))

pub digit_continues : (c : ℕ) (cs : List ℕ) → class_of c ≡ Digit → 0 < prefix_len continues_identifier (c ∷ cs)
digit_continues c cs e = some_first c cs (digit_may c (digit_digits c e))

first_class : (cs : List ℕ) (d x : ℕ) (k : Class) → 1 ≤ length cs → d ≡ get_or cs 0 x → k ≡ class_of d → ((k ≡ Letter) ⊎ (k ≡ Digit)) → 0 < prefix_len continues_identifier cs
first_class [] d x k h e f g = absurd (omega arith)
first_class (c ∷ cs) d x k h e f (inl g) = letter_continues c cs (ap class_of (sym e) ∙ sym f ∙ g)
first_class (c ∷ cs) d x k h e f (inr g) = digit_continues c cs (ap class_of (sym e) ∙ sym f ∙ g)

pub letter_first : (cs : List ℕ) (d x : ℕ) (k : Class) → 1 ≤ length cs → d ≡ get_or cs 0 x → k ≡ class_of d → k ≡ Letter → 0 < prefix_len continues_identifier cs
letter_first cs d x k h e f g = first_class cs d x k h e f (inl g)

pub digit_first : (cs : List ℕ) (d x : ℕ) (k : Class) → 1 ≤ length cs → d ≡ get_or cs 0 x → k ≡ class_of d → k ≡ Digit → 0 < prefix_len continues_identifier cs
digit_first cs d x k h e f g = first_class cs d x k h e f (inr g)

pub end_class : (c : ℕ) → is_end c ≡ true → class_of c ≡ LineEnd
unfolding class_of
end_class c e = grind (arith, nat_tests)

pub class_end : (c : ℕ) → class_of c ≡ LineEnd → is_end c ≡ true
unfolding class_of
class_end c e = grind (arith, nat_tests)

pub digit_low : (c : ℕ) → class_of c ≡ Digit → c - 48 ≤ 9
digit_low c e = let d = digit_digits c e in grind (arith, nat_tests, d)

pub letter_may : (c : ℕ) → class_of c ≡ Letter → continues_identifier c ≡ true
letter_may c e = starts_continues c (letter_starts c e)

-- every character that may begin an identifier has the class Letter
pub starts_letter : (c : ℕ) → starts_identifier c ≡ true → class_of c ≡ Letter
unfolding class_of
starts_letter c e = let h = is_xid_start-ascii c in grind (arith, nat_tests, h)
