-- The keywords of each length.
use Rattle.std.proofs.Common.{◌≡◌, ◌∙◌, sym, ap, ℕ, ◌<◌, ◌≤◌, List, [], ◌∷◌, Bool, true, false, not, ◌&&◌, nat_lt, length, codes, arith}
use Rattle.std.specs.List.{list_any, filter}
use Rattle.std.specs.Str.{bytes_eq}
use Rattle.std.proofs.lemmas.Bool.Decides.{nat_tests}
use Rattle.std.proofs.lemmas.Map.Views.{any-filter_same}
use Rattle.std.proofs.lemmas.Slice.Eq.{bytes_eq-Decides}
use Rattle.spec_core.specs.Identifiers.{keywords, is_keyword}

-- a test of lengths that the text passes keeps the keyword that it is
by_length : (p : ℕ → Bool) (text : List ℕ) → p (length text) ≡ true → list_any (bytes_eq text) (filter (λ w. p (length w)) keywords) ≡ is_keyword text
unfolding is_keyword
by_length p text passed =
    any-filter_same (bytes_eq text) (λ w. p (length w)) true
    (λ w same. ap (λ v. p (length v)) (sym ((bytes_eq-Decides text w).0 same)) ∙ passed)
    keywords

-- none has fewer than two bytes
pub of_one : (text : List ℕ) → length text < 2 → false ≡ is_keyword text
of_one text short =
    let passed : nat_lt (length text) 2 ≡ true = grind (arith, nat_tests, short) in
    by_length (λ n. nat_lt n 2) text passed

abbrev pub short : List (List ℕ)
short =
    codes "and" ∷ codes "as" ∷ codes "def" ∷ codes "del" ∷ codes "for" ∷ codes "if" ∷ codes "in" ∷ codes "is" ∷ codes "not" ∷ codes "or"
    ∷ codes "try" ∷ []

abbrev pub middle : List (List ℕ)
middle =
    codes "False" ∷ codes "None" ∷ codes "True" ∷ codes "async" ∷ codes "await" ∷ codes "break" ∷ codes "class" ∷ codes "elif" ∷ codes "else"
    ∷ codes "from" ∷ codes "pass" ∷ codes "raise" ∷ codes "while" ∷ codes "with" ∷ codes "yield" ∷ []

abbrev pub long : List (List ℕ)
long =
    codes "assert" ∷ codes "continue" ∷ codes "except" ∷ codes "finally" ∷ codes "global" ∷ codes "import" ∷ codes "lambda" ∷ codes "nonlocal"
    ∷ codes "return" ∷ []

-- a text with fewer than four bytes
pub of_short : (text : List ℕ) → length text < 4 → list_any (bytes_eq text) short ≡ is_keyword text
of_short text small =
    let passed : nat_lt (length text) 4 ≡ true = grind (arith, nat_tests, small) in
    by_length (λ n. nat_lt n 4) text passed

-- with four or five
pub of_middle : (text : List ℕ) → 4 ≤ length text → length text < 6 → list_any (bytes_eq text) middle ≡ is_keyword text
of_middle text large small =
    let passed : (not (nat_lt (length text) 4) && nat_lt (length text) 6) ≡ true = grind (arith, nat_tests, large, small) in
    by_length (λ n. not (nat_lt n 4) && nat_lt n 6) text passed

-- and with more
pub of_long : (text : List ℕ) → 6 ≤ length text → list_any (bytes_eq text) long ≡ is_keyword text
of_long text large =
    let passed : not (nat_lt (length text) 6) ≡ true = grind (arith, nat_tests, large) in
    by_length (λ n. not (nat_lt n 6)) text passed
