-- What is split is joined again, and pieces that are closed are split again.
use Rattle.std.proofs.Common.{◌≡◌, ◌∙◌, refl, sym, ap, subst, ℕ, zero, suc, ◌+◌, ◌-◌, ◌<◌, ◌≤◌, List, [], ◌∷◌, ◌++◌, append_assoc, Bool, true, false, not, ◌&&◌, ◌||◌, ◌==◌, eqb, eqb-true, eq-eqb, arith, inl, inr, ◌⊎◌, codes}
use Rattle.std.proofs.lemmas.Bool.{cases_Bool, not-true, and_parts, and_from, cond-true, cond-false}
use Rattle.std.proofs.lemmas.List.{append-nil}
use Rattle.std.specs.List.{flat_map, list_all, AllByRecursion}
use Rattle.trace_fields.specs.declared.pieces.Scan.{Scan}
use Rattle.trace_fields.specs.declared.pieces.Scan.TheVariants as scan
use Rattle.trace_fields.specs.Splitting.{next, separates, with_front, split_from, split, joined}
use Rattle.trace_fields.proofs.Cuts.{front_front, at_separator, at_other}

-- ---- joined again

some : (c : ℕ) (s : Scan) (text : List ℕ) → (x : List ℕ) × (xs : List (List ℕ)) × (split_from c s text ≡ x ∷ xs)
some c s [] = ([], [], refl)
some c s (b ∷ rest) = elim (cases_Bool (separates c s b)) [
  | inl turns ↦ ([], split_from c s rest, at_separator c s b rest turns)
  | inr stays ↦
      let more = some c (next s b) rest in
      (b ∷ more.0, more.1, at_other c s b rest stays ∙ ap (with_front (b ∷ [])) more.2)
]

is_separator : (c : ℕ) (s : Scan) (b : ℕ) → separates c s b ≡ true → c ≡ b
is_separator c (scan.Outside zero) b h = sym (eqb-true b c h)
is_separator c (scan.Outside (suc n)) b h = cc
is_separator c (scan.Quoted n) b h = cc
is_separator c (scan.Escaped n) b h = cc

pub split_joins : (c : ℕ) (s : Scan) (text : List ℕ) → joined c (split_from c s text) ≡ text
split_joins c s [] = refl
split_joins c s (b ∷ rest) = elim (cases_Bool (separates c s b)) [
  | inl turns ↦
      let more = some c s rest in
      ap (joined c) (at_separator c s b rest turns) ∙ ap (λ r. joined c ([] ∷ r)) more.2
      ∙ ap (λ t. c ∷ t) (sym (ap (joined c) more.2) ∙ split_joins c s rest)
      ∙ ap (λ n. n ∷ rest) (is_separator c s b turns)
  | inr stays ↦
      let more = some c (next s b) rest in
      ap (joined c) (at_other c s b rest stays ∙ ap (with_front (b ∷ [])) more.2)
      ∙ ap (λ t. b ∷ t) (sym (ap (joined c) more.2) ∙ split_joins c (next s b) rest)
]

-- ---- split again

-- neither a blank (32) nor a comma (44) where it would separate
abbrev pub separates_none : Scan → ℕ → Bool
separates_none (scan.Outside zero) b = not (b == 32 || b == 44)
separates_none (scan.Outside (suc n)) b = true
separates_none (scan.Quoted n) b = true
separates_none (scan.Escaped n) b = true

-- and no line end (10) anywhere
abbrev pub is_clear : Scan → ℕ → Bool
is_clear s b = not (b == 10) && separates_none s b

-- a reader goes over the text from one state to another and meets no separator
abbrev pub Passes : Scan → List ℕ → Scan → Type 0
Passes s [] t = s ≡ t
Passes s (b ∷ bs) t = (is_clear s b ≡ true) × Passes (next s b) bs t

-- a text with its brackets and quotes closed
abbrev pub Closed : List ℕ → Type 0
Closed text = (n : ℕ) → Passes (scan.Outside n) text (scan.Outside n)

-- the same inside brackets, where commas may stand
abbrev pub Inner : List ℕ → Type 0
Inner text = (n : ℕ) → Passes (scan.Outside (suc n)) text (scan.Outside (suc n))

abbrev pub IsSeparator : ℕ → Type 0
IsSeparator c = (c ≡ 32) ⊎ (c ≡ 44)

none_not : (c : ℕ) (s : Scan) (b : ℕ) → IsSeparator c → separates_none s b ≡ true → separates c s b ≡ false
none_not c (scan.Outside zero) b is h =
    let neither : (eqb b 32 || eqb b 44) ≡ false = not-true (eqb b 32 || eqb b 44) h in
    elim is [
      | inl e ↦ subst (λ n. eqb b n ≡ false) (sym e) (grind arith)
      | inr e ↦ subst (λ n. eqb b n ≡ false) (sym e) (grind arith)
    ]
none_not c (scan.Outside (suc n)) b is h = refl
none_not c (scan.Quoted n) b is h = refl
none_not c (scan.Escaped n) b is h = refl

clear_not : (c : ℕ) (s : Scan) (b : ℕ) → IsSeparator c → is_clear s b ≡ true → separates c s b ≡ false
clear_not c s b is h = none_not c s b is (and_parts (not (eqb b 10)) (separates_none s b) h).1

-- such a text has no line end
pub no_line_end : (s : Scan) (text : List ℕ) (t : Scan) → Passes s text t → AllByRecursion (λ b. eqb b 10 ≡ false) text
no_line_end s [] t h = tt
no_line_end s (b ∷ bs) t h = (not-true (eqb b 10) (and_parts (not (eqb b 10)) (separates_none s b) h.0).0, no_line_end (next s b) bs t h.1)

pub closed_no_line_end : (text : List ℕ) → Closed text → AllByRecursion (λ b. eqb b 10 ≡ false) text
closed_no_line_end text h = no_line_end (scan.Outside 0) text (scan.Outside 0) (h 0)

pub passes_on : (c : ℕ) (s : Scan) (text rest : List ℕ) (t : Scan) → IsSeparator c → Passes s text t → split_from c s (text ++ rest) ≡ with_front text (split_from c t rest)
passes_on c s [] rest t is h =
    ap (λ u. split_from c u rest) h ∙ (let more = some c t rest in more.2 ∙ sym (ap (with_front []) more.2))
passes_on c s (b ∷ bs) rest t is h =
    at_other c s b (bs ++ rest) (clear_not c s b is h.0)
    ∙ ap (with_front (b ∷ [])) (passes_on c (next s b) bs rest t is h.1)
    ∙ front_front (b ∷ []) bs (split_from c t rest)

pub passes_both : (s : Scan) (a b : List ℕ) (t u : Scan) → Passes s a t → Passes t b u → Passes s (a ++ b) u
passes_both s [] b t u f g = subst (λ v. Passes v b u) (sym f) g
passes_both s (x ∷ xs) b t u f g = (f.0, passes_both (next s x) xs b t u f.1 g)

pub closed_both : (a b : List ℕ) → Closed a → Closed b → Closed (a ++ b)
closed_both a b f g n = passes_both (scan.Outside n) a b (scan.Outside n) (scan.Outside n) (f n) (g n)

pub inner_both : (a b : List ℕ) → Inner a → Inner b → Inner (a ++ b)
inner_both a b f g n = passes_both (scan.Outside (suc n)) a b (scan.Outside (suc n)) (scan.Outside (suc n)) (f n) (g n)

pub inner_closed : (a : List ℕ) → Closed a → Inner a
inner_closed a f n = f (suc n)

pub inner_comma : Inner (44 ∷ [])
inner_comma n = (refl, refl)

again_from : (c : ℕ) (x : List ℕ) (xs : List (List ℕ)) → IsSeparator c → AllByRecursion Closed (x ∷ xs) → split_from c (scan.Outside 0) (joined c (x ∷ xs)) ≡ x ∷ xs
again_from c x [] is all =
    passes_on c (scan.Outside 0) x [] (scan.Outside 0) is (all.0 0) ∙ ap (λ t. t ∷ []) (append-nil x)
again_from c x (y ∷ ys) is all =
    let rest = joined c (y ∷ ys) in
    let turns : separates c (scan.Outside 0) c ≡ true = eq-eqb c c refl in
    passes_on c (scan.Outside 0) x (c ∷ rest) (scan.Outside 0) is (all.0 0)
    ∙ ap (with_front x) (at_separator c (scan.Outside 0) c rest turns)
    ∙ ap (λ t. t ∷ split_from c (scan.Outside 0) rest) (append-nil x)
    ∙ ap (λ r. x ∷ r) (again_from c y ys is all.1)

pub split_again : (c : ℕ) (x : List ℕ) (xs : List (List ℕ)) → IsSeparator c → AllByRecursion Closed (x ∷ xs) → split c (joined c (x ∷ xs)) ≡ x ∷ xs
unfolding split
split_again c x xs is all = again_from c x xs is all

pub split_is_joined : (c : ℕ) (text : List ℕ) → joined c (split c text) ≡ text
unfolding split
split_is_joined c text = split_joins c (scan.Outside 0) text

-- ---- what is closed

or_neither : (a b : Bool) → (a || b) ≡ false → (a ≡ false) × (b ≡ false)
or_neither true b h = absurd cc
or_neither false b h = (refl, h)

none_bracket : (n b : ℕ) → (eqb b 32 || eqb b 44) ≡ false → separates_none (scan.Outside n) b ≡ true
none_bracket zero b h = ap not h
none_bracket (suc n) b h = refl

clear_bracket : (n b : ℕ) → eqb b 10 ≡ false → (eqb b 32 || eqb b 44) ≡ false → is_clear (scan.Outside n) b ≡ true
clear_bracket n b e h = and_from (not (eqb b 10)) (separates_none (scan.Outside n) b) (ap not e) (none_bracket n b h)

at_depth : (n : ℕ) (text : List ℕ) → Inner text → Passes (scan.Outside (n + 1)) text (scan.Outside (n + 1))
at_depth n text h = let there : suc n ≡ n + 1 = omega arith in subst (λ k. Passes (scan.Outside k) text (scan.Outside k)) there (h n)

closes : (n b : ℕ) → next (scan.Outside (n + 1)) b ≡ scan.Outside (n + 1 - 1) → eqb b 10 ≡ false → (eqb b 32 || eqb b 44) ≡ false → Passes (scan.Outside (n + 1)) (b ∷ []) (scan.Outside n)
closes n b turns e h = let there : n + 1 - 1 ≡ n = omega arith in (clear_bracket (n + 1) b e h, turns ∙ ap scan.Outside there)

-- no blank, comma, quote or bracket
abbrev pub is_plain : ℕ → Bool
is_plain b = not (b == 32 || b == 44 || (b == 34 || (b == 91 || b == 40) || (b == 93 || b == 41)))

-- and no line end
abbrev pub is_ordinary : ℕ → Bool
is_ordinary b = not (b == 10) && is_plain b

plain_none : (n b : ℕ) → is_plain b ≡ true → separates_none (scan.Outside n) b ≡ true
plain_none zero b h = ap not (or_neither (eqb b 32 || eqb b 44) _ (not-true _ h)).0
plain_none (suc n) b h = refl

ordinary_clear : (n b : ℕ) → is_ordinary b ≡ true → is_clear (scan.Outside n) b ≡ true
ordinary_clear n b h =
    let both = and_parts (not (eqb b 10)) (is_plain b) h in
    and_from (not (eqb b 10)) (separates_none (scan.Outside n) b) both.0 (plain_none n b both.1)

pub ordinary_next : (n b : ℕ) → is_ordinary b ≡ true → next (scan.Outside n) b ≡ scan.Outside n
ordinary_next n b h =
    let plain = (and_parts (not (eqb b 10)) (is_plain b) h).1 in
    let far = (or_neither (eqb b 32 || eqb b 44) _ (not-true _ plain)).1 in
    let two = or_neither (eqb b 34 || (eqb b 91 || eqb b 40)) _ far in
    let one = or_neither (eqb b 34) _ two.0 in
    cond-false _ _ _ one.0 ∙ cond-false _ _ _ one.1 ∙ cond-false _ _ _ two.1

pub ordinary_closed : (text : List ℕ) → list_all is_ordinary text ≡ true → Closed text
ordinary_closed [] h n = refl
ordinary_closed (b ∷ bs) h n =
    let both = and_parts (is_ordinary b) (list_all is_ordinary bs) h in
    (ordinary_clear n b both.0, subst (λ s. Passes s bs (scan.Outside n)) (sym (ordinary_next n b both.0)) (ordinary_closed bs both.1 n))

-- what stands in brackets
pub in_brackets_closed : (text : List ℕ) → Inner text → Closed ((codes "[" ++ text) ++ codes "]")
in_brackets_closed text h n = (clear_bracket n 91 refl refl, passes_both (scan.Outside (n + 1)) text (codes "]") (scan.Outside (n + 1)) (scan.Outside n) (at_depth n text h) (closes n 93 refl refl refl))

pub in_parentheses_closed : (text : List ℕ) → Inner text → Closed ((codes "(" ++ text) ++ codes ")")
in_parentheses_closed text h n = (clear_bracket n 40 refl refl, passes_both (scan.Outside (n + 1)) text (codes ")") (scan.Outside (n + 1)) (scan.Outside n) (at_depth n text h) (closes n 41 refl refl refl))
