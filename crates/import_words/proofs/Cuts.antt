-- What std's searches say of a text that is cut at a slash.
use Rattle.std.proofs.Common.{◌≡◌, ◌∙◌, sym, ap, ℕ, ◌<◌, List, ◌∷◌, ◌++◌, false, length, eqb, get_or, take, drop, Option, Some, None, MatchOption, Bor, lit<, ne_eqb, ◌≢◌, subst}
use Rattle.std.specs.Str.Pattern.{RFindsChar, SplitsAroundMatch}
use Rattle.std.proofs.lemmas.Str.Pattern.{NoCharPasses-char, drop_at_char}
use Rattle.std.proofs.lemmas.List.{take-append-drop, get_or_default}
use Rattle.import_words.proofs.Slashes.{NoSlash}

eqb-absent : (k d : ℕ) (bs : List ℕ) → k < length bs → get_or bs k 0 ≢ 47 → eqb (get_or bs k d) 47 ≡ false
eqb-absent k d bs low h = ne_eqb (get_or bs k d) 47 (λ e. h (get_or_default bs k 0 d low ∙ e))

abbrev pub Halves : List ℕ → Option (Bor (List ℕ) × Bor (List ℕ)) → Type 0
Halves bs r = MatchOption r (RFindsChar 47 bs None) (λ x. SplitsAroundMatch (RFindsChar 47) bs x.0.now x.1.now)

pub cut_once : (bs : List ℕ) (r : Option (Bor (List ℕ) × Bor (List ℕ))) → Halves bs r → MatchOption r (NoSlash bs) (λ p. (bs ≡ p.0.now ++ 47 ∷ p.1.now) × NoSlash p.1.now)
cut_once bs None h = λ k d low. eqb-absent k d bs low (NoCharPasses-char 47 bs k h (lit< tt) low)
cut_once bs (Some x) h =
    let i = h.0 in
    let j = h.1 in
    let finds = h.2 in
    let front = h.3 in
    let back = h.4 in (
      sym (take-append-drop i bs) ∙ ap (λ t. take i bs ++ t) (drop_at_char 47 bs i j finds.1 (lit< tt))
          ∙ ap (λ t. t ++ 47 ∷ drop j bs) (sym front) ∙ ap (λ t. x.0.now ++ 47 ∷ t) (sym back),
      λ k d low. eqb-absent k d x.1.now low (λ e. NoCharPasses-char 47 (drop j bs) k finds.0 (lit< tt) (subst (λ t. k < length t) back low) (ap (λ t. get_or t k 0) (sym back) ∙ e)),
    )
