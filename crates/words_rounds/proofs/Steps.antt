-- Line by line.
use Rattle.std.proofs.Common.{◌≡◌, ◌∙◌, refl, ap, ℕ, ◌+◌, ◌<◌, List, [], ◌∷◌, ◌++◌, length, get_or, drop, map, Bor, Some, None, Result, Err, sym}
use Rattle.std.proofs.lemmas.List.{drop_more, get_or-map, length-map}
use Rattle.words_rounds.specs.declared.draft.Draft.{Draft}
use Rattle.words_rounds.specs.declared.rounds.Round.{Round}
use Rattle.words_rounds.specs.declared.rounds.RoundsError.{RoundsError}
use Rattle.words_rounds.specs.declared.rounds.RoundsError.TheVariants as error
use Rattle.words_rounds.specs.Reading.{next, goes, read_on, Reads, Tells}

step_on : (at : ℕ) (d : Draft) (line rest : List ℕ) (lines : List (List ℕ)) → read_on at d (line ∷ (lines ++ rest ∷ [])) ≡ goes (next line d) at (λ e. read_on (at + 1) e (lines ++ rest ∷ []))
step_on at d line rest [] = refl
step_on at d line rest (l ∷ lines) = refl

abbrev pub texts : List (Bor (List ℕ)) → List (List ℕ)
texts lines = map (λ x. x.now) lines

cut_line : (lines : List (Bor (List ℕ))) (i : ℕ) (default : Bor (List ℕ)) → i < length lines → drop i (texts lines) ≡ (get_or lines i default).now ∷ drop (i + 1) (texts lines)
cut_line lines i default low =
    let low_too : i < length (texts lines) = rw (length-map lines (λ (x : Bor (List ℕ)). x.now)) low in
    drop_more (texts lines) i default.now low_too ∙ ap (λ l. l ∷ drop (i + 1) (texts lines)) (get_or-map (λ x. x.now) lines i default default.now low)

goes_on : (at i : ℕ) (d : Draft) (lines : List (Bor (List ℕ))) (rest : List ℕ) (default : Bor (List ℕ)) → i < length lines →
    read_on at d (drop i (texts lines) ++ rest ∷ []) ≡ goes (next (get_or lines i default).now d) at (λ e. read_on (at + 1) e (drop (i + 1) (texts lines) ++ rest ∷ []))
goes_on at i d lines rest default low =
    ap (λ ls. read_on at d (ls ++ rest ∷ [])) (cut_line lines i default low) ∙ step_on at d (get_or lines i default).now rest (drop (i + 1) (texts lines))

pub moves : (at i : ℕ) (d e : Draft) (lines : List (Bor (List ℕ))) (rest : List ℕ) (default : Bor (List ℕ)) → i < length lines → next (get_or lines i default).now d ≡ Some e →
    read_on at d (drop i (texts lines) ++ rest ∷ []) ≡ read_on (at + 1) e (drop (i + 1) (texts lines) ++ rest ∷ [])
moves at i d e lines rest default low is =
    goes_on at i d lines rest default low ∙ ap (λ o. goes o at (λ f. read_on (at + 1) f (drop (i + 1) (texts lines) ++ rest ∷ []))) is

pub stops : (at i : ℕ) (d : Draft) (lines : List (Bor (List ℕ))) (rest : List ℕ) (default : Bor (List ℕ)) → i < length lines → next (get_or lines i default).now d ≡ None →
    read_on at d (drop i (texts lines) ++ rest ∷ []) ≡ Err at
stops at i d lines rest default low is =
    goes_on at i d lines rest default low ∙ ap (λ o. goes o at (λ f. read_on (at + 1) f (drop (i + 1) (texts lines) ++ rest ∷ []))) is

-- what is told of the first line at which no rounds file goes on
pub told : (expected : Result (List Round) ℕ) (n : ℕ) (e : RoundsError) → expected ≡ Err n → Tells n e → Reads expected (Err e)
told expected n (error.At line) is tells = is ∙ ap Err (sym tells)
told expected n error.NoMemory is tells = tt
