-- Where each round has one script, each is the first of its round.
use Rattle.std.proofs.Common.{◌≡◌, ℕ, zero, suc, ◌+◌, List, [], ◌∷◌, ◌++◌, Option, Some, refl, sym, ◌∙◌, ap, subst, arith}
use Rattle.std.specs.Prelude.{slice_get, replicate}
use Rattle.std.specs.List.{All, AllByRecursion}
use Rattle.machine_spec.specs.Opening.{round_starts}
use Rattle.machine_laws.specs.Begun.{Begun, first}
use Rattle.meaning_solo.specs.Solo.{AreAlone}

at : (k f : ℕ) (rest : List ℕ) → ((t : ℕ) → slice_get rest t ≡ Some f → f ≡ k + 1 + t) → (t : ℕ) → slice_get (k ∷ rest) t ≡ Some f → f ≡ k + t
at k f rest later zero is = let same : k ≡ f = cc is in omega (arith, same)
at k f rest later (suc t) is = later t is ∙ omega arith

starts : (k : ℕ) (sizes : List ℕ) → AllByRecursion (λ size. size ≡ 1) sizes → (t f : ℕ) → slice_get (round_starts k sizes) t ≡ Some f → f ≡ k + t
starts k [] all t f is = absurd (cc is)
starts k (size ∷ sizes) all t f is =
    at k f (round_starts (k + 1) sizes) (λ t is. starts (k + 1) sizes all.1 t f is) t
    (subst (λ (n : ℕ). slice_get (replicate n k ++ round_starts (k + n) sizes) t ≡ Some f) all.0 is)

pub alone_by : (b : Begun) → AllByRecursion (λ size. size ≡ 1) b.rounds → AreAlone (first b)
alone_by b all t f is = starts 0 b.rounds all t f is ∙ omega arith
