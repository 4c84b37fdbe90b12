-- On a new book all scripts of its one round may begin.
use Rattle.std.proofs.Common.{◌≡◌, ◌<◌, ◌+◌, ◌∙◌, ℕ, zero, suc, List, [], ◌∷◌, Some, sym, ap, arith}
use Rattle.std.specs.Prelude.{slice_get, replicate}
use Rattle.std.proofs.lemmas.List.{append-nil, length-replicate, get_or-replicate}
use Rattle.std.proofs.lemmas.Option.{slice_get_read}
use Rattle.machine_spec.specs.Opening.{round_starts}
use Rattle.machine_book.specs.Bound.{BoundTo}
use Rattle.machine_shown.specs.Own.{own}
use Rattle.drive_round.specs.Ran.{MayBegin}

at_zero : (size t : ℕ) → t < size → slice_get (round_starts 0 (size ∷ [])) t ≡ Some 0
at_zero size t low =
    ap (λ (rs : List ℕ). slice_get rs t) (append-nil (replicate size 0))
    ∙ slice_get_read (replicate size 0) size t 0 (sym (length-replicate size 0)) low (sym (get_or-replicate size t 0 0 low))

module _ {O : Type 0} (book : BoundTo O) (size : ℕ) (empty : book.history ≡ []) (rounds : book.opening.rounds ≡ round_starts 0 (size ∷ [])) where
  may_from : (t n : ℕ) → t + n ≡ size → MayBegin book t n
  may_from t zero all = tt
  may_from t (suc n) all = (
    record { first = 0; round = ap (λ (rs : List ℕ). slice_get rs t) rounds ∙ at_zero size t (omega (arith, all)); ended = λ u low. absurd (omega (arith, low)) },
    ap (own t) empty,
    may_from (suc t) n (omega (arith, all)),
  )

  pub may_all : MayBegin book 0 size
  may_all = may_from 0 size (omega arith)
