-- Payments in one sum.
use Rattle.std.proofs.Common.{◌≡◌, ℕ, ◌+◌, List, [], ◌∷◌, ◌++◌, refl, ◌∙◌, sym, ap, arith}
use Rattle.meaning_runs.specs.Runs.{Run}
use Rattle.meaning_runs.specs.Costs.{pay}
use Rattle.step_straight.specs.Costs.{paying, in_all, Costs}

paying-append : (ms ns : List ℕ) (next : Run) → paying (ms ++ ns) next ≡ paying ms (paying ns next)
paying-append [] ns next = refl
paying-append (m ∷ ms) ns next = ap (λ (r : Run). pay m r) (paying-append ms ns next)

in_all-append : (ms ns : List ℕ) → in_all (ms ++ ns) ≡ in_all ms + in_all ns
in_all-append [] ns = omega arith
in_all-append (m ∷ ms) ns = let rest = in_all-append ms ns in omega (arith, rest)

-- one way behind the other
pub costs_then : {a b c : Run} {m n : ℕ} (sum : ℕ) → sum ≡ m + n → Costs m a b → Costs n b c → Costs sum a c
costs_then sum is first second =
    let both = in_all-append first.payments second.payments in
    record {
      payments = first.payments ++ second.payments;
      all = omega (arith, is, both, first.all, second.all);
      same = first.same ∙ ap (paying first.payments) second.same ∙ sym (paying-append first.payments second.payments _);
    }

-- the same runs in other words
pub costs_as : {a b c d : Run} {n : ℕ} → a ≡ b → c ≡ d → Costs n b c → Costs n a d
costs_as is to h = record { payments = h.payments; all = h.all; same = is ∙ h.same ∙ ap (paying h.payments) to }
