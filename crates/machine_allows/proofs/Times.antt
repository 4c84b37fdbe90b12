-- How often a thing stands in the list of what is held.
use Rattle.std.proofs.Common.{◌≡◌, ℕ, ◌+◌, ◌<◌, arith, true, false, cond, List, [], ◌∷◌, Option, Some, None, refl, sym, ap, ◌∙◌, inl, inr}
use Rattle.std.specs.Prelude.{nat_eq}
use Rattle.std.specs.Cmp.Lexicographic.{nat_list_eq_equiv}
use Rattle.std.proofs.lemmas.Bool.{and_parts, and_from, false≢true, eqb-true, eq-eqb}
use Rattle.std.proofs.lemmas.Slice.Eq.{bytes_eq-Decides}
use Rattle.machine_events.specs.Loads.{is_same_load}
use Rattle.machine_events.proofs.Loads.{same_load, same_load_self}
use Rattle.machine_shown.specs.Holdings.{Holding, Taken, Loading, Reloading, is_holding, without, becoming}
use Rattle.machine_shown.specs.Knowing.{Has}
use Rattle.machine_laws.proofs.Counts.{bit}

abbrev pub times : Holding → List Holding → ℕ
times x [] = 0
times x (h ∷ held) = bit (is_holding x h) + times x held

pub holding_is : (x h : Holding) → is_holding x h ≡ true → x ≡ h
holding_is (Taken n) (Taken m) h = ap (λ z. Taken z) ((bytes_eq-Decides n m).0 h)
holding_is (Taken n) (Loading load) h = absurd (false≢true h)
holding_is (Taken n) (Reloading mid load) h = absurd (false≢true h)
holding_is (Loading i) (Taken m) h = absurd (false≢true h)
holding_is (Loading i) (Loading load) h = ap (λ z. Loading z) (eqb-true i load h)
holding_is (Loading i) (Reloading mid load) h = absurd (false≢true h)
holding_is (Reloading i l) (Taken m) h = absurd (false≢true h)
holding_is (Reloading i l) (Loading load) h = absurd (false≢true h)
holding_is (Reloading i l) (Reloading mid load) h =
    let parts = and_parts (nat_eq mid i) (is_same_load load l) h in
    ap (λ z. Reloading z l) (sym (eqb-true mid i parts.0)) ∙ ap (λ z. Reloading mid z) (sym (same_load load l parts.1))

pub holding_self : (x : Holding) → is_holding x x ≡ true
holding_self (Taken n) = nat_list_eq_equiv.refl n
holding_self (Loading i) = eq-eqb i i refl
holding_self (Reloading i l) = and_from (nat_eq i i) (is_same_load l l) (eq-eqb i i refl) (same_load_self l)

pub has_times : (x : Holding) (held : List Holding) → Has held x → 0 < times x held
has_times x [] h = absurd h
has_times x (y ∷ held) (inl e) = let one : bit (is_holding x y) ≡ 1 = ap (λ z. bit (is_holding x z)) (sym e) ∙ ap bit (holding_self x) in omega arith
has_times x (y ∷ held) (inr h) = let rest = has_times x held h in omega arith

pub times_without : (x y : Holding) (held : List Holding) → 0 < times x held → times y (without x held) + bit (is_holding y x) ≡ times y held
times_without x y [] h = absurd (omega arith)
times_without x y (z ∷ held) h =
    elim (is_holding x z) as (λ c. is_holding x z ≡ c → 0 < bit c + times x held → times y (cond c held (z ∷ without x held)) + bit (is_holding y x) ≡ bit (is_holding y z) + times y held) [
      | true ↦ λ p some. let same : bit (is_holding y x) ≡ bit (is_holding y z) = ap (λ w. bit (is_holding y w)) (holding_is x z p) in omega arith
      | false ↦ λ p some. let rest = times_without x y held (omega arith) in omega arith
    ] refl h

pub times_becoming : (x new y : Holding) (held : List Holding) → 0 < times x held → times y (becoming x new held) + bit (is_holding y x) ≡ times y held + bit (is_holding y new)
times_becoming x new y [] h = absurd (omega arith)
times_becoming x new y (z ∷ held) h =
    elim (is_holding x z) as (λ c. is_holding x z ≡ c → 0 < bit c + times x held → times y (cond c (new ∷ held) (z ∷ becoming x new held)) + bit (is_holding y x) ≡ (bit (is_holding y z) + times y held) + bit (is_holding y new)) [
      | true ↦ λ p some. let same : bit (is_holding y x) ≡ bit (is_holding y z) = ap (λ w. bit (is_holding y w)) (holding_is x z p) in omega arith
      | false ↦ λ p some. let rest = times_becoming x new y held (omega arith) in omega arith
    ] refl h
