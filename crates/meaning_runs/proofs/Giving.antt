-- What gives up is safe, and so is a safe run with a budget.
use Rattle.std.proofs.Common.{◌≡◌, ℕ, ◌-◌, Bool, true, false, nat_lt, nat_eq, inl, if◌then◌else◌, List, [], ◌∷◌, Some, None, refl, sym, ◌∙◌, ap, subst}
use Rattle.std.proofs.lemmas.Bool.{eq-eqb}
use Rattle.std.specs.Cmp.Lexicographic.{pointwise}
use Rattle.machine_events.specs.declared.event.Reply.{Reply}
use Rattle.machine_shown.specs.Holdings.{Holding, Taken, Loading, Reloading}
use Rattle.machine_shown.specs.Shown.{Shown, Doing, Running, holds, does, shown_more}
use Rattle.machine_shown.specs.Knowing.{Has, IsShown}
use Rattle.meaning_runs.specs.Runs.{Run, Over, Pays, Makes, Looks, StampOf, TextOf, NamesOf, due, gives, gives_up, spend, Safe, MayMake}

-- after it was given up, the first thing that was held is held no more
same_name : (n : List ℕ) → pointwise nat_eq n n ≡ true
same_name [] = refl
same_name (b ∷ bs) = rw (eq-eqb b b refl) (same_name bs)

pub given : (h : Holding) (r : Reply) (held : List Holding) → holds (gives h) r (h ∷ held) ≡ held
given (Taken n) r held = rw (same_name n) refl
given (Loading load) r held = rw (eq-eqb load load refl) refl
given (Reloading mid None) r held = rw (eq-eqb mid mid refl) refl
given (Reloading mid (Some load)) r held = rw (eq-eqb mid mid refl, eq-eqb load load refl) refl

pub still : (h : Holding) (r : Reply) (d : Doing) → does (gives h) r d ≡ d
still (Taken n) r d = refl
still (Loading load) r d = refl
still (Reloading mid load) r d = refl

-- what is held first may be given up
pub may_give : (s : Shown) (h : Holding) (held : List Holding) → s.doing ≡ Running → s.held ≡ h ∷ held → IsShown s (gives h)
may_give s (Taken n) held runs is = (runs, subst (λ (held : List Holding). Has held (Taken n)) (sym is) (inl refl))
may_give s (Loading load) held runs is = (runs, subst (λ (held : List Holding). Has held (Loading load)) (sym is) (inl refl))
may_give s (Reloading mid load) held runs is = (runs, subst (λ (held : List Holding). Has held (Reloading mid load)) (sym is) (inl refl))

-- What gives up is safe.

may_make : (s : Shown) (h : Holding) → IsShown s (gives h) → MayMake s (gives h)
may_make s (Taken n) h = h
may_make s (Loading load) h = h
may_make s (Reloading mid load) h = h

pub safe_given : (of_tree : Bool) (held : List Holding) (s : Shown) → s.doing ≡ Running → s.held ≡ held → Safe s (gives_up of_tree held)
safe_given of_tree [] s run is = (tt, (run, is))
safe_given of_tree (h ∷ held) s run is = (
  may_make s h (may_give s h held run is),
  λ r. safe_given of_tree held (shown_more s (gives h, r)) (still h r s.doing ∙ run) (ap (holds (gives h) r) is ∙ given h r held),
)

-- A listing that is due is due with a budget too.

still_due : (budget : ℕ) (s : Shown) (run : Run) → due run ≡ 1 → due (spend budget s run) ≡ 1
still_due budget s (Over how) is = absurd (cc is)
still_due budget s (Pays of_tree n next) is = absurd (cc is)
still_due budget s (Looks q next) is = absurd (cc is)
still_due budget s (Makes event next) is = is

pub safe_spend : (run : Run) (budget : ℕ) (s : Shown) → Safe s run → Safe s (spend budget s run)
safe_spend (Over how) budget s safe = safe
safe_spend (Pays of_tree n next) budget s safe =
    elim (nat_lt budget n) as (λ b. Safe s (if b then gives_up of_tree s.held else spend (budget - n) s next)) [
      | true ↦ safe_given of_tree s.held s safe.0 refl
      | false ↦ safe_spend next (budget - n) s safe.1
    ]
safe_spend (Looks (StampOf path) next) budget s safe = (safe.0, λ a. safe_spend (next a) budget s (safe.1 a))
safe_spend (Looks (TextOf path) next) budget s safe = (safe.0, λ a. safe_spend (next a) budget s (safe.1 a))
safe_spend (Looks (NamesOf path) next) budget s safe = (safe.0, λ a. (still_due budget s (next a) (safe.1 a).0, safe_spend (next a) budget s (safe.1 a).1))
safe_spend (Makes event next) budget s safe = (safe.0, λ r. safe_spend (next r) budget (shown_more s (event, r)) (safe.1 r))
