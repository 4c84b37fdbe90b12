-- What is held after an event.
use Rattle.std.proofs.Common.{◌≡◌, ℕ, List, sym, ◌∙◌, ap}
use Rattle.machine_events.specs.declared.event.Event.{Event}
use Rattle.machine_events.specs.declared.event.Reply.{Reply}
use Rattle.machine_shown.specs.Shown.{Shown, shown, holds}
use Rattle.meaning_runs.proofs.Spends.{shown-snoc}
use Rattle.drive_account.specs.View.{View, Stays, Gains}
use Rattle.drive_account.specs.Holds.{held_in}
use Rattle.drive_account.specs.declared.held.Held.{Held}
use Rattle.drive_account.specs.Ending.{Holds}

-- what is held changes as the events show
pub holds_made : {S : Type 0} (old new : View S) (event : Event) (reply : Reply) (before after : Held) → Stays old new → Gains old new event reply → Holds old before
    → held_in after ≡ holds event reply (held_in before) → Holds new after
holds_made old new event reply before after stays gains known same =
    same ∙ ap (holds event reply) known ∙ sym (ap (λ (s : Shown). s.held) (shown-snoc old.number old.mine (event, reply)))
    ∙ ap (λ (pairs : List (Event × Reply)). (shown old.number pairs).held) (sym gains.mine)
    ∙ ap (λ (t : ℕ). (shown t new.mine).held) (sym stays.number)
