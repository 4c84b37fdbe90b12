-- What a script holds is given up, one thing after the other.
use Rattle.std.proofs.Common.{◌≡◌, ◌≤◌, ℕ, ◌+◌, List, [], ◌∷◌, ◌++◌, sym, ◌∙◌, ap, subst, arith}
use Rattle.machine_events.specs.declared.event.Event.{Event}
use Rattle.machine_events.specs.declared.event.Event.TheVariants.{End}
use Rattle.machine_events.specs.declared.event.Outcome.{Outcome}
use Rattle.machine_events.specs.declared.event.Reply.{Reply}
use Rattle.machine_shown.specs.Shown.{shown}
use Rattle.machine_shown.specs.Knowing.{IsShown}
use Rattle.meaning_runs.specs.Lists.{lists_in}
use Rattle.meaning_runs.specs.Runs.{gives, keeps, Makes}
use Rattle.meaning_runs.proofs.Stand.{may_give, gives_more, held_more, runs_more}
use Rattle.drive_account.specs.View.{View, Stays, Gains}
use Rattle.drive_account.specs.Holds.{holding_of, held_in}
use Rattle.drive_account.specs.declared.held.Held.{Held}
use Rattle.drive_account.specs.declared.held.Hold.{Hold}
use Rattle.drive_account.specs.Ending.{Idle, Gave}

-- the innermost may be given up
pub gives_shown : {S : Type 0} (v : View S) (h : Hold) (event : Event) (before after : Held) → event ≡ gives (holding_of h) → Idle v before → held_in before ≡ holding_of h ∷ held_in after
    → IsShown (shown v.number v.mine) event
gives_shown v h event before after is idle popped =
    rw is (may_give (shown v.number v.mine) (holding_of h) (held_in after) idle.runs (sym idle.holds ∙ popped))

pub idle_given : {S : Type 0} (old new : View S) (h : Hold) (event : Event) (reply : Reply) (before after : Held) → event ≡ gives (holding_of h) → Stays old new → Gains old new event reply
    → Idle old before → held_in before ≡ holding_of h ∷ held_in after → Idle new after
idle_given old new h event reply before after is stays gains idle popped =
    let more : new.mine ≡ old.mine ++ (gives (holding_of h), reply) ∷ [] = subst (λ (event : Event). new.mine ≡ old.mine ++ (event, reply) ∷ []) is gains.mine in
    record {
      ready = stays.ready idle.ready;
      runs = rw stays.number (runs_more old.number (holding_of h) old.mine new.mine reply idle.runs more);
      holds = rw stays.number (sym (held_more old.number (holding_of h) (held_in after) old.mine new.mine reply (sym idle.holds ∙ popped) more));
    }

pub gave_given : {S : Type 0} (first old new : View S) (h : Hold) (event : Event) (reply : Reply) (before after : Held) → event ≡ gives (holding_of h) → Stays first old → Gains old new event reply
    → Idle old before → held_in before ≡ holding_of h ∷ held_in after → Gave first.number first.mine old.mine → Gave first.number first.mine new.mine
gave_given first old new h event reply before after is stays gains idle popped gave = λ files whole budget of_tree up.
    let more : new.mine ≡ old.mine ++ (gives (holding_of h), reply) ∷ [] = subst (λ (event : Event). new.mine ≡ old.mine ++ (event, reply) ∷ []) is gains.mine in
    let held : (shown first.number old.mine).held ≡ holding_of h ∷ held_in after = subst (λ (t : ℕ). (shown t old.mine).held ≡ holding_of h ∷ held_in after) stays.number (sym idle.holds ∙ popped) in
    gives_more first.number whole budget (holding_of h) (held_in after) old.mine new.mine of_tree reply held more (gave files whole budget of_tree up)

-- where nothing is held the End may be made
pub end_idle : {S : Type 0} (v : View S) (held : Held) (outcome : Outcome) (paid : ℕ) → Idle v held → held_in held ≡ [] → IsShown (shown v.number v.mine) (End outcome paid)
end_idle v held outcome paid idle none = (idle.runs, sym idle.holds ∙ none)

-- one more event keeps one more listing, or none
pub lists_more : (mine : List (Event × Reply)) (p : Event × Reply) → lists_in (mine ++ p ∷ []) ≡ lists_in mine + keeps p.0
lists_more [] p = omega arith
lists_more (q ∷ mine) p = let rest = lists_more mine p in omega (arith, rest)

pub lists_grow : (mine mine' : List (Event × Reply)) (event : Event) (reply : Reply) → mine' ≡ mine ++ (event, reply) ∷ [] → lists_in mine ≤ lists_in mine'
lists_grow mine mine' event reply is =
    let one : lists_in mine' ≡ lists_in mine + keeps event = ap lists_in is ∙ lists_more mine (event, reply) in
    omega (arith, one)

pub lists_then : (first mine mine' : List (Event × Reply)) (event : Event) (reply : Reply) → lists_in first ≤ lists_in mine → mine' ≡ mine ++ (event, reply) ∷ [] → lists_in first ≤ lists_in mine'
lists_then first mine mine' event reply grew is =
    let more = lists_grow mine mine' event reply is in
    omega (arith, grew, more)
