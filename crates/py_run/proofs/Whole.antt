-- From the work of a script to its End, and to what stands where it is broken off.
use Rattle.std.proofs.Common.{◌≡◌, ℕ, ◌+◌, ◌-◌, ◌≤◌, List, [], ◌∷◌, ◌++◌, Bool, true, Option, Some, refl, ◌∙◌, ap, subst, arith}
use Rattle.tree_files.specs.Files.{Files}
use Rattle.tree_files.specs.Count.{Rose}
use Rattle.machine_events.specs.declared.event.Event.{Event}
use Rattle.machine_events.specs.declared.event.Event.TheVariants.{End}
use Rattle.machine_events.specs.declared.event.Reply.{Reply}
use Rattle.machine_events.specs.declared.event.Reply.TheVariants.{Done}
use Rattle.machine_events.specs.declared.event.Outcome.{Outcome}
use Rattle.machine_events.specs.declared.event.Outcome.TheVariants as o
use Rattle.machine_shown.specs.Shown.{shown, shown_first}
use Rattle.machine_shown.specs.Knowing.{IsShown}
use Rattle.meaning_runs.specs.Runs.{Run, Ended, Spent, Stands, StandsIn, IsSpent, IsUnread, GivesUp, gives_up, Safe}
use Rattle.meaning_runs.specs.Follows.{Ends}
use Rattle.meaning_runs.specs.Lists.{lists_in, ends_in}
use Rattle.meaning_runs.proofs.Giving.{safe_spend}
use Rattle.meaning_runs.proofs.Once.{no_end}
use Rattle.meaning_runs.proofs.Stand.{safe_stands, over_reached, all_given, spent_gives_up, unread_gives_up}
use Rattle.meaning_state.specs.declared.flow.Leave.TheVariants.{Raised, Return, Break, Continue}
use Rattle.meaning_state.specs.declared.flow.Flow.{Flow}
use Rattle.meaning_state.specs.declared.flow.Flow.TheVariants.{Went, Left}
use Rattle.meaning_script.specs.Meaning.{outcome_of}
use Rattle.drive_account.specs.View.{View, Stays}
use Rattle.drive_account.specs.At.{IsShort}
use Rattle.drive_account.specs.declared.held.Held.{Held}
use Rattle.drive_account.specs.Asking.{AllKept}
use Rattle.py_run.specs.Turns.{ended}
use Rattle.py_run.specs.Overs.{Begun}
use Rattle.drive_account.specs.Ending.{IsMeant, Broken, in_run, at_read, Gave, GaveAll, Idle, Holds}

ends_came : (flow : Flow) (fuel : ℕ) → Ends fuel (outcome_of flow) fuel (Ended (outcome_of flow))
ends_came (Went v) fuel = (refl, refl)
ends_came (Left (Raised error)) fuel = (refl, refl)
ends_came (Left (Return v)) fuel = (refl, refl)
ends_came (Left Break) fuel = (refl, refl)
ends_came (Left Continue) fuel = (refl, refl)

pub meant_came : {told : Option Files} (t : ℕ) (whole : Run) (fuel budget : ℕ) (mine mine' : List (Event × Reply)) (flow : Flow) → Stands told whole fuel mine budget (ended flow)
    → mine' ≡ mine ++ (End (outcome_of flow) fuel, Done) ∷ [] → IsMeant told t whole fuel mine' (outcome_of flow)
meant_came t whole fuel budget mine mine' flow s is = record {
  before = mine;
  paid = fuel;
  how = Ended (outcome_of flow);
  whole = is;
  reaches = over_reached t s;
  ends = ends_came flow fuel;
}

-- over a tree that tells these files
pub meant_over : {told : Option Files} {f : Files} {t : ℕ} {whole : Run} {fuel : ℕ} {mine : List (Event × Reply)} {how : Outcome} → told ≡ Some f → IsMeant told t whole fuel mine how → IsMeant (Some f) t whole fuel mine how
meant_over {t = t} {whole} {fuel} {mine} {how} is meant = subst (λ (o : Option Files). IsMeant o t whole fuel mine how) is meant

-- a script that stands at a payment that it cannot make gives up what it holds
short_gives_up : {files : Option Files} (t : ℕ) {whole : Run} {fuel : ℕ} {mine : List (Event × Reply)} {budget : ℕ} {of_tree : Bool} → IsShort files whole fuel mine budget of_tree → GivesUp files t whole fuel mine of_tree
short_gives_up {files} t {whole} {fuel} {mine} {budget} {of_tree} s =
    let spent : IsSpent files whole fuel mine budget = record { of_tree = of_tree; units = s.units; next = s.next; stands = s.stands; short = s.short } in
    spent_gives_up t spent

pub meant_out : {told : Option Files} (t : ℕ) (whole : Run) (fuel budget : ℕ) (of_tree : Bool) (mine mine' : List (Event × Reply)) → IsShort told whole fuel mine budget of_tree → GaveAll t mine mine' o.Fuel fuel
    → IsMeant told t whole fuel mine' o.Fuel
meant_out {told} t whole fuel budget of_tree mine mine' s all = record {
  before = all.before;
  paid = fuel;
  how = Spent of_tree;
  whole = all.whole;
  reaches = all_given t whole fuel all.before of_tree all.free (all.gave told whole fuel of_tree (short_gives_up t s));
  ends = ((of_tree, refl), refl);
}

-- what was paid before the payment for the failed call, and that payment, are within the fuel
unread_paid : {files : Option Files} (run : Run) (fuel left : ℕ) (mine : List (Event × Reply)) → IsUnread files run fuel mine left → fuel - left + 1 ≤ fuel
unread_paid run fuel left mine s = omega (arith, s.stands.sum, s.some, s.enough)

pub unread_left : {files : Option Files} (run : Run) (fuel left : ℕ) (mine : List (Event × Reply)) → IsUnread files run fuel mine left → left ≤ fuel
unread_left run fuel left mine s = omega (arith, s.stands.sum)

pub meant_read : {told : Option Files} (t : ℕ) (whole : Run) (fuel left : ℕ) (mine mine' : List (Event × Reply)) → IsUnread told whole fuel mine left → GaveAll t mine mine' o.Read (fuel - left)
    → IsMeant told t whole fuel mine' o.Read
meant_read {told} t whole fuel left mine mine' s all = record {
  before = all.before;
  paid = fuel - left;
  how = Spent true;
  whole = all.whole;
  reaches = all_given t whole (fuel - left) all.before true all.free (all.gave told whole (fuel - left) true (unread_gives_up t s));
  ends = (refl, unread_paid whole fuel left mine s);
}

-- where it is broken off
pub broken_out : {told : Option Files} (t : ℕ) (whole : Run) (fuel budget : ℕ) (of_tree : Bool) (mine mine' : List (Event × Reply)) (old new : ℕ) → IsShort told whole fuel mine budget of_tree → Gave t mine mine' → Broken told t whole fuel mine' old new
broken_out {told} t whole fuel budget of_tree mine mine' old new s gave = in_run (gives_up of_tree (shown t mine').held) (gave told whole fuel of_tree (short_gives_up t s))

pub broken_read : {told : Option Files} (t : ℕ) (whole : Run) (fuel left : ℕ) (mine mine' : List (Event × Reply)) (old new : ℕ) → IsUnread told whole fuel mine left → Gave t mine mine' → Rose old new → Broken told t whole fuel mine' old new
broken_read {told} t whole fuel left mine mine' old new s gave rose =
    at_read (fuel - left) (unread_paid whole fuel left mine s) rose (gave told whole (fuel - left) true (unread_gives_up t s))

-- where the work is done, the End may be made; before that the script runs
pub came_shown : {S : Type 0} (first v : View S) (files : Option Files) (t : ℕ) (whole : Run) (fuel : ℕ) (flow : Flow) → Begun first t → Stays first v → Safe (shown_first t) whole
    → (budget : ℕ) × Stands files whole fuel v.mine budget (ended flow) → IsShown (shown v.number v.mine) (End (outcome_of flow) fuel)
came_shown first v files t whole fuel flow begun stays safe s = rw (stays.number ∙ begun.number) (safe_stands t s.1 safe).1

pub spent_idle : {S : Type 0} (first v : View S) (files : Option Files) (t : ℕ) (whole : Run) (fuel : ℕ) (of_tree : Bool) (held : Held) → Begun first t → Stays first v → Safe (shown_first t) whole → Holds v held
    → (budget : ℕ) × IsShort files whole fuel v.mine budget of_tree → Idle v held
spent_idle first v files t whole fuel of_tree held begun stays safe holds s = record {
  ready = stays.ready begun.ready;
  runs = rw (stays.number ∙ begun.number) (safe_stands t s.1.stands safe).0;
  holds = holds;
}

pub unread_idle : {S : Type 0} (first v : View S) (files : Option Files) (t : ℕ) (whole : Run) (fuel left : ℕ) (held : Held) → Begun first t → Stays first v → Safe (shown_first t) whole → Holds v held
    → IsUnread files whole fuel v.mine left → Idle v held
unread_idle first v files t whole fuel left held begun stays safe holds s = record {
  ready = stays.ready begun.ready;
  runs = rw (stays.number ∙ begun.number) (safe_stands t s.stands safe).0;
  holds = holds;
}

-- a script that is broken off has made no End
pub no_end_in : {files : Option Files} (t : ℕ) (whole : Run) (fuel : ℕ) (mine : List (Event × Reply)) → StandsIn files whole fuel mine → Safe (shown_first t) whole → ends_in mine ≡ 0
no_end_in t whole fuel mine s safe = no_end t s.stands.reaches safe

pub no_end_out : {files : Option Files} (t : ℕ) (whole : Run) (fuel budget : ℕ) (of_tree : Bool) (mine mine' : List (Event × Reply)) → IsShort files whole fuel mine budget of_tree → Safe (shown_first t) whole → Gave t mine mine' → ends_in mine' ≡ 0
no_end_out {files = files} t whole fuel budget of_tree mine mine' s safe gave = no_end t (gave files whole fuel of_tree (short_gives_up t s)) (safe_spend whole fuel (shown_first t) safe)

pub no_end_read : {files : Option Files} (t : ℕ) (whole : Run) (fuel left : ℕ) (mine mine' : List (Event × Reply)) → IsUnread files whole fuel mine left → Safe (shown_first t) whole → Gave t mine mine' → ends_in mine' ≡ 0
no_end_read {files = files} t whole fuel left mine mine' s safe gave = no_end t (gave files whole (fuel - left) true (unread_gives_up t s)) (safe_spend whole (fuel - left) (shown_first t) safe)

-- from the first event to the last each list is one of the script's DirSet events
pub lists_whole : (lists lists' : ℕ) (first mine mine' : List (Event × Reply)) → first ≡ [] → AllKept lists lists' first mine → lists_in mine ≤ lists_in mine' → lists' ≤ lists + lists_in mine'
lists_whole lists lists' first mine mine' none kept grew =
    let zero : lists_in first ≡ 0 = ap lists_in none in
    omega (arith, zero, kept, grew)
