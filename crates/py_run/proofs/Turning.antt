-- From where a script stands to where it stands after a turn.
use Rattle.std.proofs.Common.{◌≡◌, ℕ, List, [], Option, None, ap, sym, ◌∙◌, subst, false}
use Rattle.tree_files.specs.Files.{Files}
use Rattle.machine_events.specs.declared.event.Event.{Event}
use Rattle.machine_events.specs.declared.event.Reply.{Reply}
use Rattle.machine_shown.specs.Shown.{shown_first}
use Rattle.meaning_runs.specs.Runs.{Run, Safe, StandsIn}
use Rattle.meaning_runs.proofs.Stand.{stands_start, safe_stands, in_some}
use Rattle.drive_account.specs.View.{View, Stays}
use Rattle.py_frames.specs.declared.want.Want.{Want}
use Rattle.py_frames.specs.declared.want.Want.TheVariants as want
use Rattle.py_frames.specs.declared.replies.OnReply.TheVariants as on
use Rattle.py_value.specs.declared.value.ModRef.{ModRef}
use Rattle.py_value.specs.declared.value.Value.{Value, out-Value, out-roll-Value}
use Rattle.py_value.specs.declared.value.Value.TheOpen.{Value-F}
use Rattle.py_value.specs.declared.value.Value.TheVariants.{rolls-Module}
use Rattle.meaning_script.specs.Meaning.{around_at}
use Rattle.step_calls.specs.Sources.{sources}
use Rattle.py_frames.specs.Does.{rest}
use Rattle.meaning_script.specs.Names.{member_at}
use Rattle.machine_events.specs.declared.event.Event.TheVariants as e
use Rattle.drive_account.specs.Ending.{Holds}
use Rattle.drive_account.specs.At.{At}
use Rattle.drive_account.specs.Asking.{Refused, RefusedAt, Parted}
use Rattle.drive_straight.specs.Remains.{due}
use Rattle.drive_straight.specs.declared.next.Next.{Next}
use Rattle.drive_straight.specs.declared.next.Next.TheVariants as nexts
use Rattle.py_run.specs.Turns.{After, Counts, Turned, Stood, remains}
use Rattle.py_run.specs.Overs.{Begun, Fresh}
use Rattle.py_run.specs.Starts.{StartsAs}
use Rattle.drive_straight.specs.declared.execution.Execution.{Execution}
use Rattle.py_run.specs.declared.turns.Turn.{Turn}
use Rattle.drive_account.specs.declared.payments.Budget.{Budget}

-- at first a thread stands at the start of its meaning
pub begins : (files : Option Files) (t fuel : ℕ) (whole : Run) (w : Want) (mine : List (Event × Reply)) (c : Execution) → mine ≡ [] → Fresh t fuel c → StartsAs t whole w
    → At files whole fuel mine c.budget (remains c w)
begins files t fuel whole w mine c none fresh starts =
    rw none (rw fresh.budget (subst (λ (run : Run). At files whole fuel [] (record { left = fuel; read = None; of_tree = false }) run) (sym (starts fuel c fresh))
    (record { stands = stands_start whole fuel; unread = tt })))

-- and stands somewhere, even where nothing is wanted yet
pub stands_first : (files : Option Files) (whole : Run) (fuel : ℕ) (mine : List (Event × Reply)) → mine ≡ [] → StandsIn files whole fuel mine
stands_first files whole fuel mine none = rw none (in_some (stands_start {files = files} whole fuel))

pub holds_first : {S : Type 0} (v : View S) (script fuel : ℕ) (c : Execution) → v.mine ≡ [] → Fresh script fuel c → Holds v c.held
holds_first v script fuel c none fresh = rw none fresh.held

-- the next turn may be done
pub stood : {S : Type 0} (first v : View S) (files : Option Files) (script fuel : ℕ) (whole : Run) (c : Execution) (next : Next)
    → Begun first script → Stays first v → Holds v c.held → At files whole fuel v.mine c.budget (due next c) → Safe (shown_first script) whole → Stood v c.held (due next c)
stood first v files script fuel whole c next begun stays holds at safe = record {
  ready = stays.ready begun.ready;
  holds = holds;
  safe = rw (stays.number ∙ begun.number) (safe_stands script at.stands safe);
}

-- over a tree whose files are as they were
pub after_turn : (files files' : Option Files) (whole : Run) (fuel faults faults' : ℕ) (mine mine' : List (Event × Reply)) (c c' : Execution) (next : Next) (t : Turn)
    → files' ≡ files → At files whole fuel mine c.budget (due next c) → Turned files' faults faults' mine mine' c.budget c' (due next c) t → After files whole fuel mine' c' t
after_turn files files' whole fuel faults faults' mine mine' c c' next t same at turned =
    subst (λ (o : Option Files). After o whole fuel mine' c' t) same (turned.moves whole fuel (subst (λ (o : Option Files). At o whole fuel mine c.budget (due next c)) (sym same) at))

pub parted : (files files' : Option Files) (whole : Run) (fuel : ℕ) (mine mine' : List (Event × Reply)) (c : Execution) (next : Next)
    → files' ≡ files → At files whole fuel mine c.budget (due next c) → Parted files' mine mine' c.budget (due next c) → StandsIn files whole fuel mine'
parted files files' whole fuel mine mine' c next same at part =
    subst (λ (o : Option Files). StandsIn o whole fuel mine') same (part whole fuel (subst (λ (o : Option Files). At o whole fuel mine c.budget (due next c)) (sym same) at))

pub refused_at : {S : Type 0} (v : View S) (files files' : Option Files) (whole : Run) (fuel : ℕ) (mine : List (Event × Reply)) (c : Execution) (next : Next)
    → files' ≡ files → At files whole fuel mine c.budget (due next c) → Refused v files' mine c.budget (due next c) → RefusedAt v files whole fuel
refused_at v files files' whole fuel mine c next same at refused =
    subst (λ (o : Option Files). RefusedAt v o whole fuel) same (refused whole fuel (subst (λ (o : Option Files). At o whole fuel mine c.budget (due next c)) (sym same) at))

-- a turn over a count that is as it was
pub counts_same : {faults faults' : ℕ} → faults' ≡ faults → (t : Turn) → Counts faults faults t → Counts faults faults' t
counts_same {faults = faults} same t counts = subst (λ (n : ℕ). Counts faults n t) (sym same) counts

-- where nothing was done, a script stands somewhere
pub parted_here : {files : Option Files} {mine : List (Event × Reply)} (budget : Budget) (run : Run) → Parted files mine mine budget run
parted_here budget run whole fuel a = in_some a.stands

-- the event by which an attribute of a module is read
pub member_by : (c : Execution) (m : ModRef) (x y : List ℕ) (k : ℕ) → y ≡ x → k ≡ m.mid → due (nexts.Member m x) c ≡ remains c (want.Call (e.GetVar k y false) (on.Member m x false))
member_by c m x y k same is =
    rw (same, is) (ap (λ (layer : Value-F Value). member_at (around_at sources c.thread.left).access layer x c.thread.state (rest sources c.work c.thread.left))
    (ap out-Value (sym (rolls-Module m)) ∙ out-roll-Value (Value-F.Module m)))
