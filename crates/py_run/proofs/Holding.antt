-- Which events may be made.
use Rattle.std.proofs.Common.{◌≡◌, Bool, true, false, sym, ◌∙◌, ap}
use Rattle.std.proofs.lemmas.Bool.{false≢true}
use Rattle.machine_events.specs.declared.event.Event.{Event}
use Rattle.machine_events.specs.declared.event.Event.TheVariants as e
use Rattle.machine_shown.specs.Shown.{Shown, Running, Waiting, Over, Doing}
use Rattle.machine_shown.specs.Knowing.{IsShown}
use Rattle.meaning_runs.specs.Runs.{MayMake}

abbrev is_running : Doing → Bool
is_running Running = true
is_running Waiting = false
is_running Over = false

-- a running script makes what is shown to be allowed
pub knows_made : (s : Shown) (event : Event) → s.doing ≡ Running → MayMake s event → IsShown s event
knows_made s e.Wake runs may = absurd (false≢true (sym (ap is_running may) ∙ ap is_running runs))
knows_made s (e.Ask n) runs may = may
knows_made s (e.Take n) runs may = may
knows_made s (e.Add spec text) runs may = may
knows_made s (e.Finish load good) runs may = may
knows_made s (e.Release n) runs may = may
knows_made s (e.GetVar mid x raw) runs may = may
knows_made s (e.SetVar raw mid x v) runs may = may
knows_made s (e.DelVar mid x raw) runs may = may
knows_made s (e.Names mid) runs may = may
knows_made s (e.Source load) runs may = may
knows_made s (e.Print text) runs may = may
knows_made s e.PathGet runs may = may
knows_made s (e.PathAdd at v) runs may = may
knows_made s (e.DirGet dir part) runs may = may
knows_made s (e.DirSet dir listing) runs may = may
knows_made s e.Invalidate runs may = may
knows_made s (e.NsGet mid) runs may = may
knows_made s (e.NsSet mid state) runs may = may
knows_made s (e.TabGet n) runs may = may
knows_made s (e.TabSet n slot) runs may = may
knows_made s (e.TabDel n) runs may = may
knows_made s (e.ReloadBegin mid raw) runs may = may
knows_made s (e.ReloadTake mid spec text) runs may = may
knows_made s (e.ReloadEnd mid load) runs may = may
knows_made s (e.AddLazy spec text) runs may = may
knows_made s (e.Rouse mid) runs may = may
knows_made s (e.Main spec text) runs may = may
knows_made s (e.End outcome spent) runs may = may
