-- How each allowed event changes the number of open loads of a name.
use Rattle.std.proofs.Common.{ℕ, ◌&&◌, None, Some, refl}
use Rattle.std.specs.Prelude.{IsTrue, slice_get}
use Rattle.std.specs.FinMap.{get}
use Rattle.std.proofs.lemmas.Bool.{and_parts}
use Rattle.machine_events.specs.declared.event.Event.{Event}
use Rattle.machine_events.specs.declared.event.Event.TheVariants as events
use Rattle.machine_events.specs.declared.event.Reply.TheVariants as replies
use Rattle.module_lock.specs.Table.{got}
use Rattle.machine_spec.specs.declared.state.State.{State}
use Rattle.machine_spec.specs.Step.{step}
use Rattle.machine_spec.specs.Allowed.{allowed, has_text, has_name, is_reloading}
use Rattle.machine_laws.specs.Sound.{IsSound}
use Rattle.machine_laws.proofs.Leave.{fitting}
use Rattle.machine_laws.proofs.Moves.{ns_same, main_same}
use Rattle.machine_laws.proofs.Kept.{sets_on, deletes_on, sets_tab, deletes_tab, adds_path}
use Rattle.import_machine.specs.Counts.{begins, ends}
use Rattle.import_machine.proofs.Moving.{Moves, quiet, stays, asks, begins_on, adds, adds_lazy, finishes, takes_again, leaves, ends_again, rouses}

pub moves : (s : State) → IsSound s → (t : ℕ) (e : Event) → IsTrue (allowed s t e) → Moves s (ends s e) (begins s e) (step s t e)
moves s sound t (events.Ask n) h = stays s (step s t (events.Ask n)) (asks s t n (replies.Missing, s) (λ _. refl) (get s.table.cache n))
moves s sound t (events.Take n) h = stays s (step s t (events.Take n)) (asks s t n (replies.Mine s.table.epoch, record s { locks = got s.locks t n }) (λ _. refl) (get s.table.cache n))
moves s sound t events.Wake h = stays s (step s t events.Wake) (λ _. refl)
moves s sound t (events.Add spec text) h = adds s sound t spec text
moves s sound t (events.Finish load good) h = finishes s sound t load good (slice_get s.table.loads load) refl (fitting s t (events.Finish load good) h refl)
moves s sound t (events.Release n) h = stays s (step s t (events.Release n)) (λ _. refl)
moves s sound t (events.GetVar mid x raw) h = stays s (step s t (events.GetVar mid x raw)) (λ _. refl)
moves s sound t (events.SetVar raw mid x v) h = stays s (step s t (events.SetVar raw mid x v)) (quiet s (step s t (events.SetVar raw mid x v)) (sets_on s t mid x v raw (slice_get s.table.objects mid)))
moves s sound t (events.DelVar mid x raw) h = stays s (step s t (events.DelVar mid x raw)) (quiet s (step s t (events.DelVar mid x raw)) (deletes_on s t mid x raw (slice_get s.table.objects mid)))
moves s sound t (events.Names mid) h = stays s (step s t (events.Names mid)) (λ _. refl)
moves s sound t (events.Source load) h = stays s (step s t (events.Source load)) (λ _. refl)
moves s sound t (events.Print text) h = stays s (step s t (events.Print text)) (λ _. refl)
moves s sound t events.PathGet h = stays s (step s t events.PathGet) (λ _. refl)
moves s sound t (events.PathAdd at v) h = stays s (step s t (events.PathAdd at v)) (quiet s (step s t (events.PathAdd at v)) (adds_path s t at v))
moves s sound t (events.DirGet dir part) h = stays s (step s t (events.DirGet dir part)) (λ _. refl)
moves s sound t (events.DirSet dir listing) h = stays s (step s t (events.DirSet dir listing)) (λ _. refl)
moves s sound t events.Invalidate h = stays s (step s t events.Invalidate) (λ _. refl)
moves s sound t (events.NsGet mid) h = stays s (step s t (events.NsGet mid)) (λ _. refl)
moves s sound t (events.NsSet mid state) h = stays s (step s t (events.NsSet mid state)) (quiet s (step s t (events.NsSet mid state)) (ns_same s mid state))
moves s sound t (events.TabGet n) h = stays s (step s t (events.TabGet n)) (λ _. refl)
moves s sound t (events.TabSet n slot) h = stays s (step s t (events.TabSet n slot)) (quiet s (step s t (events.TabSet n slot)) (sets_tab s t n slot))
moves s sound t (events.TabDel n) h = stays s (step s t (events.TabDel n)) (quiet s (step s t (events.TabDel n)) (deletes_tab s t n))
moves s sound t (events.ReloadBegin mid raw) h = stays s (step s t (events.ReloadBegin mid raw)) (begins_on s t mid raw (slice_get s.table.objects mid))
moves s sound t (events.ReloadTake mid spec text) h =
    let fits = fitting s t (events.ReloadTake mid spec text) h refl in
    let parts = and_parts (is_reloading s t mid None && has_name (slice_get s.table.objects mid) spec.name) (has_text spec.kind text) fits in
    let front = and_parts (is_reloading s t mid None) (has_name (slice_get s.table.objects mid) spec.name) parts.0 in
    takes_again s sound t mid spec text (slice_get s.table.objects mid) refl front.1
moves s sound t (events.ReloadEnd mid None) h = stays s (step s t (events.ReloadEnd mid None)) (leaves s sound t (slice_get s.table.objects mid))
moves s sound t (events.ReloadEnd mid (Some load)) h = ends_again s sound t mid load (slice_get s.table.objects mid) (fitting s t (events.ReloadEnd mid (Some load)) h refl)
moves s sound t (events.AddLazy spec text) h = stays s (step s t (events.AddLazy spec text)) (adds_lazy s sound t spec text)
moves s sound t (events.Rouse mid) h = rouses s sound t mid (slice_get s.table.objects mid) refl
moves s sound t (events.Main spec text) h = stays s (step s t (events.Main spec text)) (quiet s (step s t (events.Main spec text)) (main_same s t spec text))
moves s sound t (events.End outcome spent) h = stays s (step s t (events.End outcome spent)) (λ _. refl)
