-- What each event answers, and the state that it leaves. One event of one thread is one atomic step.
use Rattle.std.specs.Prelude.{ℕ}
use Rattle.machine_events.specs.declared.event.Event.{Event}
use Rattle.machine_events.specs.declared.event.Event.TheVariants as events
use Rattle.machine_events.specs.declared.event.Reply.{Reply}
use Rattle.machine_events.specs.declared.event.Reply.TheVariants as replies
use Rattle.machine_spec.specs.declared.state.State.{State}
use Rattle.machine_spec.specs.Waits.{ask, take_name, wake}
use Rattle.machine_spec.specs.Bodies.{add, finish, release, source, main, end}
use Rattle.machine_spec.specs.Variables.{get_var, set_var, del_var, names}
use Rattle.machine_spec.specs.Search.{path_get, path_add, dir_get, dir_set, invalidate, ns_get, ns_set}
use Rattle.machine_spec.specs.Cache.{tab_get, tab_set, tab_del}
use Rattle.machine_spec.specs.Reloads.{reload_begin, reload_take, reload_end}
use Rattle.machine_spec.specs.Lazies.{add_lazy, rouse}

-- each event by its own row; a Print changes nothing, since its text stands in the history
abbrev pub step : State → ℕ → Event → Reply × State
step s t (events.Ask n) = ask s t n
step s t (events.Take n) = take_name s t n
step s t events.Wake = wake s t
step s t (events.Add spec text) = add s t spec text
step s t (events.Finish load good) = finish s t load good
step s t (events.Release n) = release s t n
step s t (events.GetVar mid x raw) = get_var s t mid x raw
step s t (events.SetVar raw mid x v) = set_var s t mid x v raw
step s t (events.DelVar mid x raw) = del_var s t mid x raw
step s t (events.Names mid) = names s mid
step s t (events.Source load) = source s load
step s t (events.Print text) = (replies.Done, s)
step s t events.PathGet = path_get s
step s t (events.PathAdd at v) = path_add s at v
step s t (events.DirGet dir part) = dir_get s dir part
step s t (events.DirSet dir listing) = dir_set s dir listing
step s t events.Invalidate = invalidate s
step s t (events.NsGet mid) = ns_get s mid
step s t (events.NsSet mid state) = ns_set s mid state
step s t (events.TabGet n) = tab_get s n
step s t (events.TabSet n slot) = tab_set s n slot
step s t (events.TabDel n) = tab_del s n
step s t (events.ReloadBegin mid raw) = reload_begin s t mid raw
step s t (events.ReloadTake mid spec text) = reload_take s t mid spec text
step s t (events.ReloadEnd mid load) = reload_end s t mid load
step s t (events.AddLazy spec text) = add_lazy s t spec text
step s t (events.Rouse mid) = rouse s t mid
step s t (events.Main spec text) = main s t spec text
step s t (events.End outcome spent) = end s t
