-- Of which kinds the reply to an event can be, whatever the state is: the table of events, row by row.
use Rattle.std.specs.Prelude.{◌≡◌, Bool, true, false, Some, None}
use Rattle.machine_events.specs.declared.event.Event.{Event}
use Rattle.machine_events.specs.declared.event.Event.TheVariants as e
use Rattle.machine_events.specs.declared.event.Reply.{Reply}
use Rattle.machine_events.specs.declared.event.Reply.TheVariants as r

-- to Ask
abbrev pub IsAsked : Reply → Type 0
IsAsked r.Missing = Unit {0}
IsAsked r.Deadlock = Unit {0}
IsAsked (r.Wait n) = Unit {0}
IsAsked r.Halted = Unit {0}
IsAsked (r.Module m) = Unit {0}
IsAsked (r.Cycle m) = Unit {0}
IsAsked reply = ⊥

-- to Take: as Ask, but Missing becomes Mine
abbrev pub IsTaken : Reply → Type 0
IsTaken (r.Mine epoch) = Unit {0}
IsTaken r.Deadlock = Unit {0}
IsTaken (r.Wait n) = Unit {0}
IsTaken r.Halted = Unit {0}
IsTaken (r.Module m) = Unit {0}
IsTaken (r.Cycle m) = Unit {0}
IsTaken reply = ⊥

-- to Add
abbrev pub IsLoad : Reply → Type 0
IsLoad (r.Load load mid) = Unit {0}
IsLoad reply = ⊥

-- to Finish: only a good body can lose its entry or its parent's
abbrev pub IsFinished : Bool → Reply → Type 0
IsFinished good (r.Kept slot) = Unit {0}
IsFinished good r.Lost = good ≡ true
IsFinished good r.LostParent = good ≡ true
IsFinished good reply = ⊥

-- to GetVar: only what is not raw finds a module asleep
abbrev pub IsRead : Bool → Reply → Type 0
IsRead raw r.Sleeping = raw ≡ false
IsRead raw (r.Value v) = Unit {0}
IsRead raw (r.Unset init) = Unit {0}
IsRead raw reply = ⊥

-- to SetVar
abbrev pub IsSet : Bool → Reply → Type 0
IsSet raw r.Fixed = Unit {0}
IsSet raw r.Sleeping = raw ≡ false
IsSet raw r.Done = Unit {0}
IsSet raw reply = ⊥

-- to DelVar
abbrev pub IsDeleted : Bool → Reply → Type 0
IsDeleted raw r.Fixed = Unit {0}
IsDeleted raw r.Sleeping = raw ≡ false
IsDeleted raw r.Done = Unit {0}
IsDeleted raw (r.Unset init) = Unit {0}
IsDeleted raw reply = ⊥

-- to Names, Source and PathGet
abbrev pub IsNames : Reply → Type 0
IsNames (r.Names names) = Unit {0}
IsNames reply = ⊥

-- to Source: the module and the text of the load
abbrev pub IsLoaded : Reply → Type 0
IsLoaded (r.Loaded m text) = Unit {0}
IsLoaded reply = ⊥

-- to PathGet: the items of the search path
abbrev pub IsPath : Reply → Type 0
IsPath (r.Path items) = Unit {0}
IsPath reply = ⊥

-- to PathAdd
abbrev pub IsAdded : Reply → Type 0
IsAdded r.Full = Unit {0}
IsAdded r.Done = Unit {0}
IsAdded reply = ⊥

-- to DirGet
abbrev pub IsListing : Reply → Type 0
IsListing r.NoListing = Unit {0}
IsListing (r.Listing time part file) = Unit {0}
IsListing reply = ⊥

-- to NsGet
abbrev pub IsNs : Reply → Type 0
IsNs (r.Ns state epoch) = Unit {0}
IsNs reply = ⊥

-- to TabGet, TabSet and TabDel
abbrev pub IsEntry : Reply → Type 0
IsEntry (r.Slot slot) = Unit {0}
IsEntry reply = ⊥

-- to TabSet: a name that is fixed is not set
abbrev pub IsEntered : Reply → Type 0
IsEntered r.Fixed = Unit {0}
IsEntered r.Done = Unit {0}
IsEntered reply = ⊥

-- to TabDel: what the entry was, unless the name is fixed
abbrev pub IsDropped : Reply → Type 0
IsDropped r.Fixed = Unit {0}
IsDropped (r.Was slot) = Unit {0}
IsDropped reply = ⊥

-- to ReloadBegin, ReloadTake, and a ReloadEnd with a load
abbrev pub IsBegun : Bool → Reply → Type 0
IsBegun raw r.Fixed = Unit {0}
IsBegun raw r.Sleeping = raw ≡ false
IsBegun raw r.NotThere = Unit {0}
IsBegun raw (r.Busy m) = Unit {0}
IsBegun raw (r.Begun epoch) = Unit {0}
IsBegun raw reply = ⊥

-- to ReloadTake: only where a load is given does the body begin
abbrev pub IsReloading : Reply → Type 0
IsReloading r.Deadlock = Unit {0}
IsReloading (r.Wait n) = Unit {0}
IsReloading r.NotThere = Unit {0}
IsReloading (r.Load load mid) = Unit {0}
IsReloading reply = ⊥

-- to a ReloadEnd with a load: the entry of the name, which may be lost
abbrev pub IsReloaded : Reply → Type 0
IsReloaded r.Lost = Unit {0}
IsReloaded (r.Kept slot) = Unit {0}
IsReloaded reply = ⊥

-- to AddLazy and Rouse
abbrev pub IsModule : Reply → Type 0
IsModule (r.Module m) = Unit {0}
IsModule reply = ⊥

-- to Rouse: nothing is to run, or the asker runs the body, or it waits for another's, unless that closes a cycle
abbrev pub IsRoused : Reply → Type 0
IsRoused r.Ready = Unit {0}
IsRoused (r.Cycle m) = Unit {0}
IsRoused (r.Yours load text) = Unit {0}
IsRoused r.Deadlock = Unit {0}
IsRoused (r.Wait n) = Unit {0}
IsRoused reply = ⊥

-- each event by its own row; a ReloadEnd without a load is answered Done
abbrev pub Fits : Event → Reply → Type 0
Fits (e.Ask n) reply = IsAsked reply
Fits (e.Take n) reply = IsTaken reply
Fits e.Wake reply = reply ≡ r.Woken
Fits (e.Add spec text) reply = IsLoad reply
Fits (e.Finish load good) reply = IsFinished good reply
Fits (e.Release n) reply = reply ≡ r.Done
Fits (e.GetVar mid x raw) reply = IsRead raw reply
Fits (e.SetVar raw mid x v) reply = IsSet raw reply
Fits (e.DelVar mid x raw) reply = IsDeleted raw reply
Fits (e.Names mid) reply = IsNames reply
Fits (e.Source load) reply = IsLoaded reply
Fits (e.Print text) reply = reply ≡ r.Done
Fits e.PathGet reply = IsPath reply
Fits (e.PathAdd at v) reply = IsAdded reply
Fits (e.DirGet dir part) reply = IsListing reply
Fits (e.DirSet dir listing) reply = reply ≡ r.Done
Fits e.Invalidate reply = reply ≡ r.Done
Fits (e.NsGet mid) reply = IsNs reply
Fits (e.NsSet mid state) reply = reply ≡ r.Done
Fits (e.TabGet n) reply = IsEntry reply
Fits (e.TabSet n slot) reply = IsEntered reply
Fits (e.TabDel n) reply = IsDropped reply
Fits (e.ReloadBegin mid raw) reply = IsBegun raw reply
Fits (e.ReloadTake mid spec text) reply = IsReloading reply
Fits (e.ReloadEnd mid None) reply = reply ≡ r.Done
Fits (e.ReloadEnd mid (Some load)) reply = IsReloaded reply
Fits (e.AddLazy spec text) reply = IsModule reply
Fits (e.Rouse mid) reply = IsRoused reply
Fits (e.Main spec text) reply = reply ≡ r.Done
Fits (e.End outcome spent) reply = reply ≡ r.Done
