-- What a search of a script does, step by step, as a part of what the script means.
use Rattle.std.specs.Prelude.{◌≡◌, ◌≤◌, ℕ, ◌+◌, List, Option, Result, IfOk, OnOk, OnErr, IsErrOf}
use Rattle.tree_files.specs.Files.{Files}
use Rattle.tree_files.specs.Count.{Rose}
use Rattle.machine_events.specs.declared.event.Event.{Event}
use Rattle.machine_events.specs.declared.event.Reply.{Reply}
use Rattle.machine_shown.specs.Shown.{Shown, Running, shown}
use Rattle.meaning_runs.specs.Lists.{lists_in}
use Rattle.meaning_runs.specs.Runs.{Run, IsUnread, Safe}
use Rattle.path_finder.specs.Looking.{Await, want_kind, input_kind, wants}
use Rattle.path_finder.specs.Steps.{Search}
use Rattle.path_finder.specs.declared.words.Found.{Found}
use Rattle.path_finder.specs.declared.words.LookIn.{LookIn}
use Rattle.path_finder.specs.declared.words.LookWant.{LookWant}
use Rattle.path_finder.specs.declared.words.LookWant.TheVariants as wanted
use Rattle.meaning_script.specs.Searches.{searches_in}
use Rattle.drive_account.specs.View.{View, Stays}
use Rattle.drive_account.specs.declared.held.Held.{Held}
use Rattle.drive_account.specs.Ending.{Holds}
use Rattle.drive_account.specs.At.{At, IsShort}
use Rattle.drive_account.specs.Asking.{Parted, Refused, Asked, AllKept}
use Rattle.drive_account.specs.declared.payments.Budget.{Budget}
use Rattle.drive_account.specs.declared.port.Halt.{Halt}
use Rattle.drive_account.specs.declared.port.Halt.TheVariants as halts
use Rattle.drive_account.specs.declared.search.SearchEnd.{SearchEnd}
use Rattle.drive_account.specs.declared.search.SearchEnd.TheVariants as ends
use Rattle.drive_account.specs.declared.search.Step.{Step}
use Rattle.drive_account.specs.declared.search.Step.TheVariants as step

-- where a search leads, behind which the script goes on by its answer
abbrev pub AfterSearch : Option Files → Run → ℕ → List (Event × Reply) → Budget → (Option Found → Run) → SearchEnd → Type 0
AfterSearch files whole fuel mine budget k (ends.Found answer) = At files whole fuel mine budget (k answer)
AfterSearch files whole fuel mine budget k ends.Out = IsShort files whole fuel mine budget.left budget.of_tree
AfterSearch files whole fuel mine budget k (ends.Unread left) = IsUnread files whole fuel mine left

-- where a step of it leads, behind which the search goes on by what it is given
abbrev pub AfterStep : Option Files → Run → ℕ → List (Event × Reply) → Budget → (LookIn → Search) → (Option Found → Run) → Step → Type 0
AfterStep files whole fuel mine budget go k (step.On input) = At files whole fuel mine budget (searches_in (go input) k)
AfterStep files whole fuel mine budget go k (step.Over it) = AfterSearch files whole fuel mine budget k it

-- a call of the tree fails only where its count of faults rose; where none failed, that is as it was
abbrev pub CountsSearch : ℕ → ℕ → SearchEnd → Type 0
CountsSearch old new (ends.Unread left) = Rose old new
CountsSearch old new it = new ≡ old

-- the same of a step; behind one on which the search goes on none failed
abbrev pub CountsStep : ℕ → ℕ → Step → Type 0
CountsStep old new (step.On input) = new ≡ old
CountsStep old new (step.Over it) = CountsSearch old new it

-- the search is given what it waits for
abbrev pub Fits : Await → Step → Type 0
Fits kind (step.On input) = kind ≡ input_kind input
Fits kind (step.Over it) = Unit {0}

-- where the search goes on, what is shown is enough for what it asks for
abbrev pub SafeStep : Shown → (LookIn → Search) → (Option Found → Run) → Step → Type 0
SafeStep s go k (step.On input) = Safe s (searches_in (go input) k)
SafeStep s go k (step.Over it) = Unit {0}

-- what is shown is enough for some script that searches so
abbrev pub IsSafe : Shown → Search → Type 0
IsSafe s search = (k : Option Found → Run) × Safe s (searches_in search k)

-- a search that makes an event runs
abbrev pub MayGive : Shown → LookWant → Type 0
MayGive s (wanted.Pay of_tree) = Unit {0}
MayGive s (wanted.DirGet dir part) = s.doing ≡ Running
MayGive s (wanted.DirSet dir listing) = s.doing ≡ Running
MayGive s (wanted.Done found) = Unit {0}

-- how many listings it wants to have kept
abbrev pub keeping : LookWant → ℕ
keeping (wanted.Pay of_tree) = 0
keeping (wanted.DirGet dir part) = 0
keeping (wanted.DirSet dir listing) = 1
keeping (wanted.Done found) = 0

-- a search was given what it wants: whatever script stood there stands where the step leads
pub record Given (number : ℕ) (mine mine' : List (Event × Reply)) (budget budget' : Budget) (want : LookWant) (it : Step) : Type 0 where
  pub moves : (files : Option Files) (go : LookIn → Search) (k : Option Found → Run) (whole : Run) (fuel : ℕ) → At files whole fuel mine budget (searches_in (wants want go) k)
      → AfterStep files whole fuel mine' budget' go k it
  pub safe : (go : LookIn → Search) (k : Option Found → Run) → Safe (shown number mine) (searches_in (wants want go) k) → SafeStep (shown number mine') go k it
  pub fits : Fits (want_kind want) it
  pub counts : (faults : ℕ) → CountsStep faults faults it
  pub kept : lists_in mine + keeping want ≤ lists_in mine'

-- what is held stays
abbrev pub Keeps : {S : Type 0} → View S → View S → Type 0
Keeps old new = (held : Held) → Holds old held → Holds new held

-- where a step that was to give this is broken off, or its event is refused
abbrev pub GiveParted : List (Event × Reply) → List (Event × Reply) → Budget → LookWant → Type 0
GiveParted mine mine' budget want = (files : Option Files) (go : LookIn → Search) (k : Option Found → Run) → Parted files mine mine' budget (searches_in (wants want go) k)

-- whatever script was to be given this stands at an event that the port refused
abbrev pub GiveRefused : {S : Type 0} → View S → List (Event × Reply) → Budget → LookWant → Type 0
GiveRefused v mine budget want = (files : Option Files) (go : LookIn → Search) (k : Option Found → Run) → Refused v files mine budget (searches_in (wants want go) k)

-- a search is given what it wants, at a port
pub record GivesWant {S : Type 0} (old new : View S) (budget budget' : Budget) (want : LookWant) (result : Result Step Halt) : Type 0 where
  -- the port is the same script's
  pub stays : Stays old new
  -- whatever script stood there stands where the step leads
  pub given : IfOk result (Given old.number old.mine new.mine budget budget' want)
  -- what the script holds is as it was
  pub holds : OnOk result (Keeps old new)
  -- at every `Err`, that of a refused event too, the script stands somewhere
  pub part : OnErr result (GiveParted old.mine new.mine budget want)
  -- only an event that is due is refused
  pub refused : IsErrOf result halts.Refused → GiveRefused new old.mine budget want

-- a step from a search on
pub record Taken (files : Option Files) (faults faults' number : ℕ) (mine mine' : List (Event × Reply)) (budget budget' : Budget) (before : Search) (go : LookIn → Search) (it : Step) : Type 0 where
  pub moves : (k : Option Found → Run) (whole : Run) (fuel : ℕ) → At files whole fuel mine budget (searches_in before k) → AfterStep files whole fuel mine' budget' go k it
  pub safe : (k : Option Found → Run) → Safe (shown number mine) (searches_in before k) → SafeStep (shown number mine') go k it
  pub counts : CountsStep faults faults' it

-- a whole search
pub record Searched (files : Option Files) (faults faults' : ℕ) (mine mine' : List (Event × Reply)) (budget budget' : Budget) (before : Search) (it : SearchEnd) : Type 0 where
  pub moves : (k : Option Found → Run) (whole : Run) (fuel : ℕ) → At files whole fuel mine budget (searches_in before k) → AfterSearch files whole fuel mine' budget' k it
  pub counts : CountsSearch faults faults' it

-- where a search is broken off, or an event of it is refused
abbrev pub SearchParted : Option Files → List (Event × Reply) → List (Event × Reply) → Budget → Search → Type 0
SearchParted files mine mine' budget before = (k : Option Found → Run) → Parted files mine mine' budget (searches_in before k)

-- whatever script was to search so stands at an event that the port refused
abbrev pub SearchRefused : {S : Type 0} → View S → Option Files → List (Event × Reply) → Budget → Search → Type 0
SearchRefused v files mine budget before = (k : Option Found → Run) → Refused v files mine budget (searches_in before k)

-- a script searches so over a tree, to the end
pub record SearchesAll {S : Type 0} (old new : View S) (files files' : Option Files) (faults faults' listed listed' : ℕ) (budget budget' : Budget) (before : Search) (result : Result SearchEnd Halt) : Type 0 where
  -- the port is the same script's
  pub stays : Stays old new
  -- whatever script was to search so stands where the search leads
  pub searched : IfOk result (Searched files faults faults' old.mine new.mine budget budget' before)
  -- a directory is listed at most once for each listing that is kept
  pub kept : OnOk result (AllKept listed listed' old.mine new.mine)
  -- what the script holds is as it was
  pub holds : OnOk result (Keeps old new)
  -- at every `Err`, that of a refused event too, the script stands somewhere
  pub part : OnErr result (SearchParted files old.mine new.mine budget before)
  -- only an event that is due is refused
  pub refused : IsErrOf result halts.Refused → SearchRefused new files old.mine budget before
  -- the tree is as it was, but that its count of faults may have risen
  pub asked : Asked files files' faults faults'
