-- The threads of a history, and what each of them sees of it.
use Rattle.std.specs.Prelude.{ℕ, ◌≡◌, ◌<◌, ◌==◌, List, [], Some, map, take, length, get_or, slice_get, count_by}
use Rattle.machine_events.specs.declared.event.Event.{Event}
use Rattle.machine_events.specs.declared.event.Reply.{Reply}
use Rattle.machine_events.specs.declared.event.Entry.{Entry}
use Rattle.machine_events.specs.declared.event.Pair.{Pair}
use Rattle.machine_shown.specs.Own.{own}
use Rattle.trace_check.specs.declared.answers.Counts.{Counts}
use Rattle.trace_check.specs.Replays.{counts_of}

-- the thread of each entry
abbrev pub threads_of : List Entry → List ℕ
threads_of history = map (λ (e : Entry). e.thread) history

-- how many of a list are of a thread, by what tells the thread of each
abbrev pub turns : {E : Type 0} → (E → ℕ) → ℕ → List E → ℕ
turns thread t entries = count_by (λ e. thread e == t) entries

-- here stands what is of the thread, and so many of it stand before
pub record IsTurnOf {E : Type 0} (thread : E → ℕ) (entries : List E) (t count place : ℕ) : Type 0 where
  pub entry : E
  pub there : slice_get entries place ≡ Some entry
  pub its : thread entry ≡ t
  pub before : turns thread t (take place entries) ≡ count

-- the list tells the threads of a history
abbrev pub Tells : {E : Type 0} → (E → ℕ) → List E → List Entry → Type 0
Tells thread entries history = map thread entries ≡ threads_of history

-- pairs, as laws speak of a script's events
abbrev pub pairs_of : List Pair → List (Event × Reply)
pairs_of pairs = map (λ (p : Pair). (p.event, p.reply)) pairs

-- the list of a thread
abbrev pub list_of : List (List Pair) → ℕ → List (Event × Reply)
list_of lists t = pairs_of (get_or lists t [])

-- there is a list for each of so many threads: what it sees of a history
pub record AreOwn (lists : List (List Pair)) (threads : ℕ) (history : List Entry) : Type 0 where
  pub many : length lists ≡ threads
  pub own : (t : ℕ) → t < threads → list_of lists t ≡ own t history

-- what threads have of a history, its order and its counts
pub record AreShares (order : List ℕ) (lists : List (List Pair)) (counts : Counts) (history : List Entry) : Type 0 where
  pub ordered : order ≡ threads_of history
  pub listed : AreOwn lists (length lists) history
  pub counted : counts ≡ counts_of history
