-- What a script means: a tree of payments and events. Budgets and replies come after it, here, once
-- for all forms of the language.
use Rattle.std.specs.Prelude.{◌≡◌, ◌<◌, ◌≤◌, ℕ, ◌+◌, ◌-◌, Bool, true, false, List, [], ◌∷◌, ◌++◌, map, length, nat_lt, nat_le, if◌then◌else◌, Option, Some, None}
use Rattle.machine_events.specs.declared.event.Event.{Event}
use Rattle.machine_events.specs.declared.event.Event.TheVariants as e
use Rattle.machine_events.specs.declared.event.Reply.{Reply}
use Rattle.machine_events.specs.declared.event.Outcome.{Outcome}
use Rattle.machine_events.specs.declared.event.Outcome.TheVariants as o
use Rattle.base_types.specs.declared.limits.TheConstants.{LONGEST_SOURCE}
use Rattle.base_types.specs.Path.{Path}
use Rattle.tree_files.specs.declared.tree.Stamp.{Stamp}
use Rattle.tree_files.specs.Files.{Files, node_at, stamp_of, bytes_of, names_in}
use Rattle.machine_shown.specs.Holdings.{Holding, Taken, Loading, Reloading}
use Rattle.machine_shown.specs.Shown.{Shown, Running, Waiting, shown, shown_first, shown_more}
use Rattle.machine_shown.specs.Knowing.{IsShown}

-- how a run ends: by itself, or at a payment that could not be made, which was one for a call of the tree or not
pub data How : Type 0 where
  Ended : (outcome : Outcome) → How
  Spent : (of_tree : Bool) → How

-- what is looked up in the tree
pub data Question : Type 0 where
  StampOf : (path : Path) → Question
  TextOf : (path : Path) → Question
  NamesOf : (path : Path) → Question

-- what it can answer: what stands at the path; the text of a file, and none where that is too long for a source; the
-- names in a directory, in the order of their bytes
abbrev pub Answer : Question → Type 0
Answer (StampOf path) = Stamp
Answer (TextOf path) = Option (List ℕ)
Answer (NamesOf path) = List (List ℕ)

-- a source has at most 1,048,576 bytes
abbrev pub within_source : List ℕ → Option (List ℕ)
within_source bytes = if nat_le (length bytes) LONGEST_SOURCE then Some bytes else None

-- what these files answer
abbrev pub told : Files → (question : Question) → Answer question
told files (StampOf path) = stamp_of (node_at files path)
told files (TextOf path) = within_source (bytes_of (node_at files path))
told files (NamesOf path) = names_in files path

-- an answer is the one of the files, where the tree tells them
abbrev pub IsTold : Option Files → (question : Question) → Answer question → Type 0
IsTold None question answer = Unit {0}
IsTold (Some files) question answer = answer ≡ told files question

-- a run: it is over, or it pays, or it looks into the tree and goes
-- on by the answer, or it makes an event and goes on by the reply
pub data Run : Type 0 where
  Over : (how : How) → Run
  Pays : (of_tree : Bool) (units : ℕ) (next : Run) → Run
  Looks : (question : Question) (next : Answer question → Run) → Run
  Makes : (event : Event) (next : Reply → Run) → Run

-- how one thing that is held is given up: a take by Release, an open body by a bad Finish, a reload by its end
abbrev pub gives : Holding → Event
gives (Taken name) = e.Release name
gives (Loading load) = e.Finish load false
gives (Reloading mid load) = e.ReloadEnd mid load

-- all that is held is given up, the innermost first; these events are free, and their replies are not looked at
abbrev pub gives_up : Bool → List Holding → Run
gives_up of_tree [] = Over (Spent of_tree)
gives_up of_tree (h ∷ held) = Makes (gives h) (λ _. gives_up of_tree held)

-- the run with a budget: up to the first payment that cannot be made, and then that of a spent script
abbrev pub spend : ℕ → Shown → Run → Run
spend budget s (Over how) = Over how
spend budget s (Pays of_tree n next) = if nat_lt budget n then gives_up of_tree s.held else spend (budget - n) s next
spend budget s (Looks q next) = Looks q (λ a. spend budget s (next a))
spend budget s (Makes event next) = Makes event (λ r. spend budget (shown_more s (event, r)) (next r))

-- where a run stops: it is over, or an event is due and no reply is left
pub data Stop : Type 0 where
  Came : (how : How) → Stop
  Cut : (event : Event) → Stop

-- what a run gives on a list of replies: the events that were made
-- with their replies, where it stops, and the replies that are left
pub record Ending : Type 0 where
  pub pairs : List (Event × Reply)
  pub stop : Stop
  pub left : List Reply

-- a run goes on after these pairs: payments are passed over, the files answer what is looked up, and each event takes
-- the next reply; where none is left, the run is cut at the event
abbrev pub play : Files → Run → List (Event × Reply) → List Reply → Ending
play files (Over how) pairs replies = record { pairs = pairs; stop = Came how; left = replies }
play files (Pays of_tree n next) pairs replies = play files next pairs replies
play files (Looks q next) pairs replies = play files (next (told files q)) pairs replies
play files (Makes event next) pairs [] = record { pairs = pairs; stop = Cut event; left = [] }
play files (Makes event next) pairs (r ∷ replies) = play files (next r) (pairs ++ (event, r) ∷ []) replies

-- the run of thread t with a budget, over these files and on a list of replies
abbrev pub on_budget : Files → ℕ → Run → ℕ → List Reply → Ending
on_budget files t run budget replies = play files (spend budget (shown_first t) run) [] replies

-- the replies on which the same run would go the same way
abbrev pub replies_of : List (Event × Reply) → List Reply
replies_of pairs = map (λ p. p.1) pairs

-- the whole comes, by these payments and these pairs, to the rest, over a tree that tells its files or does not
pub data Reaches (files : Option Files) (whole : Run) : ℕ → List (Event × Reply) → Run → Type 0 where
  starts : Reaches files whole 0 [] whole
  pays : (paid n : ℕ) (pairs : List (Event × Reply)) (of_tree : Bool) (next : Run) → Reaches files whole paid pairs (Pays of_tree n next) → Reaches files whole (paid + n) pairs next
  looks : (paid : ℕ) (pairs : List (Event × Reply)) (q : Question) (a : Answer q) (next : Answer q → Run) → IsTold files q a → Reaches files whole paid pairs (Looks q next) → Reaches files whole paid pairs (next a)
  makes : (paid : ℕ) (pairs : List (Event × Reply)) (event : Event) (r : Reply) (next : Reply → Run) → Reaches files whole paid pairs (Makes event next) → Reaches files whole paid (pairs ++ (event, r) ∷ []) (next r)

-- where a script with this fuel stands: what is left of its budget, its pairs and the rest of its run
pub record Stands (files : Option Files) (whole : Run) (fuel : ℕ) (pairs : List (Event × Reply)) (budget : ℕ) (rest : Run) : Type 0 where
  pub paid : ℕ
  pub sum : paid + budget ≡ fuel
  pub reaches : Reaches files whole paid pairs rest

-- it stands somewhere
pub record StandsIn (files : Option Files) (whole : Run) (fuel : ℕ) (pairs : List (Event × Reply)) : Type 0 where
  pub budget : ℕ
  pub rest : Run
  pub stands : Stands files whole fuel pairs budget rest

-- it stands at a payment that it cannot make
pub record IsSpent (files : Option Files) (whole : Run) (fuel : ℕ) (pairs : List (Event × Reply)) (budget : ℕ) : Type 0 where
  pub of_tree : Bool
  pub units : ℕ
  pub next : Run
  pub stands : Stands files whole fuel pairs budget (Pays of_tree units next)
  pub short : budget < units

-- it stands at a payment for a call of the tree, and the call failed
pub record IsUnread (files : Option Files) (whole : Run) (fuel : ℕ) (pairs : List (Event × Reply)) (budget : ℕ) : Type 0 where
  pub units : ℕ
  pub next : Run
  pub stands : Stands files whole fuel pairs budget (Pays true units next)
  pub some : 0 < units
  pub enough : units ≤ budget

-- the script is spent or a call of the tree failed: with this budget all that is held is still to be given up
abbrev pub GivesUp : Option Files → ℕ → Run → ℕ → List (Event × Reply) → Bool → Type 0
GivesUp files t whole budget pairs of_tree = Reaches files (spend budget (shown_first t) whole) 0 pairs (gives_up of_tree (shown t pairs).held)

-- a run comes to its end by itself, or spent
abbrev pub IsLast : How → Type 0
IsLast (Ended o.Normal) = Unit {0}
IsLast (Ended (o.Raised error)) = Unit {0}
IsLast (Ended o.Fuel) = ⊥
IsLast (Ended o.Read) = ⊥
IsLast (Spent of_tree) = Unit {0}

-- an event may be made: a Wake where the thread waits, and any other where that is shown
abbrev pub MayMake : Shown → Event → Type 0
MayMake s e.Wake = s.doing ≡ Waiting
MayMake s event = IsShown s event

-- whether an event keeps a listing, counted: one, or none
abbrev pub keeps : Event → ℕ
keeps (e.DirSet dir listing) = 1
keeps event = 0

-- how many listings are to be kept before anything else: one, where that event is next, or none
abbrev pub due : Run → ℕ
due (Over how) = 0
due (Pays of_tree n next) = 0
due (Looks q next) = 0
due (Makes event next) = keeps event

-- what is shown is enough for all that a run asks for, and what it lists, it keeps before anything else
abbrev pub Safe : Shown → Run → Type 0
Safe s (Over how) = IsLast how × ((s.doing ≡ Running) × (s.held ≡ []))
Safe s (Pays of_tree n next) = (s.doing ≡ Running) × Safe s next
Safe s (Looks (StampOf path) next) = (s.doing ≡ Running) × ((stamp : Stamp) → Safe s (next stamp))
Safe s (Looks (TextOf path) next) = (s.doing ≡ Running) × ((text : Option (List ℕ)) → Safe s (next text))
Safe s (Looks (NamesOf path) next) = (s.doing ≡ Running) × ((names : List (List ℕ)) → (due (next names) ≡ 1) × Safe s (next names))
Safe s (Makes event next) = MayMake s event × ((r : Reply) → Safe (shown_more s (event, r)) (next r))
