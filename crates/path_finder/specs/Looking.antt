-- Where a search stands between two of its steps.
use Rattle.std.specs.Prelude.{◌≡◌, ℕ, Bool, true, false, List, [], ◌∷◌, ◌++◌, drop, Option, Some, None, Result, Ok, Err, ◌≤◌, ◌+◌}
use Rattle.std.specs.Option.{IfSome, ForSome}
use Rattle.base_types.specs.Path.{Path}
use Rattle.py_value.specs.declared.value.Value.{Value}
use Rattle.tree_files.specs.Count.{raised}
use Rattle.tree_files.specs.Files.{Files, node_at, IsDirAt}
use Rattle.tree_files.specs.declared.tree.TreeFault.{TreeFault}
use Rattle.tree_files.specs.declared.tree.TreeFault.TheVariants as fault
use Rattle.path_finder.specs.Find.{find}
use Rattle.path_finder.specs.Steps.{Search, Ends, Pays, Asks, Keeps, Stamps, Lists, Onward, searches, stamped, replied, keeps, probes, tries, Leads}
use Rattle.path_finder.specs.declared.words.Probe.{Probe}
use Rattle.path_finder.specs.declared.words.Found.{Found}
use Rattle.path_finder.specs.declared.words.LookIn.{LookIn}
use Rattle.path_finder.specs.declared.words.LookIn.TheVariants as given
use Rattle.path_finder.specs.declared.words.LookWant.{LookWant}
use Rattle.path_finder.specs.declared.words.LookWant.TheVariants as wanted
use Rattle.path_finder.specs.declared.look.Look.{Look}
use Rattle.path_finder.specs.declared.look.Stage.{Stage}
use Rattle.path_finder.specs.declared.look.Stage.TheVariants as at

-- what a search waits for
pub data Await : Type 0 where
  ForStart : Await
  ForPayment : Await
  ForListing : Await
  ForKeeping : Await
  ForNothing : Await

-- each stage waits for one kind of input; before an entry, a listing and the probes that is the payment
abbrev pub awaits : Stage → Await
awaits at.Fresh = ForStart
awaits at.Passing = ForPayment
awaits (at.Stamping dir) = ForPayment
awaits (at.Asking dir time) = ForListing
awaits (at.Listing dir time) = ForPayment
awaits (at.Keeping dir bare file) = ForKeeping
awaits (at.Probing dir bare file) = ForPayment
awaits at.Over = ForNothing

-- the input fits a search that waits for this
abbrev pub input_kind : LookIn → Await
input_kind given.Start = ForStart
input_kind given.Paid = ForPayment
input_kind (given.Listed reply) = ForListing
input_kind given.Kept = ForKeeping

-- what a search waits for after this want; after its answer it waits for nothing
abbrev pub want_kind : LookWant → Await
want_kind (wanted.Pay of_tree) = ForPayment
want_kind (wanted.DirGet dir part) = ForListing
want_kind (wanted.DirSet dir listing) = ForKeeping
want_kind (wanted.Done found) = ForNothing

-- the search in the entries from a place on
unfoldable pub onward : List ℕ → ℕ → List Value → Onward
onward name at path = searches name (drop at path)

-- the entries that the search has not come to
abbrev pub behind : Look → Onward
behind look = onward look.sought.name look.at look.path

-- what the search does next, by its stage and the input; no other input fits
abbrev pub means_at : Look → Stage → LookIn → Search
means_at look at.Fresh given.Start = behind look look.portions
means_at look at.Passing given.Paid = behind look look.portions
means_at look (at.Stamping dir) given.Paid = Stamps dir (stamped look.sought.name dir look.portions (behind look))
means_at look (at.Asking dir time) (given.Listed reply) = replied look.sought.name dir time look.portions (behind look) reply
means_at look (at.Listing dir time) given.Paid = Lists dir (keeps look.sought.name dir time look.portions (behind look))
means_at look (at.Keeping dir bare file) given.Kept = probes look.sought.name dir bare file look.portions (behind look)
means_at look (at.Probing dir bare file) given.Paid = tries look.sought.name dir bare file look.portions (behind look)
means_at look _ _ = Ends None

-- the same by the stage and the reply alone, where the input is known to fit
abbrev pub does : Look → Stage → Option Probe → Search
does look at.Fresh reply = behind look look.portions
does look at.Passing reply = behind look look.portions
does look (at.Stamping dir) reply = Stamps dir (stamped look.sought.name dir look.portions (behind look))
does look (at.Asking dir time) reply = replied look.sought.name dir time look.portions (behind look) reply
does look (at.Listing dir time) reply = Lists dir (keeps look.sought.name dir time look.portions (behind look))
does look (at.Keeping dir bare file) reply = probes look.sought.name dir bare file look.portions (behind look)
does look (at.Probing dir bare file) reply = tries look.sought.name dir bare file look.portions (behind look)
does look at.Over reply = Ends None

-- what the search does next with this input, at the stage where it stands
abbrev pub means : Look → LookIn → Search
means look input = means_at look look.stage input

-- the search that wants this, and goes on so by what it is given
abbrev pub wants : LookWant → (LookIn → Search) → Search
wants (wanted.Pay of_tree) go = Pays of_tree (go given.Paid)
wants (wanted.DirGet dir part) go = Asks dir part (λ reply. go (given.Listed reply))
wants (wanted.DirSet dir listing) go = Keeps dir listing (go given.Kept)
wants (wanted.Done found) go = Ends found

-- the directory in which the search stands is one of the tree
abbrev pub stands_in : Stage → Option Path
stands_in (at.Asking dir time) = Some dir
stands_in (at.Listing dir time) = Some dir
stands_in _ = None

-- a directory whose kept listing is asked for, or that is to be listed, is a directory of these files
abbrev pub Suits : Stage → Files → Type 0
Suits stage files = IfSome (stands_in stage) (λ dir. IsDirAt files dir)

-- a want after which nothing was listed
abbrev pub is_quiet : LookWant → Type 0
is_quiet (wanted.DirSet dir listing) = ⊥
is_quiet (wanted.Pay of_tree) = Unit {0}
is_quiet (wanted.DirGet dir part) = Unit {0}
is_quiet (wanted.Done found) = Unit {0}

-- how a call counts as one that listed: it lists where it answers
-- that a listing is to be kept, and may have where it wanted memory
abbrev pub CountsLists : Result LookWant TreeFault → ℕ → ℕ → Type 0
CountsLists (Ok (wanted.DirSet dir listing)) old new = new ≡ raised old 1
CountsLists (Ok (wanted.Pay of_tree)) old new = new ≡ old
CountsLists (Ok (wanted.DirGet dir part)) old new = new ≡ old
CountsLists (Ok (wanted.Done found)) old new = new ≡ old
CountsLists (Err fault.NoMemory) old new = (old ≤ new) × (new ≤ old + 1)
CountsLists (Err fault.Failed) old new = new ≡ old

-- ---- the replies that came

-- given the input that it waits for, the search comes to this answer with these replies; where it waits for a listing,
-- the first of the replies is that input; a search that is over comes to nothing more
abbrev pub Remains_at : Files → Look → Await → List (Option Probe) → Option Found → Type 0
Remains_at files look ForStart replies found = Leads files (means look given.Start) replies found
Remains_at files look ForPayment replies found = Leads files (means look given.Paid) replies found
Remains_at files look ForListing [] found = ⊥
Remains_at files look ForListing (reply ∷ replies) found = Leads files (means look (given.Listed reply)) replies found
Remains_at files look ForKeeping replies found = Leads files (means look given.Kept) replies found
Remains_at files look ForNothing replies found = ⊥

-- with these further replies the search comes to this answer
abbrev pub Remains : Files → Look → List (Option Probe) → Option Found → Type 0
Remains files look replies found = Remains_at files look (awaits look.stage) replies found

-- these replies came so far: whatever replies are still to come, the answer is Find on all of them
abbrev pub Came : Files → Look → List (Option Probe) → Type 0
Came files look replies = (more : List (Option Probe)) (found : Option Found) → Remains files look more found → found ≡ find files look.sought.name look.path (replies ++ more)

-- what the kept listing says, where the input is that
abbrev pub reply_of : LookIn → Option Probe
reply_of (given.Listed reply) = reply
reply_of given.Start = None
reply_of given.Paid = None
reply_of given.Kept = None

-- the input as a reply among those that came: one that says that nothing is kept is a reply too, other inputs are none
abbrev pub reply_in : LookIn → List (Option Probe)
reply_in (given.Listed reply) = reply ∷ []
reply_in given.Start = []
reply_in given.Paid = []
reply_in given.Kept = []

-- after a want: where it is the answer, that is Find on the replies that came
abbrev pub Finds : Files → Look → List (Option Probe) → LookWant → Type 0
Finds files look replies (wanted.Done found) = found ≡ find files look.sought.name look.path replies
Finds files look replies (wanted.Pay of_tree) = Came files look replies
Finds files look replies (wanted.DirGet dir part) = Came files look replies
Finds files look replies (wanted.DirSet dir listing) = Came files look replies
