-- What a search reads leads the script on.
use Rattle.std.proofs.Common.{◌≡◌, ◌≤◌, ℕ, ◌+◌, ◌==◌, Bool, true, false, List, [], ◌∷◌, ◌++◌, drop, if◌then◌else◌, Option, Some, None, Ok, refl, sym, ◌∙◌, ap, subst, arith}
use Rattle.std.specs.Option.{IfSome}
use Rattle.base_types.specs.Path.{Path}
use Rattle.py_value.specs.declared.value.Value.{Value}
use Rattle.machine_events.specs.declared.event.Event.{Event}
use Rattle.machine_events.specs.declared.event.Reply.{Reply}
use Rattle.tree_files.specs.Count.{raised}
use Rattle.tree_files.specs.Files.{Files, IsListing, node_at, stamp_of}
use Rattle.tree_files.specs.declared.tree.Stamp.{Stamp}
use Rattle.tree_files.proofs.Listings.{listing_told}
use Rattle.path_finder.specs.Entries.{entry_path}
use Rattle.path_finder.specs.Steps.{Search, Reads, here, stamped_at, listed_at, Onward, searches, enters, replied, probes, lists}
use Rattle.path_finder.specs.Steps as search
use Rattle.path_finder.specs.Looking.{means, means_at, behind, onward, wants, CountsLists}
use Rattle.path_finder.specs.declared.look.Look.{Look}
use Rattle.path_finder.specs.declared.look.Stage.{Stage}
use Rattle.path_finder.specs.declared.look.Stage.TheVariants as at
use Rattle.path_finder.specs.declared.words.Probe.{Probe}
use Rattle.path_finder.specs.declared.words.Found.{Found}
use Rattle.path_finder.specs.declared.words.LookIn.{LookIn}
use Rattle.path_finder.specs.declared.words.LookIn.TheVariants as given
use Rattle.path_finder.specs.declared.words.LookWant.{LookWant}
use Rattle.path_finder.specs.declared.words.LookWant.TheVariants as wanted
use Rattle.meaning_runs.specs.Runs.{Run, Looks, looks, Reaches, Question, Answer, StampOf, NamesOf, IsTold, Stands, due}
use Rattle.meaning_runs.specs.Lists.{lists_in, Listed}
use Rattle.meaning_script.specs.Searches.{searches_in}

-- an answer that the tree gave is the told one, where its files are told
told_stamp : (files : Option Files) (path : Path) (s : Stamp) → IfSome files (λ f. s ≡ stamp_of (node_at f path)) → IsTold files (StampOf path) s
told_stamp None path s h = tt
told_stamp (Some f) path s h = h

told_names : (files : Option Files) (dir : Path) (names : List (List ℕ)) → IfSome files (λ f. IsListing f dir names) → IsTold files (NamesOf dir) names
told_names None dir names h = tt
told_names (Some f) dir names h = listing_told f dir names h

looked : {files : Option Files} {whole : Run} {fuel budget : ℕ} {mine : List (Event × Reply)} (q : Question) (a : Answer q) (next : Answer q → Run) → IsTold files q a
    → Stands files whole fuel mine budget (Looks q next) → Stands files whole fuel mine budget (next a)
looked {mine = mine} q a next told s = record { paid = s.paid; sum = s.sum; reaches = looks s.paid mine q a next told s.reaches }

pub reads_stands : (files : Option Files) (before after : Search) (whole : Run) (fuel budget : ℕ) (mine : List (Event × Reply)) (k : Option Found → Run) → Reads files before after
    → Stands files whole fuel mine budget (searches_in before k) → Stands files whole fuel mine budget (searches_in after k)
reads_stands files before after whole fuel budget mine k (here it) s = s
reads_stands files before after whole fuel budget mine k (stamped_at path a next it told more) s =
    reads_stands files (next a) after whole fuel budget mine k more (looked (StampOf path) a (λ stamp. searches_in (next stamp) k) (told_stamp files path a told) s)
reads_stands files before after whole fuel budget mine k (listed_at dir names next it told more) s =
    reads_stands files (next names) after whole fuel budget mine k more (looked (NamesOf dir) names (λ names. searches_in (next names) k) (told_names files dir names told) s)

-- ---- lists

-- whether the search is about to have a listing kept, counted
abbrev keeping : Search → ℕ
keeping (search.Keeps dir listing next) = 1
keeping (search.Ends answer) = 0
keeping (search.Pays of_tree next) = 0
keeping (search.Asks dir part next) = 0
keeping (search.Stamps path next) = 0
keeping (search.Lists dir next) = 0

entered : (name : List ℕ) (path : Option Path) (portions : List (List ℕ)) (go : Onward) → keeping (enters name path portions go) ≡ 0
entered name (Some dir) portions go = refl
entered name None portions go = refl

begun : (name : List ℕ) (path : List Value) (portions : List (List ℕ)) → keeping (searches name path portions) ≡ 0
begun name [] portions = refl
begun name (entry ∷ path) portions = entered name (entry_path entry) portions (searches name path)

gone_on : (name : List ℕ) (at : ℕ) (path : List Value) (portions : List (List ℕ)) → keeping (onward name at path portions) ≡ 0
unfolding onward
gone_on name at path portions = begun name (drop at path) portions

fresh : (name : List ℕ) (dir : Path) (time : ℕ) (portions : List (List ℕ)) (go : Onward) (bare file is : Bool) → keeping (if is then probes name dir bare file portions go else lists name dir time portions go) ≡ 0
fresh name dir time portions go bare file true = refl
fresh name dir time portions go bare file false = refl

answered : (name : List ℕ) (dir : Path) (time : ℕ) (portions : List (List ℕ)) (go : Onward) (reply : Option Probe) → keeping (replied name dir time portions go reply) ≡ 0
answered name dir time portions go (Some probe) = fresh name dir time portions go probe.bare probe.file (probe.time == time)
answered name dir time portions go None = refl

tried : (name : List ℕ) (dir : Path) (bare file : Bool) (look : Look) → keeping (search.tries name dir bare file look.portions (behind look)) ≡ 0
tried name dir true file look = refl
tried name dir false true look = refl
tried name dir false false look = gone_on look.sought.name look.at look.path look.portions

-- no listing is due while a search is waited for
waits : (look : Look) (stage : Stage) (input : LookIn) → keeping (means_at look stage input) ≡ 0
waits look at.Fresh given.Start = gone_on look.sought.name look.at look.path look.portions
waits look at.Fresh given.Paid = refl
waits look at.Fresh (given.Listed reply) = refl
waits look at.Fresh given.Kept = refl
waits look at.Passing given.Start = refl
waits look at.Passing given.Paid = gone_on look.sought.name look.at look.path look.portions
waits look at.Passing (given.Listed reply) = refl
waits look at.Passing given.Kept = refl
waits look (at.Stamping dir) given.Start = refl
waits look (at.Stamping dir) given.Paid = refl
waits look (at.Stamping dir) (given.Listed reply) = refl
waits look (at.Stamping dir) given.Kept = refl
waits look (at.Asking dir time) given.Start = refl
waits look (at.Asking dir time) given.Paid = refl
waits look (at.Asking dir time) (given.Listed reply) = answered look.sought.name dir time look.portions (behind look) reply
waits look (at.Asking dir time) given.Kept = refl
waits look (at.Listing dir time) given.Start = refl
waits look (at.Listing dir time) given.Paid = refl
waits look (at.Listing dir time) (given.Listed reply) = refl
waits look (at.Listing dir time) given.Kept = refl
waits look (at.Keeping dir bare file) given.Start = refl
waits look (at.Keeping dir bare file) given.Paid = refl
waits look (at.Keeping dir bare file) (given.Listed reply) = refl
waits look (at.Keeping dir bare file) given.Kept = refl
waits look (at.Probing dir bare file) given.Start = refl
waits look (at.Probing dir bare file) given.Paid = tried look.sought.name dir bare file look
waits look (at.Probing dir bare file) (given.Listed reply) = refl
waits look (at.Probing dir bare file) given.Kept = refl
waits look at.Over given.Start = refl
waits look at.Over given.Paid = refl
waits look at.Over (given.Listed reply) = refl
waits look at.Over given.Kept = refl

-- by looks alone one search comes to another: it is that one, or one that no event of keeping stands before
data Moved (before after : Search) (k : Option Found → Run) : Type 0 where
  stood : before ≡ after → Moved before after k
  looked_on : due (searches_in before k) ≡ 0 → Moved before after k

moved : (files : Option Files) (before after : Search) (k : Option Found → Run) → Reads files before after → Moved before after k
moved files before after k (here it) = stood refl
moved files before after k (stamped_at path a next it told more) = looked_on refl
moved files before after k (listed_at dir names next it told more) = looked_on refl

counted : (files : Option Files) (it : Search) (next : Look) (want : LookWant) (old before after : ℕ) (mine : List (Event × Reply)) (k : Option Found → Run) → keeping it ≡ 0
    → Moved it (wants want (means next)) k → CountsLists (Ok want) before after → Listed old before mine (searches_in it k) → Listed old after mine (searches_in (wants want (means next)) k)
counted files it next (wanted.Pay of_tree) old before after mine k none (stood is) counts h = record { bound = omega (arith, counts, subst (λ it. before ≤ old + (lists_in mine + due (searches_in it k))) is h.bound) }
counted files it next (wanted.Pay of_tree) old before after mine k none (looked_on due₀) counts h = record { bound = omega (arith, counts, due₀, h.bound) }
counted files it next (wanted.DirGet dir part) old before after mine k none (stood is) counts h = record { bound = omega (arith, counts, subst (λ it. before ≤ old + (lists_in mine + due (searches_in it k))) is h.bound) }
counted files it next (wanted.DirGet dir part) old before after mine k none (looked_on due₀) counts h = record { bound = omega (arith, counts, due₀, h.bound) }
counted files it next (wanted.Done found) old before after mine k none (stood is) counts h =
    let here : before ≤ old + (lists_in mine + due (k found)) = subst (λ it. before ≤ old + (lists_in mine + due (searches_in it k))) is h.bound in
    record { bound = omega (arith, counts, here) }
counted files it next (wanted.Done found) old before after mine k none (looked_on due₀) counts h = record { bound = omega (arith, counts, due₀, h.bound) }
counted files it next (wanted.DirSet dir listing) old before after mine k none (stood is) counts h =
    let one : 0 ≡ 1 = sym none ∙ ap keeping is in
    absurd (omega (arith, one))
counted files it next (wanted.DirSet dir listing) old before after mine k none (looked_on due₀) counts h = record { bound = omega (arith, counts, due₀, h.bound) }

pub reads_listed : (files : Option Files) (look next : Look) (input : LookIn) (want : LookWant) (old before after : ℕ) (mine : List (Event × Reply)) (k : Option Found → Run)
    → Reads files (means look input) (wants want (means next)) → CountsLists (Ok want) before after
    → Listed old before mine (searches_in (means look input) k) → Listed old after mine (searches_in (wants want (means next)) k)
reads_listed files look next input want old before after mine k reads counts h =
    counted files (means look input) next want old before after mine k (waits look look.stage input) (moved files (means look input) (wants want (means next)) k reads) counts h
