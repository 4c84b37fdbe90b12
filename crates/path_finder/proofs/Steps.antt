-- One step of a search: what it meant before, and what it means after it.
use Rattle.std.proofs.Common.{◌≡◌, ◌∙◌, refl, sym, ap, subst, List, [], ◌∷◌, ◌++◌, Option, None, Some, append_assoc, append-nil, Result, Ok, Err, IfOk}
use Rattle.std.specs.Option.{ForSome}
use Rattle.tree_files.specs.declared.tree.TreeFault.{TreeFault}
use Rattle.tree_files.specs.Files.{Files}
use Rattle.path_finder.specs.Find.{find}
use Rattle.path_finder.specs.Steps.{Search, Leads, Reads, searches}
use Rattle.path_finder.specs.Looking.{Await, ForStart, ForPayment, ForListing, ForKeeping, ForNothing, awaits, input_kind, want_kind, means_at, does, means, wants, Remains_at, Remains, Came, reply_of, reply_in, Finds}
use Rattle.path_finder.specs.declared.words.Probe.{Probe}
use Rattle.path_finder.specs.declared.words.Found.{Found}
use Rattle.path_finder.specs.declared.words.LookIn.{LookIn}
use Rattle.path_finder.specs.declared.words.LookIn.TheVariants as given
use Rattle.path_finder.specs.declared.words.LookWant.{LookWant}
use Rattle.path_finder.specs.declared.words.LookWant.TheVariants as wanted
use Rattle.path_finder.specs.declared.look.Look.{Look}
use Rattle.path_finder.specs.declared.look.Stage.{Stage}
use Rattle.path_finder.specs.declared.look.Stage.TheVariants as at
use Rattle.path_finder.proofs.Finding.{reads_leads, walk_finds}

-- an input that fits is known by the stage and the reply
pub fitting : (look : Look) (stage : Stage) (input : LookIn) → awaits stage ≡ input_kind input → does look stage (reply_of input) ≡ means_at look stage input
fitting look at.Fresh given.Start e = refl
fitting look at.Passing given.Paid e = refl
fitting look (at.Stamping dir) given.Paid e = refl
fitting look (at.Asking dir time) (given.Listed reply) e = refl
fitting look (at.Listing dir time) given.Paid e = refl
fitting look (at.Keeping dir bare file) given.Kept e = refl
fitting look (at.Probing dir bare file) given.Paid e = refl
fitting look _ _ e = cc

remains_before : (f : Files) (old : Look) (input : LookIn) (more : List (Option Probe)) (found : Option Found) → awaits old.stage ≡ input_kind input → Leads f (means old input) more found → Remains f old (reply_in input ++ more) found
remains_before f old given.Start more found e h = subst (λ a. Remains_at f old a more found) (sym e) h
remains_before f old given.Paid more found e h = subst (λ a. Remains_at f old a more found) (sym e) h
remains_before f old (given.Listed reply) more found e h = subst (λ a. Remains_at f old a (reply ∷ more) found) (sym e) h
remains_before f old given.Kept more found e h = subst (λ a. Remains_at f old a more found) (sym e) h

remains_after : (f : Files) (new : Look) (want : LookWant) (more : List (Option Probe)) (found : Option Found) → Remains_at f new (want_kind want) more found → Leads f (wants want (means new)) more found
remains_after f new (wanted.Pay of_tree) more found h = h
remains_after f new (wanted.DirGet dir part) [] found h = h
remains_after f new (wanted.DirGet dir part) (reply ∷ more) found h = h
remains_after f new (wanted.DirSet dir listing) more found h = h
remains_after f new (wanted.Done answer) more found h = absurd h

-- the replies that came, with the one that this step was given
came_after : (f : Files) (old new : Look) (input : LookIn) (want : LookWant) → awaits old.stage ≡ input_kind input → awaits new.stage ≡ want_kind want → new.sought ≡ old.sought → new.path ≡ old.path
    → Reads (Some f) (means old input) (wants want (means new)) → (replies : List (Option Probe)) → Came f old replies → Came f new (replies ++ reply_in input)
came_after f old new input want fits goes_on sought path reads replies came = λ more found rest.
    let after : Leads f (wants want (means new)) more found = remains_after f new want more found (subst (λ a. Remains_at f new a more found) goes_on rest) in
    let before : Remains f old (reply_in input ++ more) found = remains_before f old input more found fits (reads_leads f (means old input) (wants want (means new)) more found reads after) in
    came (reply_in input ++ more) found before
    ∙ ap (find f old.sought.name old.path) (sym (append_assoc replies (reply_in input) more))
    ∙ ap (λ p. find f old.sought.name p ((replies ++ reply_in input) ++ more)) (sym path)
    ∙ ap (λ s. find f s.name new.path ((replies ++ reply_in input) ++ more)) (sym sought)

done_after : (f : Files) (old new : Look) (input : LookIn) (answer : Option Found) → awaits old.stage ≡ input_kind input → new.sought ≡ old.sought → new.path ≡ old.path
    → Reads (Some f) (means old input) (wants (wanted.Done answer) (means new)) → (replies : List (Option Probe)) → Came f old replies → answer ≡ find f new.sought.name new.path (replies ++ reply_in input)
done_after f old new input answer fits sought path reads replies came =
    let before : Remains f old (reply_in input ++ []) answer = remains_before f old input [] answer fits (reads_leads f (means old input) (wants (wanted.Done answer) (means new)) [] answer reads (refl, refl)) in
    came (reply_in input ++ []) answer before
    ∙ ap (λ r. find f old.sought.name old.path (replies ++ r)) (append-nil (reply_in input))
    ∙ ap (λ p. find f old.sought.name p (replies ++ reply_in input)) (sym path)
    ∙ ap (λ s. find f s.name new.path (replies ++ reply_in input)) (sym sought)

pub finds_after : (f : Files) (old new : Look) (input : LookIn) (want : LookWant) → awaits old.stage ≡ input_kind input → awaits new.stage ≡ want_kind want → new.sought ≡ old.sought → new.path ≡ old.path
    → Reads (Some f) (means old input) (wants want (means new)) → (replies : List (Option Probe)) → Came f old replies → Finds f new (replies ++ reply_in input) want
finds_after f old new input (wanted.Done answer) fits goes_on sought path reads replies came = done_after f old new input answer fits sought path reads replies came
finds_after f old new input (wanted.Pay of_tree) fits goes_on sought path reads replies came = came_after f old new input (wanted.Pay of_tree) fits goes_on sought path reads replies came
finds_after f old new input (wanted.DirGet dir part) fits goes_on sought path reads replies came = came_after f old new input (wanted.DirGet dir part) fits goes_on sought path reads replies came
finds_after f old new input (wanted.DirSet dir listing) fits goes_on sought path reads replies came = came_after f old new input (wanted.DirSet dir listing) fits goes_on sought path reads replies came

-- after a call, by its outcome
pub finds_all : (r : Result LookWant TreeFault) (files : Option Files) (old new : Look) (input : LookIn) → awaits old.stage ≡ input_kind input → IfOk r (λ want. awaits new.stage ≡ want_kind want) → new.sought ≡ old.sought → new.path ≡ old.path
    → IfOk r (λ want. Reads files (means old input) (wants want (means new))) → ForSome files (λ f. IfOk r (λ want. (replies : List (Option Probe)) → Came f old replies → Finds f new (replies ++ reply_in input) want))
finds_all (Ok want) files old new input fits goes_on sought path reads = λ f told replies came.
    finds_after f old new input want fits goes_on sought path (subst (λ o. Reads o (means old input) (wants want (means new))) told reads) replies came
finds_all (Err e) files old new input fits goes_on sought path reads = λ f told. tt

-- no reply has come at the start
pub came_at_start : (f : Files) (look : Look) → look.stage ≡ at.Fresh → means look given.Start ≡ searches look.sought.name look.path [] → Came f look []
came_at_start f look fresh e = λ more found rest.
    let leads : Leads f (means look given.Start) more found = subst (λ a. Remains_at f look a more found) (ap awaits fresh) rest in
    walk_finds f look.sought.name look.path more found (subst (λ s. Leads f s more found) e leads)
