-- The steps of a search, one after another.
use Rattle.std.proofs.Common.{◌≡◌, ℕ, List, Option, sym, subst}
use Rattle.std.specs.Option.{ForSome}
use Rattle.tree_files.specs.Files.{Files}
use Rattle.machine_events.specs.declared.event.Event.{Event}
use Rattle.machine_events.specs.declared.event.Reply.{Reply}
use Rattle.meaning_runs.specs.Runs.{Run, StandsIn}
use Rattle.path_finder.specs.Looking.{Suits}
use Rattle.path_finder.specs.Steps.{Search}
use Rattle.path_finder.specs.declared.look.Stage.{Stage}
use Rattle.path_finder.specs.declared.look.Stage.TheVariants as stages
use Rattle.path_finder.specs.declared.words.Found.{Found}
use Rattle.path_finder.specs.declared.words.LookIn.{LookIn}
use Rattle.meaning_script.specs.Searches.{searches_in}
use Rattle.drive_account.specs.View.{View}
use Rattle.drive_account.specs.At.{At}
use Rattle.drive_account.specs.Searching.{Taken, CountsSearch, SearchParted, SearchRefused}
use Rattle.drive_account.specs.Asking.{RefusedAt}
use Rattle.drive_account.specs.declared.payments.Budget.{Budget}
use Rattle.drive_account.specs.declared.search.SearchEnd.{SearchEnd}
use Rattle.drive_account.specs.declared.search.Step.{Step}

-- a search that was not begun suits every tree
pub suits_fresh : (stage : Stage) (o : Option Files) → stage ≡ stages.Fresh → ForSome o (λ f. Suits stage f)
suits_fresh stage o is = λ f e. rw is tt

-- a step over a tree whose files are as they were, at a port whose number is as it was
pub took : (files files' : Option Files) (faults faults' number number' : ℕ) (mine mine' : List (Event × Reply)) (budget budget' : Budget) (before : Search) (go : LookIn → Search) (it : Step) → files' ≡ files → number ≡ number'
    → Taken files' faults faults' number mine mine' budget budget' before go it → Taken files faults faults' number' mine mine' budget budget' before go it
took files files' faults faults' number number' mine mine' budget budget' before go it same is taken =
    subst (λ (o : Option Files). Taken o faults faults' number' mine mine' budget budget' before go it) same (subst (λ (t : ℕ). Taken files' faults faults' t mine mine' budget budget' before go it) is taken)

-- the last step of a search in which no call of the tree had failed
pub over_counts : (old mid new : ℕ) (it : SearchEnd) → mid ≡ old → CountsSearch mid new it → CountsSearch old new it
over_counts old mid new it same counts = subst (λ (n : ℕ). CountsSearch n new it) same counts

pub steps_parted : (files files' : Option Files) (mine mine' : List (Event × Reply)) (budget : Budget) (before : Search) → files' ≡ files → SearchParted files' mine mine' budget before
    → (k : Option Found → Run) (whole : Run) (fuel : ℕ) → At files whole fuel mine budget (searches_in before k) → StandsIn files whole fuel mine'
steps_parted files files' mine mine' budget before same parted k whole fuel a =
    subst (λ (o : Option Files). StandsIn o whole fuel mine') same (parted k whole fuel (subst (λ (o : Option Files). At o whole fuel mine budget (searches_in before k)) (sym same) a))

pub steps_refused : {S : Type 0} (v : View S) (files files' : Option Files) (mine : List (Event × Reply)) (budget : Budget) (before : Search) → files' ≡ files → SearchRefused v files' mine budget before
    → (k : Option Found → Run) (whole : Run) (fuel : ℕ) → At files whole fuel mine budget (searches_in before k) → RefusedAt v files whole fuel
steps_refused v files files' mine budget before same refused k whole fuel a =
    subst (λ (o : Option Files). RefusedAt v o whole fuel) same (refused k whole fuel (subst (λ (o : Option Files). At o whole fuel mine budget (searches_in before k)) (sym same) a))
