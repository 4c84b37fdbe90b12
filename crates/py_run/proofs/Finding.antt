-- From where a search of a script leads to where its turn leads.
use Rattle.std.proofs.Common.{◌≡◌, ℕ, List, Option, subst}
use Rattle.tree_files.specs.Files.{Files}
use Rattle.machine_events.specs.declared.event.Event.{Event}
use Rattle.machine_events.specs.declared.event.Reply.{Reply}
use Rattle.meaning_runs.specs.Runs.{Run, StandsIn}
use Rattle.meaning_runs.proofs.Stand.{in_some}
use Rattle.path_finder.specs.declared.words.Found.{Found}
use Rattle.drive_account.specs.Searching.{AfterSearch, CountsSearch}
use Rattle.drive_account.specs.declared.payments.Budget.{Budget}
use Rattle.drive_account.specs.declared.search.SearchEnd.{SearchEnd}
use Rattle.drive_account.specs.declared.search.SearchEnd.TheVariants as ends

pub after_at : (files : Option Files) (whole : Run) (fuel : ℕ) (mine : List (Event × Reply)) (budget : Budget) (k : Option Found → Run) (it it' : SearchEnd) → it ≡ it' → AfterSearch files whole fuel mine budget k it
    → AfterSearch files whole fuel mine budget k it'
after_at files whole fuel mine budget k it it' is a = subst (λ (it : SearchEnd). AfterSearch files whole fuel mine budget k it) is a

pub counts_at : (old new : ℕ) (it it' : SearchEnd) → it ≡ it' → CountsSearch old new it → CountsSearch old new it'
counts_at old new it it' is c = subst (λ (it : SearchEnd). CountsSearch old new it) is c

-- a script that searched stands somewhere
pub in_search_end : {files : Option Files} {whole : Run} {fuel : ℕ} {mine : List (Event × Reply)} (budget : Budget) (k : Option Found → Run) (it : SearchEnd) → AfterSearch files whole fuel mine budget k it → StandsIn files whole fuel mine
in_search_end budget k (ends.Found answer) a = in_some a.stands
in_search_end budget k ends.Out a = in_some a.stands
in_search_end budget k (ends.Unread left) a = in_some a.stands
