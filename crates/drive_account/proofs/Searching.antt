-- From what a search of a script wants to where it leads.
use Rattle.std.proofs.Common.{◌≡◌, ◌≤◌, ℕ, ◌+◌, List, [], ◌∷◌, ◌++◌, false, Option, Ok, sym, ◌∙◌, ap, subst, arith}
use Rattle.tree_files.specs.Files.{Files}
use Rattle.machine_events.specs.declared.event.Event.{Event}
use Rattle.machine_events.specs.declared.event.Reply.{Reply}
use Rattle.machine_events.specs.declared.event.Reply.TheVariants as r
use Rattle.machine_shown.specs.Shown.{Shown, shown}
use Rattle.meaning_runs.specs.Costs.{after_reply}
use Rattle.meaning_runs.specs.Lists.{lists_in}
use Rattle.meaning_runs.specs.Runs.{Run, Makes, Pays, Safe, keeps}
use Rattle.meaning_runs.proofs.Spends.{shown-snoc}
use Rattle.path_finder.specs.Looking.{wants, CountsLists}
use Rattle.path_finder.specs.Steps.{Search, Reads, here, stamped_at, listed_at}
use Rattle.path_finder.specs.declared.words.Found.{Found}
use Rattle.path_finder.specs.declared.words.LookIn.{LookIn}
use Rattle.path_finder.specs.declared.words.LookWant.{LookWant}
use Rattle.path_finder.specs.declared.words.LookWant.TheVariants as wanted
use Rattle.meaning_script.specs.Searches.{searches_in}
use Rattle.meaning_script.proofs.Embedding.{reads_stands}
use Rattle.drive_account.proofs.Giving.{lists_more}
use Rattle.drive_account.specs.At.{At}
use Rattle.drive_account.specs.Searching.{MayGive, Given, CountsStep, keeping}
use Rattle.drive_account.specs.Asking.{AllKept}
use Rattle.drive_account.specs.declared.payments.Budget.{Budget}
use Rattle.drive_account.specs.declared.search.Step.{Step}

-- what was paid for a reply changes nothing of what is shown
pub safe_paid : (s : Shown) (reply : Reply) (next : Run) → Safe s (after_reply reply next) → Safe s next
safe_paid s (r.Wait l) next h = h
safe_paid s reply next h = h.1

-- after an event one more pair is shown
pub safe_made : (t : ℕ) (mine mine' : List (Event × Reply)) (event : Event) (reply : Reply) (next : Reply → Run) → mine' ≡ mine ++ (event, reply) ∷ []
    → Safe (shown t mine) (Makes event next) → Safe (shown t mine') (next reply)
safe_made t mine mine' event reply next is h = rw is (subst (λ (s : Shown). Safe s (next reply)) (sym (shown-snoc t mine (event, reply))) (h.1 reply))

-- what is read in the tree leads on
pub at_reads : {files : Option Files} {whole : Run} {fuel : ℕ} {mine : List (Event × Reply)} {budget : Budget} (before after : Search) (k : Option Found → Run) → Reads files before after
    → At files whole fuel mine budget (searches_in before k) → At files whole fuel mine budget (searches_in after k)
at_reads {files = files} {whole} {fuel} {mine} {budget} before after k reads a = record {
  stands = reads_stands files before after whole fuel budget.left mine k reads a.stands;
  unread = a.unread;
}

pub safe_reads : (files : Option Files) (before after : Search) (s : Shown) (k : Option Found → Run) → Reads files before after → Safe s (searches_in before k) → Safe s (searches_in after k)
safe_reads files before after s k (here it) h = h
safe_reads files before after s k (stamped_at path a next it told more) h = safe_reads files (next a) after s k more (h.1 a)
safe_reads files before after s k (listed_at dir names next it told more) h = safe_reads files (next names) after s k more (h.1 names).1

-- a search that is about to make an event runs
pub may_give : (s : Shown) (want : LookWant) (go : LookIn → Search) (k : Option Found → Run) → Safe s (searches_in (wants want go) k) → MayGive s want
may_give s (wanted.Pay of_tree) go k h = tt
may_give s (wanted.DirGet dir part) go k h = h.0
may_give s (wanted.DirSet dir listing) go k h = h.0.0
may_give s (wanted.Done found) go k h = tt

pub given_at : (number : ℕ) (mine mine' : List (Event × Reply)) (budget budget' : Budget) (want want' : LookWant) (it : Step) → want ≡ want' → Given number mine mine' budget budget' want' it
    → Given number mine mine' budget budget' want it
given_at number mine mine' budget budget' want want' it is h = rw is h

pub may_at : (s : Shown) (want want' : LookWant) → want ≡ want' → MayGive s want → MayGive s want'
may_at s want want' is h = subst (MayGive s) is h

-- one more event keeps so many listings more
pub lists_made : (mine mine' : List (Event × Reply)) (event : Event) (reply : Reply) → mine' ≡ mine ++ (event, reply) ∷ [] → lists_in mine + keeps event ≤ lists_in mine'
lists_made mine mine' event reply is =
    let one : lists_in mine' ≡ lists_in mine + keeps event = ap lists_in is ∙ lists_more mine (event, reply) in
    omega (arith, one)

-- what is to be paid for names
pub owed_names : {files : Option Files} {whole : Run} {fuel : ℕ} {mine : List (Event × Reply)} {budget : Budget} (units units' : ℕ) (next : Run) → units ≡ units'
    → At files whole fuel mine budget (Pays false units' next) → At files whole fuel mine budget (Pays false units next)
owed_names units units' next is a = rw is a

-- a step over a count that is as it was
pub counts_same : {faults faults' : ℕ} → faults' ≡ faults → (it : Step) → CountsStep faults faults it → CountsStep faults faults' it
counts_same {faults = faults} same it counts = subst (λ (n : ℕ). CountsStep faults n it) (sym same) counts

-- a step that lists wants that listing kept
pub counted : (want : LookWant) (old new : ℕ) (mine mine' : List (Event × Reply)) → CountsLists (Ok want) old new → lists_in mine + keeping want ≤ lists_in mine' → AllKept old new mine mine'
counted (wanted.Pay of_tree) old new mine mine' counts kept = omega (arith, counts, kept)
counted (wanted.DirGet dir part) old new mine mine' counts kept = omega (arith, counts, kept)
counted (wanted.DirSet dir listing) old new mine mine' counts kept = omega (arith, counts, kept)
counted (wanted.Done found) old new mine mine' counts kept = omega (arith, counts, kept)
