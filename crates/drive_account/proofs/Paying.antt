-- What is paid for replies.
use Rattle.std.proofs.Common.{◌≡◌, ◌≤◌, ◌-◌, ◌&&◌, ℕ, nat_lt, List, Bool, true, false, if◌then◌else◌, Option, Some, None, refl, ◌∙◌, sym, ap, subst}
use Rattle.std.proofs.lemmas.Bool.{ltb-true}
use Rattle.tree_files.specs.Files.{Files}
use Rattle.machine_events.specs.declared.event.Event.{Event}
use Rattle.machine_events.specs.declared.event.Reply.{Reply}
use Rattle.machine_events.specs.declared.event.Reply.TheVariants as r
use Rattle.meaning_runs.specs.Runs.{Run, Pays, Stands}
use Rattle.meaning_runs.proofs.Stand.{stands_paid}
use Rattle.meaning_runs.specs.Costs.{reply_units, after_reply}
use Rattle.drive_account.specs.At.{At, MayBeUnread, told_of}
use Rattle.drive_account.specs.declared.payments.Budget.{Budget}

-- each reply but a wait is paid for
pub paid_reply : (reply : Reply) (next : Run) → ((l : List ℕ) → reply ≡ r.Wait l → ⊥) → after_reply reply next ≡ Pays false (reply_units reply) next
paid_reply (r.Wait l) next other = absurd (other l refl)
paid_reply (r.Module m) next other = refl
paid_reply (r.Cycle m) next other = refl
paid_reply r.Halted next other = refl
paid_reply r.Missing next other = refl
paid_reply r.Deadlock next other = refl
paid_reply (r.Mine epoch) next other = refl
paid_reply r.Woken next other = refl
paid_reply (r.Load load mid) next other = refl
paid_reply (r.Kept slot) next other = refl
paid_reply r.Lost next other = refl
paid_reply r.LostParent next other = refl
paid_reply (r.Value v) next other = refl
paid_reply (r.Unset init) next other = refl
paid_reply r.Sleeping next other = refl
paid_reply r.Fixed next other = refl
paid_reply (r.Names names) next other = refl
paid_reply (r.Loaded m text) next other = refl
paid_reply (r.Path items) next other = refl
paid_reply r.Full next other = refl
paid_reply (r.Ns state epoch) next other = refl
paid_reply (r.Slot slot) next other = refl
paid_reply (r.Was slot) next other = refl
paid_reply r.NotThere next other = refl
paid_reply (r.Busy m) next other = refl
paid_reply (r.Begun epoch) next other = refl
paid_reply (r.Yours load text) next other = refl
paid_reply r.NoListing next other = refl
paid_reply (r.Listing time part file) next other = refl
paid_reply r.Ready next other = refl
paid_reply r.Done next other = refl

-- a wait is free
pub wait_free : (reply : Reply) (l : List ℕ) (next : Run) → reply ≡ r.Wait l → after_reply reply next ≡ next
wait_free reply l next is = rw is refl

-- what is to be paid where a reply came that is no wait
pub owed : {files : Option Files} {whole : Run} {fuel : ℕ} {mine : List (Event × Reply)} (budget : Budget) (reply : Reply) (units : ℕ) (next : Run) → ((l : List ℕ) → reply ≡ r.Wait l → ⊥) → units ≡ reply_units reply
    → At files whole fuel mine budget (after_reply reply next) → At files whole fuel mine budget (Pays false units next)
owed {files = files} {whole} {fuel} {mine} budget reply units next other is at =
    subst (λ (run : Run). At files whole fuel mine budget run) (paid_reply reply next other ∙ ap (λ (n : ℕ). Pays false n next) (sym is)) at

-- what would be told of a read that fails right behind a payment is where the script stands before it
pub told_unread : {files : Option Files} {whole : Run} {fuel : ℕ} {mine : List (Event × Reply)} (budget units : ℕ) (of_tree : Bool) (next : Run) → units ≤ budget
    → Stands files whole fuel mine budget (Pays of_tree units next) → MayBeUnread files whole fuel mine (told_of budget of_tree units)
told_unread {files} {whole} {fuel} {mine} budget units true next enough s = at (nat_lt 0 units) refl
  where
    at : (some : Bool) → nat_lt 0 units ≡ some → MayBeUnread files whole fuel mine (if true && some then Some budget else None)
    at true is = record { units = units; next = next; stands = s; some = ltb-true 0 units is; enough = enough }
    at false is = tt
told_unread budget units false next enough s = tt

-- a payment that is made: the script stands behind it
pub at_paid : {files : Option Files} {whole : Run} {fuel : ℕ} {mine : List (Event × Reply)} (old new : Budget) (units : ℕ) (of_tree : Bool) (next : Run) → units ≤ old.left
    → new.left ≡ old.left - units → new.read ≡ told_of old.left of_tree units
    → At files whole fuel mine old (Pays of_tree units next) → At files whole fuel mine new next
at_paid {files = files} {whole} {fuel} {mine} old new units of_tree next enough left told a = record {
  stands = subst (λ (b : ℕ). Stands files whole fuel mine b next) (sym left) (stands_paid enough a.stands);
  unread = subst (λ (r : Option ℕ). MayBeUnread files whole fuel mine r) (sym told) (told_unread old.left units of_tree next enough a.stands);
}
