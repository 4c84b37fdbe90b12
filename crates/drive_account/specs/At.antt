-- Where a script stands, with what is left of its budget.
use Rattle.std.specs.Prelude.{ℕ, ◌<◌, List, Bool, true, false, ◌&&◌, nat_lt, if◌then◌else◌, Option, Some, None}
use Rattle.tree_files.specs.Files.{Files}
use Rattle.machine_events.specs.declared.event.Event.{Event}
use Rattle.machine_events.specs.declared.event.Reply.{Reply}
use Rattle.meaning_runs.specs.Runs.{Run, Pays, Stands, IsUnread}
use Rattle.drive_account.specs.declared.payments.Budget.{Budget}

-- where the budget tells what was left before a payment for the tree, the script stands, with so much left, at a payment
-- for a call of the tree that it can make; else nothing is claimed
abbrev pub MayBeUnread : Option Files → Run → ℕ → List (Event × Reply) → Option ℕ → Type 0
MayBeUnread files whole fuel mine None = Unit {0}
MayBeUnread files whole fuel mine (Some left) = IsUnread files whole fuel mine left

-- what a read that fails right behind this payment would tell: what was left before it, where it was one of some units
-- for a call of the tree
abbrev pub told_of : ℕ → Bool → ℕ → Option ℕ
told_of budget of_tree units = if of_tree && nat_lt 0 units then Some budget else None

-- the script stands here; where the budget tells what was left
-- before a payment for the tree, a call of the tree may fail
pub record At (files : Option Files) (whole : Run) (fuel : ℕ) (mine : List (Event × Reply)) (budget : Budget) (run : Run) : Type 0 where
  pub stands : Stands files whole fuel mine budget.left run
  pub unread : MayBeUnread files whole fuel mine budget.read

-- it stands at a payment that it cannot make, and whether that is one for a call of the tree is told
pub record IsShort (files : Option Files) (whole : Run) (fuel : ℕ) (mine : List (Event × Reply)) (budget : ℕ) (of_tree : Bool) : Type 0 where
  pub units : ℕ
  pub next : Run
  pub stands : Stands files whole fuel mine budget (Pays of_tree units next)
  pub short : budget < units

-- after a payment, by whether it was made
abbrev pub AfterPay : Bool → Option Files → Run → ℕ → List (Event × Reply) → Budget → Run → Type 0
AfterPay true files whole fuel mine budget next = At files whole fuel mine budget next
AfterPay false files whole fuel mine budget next = IsShort files whole fuel mine budget.left budget.of_tree
