-- How what was asked of a tree adds up, one thing after another.
use Rattle.std.proofs.Common.{◌≤◌, ℕ, List, Option, refl, ◌∙◌, arith}
use Rattle.tree_files.specs.Files.{Files}
use Rattle.machine_events.specs.declared.event.Event.{Event}
use Rattle.machine_events.specs.declared.event.Reply.{Reply}
use Rattle.drive_account.specs.Asking.{Asked, AllKept}

pub asked_refl : (files : Option Files) (faults : ℕ) → Asked files files faults faults
asked_refl files faults = record { files = refl; faults = omega arith }

pub asked_trans : {files files' files'' : Option Files} {faults faults' faults'' : ℕ} → Asked files files' faults faults' → Asked files' files'' faults' faults'' → Asked files files'' faults faults''
asked_trans a b = record { files = b.files ∙ a.files; faults = omega (arith, a.faults, b.faults) }

pub kept_refl : (lists : ℕ) (mine : List (Event × Reply)) → AllKept lists lists mine mine
kept_refl lists mine = omega arith

pub kept_trans : (lists lists' lists'' : ℕ) (mine mine' mine'' : List (Event × Reply)) → AllKept lists lists' mine mine' → AllKept lists' lists'' mine' mine'' → AllKept lists lists'' mine mine''
kept_trans lists lists' lists'' mine mine' mine'' a b = omega (arith, a, b)
