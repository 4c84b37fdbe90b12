-- What was looked up goes on by its answer.
use Rattle.std.proofs.Common.{◌≡◌, ◌≤◌, ◌<◌, ℕ, List, length, Bool, IsTrue, Option, Some, None, IfSome, if◌then◌else◌, refl, ap, sym, subst}
use Rattle.std.specs.Option.{ForSome}
use Rattle.std.proofs.lemmas.Bool.{le-leb, lt-leb}
use Rattle.base_types.specs.declared.limits.TheConstants.{LONGEST_SOURCE}
use Rattle.base_types.specs.Path.{Path}
use Rattle.tree_files.specs.declared.tree.Node.{Node}
use Rattle.tree_files.specs.declared.tree.Node.TheVariants as nodes
use Rattle.tree_files.specs.declared.tree.Stamp.{Stamp}
use Rattle.tree_files.specs.declared.tree.Stamp.TheVariants as stamps
use Rattle.tree_files.specs.Files.{Files, node_at, stamp_of, bytes_of, is_file, IsFileAt}
use Rattle.machine_events.specs.declared.event.Event.{Event}
use Rattle.machine_events.specs.declared.event.Reply.{Reply}
use Rattle.meaning_runs.specs.Runs.{Run, Looks, looks, Question, Answer, StampOf, TextOf, IsTold, within_source}
use Rattle.drive_account.specs.At.{At}
use Rattle.meaning_script.specs.Imports.{opens}
use Rattle.py_run.specs.Turns.{Turned, Looked, IsFileStamp}
use Rattle.drive_straight.specs.declared.execution.Execution.{Execution}
use Rattle.py_run.specs.declared.turns.Turn.{Turn}
use Rattle.drive_account.specs.declared.payments.Budget.{Budget}

-- where something is looked up the script goes on by what the tree told
pub at_looked : {files : Option Files} {whole : Run} {fuel : ℕ} {mine : List (Event × Reply)} {budget : Budget} (q : Question) (a : Answer q) (next : Answer q → Run) → IsTold files q a → At files whole fuel mine budget (Looks q next) → At files whole fuel mine budget (next a)
at_looked {mine = mine} q a next told s = record {
  stands = record { paid = s.stands.paid; sum = s.stands.sum; reaches = looks s.stands.paid mine q a next told s.stands.reaches };
  unread = s.unread;
}

pub told_stamp : (o : Option Files) (p : Path) (a : Stamp) → IfSome o (λ f. a ≡ stamp_of (node_at f p)) → IsTold o (StampOf p) a
told_stamp None p a h = tt
told_stamp (Some f) p a h = h

-- a file that fits
pub told_text : (o : Option Files) (p : Path) (text : List ℕ) → IfSome o (λ f. text ≡ bytes_of (node_at f p)) → length text ≤ LONGEST_SOURCE → IsTold o (TextOf p) (Some text)
told_text None p text h fits = tt
told_text (Some f) p text h fits =
    subst (λ (bytes : List ℕ). Some text ≡ within_source bytes) h
    (ap (λ (b : Bool). if b then Some text else None) (sym (le-leb (length text) LONGEST_SOURCE fits)))

-- one that doesn't
pub told_none : (o : Option Files) (p : Path) → IfSome o (λ f. LONGEST_SOURCE < length (bytes_of (node_at f p))) → IsTold o (TextOf p) None
told_none None p h = tt
told_none (Some f) p h = ap (λ (b : Bool). if b then Some (bytes_of (node_at f p)) else None) (sym (lt-leb (length (bytes_of (node_at f p))) LONGEST_SOURCE h))

file_node : (node : Option Node) (size : ℕ) → stamps.File size ≡ stamp_of node → IsTrue (is_file node)
file_node None size h = absurd (cc h)
file_node (Some (nodes.File bytes)) size h = refl
file_node (Some (nodes.Dir time)) size h = absurd (cc h)

file_at : (here : Option Node) (a : Stamp) → a ≡ stamp_of here → IsFileStamp a → IsTrue (is_file here)
file_at here (stamps.File size) h is = file_node here size h
file_at here (stamps.Dir time) h is = absurd is
file_at here stamps.Absent h is = absurd is

pub file_there : (o : Option Files) (p : Path) (a : Stamp) → IfSome o (λ f. a ≡ stamp_of (node_at f p)) → IsFileStamp a → ForSome o (λ f. IsFileAt f p)
file_there o p a h is = λ f e. file_at (node_at f p) a (subst (λ (o : Option Files). IfSome o (λ f. a ≡ stamp_of (node_at f p))) e h) is

pub if_some : {X : Type 0} {P Q : X → Type 0} (o : Option X) → ((x : X) → P x → Q x) → IfSome o P → IfSome o Q
if_some None f h = tt
if_some (Some x) f h = f x h

-- over a tree that told something, and is as it was
pub turned_over : (files files' : Option Files) (failed failed' last : ℕ) (mine : List (Event × Reply)) (budget : Budget) (after : Execution) (run : Run) (t : Turn) → files' ≡ files → failed' ≡ failed
    → Turned files' failed' last mine mine budget after run t → Turned files failed last mine mine budget after run t
turned_over files files' failed failed' last mine budget after run t same count h =
    subst (λ (o : Option Files). Turned o failed last mine mine budget after run t) same (subst (λ (n : ℕ). Turned files' n last mine mine budget after run t) count h)

-- by what stands at a path
pub looked_by : (files : Option Files) (failed failed' : ℕ) (budget : Budget) (after : Execution) (path : Path) (none : Run) (go : Option (List ℕ) → Run) (at at' : Stamp) (t : Turn)
    → at ≡ at' → Looked files failed failed' budget after (opens path none go at') t → Looked files failed failed' budget after (opens path none go at) t
looked_by files failed failed' budget after path none go at at' t is h = rw is h
