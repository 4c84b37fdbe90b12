use Rattle.std.proofs.Common.{◌≡◌, subst, Some, IfOk, Option, List, ℕ}
use Rattle.path_finder.specs.Entries.{path_by, text_of}
use Rattle.path_finder.proofs.Spelling.{path_read}
use Rattle.path_finder.proofs.look.path_of.Goals as goal

pub returns-in-Some : goal.returns-in-Some
returns-in-Some c =
    let e : Some c.in-Some.text.now ≡ text_of c.args.entry.now = rw c.in-Some.is at c.text_of.ensures in
    subst (λ (o : Option (List ℕ)). IfOk c.read.result (λ it. it ≡ path_by o)) e (path_read c.read.result c.in-Some.text.now c.read.ensures)
