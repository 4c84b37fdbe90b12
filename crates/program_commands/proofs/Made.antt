-- From what was packed to what is made of it, and what is left in both sinks.
use Rattle.std.proofs.Common.{◌≡◌, ◌∙◌, refl, sym, subst, ℕ, List, [], Option, Some, None, IfSome, Result, Ok, Err, IfOk}
use Rattle.tree_files.specs.Files.{Files}
use Rattle.tree_files.specs.declared.tree.TreeFault.{TreeFault}
use Rattle.tree_walk.specs.Packing.{IsPacking}
use Rattle.tree_walk.specs.declared.pack.Packing.{Packing}
use Rattle.machine_desk.specs.declared.outlet.Flow.{Flow}
use Rattle.machine_desk.specs.declared.outlet.Flow.TheVariants.{Open}
use Rattle.import_words.specs.Words.{Word}
use Rattle.program_run.specs.Statuses.{normal_end, sink_fault}
use Rattle.program_run.specs.Sinks.{At, Gets, Moment, Leaves, status_by}
use Rattle.program_run.proofs.Leaving.{gets_none}
use Rattle.program_commands.specs.Making.{Packs, IsMadeOf, Makes}
use Rattle.program_commands.specs.declared.make.Made.{Made}

-- what was packed is what the word names
packs_by : (tree : Option Files) (word : Word) (it : Packing) → IfSome tree (λ f. IsPacking f word it) → Packs tree word it
packs_by None word it told = tt
packs_by (Some f) word it told = told

pub makes_by : (tree : Option Files) (word : Word) (it : Packing) (r : Result Made TreeFault) → IfSome tree (λ f. IsPacking f word it) → IfOk r (IsMadeOf it) → IfOk r (Makes tree word)
makes_by tree word it (Ok made) told is = (it, packs_by tree word it told, is)
makes_by tree word it (Err e) told is = tt

-- standard output alone was written
pub wrote : (old new : Moment) (first last err : At) (bytes : List ℕ) (flow : Flow) (status : ℕ) → Gets first bytes last flow → old.out ≡ first → new.out ≡ last → old.err ≡ err → new.err ≡ err
    → status ≡ status_by normal_end sink_fault flow Open → Leaves (status_by normal_end sink_fault) bytes [] old new status
wrote old new first last err bytes flow status gets o n e f is = record {
  out_flow = flow;
  err_flow = Open;
  out_gets = subst (λ (a : At). Gets a bytes new.out flow) (sym o) (subst (λ (b : At). Gets first bytes b flow) (sym n) gets);
  err_gets = subst (λ (b : At). Gets old.err [] b Open) (e ∙ sym f) (gets_none old.err);
  is = is;
}
