use Rattle.std.proofs.Common.{refl}
use Rattle.meaning_script.specs.ImportStatements.{namespace_taken}
use Rattle.meaning_script.specs.Meaning.{around_at}
use Rattle.meaning_script.specs.Names.{replaces}
use Rattle.py_frames.proofs.Lifts.{lifted_at}
use Rattle.step_from_names.proofs.module_name.take_namespace.Goals as goal

pub returns-then-is_bound : goal.returns-then-is_bound
returns-then-is_bound c =
    let name = c.args.name.now in
    lifted_at c.args.thread.now (λ w d. replaces (around_at w d).access c.mid.result c.in_ok-copy.field-0 name)
    (λ w d. namespace_taken (around_at w d) c.args.is_bound c.args.«module» name) c.replace.result
    (λ w d k. rw (c.mid.ensures, c.in_ok-copy.ensures, c.name.ensures, c.if-is_bound.true) refl) c.replace.ensures
