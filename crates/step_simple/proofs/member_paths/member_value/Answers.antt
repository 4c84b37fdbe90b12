use Rattle.std.proofs.Common.{◌∙◌, sym, refl}
use Rattle.meaning_script.specs.Meaning.{around_at}
use Rattle.meaning_script.specs.Names.{replaces, member_value}
use Rattle.py_frames.proofs.Lifts.{lifted_at}
use Rattle.step_simple.proofs.member_paths.member_value.Goals as goal

pub returns-then-is_namespace_path : goal.returns-then-is_namespace_path
returns-then-is_namespace_path c =
    let name = c.args.name.now in
    let is_path = sym c.is_namespace_path.ensures ∙ c.if-is_namespace_path.true in
    lifted_at c.args.thread.now (λ w d. replaces (around_at w d).access c.mid.result c.in_ok-copy.field-0 name)
    (λ w d. member_value (around_at w d).access c.args.«module» name c.args.value) c.replace.result
    (λ w d k. rw (c.mid.ensures, c.in_ok-copy.ensures, c.name.ensures, is_path) refl) c.replace.ensures
