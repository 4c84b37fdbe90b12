use Rattle.std.proofs.Common.{◌≡◌, ◌+◌, ◌-◌, ℕ, take, drop, subst, arith}
use Rattle.std.specs.Prelude.{IfOk}
use Rattle.program_run.specs.Together.{Mean}
use Rattle.program_rounds.proofs.course.programs_at.Goals as goal

pub returns : goal.returns
returns g c =
    let same : (c.args.from + c.args.count) - c.args.from ≡ c.args.count = omega arith in
    subst (λ (n : ℕ). IfOk c.programs_of.result (λ programs. Mean g.S.Program.run g.S.Scripts.means (take n (drop c.args.from c.args.texts.now)) programs.items)) same c.programs_of.ensures
