use Rattle.std.proofs.Common.{arith}
use Rattle.program_rounds.proofs.Begun.{can_open}
use Rattle.program_rounds.proofs.begin.ground_for.Goals as goal

pub returns-clause-can_open : goal.returns-clause-can_open
returns-clause-can_open c =
    let many = c.requires.texts in
    can_open c.args.rounds.now _ c.requires.can_run c.in_ok-scripts_of.ensures (omega (arith, many)) c.in_ok-sizes_of.ensures

pub machine-requires-clause-some : goal.machine-requires-clause-some
machine-requires-clause-some c =
    let many = c.requires.texts in
    (can_open c.args.rounds.now (record { scripts = c.in_ok-scripts_of.field-0; texts = c.args.texts; path = c.in_ok-copy.field-0; rounds = c.in_ok-sizes_of.field-0 }) c.requires.can_run c.in_ok-scripts_of.ensures (omega (arith, many)) c.in_ok-sizes_of.ensures).some

pub machine-requires-clause-few : goal.machine-requires-clause-few
machine-requires-clause-few c =
    let many = c.requires.texts in
    (can_open c.args.rounds.now (record { scripts = c.in_ok-scripts_of.field-0; texts = c.args.texts; path = c.in_ok-copy.field-0; rounds = c.in_ok-sizes_of.field-0 }) c.requires.can_run c.in_ok-scripts_of.ensures (omega (arith, many)) c.in_ok-sizes_of.ensures).few

pub machine-requires-clause-texts : goal.machine-requires-clause-texts
machine-requires-clause-texts c =
    let many = c.requires.texts in
    (can_open c.args.rounds.now (record { scripts = c.in_ok-scripts_of.field-0; texts = c.args.texts; path = c.in_ok-copy.field-0; rounds = c.in_ok-sizes_of.field-0 }) c.requires.can_run c.in_ok-scripts_of.ensures (omega (arith, many)) c.in_ok-sizes_of.ensures).texts

pub machine-requires-clause-each : goal.machine-requires-clause-each
machine-requires-clause-each c =
    let many = c.requires.texts in
    (can_open c.args.rounds.now (record { scripts = c.in_ok-scripts_of.field-0; texts = c.args.texts; path = c.in_ok-copy.field-0; rounds = c.in_ok-sizes_of.field-0 }) c.requires.can_run c.in_ok-scripts_of.ensures (omega (arith, many)) c.in_ok-sizes_of.ensures).each

pub machine-requires-clause-rounds : goal.machine-requires-clause-rounds
machine-requires-clause-rounds c =
    let many = c.requires.texts in
    (can_open c.args.rounds.now (record { scripts = c.in_ok-scripts_of.field-0; texts = c.args.texts; path = c.in_ok-copy.field-0; rounds = c.in_ok-sizes_of.field-0 }) c.requires.can_run c.in_ok-scripts_of.ensures (omega (arith, many)) c.in_ok-sizes_of.ensures).rounds
