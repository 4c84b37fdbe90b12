use Rattle.std.proofs.Common.{rules, arith, sym}
use Rattle.std.proofs.lemmas.Grind.{common_steps}
use Rattle.source_combinators.specs.Outcome.{Fails}
use Rattle.source_spec_statements.specs.Reading.{parameter, begins_parameter, parameters}
use Rattle.source_parse_statements.specs.Views.{names_of}
use Rattle.source_parse_statements.proofs.Rounds.{round_read, round_fails}
use Rattle.source_parse_statements.proofs.parameters.all_parameters.Goals as goal

pub returns-in_err-next-clause-value : goal.returns-in_err-next-clause-value
returns-in_err-next-clause-value c =
    let so_far = c.parameters.invariant.reads in
    let fails : Fails c.in_err-next.field-0.0 (parameters c.args.tokens.now) = round_fails begins_parameter parameter so_far.0 (names_of c.parameters.found) c.parameters.rest.now (parameters c.args.tokens.now) c.in_err-next.field-0.0 so_far.1 so_far.2 (sym c.parameters-test.ensures) c.in_err-next.ensures.value in
    first_of (search (rules, fails), grind (arith, common_steps))

pub parameters-preserved : goal.parameters-preserved
parameters-preserved c =
    let so_far = c.parameters.invariant.reads in
    record {
      reads = round_read begins_parameter parameter so_far.0 (names_of c.parameters.found) (names_of c.in_ok-next.next) c.parameters.rest.now c.in_ok-next.after.now (parameters c.args.tokens.now) so_far.1 so_far.2 (sym c.parameters-test.ensures) c.in_ok-next.ensures.value c.in_ok-next.ensures.shorter;
      within = omega (arith, c.parameters.invariant.within, c.in_ok-next.ensures.shorter);
    }
