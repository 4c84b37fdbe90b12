use Rattle.source_parse_statements.proofs.Whole.{script_spelled, script_only, script_refused}
use Rattle.source_parse_statements.proofs.scripts.script.Goals as goal

pub returns-clause-spelled : goal.returns-clause-spelled
returns-clause-spelled c = script_spelled c.args.room c.args.tokens.now c.read.result c.without_rest.result c.without_rest.ensures c.read.ensures

pub returns-clause-only : goal.returns-clause-only
returns-clause-only c s k = script_only c.args.room c.args.tokens.now c.read.result c.without_rest.result s c.without_rest.ensures c.read.ensures k

pub returns-clause-refused : goal.returns-clause-refused
returns-clause-refused c fault k = script_refused c.args.room c.args.tokens.now c.read.result c.without_rest.result fault c.without_rest.ensures c.read.ensures k
