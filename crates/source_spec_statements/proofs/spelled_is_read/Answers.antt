use Rattle.source_spec_statements.proofs.Complete.{complete_script}
use Rattle.source_spec_statements.proofs.spelled_is_read.Goals as goal

pub returns : goal.returns
returns c room ts s h = complete_script room ts s h
