use Rattle.std.proofs.Common.{◌∙◌, drop}
use Rattle.import_report.proofs.Naming.{source_last, no_source}
use Rattle.import_report.proofs.sources.source_of.Goals as goal

pub returns-in-Some : goal.returns-in-Some
returns-in-Some c =
    source_last (drop c.args.above c.args.path.now) c.in_ok-folders.folders c.pop.new.self c.in-Some.name c.only_source.result
    (c.in_ok-folders.ensures ∙ (c.parts.ensures ∙ c.in_ok-inside.ensures.rest)) c.in-Some.ensures c.only_source.ensures

pub returns : goal.returns
returns c =
    no_source (drop c.args.above c.args.path.now) c.in_ok-folders.folders (c.in_ok-folders.ensures ∙ (c.parts.ensures ∙ c.in_ok-inside.ensures.rest)) c.in-None.ensures.0
