use Rattle.std.proofs.Common.{◌∙◌, sym, ap, map, true≢false}
use Rattle.std.specs.String.{string_bytes}
use Rattle.clap.specs.Simple.{app_of}
use Rattle.clap.specs.contracts.error.kind.ErrorKind.{the_type}
use Rattle.clap.specs.declared.error.kind.ErrorKind.TheVariants.{OutOfMemory}
use denote.Enum.Bare.{sameb}
use Rattle.import_words.proofs.Joined.{clear_of, found_joins, refused_joins}
use Rattle.import_words.proofs.take.take_apart.Goals as goal

pub returns-in-Ok : goal.returns-in-Ok
returns-in-Ok c = found_joins c.args.command (app_of c.in_ok-parser.parser) (map string_bytes c.args.words.now) c.in-Ok.matches c.in_ok-front_of-in-Ok.field-0
    (clear_of c.args.words.now c.requires) c.in_ok-parser.ensures c.in-Ok.ensures.kinds c.in-Ok.ensures.matches c.in_ok-front_of-in-Ok.ensures

pub returns : goal.returns
returns c = refused_joins c.args.command (app_of c.in_ok-parser.parser) (map string_bytes c.args.words.now) c.in-Err.error
    (clear_of c.args.words.now c.requires) c.in_ok-parser.ensures c.in-Err.ensures.kinds
    (λ e. true≢false (sym (c.eq.ensures ∙ ap (λ k. sameb the_type k OutOfMemory) (c.kind.ensures ∙ e)) ∙ c.if-eq.false))
