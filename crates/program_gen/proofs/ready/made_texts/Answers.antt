use Rattle.std.proofs.Common.{◌∙◌, subst, arith, Some}
use Rattle.program_gen.specs.Generator.{made_files, script_files}
use Rattle.program_run.specs.Scripts.{EachOpens, Stops}
use Rattle.program_gen.specs.Scripts.{script_texts, HoldsScripts}
use Rattle.program_gen.proofs.TextParts.{given_texts, only_wanting}
use Rattle.program_gen.proofs.ready.made_texts.Goals as goal

pub returns-in-Ok-clause-texts : goal.returns-in-Ok-clause-texts
returns-in-Ok-clause-texts c =
    let seed = c.args.seed in
    let modules = c.args.modules in
    let scripts = c.args.scripts in
    let hold : HoldsScripts seed modules scripts = c.made_scripts_stand.ensures seed modules scripts c.requires.some (omega (arith, c.ranges.modules.fits)) (omega (arith, c.ranges.scripts.fits)) in
    given_texts (made_files seed modules scripts) (script_files scripts) (script_texts seed modules scripts) c.in-Ok.texts hold (
    subst (λ w. EachOpens (Some (made_files seed modules scripts)) w c.in-Ok.texts) (c.as_slice.ensures ∙ c.requires.scripts) (
    subst (λ f. EachOpens f c.as_slice.result.now c.in-Ok.texts) c.requires.files c.in-Ok.ensures.ok))

pub wanting-requires : goal.wanting-requires
wanting-requires c =
    let seed = c.args.seed in
    let modules = c.args.modules in
    let scripts = c.args.scripts in
    let hold : HoldsScripts seed modules scripts = c.made_scripts_stand.ensures seed modules scripts c.requires.some (omega (arith, c.ranges.modules.fits)) (omega (arith, c.ranges.scripts.fits)) in
    only_wanting (made_files seed modules scripts) (script_files scripts) (script_texts seed modules scripts) c.in-Err.stop hold (
    subst (λ w. Stops (Some (made_files seed modules scripts)) w 0 0 c.in-Err.stop) (c.as_slice.ensures ∙ c.requires.scripts) (
    subst (λ f. Stops f c.as_slice.result.now 0 0 c.in-Err.stop) c.requires.files c.in-Err.ensures.err))
