use Rattle.std.proofs.lemmas.Bool.Decides.{same_from_decides}
use Rattle.std.proofs.lemmas.Str.Pattern.{contains_text}
use Rattle.value_operators.proofs.Substrings.{holds_text-Decides}
use Rattle.value_operators.specs.Items.{holds_text}
use Rattle.value_operators.proofs.items.holds_text.Goals as goal

pub returns : goal.returns
returns c =
    let told = contains_text c.contains.result c.args.needle.now c.args.text.now c.contains.ensures.cases in
    same_from_decides c.contains.result (holds_text c.args.text.now c.args.needle.now) (told.0, told.1) (holds_text-Decides c.args.text.now c.args.needle.now)
