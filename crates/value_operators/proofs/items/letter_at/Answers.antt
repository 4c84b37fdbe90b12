use Rattle.std.proofs.Common.{◌≡◌, ◌∙◌, sym, refl, ℕ, Option, Some, None, rules}
use Rattle.std.specs.Option.{option_map}
use Rattle.std.proofs.lemmas.Iterator.{YieldsList-from_chars}
use Rattle.std.proofs.lemmas.Iterator.Consumers.{nth_from_yields_List}
use Rattle.value_operators.proofs.items.letter_at.Goals as goal

unmapped : (letter : Option ℕ) → option_map (λ c. c) letter ≡ letter
unmapped (Some c) = refl
unmapped None = refl

pub returns : goal.returns
returns c =
    sym (unmapped c.nth.result) ∙ nth_from_yields_List c.nth.result _ c.args.at c.nth.ensures.ran (YieldsList-from_chars c.args.text.now (search rules) cc)
