-- The `str` of a text is the text.
use Rattle.std.proofs.Common.{◌≡◌, ℕ, ◌≤◌, List, length, rules}
use Rattle.py_value.specs.declared.value.Value.{the_lemmas}
use Rattle.py_value.specs.declared.value.Value.TheVariants as values
use Rattle.py_value.specs.declared.operator.Applied.TheVariants as applied
use Rattle.value_texts.specs.Texts.{str_of}

pub text_is_itself : (text : List ℕ) → length text ≤ 65536 → str_of (values.Text text) ≡ applied.Value (values.Text text)
text_is_itself text h = search (rules, the_lemmas)
