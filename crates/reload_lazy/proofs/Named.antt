-- A module whose name was read as a dotted name begins to be reloaded under that name.
use Rattle.std.proofs.Common.{◌≡◌, ◌∙◌, ℕ, List, true, ap, sym, if◌then◌else◌}
use Rattle.spec_core.specs.Identifiers.{is_dotted}
use Rattle.py_value.specs.declared.value.ModRef.{ModRef}
use Rattle.meaning_state.specs.declared.fault.Fault.TheVariants as fault
use Rattle.meaning_script.specs.Pieces.{fails}
use Rattle.meaning_script.specs.Imports.{Inside}
use Rattle.meaning_script.specs.Reload.{begins, reloads}
use Rattle.reload_lazy.specs.Reload.{named}

pub read_as : (inside : Inside) (m : ModRef) (n : List ℕ) → n ≡ m.name → is_dotted m.name ≡ true
    → begins inside (named m n) ≡ reloads inside m
read_as inside m n same dotted =
    ap (λ (n : List ℕ). begins inside (named m n)) same
    ∙ ap (λ b. if b then begins inside m else fails fault.NotInProfile) (sym dotted)
