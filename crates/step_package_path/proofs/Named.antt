-- A namespace whose name was read as a dotted name is that of the module itself.
use Rattle.std.proofs.Common.{◌≡◌, ◌∙◌, ℕ, List, true, ap, sym, if◌then◌else◌}
use Rattle.spec_core.specs.Identifiers.{is_dotted}
use Rattle.spec_core.specs.Names.{parent_of}
use Rattle.py_value.specs.declared.value.ModRef.{ModRef}
use Rattle.machine_events.specs.declared.event.Reply.TheVariants as r
use Rattle.meaning_state.specs.declared.fault.Fault.TheVariants as fault
use Rattle.meaning_script.specs.Pieces.{Piece, fails}
use Rattle.meaning_script.specs.Paths.{below_parent, has_state}
use Rattle.step_package_path.specs.Means.{named, space}
use Rattle.step_package_path.specs.declared.reader.Namespace.{Namespace}

pub read_as : (path : ModRef → Piece) (m : ModRef) (namespace : Namespace) → namespace.name ≡ m.name → is_dotted m.name ≡ true
    → below_parent path (named m namespace) namespace.state namespace.epoch (parent_of namespace.name)
    ≡ has_state path (space m) (r.Ns namespace.state namespace.epoch)
read_as path m namespace same dotted =
    let below = λ (name : List ℕ). below_parent path (record { mid = m.mid; name = name }) namespace.state namespace.epoch (parent_of name) in
    ap below same ∙ ap (λ b. if b then below m.name else fails fault.NotInProfile) (sym dotted)
