use Rattle.std.proofs.Common.{◌≡◌, ◌∙◌, sym, ap, ◌||◌, Bool, true, false, refl, Some, None}
use Rattle.std.specs.Option.{option_copied}
use Rattle.tree_overlay.specs.Gathered.{holds}
use Rattle.tree_overlay.specs.Names.{part_after}
use Rattle.tree_overlay.proofs.NameLemmas.{holds-added}
use Rattle.bundle_hook.proofs.Inner.{is_name, next_name}
use Rattle.bundle_hook.proofs.inside.add_name.Goals as goal

pub returns-in_ok-insert : goal.returns-in_ok-insert
returns-in_ok-insert c other =
    let found : part_after c.args.folder.now c.args.path.now ≡ Some c.in-Some.name.now = sym c.part_after.ensures ∙ ap option_copied c.in-Some.is in
    holds-added c.args.names.now c.insert.new.self _ c.in-Some.name.now true refl c.in_ok-copy.ensures c.in_ok-insert.ensures.updates other
    ∙ ap (λ o. holds c.args.names.now other || is_name other o) (sym found) ∙ ap (λ b. holds c.args.names.now other || b) (next_name c.args.folder.now c.args.path.now other)

pub returns-in_default : goal.returns-in_default
returns-in_default c other =
    let none : part_after c.args.folder.now c.args.path.now ≡ None = sym c.part_after.ensures ∙ ap option_copied c.in_default.is in
    sym (or_false (holds c.args.names.now other)) ∙ ap (λ o. holds c.args.names.now other || is_name other o) (sym none) ∙ ap (λ b. holds c.args.names.now other || b) (next_name c.args.folder.now c.args.path.now other)
  where
    or_false : (b : Bool) → b || false ≡ b
    or_false true = refl
    or_false false = refl
