use Rattle.bundle_hook.proofs.Expanding.{node_at-outside}
use Rattle.bundle_hook.proofs.folder_laws.all_else_stays.Goals as goal

pub returns : goal.returns
returns c = λ f p none. node_at-outside f p none
