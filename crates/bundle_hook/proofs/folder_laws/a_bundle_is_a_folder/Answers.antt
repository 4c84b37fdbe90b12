use Rattle.bundle_hook.proofs.Expanding.{node_at-inside}
use Rattle.bundle_hook.proofs.folder_laws.a_bundle_is_a_folder.Goals as goal

pub returns : goal.returns
returns c = λ f t path rest files is. node_at-inside f t path rest files is
