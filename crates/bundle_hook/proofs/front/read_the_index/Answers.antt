use Rattle.std.proofs.Common.{◌≡◌, subst, length, take, min, IfSome, MatchOption}
use Rattle.tree_files.specs.Files.{node_at, bytes_of}
use Rattle.bundle_hook.specs.Spelling.{most_front}
use Rattle.bundle_hook.specs.Bundle.{Reads}
use Rattle.bundle_hook.proofs.TreeFronts.{index_told}
use Rattle.bundle_hook.proofs.Ascending.{index_ascends}
use Rattle.bundle_hook.proofs.front.read_the_index.Goals as goal

pub returns-in_ok-read_index-in-Some-clause-told : goal.returns-in_ok-read_index-in-Some-clause-told
returns-in_ok-read_index-in-Some-clause-told g c =
    index_told (g.T.Tree.files c.args.tree.now) c.args.file.now c.in-Some.front.items c.args.size c.in_ok-read_index-in-Some.field-0
    (subst (λ o. IfSome (g.T.Tree.files c.args.tree.now) (λ f. length (bytes_of (node_at f c.args.file.now)) ≡ c.args.size → MatchOption o ⊥ (λ front. front.items ≡ take most_front (bytes_of (node_at f c.args.file.now))))) c.in-Some.is c.in_ok-front.ensures.told)
    (subst (λ t. Reads t c.args.size c.in_ok-read_index-in-Some.field-0) c.as_slice.ensures.value c.in_ok-read_index-in-Some.ensures)

pub returns-in_ok-read_index-in-Some-clause-ascend : goal.returns-in_ok-read_index-in-Some-clause-ascend
returns-in_ok-read_index-in-Some-clause-ascend g c =
    index_ascends c.in-Some.front.items c.args.size c.in_ok-read_index-in-Some.field-0
    (subst (λ o. IfSome o (λ front. length front.items ≡ min c.args.size most_front)) c.in-Some.is c.in_ok-front.ensures.length)
    (subst (λ t. Reads t c.args.size c.in_ok-read_index-in-Some.field-0) c.as_slice.ensures.value c.in_ok-read_index-in-Some.ensures)
