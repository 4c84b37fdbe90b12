use Rattle.std.proofs.Common.{◌≡◌, ◌∙◌, sym, ap, IfOk}
use Rattle.tree_files.specs.Files.{IsRead, bytes_of}
use Rattle.tree_overlay.specs.Fates.{Kept, fate_of, node_by}
use Rattle.tree_overlay.proofs.Overlaid.{tree_told, kept_file, kept_told, put_told, no_bytes, file_may_be, none_read}
use Rattle.tree_overlay.proofs.overlay.OverlayTree.read.Goals as goal

pub read-requires : goal.read-requires
read-requires g c =
    let kept : fate_of c.args.self.now.edits c.args.file.now ≡ Kept = sym (c.fate_of.ensures ∙ ap (fate_of c.args.self.now.edits) c.parts.ensures) ∙ c.in-None.ensures in
    kept_file (g.T.Tree.files c.args.self.now.tree) c.args.self.now.edits c.args.file.now kept c.requires

pub returns-in_err-stamp-in-Some-clause-is_tree : goal.returns-in_err-stamp-in-Some-clause-is_tree
returns-in_err-stamp-in-Some-clause-is_tree g c = tree_told _ c.args.self.now.edits c.args.self.now.below_root c.stamp.ensures.is_tree

pub returns-in-None-clause-told : goal.returns-in-None-clause-told
returns-in-None-clause-told g c =
    let kept : fate_of c.args.self.now.edits c.args.file.now ≡ Kept = sym (c.fate_of.ensures ∙ ap (fate_of c.args.self.now.edits) c.parts.ensures) ∙ c.in-None.ensures in
    kept_told (λ bytes. IfOk c.read.result (IsRead bytes c.args.at c.args.into.now c.read.new.into)) (g.T.Tree.files c.args.self.now.tree) c.args.self.now.edits c.args.file.now kept c.read.ensures.told

pub returns-in-None-clause-wrong_kind : goal.returns-in-None-clause-wrong_kind
returns-in-None-clause-wrong_kind g c never =
    let kept : fate_of c.args.self.now.edits c.args.file.now ≡ Kept = sym (c.fate_of.ensures ∙ ap (fate_of c.args.self.now.edits) c.parts.ensures) ∙ c.in-None.ensures in
    absurd (file_may_be c.args.self.now.edits c.args.file.now kept never)

pub returns-in-None-clause-is_tree : goal.returns-in-None-clause-is_tree
returns-in-None-clause-is_tree g c = tree_told _ c.args.self.now.edits c.args.self.now.below_root c.read.ensures.is_tree

pub returns-in_ok-stamp-in-Some-clause-told : goal.returns-in_ok-stamp-in-Some-clause-told
returns-in_ok-stamp-in-Some-clause-told g c =
    let same = c.fate_of.ensures ∙ ap (fate_of c.args.self.now.edits) c.parts.ensures in
    put_told (λ bytes. IsRead bytes c.args.at c.args.into.now c.copy_from.new.into c.copy_from.result) (g.T.Tree.files c.args.self.now.tree) c.args.self.now.edits c.args.file.now c.in-Some.bytes.now
    (λ before. ap (λ x. bytes_of (node_by x before)) (sym same) ∙ c.in-Some.ensures before) c.copy_from.ensures.copied

pub returns-in_ok-stamp-in-Some-clause-wrong_kind : goal.returns-in_ok-stamp-in-Some-clause-wrong_kind
returns-in_ok-stamp-in-Some-clause-wrong_kind g c never =
    let same = c.fate_of.ensures ∙ ap (fate_of c.args.self.now.edits) c.parts.ensures in
    none_read c.in-Some.bytes.now _ _ c.args.at _ (no_bytes c.args.self.now.edits c.args.file.now _ (λ before. ap (λ x. bytes_of (node_by x before)) (sym same) ∙ c.in-Some.ensures before) never) c.copy_from.ensures.copied

pub returns-in_ok-stamp-in-Some-clause-is_tree : goal.returns-in_ok-stamp-in-Some-clause-is_tree
returns-in_ok-stamp-in-Some-clause-is_tree g c = tree_told _ c.args.self.now.edits c.args.self.now.below_root c.stamp.ensures.is_tree
