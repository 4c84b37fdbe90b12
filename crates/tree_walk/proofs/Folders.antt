-- What a word names, from what stands at its path.
use Rattle.std.proofs.Common.{◌≡◌, ◌∙◌, refl, sym, ap, subst, ℕ, List, Option, Some, None, IfSome, Result, Ok, Err, IfOk}
use Rattle.base_types.specs.Path.{Path, Spells}
use Rattle.tree_files.specs.Files.{Files, node_at, stamp_of}
use Rattle.tree_files.specs.declared.tree.Node.{Node}
use Rattle.tree_files.specs.declared.tree.Node.TheVariants.{File, Dir}
use Rattle.tree_files.specs.declared.tree.Stamp.{Stamp}
use Rattle.tree_files.specs.declared.tree.Stamp.TheVariants as stamp
use Rattle.tree_files.specs.declared.tree.TreeFault.{TreeFault}
use Rattle.bundle_hook.specs.declared.bundle.Packed.{Packed}
use Rattle.tree_walk.specs.Below.{taken}
use Rattle.tree_walk.specs.Packing.{IsPacking, packing_at, packing_of}
use Rattle.tree_walk.specs.declared.pack.Packing.{Packing}
use Rattle.tree_walk.specs.declared.pack.Packing.TheVariants as packing

-- what was taken is packed
pub packed_dir : (o : Option Files) (dir : Path) (files : Option (List Packed)) (it : Packing) → it ≡ packing_of files → IfSome o (λ f. files ≡ taken f dir) → IfSome o (λ f. it ≡ packing_of (taken f dir))
packed_dir None dir files it is told = tt
packed_dir (Some f) dir files it is told = is ∙ ap packing_of told

dir_packing : (f : Files) (dir : Path) (n : Option Node) (time : ℕ) → stamp.Dir time ≡ stamp_of n → packing_of (taken f dir) ≡ packing_at f dir n
dir_packing f dir None time e = cc
dir_packing f dir (Some (Dir t)) time e = refl
dir_packing f dir (Some (File bytes)) time e = cc

-- a folder stands there
pub at_dir : (o : Option Files) (dir : Path) (time : ℕ) (r : Result Packing TreeFault) → IfSome o (λ f. stamp.Dir time ≡ stamp_of (node_at f dir)) → IfSome o (λ f. IfOk r (λ it. it ≡ packing_of (taken f dir)))
    → IfSome o (λ f. IfOk r (λ it. it ≡ packing_at f dir (node_at f dir)))
at_dir None dir time r is told = tt
at_dir (Some f) dir time (Ok it) is told = told ∙ dir_packing f dir (node_at f dir) time is
at_dir (Some f) dir time (Err e) is told = tt

no_packing : (f : Files) (dir : Path) (n : Option Node) (s : Stamp) → ((time : ℕ) → s ≡ stamp.Dir time → ⊥) → s ≡ stamp_of n → packing.Missing ≡ packing_at f dir n
no_packing f dir None s none is = refl
no_packing f dir (Some (Dir t)) s none is = absurd (none t is)
no_packing f dir (Some (File bytes)) s none is = refl

-- none stands there
pub at_none : (o : Option Files) (dir : Path) (s : Stamp) → ((time : ℕ) → s ≡ stamp.Dir time → ⊥) → IfSome o (λ f. s ≡ stamp_of (node_at f dir)) → IfSome o (λ f. packing.Missing ≡ packing_at f dir (node_at f dir))
at_none None dir s none is = tt
at_none (Some f) dir s none is = no_packing f dir (node_at f dir) s none is

-- the word spells the path
pub packed_at : (o : Option Files) (word : List ℕ) (dir : Path) (r : Result Packing TreeFault) → Spells word dir → IfSome o (λ f. IfOk r (λ it. it ≡ packing_at f dir (node_at f dir))) → IfSome o (λ f. IfOk r (IsPacking f word))
packed_at None word dir r s h = tt
packed_at (Some f) word dir (Ok it) s h = subst (λ (x : Packing). IsPacking f word x) (sym h) (IsPacking.at_path dir s)
packed_at (Some f) word dir (Err e) s h = tt

-- the word spells none
pub packed_not : (o : Option Files) (word : List ℕ) → ((path : Path) → Spells word path → ⊥) → IfSome o (λ f. IsPacking f word packing.Missing)
packed_not None word never = tt
packed_not (Some f) word never = IsPacking.no_path never
