-- Looks into the tree, one after another.
use Rattle.std.proofs.Common.{◌≡◌, refl, sym, ap, ◌∙◌, subst, Option, None, Some, Bool, List, [], ◌∷◌, ℕ, zero, suc, ◌+◌, drop, slice_get, add-one}
use Rattle.std.specs.Option.{IfSome}
use Rattle.base_types.specs.Path.{Path}
use Rattle.spec_core.specs.Names.{tail_of}
use Rattle.py_value.specs.declared.value.Value.{Value}
use Rattle.tree_files.specs.Files.{Files, node_at, stamp_of, has_name, IsListing}
use Rattle.path_finder.specs.Entries.{entry_path}
use Rattle.path_finder.specs.Find.{with_suffix, answer}
use Rattle.path_finder.specs.Steps.{Search, Onward, Reads, here, stamped_at, listed_at, Ends, Asks, Lists, Keeps, keeps, probes, enters, searches}
use Rattle.path_finder.specs.Looking.{onward}
use Rattle.path_finder.specs.declared.words.Probe.{Probe}

pub reads_same : (files : Option Files) (a b : Search) → a ≡ b → Reads files a b
reads_same files a b e = subst (λ s. Reads files a s) e (here a)

pub asks_same : (dir asked : Path) (part name : List ℕ) (next : Option Probe → Search) → asked ≡ dir → part ≡ name → Asks dir name next ≡ Asks asked part next
asks_same dir asked part name next d p = ap (λ x. Asks x name next) (sym d) ∙ ap (λ x. Asks asked x next) (sym p)

-- a directory is listed, and its listing is to be kept
pub lists_named : (files : Option Files) (name : List ℕ) (dir kept : Path) (time : ℕ) (portions : List (List ℕ)) (go : Onward) (names : List (List ℕ)) (part file_part : List ℕ) (bare file : Bool)
    → IfSome files (λ f. IsListing f dir names) → kept ≡ dir → part ≡ tail_of name → file_part ≡ with_suffix part → bare ≡ has_name names part → file ≡ has_name names file_part
    → Reads files (Lists dir (keeps name dir time portions go)) (Keeps kept (record { time = time; names = names }) (probes name dir bare file portions go))
lists_named files name dir kept time portions go names part file_part bare file told same_dir same_part same_file has has_file =
    listed_at dir names (keeps name dir time portions go) _ told (reads_same files _ _ (rw (same_dir, has, has_file, same_file, same_part) refl))

-- ---- where the search stands among the entries

pub onward-start : (name : List ℕ) (path : List Value) → onward name 0 path ≡ searches name path
unfolding onward
onward-start name path = refl

drop_end : (path : List Value) (at : ℕ) → slice_get path at ≡ None → drop at path ≡ []
drop_end [] zero e = refl
drop_end [] (suc at) e = refl
drop_end (x ∷ path) zero e = cc
drop_end (x ∷ path) (suc at) e = drop_end path at e

drop_next : (path : List Value) (at : ℕ) (entry : Value) → slice_get path at ≡ Some entry → drop at path ≡ entry ∷ drop (suc at) path
drop_next [] zero entry e = cc
drop_next [] (suc at) entry e = cc
drop_next (x ∷ path) zero entry e = let same : x ≡ entry = cc in ap (λ y. y ∷ path) same
drop_next (x ∷ path) (suc at) entry e = drop_next path at entry e

pub onward-end : (name : List ℕ) (at : ℕ) (path : List Value) (portions : List (List ℕ)) → slice_get path at ≡ None → onward name at path portions ≡ Ends (answer name [] portions)
unfolding onward
onward-end name at path portions e = ap (λ p. searches name p portions) (drop_end path at e)

pub onward-next : (name : List ℕ) (at : ℕ) (path : List Value) (portions : List (List ℕ)) (entry : Value) → slice_get path at ≡ Some entry
    → onward name at path portions ≡ enters name (entry_path entry) portions (onward name (at + 1) path)
unfolding onward
onward-next name at path portions entry e = rw add-one (ap (λ p. searches name p portions) (drop_next path at entry e))

-- ---- a test of what stands at a path
