-- What is told of what stands at a path.
use Rattle.std.proofs.Common.{◌≡◌, ◌∙◌, refl, ap, ℕ, ◌+◌, ◌-◌, ◌<◌, ◌≤◌, Bool, true, false, List, [], ◌∷◌, ◌++◌, length, length-append, drop, Some, append-nil, arith, if◌then◌else◌}
use Rattle.std.specs.Prelude.{flat_map, nat_le, nat_lt}
use Rattle.std.specs.List.{list_all}
use Rattle.std.proofs.lemmas.Bool.{lt-ltb, le-ltb, le-leb, lt-leb}
use Rattle.base_types.specs.Path.{Path, IsPath, is_part, joined}
use Rattle.tree_files.specs.Files.{Files, IsTree, IsDirAt, IsFileAt, node_at, names_in, bytes_of}
use Rattle.tree_files.specs.declared.tree.Node.{Node}
use Rattle.tree_files.specs.declared.tree.Node.TheVariants.{File, Dir}
use Rattle.tree_walk.specs.Below.{named, all_within, most_parts}
use Rattle.tree_walk.proofs.Splitting.{nothing, within_longer, all_within-split, all_within-file, all_within-silent}
use Rattle.tree_walk.proofs.Walking.{dir_node, file_node}
use Rattle.import_report.specs.Lines.{too_deep}
use Rattle.import_report.specs.declared.line.Line.{Line}
use Rattle.import_report.specs.Sources.{source_of}
use Rattle.import_report.specs.Reports.{source_lines, deep_lines, lines_of, entered}

-- ---- what a path names is told

named_is : {X : Type 0} (tell : Path × Node → List X) (thing : Path × Node) → IsPath thing.0 → named tell thing ≡ tell thing
named_is tell thing p = ap (λ (b : Bool). if b then tell thing else []) p

named_none : {X : Type 0} (tell : Path × Node → List X) (thing : Path × Node) → tell thing ≡ [] → named tell thing ≡ []
named_none {X} tell thing none = by (list_all is_part thing.0)
  where
    by : (b : Bool) → (if b then tell thing else []) ≡ []
    by true = none
    by false = refl

-- ---- files

module _ (f : Files) (t : IsTree f) (at : Path) (parts : ℕ) (is : IsFileAt f at) where
  pub file_lines_at : (on : List (List ℕ)) → IsPath at → length at - parts ≤ 65 → all_within (lines_of parts f on) f at ≡ source_lines f on at (bytes_of (node_at f at)) (source_of (drop parts at))
  file_lines_at on p near =
      all_within-file (lines_of parts f on) f t at (bytes_of (node_at f at)) (file_node (node_at f at) is)
      ∙ named_is (lines_of parts f on) (at, File (bytes_of (node_at f at))) p
      ∙ ap (λ (b : Bool). if b then source_lines f on at (bytes_of (node_at f at)) (source_of (drop parts at)) else []) (le-leb (length at - parts) 65 near)

  pub file_folders_at : all_within (entered parts) f at ≡ []
  file_folders_at =
      all_within-file (entered parts) f t at (bytes_of (node_at f at)) (file_node (node_at f at) is)
      ∙ named_none (entered parts) (at, File (bytes_of (node_at f at))) refl

-- ---- what lies too deep to be looked at

either_none : {X : Type 0} (b : Bool) → ◌≡◌ {A = List X} (if b then [] else []) []
either_none true = refl
either_none false = refl

deep_none : (depth : ℕ) (at : Path) → 65 < depth → deep_lines depth at ≡ []
deep_none depth at far = ap (λ (b : Bool). if nat_lt most_parts depth then (if b then too_deep (joined at) ∷ [] else []) else []) (lt-leb depth 65 far) ∙ either_none (nat_lt most_parts depth)

far_lines : (parts : ℕ) (f : Files) (on : List (List ℕ)) (thing : Path × Node) → 65 < length thing.0 - parts → lines_of parts f on thing ≡ []
far_lines parts f on (at, File bytes) far = ap (λ (b : Bool). if b then source_lines f on at bytes (source_of (drop parts at)) else []) (lt-leb (length at - parts) 65 far)
far_lines parts f on (at, Dir time) far = deep_none (length at - parts) at far

far_folders : (parts : ℕ) (thing : Path × Node) → 64 < length thing.0 - parts → entered parts thing ≡ []
far_folders parts (at, File bytes) far = refl
far_folders parts (at, Dir time) far = ap (λ (b : Bool). if b then at ∷ [] else []) (lt-leb (length at - parts) 64 far)

-- ---- folders

module _ (f : Files) (t : IsTree f) (at : Path) (parts : ℕ) (is : IsDirAt f at) where
  -- what is told of the names in it
  abbrev inside : {X : Type 0} → (Path × Node → List X) → List X
  inside tell = flat_map (λ a. all_within tell f (at ++ a ∷ [])) (names_in f at)

  node : (time : ℕ) × (node_at f at ≡ Some (Dir time))
  node = dir_node (node_at f at) is

  -- nothing, where all that stands further down is silent
  inside_none : {X : Type 0} (tell : Path × Node → List X) → ((thing : Path × Node) → length at < length thing.0 → tell thing ≡ []) → inside tell ≡ []
  inside_none tell silent = nothing (λ a. all_within tell f (at ++ a ∷ [])) (names_in f at) below
    where
      below : (a : List ℕ) → all_within tell f (at ++ a ∷ []) ≡ []
      below a = all_within-silent tell f (at ++ a ∷ []) (λ thing w.
          let long = within_longer (at ++ a ∷ []) thing.0 w in
          let size = length-append at (a ∷ []) in
          silent thing (omega (arith, long, size)))

  -- a folder that lies one part too deep
  module _ (p : IsPath at) (deep : 64 < length at - parts) (near : length at - parts ≤ 65) where
    pub deep_lines_at : (on : List (List ℕ)) → all_within (lines_of parts f on) f at ≡ too_deep (joined at) ∷ []
    deep_lines_at on =
        all_within-split f t at (lines_of parts f on) (Dir node.0) node.1
        ∙ ap (λ (l : List Line). named (lines_of parts f on) (at, Dir node.0) ++ l) (inside_none (lines_of parts f on) (λ thing long. far_lines parts f on thing (omega (arith, long, deep))))
        ∙ append-nil (named (lines_of parts f on) (at, Dir node.0))
        ∙ named_is (lines_of parts f on) (at, Dir node.0) p
        ∙ ap (λ (b : Bool). if b then (if nat_le (length at - parts) 65 then too_deep (joined at) ∷ [] else []) else []) (lt-ltb 64 (length at - parts) deep)
        ∙ ap (λ (b : Bool). if b then too_deep (joined at) ∷ [] else []) (le-leb (length at - parts) 65 near)

    pub deep_folders_at : all_within (entered parts) f at ≡ []
    deep_folders_at =
        all_within-split f t at (entered parts) (Dir node.0) node.1
        ∙ ap (λ (l : List Path). named (entered parts) (at, Dir node.0) ++ l) (inside_none (entered parts) (λ thing long. far_folders parts thing (omega (arith, long, deep))))
        ∙ append-nil (named (entered parts) (at, Dir node.0))
        ∙ named_none (entered parts) (at, Dir node.0) (far_folders parts (at, Dir node.0) deep)

  -- one that is entered
  module _ (p : IsPath at) (low : length at - parts ≤ 64) where
    shallow : deep_lines (length at - parts) at ≡ []
    shallow = ap (λ (b : Bool). if b then (if nat_le (length at - parts) 65 then too_deep (joined at) ∷ [] else []) else []) (le-ltb 64 (length at - parts) low)

    pub dir_lines_at : (on : List (List ℕ)) → all_within (lines_of parts f on) f at ≡ inside (lines_of parts f on)
    dir_lines_at on =
        all_within-split f t at (lines_of parts f on) (Dir node.0) node.1
        ∙ ap (λ (l : List Line). l ++ inside (lines_of parts f on)) (named_none (lines_of parts f on) (at, Dir node.0) shallow)

    pub dir_folders_at : all_within (entered parts) f at ≡ at ∷ inside (entered parts)
    dir_folders_at =
        all_within-split f t at (entered parts) (Dir node.0) node.1
        ∙ ap (λ (l : List Path). l ++ inside (entered parts)) (named_is (entered parts) (at, Dir node.0) p ∙ ap (λ (b : Bool). if b then at ∷ [] else []) (le-leb (length at - parts) 64 low))
