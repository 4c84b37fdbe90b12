-- The steps of a walk.
use Rattle.std.proofs.Common.{◌≡◌, ◌∙◌, refl, sym, ap, subst, ℕ, ◌+◌, ◌-◌, ◌<◌, ◌≤◌, List, [], ◌∷◌, ◌++◌, length, drop, get_or, Bool, true, false, Option, Some, None, IfSome, Result, Ok, Err, IfOk, IsTrue, inl, inr, append_assoc, append-nil, arith, if◌then◌else◌, ltb}
use Rattle.std.specs.Prelude.{◌≢◌, ◌⊎◌, nat_lt, nat_le, sum_by, slice_get}
use Rattle.std.specs.List.{list_all, flat_map}
use Rattle.std.specs.Option.{ForSome, option_copied}
use Rattle.std.proofs.lemmas.Bool.{lt-ltb, le-ltb, le-leb, lt-leb}
use Rattle.std.proofs.lemmas.List.{drop_more}
use Rattle.std.proofs.lemmas.List.Sums.{sum_by-append, sum_by-cons}
use Rattle.std.proofs.lemmas.Option.{slice_get_within, get_or_from_slice_get, slice_get_cases}
use Rattle.std.proofs.Math.ListN.{drop_of_length-le}
use Rattle.base_types.specs.Path.{Path, IsPath, is_part}
use Rattle.tree_files.specs.Files.{Files, IsTree, IsDirAt, IsFileAt, IsListing, is_dir, is_file, node_at, names_in, stamp_of, bytes_of}
use Rattle.tree_files.specs.declared.tree.Node.{Node}
use Rattle.tree_files.specs.declared.tree.Node.TheVariants.{File, Dir}
use Rattle.tree_files.specs.declared.tree.Stamp.TheVariants as stamp
use Rattle.tree_files.specs.declared.tree.TreeFault.{TreeFault}
use Rattle.tree_files.proofs.Listings.{listing_told}
use Rattle.bundle_hook.specs.declared.bundle.Packed.{Packed}
use Rattle.tree_walk.specs.Below.{named, all_within, file_in, deep_in, files_below, deep_below, bytes_in, most_bytes, most_parts, if_few, taken}
use Rattle.tree_walk.specs.Names.{child_of}
use Rattle.tree_walk.specs.Due.{of_folder, due, Goes, Stops, Takes, TakesAt, TakesFolder, IsUnderWay}
use Rattle.tree_walk.specs.declared.pile.Folder.{Folder}
use Rattle.tree_walk.specs.declared.pile.Walk.{Walk}
use Rattle.tree_walk.proofs.Splitting.{all_within-split, all_within-absent, all_within-file, all_within-no_part}

-- ---- piles

-- the folder that was put last comes first
due_push : {X : Type 0} (tell : Path × Node → List X) (f : Files) (pile : List Folder) (folder : Folder) → due tell f (pile ++ folder ∷ []) ≡ of_folder tell f folder ++ due tell f pile
due_push tell f [] folder = sym (append-nil (of_folder tell f folder))
due_push {X} tell f (g ∷ pile) folder = ap (λ (l : List X). l ++ of_folder tell f g) (due_push tell f pile folder) ∙ append_assoc (of_folder tell f folder) (due tell f pile) (of_folder tell f g)

-- ---- single things

pub dir_node : (n : Option Node) → IsTrue (is_dir n) → (time : ℕ) × (n ≡ Some (Dir time))
dir_node None h = cc
dir_node (Some (Dir time)) h = (time, refl)
dir_node (Some (File bytes)) h = cc

pub file_node : (n : Option Node) → IsTrue (is_file n) → n ≡ Some (File (bytes_of n))
file_node None h = cc
file_node (Some (Dir time)) h = cc
file_node (Some (File bytes)) h = refl

no_file_told : (parts : ℕ) (path : Path) (time : ℕ) → named (file_in parts) (path, Dir time) ≡ []
no_file_told parts path time = by (list_all is_part path)
  where
    by : (b : Bool) → (if b then file_in parts (path, Dir time) else []) ≡ []
    by true = refl
    by false = refl

no_deep_told : (parts : ℕ) (path : Path) (time : ℕ) → length path - parts ≤ most_parts → named (deep_in parts) (path, Dir time) ≡ []
no_deep_told parts path time low = by (list_all is_part path)
  where
    shallow : deep_in parts (path, Dir time) ≡ []
    shallow = ap (λ (b : Bool). if b then path ∷ [] else []) (le-ltb most_parts (length path - parts) low)

    by : (b : Bool) → (if b then deep_in parts (path, Dir time) else []) ≡ []
    by true = shallow
    by false = refl

no_deep_file : (parts : ℕ) (path : Path) (bytes : List ℕ) → named (deep_in parts) (path, File bytes) ≡ []
no_deep_file parts path bytes = by (list_all is_part path)
  where
    by : (b : Bool) → (if b then deep_in parts (path, File bytes) else []) ≡ []
    by true = refl
    by false = refl

-- ---- folders

-- a folder that lies too deep is told
pub deep_stops : (o : Option Files) (dir : Path) (old new : Walk) → ForSome o (λ f. IsDirAt f dir) → ForSome o IsTree → IsPath dir → most_parts < length dir - old.parts → IfSome o (λ f. TakesAt f dir old new false)
deep_stops None dir old new d t p deep = tt
deep_stops (Some f) dir old new d t p deep = inl (λ empty. not_empty (sym told ∙ empty))
  where
    node : (time : ℕ) × (node_at f dir ≡ Some (Dir time))
    node = dir_node (node_at f dir) (d f refl)

    rest : List Path
    rest = flat_map (λ a. all_within (deep_in old.parts) f (dir ++ a ∷ [])) (names_in f dir)

    first : named (deep_in old.parts) (dir, Dir node.0) ≡ dir ∷ []
    first = ap (λ (b : Bool). if b then deep_in old.parts (dir, Dir node.0) else []) p ∙ ap (λ (b : Bool). if b then dir ∷ [] else []) (lt-ltb most_parts (length dir - old.parts) deep)

    told : all_within (deep_in old.parts) f dir ≡ dir ∷ rest
    told = all_within-split f (t f refl) dir (deep_in old.parts) (Dir node.0) node.1 ∙ ap (λ (l : List Path). l ++ rest) first

    not_empty : dir ∷ rest ≡ [] → ⊥
    not_empty e = cc

-- a folder was entered
pub entered : (o : Option Files) (dir : Path) (old : Walk) (names : List (List ℕ)) (pile : List Folder) → ForSome o (λ f. IsDirAt f dir) → ForSome o IsTree → length dir - old.parts ≤ most_parts
    → IfSome o (λ f. IsListing f dir names) → pile ≡ old.pile ++ record { dir = dir; names = names; at = 0 } ∷ []
    → IfSome o (λ f. TakesAt f dir old (record { parts = old.parts; pile = pile; files = old.files; room = old.room }) true)
entered None dir old names pile d t low l is = tt
entered (Some f) dir old names pile d t low l is = record {
  parts = refl;
  files = ap (λ (x : List Packed). old.files ++ x) (put (file_in old.parts) (no_file_told old.parts dir node.0));
  deep = put (deep_in old.parts) (no_deep_told old.parts dir node.0 low);
  room = refl;
}
  where
    node : (time : ℕ) × (node_at f dir ≡ Some (Dir time))
    node = dir_node (node_at f dir) (d f refl)

    put : {X : Type 0} (tell : Path × Node → List X) → named tell (dir, Dir node.0) ≡ [] → due tell f pile ≡ all_within tell f dir ++ due tell f old.pile
    put {X} tell none =
        ap (due tell f) is ∙ due_push tell f old.pile (record { dir = dir; names = names; at = 0 })
        ∙ ap (λ (ns : List (List ℕ)). flat_map (λ a. all_within tell f (dir ++ a ∷ [])) ns ++ due tell f old.pile) (listing_told f dir names l)
        ∙ ap (λ (x : List X). (x ++ flat_map (λ a. all_within tell f (dir ++ a ∷ [])) (names_in f dir)) ++ due tell f old.pile) (sym none)
        ∙ ap (λ (x : List X). x ++ due tell f old.pile) (sym (all_within-split f (t f refl) dir tell (Dir node.0) node.1))

-- ---- files

file_told : (f : Files) → IsTree f → (file : Path) (parts : ℕ) → IsFileAt f file → IsPath file → all_within (file_in parts) f file ≡ record { path = drop parts file; bytes = bytes_of (node_at f file) } ∷ []
file_told f t file parts is p =
    all_within-file (file_in parts) f t file (bytes_of (node_at f file)) (file_node (node_at f file) is)
    ∙ ap (λ (b : Bool). if b then file_in parts (file, File (bytes_of (node_at f file))) else []) p

one_size : (file : Packed) → bytes_in (file ∷ []) ≡ length file.bytes
one_size file = let s = sum_by-cons (λ (x : Packed). length x.bytes) file [] in omega (arith, s)

-- a file with more bytes than may still come
pub too_long_stops : (o : Option Files) (file : Path) (old new : Walk) → ForSome o (λ f. IsFileAt f file) → ForSome o IsTree → IsPath file → IfSome o (λ f. old.room < length (bytes_of (node_at f file))) → IfSome o (λ f. TakesAt f file old new false)
too_long_stops None file old new is t p long = tt
too_long_stops (Some f) file old new is t p long =
    let size : bytes_in (all_within (file_in old.parts) f file) ≡ length (bytes_of (node_at f file)) =
    ap bytes_in (file_told f (t f refl) file old.parts (is f refl) p) ∙ one_size (record { path = drop old.parts file; bytes = bytes_of (node_at f file) }) in
    inr (subst (λ (n : ℕ). old.room < n) (sym size) long)

-- a file was taken
pub file_taken : (o : Option Files) (file : Path) (old : Walk) (path : Path) (bytes : List ℕ) (files : List Packed) (size : ℕ) → size ≡ length bytes → ForSome o (λ f. IsFileAt f file) → ForSome o IsTree → IsPath file → path ≡ drop old.parts file
    → IfSome o (λ f. bytes ≡ bytes_of (node_at f file)) → length bytes ≤ old.room → files ≡ old.files ++ record { path = path; bytes = bytes } ∷ []
    → IfSome o (λ f. TakesAt f file old (record { parts = old.parts; pile = old.pile; files = files; room = old.room - size }) true)
file_taken None file old path bytes files size long is t p behind read fits put = tt
file_taken (Some f) file old path bytes files size long is t p behind read fits put = record {
  parts = refl;
  files = ap (λ (l : List Packed). l ++ due (file_in old.parts) f old.pile) put ∙ append_assoc old.files (record { path = path; bytes = bytes } ∷ []) (due (file_in old.parts) f old.pile)
      ∙ ap (λ (l : List Packed). old.files ++ (l ++ due (file_in old.parts) f old.pile)) (sym told);
  deep = ap (λ (l : List Path). l ++ due (deep_in old.parts) f old.pile) (sym deep);
  room = let s = sizes in omega (arith, s, fits, long);
}
  where
    told : all_within (file_in old.parts) f file ≡ record { path = path; bytes = bytes } ∷ []
    told = file_told f (t f refl) file old.parts (is f refl) p ∙ ap (λ (x : Path). record { path = x; bytes = bytes_of (node_at f file) } ∷ []) (sym behind) ∙ ap (λ (x : List ℕ). record { path = path; bytes = x } ∷ []) (sym read)

    deep : all_within (deep_in old.parts) f file ≡ []
    deep = all_within-file (deep_in old.parts) f (t f refl) file (bytes_of (node_at f file)) (file_node (node_at f file) (is f refl)) ∙ no_deep_file old.parts file (bytes_of (node_at f file))

    sizes : bytes_in files ≡ bytes_in old.files + length bytes
    sizes = ap bytes_in put ∙ sum_by-append (λ (x : Packed). length x.bytes) old.files (record { path = path; bytes = bytes } ∷ []) ∙ ap (λ (n : ℕ). bytes_in old.files + n) (one_size (record { path = path; bytes = bytes }))

-- ---- what stands at a path

pub absent_node : (n : Option Node) → stamp.Absent ≡ stamp_of n → n ≡ None
absent_node None e = refl
absent_node (Some (Dir time)) e = cc
absent_node (Some (File bytes)) e = cc

pub dir_stamped : (n : Option Node) (time : ℕ) → stamp.Dir time ≡ stamp_of n → IsTrue (is_dir n)
dir_stamped None time e = cc
dir_stamped (Some (Dir t)) time e = refl
dir_stamped (Some (File bytes)) time e = cc

pub file_stamped : (n : Option Node) (size : ℕ) → stamp.File size ≡ stamp_of n → IsTrue (is_file n)
file_stamped None size e = cc
file_stamped (Some (Dir t)) size e = cc
file_stamped (Some (File bytes)) size e = refl

-- where nothing stands, nothing is taken
nothing_taken : (f : Files) (first : List Packed) (folders : List Path) (walk : Walk) → first ≡ [] → folders ≡ [] → Goes f first folders walk walk
nothing_taken f first folders walk a b = record {
  parts = refl;
  files = ap (λ (l : List Packed). walk.files ++ (l ++ due (file_in walk.parts) f walk.pile)) (sym a);
  deep = ap (λ (l : List Path). l ++ due (deep_in walk.parts) f walk.pile) (sym b);
  room = refl;
}

pub absent_taken : (o : Option Files) (path : Path) (walk : Walk) → IfSome o IsTree → IfSome o (λ f. stamp.Absent ≡ stamp_of (node_at f path)) → IfSome o (λ f. TakesAt f path walk walk true)
absent_taken None path walk t is = tt
absent_taken (Some f) path walk t is =
    let gone : node_at f path ≡ None = absent_node (node_at f path) is in
    nothing_taken f _ _ walk (all_within-absent f t path (file_in walk.parts) gone) (all_within-absent f t path (deep_in walk.parts) gone)

pub dir_there : (o p : Option Files) (path : Path) (time : ℕ) → p ≡ o → IfSome o (λ f. stamp.Dir time ≡ stamp_of (node_at f path)) → ForSome p (λ f. IsDirAt f path)
dir_there o p path time same is f e = dir_stamped (node_at f path) time (subst (λ (x : Option Files). IfSome x (λ g. stamp.Dir time ≡ stamp_of (node_at g path))) (sym same ∙ e) is)

pub file_there : (o p : Option Files) (path : Path) (size : ℕ) → p ≡ o → IfSome o (λ f. stamp.File size ≡ stamp_of (node_at f path)) → ForSome p (λ f. IsFileAt f path)
file_there o p path size same is f e = file_stamped (node_at f path) size (subst (λ (x : Option Files). IfSome x (λ g. stamp.File size ≡ stamp_of (node_at g path))) (sym same ∙ e) is)

pub tree_there : (o p : Option Files) → p ≡ o → IfSome o IsTree → ForSome p IsTree
tree_there o p same t f e = subst (λ (x : Option Files). IfSome x IsTree) (sym same ∙ e) t

-- ---- names

-- the item at a place comes first of those from there on
pub next_item : {X : Type 0} (xs : List X) (i : ℕ) (x : X) → slice_get xs i ≡ Some x → drop i xs ≡ x ∷ drop (i + 1) xs
next_item xs i x is = drop_more xs i x (slice_get_within xs i x is) ∙ ap (λ y. y ∷ drop (i + 1) xs) (get_or_from_slice_get xs i x x is)

-- where there is no item, none is from there on
pub no_item : {X : Type 0} (xs : List X) (i : ℕ) → slice_get xs i ≡ None → drop i xs ≡ []
no_item {X} xs i is = elim (slice_get_cases xs i).1 [
  | inl w ↦ let bad : ◌≡◌ {A = Option X} None (Some w.0) = sym is ∙ w.2 in cc
  | inr w ↦ drop_of_length-le xs w.0
]

-- all names of a folder were taken
pub folder_over : (o : Option Files) (folder : Folder) (walk : Walk) → slice_get folder.names folder.at ≡ None → IfSome o (λ f. TakesFolder f folder walk walk true)
folder_over None folder walk is = tt
folder_over (Some f) folder walk is = nothing_taken f _ _ walk (none (file_in walk.parts)) (none (deep_in walk.parts))
  where
    none : {X : Type 0} (tell : Path × Node → List X) → of_folder tell f folder ≡ []
    none tell = ap (λ (ns : List (List ℕ)). flat_map (λ a. all_within tell f (folder.dir ++ a ∷ [])) ns) (no_item folder.names folder.at is)

module _ (f : Files) (dir : Path) (names : List (List ℕ)) (at : ℕ) (name : List ℕ) (old : Walk) (pile : List Folder) (is : slice_get names at ≡ Some name)
    (put : pile ≡ old.pile ++ record { dir = dir; names = names; at = at + 1 } ∷ []) where
  -- the first name, and then the rest
  first_of : {X : Type 0} (tell : Path × Node → List X) → flat_map (λ a. all_within tell f (dir ++ a ∷ [])) (drop at names) ≡ all_within tell f (dir ++ name ∷ []) ++ flat_map (λ a. all_within tell f (dir ++ a ∷ [])) (drop (at + 1) names)
  first_of tell = ap (λ (ns : List (List ℕ)). flat_map (λ a. all_within tell f (dir ++ a ∷ [])) ns) (next_item names at name is)

  due_mid : {X : Type 0} (tell : Path × Node → List X) → all_within tell f (dir ++ name ∷ []) ++ due tell f pile ≡ flat_map (λ a. all_within tell f (dir ++ a ∷ [])) (drop at names) ++ due tell f old.pile
  due_mid {X} tell =
      ap (λ (l : List Folder). all_within tell f (dir ++ name ∷ []) ++ due tell f l) put
      ∙ ap (λ (l : List X). all_within tell f (dir ++ name ∷ []) ++ l) (due_push tell f old.pile (record { dir = dir; names = names; at = at + 1 }))
      ∙ sym (append_assoc (all_within tell f (dir ++ name ∷ [])) (flat_map (λ a. all_within tell f (dir ++ a ∷ [])) (drop (at + 1) names)) (due tell f old.pile))
      ∙ ap (λ (l : List X). l ++ due tell f old.pile) (sym (first_of tell))

  longer : {X : Type 0} (a b c : List X) → c ≡ a ++ b → a ≢ [] → c ≢ []
  longer [] b c e some = λ none. some refl
  longer (x ∷ a) b c e some = λ none. let bad : x ∷ (a ++ b) ≡ [] = sym e ∙ none in cc

  name_taken : (new : Walk) (more : Bool) → TakesAt f (dir ++ name ∷ []) (record { parts = old.parts; pile = pile; files = old.files; room = old.room }) new more → TakesFolder f (record { dir = dir; names = names; at = at }) old new more
  name_taken new true goes = record {
    parts = goes.parts;
    files = goes.files ∙ ap (λ (l : List Packed). old.files ++ l) (due_mid (file_in old.parts));
    deep = goes.deep ∙ due_mid (deep_in old.parts);
    room = goes.room;
  }
  name_taken new false stops = elim stops [
    | inl some ↦ inl (longer _ _ _ (first_of (deep_in old.parts)) some)
    | inr long ↦
        let sizes : bytes_in (flat_map (λ a. all_within (file_in old.parts) f (dir ++ a ∷ [])) (drop at names)) ≡ bytes_in (all_within (file_in old.parts) f (dir ++ name ∷ [])) + bytes_in (flat_map (λ a. all_within (file_in old.parts) f (dir ++ a ∷ [])) (drop (at + 1) names)) =
        ap bytes_in (first_of (file_in old.parts)) ∙ sum_by-append (λ (x : Packed). length x.bytes) (all_within (file_in old.parts) f (dir ++ name ∷ [])) (flat_map (λ a. all_within (file_in old.parts) f (dir ++ a ∷ [])) (drop (at + 1) names)) in
        inr (omega (arith, long, sizes))
  ]

  name_passed : is_part name ≡ false → TakesFolder f (record { dir = dir; names = names; at = at }) old (record { parts = old.parts; pile = pile; files = old.files; room = old.room }) true
  name_passed none = name_taken (record { parts = old.parts; pile = pile; files = old.files; room = old.room }) true
      (nothing_taken f _ _ (record { parts = old.parts; pile = pile; files = old.files; room = old.room }) (all_within-no_part (file_in old.parts) f dir name none) (all_within-no_part (deep_in old.parts) f dir name none))

pub child_is : (dir path : Path) (name : List ℕ) → Some path ≡ child_of dir name → path ≡ dir ++ name ∷ []
child_is dir path name e = by (is_part name) e
  where
    by : (b : Bool) → Some path ≡ (if b then Some (dir ++ name ∷ []) else None) → path ≡ dir ++ name ∷ []
    by true e = cc
    by false e = cc

pub no_child : (dir : Path) (name : List ℕ) → None ≡ child_of dir name → is_part name ≡ false
no_child dir name e = by (is_part name) refl e
  where
    by : (b : Bool) → is_part name ≡ b → ◌≡◌ {A = Option Path} None (if b then Some (dir ++ name ∷ []) else None) → b ≡ false
    by true is e = cc
    by false is e = refl

-- what the next name stands for was taken
pub folder_step : (o : Option Files) (dir : Path) (names : List (List ℕ)) (at : ℕ) (name : List ℕ) (path : Path) (old : Walk) (pile : List Folder) (new : Walk) (more : Bool) → slice_get names at ≡ Some name
    → pile ≡ old.pile ++ record { dir = dir; names = names; at = at + 1 } ∷ [] → Some path ≡ child_of dir name
    → IfSome o (λ f. TakesAt f path (record { parts = old.parts; pile = pile; files = old.files; room = old.room }) new more)
    → IfSome o (λ f. TakesFolder f (record { dir = dir; names = names; at = at }) old new more)
folder_step None dir names at name path old pile new more is put child takes = tt
folder_step (Some f) dir names at name path old pile new more is put child takes =
    name_taken f dir names at name old pile is put new more
    (subst (λ (p : Path). TakesAt f p (record { parts = old.parts; pile = pile; files = old.files; room = old.room }) new more) (child_is dir path name child) takes)

pub folder_step_any : (o : Option Files) (dir : Path) (names : List (List ℕ)) (at : ℕ) (name : List ℕ) (path : Path) (old : Walk) (pile : List Folder) (new : Walk) (r : Result Bool TreeFault) → slice_get names at ≡ Some name
    → pile ≡ old.pile ++ record { dir = dir; names = names; at = at + 1 } ∷ [] → Some path ≡ child_of dir name
    → IfSome o (λ f. IfOk r (λ more. TakesAt f path (record { parts = old.parts; pile = pile; files = old.files; room = old.room }) new more))
    → IfSome o (λ f. IfOk r (λ more. TakesFolder f (record { dir = dir; names = names; at = at }) old new more))
folder_step_any None dir names at name path old pile new r is put child takes = tt
folder_step_any (Some f) dir names at name path old pile new (Ok more) is put child takes = folder_step (Some f) dir names at name path old pile new more is put child takes
folder_step_any (Some f) dir names at name path old pile new (Err e) is put child takes = tt

-- a name that is no part of a path was passed over
pub folder_pass : (o : Option Files) (dir : Path) (names : List (List ℕ)) (at : ℕ) (name : List ℕ) (old : Walk) (pile : List Folder) → slice_get names at ≡ Some name
    → pile ≡ old.pile ++ record { dir = dir; names = names; at = at + 1 } ∷ [] → None ≡ child_of dir name
    → IfSome o (λ f. TakesFolder f (record { dir = dir; names = names; at = at }) old (record { parts = old.parts; pile = pile; files = old.files; room = old.room }) true)
folder_pass None dir names at name old pile is put child = tt
folder_pass (Some f) dir names at name old pile is put child = name_passed f dir names at name old pile is put (no_child dir name child)

-- ---- the whole walk

few_by : (deep : List Path) (files : List Packed) → (deep ≢ []) ⊎ (most_bytes < bytes_in files) → None ≡ if_few deep files
few_by [] files stops = elim stops [
  | inl some ↦ absurd (some refl)
  | inr long ↦ ap (λ (b : Bool). if b then Some files else None) (sym (lt-leb (bytes_in files) most_bytes long))
]
few_by (path ∷ deep) files stops = refl

-- nothing is taken of the folder, since it is refused at once
pub refused_at_once : (o : Option Files) (dir : Path) (old new : Walk) → old.parts ≡ length dir → old.room ≡ most_bytes → IfSome o (λ f. TakesAt f dir old new false) → IfSome o (λ f. None ≡ taken f dir)
refused_at_once None dir old new p r stops = tt
refused_at_once (Some f) dir old new p r stops =
    few_by (deep_below f dir) (files_below f dir)
    (subst (λ (n : ℕ). (all_within (deep_in n) f dir ≢ []) ⊎ (most_bytes < bytes_in (all_within (file_in n) f dir))) p
    (subst (λ (n : ℕ). (all_within (deep_in old.parts) f dir ≢ []) ⊎ (n < bytes_in (all_within (file_in old.parts) f dir))) r stops))

-- the walk has begun
pub begun : (o : Option Files) (dir : Path) (old new : Walk) → old ≡ record { parts = length dir; pile = []; files = []; room = most_bytes } → IfSome o (λ f. TakesAt f dir old new true) → IfSome o (λ f. IsUnderWay f dir new)
begun None dir old new is goes = tt
begun (Some f) dir old new is goes = from (subst (λ (w : Walk). TakesAt f dir w new true) is goes)
  where
    from : TakesAt f dir (record { parts = length dir; pile = []; files = []; room = most_bytes }) new true → IsUnderWay f dir new
    from g = record {
      files = ap (λ (n : ℕ). new.files ++ due (file_in n) f new.pile) g.parts ∙ g.files ∙ append-nil (files_below f dir);
      deep = ap (λ (n : ℕ). due (deep_in n) f new.pile) g.parts ∙ g.deep ∙ append-nil (deep_below f dir);
      room = g.room;
    }

-- one folder more
pub under_way : (o : Option Files) (dir : Path) (before : Walk) (pile : List Folder) (folder : Folder) (new : Walk) → before.pile ≡ pile ++ folder ∷ [] → IfSome o (λ f. IsUnderWay f dir before)
    → IfSome o (λ f. TakesFolder f folder (record { parts = before.parts; pile = pile; files = before.files; room = before.room }) new true) → IfSome o (λ f. IsUnderWay f dir new)
under_way None dir before pile folder new is so_far goes = tt
under_way (Some f) dir before pile folder new is so_far goes = record {
  files = ap (λ (n : ℕ). new.files ++ due (file_in n) f new.pile) goes.parts ∙ goes.files
      ∙ ap (λ (l : List Packed). before.files ++ l) (sym (ap (due (file_in before.parts) f) is ∙ due_push (file_in before.parts) f pile folder)) ∙ so_far.files;
  deep = ap (λ (n : ℕ). due (deep_in n) f new.pile) goes.parts ∙ goes.deep
      ∙ sym (ap (due (deep_in before.parts) f) is ∙ due_push (deep_in before.parts) f pile folder) ∙ so_far.deep;
  room = goes.room ∙ so_far.room;
}

-- nothing is taken of the folder, since something below it is refused
pub refused_later : (o : Option Files) (dir : Path) (before : Walk) (pile : List Folder) (folder : Folder) (new : Walk) → before.pile ≡ pile ++ folder ∷ [] → IfSome o (λ f. IsUnderWay f dir before)
    → IfSome o (λ f. TakesFolder f folder (record { parts = before.parts; pile = pile; files = before.files; room = before.room }) new false) → IfSome o (λ f. None ≡ taken f dir)
refused_later None dir before pile folder new is so_far stops = tt
refused_later (Some f) dir before pile folder new is so_far stops = few_by (deep_below f dir) (files_below f dir) (elim stops [ inl some ↦ inl (longer _ _ _ deep some) | inr long ↦ inr (more long) ])
  where
    deep : deep_below f dir ≡ of_folder (deep_in before.parts) f folder ++ due (deep_in before.parts) f pile
    deep = sym so_far.deep ∙ ap (due (deep_in before.parts) f) is ∙ due_push (deep_in before.parts) f pile folder

    longer : (a b c : List Path) → c ≡ a ++ b → a ≢ [] → c ≢ []
    longer [] b c e some = λ none. some refl
    longer (x ∷ a) b c e some = λ none. let bad : x ∷ (a ++ b) ≡ [] = sym e ∙ none in cc

    more : before.room < bytes_in (of_folder (file_in before.parts) f folder) → most_bytes < bytes_in (files_below f dir)
    more long =
        let first : bytes_in (due (file_in before.parts) f before.pile) ≡ bytes_in (of_folder (file_in before.parts) f folder) + bytes_in (due (file_in before.parts) f pile) =
        ap (λ (l : List Folder). bytes_in (due (file_in before.parts) f l)) is ∙ ap bytes_in (due_push (file_in before.parts) f pile folder) ∙ sum_by-append (λ (x : Packed). length x.bytes) (of_folder (file_in before.parts) f folder) (due (file_in before.parts) f pile) in
        let all : bytes_in (files_below f dir) ≡ bytes_in before.files + bytes_in (due (file_in before.parts) f before.pile) =
        ap bytes_in (sym so_far.files) ∙ sum_by-append (λ (x : Packed). length x.bytes) before.files (due (file_in before.parts) f before.pile) in
        let room = so_far.room in
        omega (arith, first, all, room, long)

-- the walk is over
pub over : (o : Option Files) (dir : Path) (walk : Walk) → walk.pile ≡ [] → IfSome o (λ f. IsUnderWay f dir walk) → IfSome o (λ f. Some walk.files ≡ taken f dir)
over None dir walk is so_far = tt
over (Some f) dir walk is so_far =
    let files : walk.files ≡ files_below f dir = sym (append-nil walk.files) ∙ ap (λ (l : List Folder). walk.files ++ due (file_in walk.parts) f l) (sym is) ∙ so_far.files in
    let deep : deep_below f dir ≡ [] = sym so_far.deep ∙ ap (due (deep_in walk.parts) f) is in
    let room = so_far.room in
    let few : bytes_in walk.files ≤ most_bytes = omega (arith, room) in
    ap (λ (b : Bool). if b then Some walk.files else None) (sym (le-leb (bytes_in walk.files) most_bytes few)) ∙ ap (λ (l : List Packed). if_few [] l) files ∙ ap (λ (l : List Path). if_few l (files_below f dir)) (sym deep)
