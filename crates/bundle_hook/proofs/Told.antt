-- What is known of the tree inside and of its indexes, said of the expanded files.
use Rattle.std.proofs.Common.{◌≡◌, ◌∙◌, refl, sym, ap, subst, ℕ, ◌+◌, ◌≤◌, List, [], ◌∷◌, ◌++◌, length, take, drop, Bool, true, false, ◌||◌, Option, Some, None, IfSome, IsTrue, is_some, arith, if◌then◌else◌, append_assoc, length-append}
use Rattle.std.proofs.lemmas.List.{take-append-drop}
use Rattle.std.specs.Option.{ForSome}
use Rattle.std.specs.List.{list_any}
use Rattle.base_types.specs.Path.{Path}
use Rattle.tree_files.specs.Edits.{is_within}
use Rattle.tree_files.specs.Files.{Files, IsTree, IsDirAt, IsFileAt, IsListing, IsRead, node_at, is_dir, is_file, stamp_of, bytes_of}
use Rattle.tree_files.specs.declared.tree.Node.{Node}
use Rattle.tree_files.specs.declared.tree.Node.TheVariants.{File, Dir}
use Rattle.tree_files.specs.declared.tree.Stamp.{Stamp}
use Rattle.tree_files.specs.declared.tree.Stamp.TheVariants as stamp
use Rattle.tree_overlay.specs.Fates.{is_same}
use Rattle.tree_overlay.proofs.FateLemmas.{same_is}
use Rattle.bundle_hook.specs.declared.bundle.Item.{Item}
use Rattle.bundle_hook.specs.declared.bundle.Index.{Index}
use Rattle.bundle_hook.specs.declared.bundle.Packed.{Packed}
use Rattle.bundle_hook.specs.Spelling.{front_of}
use Rattle.bundle_hook.specs.Bundle.{StandIn, entries_of, data_of, items_from, index_of}
use Rattle.bundle_hook.proofs.Listed.{stand_in}
use Rattle.bundle_hook.specs.declared.kept.Kept.{Kept}
use Rattle.bundle_hook.specs.declared.place.Found.{Found}
use Rattle.bundle_hook.specs.declared.place.Place.TheVariants.{Inside}
use Rattle.bundle_hook.specs.Expand.{expand, expand_told}
use Rattle.bundle_hook.specs.Inside.{node_among, node_inside}
use Rattle.bundle_hook.specs.Indexes.{index_at}
use Rattle.bundle_hook.specs.Places.{Leads}
use Rattle.bundle_hook.specs.Things.{Thing, Nothing, Folder, AFile, AreNames, ReadsThing, thing_among, thing_at, thing_by, stamp_of_thing}
use Rattle.bundle_hook.proofs.Expanding.{node_at-inside}
use Rattle.bundle_hook.proofs.Trees.{Stored, stored, child_stays, none_above, within_self}

-- ---- an index and the files that it lists

stamp_by : (s w : Bool) (item : Item) (file : Packed) (thing : Thing) (n : Option Node) → item.size ≡ length file.bytes → stamp_of_thing thing ≡ stamp_of n
    → stamp_of_thing (if s then AFile item else (if w then Folder else thing)) ≡ stamp_of (if s then Some (File file.bytes) else (if w then Some (Dir 0) else n))
stamp_by true w item file thing n size more = ap stamp.File size
stamp_by false true item file thing n size more = refl
stamp_by false false item file thing n size more = more

stamp_among : (files : List Packed) (start : ℕ) (p : Path) → stamp_of_thing (thing_among (items_from start (entries_of files)) p) ≡ stamp_of (node_among files p)
stamp_among [] start p = refl
stamp_among (file ∷ files) start p =
    stamp_by (is_same file.path p) (is_within p file.path) (record { path = file.path; at = start; size = length file.bytes }) file (thing_among (items_from (start + length file.bytes) (entries_of files)) p) (node_among files p) refl
    (stamp_among files (start + length file.bytes) p)

stamp_inside : (files : List Packed) (start : ℕ) (p : Path) → stamp_of_thing (thing_at (items_from start (entries_of files)) p) ≡ stamp_of (node_inside files p)
stamp_inside files start [] = refl
stamp_inside files start (x ∷ p) = stamp_among files start (x ∷ p)

-- ---- in a bundle

module _ (f : Files) (t : IsTree f) (kept : List Kept) (found : Found) (p : Path) (leads : Leads f kept p (Inside found)) where
  abbrev front : Path
  front = take found.parts p

  abbrev behind : Path
  behind = drop found.parts p

  abbrev listed : List Packed
  listed = leads.1.0

  whole : front ++ behind ≡ p
  whole = take-append-drop found.parts p

  node_here : node_at (expand f) p ≡ node_inside listed behind
  node_here = ap (node_at (expand f)) (sym whole) ∙ node_at-inside f t front behind listed leads.1.1

  pub stamp_here : stamp_of_thing (thing_by (index_at kept found.at) behind) ≡ stamp_of (node_at (expand f) p)
  stamp_here =
      ap (λ i. stamp_of_thing (thing_by i behind)) leads.1.2 ∙ stamp_inside listed (length (front_of (entries_of listed))) behind ∙ ap stamp_of (sym node_here)

pub stamp_inside_told : (told : Option Files) (kept : List Kept) (found : Found) (p : Path) (s : Stamp) → IfSome told IsTree → IfSome told (λ f. Leads f kept p (Inside found)) → s ≡ stamp_of_thing (thing_by (index_at kept found.at) (drop found.parts p))
    → IfSome (expand_told told) (λ g. s ≡ stamp_of (node_at g p))
stamp_inside_told None kept found p s t leads is = tt
stamp_inside_told (Some f) kept found p s t leads is = is ∙ stamp_here f t kept found p leads

-- ---- names in a bundle

names_by : (s w rest : Bool) (file : Packed) (n : Option Node) → (s ≡ true → w ≡ true) → rest ≡ is_some n → w || rest ≡ is_some (if s then Some (File file.bytes) else (if w then Some (Dir 0) else n))
names_by true w rest file n both more = ap (λ b. b || rest) (both refl)
names_by false true rest file n both more = refl
names_by false false rest file n both more = more

names_among : (files : List Packed) (start : ℕ) (p : Path) → list_any (λ (item : Item). is_within p item.path) (items_from start (entries_of files)) ≡ is_some (node_among files p)
names_among [] start p = refl
names_among (file ∷ files) start p =
    names_by (is_same file.path p) (is_within p file.path) _ file (node_among files p) (λ s. ap (is_within p) (sym (same_is p file.path s)) ∙ within_self p) (names_among files (start + length file.bytes) p)

node_named : (files : List Packed) (p : Path) (name : List ℕ) → node_inside files (p ++ name ∷ []) ≡ node_among files (p ++ name ∷ [])
node_named files [] name = refl
node_named files (x ∷ p) name = refl

folder_by : (thing : Thing) (n : Option Node) → stamp_of_thing thing ≡ stamp_of n → is_dir n ≡ true → thing ≡ Folder
folder_by Nothing None e d = cc
folder_by Nothing (Some (File bytes)) e d = cc
folder_by Nothing (Some (Dir time)) e d = cc
folder_by Folder n e d = refl
folder_by (AFile item) None e d = cc
folder_by (AFile item) (Some (File bytes)) e d = cc
folder_by (AFile item) (Some (Dir time)) e d = cc

abbrev pub NamesBy : Option Index → Path → List (List ℕ) → Type 0
NamesBy index path names = IfSome index (λ i. thing_at i.items path ≡ Folder → AreNames i.items path names)

listing_here : (f : Files) → IsTree f → (kept : List Kept) (found : Found) (p : Path) → Leads f kept p (Inside found) → (names : List (List ℕ)) → NamesBy (index_at kept found.at) (drop found.parts p) names → IsDirAt (expand f) p → IsListing (expand f) p names
listing_here f t kept found p leads names by dir =
    let q : Path = take found.parts p in
    let rest : Path = drop found.parts p in
    let files : List Packed = leads.1.0 in
    let start : ℕ = length (front_of (entries_of files)) in
    let whole : q ++ rest ≡ p = take-append-drop found.parts p in
    let here : node_at (expand f) p ≡ node_inside files rest = ap (node_at (expand f)) (sym whole) ∙ node_at-inside f t q rest files leads.1.1 in
    let folder : thing_at (items_from start (entries_of files)) rest ≡ Folder = folder_by (thing_at (items_from start (entries_of files)) rest) (node_inside files rest) (stamp_inside files start rest) (ap is_dir (sym here) ∙ dir) in
    let told : NamesBy (Some (index_of (entries_of files))) rest names = subst (λ i. NamesBy i rest names) leads.1.2 by in
    let are : AreNames (items_from start (entries_of files)) rest names = told folder in
    record {
      ordered = are.ordered;
      exact = λ name. are.exact name ∙ names_among files start (rest ++ name ∷ []) ∙ ap is_some (sym (node_named files rest name))
          ∙ ap is_some (sym (node_at-inside f t q (rest ++ name ∷ []) files leads.1.1)) ∙ ap (λ r. is_some (node_at (expand f) r)) (sym (append_assoc q rest (name ∷ [])) ∙ ap (λ r. r ++ name ∷ []) whole);
    }

pub list_inside_told : (told : Option Files) (kept : List Kept) (found : Found) (p : Path) (names : List (List ℕ)) → IfSome told IsTree → IfSome told (λ f. Leads f kept p (Inside found)) → ForSome (expand_told told) (λ g. IsDirAt g p) → NamesBy (index_at kept found.at) (drop found.parts p) names
    → IfSome (expand_told told) (λ g. IsListing g p names)
list_inside_told None kept found p names t leads dir by = tt
list_inside_told (Some f) kept found p names t leads dir by = listing_here f t kept found p leads names by (dir (expand f) refl)

-- ---- outside of all bundles

pub test_outside : (test : Option Node → Bool) (told after : Option Files) (p : Path) → after ≡ told → IfSome told (λ f. node_at (expand f) p ≡ node_at f p) → ForSome (expand_told told) (λ g. IsTrue (test (node_at g p)))
    → ForSome after (λ f. IsTrue (test (node_at f p)))
test_outside test told after p same leads asked = subst (λ o. ForSome o (λ f. IsTrue (test (node_at f p)))) (sym same) (inner told leads asked)
  where
    inner : (o : Option Files) → IfSome o (λ f. node_at (expand f) p ≡ node_at f p) → ForSome (expand_told o) (λ g. IsTrue (test (node_at g p))) → ForSome o (λ f. IsTrue (test (node_at f p)))
    inner None l a = λ f e. cc
    inner (Some g) l a = λ f e.
        let here : IsTrue (test (node_at g p)) = subst (λ n. IsTrue (test n)) l (a (expand g) refl) in
        let equal : g ≡ f = cc in
        subst (λ h. IsTrue (test (node_at h p))) equal here

pub list_outside_told : (told after : Option Files) (p : Path) (names : List (List ℕ)) → IfSome told IsTree → after ≡ told → IfSome told (λ f. node_at (expand f) p ≡ node_at f p) → ForSome (expand_told told) (λ g. IsDirAt g p)
    → IfSome after (λ f. IsListing f p names) → IfSome (expand_told told) (λ g. IsListing g p names)
list_outside_told None after p names t same leads asked there = tt
list_outside_told (Some f) after p names t same leads asked there =
    let here : IsListing f p names = subst (λ o. IfSome o (λ f. IsListing f p names)) same there in
    let dir : IsDirAt f p = subst (λ n. IsTrue (is_dir n)) leads (asked (expand f) refl) in
    record {
      ordered = here.ordered;
      exact = λ name. here.exact name ∙ sym (child_stays f t p name (none_above f t p dir));
    }

pub read_outside_told : (P : List ℕ → Type 0) (told after : Option Files) (p : Path) → after ≡ told → IfSome told (λ f. node_at (expand f) p ≡ node_at f p) → IfSome after (λ f. P (bytes_of (node_at f p))) → IfSome (expand_told told) (λ g. P (bytes_of (node_at g p)))
read_outside_told P None after p same leads read = tt
read_outside_told P (Some f) after p same leads read =
    let here : P (bytes_of (node_at f p)) = subst (λ o. IfSome o (λ f. P (bytes_of (node_at f p)))) same read in
    subst (λ n. P (bytes_of n)) (sym leads) here

-- ---- reading in a bundle

record Kept-file (items : List Item) (p : Path) (bundle bytes : List ℕ) : Type 0 where
  item : Item
  is : thing_among items p ≡ AFile item
  stands : take item.size (drop item.at bundle) ≡ bytes
  ends : item.at + item.size ≤ length bundle

file_by : (s w : Bool) (file : Packed) (start : ℕ) (items : List Item) (n : Option Node) (bundle bytes : List ℕ) (p : Path) → is_same file.path p ≡ s → is_within p file.path ≡ w
    → take (length file.bytes) (drop start bundle) ≡ file.bytes → start + length file.bytes ≤ length bundle → (n ≡ Some (File bytes) → Kept-file items p bundle bytes)
    → (if s then Some (File file.bytes) else (if w then Some (Dir 0) else n)) ≡ Some (File bytes) → Kept-file (record { path = file.path; at = start; size = length file.bytes } ∷ items) p bundle bytes
file_by true w file start items n bundle bytes p s is stands ends more e =
    let item : Item = record { path = file.path; at = start; size = length file.bytes } in
    record {
      item = item;
      is = ap (λ b. if b then AFile item else (if is_within p file.path then Folder else thing_among items p)) s;
      stands = stands ∙ (let same : file.bytes ≡ bytes = cc in same);
      ends = ends;
    }
file_by false true file start items n bundle bytes p s is stands ends more e = cc
file_by false false file start items n bundle bytes p s is stands ends more e =
    let item : Item = record { path = file.path; at = start; size = length file.bytes } in
    let m = more e in
    record {
      item = m.item;
      is = ap (λ b. if b then AFile item else (if is_within p file.path then Folder else thing_among items p)) s ∙ ap (λ b. if b then Folder else thing_among items p) is ∙ m.is;
      stands = m.stands;
      ends = m.ends;
    }

file_thing : (files : List Packed) (start : ℕ) (p : Path) (bundle bytes : List ℕ) → StandIn bundle files (items_from start (entries_of files)) → start + length (data_of files) ≤ length bundle → node_among files p ≡ Some (File bytes)
    → Kept-file (items_from start (entries_of files)) p bundle bytes
file_thing [] start p bundle bytes stand ends e = cc
file_thing (file ∷ files) start p bundle bytes stand ends e =
    let l = length-append file.bytes (data_of files) in
    file_by (is_same file.path p) (is_within p file.path) file start (items_from (start + length file.bytes) (entries_of files)) (node_among files p) bundle bytes p refl refl stand.1 (omega (arith, ends, l))
    (file_thing files (start + length file.bytes) p bundle bytes stand.2 (omega (arith, ends, l))) e

is_that_file : (n : Option Node) → is_file n ≡ true → n ≡ Some (File (bytes_of n))
is_that_file None e = cc
is_that_file (Some (File bytes)) e = refl
is_that_file (Some (Dir time)) e = cc

read_here : (f : Files) → IsTree f → (kept : List Kept) (found : Found) (p : Path) → Leads f kept p (Inside found) → (at : ℕ) (old new : List ℕ) (n : ℕ) → IsFileAt (expand f) p
    → ReadsThing (bytes_of (node_at f (take found.parts p))) (thing_by (index_at kept found.at) (drop found.parts p)) at old new n → IsRead (bytes_of (node_at (expand f) p)) at old new n
read_here f t kept found p leads at old new n file reads =
    let q : Path = take found.parts p in
    let files : List Packed = leads.1.0 in
    let start : ℕ = length (front_of (entries_of files)) in
    let s : Stored q (node_at f q) files = stored q (node_at f q) files leads.1.1 in
    let bundle : List ℕ = bytes_of (node_at f q) in
    let stored_bytes : bundle ≡ s.bytes = ap bytes_of s.is in
    let whole : q ++ drop found.parts p ≡ p = take-append-drop found.parts p in
    let here : node_at (expand f) p ≡ node_inside files (drop found.parts p) = ap (node_at (expand f)) (sym whole) ∙ node_at-inside f t q (drop found.parts p) files leads.1.1 in
    let there : node_inside files (drop found.parts p) ≡ Some (File (bytes_of (node_at (expand f) p))) = sym here ∙ is_that_file (node_at (expand f) p) file in
    let stand : StandIn bundle files (items_from start (entries_of files)) = subst (λ b. StandIn b files (items_from start (entries_of files))) (sym stored_bytes) (stand_in files s.bytes s.bundle) in
    let ends : start + length (data_of files) ≤ length bundle =
    let l = ap length stored_bytes in let w = ap length s.bundle.whole in let a = length-append (front_of (entries_of files)) (data_of files) in omega (arith, l, w, a) in
    by (drop found.parts p) there start stand ends (ap (λ i. thing_by i (drop found.parts p)) leads.1.2)
  where
    by : (rest : Path) → node_inside leads.1.0 rest ≡ Some (File (bytes_of (node_at (expand f) p))) → (start : ℕ) → StandIn (bytes_of (node_at f (take found.parts p))) leads.1.0 (items_from start (entries_of leads.1.0))
        → start + length (data_of leads.1.0) ≤ length (bytes_of (node_at f (take found.parts p))) → thing_by (index_at kept found.at) (drop found.parts p) ≡ thing_at (items_from start (entries_of leads.1.0)) rest → IsRead (bytes_of (node_at (expand f) p)) at old new n
    by [] there start stand ends is = cc
    by (x ∷ rest) there start stand ends is =
        let k = file_thing leads.1.0 start (x ∷ rest) (bytes_of (node_at f (take found.parts p))) (bytes_of (node_at (expand f) p)) stand ends there in
        let r : ReadsThing (bytes_of (node_at f (take found.parts p))) (AFile k.item) at old new n = subst (λ th. ReadsThing (bytes_of (node_at f (take found.parts p))) th at old new n) (is ∙ k.is) reads in
        subst (λ b. IsRead b at old new n) k.stands (r k.ends leads.1.3)

pub read_inside_told : (told after : Option Files) (kept : List Kept) (found : Found) (p : Path) (at : ℕ) (old new : List ℕ) (n : ℕ) → IfSome told IsTree → after ≡ told → IfSome told (λ f. Leads f kept p (Inside found)) → ForSome (expand_told told) (λ g. IsFileAt g p)
    → IfSome after (λ f. ReadsThing (bytes_of (node_at f (take found.parts p))) (thing_by (index_at kept found.at) (drop found.parts p)) at old new n) → IfSome (expand_told told) (λ g. IsRead (bytes_of (node_at g p)) at old new n)
read_inside_told None after kept found p at old new n t same leads asked read = tt
read_inside_told (Some f) after kept found p at old new n t same leads asked read =
    read_here f t kept found p leads at old new n (asked (expand f) refl)
    (subst (λ o. IfSome o (λ f. ReadsThing (bytes_of (node_at f (take found.parts p))) (thing_by (index_at kept found.at) (drop found.parts p)) at old new n)) same read)

pub bundle_file_told : (told after : Option Files) (kept : List Kept) (found : Found) (p : Path) → after ≡ told → IfSome told (λ f. Leads f kept p (Inside found)) → ForSome after (λ f. IsFileAt f (take found.parts p))
bundle_file_told told after kept found p same leads = subst (λ o. ForSome o (λ f. IsFileAt f (take found.parts p))) (sym same) (inner told leads)
  where
    inner : (o : Option Files) → IfSome o (λ f. Leads f kept p (Inside found)) → ForSome o (λ f. IsFileAt f (take found.parts p))
    inner None l = λ f e. cc
    inner (Some g) l = λ f e.
        let s = stored (take found.parts p) (node_at g (take found.parts p)) l.1.0 l.1.1 in
        let here : IsFileAt g (take found.parts p) = ap is_file s.is in
        let equal : g ≡ f = cc in
        subst (λ h. IsFileAt h (take found.parts p)) equal here
