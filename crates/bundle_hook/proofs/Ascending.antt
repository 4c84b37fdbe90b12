-- Files that ascend by their paths.
use Rattle.std.proofs.Common.{◌≡◌, ◌∙◌, refl, sym, ap, subst, ℕ, zero, suc, ◌+◌, ◌-◌, List, [], ◌∷◌, ◌++◌, length, drop, take, min, replicate, Bool, true, false, ◌&&◌, nat_eq, Option, Some, None, IfSome, if◌then◌else◌, arith, ltb, length-append, Bor}
use Rattle.std.specs.Prelude.{⊤}
use Rattle.std.proofs.lemmas.Bool.{and_from, and_parts, ltb-true, ltb-false}
use Rattle.std.proofs.lemmas.Cmp.{nat_list_cmp_total}
use Rattle.std.proofs.lemmas.List.{drop-drop, length-replicate, take_all}
use Rattle.std.proofs.Math.Seq.{take-append_seam}
use Rattle.std.specs.List.{AllByRecursion, slice_get}
use Rattle.std.specs.Option.{ForSome, option_copied}
use Rattle.std.specs.Ordering.{is_lt, is_eq, nat_cmp, ordering_then, ordering_reverse}
use Rattle.std.specs.declared.cmp.Ordering.{Ordering}
use Rattle.std.specs.declared.cmp.Ordering.TheVariants.{Less, Equal, Greater}
use Rattle.std.specs.Cmp.Lexicographic.{pointwise, slice_cmp, texts_ties, bytes_decides}
use Rattle.base_types.specs.Path.{Path, path_cmp}
use Rattle.tree_files.proofs.MemFilesLemmas.{path_total}
use Rattle.tree_files.specs.Edits.{is_within}
use Rattle.tree_overlay.specs.Fates.{is_same}
use Rattle.tree_overlay.proofs.FateLemmas.{same_is, same_by}
use Rattle.bundle_hook.specs.declared.bundle.Packed.{Packed}
use Rattle.bundle_hook.specs.declared.bundle.Item.{Item}
use Rattle.bundle_hook.specs.declared.bundle.Index.{Index}
use Rattle.bundle_hook.specs.Spelling.{most_front, Before, Ascend}
use Rattle.bundle_hook.specs.Bundle.{IsFrontOf, Reads, entries_of, items_from}
use Rattle.bundle_hook.specs.Things.{Thing, Nothing, Folder, AFile, thing_of, thing_among, AscendItems}

-- ---- paths

no_less : (p : Path) → path_cmp p p ≡ Less → ⊥
no_less p is = by (path_cmp p p) is (path_total.antisymm p p)
  where
    by : (o : Ordering) → o ≡ Less → o ≡ ordering_reverse o → ⊥
    by Less is e = cc e
    by Equal is e = cc is
    by Greater is e = cc is

-- a path is not below one that it is a prefix of
low_part : (x y : List ℕ) (later : Ordering) → pointwise nat_eq x y ≡ true → (later ≡ Less → ⊥) → ordering_then (slice_cmp nat_cmp y x) later ≡ Less → ⊥
low_part x y later same none is = by (slice_cmp nat_cmp x y) (sym (texts_ties x y) ∙ same) (nat_list_cmp_total.antisymm y x) is
  where
    by : (o : Ordering) → is_eq o ≡ true → slice_cmp nat_cmp y x ≡ ordering_reverse o → ordering_then (slice_cmp nat_cmp y x) later ≡ Less → ⊥
    by Less e back is = cc e
    by Equal e back is = none (subst (λ o. ordering_then o later ≡ Less) back is)
    by Greater e back is = cc e

within_low : (p q : Path) → is_within p q ≡ true → path_cmp q p ≡ Less → ⊥
within_low [] [] within is = cc is
within_low [] (y ∷ q) within is = cc is
within_low (x ∷ p) [] within is = cc within
within_low (x ∷ p) (y ∷ q) within is =
    let both = and_parts (pointwise nat_eq x y) (is_within p q) within in
    low_part x y (path_cmp q p) both.0 (within_low p q both.1) is

-- ---- files one after another

abbrev Ascending : List Item → Type 0
Ascending [] = ⊤
Ascending (item ∷ items) = AllByRecursion (λ other. Before item.path other.path) items × Ascending items

all_by : (P : Item → Type 0) (items : List Item) → ((n : ℕ) (item : Item) → slice_get items n ≡ Some item → P item) → AllByRecursion P items
all_by P [] each = tt
all_by P (x ∷ items) each = (each 0 x refl, all_by P items (λ n item is. each (suc n) item is))

all_at : (P : Item → Type 0) (items : List Item) (n : ℕ) (item : Item) → AllByRecursion P items → slice_get items n ≡ Some item → P item
all_at P [] zero item all is = absurd (cc is)
all_at P [] (suc n) item all is = absurd (cc is)
all_at P (x ∷ items) zero item all is = let same : x ≡ item = cc is in subst P same all.0
all_at P (x ∷ items) (suc n) item all is = all_at P items n item all.1 is

ascending : (items : List Item) → AscendItems items → Ascending items
ascending [] asc = tt
ascending (x ∷ items) asc =
    (all_by (λ other. Before x.path other.path) items (λ n item is. asc 0 (suc n) x item (omega arith) refl is), ascending items (λ i j first later low here there. asc (suc i) (suc j) first later (omega (arith, low)) here there))

ascend : (items : List Item) → Ascending items → AscendItems items
ascend [] asc zero j first later low here there = absurd (cc here)
ascend [] asc (suc i) j first later low here there = absurd (cc here)
ascend (x ∷ items) asc i zero first later low here there = absurd (omega (arith, low))
ascend (x ∷ items) asc zero (suc j) first later low here there =
    let same : x ≡ first = cc here in subst (λ (it : Item). Before it.path later.path) same (all_at (λ other. Before x.path other.path) items j later asc.0 there)
ascend (x ∷ items) asc (suc i) (suc j) first later low here there = ascend items asc.1 i j first later (omega (arith, low)) here there

-- ---- files before a path

passed : (item : Item) (path : Path) (more : Thing) (s w : Bool) → (s ≡ true → ⊥) → (w ≡ true → ⊥) → (if s then AFile item else (if w then Folder else more)) ≡ more
passed item path more true w other apart = absurd (other refl)
passed item path more false true other apart = absurd (apart refl)
passed item path more false false other apart = refl

-- a file that stands before the path has nothing to do with it
passes : (item : Item) (path : Path) (more : Thing) → path_cmp item.path path ≡ Less → thing_of item path more ≡ more
passes item path more low = passed item path more (is_same item.path path) (is_within path item.path) (λ same. no_less path (subst (λ (q : Path). path_cmp q path ≡ Less) (sym (same_is path item.path same)) low)) (λ within. within_low path item.path within low)

-- so have all files before one that does
skip : (items : List Item) (n : ℕ) (item : Item) (path : Path) → Ascending items → slice_get items n ≡ Some item → path_cmp item.path path ≡ Less → thing_among (drop (n + 1) items) path ≡ thing_among items path
skip [] zero item path asc is low = absurd (cc is)
skip [] (suc n) item path asc is low = absurd (cc is)
skip (x ∷ items) zero item path asc is low = let same : item ≡ x = cc is in sym (passes x path (thing_among items path) (subst (λ (it : Item). path_cmp it.path path ≡ Less) same low))
skip (x ∷ items) (suc n) item path asc is low =
    let one : suc n + 1 ≡ suc (n + 1) = omega arith in
    let before = all_at (λ other. Before x.path other.path) items n item asc.0 is in
    ap (λ k. thing_among (drop k (x ∷ items)) path) one ∙ skip items n item path asc.1 is low ∙ sym (passes x path (thing_among items path) (path_total.trans x.path item.path path before.0 low))

ascend_drop : (items : List Item) (n : ℕ) → Ascending items → Ascending (drop n items)
ascend_drop items zero asc = asc
ascend_drop [] (suc n) asc = tt
ascend_drop (x ∷ items) (suc n) asc = ascend_drop items n asc.1

get_drop : (items : List Item) (n k : ℕ) → slice_get (drop n items) k ≡ slice_get items (n + k)
get_drop items zero k = let same : k ≡ 0 + k = omega arith in ap (slice_get items) same
get_drop [] (suc n) zero = refl
get_drop [] (suc n) (suc k) = refl
get_drop (x ∷ items) (suc n) k = let one : suc n + k ≡ suc (n + k) = omega arith in get_drop items n k ∙ ap (slice_get (x ∷ items)) (sym one)

-- of the files from one place on, those up to a later one that stands before the path
pub skips_to : (items : List Item) (count half next : ℕ) (item : Item) (path : Path) → AscendItems items → slice_get items (count + half) ≡ Some item → is_lt (path_cmp item.path path) ≡ true → next ≡ count + (half + 1)
    → thing_among (drop count items) path ≡ thing_among items path → thing_among (drop next items) path ≡ thing_among items path
skips_to items count half next item path asc is low place so_far =
    ap (λ k. thing_among (drop k items) path) place ∙ ap (λ xs. thing_among xs path) (sym (drop-drop (half + 1) count items)) ∙ skip (drop count items) half item path (ascend_drop items count (ascending items asc)) (get_drop items count half ∙ is) (less (path_cmp item.path path) low) ∙ so_far
  where
    less : (o : Ordering) → is_lt o ≡ true → o ≡ Less
    less Less e = refl
    less Equal e = cc
    less Greater e = cc

-- ---- files behind a path

-- one part of a path between a path and one that it is a prefix of
between_part : (x z y : List ℕ) (more later : Ordering) (w : Bool) → x ≡ y → (later ≡ Less → more ≡ Less → w ≡ true)
    → ordering_then (slice_cmp nat_cmp x z) more ≡ Less → ordering_then (slice_cmp nat_cmp z y) later ≡ Less → pointwise nat_eq x z && w ≡ true
between_part x z y more later w same rest low high = by (slice_cmp nat_cmp x z) refl low (subst (λ t. ordering_then (slice_cmp nat_cmp z t) later ≡ Less) (sym same) high)
  where
    back : slice_cmp nat_cmp z x ≡ ordering_reverse (slice_cmp nat_cmp x z)
    back = nat_list_cmp_total.antisymm z x

    by : (o : Ordering) → slice_cmp nat_cmp x z ≡ o → ordering_then o more ≡ Less → ordering_then (slice_cmp nat_cmp z x) later ≡ Less → pointwise nat_eq x z && w ≡ true
    by Less is low high =
        let greater : slice_cmp nat_cmp z x ≡ Greater = back ∙ ap ordering_reverse is in
        let bad : ordering_then Greater later ≡ Less = subst (λ o. ordering_then o later ≡ Less) greater high in
        cc
    by Equal is low high =
        let equal : slice_cmp nat_cmp z x ≡ Equal = back ∙ ap ordering_reverse is in
        let behind : later ≡ Less = subst (λ o. ordering_then o later ≡ Less) equal high in
        and_from _ _ (texts_ties x z ∙ ap is_eq is) (rest behind low)
    by Greater is low high = cc

-- a path that is a prefix of one is a prefix of all between
between : (p q r : Path) → path_cmp p q ≡ Less → path_cmp q r ≡ Less → is_within p r ≡ true → is_within p q ≡ true
between [] q r low high h = refl
between (x ∷ p) q [] low high h = cc
between (x ∷ p) [] (y ∷ r) low high h = cc
between (x ∷ p) (z ∷ q) (y ∷ r) low high h =
    let both = and_parts (pointwise nat_eq x y) (is_within p r) h in
    between_part x z y (path_cmp p q) (path_cmp q r) (is_within p q) ((bytes_decides x y).0 both.0) (λ later more. between p q r more later both.1) low high

-- a path before one that stands before a third
further : (p q r : Path) → Before p q → Before q r → Before p r
further p q r first second = (path_total.trans p q r first.0 second.0, by (is_within p r) refl)
  where
    by : (b : Bool) → is_within p r ≡ b → b ≡ false
    by true is = let bad : is_within p q ≡ true = between p q r first.0 second.0 is in let not_so : is_within p q ≡ false = first.1 in cc
    by false is = refl

-- behind a file that stands at no prefix of the path, and not before it, nothing has to do with it
nothing_behind : (items : List Item) (first path : Path) → AllByRecursion (λ other. Before first other.path) items → Before path first → thing_among items path ≡ Nothing
nothing_behind [] first path all above = refl
nothing_behind (x ∷ items) first path all above =
    let behind = further path first x.path above all.0 in
    passed x path (thing_among items path) (is_same x.path path) (is_within path x.path)
    (λ same. no_less path (subst (λ (q : Path). path_cmp path q ≡ Less) (sym (same_is path x.path same)) behind.0))
    (λ within. (let bad : true ≡ false = sym within ∙ behind.1 in cc bad))
    ∙ nothing_behind items first path all.1 above

above_by : (item : Item) (path : Path) → is_lt (path_cmp item.path path) ≡ false → is_same item.path path ≡ false → path_cmp path item.path ≡ Less
above_by item path low other = by (path_cmp path item.path) refl (path_total.antisymm item.path path)
  where
    by : (o : Ordering) → path_cmp path item.path ≡ o → path_cmp item.path path ≡ ordering_reverse o → o ≡ Less
    by Less is back = refl
    by Equal is back =
        let same : is_same item.path path ≡ true = sym (same_by path item.path) ∙ ap is_eq is in
        absurd (let bad : true ≡ false = sym same ∙ other in cc bad)
    by Greater is back = absurd (let bad : true ≡ false = ap is_lt (sym back) ∙ low in cc bad)

only : (item : Item) (path : Path) (more : Thing) (s w : Bool) → (s ≡ false → w ≡ false → more ≡ Nothing) → (if s then AFile item else (if w then Folder else more)) ≡ (if s then AFile item else (if w then Folder else Nothing))
only item path more true w none = refl
only item path more false true none = refl
only item path more false false none = none refl refl

-- the first file that does not stand before the path decides
pub found_at : (items : List Item) (at : ℕ) (item : Item) (path : Path) → AscendItems items → slice_get items at ≡ Some item → is_lt (path_cmp item.path path) ≡ false → thing_among (drop at items) path ≡ thing_of item path Nothing
found_at items at item path asc is low = let none : at + 0 ≡ at = omega arith in head (drop at items) (ascend_drop items at (ascending items asc)) (get_drop items at 0 ∙ ap (slice_get items) none ∙ is)
  where
    head : (xs : List Item) → Ascending xs → slice_get xs 0 ≡ Some item → thing_among xs path ≡ thing_of item path Nothing
    head [] asc is = absurd (cc is)
    head (x ∷ xs) asc is =
        let same : item ≡ x = cc is in
        let here : is_lt (path_cmp x.path path) ≡ false = subst (λ (it : Item). is_lt (path_cmp it.path path) ≡ false) same low in
        only x path (thing_among xs path) (is_same x.path path) (is_within path x.path) (λ other apart. nothing_behind xs x.path path asc.0 (above_by x path here other, apart)) ∙ ap (λ (it : Item). thing_of it path Nothing) (sym same)

-- ---- the files of an index ascend

all_further : (first : Path) (files : List Packed) (at : ℕ) → AllByRecursion (λ e. Before first e.path) (entries_of files) → AllByRecursion (λ other. Before first other.path) (items_from at (entries_of files))
all_further first [] at all = tt
all_further first (file ∷ files) at all = (all.0, all_further first files (at + length file.bytes) all.1)

items_ascend : (files : List Packed) (at : ℕ) → Ascend (entries_of files) → Ascending (items_from at (entries_of files))
items_ascend [] at asc = tt
items_ascend (file ∷ files) at asc = (all_further file.path files (at + length file.bytes) asc.0, items_ascend files (at + length file.bytes) asc.1)

pub index_ascends : (front : List ℕ) (size : ℕ) (o : Option Index) → length front ≡ min size most_front → Reads front size o → IfSome o (λ index. AscendItems index.items)
index_ascends front size None long reads = tt
index_ascends front size (Some index) long reads = by (ltb size most_front) refl
  where
    listed : (bytes : List ℕ) → IsFrontOf front size bytes → AscendItems index.items
    listed bytes is = let lists = reads bytes is in subst (λ (i : Index). AscendItems i.items) (sym lists.2) (ascend _ (items_ascend lists.0 _ lists.1.entries.ascend))

    by : (b : Bool) → ltb size most_front ≡ b → AscendItems index.items
    by true is =
        let short = ltb-true size most_front is in
        let all : size ≡ length front = omega (arith, long, short) in
        listed front (sym (take_all most_front front (omega (arith, all, short))), all)
    by false is =
        let high = ltb-false size most_front is in
        let most : length front ≡ most_front = omega (arith, long, high) in
        let more : List ℕ = replicate (size - most_front) 0 in
        let l = length-append front more in
        let r = length-replicate {A = ℕ} (size - most_front) 0 in
        listed (front ++ more) (sym (ap (λ k. take k (front ++ more)) (sym most) ∙ take-append_seam front more), omega (arith, high, most, l, r))

-- an index that is lent
pub lent : (o : Option (Bor Index)) (index : Option Index) → option_copied o ≡ index → ForSome index (λ it. AscendItems it.items) → IfSome o (λ it. AscendItems it.now.items)
lent None index is asc = tt
lent (Some it) index is asc = asc it.now (sym is)
