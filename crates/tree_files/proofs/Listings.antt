-- A directory has one listing: the names that the files have there.
use Rattle.std.proofs.Common.{◌≡◌, ◌∙◌, refl, sym, ap, ℕ, List, [], ◌∷◌, ◌++◌, Bool, true, false, ◌&&◌, ◌||◌, is_some, map, nat_eq}
use Rattle.std.specs.Prelude.{T}
use Rattle.std.specs.List.{AllByRecursion, list_any}
use Rattle.std.specs.List.Sorted.{IsStrictlySortedBy}
use Rattle.std.specs.Ordering.{nat_cmp, is_lt, eq_by_cmp}
use Rattle.std.specs.declared.cmp.Ordering.{Ordering}
use Rattle.std.specs.declared.cmp.Ordering.TheVariants.{Less, Equal, Greater}
use Rattle.std.specs.BTreeMap.{is_at}
use Rattle.std.specs.Cmp.Lexicographic.{pointwise, slice_cmp, nat_list_eq_equiv, nat_list_cmp_total, texts_ties}
use Rattle.std.specs.FinMap.{entries, entries_sorted, keys, get-entries, is_sorted}
use Rattle.std.specs.FinMap.Entries.{below_all}
use Rattle.std.proofs.lemmas.Map.Lookups.{btree_set_from_contains, exact_bytes}
use Rattle.base_types.specs.Path.{Path, path_cmp}
use Rattle.tree_files.specs.Files.{Files, IsListing, has_name, names_in}
use Rattle.tree_files.specs.declared.tree.Node.{Node}
use Rattle.tree_files.proofs.NamesBelow.{has_name-find, names_sorted}

abbrev text_cmp : List ℕ → List ℕ → Ordering
text_cmp = slice_cmp nat_cmp

-- a name is among the names where the order finds it there
has_name-order : (names : List (List ℕ)) (name : List ℕ) → has_name names name ≡ list_any (is_at (text_cmp name)) names
has_name-order [] name = refl
has_name-order (x ∷ names) name =
    ap (λ (b : Bool). b || has_name names name) (nat_list_eq_equiv.symm x name ∙ texts_ties name x)
    ∙ ap (λ (b : Bool). is_at (text_cmp name) x || b) (has_name-order names name)

-- a directory has one listing
pub listing_unique : (f : Files) (dir : Path) (a b : List (List ℕ)) → IsListing f dir a → IsListing f dir b → a ≡ b
listing_unique f dir a b x y =
    btree_set_from_contains nat_list_cmp_total (record { keys = a }) (record { keys = b }) x.ordered y.ordered
    (λ name. sym (has_name-order a name) ∙ (x.exact name ∙ sym (y.exact name) ∙ has_name-order b name)) exact_bytes

less : (o : Ordering) → T (is_lt o) → o ≡ Less
less Less h = refl
less Equal h = absurd h
less Greater h = absurd h

both : (a b : Bool) → T (a && b) → T a × T b
both true b h = (tt, h)
both false b h = absurd h

below : (p : Path) (es : List (Path × Node)) → T (below_all path_cmp p es) → AllByRecursion (λ q. path_cmp p q ≡ Less) (map (λ e. e.0) es)
below p [] h = tt
below p (e ∷ es) h = let two = both _ _ h in (less _ two.0, below p es two.1)

rising : (es : List (Path × Node)) → T (is_sorted path_cmp es) → IsStrictlySortedBy path_cmp (map (λ e. e.0) es)
unfolding IsStrictlySortedBy
rising [] h = tt
rising (e ∷ es) h = let two = both _ _ h in (below e.0 es two.0, rising es two.1)

-- the names that the files have there are one
pub names_in-listing : (f : Files) (dir : Path) → IsListing f dir (names_in f dir)
names_in-listing f dir = record {
  ordered = names_sorted dir (keys f) (rising (entries f) (entries_sorted f));
  exact = λ name. has_name-find dir name (entries f) ∙ ap is_some (sym (get-entries f (dir ++ name ∷ [])));
}

-- so each listing is the one that the files tell
pub listing_told : (f : Files) (dir : Path) (names : List (List ℕ)) → IsListing f dir names → names ≡ names_in f dir
listing_told f dir names x = listing_unique f dir names (names_in f dir) x (names_in-listing f dir)
