-- The modules in values and in lists of values, and the loads of their functions.
use Rattle.std.proofs.Common.{◌≡◌, ◌<◌, ℕ, length, Bool, true, false, ◌&&◌, List, [], ◌∷◌, ◌++◌, map, refl, sym, ap, subst, ◌∙◌, ◌⊎◌, inl, inr}
use Rattle.std.specs.Prelude.{flat_map, nat_lt}
use Rattle.std.specs.List.{list_all}
use Rattle.std.proofs.lemmas.Bool.{and_parts, and_from, ltb-true, lt-ltb}
use Rattle.std.proofs.lemmas.List.Folds.{list_all-append}
use Rattle.py_value.specs.declared.value.ModRef.{ModRef}
use Rattle.py_value.specs.declared.value.Value.{Value, roll-Value, map-Value}
use Rattle.py_value.specs.declared.value.Value.TheFolds.{fold-roll-Value, ind-Value}
use Rattle.py_value.specs.declared.value.Value.TheOpen.{Value-F}
use Rattle.module_table.specs.declared.table.Table.{Table}
use Rattle.machine_spec.specs.Known.{is_module, names_modules, names_modules_at}
use Rattle.machine_shown.specs.Shown.{modules_in, modules_at, loads_in, loads_at}
use Rattle.machine_shown.specs.Knowing.{Has, HasAll}

abbrev pub all_there : Table → List ModRef → Bool
all_there table ms = list_all (is_module table) ms

abbrev pub all_made : Table → List ℕ → Bool
all_made table ls = list_all (λ l. nat_lt l (length table.loads)) ls

-- what is told of a list's first part and of its rest, twice
both_parts : (a b c d : Bool) → (a && b) && (c && d) ≡ (a && c) && (b && d)
both_parts true true c d = refl
both_parts true false true d = refl
both_parts true false false d = refl
both_parts false b c d = refl

and_true : (b : Bool) → b ≡ b && true
and_true true = refl
and_true false = refl

induct : (P : Value → Type 0) → ((y : Value-F ((v : Value) × P v)) → P (roll-Value (map-Value ((v : Value) × P v) Value (λ e. e.0) y))) → (a : Value) → P a
induct P each = ind-Value P (λ x y is. subst (λ z. P (roll-Value z)) is (each y))

module _ (table : Table) where
  abbrev Same : Value → Type 0
  Same v = names_modules table v ≡ all_there table (modules_in v) && all_made table (loads_in v)

  -- two lists one after the other
  joined : (ms ms' : List ModRef) (ls ls' : List ℕ) → (all_there table ms && all_made table ls) && (all_there table ms' && all_made table ls') ≡ all_there table (ms ++ ms') && all_made table (ls ++ ls')
  joined ms ms' ls ls' =
      both_parts (all_there table ms) (all_made table ls) (all_there table ms') (all_made table ls')
      ∙ ap (λ b. b && (all_made table ls && all_made table ls')) (sym (list_all-append (is_module table) ms ms'))
      ∙ ap (λ b. all_there table (ms ++ ms') && b) (sym (list_all-append (λ l. nat_lt l (length table.loads)) ls ls'))

  same_items : (xs : List ((v : Value) × Same v)) → list_all (λ b. b) (map (names_modules table) (map (λ e. e.0) xs)) ≡ all_there table (flat_map (λ ms. ms) (map modules_in (map (λ e. e.0) xs))) && all_made table (flat_map (λ ls. ls) (map loads_in (map (λ e. e.0) xs)))
  same_items [] = refl
  same_items (x ∷ xs) =
      let rest : List Value = map (λ e. e.0) xs in
      ap (λ b. b && list_all (λ b. b) (map (names_modules table) rest)) x.1
      ∙ ap (λ b. (all_there table (modules_in x.0) && all_made table (loads_in x.0)) && b) (same_items xs)
      ∙ joined (modules_in x.0) (flat_map (λ ms. ms) (map modules_in rest)) (loads_in x.0) (flat_map (λ ls. ls) (map loads_in rest))

  abbrev Layer : Value-F ((v : Value) × Same v) → Type 0
  Layer y =
      names_modules_at table (map-Value Value Bool (names_modules table) (map-Value ((v : Value) × Same v) Value (λ e. e.0) y))
      ≡ all_there table (modules_at (map-Value Value (List ModRef) modules_in (map-Value ((v : Value) × Same v) Value (λ e. e.0) y)))
      && all_made table (loads_at (map-Value Value (List ℕ) loads_in (map-Value ((v : Value) × Same v) Value (λ e. e.0) y)))

  layer : (y : Value-F ((v : Value) × Same v)) → Layer y
  layer Value-F.Nothing = refl
  layer (Value-F.Bool b) = refl
  layer (Value-F.Int n) = refl
  layer (Value-F.Text text) = refl
  layer (Value-F.List items) = same_items items
  layer (Value-F.Tuple items) = same_items items
  layer (Value-F.Func load index name) = and_true (nat_lt load (length table.loads))
  layer (Value-F.Native native) = refl
  layer (Value-F.Kind kind) = refl
  layer (Value-F.Module m) = and_true (is_module table m) ∙ and_true (is_module table m && true)
  layer (Value-F.Error error) = refl
  layer Value-F.SysModules = refl
  layer Value-F.SysPath = refl
  layer Value-F.NsPath = refl

  -- a value names modules and loads of the table where each module in it is one of the table's, and each load
  pub names_are : (v : Value) → Same v
  names_are =
      induct Same
      (λ y.
      let inner : Value-F Value = map-Value ((v : Value) × Same v) Value (λ e. e.0) y in
      fold-roll-Value Bool (names_modules_at table) inner ∙ layer y
      ∙ ap (λ ms. all_there table ms && all_made table (loads_at (map-Value Value (List ℕ) loads_in inner))) (sym (fold-roll-Value (List ModRef) modules_at inner))
      ∙ ap (λ ls. all_there table (modules_in (roll-Value inner)) && all_made table ls) (sym (fold-roll-Value (List ℕ) loads_at inner)))

  pub items_are : (items : List Value) → list_all (names_modules table) items ≡ all_there table (flat_map modules_in items) && all_made table (flat_map loads_in items)
  items_are [] = refl
  items_are (v ∷ items) =
      ap (λ b. b && list_all (names_modules table) items) (names_are v)
      ∙ ap (λ b. (all_there table (modules_in v) && all_made table (loads_in v)) && b) (items_are items)
      ∙ joined (modules_in v) (flat_map modules_in items) (loads_in v) (flat_map loads_in items)

  pub mapped_items : (items : List Value) → list_all (λ b. b) (map (names_modules table) items) ≡ list_all (names_modules table) items
  mapped_items [] = refl
  mapped_items (v ∷ items) = ap (λ b. names_modules table v && b) (mapped_items items)

module _ {X : Type 0} (p : X → Bool) where
  pub all_has : (xs ys : List X) → ((x : X) → Has xs x → p x ≡ true) → HasAll xs ys → list_all p ys ≡ true
  all_has xs [] h a = refl
  all_has xs (y ∷ ys) h a = and_from (p y) (list_all p ys) (h y a.0) (all_has xs ys h a.1)

  pub has_all : (xs : List X) → list_all p xs ≡ true → (x : X) → Has xs x → p x ≡ true
  has_all [] a x h = absurd h
  has_all (y ∷ ys) a x (inl e) = ap p e ∙ (and_parts (p y) (list_all p ys) a).0
  has_all (y ∷ ys) a x (inr h) = has_all ys (and_parts (p y) (list_all p ys) a).1 x h

  pub all_more : (q : X → Bool) (xs : List X) → ((x : X) → p x ≡ true → q x ≡ true) → list_all p xs ≡ true → list_all q xs ≡ true
  all_more q [] h a = refl
  all_more q (x ∷ xs) h a = let parts = and_parts (p x) (list_all p xs) a in and_from (q x) (list_all q xs) (h x parts.0) (all_more q xs h parts.1)

pub has_split : {X : Type 0} (xs ys : List X) (x : X) → Has (xs ++ ys) x → Has xs x ⊎ Has ys x
has_split [] ys x h = inr h
has_split (z ∷ xs) ys x (inl e) = inl (inl e)
has_split (z ∷ xs) ys x (inr h) = elim (has_split xs ys x h) [ inl old ↦ inl (inr old) | inr new ↦ inr new ]

-- the loads of a table, one by one
pub made_each : (table : Table) (ls : List ℕ) → all_made table ls ≡ true → (i : ℕ) → Has ls i → i < length table.loads
made_each table ls h i has = ltb-true i (length table.loads) (has_all (λ l. nat_lt l (length table.loads)) ls h i has)

pub made_all : (table : Table) (known ls : List ℕ) → ((i : ℕ) → Has known i → i < length table.loads) → HasAll known ls → all_made table ls ≡ true
made_all table known ls each h = all_has (λ l. nat_lt l (length table.loads)) known ls (λ i has. lt-ltb i (length table.loads) (each i has)) h
