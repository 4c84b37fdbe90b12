-- Items between brackets.
use Rattle.std.proofs.Common.{◌≡◌, ◌∙◌, refl, sym, ap, subst, ℕ, List, [], ◌∷◌, ◌++◌, map, Bool, true, false, ◌&&◌, Option, Some, None, inl, inr, codes}
use Rattle.std.proofs.lemmas.Bool.{and_parts, and_from}
use Rattle.std.proofs.lemmas.Option.{option_and_then_some}
use Rattle.std.specs.List.{list_all, AllByRecursion}
use Rattle.std.specs.Option.{option_map, option_and_then}
use Rattle.trace_fields.specs.Splitting.{split, joined}
use Rattle.trace_fields.proofs.Closed.{Closed, split_again, split_is_joined}
use Rattle.trace_fields.specs.Parts.{between, items, each, listed}
use Rattle.trace_read.proofs.Held.{some_is}
use Rattle.trace_read.proofs.Between.{between_again, between_takes}

-- not empty
abbrev pub IsSolid : List ℕ → Type 0
IsSolid [] = ⊥
IsSolid (b ∷ bs) = Unit {0}

-- a text that is an item as it stands
abbrev pub IsItem : List ℕ → Type 0
IsItem text = Closed text × IsSolid text

closed_items : (texts : List (List ℕ)) → AllByRecursion IsItem texts → AllByRecursion Closed texts
closed_items [] h = tt
closed_items (x ∷ xs) h = (h.0.0, closed_items xs h.1)

items_again : (texts : List (List ℕ)) → AllByRecursion IsItem texts → items (joined 44 texts) ≡ texts
items_again [] h = refl
items_again ([] ∷ xs) h = absurd h.0.1
items_again ((b ∷ bs) ∷ xs) h = split_again 44 (b ∷ bs) xs (inr refl) (closed_items ((b ∷ bs) ∷ xs) h)

items_joined : (inside : List ℕ) → joined 44 (items inside) ≡ inside
items_joined [] = refl
items_joined (b ∷ bs) = split_is_joined 44 (b ∷ bs)

each_again : {X : Type 0} (read : List ℕ → Option X) (spell : X → List ℕ) (xs : List X) → AllByRecursion (λ x. read (spell x) ≡ Some x) xs → each read (map spell xs) ≡ Some xs
each_again read spell [] h = refl
each_again read spell (x ∷ xs) h =
    ap (option_and_then (λ y. option_map (λ ys. y ∷ ys) (each read (map spell xs)))) h.0
    ∙ ap (option_map (λ ys. x ∷ ys)) (each_again read spell xs h.1)

-- what is listed is read back, item by item
pub listed_again : {X : Type 0} (front : List ℕ) (last : ℕ) (read : List ℕ → Option X) (spell : X → List ℕ) (xs : List X) → AllByRecursion IsItem (map spell xs) → AllByRecursion (λ x. read (spell x) ≡ Some x) xs →
    listed front last read ((front ++ joined 44 (map spell xs)) ++ last ∷ []) ≡ Some xs
listed_again front last read spell xs closed again =
    ap (option_and_then (λ inside. each read (items inside))) (between_again front (joined 44 (map spell xs)) last)
    ∙ ap (each read) (items_again (map spell xs) closed)
    ∙ each_again read spell xs again

pub mapped_some : {A B P : Type 0} (f : A → B) (o : Option A) (y : B) → option_map f o ≡ Some y → ((x : A) → o ≡ Some x → f x ≡ y → P) → P
mapped_some f None y h go = cc
mapped_some f (Some x) y h go = go x refl (some_is (f x) y h)

-- each item that was read is one of these
each_takes : {X : Type 0} (read : List ℕ → Option X) (spell : X → List ℕ) (fits : X → Bool) (texts : List (List ℕ)) (xs : List X) →
    ((text : List ℕ) (x : X) → read text ≡ Some x → (text ≡ spell x) × (fits x ≡ true)) → each read texts ≡ Some xs → (texts ≡ map spell xs) × (list_all fits xs ≡ true)
each_takes read spell fits [] xs takes h = let is = some_is [] xs h in subst (λ ys. ([] ≡ map spell ys) × (list_all fits ys ≡ true)) is (refl, refl)
each_takes read spell fits (text ∷ texts) xs takes h =
    option_and_then_some (λ y. option_map (λ ys. y ∷ ys) (each read texts)) (read text) xs h (λ x is more.
    mapped_some (λ ys. x ∷ ys) (each read texts) xs more (λ ys rest same.
    let one = takes text x is in
    let others = each_takes read spell fits texts ys takes rest in
    subst (λ zs. (text ∷ texts ≡ map spell zs) × (list_all fits zs ≡ true)) same ((λ k. one.0 k ∷ others.0 k), and_from (fits x) (list_all fits ys) one.1 others.1)))

pub listed_takes : {X : Type 0} (front : List ℕ) (last : ℕ) (read : List ℕ → Option X) (spell : X → List ℕ) (fits : X → Bool) (field : List ℕ) (xs : List X) →
    ((text : List ℕ) (x : X) → read text ≡ Some x → (text ≡ spell x) × (fits x ≡ true)) → listed front last read field ≡ Some xs → (field ≡ (front ++ joined 44 (map spell xs)) ++ last ∷ []) × (list_all fits xs ≡ true)
listed_takes front last read spell fits field xs takes h =
    option_and_then_some (λ inside. each read (items inside)) (between front last field) xs h (λ inside is held.
    let e = each_takes read spell fits (items inside) xs takes held in
    let whole : inside ≡ joined 44 (map spell xs) = sym (items_joined inside) ∙ ap (joined 44) e.0 in
    (between_takes front last field inside is ∙ ap (λ m. (front ++ m) ++ last ∷ []) whole, e.1))
