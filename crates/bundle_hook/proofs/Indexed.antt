-- An index and the files that it lists.
use Rattle.std.proofs.Common.{◌≡◌, ◌∙◌, refl, sym, ap, subst, ℕ, zero, suc, ◌+◌, ◌-◌, ◌<◌, ◌≤◌, List, [], ◌∷◌, ◌++◌, length, get_or, take, drop, min, Some, None, arith, append-nil, append_assoc, length-append, length-take, length-drop}
use Rattle.std.specs.Prelude.{◌≢◌}
use Rattle.std.proofs.Math.Seq.{take-append_seam, drop-append_seam}
use Rattle.std.proofs.lemmas.List.{drop_more, drop_all, take-append-drop}
use Rattle.bundle_hook.specs.declared.entry.Entry.{Entry}
use Rattle.bundle_hook.specs.declared.bundle.Packed.{Packed}
use Rattle.bundle_hook.specs.declared.bundle.Item.{Item}
use Rattle.bundle_hook.specs.Spelling.{most_front, front_of}
use Rattle.bundle_hook.specs.Bundle.{AreEntries, IsBundle, IsFrontOf, Reads, entry_of, entries_of, data_of, sizes, items_from, index_of}
use Rattle.bundle_hook.specs.Reading.{front_in}
use Rattle.bundle_hook.proofs.Fronts.{Front, front_found, front_taken, same_entries, not_both}

-- The loop over the entries: what is left of the data, and the items that are still to come.

pub record Placing (head size left : ℕ) (i : ℕ) (items : List Item) (es : List Entry) : Type 0 where
  pub within : left ≤ size
  pub sum : head + sizes es + left ≡ size + sizes (drop i es)
  pub places : items_from head es ≡ items ++ items_from (size - left) (drop i es)

pub placing : (head size : ℕ) (es : List Entry) → head ≤ size → Placing head size (size - head) 0 [] es
placing head size es low = record {
  within = omega arith;
  sum = omega arith;
  places = ap (λ n. items_from n es) (let same : head ≡ size - (size - head) = omega arith in same);
}

pub placed : (head size left : ℕ) (i : ℕ) (items more : List Item) (es : List Entry) (d : Entry) → i < length es → (get_or es i d).size ≤ left
    → more ≡ items ++ record { path = (get_or es i d).path; at = size - left; size = (get_or es i d).size } ∷ [] → Placing head size left i items es → Placing head size (left - (get_or es i d).size) (i + 1) more es
placed head size left i items more es d low fits is p =
    let e : Entry = get_or es i d in
    let within = p.within in
    let sum = p.sum in
    let cut : drop i es ≡ e ∷ drop (i + 1) es = drop_more es i d low in
    let split : sizes (drop i es) ≡ e.size + sizes (drop (i + 1) es) = ap sizes cut in
    let next : size - left + e.size ≡ size - (left - e.size) = omega (arith, within, fits) in
    record {
      within = omega (arith, within);
      sum = omega (arith, sum, split, fits);
      places =
          p.places ∙ ap (λ t. items ++ items_from (size - left) t) cut
          ∙ sym (append_assoc items (record { path = e.path; at = size - left; size = e.size } ∷ []) (items_from (size - left + e.size) (drop (i + 1) es)))
          ∙ ap (λ t. t ++ items_from (size - left + e.size) (drop (i + 1) es)) (sym is) ∙ ap (λ n. more ++ items_from n (drop (i + 1) es)) next;
    }

pub too_large : (head size left : ℕ) (i : ℕ) (items : List Item) (es : List Entry) (d : Entry) → i < length es → left < (get_or es i d).size → Placing head size left i items es → head + sizes es ≢ size
too_large head size left i items es d low high p same =
    let sum = p.sum in
    let split : sizes (drop i es) ≡ (get_or es i d).size + sizes (drop (i + 1) es) = ap sizes (drop_more es i d low) in
    omega (arith, sum, split, high, same)

nothing_more : (i : ℕ) (es : List Entry) → length es ≤ i → sizes (drop i es) ≡ 0
nothing_more i es high = ap sizes (drop_all i es high)

pub data_left : (head size left : ℕ) (i : ℕ) (items : List Item) (es : List Entry) → length es ≤ i → (left ≡ 0 → ⊥) → Placing head size left i items es → head + sizes es ≢ size
data_left head size left i items es high some p same =
    let sum = p.sum in
    let none = nothing_more i es high in
    some (omega (arith, sum, none, same))

pub all_placed : (head size left : ℕ) (i : ℕ) (items : List Item) (es : List Entry) → length es ≤ i → left ≡ 0 → Placing head size left i items es → (head + sizes es ≡ size) × (items ≡ items_from head es)
all_placed head size left i items es high filled p =
    let sum = p.sum in
    let none = nothing_more i es high in (
      omega (arith, sum, none, filled),
      sym (p.places ∙ ap (λ t. items ++ items_from (size - left) t) (drop_all i es high) ∙ append-nil items),
    )

pub ruleset placings = (placing, placed, too_large, data_left, all_placed)

-- The files that the data of a bundle are cut into.

record Cut (es : List Entry) (bytes : List ℕ) : Type 0 where
  files : List Packed
  are : entries_of files ≡ es
  whole : data_of files ≡ bytes

nothing : (bytes : List ℕ) → length bytes ≡ 0 → [] ≡ bytes
nothing [] h = refl
nothing (b ∷ bytes) h = absurd (omega arith)

cut : (es : List Entry) (bytes : List ℕ) → length bytes ≡ sizes es → Cut es bytes
cut [] bytes h = record { files = []; are = refl; whole = nothing bytes h }
cut (e ∷ es) bytes h =
    let behind : length (drop e.size bytes) ≡ sizes es = let l = length-drop e.size bytes in omega arith in
    let rest : Cut es (drop e.size bytes) = cut es (drop e.size bytes) behind in
    let long : length (take e.size bytes) ≡ e.size = let l = length-take e.size bytes in omega arith in
    let file : Packed = record { path = e.path; bytes = take e.size bytes } in
    record {
      files = file ∷ rest.files;
      are = ap (λ n. record { path = e.path; size = n } ∷ entries_of rest.files) long ∙ ap (λ t. e ∷ t) rest.are;
      whole = ap (λ t. take e.size bytes ++ t) rest.whole ∙ take-append-drop e.size bytes;
    }

pub sizes_are : (files : List Packed) → length (data_of files) ≡ sizes (entries_of files)
sizes_are [] = refl
sizes_are (file ∷ files) = let l = length-append file.bytes (data_of files) in let more = sizes_are files in omega arith

-- The front of a file.

begins : (p q : List ℕ) (n : ℕ) → length p ≤ n → (rest : List ℕ) × (take n (p ++ q) ≡ p ++ rest)
begins [] q n h = (take n q, refl)
begins (x ∷ p) q zero h = absurd (omega arith)
begins (x ∷ p) q (suc n) h = let b = begins p q n (omega arith) in (b.0, ap (λ t. x ∷ t) b.1)

pub begun : (front : List ℕ) (size : ℕ) (bytes : List ℕ) (files : List Packed) → IsFrontOf front size bytes → IsBundle files bytes → (rest : List ℕ) × (front_in front ≡ Some (entries_of files, length rest)) × (length front ≡ length (front_of (entries_of files)) + length rest)
begun front size bytes files of is =
    let es : List Entry = entries_of files in
    let b = begins (front_of es) (data_of files) most_front is.short in
    let same : front ≡ front_of es ++ b.0 = of.0 ∙ ap (take most_front) is.whole ∙ b.1 in
    (b.0, ap front_in same ∙ front_found es b.0 is.entries, ap length same ∙ length-append (front_of es) b.0)

whole_size : (size : ℕ) (bytes : List ℕ) (files : List Packed) → size ≡ length bytes → IsBundle files bytes → size ≡ length (front_of (entries_of files)) + sizes (entries_of files)
whole_size size bytes files of is =
    let l = length-append (front_of (entries_of files)) (data_of files) in
    let s = sizes_are files in
    let w : length bytes ≡ length (front_of (entries_of files) ++ data_of files) = ap length is.whole in
    omega (arith, l, s, w, of)

-- What `read_index` answers.

pub no_front : (front : List ℕ) (size : ℕ) → None ≡ front_in front → Reads front size None
no_front front size none bytes of files is =
    let b = begun front size bytes files of is in
    not_both (front_in front) (entries_of files, length b.0) (sym none) b.1

pub left_within : (front : List ℕ) (es : List Entry) (left : ℕ) → Some (es, left) ≡ front_in front → left + length (front_of es) ≡ length front
left_within front es left read =
    let t : Front front es left = front_taken front es left (sym read) in
    let l = length-append (front_of es) t.rest in
    let w : length front ≡ length (front_of es ++ t.rest) = ap length t.whole in
    let is = t.left_is in
    omega (arith, l, w, is)

head_is : (front : List ℕ) (es : List Entry) (left head : ℕ) → head ≡ length front - left → Some (es, left) ≡ front_in front → head ≡ length (front_of es)
head_is front es left head is read = let w = left_within front es left read in omega (arith, is, w)

pub no_fit : (front : List ℕ) (size left head : ℕ) (es : List Entry) → head ≡ length front - left → Some (es, left) ≡ front_in front → head + sizes es ≢ size → Reads front size None
no_fit front size left head es at read other bytes of files is =
    let b = begun front size bytes files of is in
    let same : es ≡ entries_of files = same_entries (front_in front) es (entries_of files) left (length b.0) (sym read) b.1 in
    let begins_at : head ≡ length (front_of es) = head_is front es left head at read in
    let all : size ≡ length (front_of es) + sizes es = whole_size size bytes files of.1 is ∙ ap (λ t. length (front_of t) + sizes t) (sym same) in
    other (omega (arith, begins_at, all))

pub is_index : (front : List ℕ) (size left head : ℕ) (es : List Entry) (items : List Item) → head ≡ length front - left → Some (es, left) ≡ front_in front → length front ≡ min size most_front → head + sizes es ≡ size → items ≡ items_from head es
    → Reads front size (Some (record { head = head; items = items }))
is_index front size left head es items at read short fits are bytes of =
    let t : Front front es left = front_taken front es left (sym read) in
    let behind : List ℕ = t.rest ++ drop most_front bytes in
    let begins_at : head ≡ length (front_of es) = head_is front es left head at read in
    let whole : bytes ≡ front_of es ++ behind = sym (take-append-drop most_front bytes) ∙ ap (λ f. f ++ drop most_front bytes) (sym of.0 ∙ t.whole) ∙ append_assoc (front_of es) t.rest (drop most_front bytes) in
    let long : length bytes ≡ length (front_of es) + length behind = ap length whole ∙ length-append (front_of es) behind in
    let size_is : size ≡ length bytes = of.1 in
    let fill : length behind ≡ sizes es = omega (arith, long, size_is, fits, begins_at) in
    let c : Cut es behind = cut es behind fill in
    let within = left_within front es left read in
    let low : length (front_of es) ≤ most_front = omega (arith, within, short) in
    let back : es ≡ entries_of c.files = sym c.are in
    let is : IsBundle c.files bytes = record {
      entries = subst AreEntries back t.are;
      short = subst (λ e. length (front_of e) ≤ most_front) back low;
      whole = whole ∙ ap (λ e. front_of e ++ behind) back ∙ ap (λ d. front_of (entries_of c.files) ++ d) (sym c.whole);
    } in
    (c.files, is, ap (λ i. record { head = head; items = i }) are ∙ ap (λ n. record { head = n; items = items_from n es }) begins_at ∙ ap index_of back)

-- The bytes are a bundle of at most one list of files.

same_files : (a b : List Packed) → entries_of a ≡ entries_of b → data_of a ≡ data_of b → a ≡ b
same_files [] [] es ds = refl
same_files [] (f ∷ b) es ds = let bad : length {A = Entry} [] ≡ length (entries_of (f ∷ b)) = ap length es in absurd (omega arith)
same_files (f ∷ a) [] es ds = let bad : length (entries_of (f ∷ a)) ≡ length {A = Entry} [] = ap length es in absurd (omega arith)
same_files (f ∷ a) (g ∷ b) es ds =
    let first : entry_of f ≡ entry_of g = cc in
    let others : entries_of a ≡ entries_of b = cc in
    let long : length f.bytes ≡ length g.bytes = ap (λ (e : Entry). e.size) first in
    let path : f.path ≡ g.path = ap (λ (e : Entry). e.path) first in
    let bytes : f.bytes ≡ g.bytes = sym (take-append_seam f.bytes (data_of a)) ∙ ap (λ n. take n (f.bytes ++ data_of a)) long ∙ ap (take (length g.bytes)) ds ∙ take-append_seam g.bytes (data_of b) in
    let rest : data_of a ≡ data_of b = sym (drop-append_seam f.bytes (data_of a)) ∙ ap (λ n. drop n (f.bytes ++ data_of a)) long ∙ ap (drop (length g.bytes)) ds ∙ drop-append_seam g.bytes (data_of b) in
    ap (λ p. record { path = p; bytes = f.bytes } ∷ a) path ∙ ap (λ t. record { path = g.path; bytes = t } ∷ a) bytes ∙ ap (λ t. g ∷ t) (same_files a b others rest)

pub one_list : (a b : List Packed) (bytes : List ℕ) → IsBundle a bytes → IsBundle b bytes → a ≡ b
one_list a b bytes p q =
    let first : front_in bytes ≡ Some (entries_of a, length (data_of a)) = ap front_in p.whole ∙ front_found (entries_of a) (data_of a) p.entries in
    let second : front_in bytes ≡ Some (entries_of b, length (data_of b)) = ap front_in q.whole ∙ front_found (entries_of b) (data_of b) q.entries in
    let same : entries_of a ≡ entries_of b = same_entries (front_in bytes) (entries_of a) (entries_of b) (length (data_of a)) (length (data_of b)) first second in
    let at : length (front_of (entries_of a)) ≡ length (front_of (entries_of b)) = ap (λ t. length (front_of t)) same in
    let same_data : data_of a ≡ data_of b =
    sym (drop-append_seam (front_of (entries_of a)) (data_of a)) ∙ ap (λ n. drop n (front_of (entries_of a) ++ data_of a)) at ∙ ap (drop (length (front_of (entries_of b)))) (sym p.whole ∙ q.whole) ∙ drop-append_seam (front_of (entries_of b)) (data_of b) in
    same_files a b same same_data
