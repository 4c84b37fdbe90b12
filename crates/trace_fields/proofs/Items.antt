-- Items one after the other.
use Rattle.std.proofs.Common.{◌≡◌, ◌∙◌, refl, sym, ap, ℕ, ◌+◌, ◌<◌, List, [], ◌∷◌, ◌++◌, append_assoc, length, get_or, drop, map, Bor, Option, Some, None, arith}
use Rattle.std.proofs.lemmas.List.{drop_more, get_or-map, length-map}
use Rattle.std.specs.Option.{option_map, option_and_then}
use Rattle.trace_fields.specs.Splitting.{views}
use Rattle.trace_fields.specs.Parts.{each}

-- the items so far, and what is still read
abbrev pub with_items : {X : Type 0} → List X → Option (List X) → Option (List X)
with_items done None = None
with_items done (Some xs) = Some (done ++ xs)

one_more : {X : Type 0} (done : List X) (x : X) (o : Option (List X)) → with_items done (option_map (λ xs. x ∷ xs) o) ≡ with_items (done ++ x ∷ []) o
one_more done x None = refl
one_more done x (Some xs) = ap Some (sym (append_assoc done (x ∷ []) xs))

cut : (pieces : List (Bor (List ℕ))) (i : ℕ) (default : Bor (List ℕ)) → i < length pieces → drop i (views pieces) ≡ (get_or pieces i default).now ∷ drop (i + 1) (views pieces)
cut pieces i default low =
    let low_too : i < length (views pieces) = rw (length-map pieces (λ (x : Bor (List ℕ)). x.now)) low in
    drop_more (views pieces) i default.now low_too ∙ ap (λ l. l ∷ drop (i + 1) (views pieces)) (get_or-map (λ x. x.now) pieces i default default.now low)

pub moves : {X : Type 0} (read : List ℕ → Option X) (done : List X) (i : ℕ) (x : X) (pieces : List (Bor (List ℕ))) (default : Bor (List ℕ)) → i < length pieces → read (get_or pieces i default).now ≡ Some x →
    with_items done (each read (drop i (views pieces))) ≡ with_items (done ++ x ∷ []) (each read (drop (i + 1) (views pieces)))
moves read done i x pieces default low is =
    let rest = each read (drop (i + 1) (views pieces)) in
    ap (λ ps. with_items done (each read ps)) (cut pieces i default low)
    ∙ ap (λ o. with_items done (option_and_then (λ y. option_map (λ ys. y ∷ ys) rest) o)) is
    ∙ one_more done x rest

pub stops : {X : Type 0} (read : List ℕ → Option X) (done : List X) (i : ℕ) (pieces : List (Bor (List ℕ))) (default : Bor (List ℕ)) → i < length pieces → read (get_or pieces i default).now ≡ None →
    with_items done (each read (drop i (views pieces))) ≡ None
stops read done i pieces default low is =
    let rest = each read (drop (i + 1) (views pieces)) in
    ap (λ ps. with_items done (each read ps)) (cut pieces i default low)
    ∙ ap (λ o. with_items done (option_and_then (λ y. option_map (λ ys. y ∷ ys) rest) o)) is
