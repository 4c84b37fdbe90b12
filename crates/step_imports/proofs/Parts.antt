-- What import statements do, by their parts.
use Rattle.std.proofs.Common.{◌≡◌, ◌∙◌, refl, ap, ℕ, zero, suc, ◌+◌, ◌<◌, ◌≤◌, List, [], ◌∷◌, length, map, drop, slice_get, Option, Some, None, Bool, Result, Ok, Err, IfOk, arith}
use Rattle.py_value.specs.declared.value.ModRef.{ModRef}
use Rattle.py_value.specs.declared.value.Value.{Value, out-Value}
use Rattle.py_value.specs.declared.value.Value.TheOpen.{Value-F}
use Rattle.meaning_runs.specs.Runs.{Run}
use Rattle.py_syntax.specs.declared.stmt.Alias.{Alias}
use Rattle.meaning_state.specs.declared.fault.Fault.TheVariants as fault
use Rattle.meaning_state.specs.declared.thread.State.{State}
use Rattle.meaning_script.specs.Pieces.{Piece, Onward, on_value, passes, fails, in_order}
use Rattle.meaning_script.specs.Names.{stores}
use Rattle.meaning_script.specs.Operators.{Around}
use Rattle.meaning_script.specs.ImportStatements.{dotted_name, bound_as, with_module, with_module_at, name_of, is_last, follows_parts, imports_parts}
use Rattle.meaning_state.specs.declared.thread.Thread.{Thread}
use Rattle.meaning_script.specs.Meaning.{World}
use Rattle.py_frames.specs.declared.want.Want.{Want}
use Rattle.py_frames.specs.Does.{Does, Rest, fronts_parts, fronts_some, binds_parts, binds_some_import, follows_some}
use Rattle.py_frames.proofs.Places.{drop_none, drop_past}
use Rattle.step_imports.specs.Parts.{front_of}

-- ---- pieces in order

-- the pieces from a place on, where there is none
pub ends : {T : Type 0} (p : T → Piece) (xs : List T) (at : ℕ) (s : State) (k : Onward) → length xs ≤ at → passes s k ≡ in_order (map p (drop at xs)) s k
ends p [] zero s k h = refl
ends p [] (suc n) s k h = refl
ends p (x ∷ xs) zero s k h = absurd (omega (arith, h))
ends p (x ∷ xs) (suc n) s k h = ends p xs n s k (omega (arith, h))

-- the first one, and then the others
pub goes : {T : Type 0} (p : T → Piece) (some : Option T → Piece) → ((x : T) → some (Some x) ≡ p x)
    → (xs : List T) (at : ℕ) (s : State) (k : Onward) → at < length xs
    → some (slice_get xs at) s (on_value k (λ _ s. in_order (map p (drop (at + 1) xs)) s k)) ≡ in_order (map p (drop at xs)) s k
goes p some same [] at s k h = absurd (omega (arith, h))
goes p some same (x ∷ xs) zero s k h = ap (λ (q : Piece). q s (on_value k (λ _ s. in_order (map p xs) s k))) (same x)
goes p some same (x ∷ xs) (suc n) s k h =
    let next : suc n + 1 ≡ suc (n + 1) = omega arith in
    ap (λ (m : ℕ). some (slice_get xs n) s (on_value k (λ _ s. in_order (map p (drop m (x ∷ xs))) s k))) next
    ∙ goes p some same xs n s k (omega (arith, h))

-- ---- `import` of one module

pub imports_none : (a : Around) (parts : List (List ℕ)) (bound : Option (List ℕ)) (s : State) (k : Onward) → slice_get parts 0 ≡ None
    → fails fault.NotInProfile s k ≡ imports_parts a parts bound s k
imports_none a [] bound s k h = refl
imports_none a (x ∷ xs) bound s k h = absurd cc

pub imports_only : (a : Around) (parts : List (List ℕ)) (x : List ℕ) (bound : Option (List ℕ)) (s : State) (k : Onward) → slice_get parts 0 ≡ Some x
    → length parts ≡ 1 → a.imported x s (on_value k (λ v s. stores (bound_as bound x) v s k)) ≡ imports_parts a parts bound s k
imports_only a [] x bound s k h one = absurd cc
imports_only a (y ∷ []) x bound s k h one =
    let same : y ≡ x = cc in
    rw same refl
imports_only a (y ∷ z ∷ zs) x bound s k h one = absurd (omega (arith, one))

pub imports_more : (a : Around) (parts : List (List ℕ)) (x : List ℕ) (bound : Option (List ℕ)) (s : State) (k : Onward) → slice_get parts 0 ≡ Some x
    → (length parts ≡ 1 → ⊥)
    → a.imported (dotted_name parts) s (on_value k (λ _ s. fronts_parts a parts bound s k)) ≡ imports_parts a parts bound s k
imports_more a [] x bound s k h more = absurd cc
imports_more a (y ∷ []) x bound s k h more = absurd (more refl)
imports_more a (y ∷ z ∷ zs) x bound s k h more = refl

fronts_parts_none : (a : Around) (parts : List (List ℕ)) (bound : Option (List ℕ)) (s : State) (k : Onward) → slice_get parts 0 ≡ None
    → fails fault.NotInProfile s k ≡ fronts_parts a parts bound s k
fronts_parts_none a [] bound s k h = refl
fronts_parts_none a (x ∷ xs) bound s k h = absurd cc

pub fronts_none : (a : Around) (o : Option Alias) (s : State) (k : Onward) → front_of o ≡ None → fails fault.NotInProfile s k ≡ fronts_some a o s k
fronts_none a None s k h = refl
fronts_none a (Some b) s k h = fronts_parts_none a b.parts b.bound s k h

fronts_parts_is : (a : Around) (parts : List (List ℕ)) (bound : Option (List ℕ)) (x : List ℕ) (s : State) (k : Onward) → slice_get parts 0 ≡ Some x
    → a.imported x s (on_value k (λ v s. binds_parts a parts bound v s k)) ≡ fronts_parts a parts bound s k
fronts_parts_is a [] bound x s k h = absurd cc
fronts_parts_is a (y ∷ ys) bound x s k h =
    let same : y ≡ x = cc in
    rw same refl

pub fronts_is : (a : Around) (o : Option Alias) (x : List ℕ) (s : State) (k : Onward) → front_of o ≡ Some x
    → a.imported x s (on_value k (λ v s. binds_some_import a o v s k)) ≡ fronts_some a o s k
fronts_is a None x s k h = absurd cc
fronts_is a (Some b) x s k h = fronts_parts_is a b.parts b.bound x s k h

-- ---- the parts from one on

pub follows_end : (a : Around) (parts : List (List ℕ)) (at : ℕ) (bound : List ℕ) (v : Value) (s : State) (k : Onward) → slice_get parts at ≡ None
    → stores bound v s k ≡ follows_parts a (drop at parts) bound v s k
follows_end a parts at bound v s k h = rw (drop_none parts at h) refl

module_then : (f : Value-F Value) (p : ModRef → Piece) (g : Onward → Onward) (s : State) (k : Onward)
    → with_module_at f (λ m s' k'. p m s' (g k)) s k ≡ with_module_at f (λ m s' k'. p m s' (g k')) s k
module_then (Value-F.Module m) p g s k = refl
module_then v p g s k = refl

pub follows_goes : (a : Around) (parts : List (List ℕ)) (at : ℕ) (x bound : List ℕ) (last : Bool) (v : Value) (s : State) (k : Onward)
    → slice_get parts at ≡ Some x → last ≡ is_last (drop (at + 1) parts)
    → with_module v (λ m s' k'. name_of a last m x s' (on_value k (λ v s. follows_parts a (drop (at + 1) parts) bound v s k))) s k
    ≡ follows_parts a (drop at parts) bound v s k
follows_goes a parts at x bound last v s k h is =
    rw (drop_past parts at x h, is)
    (module_then (out-Value v) (λ m. name_of a (is_last (drop (at + 1) parts)) m x) (λ k. on_value k (λ v s. follows_parts a (drop (at + 1) parts) bound v s k)) s k)

pub binds_nothing : (a : Around) (o : Option Alias) (v : Value) (s : State) (k : Onward) → o ≡ None → fails fault.NotInProfile s k ≡ binds_some_import a o v s k
binds_nothing a o v s k none = rw none refl

-- ---- the parts of the module that an `import` names, by its place

pub follows_none : (a : Around) (part : ℕ) (o : Option Alias) (v : Value) (s : State) (k : Onward) → o ≡ None
    → fails fault.NotInProfile s k ≡ follows_some a part o v s k
follows_none a part o v s k none = rw none refl

pub follows_ends : (a : Around) (o : Option Alias) (b : Alias) (part : ℕ) (bound : List ℕ) (v : Value) (s : State) (k : Onward) → o ≡ Some b
    → b.bound ≡ Some bound → slice_get b.parts part ≡ None → stores bound v s k ≡ follows_some a part o v s k
follows_ends a o b part bound v s k is named none = rw (is, named) (follows_end a b.parts part bound v s k none)

pub follows_on : (a : Around) (o : Option Alias) (b : Alias) (part : ℕ) (x bound : List ℕ) (last : Bool) (v : Value) (s : State) (k : Onward)
    → o ≡ Some b → b.bound ≡ Some bound → slice_get b.parts part ≡ Some x → last ≡ is_last (drop (part + 1) b.parts)
    → with_module v (λ m s' k'. name_of a last m x s' (on_value k (λ v s. follows_some a (part + 1) o v s k))) s k ≡ follows_some a part o v s k
follows_on a o b part x bound last v s k is named some ends = rw (is, named) (follows_goes a b.parts part x bound last v s k some ends)

pub follows_step : (a : Around) (o after : Option Alias) (b : Alias) (part far : ℕ) (x bound : List ℕ) (last : Bool) (v : Value) (s : State) (k : Onward)
    → after ≡ o → far ≡ part + 1 → o ≡ Some b → b.bound ≡ Some bound → slice_get b.parts part ≡ Some x → last ≡ is_last (drop (part + 1) b.parts)
    → with_module v (λ m s' k'. name_of a last m x s' (on_value k (λ v s. follows_some a far after v s k))) s k ≡ follows_some a part o v s k
follows_step a o after b part far x bound last v s k same next is named some ends = rw (same, next) (follows_on a o b part x bound last v s k is named some ends)

-- a step that does what a run says does what an equal run says
pub lifted_run : {E : Type 0} (th : Thread) (f g : World → Rest → Run) (result : Result Want E)
    → ((w : World) (next : Rest) → f w next ≡ g w next) → IfOk result (Does th f) → IfOk result (Does th g)
lifted_run th f g (Ok want) same does = record { does = λ w next. does.does w next ∙ same w next }
lifted_run th f g (Err e) same does = tt
