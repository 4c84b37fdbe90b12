-- Pieces that are put one after the other.
use Rattle.std.proofs.Common.{◌≡◌, ◌∙◌, sym, ap, ℕ, List, [], ◌∷◌, ◌++◌, codes, append_assoc}
use Rattle.std.proofs.lemmas.Grind.{flat_map-append}
use Rattle.std.proofs.lemmas.List.{append-nil}
use Rattle.trace_text.specs.Trace.{spaced, unsplit}

pub two : (out a b : List ℕ) → (out ++ a) ++ b ≡ out ++ (a ++ b)
two out a b = append_assoc out a b

pub three : (out a b c : List ℕ) → ((out ++ a) ++ b) ++ c ≡ out ++ ((a ++ b) ++ c)
three out a b c = simp append_assoc

pub five : (out a b c d e : List ℕ) → ((((out ++ a) ++ b) ++ c) ++ d) ++ e ≡ out ++ ((((a ++ b) ++ c) ++ d) ++ e)
five out a b c d e = simp append_assoc

pub seven : (out a b c d e f g : List ℕ) → ((((((out ++ a) ++ b) ++ c) ++ d) ++ e) ++ f) ++ g ≡ out ++ ((((((a ++ b) ++ c) ++ d) ++ e) ++ f) ++ g)
seven out a b c d e f g = simp append_assoc

-- one more field
fields_more : (out : List ℕ) (fields : List (List ℕ)) (field : List ℕ) → (out ++ spaced fields) ++ 32 ∷ field ≡ out ++ spaced (fields ++ field ∷ [])
fields_more out fields field =
    append_assoc out (spaced fields) (32 ∷ field)
    ∙ ap (λ t. out ++ (spaced fields ++ t)) (sym (append-nil (32 ∷ field)))
    ∙ ap (λ t. out ++ t) (sym (flat_map-append (λ f. 32 ∷ f) fields (field ∷ [])))

pub fields_two : (out a b : List ℕ) → (out ++ 32 ∷ a) ++ 32 ∷ b ≡ out ++ spaced (a ∷ b ∷ [])
fields_two out a b = simp (append_assoc, append-nil)

pub fields_three : (out a b c : List ℕ) → ((out ++ 32 ∷ a) ++ 32 ∷ b) ++ 32 ∷ c ≡ out ++ spaced (a ∷ b ∷ c ∷ [])
fields_three out a b c = simp (append_assoc, append-nil)

pub fields_four : (out a b c d : List ℕ) → (((out ++ 32 ∷ a) ++ 32 ∷ b) ++ 32 ∷ c) ++ 32 ∷ d ≡ out ++ spaced (a ∷ b ∷ c ∷ d ∷ [])
fields_four out a b c d = simp (append_assoc, append-nil)

pub fields_five : (out a b c d e : List ℕ) → ((((out ++ 32 ∷ a) ++ 32 ∷ b) ++ 32 ∷ c) ++ 32 ∷ d) ++ 32 ∷ e ≡ out ++ spaced (a ∷ b ∷ c ∷ d ∷ e ∷ [])
fields_five out a b c d e = ap (λ t. t ++ 32 ∷ e) (fields_four out a b c d) ∙ fields_more out (a ∷ b ∷ c ∷ d ∷ []) e

-- an entry: thread, event, `->`, reply, LF
pub entry_line : (out thread : List ℕ) (event reply : List (List ℕ)) →
    ((((out ++ thread) ++ spaced event) ++ codes " ->") ++ spaced reply) ++ 10 ∷ [] ≡ out ++ (unsplit (thread ∷ (event ++ codes "->" ∷ reply)) ++ 10 ∷ [])
entry_line out thread event reply =
    let fields : spaced (event ++ codes "->" ∷ reply) ≡ spaced event ++ (codes " ->" ++ spaced reply) = flat_map-append (λ field. 32 ∷ field) event (codes "->" ∷ reply) in
    let regrouped : ((((out ++ thread) ++ spaced event) ++ codes " ->") ++ spaced reply) ++ 10 ∷ [] ≡ out ++ ((thread ++ (spaced event ++ (codes " ->" ++ spaced reply))) ++ 10 ∷ []) = simp append_assoc in
    regrouped ∙ ap (λ t. out ++ ((thread ++ t) ++ 10 ∷ [])) (sym fields)
