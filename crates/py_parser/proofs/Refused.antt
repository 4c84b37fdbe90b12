-- A list has one first refused token at most, and none where it spells a value.
use Rattle.std.proofs.Common.{◌≡◌, ℕ, ◌+◌, List, [], ◌∷◌, ◌++◌, length, refl, sym, ap, subst, ◌∙◌, append_assoc, append-nil}
use Rattle.source_combinators.specs.declared.fault.Refusal.{Refusal}
use Rattle.source_combinators.specs.declared.fault.Refusal.TheVariants.{TooDeep, Syntax}
use Rattle.source_combinators.specs.declared.fault.Fault.{Fault}
use Rattle.source_combinators.specs.Refusals.{IsViable, IsFirstRefused}

abbrev fault_at : Refusal → ℕ → Fault
fault_at kind left = record { kind = kind; left = left }

-- two ways to cut a list in two
pub data Cuts {T : Type 0} (f r g s : List T) : Type 0 where
  same : f ≡ g → r ≡ s → Cuts f r g s
  longer : (t : T) (more : List T) → g ≡ f ++ t ∷ more → r ≡ t ∷ (more ++ s) → Cuts f r g s
  shorter : (t : T) (more : List T) → f ≡ g ++ t ∷ more → s ≡ t ∷ (more ++ r) → Cuts f r g s

again : {T : Type 0} (t : T) (f r g s : List T) → Cuts f r g s → Cuts (t ∷ f) r (t ∷ g) s
again t f r g s (same a b) = same (ap (λ l. t ∷ l) a) b
again t f r g s (longer u more a b) = longer u more (ap (λ l. t ∷ l) a) b
again t f r g s (shorter u more a b) = shorter u more (ap (λ l. t ∷ l) a) b

pub cuts : {T : Type 0} (f r g s : List T) → f ++ r ≡ g ++ s → Cuts f r g s
cuts [] r [] s e = same refl e
cuts [] r (u ∷ g) s e = longer u g refl e
cuts (t ∷ f) r [] s e = shorter t f refl (sym e)
cuts {T = T} (t ∷ f) r (u ∷ g) s e =
    let tails : f ++ r ≡ g ++ s = cc in
    let heads : t ≡ u = cc in
    subst (λ (v : T). Cuts (t ∷ f) r (v ∷ g) s) heads (again t f r g s (cuts f r g s tails))

module _ {T A : Type 0} (Spells : ℕ → List T → A → Type 0) where
  -- what begins a list that spells a value, does so without its last tokens
  viable_front : (room : ℕ) (f g more : List T) (t : T) → g ≡ f ++ t ∷ more → IsViable Spells room g → IsViable Spells room (f ++ t ∷ [])
  viable_front room f g more t e v =
      let tokens : g ++ v.rest ≡ (f ++ t ∷ []) ++ (more ++ v.rest) = ap (λ (l : List T). l ++ v.rest) e ∙ append_assoc f (t ∷ more) v.rest ∙ sym (append_assoc f (t ∷ []) (more ++ v.rest)) in
      record { rest = more ++ v.rest; value = v.value; spelled = subst (λ (l : List T). Spells room l v.value) tokens v.spelled }

  pub spelled_not_refused : (room : ℕ) (ts : List T) (a : A) (fault : Fault) (t : T) (tail : List T) (r : IsFirstRefused Spells room ts fault) → r.rest ≡ t ∷ tail → Spells room ts a → ⊥
  spelled_not_refused room ts a fault t tail r e s =
      let tokens : ts ≡ r.front ++ t ∷ tail = r.parts ∙ ap (λ (l : List T). r.front ++ l) e in
      let whole : IsViable Spells room ts = record { rest = []; value = a; spelled = subst (λ (l : List T). Spells room l a) (sym (append-nil ts)) s } in
      r.after t tail e (viable_front room r.front ts tail t tokens whole)

  kinds : (j k : Refusal) → (j ≡ TooDeep → k ≡ TooDeep) → (k ≡ TooDeep → j ≡ TooDeep) → j ≡ k
  kinds TooDeep k there back = sym (there refl)
  kinds Syntax TooDeep there back = back refl
  kinds Syntax Syntax there back = refl

  faults : (j k : Refusal) (m n : ℕ) → j ≡ k → m ≡ n → fault_at j m ≡ fault_at k n
  faults j k m n p q = ap (λ (i : Refusal). fault_at i m) p ∙ ap (λ (l : ℕ). fault_at k l) q

  -- at the same place refusals have the same kind
  deep_at : (room : ℕ) (ts : List T) (f g : Fault) (p : IsFirstRefused Spells room ts f) (q : IsFirstRefused Spells room ts g) (t u : T) (tail last : List T) → p.rest ≡ t ∷ tail → q.rest ≡ u ∷ last → p.front ≡ q.front → t ≡ u → f.kind ≡ TooDeep → g.kind ≡ TooDeep
  deep_at room ts f g p q t u tail last e d a b k =
      let (more, v) = (p.too_deep t tail e).0 k in
      (q.too_deep u last d).1 (more, subst (λ (l : List T). IsViable Spells (room + more) l) (ap (λ (l : List T). l ++ t ∷ []) a ∙ ap (λ (w : T). q.front ++ w ∷ []) b) v)

  pub one_refusal : (room : ℕ) (ts : List T) (f g : Fault) (p : IsFirstRefused Spells room ts f) (q : IsFirstRefused Spells room ts g) (t u : T) (tail last : List T) → p.rest ≡ t ∷ tail → q.rest ≡ u ∷ last → f ≡ g
  one_refusal room ts f g p q t u tail last e d = elim (cuts p.front p.rest q.front q.rest (sym p.parts ∙ q.parts)) [
    | same a b ↦
        let heads : t ≡ u = cc in
        faults f.kind g.kind f.left g.left (kinds f.kind g.kind (deep_at room ts f g p q t u tail last e d a heads) (deep_at room ts g f q p u t last tail d e (sym a) (sym heads))) (p.left ∙ ap length b ∙ sym q.left)
    | longer v more a b ↦ absurd (p.after v (more ++ q.rest) b (viable_front room p.front q.front more v a q.before))
    | shorter v more a b ↦ absurd (q.after v (more ++ p.rest) b (viable_front room q.front p.front more v a p.before))
  ]
