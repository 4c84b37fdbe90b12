-- What a thread's own pairs show it to hold, it holds in the state: what that says, and what changes of lists and maps do to it.
use Rattle.std.proofs.Common.{◌≡◌, ◌≢◌, ℕ, zero, suc, ◌+◌, ◌<◌, arith, Bool, true, false, cond, ◌&&◌, List, [], ◌∷◌, ◌++◌, length, Option, Some, None, refl, sym, ap, ◌∙◌}
use Rattle.std.specs.Prelude.{◌==◌, nat_eq, slice_get, slice_set, is_none, is_some, not}
use Rattle.std.specs.Cmp.Lexicographic.{pointwise, nat_list_eq_equiv}
use Rattle.std.specs.Ordering.{nat_cmp}
use Rattle.std.specs.Cmp.Lexicographic.{slice_cmp}
use Rattle.std.specs.FinMap.{FinMap, get}
use Rattle.std.proofs.lemmas.Bool.{and_parts, and_from, false≢true, eqb-true, eqb-false, eq-eqb, ne_eqb}
use Rattle.module_table.specs.declared.module.LoadKind.TheVariants as load_kinds
use Rattle.module_table.specs.declared.module.Reload.{Reload}
use Rattle.machine_events.specs.Loads.{is_same_load}
use Rattle.machine_spec.specs.Parts.{is_open, is_main, is_imported}
use Rattle.machine_spec.specs.Allowed.{is_reload}
use Rattle.machine_laws.specs.Bones.{Bones, Module, Body, is_named, counts_in, opens, held}
use Rattle.machine_laws.proofs.Counts.{bit, counts_own}
use Rattle.machine_laws.proofs.Holds.{same_text, same_name, same_self}
use Rattle.machine_laws.proofs.Lists.{pushed_last, set_there, set_elsewhere}
use Rattle.machine_shown.specs.Holdings.{Holding, Taken, Loading, Reloading, is_holding}
use Rattle.machine_shown.specs.Holdings as holdings
use Rattle.machine_shown.specs.Shown.{Doing, Running, Waiting, Over}
use Rattle.machine_allows.proofs.Times.{times}
use Rattle.machine_allows.proofs.Locks.{Counted}

-- an open load of t, of kind Plain or Lazy
abbrev pub opened_by : ℕ → Option Body → Bool
opened_by t None = false
opened_by t (Some l) = is_open l.stage && (l.thread == t) && is_imported l.kind

-- t reloads the module, by this load or by none yet
abbrev pub reloads_by : FinMap (slice_cmp nat_cmp) Reload → ℕ → ℕ → Option ℕ → Option Module → Bool
reloads_by reloads t mid load None = false
reloads_by reloads t mid load (Some m) = is_reload t mid load (get reloads m.name)

abbrev pub is_idle : Doing → Bool
is_idle Running = true
is_idle Waiting = false
is_idle Over = true

abbrev pub is_over : Doing → Bool
is_over Running = false
is_over Waiting = false
is_over Over = true

-- t holds and does this
pub record Agrees (b : Bones) (t : ℕ) (list : List Holding) (doing : Doing) : Type 0 where
  pub takes : (n : List ℕ) → held b.locks t n ≡ times (Taken n) list + opens b t n
  pub bodies : (i : ℕ) → times (Loading i) list ≡ bit (opened_by t (slice_get b.bodies i))
  pub reloads : (mid : ℕ) (load : Option ℕ) → times (Reloading mid load) list ≡ bit (reloads_by b.reloads t mid load (slice_get b.modules mid))
  pub waits : is_none (get b.locks.waits t) ≡ is_idle doing
  pub over : is_some (get b.ended t) ≡ is_over doing

-- nothing that t holds is changed
pub record Apart (b c : Bones) (t : ℕ) : Type 0 where
  pub takes : (n : List ℕ) → held c.locks t n ≡ held b.locks t n
  pub counts : (n : List ℕ) → opens c t n ≡ opens b t n
  pub bodies : (i : ℕ) → bit (opened_by t (slice_get c.bodies i)) ≡ bit (opened_by t (slice_get b.bodies i))
  pub reloads : (mid : ℕ) (load : Option ℕ) → bit (reloads_by c.reloads t mid load (slice_get c.modules mid)) ≡ bit (reloads_by b.reloads t mid load (slice_get b.modules mid))
  pub waits : get c.locks.waits t ≡ get b.locks.waits t
  pub over : is_some (get c.ended t) ≡ is_some (get b.ended t)

pub apart_agrees : (b c : Bones) (t : ℕ) (list : List Holding) (doing : Doing) → Apart b c t → Agrees b t list doing → Agrees c t list doing
apart_agrees b c t list doing a g = record {
  takes = λ n. let x = a.takes n in let y = a.counts n in let z = g.takes n in omega arith;
  bodies = λ i. let x = a.bodies i in let y = g.bodies i in omega arith;
  reloads = λ mid load. let x = a.reloads mid load in let y = g.reloads mid load in omega arith;
  waits = ap is_none a.waits ∙ g.waits;
  over = a.over ∙ g.over;
}

-- every lock that is owned is owned at least once, and an open load of a reload is that of a reload that runs
pub record Backed (b : Bones) : Type 0 where
  pub counts : Counted b.locks
  pub again : (i : ℕ) (l : Body) → slice_get b.bodies i ≡ Some l → is_open l.stage ≡ true → l.kind ≡ load_kinds.Reload → (n : List ℕ) × (get b.reloads n ≡ Some (record { thread = l.thread; mid = l.mid; load = Some i }))

-- Lists.

module _ {X : Type 0} where
  pub beyond : (xs : List X) → slice_get xs (length xs) ≡ None
  beyond [] = refl
  beyond (x ∷ xs) = beyond xs

  pub push_elsewhere : (xs : List X) (x : X) (i : ℕ) → i ≢ length xs → slice_get (xs ++ x ∷ []) i ≡ slice_get xs i
  push_elsewhere [] x zero other = absurd (other refl)
  push_elsewhere [] x (suc i) other = refl
  push_elsewhere (y ∷ ys) x zero other = refl
  push_elsewhere (y ∷ ys) x (suc i) other = push_elsewhere ys x i (λ e. other (ap (λ n. suc n) e))

-- a body more at the end
pub opened_push : (t : ℕ) (bs : List Body) (x : Body) (i : ℕ) → bit (opened_by t (slice_get (bs ++ x ∷ []) i)) ≡ bit (opened_by t (slice_get bs i)) + bit (nat_eq i (length bs) && opened_by t (Some x))
opened_push t bs x i =
    elim (nat_eq i (length bs)) as (λ c. nat_eq i (length bs) ≡ c → bit (opened_by t (slice_get (bs ++ x ∷ []) i)) ≡ bit (opened_by t (slice_get bs i)) + bit (c && opened_by t (Some x))) [
      | true ↦ λ p.
          let here : i ≡ length bs = eqb-true i (length bs) p in
          let new : bit (opened_by t (slice_get (bs ++ x ∷ []) i)) ≡ bit (opened_by t (Some x)) = ap (λ k. bit (opened_by t (slice_get (bs ++ x ∷ []) k))) here ∙ ap (λ o. bit (opened_by t o)) (pushed_last bs x) in
          let old : bit (opened_by t (slice_get bs i)) ≡ 0 = ap (λ k. bit (opened_by t (slice_get bs k))) here ∙ ap (λ o. bit (opened_by t o)) (beyond bs) in
          omega arith
      | false ↦ λ p. let same : bit (opened_by t (slice_get (bs ++ x ∷ []) i)) ≡ bit (opened_by t (slice_get bs i)) = ap (λ o. bit (opened_by t o)) (push_elsewhere bs x i (eqb-false i (length bs) p)) in omega arith
    ] refl

-- a body is replaced
pub opened_set : (t : ℕ) (bs : List Body) (load : ℕ) (x y : Body) → slice_get bs load ≡ Some x → (i : ℕ)
    → bit (opened_by t (slice_get (slice_set bs load y) i)) + bit (nat_eq i load && opened_by t (Some x)) ≡ bit (opened_by t (slice_get bs i)) + bit (nat_eq i load && opened_by t (Some y))
opened_set t bs load x y is i =
    elim (nat_eq i load) as (λ c. nat_eq i load ≡ c → bit (opened_by t (slice_get (slice_set bs load y) i)) + bit (c && opened_by t (Some x)) ≡ bit (opened_by t (slice_get bs i)) + bit (c && opened_by t (Some y))) [
      | true ↦ λ p.
          let here : i ≡ load = eqb-true i load p in
          let new : bit (opened_by t (slice_get (slice_set bs load y) i)) ≡ bit (opened_by t (Some y)) = ap (λ k. bit (opened_by t (slice_get (slice_set bs load y) k))) here ∙ ap (λ o. bit (opened_by t o)) (set_there bs load x y is) in
          let old : bit (opened_by t (slice_get bs i)) ≡ bit (opened_by t (Some x)) = ap (λ k. bit (opened_by t (slice_get bs k))) here ∙ ap (λ o. bit (opened_by t o)) is in
          omega arith
      | false ↦ λ p. let same : bit (opened_by t (slice_get (slice_set bs load y) i)) ≡ bit (opened_by t (slice_get bs i)) = ap (λ o. bit (opened_by t o)) (set_elsewhere bs load i y (eqb-false i load p)) in omega arith
    ] refl

-- a module that keeps its name
pub reloads_set : (reloads : FinMap (slice_cmp nat_cmp) Reload) (t : ℕ) (ms : List Module) (k : ℕ) (x y : Module) → slice_get ms k ≡ Some x → y.name ≡ x.name → (mid : ℕ) (load : Option ℕ)
    → bit (reloads_by reloads t mid load (slice_get (slice_set ms k y) mid)) ≡ bit (reloads_by reloads t mid load (slice_get ms mid))
reloads_set reloads t ms k x y is same mid load =
    elim (nat_eq mid k) as (λ c. nat_eq mid k ≡ c → bit (reloads_by reloads t mid load (slice_get (slice_set ms k y) mid)) ≡ bit (reloads_by reloads t mid load (slice_get ms mid))) [
      | true ↦ λ p.
          let here : mid ≡ k = eqb-true mid k p in
          ap (λ j. bit (reloads_by reloads t mid load (slice_get (slice_set ms k y) j))) here
          ∙ ap (λ o. bit (reloads_by reloads t mid load o)) (set_there ms k x y is)
          ∙ ap (λ z. bit (is_reload t mid load (get reloads z))) same
          ∙ ap (λ o. bit (reloads_by reloads t mid load o)) (sym is)
          ∙ ap (λ j. bit (reloads_by reloads t mid load (slice_get ms j))) (sym here)
      | false ↦ λ p. ap (λ o. bit (reloads_by reloads t mid load o)) (set_elsewhere ms k mid y (eqb-false mid k p))
    ] refl

pub reload_mid : (t mid : ℕ) (load : Option ℕ) (r : Reload) → is_reload t mid load (Some r) ≡ true → r.mid ≡ mid
reload_mid t mid load r h =
    let parts = and_parts ((r.thread == t) && (r.mid == mid)) (is_same_load r.load load) h in
    eqb-true r.mid mid (and_parts (r.thread == t) (r.mid == mid) parts.0).1

-- the next module is not reloaded yet
pub reloads_push : (reloads : FinMap (slice_cmp nat_cmp) Reload) (t : ℕ) (ms : List Module) (x : Module) → ((n : List ℕ) (r : Reload) → get reloads n ≡ Some r → r.mid < length ms) → (mid : ℕ) (load : Option ℕ)
    → bit (reloads_by reloads t mid load (slice_get (ms ++ x ∷ []) mid)) ≡ bit (reloads_by reloads t mid load (slice_get ms mid))
reloads_push reloads t ms x low mid load =
    elim (nat_eq mid (length ms)) as (λ c. nat_eq mid (length ms) ≡ c → bit (reloads_by reloads t mid load (slice_get (ms ++ x ∷ []) mid)) ≡ bit (reloads_by reloads t mid load (slice_get ms mid))) [
      | true ↦ λ p.
          let here : mid ≡ length ms = eqb-true mid (length ms) p in
          ap (λ j. bit (reloads_by reloads t mid load (slice_get (ms ++ x ∷ []) j))) here
          ∙ ap (λ o. bit (reloads_by reloads t mid load o)) (pushed_last ms x)
          ∙ ap bit (none here (get reloads x.name) refl)
          ∙ sym (ap (λ j. bit (reloads_by reloads t mid load (slice_get ms j))) here ∙ ap (λ o. bit (reloads_by reloads t mid load o)) (beyond ms))
      | false ↦ λ p. ap (λ o. bit (reloads_by reloads t mid load o)) (push_elsewhere ms x mid (eqb-false mid (length ms) p))
    ] refl
  where
    none : mid ≡ length ms → (o : Option Reload) → get reloads x.name ≡ o → is_reload t mid load o ≡ false
    none here None is = refl
    none here (Some r) is = elim (is_reload t mid load (Some r)) as (λ c. is_reload t mid load (Some r) ≡ c → c ≡ false) [
      | true ↦ λ h. let same = reload_mid t mid load r h in let less = low x.name r is in absurd (omega arith)
      | false ↦ λ h. refl
    ] refl

-- the reload of one name is another, or is gone
pub reloads_moved : (before after : FinMap (slice_cmp nat_cmp) Reload) (ms : List Module) (n : List ℕ) (old new : Option Reload) → get before n ≡ old
    → ((k : List ℕ) → get after k ≡ cond (same_text k n) new (get before k))
    → ((r : Reload) → old ≡ Some r → (m : Module) × (slice_get ms r.mid ≡ Some m) × (m.name ≡ n))
    → ((r : Reload) → new ≡ Some r → (m : Module) × (slice_get ms r.mid ≡ Some m) × (m.name ≡ n))
    → (t mid : ℕ) (load : Option ℕ)
    → bit (reloads_by after t mid load (slice_get ms mid)) + bit (is_reload t mid load old) ≡ bit (reloads_by before t mid load (slice_get ms mid)) + bit (is_reload t mid load new)
reloads_moved before after ms n old new is gets olds news t mid load = by (slice_get ms mid) refl
  where
    elsewhere : (o : Option Reload) → ((r : Reload) → o ≡ Some r → (m : Module) × (slice_get ms r.mid ≡ Some m) × (m.name ≡ n)) → ((m : Module) → slice_get ms mid ≡ Some m → m.name ≡ n → ⊥) → is_reload t mid load o ≡ false
    elsewhere None fits other = refl
    elsewhere (Some r) fits other = elim (is_reload t mid load (Some r)) as (λ c. is_reload t mid load (Some r) ≡ c → c ≡ false) [
      | true ↦ λ h. let m = fits r refl in absurd (other m.0 (sym (ap (slice_get ms) (reload_mid t mid load r h)) ∙ m.1) m.2)
      | false ↦ λ h. refl
    ] refl

    by : (o : Option Module) → slice_get ms mid ≡ o → bit (reloads_by after t mid load o) + bit (is_reload t mid load old) ≡ bit (reloads_by before t mid load o) + bit (is_reload t mid load new)
    by None at =
        let a : bit (is_reload t mid load old) ≡ 0 = ap bit (elsewhere old olds (λ m h e. let f : None ≡ Some m = sym at ∙ h in let z : ⊥ = cc in z)) in
        let b : bit (is_reload t mid load new) ≡ 0 = ap bit (elsewhere new news (λ m h e. let f : None ≡ Some m = sym at ∙ h in let z : ⊥ = cc in z)) in
        omega arith
    by (Some m) at =
        elim (same_text m.name n) as (λ c. same_text m.name n ≡ c → get after m.name ≡ cond c new (get before m.name) → bit (is_reload t mid load (get after m.name)) + bit (is_reload t mid load old) ≡ bit (is_reload t mid load (get before m.name)) + bit (is_reload t mid load new)) [
          | true ↦ λ p e.
              let x : bit (is_reload t mid load (get after m.name)) ≡ bit (is_reload t mid load new) = ap (λ o. bit (is_reload t mid load o)) e in
              let y : bit (is_reload t mid load (get before m.name)) ≡ bit (is_reload t mid load old) = ap (λ z. bit (is_reload t mid load (get before z))) (same_name m.name n p) ∙ ap (λ o. bit (is_reload t mid load o)) is in
              omega arith
          | false ↦ λ p e.
              let x : bit (is_reload t mid load (get after m.name)) ≡ bit (is_reload t mid load (get before m.name)) = ap (λ o. bit (is_reload t mid load o)) e in
              let other : (k : Module) → slice_get ms mid ≡ Some k → k.name ≡ n → ⊥ =
              λ k h named. let one : m ≡ k = let f : Some m ≡ Some k = sym at ∙ h in cc in
              false≢true (sym p ∙ ap (λ z. same_text z n) (ap (λ (z : Module). z.name) one ∙ named) ∙ same_self n) in
              let a : bit (is_reload t mid load old) ≡ 0 = ap bit (elsewhere old olds other) in
              let b : bit (is_reload t mid load new) ≡ 0 = ap bit (elsewhere new news other) in
              omega arith
        ] refl (gets m.name)

-- a reload of t stands in the list as that one; of another thread it is none of t's
pub reload_own : (t mid : ℕ) (load : Option ℕ) (r : Reload) → r.thread ≡ t → bit (is_reload t mid load (Some r)) ≡ bit (is_holding (Reloading mid load) (Reloading r.mid r.load))
reload_own t mid load r own =
    ap (λ c. bit (c && (r.mid == mid) && is_same_load r.load load)) (eq-eqb r.thread t own)

pub reload_other : (t mid : ℕ) (load : Option ℕ) (r : Reload) → r.thread ≢ t → bit (is_reload t mid load (Some r)) ≡ 0
reload_other t mid load r other = ap (λ c. bit (c && (r.mid == mid) && is_same_load r.load load)) (ne_eqb r.thread t other)

pub opened_own : (t : ℕ) (l : Body) → is_open l.stage ≡ true → l.thread ≡ t → is_imported l.kind ≡ true → opened_by t (Some l) ≡ true
opened_own t l opened own imported = and_from (is_open l.stage && (l.thread == t)) (is_imported l.kind) (and_from (is_open l.stage) (l.thread == t) opened (eq-eqb l.thread t own)) imported

pub opened_other : (t : ℕ) (l : Body) → l.thread ≢ t → opened_by t (Some l) ≡ false
opened_other t l other = elim (opened_by t (Some l)) as (λ c. opened_by t (Some l) ≡ c → c ≡ false) [
  | true ↦ λ h.
      let parts = and_parts (is_open l.stage && (l.thread == t)) (is_imported l.kind) h in
      absurd (other (eqb-true l.thread t (and_parts (is_open l.stage) (l.thread == t) parts.0).1))
  | false ↦ λ h. refl
] refl

pub opened_not : (t : ℕ) (l : Body) → is_open l.stage ≡ false → opened_by t (Some l) ≡ false
opened_not t l closed = ap (λ c. c && (l.thread == t) && is_imported l.kind) closed

pub opened_reload : (t : ℕ) (l : Body) → is_imported l.kind ≡ false → opened_by t (Some l) ≡ false
opened_reload t l kind = elim (opened_by t (Some l)) as (λ c. opened_by t (Some l) ≡ c → c ≡ false) [
  | true ↦ λ h. absurd (false≢true (sym kind ∙ (and_parts (is_open l.stage && (l.thread == t)) (is_imported l.kind) h).1))
  | false ↦ λ h. refl
] refl

-- Loads that count for a lock.

module _ (b : Bones) where
  pub counts_here : (l : Body) (m : Module) → slice_get b.modules l.mid ≡ Some m → is_open l.stage ≡ true → is_main l.kind ≡ false → (n : List ℕ) → bit (counts_in b l.thread n l) ≡ bit (pointwise nat_eq n m.name)
  counts_here l m is opened kind n =
      ap (λ c. bit (c && is_named (slice_get b.modules l.mid) n))
      (and_from (is_open l.stage && (l.thread == l.thread)) (not (is_main l.kind)) (and_from (is_open l.stage) (l.thread == l.thread) opened (eq-eqb l.thread l.thread refl)) (ap not kind))
      ∙ ap (λ o. bit (is_named o n)) is
      ∙ ap bit (nat_list_eq_equiv.symm m.name n)

  pub counts_other : (u : ℕ) (l : Body) (m : Module) → slice_get b.modules l.mid ≡ Some m → u ≢ l.thread → (n : List ℕ) → bit (counts_in b u n l) ≡ 0
  counts_other u l m is other n = elim (counts_in b u n l) as (λ c. counts_in b u n l ≡ c → bit c ≡ 0) [
    | true ↦ λ h. absurd (other (counts_own b u n l m is h).0)
    | false ↦ λ h. refl
  ] refl

  pub counts_closed : (u : ℕ) (l : Body) → is_open l.stage ≡ false → (n : List ℕ) → bit (counts_in b u n l) ≡ 0
  counts_closed u l closed n = ap (λ c. bit ((c && (l.thread == u) && not (is_main l.kind)) && is_named (slice_get b.modules l.mid) n)) closed
