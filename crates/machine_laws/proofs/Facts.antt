-- What each kind of change does to what holds in every state.
use Rattle.std.proofs.Common.{◌≡◌, ◌⊎◌, ℕ, zero, suc, ◌+◌, ◌<◌, ◌≤◌, arith, true, false, cond, List, Some, None, refl, sym, ap, subst, ◌∙◌, inl, inr}
use Rattle.std.specs.Prelude.{slice_get, is_some}
use Rattle.std.specs.Option.{option_map}
use Rattle.std.specs.Cmp.Lexicographic.{nat_list_cmp_total}
use Rattle.std.specs.FinMap.{get, insert, remove, get-insert, get-remove}
use Rattle.module_lock.specs.declared.locks.Lock.{Lock}
use Rattle.module_lock.specs.Table.{Table, lock_of, owner_of, is_free, got, given, taken_count}
use Rattle.module_lock.specs.Cycles.{IsAcyclic}
use Rattle.module_lock.proofs.Kept.{acyclic-got, acyclic-given, inserted, lowered_owner}
use Rattle.module_table.specs.declared.module.Reload.{Reload}
use Rattle.machine_laws.specs.Bones.{Bones, Module, opens, held_by, held}
use Rattle.machine_laws.specs.Sound.{AreSound, IsRunning, FitsLoad, FitsReload}
use Rattle.machine_laws.proofs.Holds.{same_text, same_name, at_or_elsewhere, held_got, held_more, held_less, held_elsewhere}

-- the owner of a lock after one was taken is the taker or was the owner before
got_owner : (table : Table) (t : ℕ) (n m : List ℕ) (u : ℕ) → owner_of (got table t n) m ≡ Some u → (u ≡ t) ⊎ (owner_of table m ≡ Some u)
got_owner table t n m u h =
    elim (inserted table.locks n m u (record { owner = t; count = taken_count (lock_of table n) + 1 }) h) [ inl p ↦ inl p.1 | inr old ↦ inr old ]

given_owner : (table : Table) (t : ℕ) (n m : List ℕ) (u : ℕ) → owner_of (given table t n) m ≡ Some u → owner_of table m ≡ Some u
given_owner table t n m u h = lowered_owner table.locks n m u t (lock_of table n) refl h

module _ (b : Bones) (sound : AreSound b) where
  -- only the locks are others, and none was taken or given back
  pub sound_locked : (locks : Table) → IsAcyclic locks → locks.locks ≡ b.locks.locks → AreSound (record b { locks = locks })
  sound_locked locks acyclic is = record {
    few = sound.few;
    acyclic = acyclic;
    covered = λ t n. subst (λ ls. opens b t n ≤ held_by t (get ls n)) (sym is) (sound.covered t n);
    bodies = sound.bodies;
    modules = sound.modules;
    reloads = sound.reloads;
    owners = λ n t h. let old = subst (λ ls. option_map (λ (lock : Lock). lock.owner) (get ls n) ≡ Some t) is h in let r = sound.owners n t old in record { first = r.first; round = r.round; going = r.going; earlier = r.earlier };
    alive = sound.alive;
  }

  -- a free lock is taken by a running thread that waits for nothing
  pub sound_got : (t : ℕ) (n : List ℕ) → is_free b.locks t n ≡ true → get b.locks.waits t ≡ None → IsRunning b t → AreSound (record b { locks = got b.locks t n })
  sound_got t n free idle running = record {
    few = sound.few;
    acyclic = acyclic-got b.locks sound.acyclic t n idle;
    covered = λ u m. let c = sound.covered u m in let g = held_got b.locks t n free u m in omega arith;
    bodies = sound.bodies;
    modules = sound.modules;
    reloads = sound.reloads;
    owners = λ m u h. elim (got_owner b.locks t n m u h) [
      | inl same ↦ record { first = running.first; round = ap (slice_get b.rounds) same ∙ running.round; going = ap (λ v. is_some (get b.ended v)) same ∙ running.going; earlier = running.earlier }
      | inr old ↦ let r = sound.owners m u old in record { first = r.first; round = r.round; going = r.going; earlier = r.earlier }
    ];
    alive = sound.alive;
  }

  -- a lock that was taken more often than needed is given back
  pub sound_given : (t : ℕ) (n : List ℕ) → opens b t n < held b.locks t n → AreSound (record b { locks = given b.locks t n })
  sound_given t n spare = record {
    few = sound.few;
    acyclic = acyclic-given b.locks sound.acyclic t n;
    covered = at_or_elsewhere (λ u m. opens b u m ≤ held (given b.locks t n) u m) t n (let l = held_less b.locks t n in omega arith)
        (λ u m apart. let e = held_elsewhere b.locks t n u m apart in let c = sound.covered u m in omega arith);
    bodies = sound.bodies;
    modules = sound.modules;
    reloads = sound.reloads;
    owners = λ m u h. let r = sound.owners m u (given_owner b.locks t n m u h) in record { first = r.first; round = r.round; going = r.going; earlier = r.earlier };
    alive = sound.alive;
  }

  -- a reload of a module of this name begins
  pub sound_entered : (n : List ℕ) (r : Reload) (m : Module) → slice_get b.modules r.mid ≡ Some m → m.name ≡ n → FitsLoad b r r.load → AreSound (record b { reloads = insert b.reloads n r })
  sound_entered n r m is named fits = record {
    few = sound.few;
    acyclic = sound.acyclic;
    covered = sound.covered;
    bodies = sound.bodies;
    modules = sound.modules;
    reloads = λ k q h.
        elim (same_text k n) as (λ c. same_text k n ≡ c → cond c (Some r) (get b.reloads k) ≡ Some q → FitsReload b k q) [
          | true ↦ λ p e. let same : r ≡ q = cc in subst (λ z. FitsReload b k z) same (m, is, named ∙ sym (same_name k n p), fits)
          | false ↦ λ p e. sound.reloads k q e
        ] refl (sym (get-insert nat_list_cmp_total b.reloads n r k) ∙ h);
    owners = λ m u h. let r = sound.owners m u h in record { first = r.first; round = r.round; going = r.going; earlier = r.earlier };
    alive = sound.alive;
  }

  -- a reload ends that has no load
  pub sound_left : (n : List ℕ) → AreSound (record b { reloads = remove b.reloads n })
  sound_left n = record {
    few = sound.few;
    acyclic = sound.acyclic;
    covered = sound.covered;
    bodies = sound.bodies;
    modules = sound.modules;
    reloads = λ k q h.
        elim (same_text k n) as (λ c. cond c None (get b.reloads k) ≡ Some q → FitsReload b k q) [
          | true ↦ λ e. cc
          | false ↦ λ e. sound.reloads k q e
        ] (sym (get-remove nat_list_cmp_total b.reloads n k) ∙ h);
    owners = λ m u h. let r = sound.owners m u h in record { first = r.first; round = r.round; going = r.going; earlier = r.earlier };
    alive = sound.alive;
  }

-- where a lock is taken for one more open load
pub bumped_by : (b : Bones) → AreSound b → (t : ℕ) (n : List ℕ) → is_free b.locks t n ≡ true → (extra new : ℕ → List ℕ → ℕ)
    → ((u : ℕ) (k : List ℕ) → new u k ≤ opens b u k + extra u k) → ((u : ℕ) (k : List ℕ) → extra u k ≤ 1) → ((u : ℕ) (k : List ℕ) → extra u k ≡ 1 → (u ≡ t) × (k ≡ n))
    → (u : ℕ) (k : List ℕ) → new u k ≤ held (got b.locks t n) u k
bumped_by b sound t n free extra new most one own u k = by (extra u k) refl
  where
    by : (x : ℕ) → extra u k ≡ x → new u k ≤ held (got b.locks t n) u k
    by zero is = let c = sound.covered u k in let g = held_got b.locks t n free u k in let m = most u k in omega arith
    by (suc x) is =
        let o = one u k in
        let e : extra u k ≡ 1 = omega arith in
        let at = own u k e in
        let c = sound.covered u k in
        let m = most u k in
        let h : held (got b.locks t n) u k ≡ held b.locks u k + 1 = subst (λ z. held (got b.locks t n) z k ≡ held b.locks z k + 1) (sym at.0) (subst (λ z. held (got b.locks t n) t z ≡ held b.locks t z + 1) (sym at.1) (held_more b.locks t n free)) in
        omega arith
