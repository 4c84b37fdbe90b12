-- The queues keep up with the waits.
use Rattle.std.proofs.Common.{◌≡◌, ℕ, Bool, true, false, cond, List, [], ◌∷◌, Option, Some, None, Less, Equal, Greater, refl, sym, ap, subst, ◌∙◌, eqb}
use Rattle.std.specs.Prelude.{◌==◌, not, nat_eq, filter, map, length, Result, Ok, Err, OnOk, OnErr}
use Rattle.std.specs.Option.{is_some, unwrap_or}
use Rattle.std.specs.Ordering.{nat_cmp, eq_by_cmp, is_eq}
use Rattle.std.specs.Cmp.{nat_cmp_total, eq_by_cmp_equiv, unsigned_tied}
use Rattle.std.specs.Cmp.Lexicographic.{slice_cmp, nat_list_cmp_total, pointwise}
use Rattle.std.specs.FinMap.{FinMap, empty, get, insert, remove, entries, from_sorted, entries_sorted, get-empty, get-entries, get-insert, get-remove, get-from_sorted, entries-from_sorted, entries-insert, len-entries, len-empty, same_map, nat_cmp-IsAntisymmetric}
use Rattle.std.specs.FinMap.Entries.{put, find, where_key, by_order, is_sorted-where_key, find-where_key}
use Rattle.std.proofs.lemmas.Bool.{false≢true, eqb-true}
use Rattle.std.proofs.lemmas.Slice.Eq.{bytes_eq-Decides}
use Rattle.module_lock.specs.Table.{waiters_in}
use Rattle.module_lock.specs.Cycles.{IsAcyclic}
use Rattle.module_lock.specs.declared.locks.Lock.{Lock}
use Rattle.module_lock.specs.Queues.{queue_of, without, shortened, shortened_by, tidied, AreQueued}
use Rattle.module_lock.proofs.Kept.{same_name}

abbrev Queues : Type 0
Queues = FinMap (slice_cmp nat_cmp) (List ℕ)

abbrev Waits : Type 0
Waits = FinMap nat_cmp (List ℕ)

abbrev is_name : List ℕ → List ℕ → Bool
is_name = eq_by_cmp (slice_cmp nat_cmp)

abbrev is_thread : ℕ → ℕ → Bool
is_thread = eq_by_cmp nat_cmp

-- the threads that wait for a name
abbrev threads : Waits → List ℕ → List ℕ
threads waits n = waiters_in (entries waits) n

other_name : (n m : List ℕ) → is_name m n ≡ false → pointwise nat_eq n m ≡ false
other_name n m h =
    elim (pointwise nat_eq n m) as (λ b. pointwise nat_eq n m ≡ b → b ≡ false) [
      | true ↦ λ p. absurd (false≢true (sym h ∙ ap (λ z. is_name z n) (sym ((bytes_eq-Decides n m).0 p)) ∙ (eq_by_cmp_equiv nat_list_cmp_total).refl n))
      | false ↦ λ p. refl
    ] refl

pub name_apart : (n m : List ℕ) → pointwise nat_eq m n ≡ false → is_name n m ≡ false
name_apart n m h =
    elim (is_name n m) as (λ b. is_name n m ≡ b → b ≡ false) [
      | true ↦ λ p. absurd (false≢true (sym h ∙ (bytes_eq-Decides m n).1 (sym (same_name n m p))))
      | false ↦ λ p. refl
    ] refl

-- ---- lists of waits

-- who waits for a name, without one thread
without_waiters : (t : ℕ) (n : List ℕ) (es : List (ℕ × List ℕ)) → without t (waiters_in es n) ≡ waiters_in (where_key nat_cmp (λ x. not (is_thread t x)) es) n
without_waiters t n [] = refl
without_waiters t n (e ∷ es) =
    let rest = without_waiters t n es in
    let tied : (e.0 == t) ≡ is_thread t e.0 = sym (unsigned_tied e.0 t) ∙ (eq_by_cmp_equiv nat_cmp_total).symm e.0 t in
    elim (is_thread t e.0) as (λ c. is_thread t e.0 ≡ c → without t (waiters_in (e ∷ es) n) ≡ waiters_in (cond (not c) (e ∷ where_key nat_cmp (λ x. not (is_thread t x)) es) (where_key nat_cmp (λ x. not (is_thread t x)) es)) n) [
      | true ↦ λ q. elim (pointwise nat_eq e.1 n) as (λ b. without t (map (λ e. e.0) (cond b (e ∷ filter (λ e. pointwise nat_eq e.1 n) es) (filter (λ e. pointwise nat_eq e.1 n) es))) ≡ waiters_in (where_key nat_cmp (λ x. not (is_thread t x)) es) n) [
        | true ↦ ap (λ c. cond (not c) (e.0 ∷ without t (waiters_in es n)) (without t (waiters_in es n))) (tied ∙ q) ∙ rest
        | false ↦ rest
      ]
      | false ↦ λ q. elim (pointwise nat_eq e.1 n) as (λ b. without t (map (λ e. e.0) (cond b (e ∷ filter (λ e. pointwise nat_eq e.1 n) es) (filter (λ e. pointwise nat_eq e.1 n) es))) ≡ map (λ e. e.0) (cond b (e ∷ filter (λ e. pointwise nat_eq e.1 n) (where_key nat_cmp (λ x. not (is_thread t x)) es)) (filter (λ e. pointwise nat_eq e.1 n) (where_key nat_cmp (λ x. not (is_thread t x)) es)))) [
        | true ↦ ap (λ c. cond (not c) (e.0 ∷ without t (waiters_in es n)) (without t (waiters_in es n))) (tied ∙ q) ∙ ap (λ us. e.0 ∷ us) rest
        | false ↦ rest
      ]
    ] refl

-- a new wait for another name
put_elsewhere : (t : ℕ) (n m : List ℕ) (es : List (ℕ × List ℕ)) → pointwise nat_eq n m ≡ false → find nat_cmp t es ≡ None → waiters_in (put nat_cmp t n es) m ≡ waiters_in es m
put_elsewhere t n m [] other none = ap (λ b. map (λ (e : ℕ × List ℕ). e.0) (cond b ((t, n) ∷ []) [])) other
put_elsewhere t n m (e ∷ es) other none =
    elim (nat_cmp t e.0) as (λ r. cond (is_eq r) (Some e.1) (find nat_cmp t es) ≡ None → waiters_in (by_order r ((t, n) ∷ e ∷ es) ((e.0, n) ∷ es) (e ∷ put nat_cmp t n es)) m ≡ waiters_in (e ∷ es) m) [
      | Less ↦ λ _. ap (λ b. map (λ (e : ℕ × List ℕ). e.0) (cond b ((t, n) ∷ filter (λ e. pointwise nat_eq e.1 m) (e ∷ es)) (filter (λ e. pointwise nat_eq e.1 m) (e ∷ es)))) other
      | Equal ↦ λ there. absurd (false≢true (sym (ap is_some there)))
      | Greater ↦ λ left.
          let rest = put_elsewhere t n m es other left in
          elim (pointwise nat_eq e.1 m) as (λ b. map (λ e. e.0) (cond b (e ∷ filter (λ e. pointwise nat_eq e.1 m) (put nat_cmp t n es)) (filter (λ e. pointwise nat_eq e.1 m) (put nat_cmp t n es))) ≡ map (λ e. e.0) (cond b (e ∷ filter (λ e. pointwise nat_eq e.1 m) es) (filter (λ e. pointwise nat_eq e.1 m) es))) [
            | true ↦ ap (λ us. e.0 ∷ us) rest
            | false ↦ rest
          ]
    ] none

-- ---- waits as maps

turned : {X : Type 0} (b : Bool) (x y : X) → cond (not b) x y ≡ cond b y x
turned true x y = refl
turned false x y = refl

abbrev is_other : ℕ → ℕ → Bool
is_other t u = not (is_thread t u)

entries_removed : (waits : Waits) (t : ℕ) → entries (remove waits t) ≡ where_key nat_cmp (λ x. not (is_thread t x)) (entries waits)
entries_removed waits t =
    let sorted = is_sorted-where_key nat_cmp (is_other t) (entries waits) (entries_sorted waits) in
    let same : from_sorted {R = nat_cmp} (where_key nat_cmp (is_other t) (entries waits)) ≡ remove waits t = same_map nat_cmp_total nat_cmp-IsAntisymmetric _ _ (λ u.
    get-from_sorted nat_cmp (where_key nat_cmp (is_other t) (entries waits)) u sorted
    ∙ find-where_key nat_cmp (is_other t) u (λ x h. ap (is_other t) (sym (nat_cmp-IsAntisymmetric u x h))) (entries waits)
    ∙ turned (is_thread t u) (find nat_cmp u (entries waits)) None
    ∙ ap (λ b. cond b None (find nat_cmp u (entries waits))) ((eq_by_cmp_equiv nat_cmp_total).symm t u)
    ∙ ap (cond (is_thread u t) None) (sym (get-entries waits u))
    ∙ sym (get-remove nat_cmp_total waits t u)) in
    ap entries (sym same) ∙ entries-from_sorted nat_cmp (where_key nat_cmp (is_other t) (entries waits)) sorted

module _ (waits : Waits) (t : ℕ) where
  -- a thread that waits no longer is in no queue
  pub threads_removed : (n : List ℕ) → threads (remove waits t) n ≡ without t (threads waits n)
  threads_removed n = ap (λ es. waiters_in es n) (entries_removed waits t) ∙ sym (without_waiters t n (entries waits))

  idle : get (remove waits t) t ≡ None
  idle = get-remove nat_cmp_total waits t t ∙ ap (λ b. cond b None (get waits t)) ((eq_by_cmp_equiv nat_cmp_total).refl t)

  joins_elsewhere : (n m : List ℕ) → get waits t ≡ None → is_name m n ≡ false → threads (insert waits t n) m ≡ threads waits m
  joins_elsewhere n m none other =
      ap (λ es. waiters_in es m) (entries-insert nat_cmp_total waits t n)
      ∙ put_elsewhere t n m (entries waits) (other_name n m other) (sym (get-entries waits t) ∙ none)

same_thread : (u t : ℕ) → is_thread u t ≡ true → u ≡ t
same_thread u t h = eqb-true u t (sym (unsigned_tied u t) ∙ h)

twice : {X : Type 0} (b : Bool) (x y z : X) → cond b x (cond b y z) ≡ cond b x z
twice true x y z = refl
twice false x y z = refl

module _ (waits : Waits) (t : ℕ) where
  -- to wait anew is to wait no longer, and then to wait
  anew : (n : List ℕ) → insert (remove waits t) t n ≡ insert waits t n
  anew n = same_map nat_cmp_total nat_cmp-IsAntisymmetric _ _ (λ u.
      get-insert nat_cmp_total (remove waits t) t n u ∙ ap (cond (is_thread u t) (Some n)) (get-remove nat_cmp_total waits t u)
      ∙ twice (is_thread u t) (Some n) None (get waits u) ∙ sym (get-insert nat_cmp_total waits t n u))

  -- what a thread awaited is put back
  pub put_back : (n : List ℕ) → get waits t ≡ Some n → (o : List ℕ) → insert (insert waits t o) t n ≡ waits
  put_back n is o = same_map nat_cmp_total nat_cmp-IsAntisymmetric _ _ (λ u.
      get-insert nat_cmp_total (insert waits t o) t n u ∙ ap (cond (is_thread u t) (Some n)) (get-insert nat_cmp_total waits t o u)
      ∙ twice (is_thread u t) (Some n) (Some o) (get waits u) ∙ back u)
    where
      back : (u : ℕ) → cond (is_thread u t) (Some n) (get waits u) ≡ get waits u
      back u = elim (is_thread u t) as (λ b. is_thread u t ≡ b → cond b (Some n) (get waits u) ≡ get waits u) [
        | true ↦ λ p. sym is ∙ ap (get waits) (sym (same_thread u t p))
        | false ↦ λ p. refl
      ] refl

  pub taken_back : (o : List ℕ) → get waits t ≡ None → remove (insert waits t o) t ≡ waits
  taken_back o none = same_map nat_cmp_total nat_cmp-IsAntisymmetric _ _ (λ u.
      get-remove nat_cmp_total (insert waits t o) t u ∙ ap (cond (is_thread u t) None) (get-insert nat_cmp_total waits t o u)
      ∙ twice (is_thread u t) None (Some o) (get waits u) ∙ back u)
    where
      back : (u : ℕ) → cond (is_thread u t) None (get waits u) ≡ get waits u
      back u = elim (is_thread u t) as (λ b. is_thread u t ≡ b → cond b None (get waits u) ≡ get waits u) [
        | true ↦ λ p. sym none ∙ ap (get waits) (sym (same_thread u t p))
        | false ↦ λ p. refl
      ] refl

  not_there : get waits t ≡ None → remove waits t ≡ waits
  not_there none = same_map nat_cmp_total nat_cmp-IsAntisymmetric _ _ (λ u. get-remove nat_cmp_total waits t u ∙ back u)
    where
      back : (u : ℕ) → cond (is_thread u t) None (get waits u) ≡ get waits u
      back u = elim (is_thread u t) as (λ b. is_thread u t ≡ b → cond b None (get waits u) ≡ get waits u) [
        | true ↦ λ p. sym none ∙ ap (get waits) (sym (same_thread u t p))
        | false ↦ λ p. refl
      ] refl

  -- to wait for the same name again changes nothing
  pub already : (n : List ℕ) → get waits t ≡ Some n → insert waits t n ≡ waits
  already n is = same_map nat_cmp_total nat_cmp-IsAntisymmetric _ _ (λ u. get-insert nat_cmp_total waits t n u ∙ back u)
    where
      back : (u : ℕ) → cond (is_thread u t) (Some n) (get waits u) ≡ get waits u
      back u = elim (is_thread u t) as (λ b. is_thread u t ≡ b → cond b (Some n) (get waits u) ≡ get waits u) [
        | true ↦ λ p. sym is ∙ ap (get waits) (sym (same_thread u t p))
        | false ↦ λ p. refl
      ] refl

  -- a thread that waits for another name, or for none, is not in the queue
  pub stays_without : (m : List ℕ) (o : Option (List ℕ)) → get waits t ≡ o → ((n : List ℕ) → o ≡ Some n → is_name m n ≡ false) → threads (remove waits t) m ≡ threads waits m
  stays_without m None is other = ap (λ w. threads w m) (not_there is)
  stays_without m (Some n) is other =
      sym (joins_elsewhere (remove waits t) t n m (idle waits t) (other n refl)) ∙ ap (λ w. threads w m) (anew n ∙ already n is)

  -- of a name that is not the new one, who waits anew leaves the queue
  pub threads_anew : (n m : List ℕ) → is_name m n ≡ false → threads (insert waits t n) m ≡ without t (threads waits m)
  threads_anew n m other =
      ap (λ w. threads w m) (sym (anew n)) ∙ joins_elsewhere (remove waits t) t n m (idle waits t) other ∙ threads_removed waits t m

no_items : {X : Type 0} (xs : List X) → length xs ≡ 0 → xs ≡ []
no_items [] h = refl
no_items (x ∷ xs) h = cc

-- ---- queues

module _ (queues : Queues) (n : List ℕ) where
  pub queue_given : (us m : List ℕ) → queue_of (insert queues n us) m ≡ cond (is_name m n) us (queue_of queues m)
  queue_given us m =
      ap (λ o. unwrap_or o []) (get-insert nat_list_cmp_total queues n us m)
      ∙ elim (is_name m n) as (λ b. unwrap_or (cond b (Some us) (get queues m)) [] ≡ cond b us (queue_of queues m)) [ true ↦ refl | false ↦ refl ]

  queue_dropped : (m : List ℕ) → queue_of (remove queues n) m ≡ cond (is_name m n) [] (queue_of queues m)
  queue_dropped m =
      ap (λ o. unwrap_or o []) (get-remove nat_list_cmp_total queues n m)
      ∙ elim (is_name m n) as (λ b. unwrap_or (cond b None (get queues m)) [] ≡ cond b [] (queue_of queues m)) [ true ↦ refl | false ↦ refl ]

  -- an empty queue is as good as none
  queue_tidied : (m : List ℕ) → queue_of (tidied queues n) m ≡ queue_of queues m
  queue_tidied m =
      elim (eqb (length (queue_of queues n)) 0) as (λ b. eqb (length (queue_of queues n)) 0 ≡ b → queue_of (cond b (remove queues n) queues) m ≡ queue_of queues m) [
        | true ↦ λ p. queue_dropped m ∙ elim (is_name m n) as (λ b. is_name m n ≡ b → cond b [] (queue_of queues m) ≡ queue_of queues m) [
          | true ↦ λ q. sym (no_items (queue_of queues n) (eqb-true _ 0 p)) ∙ ap (queue_of queues) (sym (same_name m n q))
          | false ↦ λ q. refl
        ] refl
        | false ↦ λ p. refl
      ] refl

  queue_shortened_by : (t : ℕ) (m : List ℕ) (o : Option (List ℕ)) → get queues n ≡ o → queue_of (shortened_by queues n t o) m ≡ cond (is_name m n) (without t (queue_of queues m)) (queue_of queues m)
  queue_shortened_by t m None is =
      elim (is_name m n) as (λ b. is_name m n ≡ b → queue_of queues m ≡ cond b (without t (queue_of queues m)) (queue_of queues m)) [
        | true ↦ λ q. let none : queue_of queues m ≡ [] = ap (queue_of queues) (same_name m n q) ∙ ap (λ o. unwrap_or o []) is in none ∙ sym (ap (without t) none)
        | false ↦ λ q. refl
      ] refl
  queue_shortened_by t m (Some us) is =
      queue_given (without t us) m ∙ elim (is_name m n) as (λ b. is_name m n ≡ b → cond b (without t us) (queue_of queues m) ≡ cond b (without t (queue_of queues m)) (queue_of queues m)) [
        | true ↦ λ q. ap (without t) (sym (ap (queue_of queues) (same_name m n q) ∙ ap (λ o. unwrap_or o []) is))
        | false ↦ λ q. refl
      ] refl

pub queue_left : (queues : Queues) (n : List ℕ) (t : ℕ) (m : List ℕ) → queue_of (tidied (shortened queues n t) n) m ≡ cond (is_name m n) (without t (queue_of queues m)) (queue_of queues m)
queue_left queues n t m = queue_tidied (shortened queues n t) n m ∙ queue_shortened_by queues n t m (get queues n) refl

-- ---- both

nobody : (n : List ℕ) → threads empty n ≡ []
nobody n = ap (λ es. waiters_in es n) (no_items (entries (empty {X = List ℕ} {R = nat_cmp})) (sym (len-entries (empty {X = List ℕ} {R = nat_cmp})) ∙ len-empty nat_cmp (List ℕ)))

pub queued_empty : AreQueued empty empty
queued_empty = record { each = λ n. ap (λ o. unwrap_or o []) (get-empty (slice_cmp nat_cmp) n) ∙ sym (nobody n) }

module _ (queues : Queues) (waits : Waits) (sound : AreQueued queues waits) (t : ℕ) where
  -- the thread waits no longer
  pub queued_woken : (n : List ℕ) → get waits t ≡ Some n → AreQueued (tidied (shortened queues n t) n) (remove waits t)
  queued_woken n is = record {
    each = λ m. queue_left queues n t m ∙ elim (is_name m n) as (λ b. is_name m n ≡ b → cond b (without t (queue_of queues m)) (queue_of queues m) ≡ threads (remove waits t) m) [
      | true ↦ λ p. ap (without t) (sound.each m) ∙ sym (threads_removed waits t m)
      | false ↦ λ p. sound.each m ∙ sym (stays_without waits t m (Some n) is (λ k e. subst (λ o. is_name m (unwrap_or o []) ≡ false) e p))
    ] refl;
  }

  pub queued_idle : get waits t ≡ None → AreQueued queues (remove waits t)
  queued_idle none = subst (AreQueued queues) (sym (not_there waits t none)) sound

  -- the thread waits for a name whose queue is made anew; before, it waited for nothing
  pub queued_first : (n : List ℕ) → get waits t ≡ None → AreQueued (insert queues n (threads (insert waits t n) n)) (insert waits t n)
  queued_first n none = record {
    each = λ m. queue_given queues n (threads (insert waits t n) n) m ∙ elim (is_name m n) as (λ b. is_name m n ≡ b → cond b (threads (insert waits t n) n) (queue_of queues m) ≡ threads (insert waits t n) m) [
      | true ↦ λ p. ap (threads (insert waits t n)) (sym (same_name m n p))
      | false ↦ λ p. sound.each m ∙ sym (joins_elsewhere waits t n m none p)
    ] refl;
  }

  -- before, it waited for another name, whose queue it leaves
  pub queued_again : (n o : List ℕ) → get waits t ≡ Some o → is_name n o ≡ false
      → AreQueued (tidied (shortened (insert queues n (threads (insert waits t n) n)) o t) o) (insert waits t n)
  queued_again n o is other = record {
    each = λ m. queue_left (insert queues n (threads (insert waits t n) n)) o t m
        ∙ ap (λ us. cond (is_name m o) (without t us) us) (queue_given queues n (threads (insert waits t n) n) m)
        ∙ elim (is_name m n) as (λ b. is_name m n ≡ b → cond (is_name m o) (without t (cond b (threads (insert waits t n) n) (queue_of queues m))) (cond b (threads (insert waits t n) n) (queue_of queues m)) ≡ threads (insert waits t n) m) [
          | true ↦ λ p. ap (λ c. cond c (without t (threads (insert waits t n) n)) (threads (insert waits t n) n)) (ap (λ z. is_name z o) (same_name m n p) ∙ other) ∙ ap (threads (insert waits t n)) (sym (same_name m n p))
          | false ↦ λ p. elim (is_name m o) as (λ c. is_name m o ≡ c → cond c (without t (queue_of queues m)) (queue_of queues m) ≡ threads (insert waits t n) m) [
            | true ↦ λ q. ap (without t) (sound.each m) ∙ sym (threads_anew waits t n m p)
            | false ↦ λ q. sound.each m ∙ sym (stays_without waits t m (Some o) is (λ k e. subst (λ z. is_name m (unwrap_or z []) ≡ false) e q)) ∙ threads_removed waits t m ∙ sym (threads_anew waits t n m p)
          ] refl
        ] refl;
  }

  -- the same where it waits for that name already
  pub queued_same : (n : List ℕ) → get waits t ≡ Some n → AreQueued queues (insert waits t n)
  queued_same n is = subst (AreQueued queues) (sym (already waits t n is)) sound

-- ---- calls that may fail

-- what a thread awaited is put back, which wants no memory
pub restored : {A E : Type 0} (r : Result A E) (waits now after : Waits) (t : ℕ) (name prior : List ℕ) → OnOk r (after ≡ insert now t prior) → OnErr r (get now t ≡ None) → now ≡ insert waits t name → get waits t ≡ Some prior → after ≡ waits
restored (Ok x) waits now after t name prior ok absent is was = ok ∙ ap (λ w. insert w t prior) is ∙ put_back waits t prior was name
restored (Err e) waits now after t name prior ok absent is was =
    let there : get (insert waits t name) t ≡ Some name = get-insert nat_cmp_total waits t name t ∙ ap (λ b. cond b (Some name) (get waits t)) ((eq_by_cmp_equiv nat_cmp_total).refl t) in
    absurd (false≢true (ap is_some (sym absent ∙ ap (λ w. get w t) is ∙ there)))

abbrev Sound : FinMap (slice_cmp nat_cmp) Lock → Queues → Waits → Type 0
Sound locks queues waits = IsAcyclic (record { locks = locks; waits = waits }) × AreQueued queues waits

-- the table stays sound whether a call went well or not
pub sound_by : {A E : Type 0} (r : Result A E) (locks : FinMap (slice_cmp nat_cmp) Lock) (queues new_queues next_queues : Queues) (waits new_waits next_waits : Waits)
    → OnOk r (new_waits ≡ next_waits) → OnOk r (new_queues ≡ next_queues) → OnErr r (new_waits ≡ waits) → OnErr r (new_queues ≡ queues)
    → Sound locks queues waits → Sound locks next_queues next_waits → Sound locks new_queues new_waits
sound_by (Ok x) locks queues new_queues next_queues waits new_waits next_waits w q ew eq old next =
    subst (λ z. Sound locks new_queues z) (sym w) (subst (λ z. Sound locks z next_waits) (sym q) next)
sound_by (Err e) locks queues new_queues next_queues waits new_waits next_waits w q ew eq old next =
    subst (λ z. Sound locks new_queues z) (sym ew) (subst (λ z. Sound locks z waits) (sym eq) old)
