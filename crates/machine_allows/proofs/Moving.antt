-- What each kind of change does to what a thread holds, and that it leaves what the others hold.
use Rattle.std.proofs.Common.{◌≡◌, ◌≢◌, ℕ, ◌+◌, ◌<◌, arith, Bool, true, false, cond, ◌&&◌, List, [], ◌∷◌, ◌++◌, length, Option, Some, None, refl, sym, ap, subst, ◌∙◌, inl, inr}
use Rattle.std.specs.Prelude.{nat_eq, slice_get, slice_set, is_none, is_some}
use Rattle.std.specs.Cmp.{nat_cmp_total, eq_by_cmp_equiv}
use Rattle.std.specs.Cmp.Lexicographic.{pointwise, nat_list_cmp_total, nat_list_eq_equiv}
use Rattle.std.specs.Ordering.{nat_cmp, eq_by_cmp}
use Rattle.std.specs.FinMap.{get, insert, remove, get-insert, get-remove}
use Rattle.std.proofs.lemmas.Bool.{false≢true}
use Rattle.std.proofs.lemmas.Bool.Decides.{nat_tests}
use Rattle.module_lock.specs.Table.{is_free, got, given, waiting, woken}
use Rattle.module_table.specs.declared.module.LoadKind.{LoadKind}
use Rattle.module_table.specs.declared.module.LoadKind.TheVariants as load_kinds
use Rattle.module_table.specs.declared.module.LoadStage.TheVariants as stages
use Rattle.module_table.specs.declared.module.Phase.TheVariants as phases
use Rattle.module_table.specs.declared.module.Reload.{Reload}
use Rattle.machine_spec.specs.Parts.{is_open, is_imported}
use Rattle.machine_spec.specs.Allowed.{is_reload}
use Rattle.machine_laws.specs.Bones.{Bones, Module, Body, counts_in, opens, held}
use Rattle.machine_laws.specs.Sound.{AreSound}
use Rattle.machine_laws.proofs.Counts.{bit, opens_push, opens_set}
use Rattle.machine_laws.proofs.Holds.{same_text, same_name, same_self}
use Rattle.machine_laws.proofs.Lists.{pushed_last, pushed_at, set_at, within}
use Rattle.machine_laws.proofs.Moves.{made}
use Rattle.machine_laws.proofs.Changes.{opens_made}
use Rattle.machine_laws.proofs.Stages.{staged, opens_staged}
use Rattle.machine_laws.proofs.Kept.{not_main}
use Rattle.machine_shown.specs.Holdings.{Holding, Taken, Loading, Reloading, is_holding, without, becoming}
use Rattle.machine_shown.specs.Shown.{Doing, Running, Waiting, Over}
use Rattle.machine_allows.proofs.Times.{times, times_without, times_becoming, holding_self}
use Rattle.machine_allows.proofs.Locks.{got_own, got_other, given_own, given_other, counted_got, counted_given}
use Rattle.machine_allows.proofs.Agreeing.{opened_by, reloads_by, Agrees, Apart, Backed, opened_push, opened_set, reloads_set, reloads_push, reloads_moved, reload_own, reload_other, opened_own, opened_other, opened_not, opened_reload, counts_here, counts_other, counts_closed}

same_number : (x t : ℕ) → eq_by_cmp nat_cmp x t ≡ true → x ≡ t
same_number x t h = grind (arith, nat_tests)

other_number : (x t : ℕ) → x ≢ t → eq_by_cmp nat_cmp x t ≡ false
other_number x t other = elim (eq_by_cmp nat_cmp x t) as (λ c. eq_by_cmp nat_cmp x t ≡ c → c ≡ false) [ true ↦ λ p. absurd (other (same_number x t p)) | false ↦ λ p. refl ] refl

no_bit : (c d : Bool) → d ≡ false → bit (c && d) ≡ 0
no_bit true d h = ap bit h
no_bit false d h = refl

whole_bit : (c d : Bool) → d ≡ true → bit (c && d) ≡ bit c
whole_bit true d h = ap bit h
whole_bit false d h = refl

not_reload : (kind : LoadKind) → is_imported kind ≡ true → kind ≡ load_kinds.Reload → ⊥
not_reload kind imported is = false≢true (sym (ap is_imported is) ∙ imported)

module _ (b : Bones) (sound : AreSound b) (backed : Backed b) (u : ℕ) where
  -- a wait begins, and ends
  pub own_waits : (n : List ℕ) (list : List Holding) (doing : Doing) → is_some (get b.ended u) ≡ false → Agrees b u list doing → Agrees (record b { locks = waiting b.locks u n }) u list Waiting
  own_waits n list doing going g = record {
    takes = g.takes;
    bodies = g.bodies;
    reloads = g.reloads;
    waits = ap is_none (get-insert nat_cmp_total b.locks.waits u n u ∙ ap (λ c. cond c (Some n) (get b.locks.waits u)) ((eq_by_cmp_equiv nat_cmp_total).refl u));
    over = going;
  }

  pub other_waits : (n : List ℕ) (t : ℕ) → t ≢ u → Apart b (record b { locks = waiting b.locks u n }) t
  other_waits n t other = record {
    takes = λ m. refl;
    counts = λ m. refl;
    bodies = λ i. refl;
    reloads = λ mid load. refl;
    waits = get-insert nat_cmp_total b.locks.waits u n t ∙ ap (λ c. cond c (Some n) (get b.locks.waits t)) (other_number t u other);
    over = refl;
  }

  pub own_wakes : (list : List Holding) (doing : Doing) → is_some (get b.ended u) ≡ false → Agrees b u list doing → Agrees (record b { locks = woken b.locks u }) u list Running
  own_wakes list doing going g = record {
    takes = g.takes;
    bodies = g.bodies;
    reloads = g.reloads;
    waits = ap is_none (get-remove nat_cmp_total b.locks.waits u u ∙ ap (λ c. cond c None (get b.locks.waits u)) ((eq_by_cmp_equiv nat_cmp_total).refl u));
    over = going;
  }

  pub other_wakes : (t : ℕ) → t ≢ u → Apart b (record b { locks = woken b.locks u }) t
  other_wakes t other = record {
    takes = λ m. refl;
    counts = λ m. refl;
    bodies = λ i. refl;
    reloads = λ mid load. refl;
    waits = get-remove nat_cmp_total b.locks.waits u t ∙ ap (λ c. cond c None (get b.locks.waits t)) (other_number t u other);
    over = refl;
  }

  pub own_ends : (list : List Holding) (doing : Doing) → get b.locks.waits u ≡ None → Agrees b u list doing → Agrees (record b { ended = insert b.ended u tt }) u list Over
  own_ends list doing idle g = record {
    takes = g.takes;
    bodies = g.bodies;
    reloads = g.reloads;
    waits = ap is_none idle;
    over = ap is_some (get-insert nat_cmp_total b.ended u tt u ∙ ap (λ c. cond c (Some tt) (get b.ended u)) ((eq_by_cmp_equiv nat_cmp_total).refl u));
  }

  pub other_ends : (t : ℕ) → t ≢ u → Apart b (record b { ended = insert b.ended u tt }) t
  other_ends t other = record {
    takes = λ m. refl;
    counts = λ m. refl;
    bodies = λ i. refl;
    reloads = λ mid load. refl;
    waits = refl;
    over = ap is_some (get-insert nat_cmp_total b.ended u tt t ∙ ap (λ c. cond c (Some tt) (get b.ended t)) (other_number t u other));
  }

  -- a lock is taken, and given back
  pub own_got : (n : List ℕ) (list : List Holding) (doing : Doing) → is_free b.locks u n ≡ true → Agrees b u list doing → Agrees (record b { locks = got b.locks u n }) u (Taken n ∷ list) doing
  own_got n list doing free g = record {
    takes = λ m. let x = got_own b.locks u n free m in let y = g.takes m in omega arith;
    bodies = λ i. let y = g.bodies i in omega arith;
    reloads = λ mid load. let y = g.reloads mid load in omega arith;
    waits = g.waits;
    over = g.over;
  }

  pub other_got : (n : List ℕ) → is_free b.locks u n ≡ true → (t : ℕ) → t ≢ u → Apart b (record b { locks = got b.locks u n }) t
  other_got n free t other = record {
    takes = λ m. got_other b.locks u n free t other m;
    counts = λ m. refl;
    bodies = λ i. refl;
    reloads = λ mid load. refl;
    waits = refl;
    over = refl;
  }

  pub backed_got : (n : List ℕ) → Backed (record b { locks = got b.locks u n })
  backed_got n = record { counts = counted_got b.locks backed.counts u n; again = backed.again }

  pub own_given : (n : List ℕ) (list : List Holding) (doing : Doing) → 0 < times (Taken n) list → Agrees b u list doing → Agrees (record b { locks = given b.locks u n }) u (without (Taken n) list) doing
  own_given n list doing some g =
      let here = g.takes n in
      record {
        takes = λ m. let x = given_own b.locks u n (omega arith) m in let y = g.takes m in let z = times_without (Taken n) (Taken m) list some in omega arith;
        bodies = λ i. let y = g.bodies i in let z = times_without (Taken n) (Loading i) list some in omega arith;
        reloads = λ mid load. let y = g.reloads mid load in let z = times_without (Taken n) (Reloading mid load) list some in omega arith;
        waits = g.waits;
        over = g.over;
      }

  pub other_given : (n : List ℕ) (t : ℕ) → t ≢ u → Apart b (record b { locks = given b.locks u n }) t
  other_given n t other = record {
    takes = λ m. given_other b.locks u n t other m;
    counts = λ m. refl;
    bodies = λ i. refl;
    reloads = λ mid load. refl;
    waits = refl;
    over = refl;
  }

  pub backed_given : (n : List ℕ) → Backed (record b { locks = given b.locks u n })
  backed_given n = record { counts = counted_given b.locks backed.counts u n; again = backed.again }

  low : (n : List ℕ) (r : Reload) → get b.reloads n ≡ Some r → r.mid < length b.modules
  low n r is = let fits = sound.reloads n r is in within b.modules r.mid fits.0 fits.1

  -- a module is made, whose body is open
  module _ (n : List ℕ) (going : is_some (get b.ended u) ≡ false) where
    abbrev open_made : Bones
    open_made = made b u n phases.Initialising load_kinds.Plain stages.Open

    abbrev open_body : Body
    open_body = record { kind = load_kinds.Plain; thread = u; mid = length b.modules; stage = stages.Open }

    abbrev open_module : Module
    open_module = record { name = n; phase = phases.Initialising; load = Some (length b.bodies) }

    pub own_made : (list : List Holding) (doing : Doing) → 0 < times (Taken n) list → Agrees b u list doing → Agrees open_made u (becoming (Taken n) (Loading (length b.bodies)) list) doing
    own_made list doing some g = record {
      takes = λ m.
          let x : opens open_made u m ≡ opens b u m + bit (counts_in open_made u m open_body) = opens_made b sound u n load_kinds.Plain stages.Open refl going u m in
          let y : bit (counts_in open_made u m open_body) ≡ bit (pointwise nat_eq m n) = counts_here open_made open_body open_module (pushed_last b.modules open_module) refl refl m in
          let z = times_becoming (Taken n) (Loading (length b.bodies)) (Taken m) list some in
          let w = g.takes m in
          omega arith;
      bodies = λ i.
          let x = opened_push u b.bodies open_body i in
          let y = whole_bit (nat_eq i (length b.bodies)) (opened_by u (Some open_body)) (opened_own u open_body refl refl refl) in
          let z = times_becoming (Taken n) (Loading (length b.bodies)) (Loading i) list some in
          let w = g.bodies i in
          omega arith;
      reloads = λ mid load.
          let x = reloads_push b.reloads u b.modules open_module low mid load in
          let z = times_becoming (Taken n) (Loading (length b.bodies)) (Reloading mid load) list some in
          let w = g.reloads mid load in
          omega arith;
      waits = g.waits;
      over = g.over;
    }

    pub other_made : (t : ℕ) → t ≢ u → Apart b open_made t
    other_made t other = record {
      takes = λ m. refl;
      counts = λ m.
          let x : opens open_made t m ≡ opens b t m + bit (counts_in open_made t m open_body) = opens_made b sound u n load_kinds.Plain stages.Open refl going t m in
          let y : bit (counts_in open_made t m open_body) ≡ 0 = counts_other open_made t open_body open_module (pushed_last b.modules open_module) other m in
          omega arith;
      bodies = λ i.
          let x = opened_push t b.bodies open_body i in
          let y = no_bit (nat_eq i (length b.bodies)) (opened_by t (Some open_body)) (opened_other t open_body (λ e. other (sym e))) in
          omega arith;
      reloads = λ mid load. reloads_push b.reloads t b.modules open_module low mid load;
      waits = refl;
      over = refl;
    }

    pub backed_made : Backed open_made
    backed_made = record {
      counts = backed.counts;
      again = λ i l is opened kind. elim (pushed_at b.bodies open_body i l is) [
        | inl old ↦ backed.again i l old opened kind
        | inr new ↦ absurd (not_reload l.kind (ap (λ (z : Body). is_imported z.kind) new.1) kind)
      ];
    }

    -- a module is made whose body rests, and the lock is given back
    abbrev lazy_made : Bones
    lazy_made = made b u n phases.Lazy load_kinds.Lazy stages.Resting

    abbrev lazy_given : Bones
    lazy_given = record lazy_made { locks = given b.locks u n }

    abbrev lazy_body : Body
    lazy_body = record { kind = load_kinds.Lazy; thread = u; mid = length b.modules; stage = stages.Resting }

    abbrev lazy_module : Module
    lazy_module = record { name = n; phase = phases.Lazy; load = Some (length b.bodies) }

    lazy_counts : (t : ℕ) (m : List ℕ) → opens lazy_given t m ≡ opens b t m
    lazy_counts t m =
        let x : opens lazy_made t m ≡ opens b t m + bit (counts_in lazy_made t m lazy_body) = opens_made b sound u n load_kinds.Lazy stages.Resting refl going t m in
        let y : bit (counts_in lazy_made t m lazy_body) ≡ 0 = counts_closed lazy_made t lazy_body refl m in
        omega arith

    lazy_bodies : (t i : ℕ) → bit (opened_by t (slice_get (b.bodies ++ lazy_body ∷ []) i)) ≡ bit (opened_by t (slice_get b.bodies i))
    lazy_bodies t i =
        let x = opened_push t b.bodies lazy_body i in
        let y = no_bit (nat_eq i (length b.bodies)) (opened_by t (Some lazy_body)) (opened_not t lazy_body refl) in
        omega arith

    pub own_lazy : (list : List Holding) (doing : Doing) → 0 < times (Taken n) list → Agrees b u list doing → Agrees lazy_given u (without (Taken n) list) doing
    own_lazy list doing some g =
        let here = g.takes n in
        record {
          takes = λ m. let x = given_own b.locks u n (omega arith) m in let y = g.takes m in let z = times_without (Taken n) (Taken m) list some in let w = lazy_counts u m in omega arith;
          bodies = λ i. let y = g.bodies i in let z = times_without (Taken n) (Loading i) list some in let w = lazy_bodies u i in omega arith;
          reloads = λ mid load.
              let x = reloads_push b.reloads u b.modules lazy_module low mid load in
              let y = g.reloads mid load in
              let z = times_without (Taken n) (Reloading mid load) list some in
              omega arith;
          waits = g.waits;
          over = g.over;
        }

    pub other_lazy : (t : ℕ) → t ≢ u → Apart b lazy_given t
    other_lazy t other = record {
      takes = λ m. given_other b.locks u n t other m;
      counts = λ m. lazy_counts t m;
      bodies = λ i. lazy_bodies t i;
      reloads = λ mid load. reloads_push b.reloads t b.modules lazy_module low mid load;
      waits = refl;
      over = refl;
    }

    pub backed_lazy : Backed lazy_given
    backed_lazy = record {
      counts = counted_given b.locks backed.counts u n;
      again = λ i l is opened kind. elim (pushed_at b.bodies lazy_body i l is) [
        | inl old ↦ backed.again i l old opened kind
        | inr new ↦ absurd (not_reload l.kind (ap (λ (z : Body). is_imported z.kind) new.1) kind)
      ];
    }

  -- a load of kind Plain or Lazy goes on with its module
  module _ (load : ℕ) (l : Body) (m : Module) (is : slice_get b.bodies load ≡ Some l) (there : slice_get b.modules l.mid ≡ Some m) (imported : is_imported l.kind ≡ true) where
    -- it ends, and the lock is given back
    abbrev shut_body : Body
    shut_body = record { kind = l.kind; thread = u; mid = l.mid; stage = stages.Ended }

    abbrev shut_module : Module
    shut_module = record { name = m.name; phase = phases.Ready; load = m.load }

    abbrev pub closed_given : Bones
    closed_given = record (staged b sound load l m is there imported u stages.Ended) { locks = given b.locks u m.name }

    closed_counts : (t : ℕ) (n : List ℕ) → opens closed_given t n + bit (counts_in b t n l) ≡ opens b t n
    closed_counts t n =
        let x : opens closed_given t n + bit (counts_in b t n l) ≡ opens b t n + bit (counts_in b t n shut_body) = opens_staged b sound load l m is there imported u stages.Ended t n in
        let y : bit (counts_in b t n shut_body) ≡ 0 = counts_closed b t shut_body refl n in
        omega arith

    closed_bodies : (t i : ℕ) → bit (opened_by t (slice_get (slice_set b.bodies load shut_body) i)) + bit (nat_eq i load && opened_by t (Some l)) ≡ bit (opened_by t (slice_get b.bodies i))
    closed_bodies t i =
        let x = opened_set t b.bodies load l shut_body is i in
        let y = no_bit (nat_eq i load) (opened_by t (Some shut_body)) (opened_not t shut_body refl) in
        omega arith

    pub own_closed : (list : List Holding) (doing : Doing) → is_open l.stage ≡ true → l.thread ≡ u → Agrees b u list doing → Agrees closed_given u (without (Loading load) list) doing
    own_closed list doing opened own g =
        let mine : opened_by u (Some l) ≡ true = opened_own u l opened own imported in
        let one : times (Loading load) list ≡ 1 = g.bodies load ∙ ap (λ o. bit (opened_by u o)) is ∙ ap bit mine in
        let some : 0 < times (Loading load) list = omega arith in
        let count : (n : List ℕ) → bit (counts_in b u n l) ≡ bit (pointwise nat_eq n m.name) = λ n. ap (λ z. bit (counts_in b z n l)) (sym own) ∙ counts_here b l m there opened (not_main l.kind imported) n in
        let held_some : 0 < held b.locks u m.name = let x = closed_counts u m.name in let y = count m.name in let z = self m.name in let w = g.takes m.name in omega arith in
        record {
          takes = λ n. let x = given_own b.locks u m.name held_some n in let y = closed_counts u n in let c = count n in let w = g.takes n in let z = times_without (Loading load) (Taken n) list some in omega arith;
          bodies = λ i. let x = closed_bodies u i in let y = whole_bit (nat_eq i load) (opened_by u (Some l)) mine in let w = g.bodies i in let z = times_without (Loading load) (Loading i) list some in omega arith;
          reloads = λ mid q. let x = reloads_set b.reloads u b.modules l.mid m shut_module there refl mid q in let w = g.reloads mid q in let z = times_without (Loading load) (Reloading mid q) list some in omega arith;
          waits = g.waits;
          over = g.over;
        }
      where
        self : (n : List ℕ) → bit (pointwise nat_eq n n) ≡ 1
        self n = ap bit (nat_list_eq_equiv.refl n)

    pub other_closed : is_open l.stage ≡ true → l.thread ≡ u → (t : ℕ) → t ≢ u → Apart b closed_given t
    other_closed opened own t other =
        let away : t ≢ l.thread = λ e. other (e ∙ own) in
        record {
          takes = λ n. given_other b.locks u m.name t other n;
          counts = λ n. let x = closed_counts t n in let y = counts_other b t l m there away n in omega arith;
          bodies = λ i. let x = closed_bodies t i in let y = no_bit (nat_eq i load) (opened_by t (Some l)) (opened_other t l (λ e. away (sym e))) in omega arith;
          reloads = λ mid q. reloads_set b.reloads t b.modules l.mid m shut_module there refl mid q;
          waits = refl;
          over = refl;
        }

    pub backed_closed : Backed closed_given
    backed_closed = record {
      counts = counted_given b.locks backed.counts u m.name;
      again = λ i x at opened kind. elim (set_at b.bodies load i shut_body x at) [
        | inl here ↦ absurd (not_reload x.kind (ap (λ (z : Body). is_imported z.kind) here.1 ∙ imported) kind)
        | inr old ↦ backed.again i x old.1 opened kind
      ];
    }

    -- it rests and is opened, and the lock is taken
    abbrev begun_body : Body
    begun_body = record { kind = l.kind; thread = u; mid = l.mid; stage = stages.Open }

    abbrev begun_module : Module
    begun_module = record { name = m.name; phase = phases.Initialising; load = m.load }

    abbrev pub begun_got : Bones
    begun_got = record (staged b sound load l m is there imported u stages.Open) { locks = got b.locks u m.name }

    begun_counts : is_open l.stage ≡ false → (t : ℕ) (n : List ℕ) → opens begun_got t n ≡ opens b t n + bit (counts_in b t n begun_body)
    begun_counts rests t n =
        let x : opens begun_got t n + bit (counts_in b t n l) ≡ opens b t n + bit (counts_in b t n begun_body) = opens_staged b sound load l m is there imported u stages.Open t n in
        let y : bit (counts_in b t n l) ≡ 0 = counts_closed b t l rests n in
        omega arith

    begun_bodies : is_open l.stage ≡ false → (t i : ℕ) → bit (opened_by t (slice_get (slice_set b.bodies load begun_body) i)) ≡ bit (opened_by t (slice_get b.bodies i)) + bit (nat_eq i load && opened_by t (Some begun_body))
    begun_bodies rests t i =
        let x = opened_set t b.bodies load l begun_body is i in
        let y = no_bit (nat_eq i load) (opened_by t (Some l)) (opened_not t l rests) in
        omega arith

    pub own_begun : (list : List Holding) (doing : Doing) → is_open l.stage ≡ false → is_free b.locks u m.name ≡ true → Agrees b u list doing → Agrees begun_got u (Loading load ∷ list) doing
    own_begun list doing rests free g = record {
      takes = λ n.
          let x = got_own b.locks u m.name free n in
          let y = begun_counts rests u n in
          let c : bit (counts_in b u n begun_body) ≡ bit (pointwise nat_eq n m.name) = counts_here b begun_body m there refl (not_main l.kind imported) n in
          let w = g.takes n in
          omega arith;
      bodies = λ i.
          let x = begun_bodies rests u i in
          let y = whole_bit (nat_eq i load) (opened_by u (Some begun_body)) (opened_own u begun_body refl refl imported) in
          let w = g.bodies i in
          omega arith;
      reloads = λ mid q. let x = reloads_set b.reloads u b.modules l.mid m begun_module there refl mid q in let w = g.reloads mid q in omega arith;
      waits = g.waits;
      over = g.over;
    }

    pub other_begun : is_open l.stage ≡ false → is_free b.locks u m.name ≡ true → (t : ℕ) → t ≢ u → Apart b begun_got t
    other_begun rests free t other = record {
      takes = λ n. got_other b.locks u m.name free t other n;
      counts = λ n. let x = begun_counts rests t n in let y : bit (counts_in b t n begun_body) ≡ 0 = counts_other b t begun_body m there other n in omega arith;
      bodies = λ i. let x = begun_bodies rests t i in let y = no_bit (nat_eq i load) (opened_by t (Some begun_body)) (opened_other t begun_body (λ e. other (sym e))) in omega arith;
      reloads = λ mid q. reloads_set b.reloads t b.modules l.mid m begun_module there refl mid q;
      waits = refl;
      over = refl;
    }

    pub backed_begun : Backed begun_got
    backed_begun = record {
      counts = counted_got b.locks backed.counts u m.name;
      again = λ i x at opened kind. elim (set_at b.bodies load i begun_body x at) [
        | inl here ↦ absurd (not_reload x.kind (ap (λ (z : Body). is_imported z.kind) here.1 ∙ imported) kind)
        | inr old ↦ backed.again i x old.1 opened kind
      ];
    }

  -- a reload of t's begins, begins its body, and ends with it or without
  module _ (n : List ℕ) (mid : ℕ) (m : Module) (there : slice_get b.modules mid ≡ Some m) (named : m.name ≡ n) where
    abbrev fresh : Reload
    fresh = record { thread = u; mid = mid; load = None }

    abbrev pub entered : Bones
    entered = record b { reloads = insert b.reloads n fresh }

    entered_reloads : get b.reloads n ≡ None → (t k : ℕ) (q : Option ℕ) → bit (reloads_by entered.reloads t k q (slice_get b.modules k)) ≡ bit (reloads_by b.reloads t k q (slice_get b.modules k)) + bit (is_reload t k q (Some fresh))
    entered_reloads none t k q =
        let x : bit (reloads_by entered.reloads t k q (slice_get b.modules k)) + bit (is_reload t k q None) ≡ bit (reloads_by b.reloads t k q (slice_get b.modules k)) + bit (is_reload t k q (Some fresh)) =
        reloads_moved b.reloads entered.reloads b.modules n None (Some fresh) none (λ z. get-insert nat_list_cmp_total b.reloads n fresh z) (λ r h. absurd (let z : ⊥ = cc in z))
        (λ r h. let same : fresh ≡ r = cc in subst (λ (z : Reload). (m : Module) × (slice_get b.modules z.mid ≡ Some m) × (m.name ≡ n)) same (m, there, named)) t k q
        in
        omega arith

    pub own_entered : (list : List Holding) (doing : Doing) → get b.reloads n ≡ None → Agrees b u list doing → Agrees entered u (Reloading mid None ∷ list) doing
    own_entered list doing none g = record {
      takes = λ k. let w = g.takes k in omega arith;
      bodies = λ i. let w = g.bodies i in omega arith;
      reloads = λ k q. let x = entered_reloads none u k q in let y : bit (is_reload u k q (Some fresh)) ≡ bit (is_holding (Reloading k q) (Reloading mid None)) = reload_own u k q fresh refl in let w = g.reloads k q in omega arith;
      waits = g.waits;
      over = g.over;
    }

    pub other_entered : get b.reloads n ≡ None → (t : ℕ) → t ≢ u → Apart b entered t
    other_entered none t other = record {
      takes = λ k. refl;
      counts = λ k. refl;
      bodies = λ i. refl;
      reloads = λ k q. let x = entered_reloads none t k q in let y = reload_other t k q fresh (λ e. other (sym e)) in omega arith;
      waits = refl;
      over = refl;
    }

    pub backed_entered : get b.reloads n ≡ None → Backed entered
    backed_entered none = record {
      counts = backed.counts;
      again = λ i l is opened kind.
          let old = backed.again i l is opened kind in (
            old.0,
            get-insert nat_list_cmp_total b.reloads n fresh old.0 ∙ elim (same_text old.0 n) as (λ c. same_text old.0 n ≡ c → cond c (Some fresh) (get b.reloads old.0) ≡ Some (record { thread = l.thread; mid = l.mid; load = Some i })) [
              | true ↦ λ p. let e : None ≡ Some (record { thread = l.thread; mid = l.mid; load = Some i }) = sym none ∙ ap (get b.reloads) (sym (same_name old.0 n p)) ∙ old.1 in absurd (let z : ⊥ = cc in z)
              | false ↦ λ p. old.1
            ] refl,
          );
    }

    abbrev reload_body : Body
    reload_body = record { kind = load_kinds.Reload; thread = u; mid = mid; stage = stages.Open }

    abbrev running : Reload
    running = record { thread = u; mid = mid; load = Some (length b.bodies) }

    abbrev pub started : Bones
    started = record b { locks = got b.locks u n; bodies = b.bodies ++ reload_body ∷ []; reloads = insert b.reloads n running }

    started_reloads : get b.reloads n ≡ Some fresh → (t k : ℕ) (q : Option ℕ) → bit (reloads_by started.reloads t k q (slice_get b.modules k)) + bit (is_reload t k q (Some fresh)) ≡ bit (reloads_by b.reloads t k q (slice_get b.modules k)) + bit (is_reload t k q (Some running))
    started_reloads runs t k q =
        reloads_moved b.reloads started.reloads b.modules n (Some fresh) (Some running) runs (λ z. get-insert nat_list_cmp_total b.reloads n running z)
        (λ r h. let same : fresh ≡ r = cc in subst (λ (z : Reload). (m : Module) × (slice_get b.modules z.mid ≡ Some m) × (m.name ≡ n)) same (m, there, named))
        (λ r h. let same : running ≡ r = cc in subst (λ (z : Reload). (m : Module) × (slice_get b.modules z.mid ≡ Some m) × (m.name ≡ n)) same (m, there, named)) t k q

    started_bodies : (t i : ℕ) → bit (opened_by t (slice_get (b.bodies ++ reload_body ∷ []) i)) ≡ bit (opened_by t (slice_get b.bodies i))
    started_bodies t i =
        let x = opened_push t b.bodies reload_body i in
        let y = no_bit (nat_eq i (length b.bodies)) (opened_by t (Some reload_body)) (opened_reload t reload_body refl) in
        omega arith

    pub own_started : (list : List Holding) (doing : Doing) → get b.reloads n ≡ Some fresh → is_free b.locks u n ≡ true → Agrees b u list doing → Agrees started u (becoming (Reloading mid None) (Reloading mid (Some (length b.bodies))) list) doing
    own_started list doing runs free g =
        let new : Holding = Reloading mid (Some (length b.bodies)) in
        let own_old : (k : ℕ) (q : Option ℕ) → bit (is_reload u k q (Some fresh)) ≡ bit (is_holding (Reloading k q) (Reloading mid None)) = λ k q. reload_own u k q fresh refl in
        let some : 0 < times (Reloading mid None) list =
        let w = g.reloads mid None in
        let e : bit (reloads_by b.reloads u mid None (slice_get b.modules mid)) ≡ bit (is_holding (Reloading mid None) (Reloading mid None)) =
        ap (λ o. bit (reloads_by b.reloads u mid None o)) there ∙ ap (λ z. bit (is_reload u mid None (get b.reloads z))) named ∙ ap (λ o. bit (is_reload u mid None o)) runs ∙ own_old mid None in
        let one : bit (is_holding (Reloading mid None) (Reloading mid None)) ≡ 1 = ap bit (holding_self (Reloading mid None)) in
        omega arith in
        record {
          takes = λ k.
              let x = got_own b.locks u n free k in
              let y : opens started u k ≡ opens b u k + bit (counts_in b u k reload_body) = opens_push b reload_body u k in
              let c : bit (counts_in b u k reload_body) ≡ bit (pointwise nat_eq k n) = counts_here b reload_body m there refl refl k ∙ ap (λ z. bit (pointwise nat_eq k z)) named in
              let w = g.takes k in
              let z = times_becoming (Reloading mid None) new (Taken k) list some in
              omega arith;
          bodies = λ i. let x = started_bodies u i in let w = g.bodies i in let z = times_becoming (Reloading mid None) new (Loading i) list some in omega arith;
          reloads = λ k q.
              let x = started_reloads runs u k q in
              let y = own_old k q in
              let v : bit (is_reload u k q (Some running)) ≡ bit (is_holding (Reloading k q) new) = reload_own u k q running refl in
              let w = g.reloads k q in
              let z = times_becoming (Reloading mid None) new (Reloading k q) list some in
              omega arith;
          waits = g.waits;
          over = g.over;
        }

    pub other_started : get b.reloads n ≡ Some fresh → is_free b.locks u n ≡ true → (t : ℕ) → t ≢ u → Apart b started t
    other_started runs free t other = record {
      takes = λ k. got_other b.locks u n free t other k;
      counts = λ k. let x : opens started t k ≡ opens b t k + bit (counts_in b t k reload_body) = opens_push b reload_body t k in let y : bit (counts_in b t k reload_body) ≡ 0 = counts_other b t reload_body m there other k in omega arith;
      bodies = λ i. started_bodies t i;
      reloads = λ k q. let x = started_reloads runs t k q in let y = reload_other t k q fresh (λ e. other (sym e)) in let z = reload_other t k q running (λ e. other (sym e)) in omega arith;
      waits = refl;
      over = refl;
    }

    pub backed_started : get b.reloads n ≡ Some fresh → Backed started
    backed_started runs = record {
      counts = counted_got b.locks backed.counts u n;
      again = λ i l is opened kind. elim (pushed_at b.bodies reload_body i l is) [
        | inl old ↦
            let back = backed.again i l old opened kind in (
              back.0,
              get-insert nat_list_cmp_total b.reloads n running back.0 ∙ elim (same_text back.0 n) as (λ c. same_text back.0 n ≡ c → cond c (Some running) (get b.reloads back.0) ≡ Some (record { thread = l.thread; mid = l.mid; load = Some i })) [
                | true ↦ λ p.
                    let e : Some fresh ≡ Some (record { thread = l.thread; mid = l.mid; load = Some i }) = sym runs ∙ ap (get b.reloads) (sym (same_name back.0 n p)) ∙ back.1 in
                    let f : None ≡ Some i = same_load fresh (record { thread = l.thread; mid = l.mid; load = Some i }) e in
                    absurd (let z : ⊥ = cc in z)
                | false ↦ λ p. back.1
              ] refl,
            )
        | inr new ↦ (
          n,
          get-insert nat_list_cmp_total b.reloads n running n ∙ ap (λ c. cond c (Some running) (get b.reloads n)) (same_self n)
              ∙ ap (λ k. Some (record { thread = u; mid = mid; load = Some k })) (sym new.0)
              ∙ ap (λ (z : Body). Some (record { thread = z.thread; mid = z.mid; load = Some i })) (sym new.1),
        )
      ];
    }
      where
        same_load : (x y : Reload) → Some x ≡ Some y → x.load ≡ y.load
        same_load x y e = let f : x ≡ y = cc in ap (λ (z : Reload). z.load) f

    -- it ends, by whatever load it has
    module _ (has : Option ℕ) (runs : get b.reloads n ≡ Some (record { thread = u; mid = mid; load = has })) where
      abbrev ending : Reload
      ending = record { thread = u; mid = mid; load = has }

      left_reloads : (t k : ℕ) (q : Option ℕ) → bit (reloads_by (remove b.reloads n) t k q (slice_get b.modules k)) + bit (is_reload t k q (Some ending)) ≡ bit (reloads_by b.reloads t k q (slice_get b.modules k))
      left_reloads t k q =
          let x : bit (reloads_by (remove b.reloads n) t k q (slice_get b.modules k)) + bit (is_reload t k q (Some ending)) ≡ bit (reloads_by b.reloads t k q (slice_get b.modules k)) + bit (is_reload t k q None) =
          reloads_moved b.reloads (remove b.reloads n) b.modules n (Some ending) None runs (λ z. get-remove nat_list_cmp_total b.reloads n z)
          (λ r h. let same : ending ≡ r = cc in subst (λ (z : Reload). (m : Module) × (slice_get b.modules z.mid ≡ Some m) × (m.name ≡ n)) same (m, there, named))
          (λ r h. absurd (let z : ⊥ = cc in z)) t k q
          in
          omega arith

      own_ending : (k : ℕ) (q : Option ℕ) → bit (is_reload u k q (Some ending)) ≡ bit (is_holding (Reloading k q) (Reloading mid has))
      own_ending k q = reload_own u k q ending refl

      held_ending : (list : List Holding) (doing : Doing) → Agrees b u list doing → 0 < times (Reloading mid has) list
      held_ending list doing g =
          let w = g.reloads mid has in
          let e : bit (reloads_by b.reloads u mid has (slice_get b.modules mid)) ≡ bit (is_holding (Reloading mid has) (Reloading mid has)) =
          ap (λ o. bit (reloads_by b.reloads u mid has o)) there ∙ ap (λ z. bit (is_reload u mid has (get b.reloads z))) named ∙ ap (λ o. bit (is_reload u mid has o)) runs ∙ own_ending mid has in
          let one : bit (is_holding (Reloading mid has) (Reloading mid has)) ≡ 1 = ap bit (holding_self (Reloading mid has)) in
          omega arith

      -- without a load
      abbrev pub left : Bones
      left = record b { reloads = remove b.reloads n }

      pub own_left : (list : List Holding) (doing : Doing) → Agrees b u list doing → Agrees left u (without (Reloading mid has) list) doing
      own_left list doing g =
          let some = held_ending list doing g in
          record {
            takes = λ k. let w = g.takes k in let z = times_without (Reloading mid has) (Taken k) list some in omega arith;
            bodies = λ i. let w = g.bodies i in let z = times_without (Reloading mid has) (Loading i) list some in omega arith;
            reloads = λ k q. let x = left_reloads u k q in let y = own_ending k q in let w = g.reloads k q in let z = times_without (Reloading mid has) (Reloading k q) list some in omega arith;
            waits = g.waits;
            over = g.over;
          }

      pub other_left : (t : ℕ) → t ≢ u → Apart b left t
      other_left t other = record {
        takes = λ k. refl;
        counts = λ k. refl;
        bodies = λ i. refl;
        reloads = λ k q. let x = left_reloads t k q in let y = reload_other t k q ending (λ e. other (sym e)) in omega arith;
        waits = refl;
        over = refl;
      }

      same_load : (x y : Reload) → Some x ≡ Some y → x.load ≡ y.load
      same_load x y e = let f : x ≡ y = cc in ap (λ (z : Reload). z.load) f

      still_backed : (i : ℕ) (l : Body) → (has ≡ Some i → ⊥) → (k : List ℕ) → get b.reloads k ≡ Some (record { thread = l.thread; mid = l.mid; load = Some i }) → get (remove b.reloads n) k ≡ Some (record { thread = l.thread; mid = l.mid; load = Some i })
      still_backed i l other k is =
          get-remove nat_list_cmp_total b.reloads n k ∙ elim (same_text k n) as (λ c. same_text k n ≡ c → cond c None (get b.reloads k) ≡ Some (record { thread = l.thread; mid = l.mid; load = Some i })) [
            | true ↦ λ p. absurd (other (same_load ending (record { thread = l.thread; mid = l.mid; load = Some i }) (sym runs ∙ ap (get b.reloads) (sym (same_name k n p)) ∙ is)))
            | false ↦ λ p. is
          ] refl

      pub backed_left : has ≡ None → Backed left
      backed_left none = record {
        counts = backed.counts;
        again = λ i l is opened kind. let old = backed.again i l is opened kind in (old.0, still_backed i l (λ e. let f : None ≡ Some i = sym none ∙ e in let z : ⊥ = cc in z) old.0 old.1);
      }

      -- with its load, and the lock is given back
      module _ (load : ℕ) (it : has ≡ Some load) (at : slice_get b.bodies load ≡ Some reload_body) where
        abbrev done_body : Body
        done_body = record { kind = load_kinds.Reload; thread = u; mid = mid; stage = stages.Ended }

        abbrev pub done_given : Bones
        done_given = record b { bodies = slice_set b.bodies load done_body; reloads = remove b.reloads n; locks = given b.locks u n }

        done_counts : (t : ℕ) (k : List ℕ) → opens done_given t k + bit (counts_in b t k reload_body) ≡ opens b t k
        done_counts t k =
            let x : opens done_given t k + bit (counts_in b t k reload_body) ≡ opens b t k + bit (counts_in b t k done_body) = opens_set b load reload_body done_body at t k in
            let y : bit (counts_in b t k done_body) ≡ 0 = counts_closed b t done_body refl k in
            omega arith

        done_bodies : (t i : ℕ) → bit (opened_by t (slice_get (slice_set b.bodies load done_body) i)) ≡ bit (opened_by t (slice_get b.bodies i))
        done_bodies t i =
            let x = opened_set t b.bodies load reload_body done_body at i in
            let y = no_bit (nat_eq i load) (opened_by t (Some reload_body)) (opened_reload t reload_body refl) in
            let z = no_bit (nat_eq i load) (opened_by t (Some done_body)) (opened_reload t done_body refl) in
            omega arith

        pub own_done : (list : List Holding) (doing : Doing) → Agrees b u list doing → Agrees done_given u (without (Reloading mid has) list) doing
        own_done list doing g =
            let some = held_ending list doing g in
            let count : (k : List ℕ) → bit (counts_in b u k reload_body) ≡ bit (pointwise nat_eq k n) = λ k. counts_here b reload_body m there refl refl k ∙ ap (λ z. bit (pointwise nat_eq k z)) named in
            let held_some : 0 < held b.locks u n = let x = done_counts u n in let y = count n in let z : bit (pointwise nat_eq n n) ≡ 1 = ap bit (nat_list_eq_equiv.refl n) in let w = g.takes n in omega arith in
            record {
              takes = λ k. let x = given_own b.locks u n held_some k in let y = done_counts u k in let c = count k in let w = g.takes k in let z = times_without (Reloading mid has) (Taken k) list some in omega arith;
              bodies = λ i. let x = done_bodies u i in let w = g.bodies i in let z = times_without (Reloading mid has) (Loading i) list some in omega arith;
              reloads = λ k q. let x = left_reloads u k q in let y = own_ending k q in let w = g.reloads k q in let z = times_without (Reloading mid has) (Reloading k q) list some in omega arith;
              waits = g.waits;
              over = g.over;
            }

        pub other_done : (t : ℕ) → t ≢ u → Apart b done_given t
        other_done t other = record {
          takes = λ k. given_other b.locks u n t other k;
          counts = λ k. let x = done_counts t k in let y : bit (counts_in b t k reload_body) ≡ 0 = counts_other b t reload_body m there other k in omega arith;
          bodies = λ i. done_bodies t i;
          reloads = λ k q. let x = left_reloads t k q in let y = reload_other t k q ending (λ e. other (sym e)) in omega arith;
          waits = refl;
          over = refl;
        }

        pub backed_done : Backed done_given
        backed_done = record {
          counts = counted_given b.locks backed.counts u n;
          again = λ i l is opened kind. elim (set_at b.bodies load i done_body l is) [
            | inl here ↦ absurd (false≢true (ap (λ (z : Body). is_open z.stage) (sym here.1) ∙ opened))
            | inr old ↦
                let back = backed.again i l old.1 opened kind in
                (back.0, still_backed i l (λ e. old.0 (let f : Some load ≡ Some i = sym it ∙ e in let g : load ≡ i = cc in sym g)) back.0 back.1)
          ];
        }
