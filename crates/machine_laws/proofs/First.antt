-- What holds in every state holds at the opening.
use Rattle.std.proofs.Common.{◌≡◌, ℕ, zero, suc, ◌+◌, ◌<◌, ◌≤◌, arith, true, false, ◌&&◌, List, [], ◌∷◌, ◌++◌, length, Some, refl, sym, ap, subst, ◌∙◌, inl, inr, eqb}
use Rattle.std.specs.Prelude.{slice_get, sum_by, not, replicate}
use Rattle.std.specs.List.{sum}
use Rattle.std.specs.Ordering.{nat_cmp}
use Rattle.std.specs.Option.{option_map}
use Rattle.std.specs.FinMap.{get-empty}
use Rattle.std.proofs.lemmas.Bool.{false≢true, and_parts}
use Rattle.std.proofs.lemmas.List.Sums.{sum_by-cons}
use Rattle.std.proofs.lemmas.List.{length-append, length-replicate}
use Rattle.std.specs.Cmp.Lexicographic.{slice_cmp}
use Rattle.module_lock.specs.declared.locks.Lock.{Lock}
use Rattle.module_lock.proofs.Kept.{acyclic-empty}
use Rattle.module_table.specs.declared.module.Object.{Object}
use Rattle.module_table.specs.declared.module.Load.{Load}
use Rattle.module_table.specs.declared.module.LoadKind.TheVariants as load_kinds
use Rattle.module_table.specs.declared.module.LoadStage.TheVariants as stages
use Rattle.module_table.specs.declared.module.Phase.TheVariants as phases
use Rattle.machine_events.specs.declared.event.Entry.{Entry}
use Rattle.machine_spec.specs.declared.state.State.{State}
use Rattle.machine_spec.specs.Parts.{is_open, is_main}
use Rattle.machine_spec.specs.Opening.{opening, round_starts, script_objects, script_object, script_loads, script_load, sys_module, importlib_module, pyimport_module}
use Rattle.machine_spec.specs.Legal.{replay, IsLegal}
use Rattle.machine_laws.specs.Bones.{Module, Body, bones, module_bone, body_bone, counts_in, opens, is_named}
use Rattle.machine_laws.specs.Sound.{IsSound, FitsPhase, FitsKind, Begins}
use Rattle.machine_laws.proofs.Counts.{bit}
use Rattle.machine_laws.proofs.Same.{unmap, map_at}
use Rattle.machine_laws.proofs.Lists.{pushed_at, within, pushed_keeps}
use Rattle.machine_laws.proofs.Steps.{sound_after}

loads_at : (k : ℕ) (texts : List (List ℕ)) (i : ℕ) (l : Load) → slice_get (script_loads k texts) i ≡ Some l → (text : List ℕ) × (l ≡ script_load (k + i) text)
loads_at k [] i l is = cc
loads_at k (text ∷ texts) zero l is = let e : k + 0 ≡ k = omega arith in (text, let f : l ≡ script_load k text = cc in f ∙ ap (λ n. script_load n text) (sym e))
loads_at k (text ∷ texts) (suc i) l is =
    let rest = loads_at (k + 1) texts i l is in
    let e : k + 1 + i ≡ k + suc i = omega arith in
    (rest.0, rest.1 ∙ ap (λ n. script_load n rest.0) e)

loads_length : (k : ℕ) (texts : List (List ℕ)) → length (script_loads k texts) ≡ length texts
loads_length k [] = refl
loads_length k (text ∷ texts) = ap (λ n. suc n) (loads_length (k + 1) texts)

objects_at : (k : ℕ) (scripts : List (List ℕ)) (i : ℕ) (o : Object) → slice_get (script_objects k scripts) i ≡ Some o → o.phase ≡ phases.Ready
objects_at k [] i o is = cc
objects_at k (script ∷ scripts) zero o is = let f : o ≡ script_object k script = cc in ap (λ (z : Object). z.phase) f
objects_at k (script ∷ scripts) (suc i) o is = objects_at (k + 1) scripts i o is

objects_there : (k : ℕ) (scripts : List (List ℕ)) (i : ℕ) → i < length scripts → (o : Object) × (slice_get (script_objects k scripts) i ≡ Some o)
objects_there k [] i h = absurd (omega arith)
objects_there k (script ∷ scripts) zero h = (script_object k script, refl)
objects_there k (script ∷ scripts) (suc i) h = objects_there (k + 1) scripts i (omega arith)

no_counts : {X : Type 0} (f : X → ℕ) (xs : List X) → ((i : ℕ) (x : X) → slice_get xs i ≡ Some x → f x ≡ 0) → sum_by f xs ≡ 0
no_counts f [] h = refl
no_counts f (x ∷ xs) h = let here = h zero x refl in let rest = no_counts f xs (λ i y is. h (suc i) y is) in sum_by-cons f x xs ∙ omega arith

module _ (scripts texts path : List (List ℕ)) (rounds : List ℕ) where
  abbrev first : State
  first = opening scripts texts path rounds

  -- every load of the opening is a script's
  main_loads : (i : ℕ) (l : Body) → slice_get (bones first).bodies i ≡ Some l → (l.kind ≡ load_kinds.Main) × (l.stage ≡ stages.Open) × (l.mid ≡ i) × (i < length texts)
  main_loads i l is =
      let at = unmap body_bone (script_loads 0 texts) i l is in
      let load = loads_at 0 texts i at.0 at.1 in
      let less = within (script_loads 0 texts) i at.0 at.1 in
      let long = loads_length 0 texts in
      let mid : at.0.mid ≡ 0 + i = ap (λ (z : Load). z.mid) load.1 in
      let same : at.0.mid ≡ l.mid = ap (λ (z : Body). z.mid) at.2 in (
        sym (ap (λ (z : Body). z.kind) at.2) ∙ ap (λ (z : Load). z.kind) load.1,
        sym (ap (λ (z : Body). z.stage) at.2) ∙ ap (λ (z : Load). z.stage) load.1,
        omega arith,
        omega arith,
      )

  all_ready : (mid : ℕ) (m : Module) → slice_get (bones first).modules mid ≡ Some m → m.phase ≡ phases.Ready
  all_ready mid m is =
      let at = unmap module_bone first.table.objects mid m is in
      let ready : at.0.phase ≡ phases.Ready = elim (pushed_at ((script_objects 0 scripts ++ sys_module ∷ []) ++ importlib_module ∷ []) pyimport_module mid at.0 at.1) [
        | inr last ↦ ap (λ (z : Object). z.phase) last.1
        | inl more ↦ elim (pushed_at (script_objects 0 scripts ++ sys_module ∷ []) importlib_module mid at.0 more) [
          | inr last ↦ ap (λ (z : Object). z.phase) last.1
          | inl more ↦ elim (pushed_at (script_objects 0 scripts) sys_module mid at.0 more) [
            | inr last ↦ ap (λ (z : Object). z.phase) last.1
            | inl more ↦ objects_at 0 scripts mid at.0 more
          ]
        ]
      ] in
      ap (λ (z : Module). z.phase) (sym at.2) ∙ ready

  there : (i : ℕ) → i < length scripts → (m : Module) × (slice_get (bones first).modules i ≡ Some m)
  there i less =
      let o = objects_there 0 scripts i less in
      let all = pushed_keeps _ pyimport_module i o.0 (pushed_keeps _ importlib_module i o.0 (pushed_keeps _ sys_module i o.0 o.1)) in
      (module_bone o.0, map_at module_bone first.table.objects i o.0 all)

  pub sound_opening : length texts ≤ length scripts → length (round_starts 0 rounds) ≤ 16 → IsSound (opening scripts texts path rounds)
  sound_opening enough few = record {
    few = few;
    acyclic = acyclic-empty;
    covered = λ t n. let none : opens (bones first) t n ≡ 0 = no_counts (λ x. bit (counts_in (bones first) t n x)) (bones first).bodies (λ i l is. uncounted t n l (main_loads i l is).0) in omega arith;
    bodies = λ i l is.
        let main = main_loads i l is in
        let m = there i (omega arith) in
        (m.0, ap (slice_get (bones first).modules) main.2 ∙ m.1, fits_main i l m.0 main.0 main.1);
    modules = λ mid m is. subst (FitsPhase (bones first) mid m) (sym (all_ready mid m is)) tt;
    reloads = λ n r h. let e = sym (get-empty (slice_cmp nat_cmp) n) ∙ h in cc;
    owners = λ n t h. let e = sym (ap (option_map (λ (lock : Lock). lock.owner)) (get-empty (slice_cmp nat_cmp) n)) ∙ h in cc;
    alive = λ i l is opened kind. absurd (false≢true (sym kind ∙ ap is_main (main_loads i l is).0));
  }
    where
      uncounted : (t : ℕ) (n : List ℕ) (l : Body) → l.kind ≡ load_kinds.Main → bit (counts_in (bones first) t n l) ≡ 0
      uncounted t n l kind =
          elim (counts_in (bones first) t n l) as (λ c. counts_in (bones first) t n l ≡ c → bit c ≡ 0) [
            | true ↦ λ p.
                let front = and_parts (is_open l.stage && eqb l.thread t && not (is_main l.kind)) (is_named (slice_get (bones first).modules l.mid) n) p in
                let main = and_parts (is_open l.stage && eqb l.thread t) (not (is_main l.kind)) front.0 in
                absurd (false≢true (sym (ap (λ k. not (is_main k)) kind) ∙ main.1))
            | false ↦ λ p. refl
          ] refl

      fits_main : (i : ℕ) (l : Body) (m : Module) → l.kind ≡ load_kinds.Main → l.stage ≡ stages.Open → FitsKind i l m l.kind
      fits_main i l m kind stage = subst (FitsKind i l m) (sym kind) (subst Begins (sym stage) tt)

pub always : (scripts texts path : List (List ℕ)) (rounds : List ℕ) (es : List Entry) → length texts ≤ length scripts → length (round_starts 0 rounds) ≤ 16 → IsLegal (opening scripts texts path rounds) es → IsSound (replay (opening scripts texts path rounds) es)
always scripts texts path rounds es enough few h = sound_after (opening scripts texts path rounds) es (sound_opening scripts texts path rounds enough few) h

-- there are as many threads as the rounds have in all
pub rounds_long : (k : ℕ) (sizes : List ℕ) → length (round_starts k sizes) ≡ sum sizes
rounds_long k [] = refl
rounds_long k (size ∷ sizes) =
    length-append (replicate size k) (round_starts (k + size) sizes)
    ∙ ap (λ n. n + length (round_starts (k + size) sizes)) (length-replicate size k)
    ∙ ap (λ n. size + n) (rounds_long (k + size) sizes)
    ∙ sym (sum_by-cons (λ x. x) size sizes)
