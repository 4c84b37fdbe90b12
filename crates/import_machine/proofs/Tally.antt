-- How the number of open loads of a name changes with the modules and the loads.
use Rattle.std.proofs.Common.{◌≡◌, ℕ, ◌+◌, true, false, ◌&&◌, List, [], ◌∷◌, ◌++◌, length, Option, Some, None, refl, sym, ap, ◌∙◌, add-zero}
use Rattle.std.specs.Prelude.{slice_get, slice_set, not, count_by, nat_eq}
use Rattle.std.specs.Cmp.Lexicographic.{pointwise}
use Rattle.module_table.specs.Lists.{changed, changed_to}
use Rattle.module_table.specs.declared.module.LoadKind.{LoadKind}
use Rattle.module_table.specs.declared.module.LoadStage.{LoadStage}
use Rattle.module_table.specs.declared.module.LoadStage.TheVariants as stages
use Rattle.module_table.specs.declared.module.Phase.{Phase}
use Rattle.machine_spec.specs.Parts.{is_open, is_main}
use Rattle.machine_laws.specs.Bones.{Bones, Module, Body, is_named}
use Rattle.machine_laws.specs.Sound.{AreSound}
use Rattle.machine_laws.proofs.Lists.{pushed_last, pushed_keeps, changed_is}
use Rattle.machine_laws.proofs.Counts.{bit, same_sum, set_sum, push_sum, changed_name}
use Rattle.machine_laws.proofs.Moves.{made}
use Rattle.import_machine.specs.Counts.{counts_on, total}

abbrev pub tally : List Module → List Body → List ℕ → ℕ
tally modules bodies n = count_by (counts_on modules n) bodies

abbrev pub bit_of : Option (List ℕ) → List ℕ → ℕ
bit_of None n = 0
bit_of (Some m) n = bit (pointwise nat_eq m n)

-- modules that keep their names
pub renamed : (ms ns : List Module) (bs : List Body) (n : List ℕ) → ((i : ℕ) (l : Body) → slice_get bs i ≡ Some l → is_named (slice_get ns l.mid) n ≡ is_named (slice_get ms l.mid) n) → tally ns bs n ≡ tally ms bs n
renamed ms ns bs n h =
    same_sum (λ l. bit (counts_on ns n l)) (λ l. bit (counts_on ms n l)) bs
    (λ i l is. ap (λ c. bit (is_open l.stage && not (is_main l.kind) && c)) (h i l is))

pub phased : (ms : List Module) (mid : ℕ) (phase : Phase) (bs : List Body) (n : List ℕ) → tally (changed (λ (m : Module). record m { phase = phase }) ms mid) bs n ≡ tally ms bs n
phased ms mid phase bs n = by (slice_get ms mid) refl
  where
    by : (o : Option Module) → slice_get ms mid ≡ o → tally (changed_to (λ (m : Module). record m { phase = phase }) ms mid o) bs n ≡ tally ms bs n
    by None is = refl
    by (Some m) is = renamed ms _ bs n (λ i l _. changed_name ms mid m (record m { phase = phase }) is refl l.mid n)

pub pushed : (ms : List Module) (bs : List Body) (l : Body) (n : List ℕ) → tally ms (bs ++ l ∷ []) n ≡ tally ms bs n + bit (counts_on ms n l)
pushed ms bs l n = push_sum (λ x. bit (counts_on ms n x)) bs l

pub replaced : (ms : List Module) (bs : List Body) (i : ℕ) (x y : Body) (n : List ℕ) → slice_get bs i ≡ Some x → tally ms (slice_set bs i y) n + bit (counts_on ms n x) ≡ tally ms bs n + bit (counts_on ms n y)
replaced ms bs i x y n is = set_sum (λ z. bit (counts_on ms n z)) bs i x y is

-- a load of a module with a name, by whether it is open and no script's
pub counts_by : (ms : List Module) (l : Body) (m : Module) (n : List ℕ) → slice_get ms l.mid ≡ Some m → counts_on ms n l ≡ (is_open l.stage && not (is_main l.kind) && pointwise nat_eq m.name n)
counts_by ms l m n is = ap (λ o. is_open l.stage && not (is_main l.kind) && is_named o n) is

pub opened_bit : (ms : List Module) (l : Body) (m : Module) (n : List ℕ) → slice_get ms l.mid ≡ Some m → is_open l.stage ≡ true → is_main l.kind ≡ false → bit (counts_on ms n l) ≡ bit (pointwise nat_eq m.name n)
opened_bit ms l m n is opened kind =
    ap bit (counts_by ms l m n is
    ∙ ap (λ c. c && not (is_main l.kind) && pointwise nat_eq m.name n) opened
    ∙ ap (λ c. not c && pointwise nat_eq m.name n) kind)

pub closed_bit : (ms : List Module) (l : Body) (n : List ℕ) → is_open l.stage ≡ false → bit (counts_on ms n l) ≡ 0
closed_bit ms l n closed = ap (λ c. bit (c && not (is_main l.kind) && is_named (slice_get ms l.mid) n)) closed

-- an open load ends
pub ended : (ms : List Module) (bs : List Body) (i : ℕ) (l : Body) (m : Module) (n : List ℕ) → slice_get bs i ≡ Some l → slice_get ms l.mid ≡ Some m → is_open l.stage ≡ true → is_main l.kind ≡ false
    → tally ms (changed (λ (l : Body). record l { stage = stages.Ended }) bs i) n + bit (pointwise nat_eq m.name n) ≡ tally ms bs n
ended ms bs i l m n is there opened kind =
    let after : Body = record l { stage = stages.Ended } in
    ap (λ k. k + bit (pointwise nat_eq m.name n)) (ap (λ (ls : List Body). tally ms ls n) (changed_is (λ (l : Body). record l { stage = stages.Ended }) bs i l is))
    ∙ ap (λ k. tally ms (slice_set bs i after) n + k) (sym (opened_bit ms l m n there opened kind))
    ∙ replaced ms bs i l after n is
    ∙ ap (λ k. tally ms bs n + k) (closed_bit ms after n refl)
    ∙ add-zero (tally ms bs n)

-- a load that rested opens
pub roused : (ms : List Module) (bs : List Body) (i t : ℕ) (l : Body) (m : Module) (n : List ℕ) → slice_get bs i ≡ Some l → slice_get ms l.mid ≡ Some m → is_open l.stage ≡ false → is_main l.kind ≡ false
    → tally ms (changed (λ (l : Body). record l { stage = stages.Open; thread = t }) bs i) n ≡ tally ms bs n + bit (pointwise nat_eq m.name n)
roused ms bs i t l m n is there rests kind =
    let after : Body = record l { stage = stages.Open; thread = t } in
    ap (λ (ls : List Body). tally ms ls n) (changed_is (λ (l : Body). record l { stage = stages.Open; thread = t }) bs i l is)
    ∙ sym (add-zero (tally ms (slice_set bs i after) n))
    ∙ ap (λ k. tally ms (slice_set bs i after) n + k) (sym (closed_bit ms l n rests))
    ∙ replaced ms bs i l after n is
    ∙ ap (λ k. tally ms bs n + k) (opened_bit ms after m n there refl kind)

-- the next module, with its load
pub made_total : (b : Bones) → AreSound b → (t : ℕ) (name : List ℕ) (phase : Phase) (kind : LoadKind) (stage : LoadStage) (n : List ℕ)
    → total (made b t name phase kind stage) n ≡ total b n + bit (is_open stage && not (is_main kind) && pointwise nat_eq name n)
made_total b sound t name phase kind stage n =
    let new : Module = record { name = name; phase = phase; load = Some (length b.bodies) } in
    let load : Body = record { kind = kind; thread = t; mid = length b.modules; stage = stage } in
    pushed (b.modules ++ new ∷ []) b.bodies load n
    ∙ ap (λ k. k + bit (counts_on (b.modules ++ new ∷ []) n load))
    (renamed b.modules (b.modules ++ new ∷ []) b.bodies n (λ i l is. let old = sound.bodies i l is in ap (λ o. is_named o n) (pushed_keeps b.modules new l.mid old.0 old.1 ∙ sym old.1)))
    ∙ ap (λ c. total b n + bit c) (counts_by (b.modules ++ new ∷ []) load new n (pushed_last b.modules new))
