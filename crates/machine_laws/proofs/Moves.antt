-- What events do to the bones of a state.
use Rattle.std.proofs.Common.{◌≡◌, ℕ, List, [], ◌∷◌, ◌++◌, length, Some, refl, sym, ap, ◌∙◌, map}
use Rattle.std.proofs.lemmas.List.{map-append, length-map}
use Rattle.spec_core.specs.declared.spec.Spec.{Spec}
use Rattle.py_value.specs.declared.value.Value.{Value}
use Rattle.py_value.specs.declared.value.NsState.{NsState}
use Rattle.module_table.specs.Lists.{changed}
use Rattle.module_table.specs.declared.module.LoadKind.{LoadKind}
use Rattle.module_table.specs.declared.module.LoadStage.{LoadStage}
use Rattle.module_table.specs.declared.module.LoadStage.TheVariants as stages
use Rattle.module_table.specs.declared.module.Phase.{Phase}
use Rattle.module_table.specs.Tables.{with_unit, with_phase, with_end, with_open, with_main, with_set, with_deleted, with_ns}
use Rattle.machine_spec.specs.declared.state.State.{State}
use Rattle.machine_laws.specs.Bones.{Bones, Module, Body, bones, module_bone, body_bone}
use Rattle.machine_laws.proofs.Same.{changed_map, kept_map}

-- the next module and the load that it is made with
abbrev pub made : Bones → ℕ → List ℕ → Phase → LoadKind → LoadStage → Bones
made b t n phase kind stage = record b {
  modules = b.modules ++ record { name = n; phase = phase; load = Some (length b.bodies) } ∷ [];
  bodies = b.bodies ++ record { kind = kind; thread = t; mid = length b.modules; stage = stage } ∷ [];
}

abbrev pub with_stage : Bones → ℕ → Bones
with_stage b load = record b { bodies = changed (λ l. record l { stage = stages.Ended }) b.bodies load }

abbrev pub opened : Bones → ℕ → ℕ → Bones
opened b load t = record b { bodies = changed (λ l. record l { stage = stages.Open; thread = t }) b.bodies load }

abbrev pub at_phase : Bones → ℕ → Phase → Bones
at_phase b mid phase = record b { modules = changed (λ m. record m { phase = phase }) b.modules mid }

module _ (s : State) where
  pub set_same : (mid : ℕ) (x : List ℕ) (v : Value) → bones (record s { table = with_set s.table mid x v }) ≡ bones s
  set_same mid x v = ap (λ ms. record (bones s) { modules = ms }) (kept_map module_bone _ (λ o. refl) s.table.objects mid)

  pub deleted_same : (mid : ℕ) (x : List ℕ) → bones (record s { table = with_deleted s.table mid x }) ≡ bones s
  deleted_same mid x = ap (λ ms. record (bones s) { modules = ms }) (kept_map module_bone _ (λ o. refl) s.table.objects mid)

  pub ns_same : (mid : ℕ) (state : NsState) → bones (record s { table = with_ns s.table mid state }) ≡ bones s
  ns_same mid state = ap (λ ms. record (bones s) { modules = ms }) (kept_map module_bone _ (λ o. refl) s.table.objects mid)

  pub main_same : (t : ℕ) (spec : Spec) (text : List ℕ) → bones (record s { table = with_main s.table t spec text }) ≡ bones s
  main_same t spec text =
      ap (λ ms. record (bones (record s { table = with_main s.table t spec text })) { modules = ms }) (kept_map module_bone _ (λ o. refl) s.table.objects t)
      ∙ ap (λ ls. record (bones s) { bodies = ls }) (kept_map body_bone _ (λ l. refl) s.table.loads t)

  pub made_is : (spec : Spec) (phase : Phase) (kind : LoadKind) (t : ℕ) (text : List ℕ) (stage : LoadStage)
      → bones (record s { table = with_unit s.table spec phase kind t text stage }) ≡ made (bones s) t spec.name phase kind stage
  made_is spec phase kind t text stage =
      let object : Module = record { name = spec.name; phase = phase; load = Some (length s.table.loads) } in
      let load : Body = record { kind = kind; thread = t; mid = length s.table.objects; stage = stage } in
      ap (λ ms. record (bones (record s { table = with_unit s.table spec phase kind t text stage })) { modules = ms }) (map-append module_bone s.table.objects _)
      ∙ ap (λ ls. record (bones s) { modules = map module_bone s.table.objects ++ object ∷ []; bodies = ls }) (map-append body_bone s.table.loads _)
      ∙ ap (λ n. record (bones s) { modules = map module_bone s.table.objects ++ record { name = spec.name; phase = phase; load = Some n } ∷ []; bodies = map body_bone s.table.loads ++ load ∷ [] }) (sym (length-map s.table.loads body_bone))
      ∙ ap (λ n. record (made (bones s) t spec.name phase kind stage) { bodies = map body_bone s.table.loads ++ record { kind = kind; thread = t; mid = n; stage = stage } ∷ [] }) (sym (length-map s.table.objects module_bone))

  pub ended_is : (load : ℕ) → bones (record s { table = with_end s.table load }) ≡ with_stage (bones s) load
  ended_is load = ap (λ ls. record (bones s) { bodies = ls }) (changed_map body_bone _ (λ l. record l { stage = stages.Ended }) (λ l. refl) s.table.loads load)

  pub opened_is : (load t : ℕ) → bones (record s { table = with_open s.table load t }) ≡ opened (bones s) load t
  opened_is load t = ap (λ ls. record (bones s) { bodies = ls }) (changed_map body_bone _ (λ l. record l { stage = stages.Open; thread = t }) (λ l. refl) s.table.loads load)

  pub phase_is : (mid : ℕ) (phase : Phase) → bones (record s { table = with_phase s.table mid phase }) ≡ at_phase (bones s) mid phase
  phase_is mid phase = ap (λ ms. record (bones s) { modules = ms }) (changed_map module_bone _ (λ m. record m { phase = phase }) (λ o. refl) s.table.objects mid)
