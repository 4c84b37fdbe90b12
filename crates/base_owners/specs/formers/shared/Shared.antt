-- How a `Shared` holds its value, so that the type of the value may hold a `Shared` in turn.
use mathlib.Core.Path.{refl}
use mathlib.Core.Former.{Former, this, const, pair, via}
use base.Stored.{gnil}
use base.Fml.{ftrue}
use denote.RattleType.{RattleType}
use denote.Memory.{part_of}
use denote.RawPtr.{Ptr}
use denote.Sharing.{nothing}
use denote.HoleLaws.{Alike}
use denote.HolePlaces.{Recodes, struct_places, laid, one_value}
use denote.Hole.Fix.{over}
use denote.Param.Weighed.{Weighed}
use denote.Model.Placed.{view_places}
use Rattle.std.specs.declared.rc.Rc.{Rc}
use Rattle.std.specs.contracts.rc.Rc as rc
use Rattle.std.specs.declared.alloc.Global.{Global}
use Rattle.std.specs.contracts.alloc.Global as global
use Rattle.std.specs.contracts.impls.GlobalAllocator.TheImpl.{ghosts as allocates}
use Rattle.base_owners.specs.declared.shared.Shared.TheInside.{Inside}
use Rattle.base_owners.specs.declared.shared.Shared.TheView.{view, invariant}
use Rattle.base_owners.specs.contracts.shared.Shared as shared
use Rattle.base_owners.specs.contracts.shared.Shared.TheInside as inside

-- a `Shared` is seen as its value, and measured as it
abbrev pub the_former : Former {0} → Former {0}
the_former value = value

-- so the measure of a value is also that of a `Shared` of it
abbrev pub the_weighed : {value : Former {0}} → Weighed value → Weighed (the_former value)
the_weighed weighed = weighed

-- the one field is an `Rc`: a pointer, and the value behind it
abbrev field : Former {0}
field = via (pair (const Ptr) this) Inside (λ X shared. (shared.inner.ptr, shared.inner.value))
    (λ X v. record { inner = record { ptr = v.0; value = v.1 } }) (λ X shared. refl) (λ X v. refl)

-- the same pointer, with another value seen behind it
abbrev with_value : {X Y : Type 0} → Rc X Global → Y → Rc Y Global
with_value r y = record { ptr = r.ptr; value = y }

-- the type of an `Rc` of such values, which the global allocator serves
abbrev rc_of : RattleType → RattleType
rc_of R = rc.the_row R global.the_row allocates

module _ (R S : RattleType) (h : R.Denot → S.Denot) where
  rc_places : Alike R S h → Alike (rc_of R) (rc_of S) (λ r. with_value r (h r.value))
  unfolding part_of
  rc_places same = record {
    mir_same = λ i. (rc_of (one_value R (same.mir_same i) (λ _. ftrue) (λ _ _. nothing) gnil)).mir;
    own_same = λ r i. (rc_of (one_value R (same.mir_same i) (same.own_same r.value i) (same.shr_same r.value i) gnil)).own_val (with_value r tt);
    shr_same = λ r i. (rc_of (one_value R (same.mir_same i) (same.own_same r.value i) (same.shr_same r.value i) gnil)).shr_at (with_value r tt);
  }

  pub the_places : Alike R S h → Alike (shared.the_row R) (shared.the_row S) ((the_former this).map R.Denot S.Denot h)
  the_places same = view_places field this view (λ X Y k shared. refl) (λ X shared. refl) R.Denot S.Denot h (shared.the_row R).coded (shared.the_row S).coded
      (invariant R.Denot) (invariant S.Denot) (λ shared p q. refl) (λ shared p q. refl) (λ shared holds. tt) (λ shared holds. tt)
      (over (inside.the_row R)) (over (inside.the_row S))
      (struct_places (inside.the_type R) (inside.the_type S) ((λ r. with_value r (h r.value)), tt) _ (λ d. refl) refl (laid _ _ _ (rc_places same), tt))

  pub the_codes_placed : Recodes R S h → Recodes (shared.the_row R) (shared.the_row S) ((the_former this).map R.Denot S.Denot h)
  the_codes_placed same d = same d
