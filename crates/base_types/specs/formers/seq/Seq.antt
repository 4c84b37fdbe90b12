-- How a `Seq` holds its items, so that the type of the items may hold a `Seq` in turn.
use mathlib.Core.Path.{◌≡◌, refl, sym}
use mathlib.Core.List.{List, []}
use mathlib.Core.Former.{Former, this, list, via, children}
use base.Stored.{code_map}
use denote.RattleType.{RattleType}
use denote.HoleLaws.{Alike}
use denote.HolePlaces.{Recodes, laid, struct_places}
use denote.Hole.Carrier.{listed, list-listed}
use denote.Hole.Fix.{over}
use denote.Model.Placed.{view_places}
use denote.Param.Weighed.{Weighed, w_list}
use Rattle.std.specs.formers.vec.Vec as vec
use Rattle.std.specs.declared.alloc.Global.{Global}
use Rattle.std.specs.contracts.alloc.Global as global
use Rattle.std.specs.contracts.impls.GlobalAllocator.TheImpl.{ghosts as allocates}
use Rattle.base_types.specs.declared.seq.Seq.TheInside.{Inside}
use Rattle.base_types.specs.declared.seq.Seq.TheView.{view, invariant}
use Rattle.base_types.specs.contracts.seq.Seq as seq
use Rattle.base_types.specs.contracts.seq.Seq.TheInside as inside

-- a `Seq` is seen as a list: its items are the list's, and it is measured as one
abbrev pub the_former : Former {0} → Former {0}
the_former items = list items

-- where its items can be measured a `Seq` can, as a list of them
abbrev pub the_weighed : {items : Former {0}} → Weighed items → Weighed (the_former items)
the_weighed weighed = w_list weighed

-- a `Seq` may be empty, even where there is no item that it could hold
pub the_empty : List ⊥
the_empty = []

-- the items of a `Seq` are those of the list that it is seen as, in its order
abbrev pub the_items : (X : Type 0) → List X → List X
the_items X xs = xs

-- its parts, told of one after another, are its items
pub the_items_listed : (X : Type 0) (xs : List X) → listed _ (children (the_former this) X xs) ≡ the_items X xs
the_items_listed X xs = list-listed X xs

-- the one field is a `Vec` of the items
abbrev field : Former {0}
field = via (vec.the_former this Global) Inside (λ X seq. seq.items) (λ X items. record { items = items }) (λ X seq. refl) (λ X items. refl)

module _ (R S : RattleType) (h : R.Denot → S.Denot) (same : Alike R S h) where
  -- with other items the struct lies in memory as before
  abbrev inside_places : Alike (inside.the_row R) (inside.the_row S) (field.map R.Denot S.Denot h)
  inside_places = struct_places (inside.the_type R) (inside.the_type S) (vec.mapped h, tt) (field.map R.Denot S.Denot h) (λ seq. refl) refl
      (laid _ _ _ (vec.the_places global.the_row allocates R S h same), tt)

module _ (R S : RattleType) (h : R.Denot → S.Denot) where
  pub the_places : Alike R S h → Alike (seq.the_row R) (seq.the_row S) ((the_former this).map R.Denot S.Denot h)
  the_places same =
      view_places field (list this) view (λ X Y k seq. refl) (λ X seq. refl) R.Denot S.Denot h
      (seq.the_row R).coded (seq.the_row S).coded (invariant R.Denot) (invariant S.Denot)
      (λ seq p q. refl) (λ seq p q. refl) (λ seq holds. tt) (λ seq holds. tt)
      (over (inside.the_row R)) (over (inside.the_row S)) (inside_places R S h same)

  pub the_codes_placed : Recodes R S h → Recodes (seq.the_row R) (seq.the_row S) ((the_former this).map R.Denot S.Denot h)
  the_codes_placed same xs = sym (code_map R.coded.code S.coded.code h (λ x. sym (same x)) xs)
