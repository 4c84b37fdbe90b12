-- What all workers of a round share may be shared between threads.
use denote.RattleType.{RattleType}
use denote.Ref.{NamedLft}
use denote.Struct.Declared as structs
use denote.Struct.Field.{shr_ref_field}
use denote.Struct.Tuple.{TupleAt, type_at, field_at}
use denote.Builtin.{One}
use mir.Syntax.{Sym, ty_struct, ty_ptr, tcons, tnil}
use denote.Exit.{no}
use denote.Param.{param, arg}
use Prim.Native.Nat.{ℕ}
use mathlib.Core.List.{[], ◌∷◌}
use denote.Param.Send.{IsSend, IsSync, plain_sync, param_sync, arg_sync, shr_sync, struct_sync, recorded_sync}
use Rattle.std.proofs.alloc.Global.TheSendSync as global
use Rattle.machine_desk.specs.declared.outlet.Outlet as outlet
use Rattle.trace_book.specs.contracts.shelf.Shelf as shelf_type
use Rattle.trace_book.proofs.bell.Bell.TheSendSync as bell
use Rattle.trace_book.specs.contracts.bell.Bell as bell_type
use Rattle.drive_round.specs.contracts.worker.Room as room_type
use Rattle.drive_round.proofs.Crossing.{shelf-sync}

room-sync : (a : NamedLft) (R O G : RattleType) (g : outlet.Ghosts O.Denot) → IsSend O → IsSync R → IsSync G
    → IsSync (room_type.the_row a R O G g)
room-sync a R O G g o r s = recorded_sync (room_type.the_field a R O G g).row _ _ (room_type.the_type a R O G g).to_one
    (struct_sync (structs.shape (room_type.the_type a R O G g)) (
      global.the_field_sync,
      (
        shr_sync _ _ R r,
        (
          shr_sync _ _ (shelf_type.the_row O g) (shelf-sync O g o),
          (
            shr_sync _ _ bell_type.the_row bell.the_sync,
            (shr_sync _ _ G s, (plain_sync _ _ _ _ _, tt)),
          ),
        ),
      ),
    ))

-- a closure that captures one reference
captured-sync : (name : Sym) (a : NamedLft) (R : RattleType) (one : One R.mir) → IsSync R → IsSync (TupleAt name ((shr_ref_field a R one).row ∷ []))
captured-sync name a R one s =
    let captures = (shr_ref_field a R one).row ∷ [] in
    recorded_sync (field_at name captures).row _ _ (type_at name captures).to_one (struct_sync (structs.shape (type_at name captures)) (shr_sync _ _ R s, tt))

-- the closure that runs a worker, as an argument of a generic function
pub runner-sync : (i : ℕ) (name : Sym) (outer inner : NamedLft) (R O G : RattleType) (g : outlet.Ghosts O.Denot) → IsSend O → IsSync R → IsSync G
    → IsSync (param i (arg (ty_struct [] (tcons ty_ptr tnil)) no (TupleAt name ((shr_ref_field outer (room_type.the_row inner R O G g) tt).row ∷ []))))
runner-sync i name outer inner R O G g o r s =
    let room = room_type.the_row inner R O G g in
    let closure = TupleAt name ((shr_ref_field outer room tt).row ∷ []) in
    param_sync i (arg (ty_struct [] (tcons ty_ptr tnil)) no closure) (arg_sync (ty_struct [] (tcons ty_ptr tnil)) no closure (captured-sync name outer room tt (room-sync inner R O G g o r s)))
