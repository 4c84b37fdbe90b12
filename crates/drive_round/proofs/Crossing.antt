-- A book may go to another thread, and threads may have a shared book of it, where its outlet may go there. For most
-- types rattle makes such a lemma by itself; where a `Value` is inside, which holds lists of values, it is made here from the parts.
use denote.RattleType.{RattleType}
use denote.Builtin as builtin
use denote.Enum.Declared as enums
use denote.Struct.Declared as structs
use denote.Param.Send.{IsSend, IsSync, sendable, plain_send, struct_send, enum_send, recorded_send, view_send, plain_sync, struct_sync, recorded_sync}
use Rattle.std.specs.contracts.alloc.Global as global_type
use Rattle.std.specs.contracts.impls.GlobalAllocator.TheImpl as heap
use Rattle.std.proofs.alloc.Global.TheSendSync as global
use Rattle.std.below.std_heap.proofs.GlobalAllocator.TheSendSync as freed
use Rattle.std.proofs.sync.Arc.TheSendSync as arc
use Rattle.std.proofs.vec.Vec.TheSendSync as vec
use Rattle.std.proofs.option.Option.TheSendSync as option
use Rattle.base_owners.proofs.boxed.Boxed.TheSendSync as boxed
use Rattle.base_owners.specs.contracts.boxed.Boxed as boxed_type
use Rattle.base_types.proofs.seq.Seq.TheSendSync as seq
use Rattle.base_types.proofs.text.Text.TheSendSync as text
use Rattle.base_types.specs.contracts.text.Text as text_type
use Rattle.base_types.proofs.wide.Wide.TheSendSync as wide
use Rattle.base_types.specs.contracts.wide.Wide as wide_type
use Rattle.base_types.proofs.path.Listing.TheSendSync as listing
use Rattle.base_types.specs.contracts.path.Listing as listing_type
use Rattle.base_types.proofs.path.TreePath.TheSendSync as tree_path
use Rattle.spec_core.proofs.name.Dotted.TheSendSync as dotted
use Rattle.spec_core.proofs.spec.Spec.TheSendSync as spec
use Rattle.spec_core.proofs.maps.PathMap.TheSendSync as path_map
use Rattle.py_value.specs.contracts.value.Value as value_type
use Rattle.py_value.specs.contracts.value.NsData as ns_data_type
use Rattle.py_value.specs.contracts.value.NsState as ns_type
use Rattle.py_value.specs.contracts.value.NsState.TheInside as ns_inside
use Rattle.py_value.proofs.value.ModRef.TheSendSync as mod_ref
use Rattle.base_types.specs.contracts.seq.Seq as seq_type
use Rattle.spec_core.proofs.maps.NameMap.TheSendSync as name_map
use Rattle.spec_core.proofs.maps.NumberMap.TheSendSync as number_map
use Rattle.py_value.proofs.value.Value.TheLaws.TheKnot as knot
use Rattle.py_value.proofs.value.Raised.TheSendSync as raised
use Rattle.py_value.proofs.kind.Native.TheSendSync as native
use Rattle.py_value.proofs.kind.Kind.TheSendSync as kind
use Rattle.module_table.specs.contracts.vars.Vars as vars_type
use Rattle.module_table.specs.contracts.vars.Vars.TheInside as vars_inside
use Rattle.module_table.specs.contracts.module.Object as object_type
use Rattle.module_table.specs.contracts.module.Reload as reload_type
use Rattle.module_table.specs.contracts.objects.Objects as objects_type
use Rattle.module_table.specs.contracts.objects.Objects.TheInside as objects_inside
use Rattle.module_table.proofs.cache.Cache.TheSendSync as cache
use Rattle.module_table.proofs.module.Phase.TheSendSync as phase
use Rattle.module_table.proofs.module.Reload.TheSendSync as reload
use Rattle.indexmap.proofs.map.IndexMap.TheSendSync as index_map
use Rattle.std.proofs.hash.BuildHasherDefault.TheSendSync as builder
use Rattle.module_table.proofs.loads.Loads.TheSendSync as loads
use Rattle.machine_events.proofs.carried.Carried.TheSendSync as carried
use Rattle.machine_events.specs.contracts.carried.Carried as carried_type
use Rattle.machine_events.proofs.module.Slot.TheSendSync as slot
use Rattle.machine_events.proofs.event.Outcome.TheSendSync as outcome
use Rattle.machine_events.specs.contracts.event.Event as event_type
use Rattle.machine_events.specs.contracts.event.Reply as reply_type
use Rattle.machine_events.specs.contracts.event.Entry as entry_type
use Rattle.module_lock.proofs.locks.Locks.TheSendSync as locks
use Rattle.module_table.specs.contracts.table.Table as table_type
use Rattle.module_table.specs.contracts.kept.KeptListing as kept_type
use Rattle.module_table.proofs.kept.KeptListing.TheSendSync as kept
use Rattle.machine_spec.specs.contracts.state.State as state_type
use Rattle.import_machine.specs.contracts.machine.Machine as machine_type
use Rattle.import_machine.specs.contracts.machine.Machine.TheInside as machine_inside
use Rattle.trace_book.specs.contracts.shelf.Shelf as shelf_type
use Rattle.trace_book.specs.contracts.view.View as view_type
use Rattle.trace_book.specs.contracts.rule.Turns as turns_type
use Rattle.trace_book.specs.contracts.rule.TurnsTableRuleOptionBoxedBookViewOpened.TheImpl as turns
use Rattle.std.specs.contracts.option.Option as option_type
use denote.Struct.Tuple.{Tuple}
use mathlib.Core.List.{[], ◌∷◌}
use Rattle.atomic_table.proofs.owned.Table.TheSendSync as atomic
use Rattle.machine_book.proofs.opening.Opening.TheSendSync as opening
use Rattle.machine_desk.specs.declared.outlet.Outlet as outlet
use Rattle.machine_book.specs.contracts.book.Book as book_type
use Rattle.machine_book.specs.contracts.book.Book.TheInside as book_inside

value-field : IsSend value_type.the_field.row
value-field = knot.send-Value (plain_send _ _ _ _ _) wide.the_send text.the_send seq.the_send (plain_send _ _ _ _ _)
    native.the_field_send kind.the_field_send mod_ref.the_send raised.the_send

value-send : IsSend value_type.the_row
value-send = recorded_send value_type.the_field.row _ _ value_type.the_type.to_one value-field

value-sync-field : IsSync value_type.the_field.row
value-sync-field = knot.sync-Value (plain_sync _ _ _ _ _) wide.the_sync text.the_sync seq.the_sync (plain_sync _ _ _ _ _)
    native.the_field_sync kind.the_field_sync mod_ref.the_sync raised.the_sync

value-sync : IsSync value_type.the_row
value-sync = recorded_sync value_type.the_field.row _ _ value_type.the_type.to_one value-sync-field

items-send : IsSend (seq_type.the_row value_type.the_row)
items-send = seq.the_send value_type.the_row value-send

texts-send : IsSend (seq_type.the_row text_type.the_row)
texts-send = seq.the_send text_type.the_row text.the_send

bytes-send : IsSend (seq_type.the_row builtin.u8)
bytes-send = seq.the_send builtin.u8 (plain_send _ _ _ _ _)

items-sync : IsSync (seq_type.the_row value_type.the_row)
items-sync = seq.the_sync value_type.the_row value-sync

texts-sync : IsSync (seq_type.the_row text_type.the_row)
texts-sync = seq.the_sync text_type.the_row text.the_sync

ns-data-send : IsSend ns_data_type.the_row
ns-data-send = recorded_send ns_data_type.the_field.row _ _ ns_data_type.the_type.to_one
    (struct_send (structs.shape ns_data_type.the_type) (items-send, (plain_send _ _ _ _ _, (texts-send, tt))))

ns-data-sync : IsSync ns_data_type.the_row
ns-data-sync = recorded_sync ns_data_type.the_field.row _ _ ns_data_type.the_type.to_one
    (struct_sync (structs.shape ns_data_type.the_type) (items-sync, (plain_sync _ _ _ _ _, (texts-sync, tt))))

ns-send : IsSend ns_type.the_row
ns-send = view_send ns_inside.the_row _ _ _ _ (recorded_send ns_inside.the_field.row _ _ ns_inside.the_type.to_one
    (struct_send (structs.shape ns_inside.the_type)
    (arc.the_send ns_data_type.the_row global_type.the_row heap.ghosts ns-data-send global.the_send ns-data-sync global.the_sync freed.the_frees, tt)))

vars-send : IsSend vars_type.the_row
vars-send = view_send vars_inside.the_row _ _ _ _ (recorded_send vars_inside.the_field.row _ _ vars_inside.the_type.to_one
    (struct_send (structs.shape vars_inside.the_type)
    (search (sendable, index_map.the_send, text.the_send, value-send, global.the_send, freed.the_frees, builder.the_send) depth 12, tt)))

object-field : IsSend object_type.the_field.row
object-field = struct_send (structs.shape object_type.the_type) (
  spec.the_send,
  (
    phase.the_field_send,
    (
      vars-send,
      (option.the_field_send ns_type.the_row ns-send, (option.the_field_send builtin.u32 (plain_send _ _ _ _ _), tt)),
    ),
  ),
)

object-send : IsSend object_type.the_row
object-send = recorded_send object_type.the_field.row _ _ object_type.the_type.to_one object-field

objects-send : IsSend objects_type.the_row
objects-send = view_send objects_inside.the_row _ _ _ _ (recorded_send objects_inside.the_field.row _ _ objects_inside.the_type.to_one
    (struct_send (structs.shape objects_inside.the_type)
    (vec.the_send object_type.the_row global_type.the_row heap.ghosts object-send global.the_send freed.the_frees, tt)))

table-field : IsSend table_type.the_field.row
table-field = struct_send (structs.shape table_type.the_type) (
  cache.the_send,
  (
    objects-send,
    (
      loads.the_send,
      (
        items-send,
        (
          plain_send _ _ _ _ _,
          (
            name_map.the_send reload_type.the_row reload.the_send,
            (number_map.the_send builtin.unit (search sendable), tt),
          ),
        ),
      ),
    ),
  ),
)

whole-send : IsSend (option_type.the_field wide_type.the_row).row
whole-send = option.the_field_send wide_type.the_row wide.the_send

number-send : IsSend (option_type.the_field builtin.u32).row
number-send = option.the_field_send builtin.u32 (plain_send _ _ _ _ _)

carried-value : IsSend (carried_type.the_row value_type.the_row)
carried-value = carried.the_send value_type.the_row value-send value-sync

carried-listing : IsSend (carried_type.the_row listing_type.the_row)
carried-listing = carried.the_send listing_type.the_row listing.the_send listing.the_sync

event-field : IsSend event_type.the_field.row
event-field = enum_send (enums.shape event_type.the_type) (search (plain_send, dotted.the_send, spec.the_send, bytes-send, text.the_send, value-field, whole-send, number-send, tree_path.the_send, carried-value, carried-listing, ns-send, slot.the_field_send, outcome.the_field_send))

reply-field : IsSend reply_type.the_field.row
reply-field = enum_send (enums.shape reply_type.the_type) (search (plain_send, mod_ref.the_send, dotted.the_send, slot.the_field_send, value-field, texts-send, items-send, bytes-send, ns-send))

entry-field : IsSend entry_type.the_field.row
entry-field = struct_send (structs.shape entry_type.the_type) (plain_send _ _ _ _ _, (event-field, (reply-field, tt)))

entry-send : IsSend entry_type.the_row
entry-send = recorded_send entry_type.the_field.row _ _ entry_type.the_type.to_one entry-field

state-field : IsSend state_type.the_field.row
state-field = struct_send (structs.shape state_type.the_type)
    (table-field, (locks.the_send, (path_map.the_send kept_type.the_row kept.the_send, (seq.the_send builtin.u32 (plain_send _ _ _ _ _), tt))))

machine-send : IsSend machine_type.the_row
machine-send = view_send machine_inside.the_row _ _ _ _ (recorded_send machine_inside.the_field.row _ _ machine_inside.the_type.to_one
    (struct_send (structs.shape machine_inside.the_type)
    (state-field, (name_map.the_send builtin.u64 (plain_send _ _ _ _ _), tt))))

pub book-send : (O : RattleType) (g : outlet.Ghosts O.Denot) → IsSend O → IsSend (book_type.the_row O g)
book-send O g s = view_send (book_inside.the_row O g) _ _ _ _ (recorded_send (book_inside.the_field O g).row _ _ (book_inside.the_type O g).to_one
    (struct_send (structs.shape (book_inside.the_type O g)) (
      opening.the_field_send,
      (
        machine-send,
        (vec.the_send entry_type.the_row global_type.the_row heap.ghosts entry-send global.the_send freed.the_frees, (s, tt)),
      ),
    )))

pub shelf-sync : (O : RattleType) (g : outlet.Ghosts O.Denot) → IsSend O → IsSync (shelf_type.the_row O g)
shelf-sync O g s =
    let bare = book_type.the_row O g in
    let book = boxed_type.the_row bare in
    recorded_sync (shelf_type.the_field O g).row _ _ (shelf_type.the_type O g).to_one (struct_sync (structs.shape (shelf_type.the_type O g)) (
      atomic.the_field_sync (option_type.the_row book) view_type.the_row (Tuple (book ∷ builtin.u32 ∷ builtin.u32 ∷ [])) turns_type.the_row global_type.the_row
          (turns.ghosts O g turns.no_dict turns.no_dict) heap.ghosts (option.the_send book (boxed.the_send bare (book-send O g s))) global.the_send global.the_sync freed.the_frees,
      tt,
    ))
