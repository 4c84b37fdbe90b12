use Rattle.std.proofs.Common.{◌≡◌, ◌+◌, ◌-◌, ◌≤◌, [], vec_len, vec_capacity}
use Rattle.trace_book.specs.declared.view.Phase.TheVariants.{Idle}
use Rattle.trace_book.specs.Views.{view, numbers_from}
use Rattle.trace_book.specs.Told.{new_passes}
use Rattle.trace_book.proofs.shelf.Shelf.deal.Given as goal

abbrev pub invariant-loop-i : goal.invariant-loop-i
invariant-loop-i g l =
    (l.seat.table_id ≡ l.self.table.shared.table_id)
    × (l.seat.me ≡ (view l.fn.seat.me.0.base (numbers_from (l.from + l.i) (l.n - l.i)) l.fn.seat.me.0.base.first Idle, []))
    × (l.passes.items ≡ new_passes l.self.table.shared.table_id l.fn.seat.me.0.base l.from l.i)
    × (vec_len l.passes ≡ l.i)
    × (l.n ≤ vec_capacity l.passes)
