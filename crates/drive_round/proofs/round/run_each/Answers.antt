use denote.Param.{param}
use mir.Syntax.{named}
use Rattle.std.proofs.Common.{sym, subst}
use Rattle.std.specs.Prelude.{codes}
use Rattle.drive_round.specs.declared.worker.Worker.{Worker}
use Rattle.drive_round.specs.Workers.{facts, IsNew, Works}
use Rattle.drive_round.proofs.Places.{zip-from}
use Rattle.drive_round.proofs.Sharing.{runner-sync}
use Rattle.drive_round.proofs.round.run_each.Goals as goal

pub for_each_mut-requires-sync-F : goal.for_each_mut-requires-sync-F
for_each_mut-requires-sync-F g c κs within =
    let lifetimes = κs.1.1.1.1.1.1 in
    runner-sync 2 (codes "drive_round::round::fn::run_each::for_each_mut+Self") (record { mir = named 6; lft = lifetimes.0 }) (record { mir = named 7; lft = lifetimes.1.0 })
    (param 0 g.row.R) (param 1 g.row.O) (param 2 g.row.G) g.O.Outlet c.type_bounds.send-O c.type_bounds.sync-R c.type_bounds.sync-G

pub for_each_mut-requires-clause-accepts : goal.for_each_mut-requires-clause-accepts
for_each_mut-requires-clause-accepts g c κs within = λ i p lt is.
    let seen = facts g.P.Program.run g.T.Tree.files g.T.Tree.faults g.T.Tree.lists in
    let table = c.args.room.now.shelf.now.table.shared.table_id in
    subst (λ (w : Worker g.row.T.Denot g.row.P.Denot). IsNew table (seen w)) (sym is) (c.requires i p.now lt)

pub returns : goal.returns
returns g c = zip-from _ _ _ c.for_each_mut.auto.s (λ i d lt.
    let k = (c.for_each_mut.ensures i d lt).1 in
    let seen = facts g.P.Program.run g.T.Tree.files g.T.Tree.faults g.T.Tree.lists in
    subst (λ (p : Worker g.row.T.Denot g.row.P.Denot × Worker g.row.T.Denot g.row.P.Denot). Works c.args.room.now.fuel seen p.0 p.1)
    (λ j. (k.argument_is j, k.left j)) k.call)
