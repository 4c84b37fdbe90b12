use Rattle.std.proofs.Common.{length, arith, sym, ap, ◌∙◌, subst}
use Rattle.std.proofs.lemmas.List.{length-map}
use Rattle.drive_round.specs.Ran.{MayBegin}
use Rattle.drive_round.specs.Workers.{facts}
use Rattle.drive_round.proofs.Seats.{length-new, seats-are-new, seats-have-run, seats-are-gathered, as-many, passes-are-there}
use Rattle.drive_round.proofs.Gathering.{speaks-for-all, threads-have-run}
use Rattle.drive_round.proofs.round.run_over.Goals as goal

pub seat_all-workers-requires-clause-fits : goal.seat_all-workers-requires-clause-fits
seat_all-workers-requires-clause-fits g c =
    let size = ap length c.in-Ok-open.ensures.ok ∙ length-new _ _ c.args.from c.len-count.result in
    let count = c.len-count.ensures ∙ c.args.programs.ok.0 in
    let fits = c.requires.fits in
    omega (arith, size, count, fits)

pub seat_all-workers-requires-clause-programs : goal.seat_all-workers-requires-clause-programs
seat_all-workers-requires-clause-programs g c =
    let size = ap length c.in-Ok-open.ensures.ok ∙ length-new _ _ c.args.from c.len-count.result in
    sym (size ∙ (c.len-count.ensures ∙ c.args.programs.ok.0))

pub seat_all-workers-requires-clause-forks : goal.seat_all-workers-requires-clause-forks
seat_all-workers-requires-clause-forks g c =
    c.requires.many ∙ sym (c.len-count.ensures ∙ c.args.programs.ok.0) ∙ sym (ap length c.in-Ok-open.ensures.ok ∙ length-new _ _ c.args.from c.len-count.result)

pub seat_all-workers-requires-clause-room : goal.seat_all-workers-requires-clause-room
seat_all-workers-requires-clause-room g c =
    let size = ap length c.in-Ok-open.ensures.ok ∙ length-new _ _ c.args.from c.len-count.result in
    let room = c.in-Ok.ensures.workers.1 in
    (c.in-Ok.ensures.workers.0, omega (arith, size, room))

pub run_workers-workers-requires-after_bounds : goal.run_workers-workers-requires-after_bounds
run_workers-workers-requires-after_bounds g c κs within =
    let count = c.len-count.ensures ∙ c.args.programs.ok.0 in
    let may = subst (MayBegin c.args.book c.args.from) (sym count) c.requires.may in
    seats-are-new g.O.Outlet.out g.P.Program.run g.T.Tree.files g.T.Tree.faults g.T.Tree.lists c.args.book c.in-Ok-open.opened.0.table.shared.table_id c.args.from c.len-count.result
    c.args.programs.items c.args.trees.items c.requires.new.told c.in-Ok-open.opened.1.items c.seat_all-workers.result.items
    c.requires.new.all c.in-Ok-open.ensures.ok c.seat_all-workers.ensures.seated may

pub gather_all-gathered-requires-clause-some : goal.gather_all-gathered-requires-clause-some
gather_all-gathered-requires-clause-some g c =
    let many = as-many g.O.Outlet.out g.P.Program.run g.T.Tree.files g.T.Tree.faults g.T.Tree.lists c.args.book c.in-Ok-open.opened.0.table.shared.table_id c.args.from c.len-count.result
    c.args.programs.items c.args.trees.items c.requires.new.told c.args.fuel c.in-Ok-open.opened.1.items c.seat_all-workers.result.items c.run_workers-workers.result.items
    c.in-Ok-open.ensures.ok c.seat_all-workers.ensures.count c.run_workers-workers.ensures in
    let count = c.len-count.ensures ∙ c.args.programs.ok.0 in
    let some = c.requires.some in
    omega (arith, many, count, some)

pub gather_all-gathered-requires-clause-room : goal.gather_all-gathered-requires-clause-room
gather_all-gathered-requires-clause-room g c =
    let many = as-many g.O.Outlet.out g.P.Program.run g.T.Tree.files g.T.Tree.faults g.T.Tree.lists c.args.book c.in-Ok-open.opened.0.table.shared.table_id c.args.from c.len-count.result
    c.args.programs.items c.args.trees.items c.requires.new.told c.args.fuel c.in-Ok-open.opened.1.items c.seat_all-workers.result.items c.run_workers-workers.result.items
    c.in-Ok-open.ensures.ok c.seat_all-workers.ensures.count c.run_workers-workers.ensures in
    let room = c.in-Ok.ensures.results.1 in
    (c.in-Ok.ensures.results.0, omega (arith, many, room))

pub gather_all-gathered-requires-clause-tree_room : goal.gather_all-gathered-requires-clause-tree_room
gather_all-gathered-requires-clause-tree_room g c =
    let many = as-many g.O.Outlet.out g.P.Program.run g.T.Tree.files g.T.Tree.faults g.T.Tree.lists c.args.book c.in-Ok-open.opened.0.table.shared.table_id c.args.from c.len-count.result
    c.args.programs.items c.args.trees.items c.requires.new.told c.args.fuel c.in-Ok-open.opened.1.items c.seat_all-workers.result.items c.run_workers-workers.result.items
    c.in-Ok-open.ensures.ok c.seat_all-workers.ensures.count c.run_workers-workers.ensures in
    let room = c.in-Ok.ensures.trees.1 in
    (c.in-Ok.ensures.trees.0, omega (arith, many, room))

pub gather_all-gathered-requires-clause-passes : goal.gather_all-gathered-requires-clause-passes
gather_all-gathered-requires-clause-passes g c =
    let seen = facts g.P.Program.run g.T.Tree.files g.T.Tree.faults g.T.Tree.lists in
    passes-are-there seen c.in-Ok-open.opened.0.table.shared.table_id _ _ _ _ _ _ c.run_workers-workers.result.items
    (seats-have-run g.O.Outlet.out g.P.Program.run g.T.Tree.files g.T.Tree.faults g.T.Tree.lists c.args.book c.in-Ok-open.opened.0.table.shared.table_id c.args.from c.len-count.result
    c.args.programs.items c.args.trees.items c.requires.new.told c.args.fuel c.in-Ok-open.opened.1.items c.seat_all-workers.result.items c.run_workers-workers.result.items
    c.requires.new.all c.in-Ok-open.ensures.ok c.seat_all-workers.ensures.seated c.run_workers-workers.ensures)

pub close-book-requires-clause-table : goal.close-book-requires-clause-table
close-book-requires-clause-table g c =
    (seats-are-gathered g.O.Outlet.out g.P.Program.run g.T.Tree.files g.T.Tree.faults g.T.Tree.lists c.args.book c.in-Ok-open.opened.0.table.shared.table_id c.args.from c.len-count.result
    c.args.programs.items c.args.trees.items c.requires.new.told c.args.fuel c.in-Ok-open.opened.1.items c.seat_all-workers.result.items c.run_workers-workers.result.items
    c.gather_all-gathered.result.pass c.gather_all-gathered.result.trees.items c.gather_all-gathered.result.results.items c.requires.new.all c.in-Ok-open.ensures.ok c.seat_all-workers.ensures.seated
    c.seat_all-workers.ensures.count c.run_workers-workers.ensures c.gather_all-gathered.ensures.gathered).of_table

pub close-book-requires-clause-all : goal.close-book-requires-clause-all
close-book-requires-clause-all g c =
    let gathered = seats-are-gathered g.O.Outlet.out g.P.Program.run g.T.Tree.files g.T.Tree.faults g.T.Tree.lists c.args.book c.in-Ok-open.opened.0.table.shared.table_id c.args.from c.len-count.result
    c.args.programs.items c.args.trees.items c.requires.new.told c.args.fuel c.in-Ok-open.opened.1.items c.seat_all-workers.result.items c.run_workers-workers.result.items
    c.gather_all-gathered.result.pass c.gather_all-gathered.result.trees.items c.gather_all-gathered.result.results.items c.requires.new.all c.in-Ok-open.ensures.ok c.seat_all-workers.ensures.seated
    c.seat_all-workers.ensures.count c.run_workers-workers.ensures c.gather_all-gathered.ensures.gathered in
    speaks-for-all g.O.Outlet.out c.args.book _ _ c.args.from c.len-count.result _ _ c.gather_all-gathered.result.pass _ _ gathered

pub returns-clause-ok : goal.returns-clause-ok
returns-clause-ok g c = λ told all.
    let size = c.len-count.ensures ∙ (c.args.programs.ok.0 ∙ sym (length-map c.args.programs.items g.P.Program.run)) in
    let gathered = seats-are-gathered g.O.Outlet.out g.P.Program.run g.T.Tree.files g.T.Tree.faults g.T.Tree.lists c.args.book c.in-Ok-open.opened.0.table.shared.table_id c.args.from c.len-count.result
    c.args.programs.items c.args.trees.items told c.args.fuel c.in-Ok-open.opened.1.items c.seat_all-workers.result.items c.run_workers-workers.result.items
    c.gather_all-gathered.result.pass c.gather_all-gathered.result.trees.items c.gather_all-gathered.result.results.items all c.in-Ok-open.ensures.ok c.seat_all-workers.ensures.seated
    c.seat_all-workers.ensures.count c.run_workers-workers.ensures c.gather_all-gathered.ensures.gathered in
    threads-have-run g.O.Outlet.piece g.O.Outlet.out _ _ c.args.from c.len-count.result _ _ c.args.book c.close-book.result c.gather_all-gathered.result.pass _ c.gather_all-gathered.result.results.items size gathered c.close-book.ensures c.check_legal.ensures.legal
