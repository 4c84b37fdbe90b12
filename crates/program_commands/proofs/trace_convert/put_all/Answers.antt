use Rattle.std.proofs.Common.{◌≡◌, ◌+◌, ◌++◌, ◌∷◌, [], List, take, sym, ap, ◌∙◌, subst}
use Rattle.std.proofs.lemmas.List.{take_more}
use Rattle.machine_events.specs.declared.event.Entry.{Entry}
use Rattle.machine_desk.specs.Outgo.{Kept}
use Rattle.machine_desk.proofs.Keeping.{kept_none, kept_next}
use Rattle.program_commands.proofs.trace_convert.put_all.Goals as goal

pub loop-entry-init : goal.loop-entry-init
loop-entry-init g c = kept_none g.O.Outlet.piece (g.O.Outlet.out c.args.out.now)

pub loop-entry-preserved : goal.loop-entry-preserved
loop-entry-preserved g c =
    let xs : List Entry = c.args.entries.now in
    let i = c.loop-entry.entry-index in
    let x : Entry = c.entry-item.result in
    let more : take (i + 1) xs ≡ take i xs ++ x ∷ [] = take_more xs i x c.loop-entry-test.true ∙ ap (λ z. take i xs ++ z ∷ []) (sym c.entry-item.is) in
    subst (λ (es : List Entry). Kept g.O.Outlet.piece (g.O.Outlet.out c.args.out.now) (g.O.Outlet.out c.put.new.self) es) (sym more)
    (kept_next g.O.Outlet.piece _ _ _ (take i xs) x c.loop-entry.invariant c.put.ensures)
