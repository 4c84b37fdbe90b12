-- The event is allowed, and the book gained one entry, or is as it was.
use Rattle.std.proofs.Common.{List, refl, ap, sym, ◌∙◌}
use Rattle.machine_events.specs.declared.event.Entry.{Entry}
use Rattle.machine_shown.specs.Own.{own}
use Rattle.machine_book.proofs.Histories.{allowed_here, own_snoc}
use Rattle.machine_desk.proofs.Keeping.{continues_refl, continues_snoc}
use Rattle.machine_book.proofs.solo.SoloDeskDesk.call.Goals as goal

pub step-requires : goal.step-requires
step-requires g c = allowed_here c.knows_is_allowed.ensures _ _ _ _ c.check_legal.ensures.begun c.check_legal.ensures.legal c.requires.ready c.requires.knows

pub returns-in-Ok-clause-continues : goal.returns-in-Ok-clause-continues
returns-in-Ok-clause-continues g c =
    continues_snoc _ _ (record { thread = c.args.self.now.number; event = c.args.event; reply = c.in-Ok.reply }) c.step.ensures.opening refl refl c.in-Ok.ensures.entry (refl, c.in-Ok.ensures.put)

pub returns-in-Ok-clause-ok : goal.returns-in-Ok-clause-ok
returns-in-Ok-clause-ok g c =
    let t = c.args.self.now.number in
    let before : List Entry = c.args.self.now.book.now.history in
    let entry : Entry = record { thread = t; event = c.args.event; reply = c.in-Ok.reply } in
    record {
      legal = c.in-Ok.ensures.legal;
      entry = record { before = before; joined = sym c.in-Ok.ensures.entry };
      mine = ap (own t) c.in-Ok.ensures.entry ∙ own_snoc t before entry refl;
      fits = c.in-Ok.ensures.fits;
    }

pub returns-in-Err-clause-continues : goal.returns-in-Err-clause-continues
returns-in-Err-clause-continues g c = rw c.in-Err.ensures.err (continues_refl _)
