-- The book gained an entry, or is as it was.
use Rattle.std.proofs.Common.{rules, sym}
use Rattle.trace_book.specs.Seats.{entry}
use Rattle.trace_book.proofs.Moves.{out_slot, book_is, put_in, allowed_out, grown, written_out, notes_from, noted}
use Rattle.trace_book.proofs.shelf.Shelf.note.Goals as goal

pub exchange-requires : goal.exchange-requires
exchange-requires g c = (c.requires.table, out_slot _ _ c.args.seat.now.me c.requires.has_book)

pub step-done-requires : goal.step-done-requires
step-done-requires g c =
    let me = c.args.seat.now.me in
    let is = book_is _ _ me c.requires.has_book _ c.in-Some.book c.exchange.ensures.2 c.in-Some.is in
    rw c.get_mut.ensures.value (allowed_out _ _ me c.requires.has_book c.args.number c.args.event c.in-Some.book is c.requires.may
    (rw (sym c.get.ensures) c.check_legal.ensures.begun) (rw (sym c.get.ensures) c.check_legal.ensures.legal))

pub swap-requires : goal.swap-requires
swap-requires g c =
    let me = c.args.seat.now.me in
    let is = book_is _ _ me c.requires.has_book _ c.in-Some.book c.exchange.ensures.2 c.in-Some.is in
    let e = entry c.args.number c.args.event c.in_ok-reply.reply in
    let b = c.step-done.new.self in
    let second = put_in _ _ me _ _ _ b c.requires.has_book c.exchange.ensures.3 c.exchange-2.ensures.3 in
    let more = grown _ _ me c.requires.has_book _ b e is (rw (sym c.get_mut.ensures.value) c.in_ok-reply.ensures.entry) in
    (search rules, search rules, notes_from _ _ _ _ _ me _ b e _ c.requires.has_book second more (rw (sym c.get-3.ensures) c.len-count.ensures) c.requires.may.sees c.requires.may.number)

pub returns-clause-ok : goal.returns-clause-ok
returns-clause-ok g c =
    let me = c.args.seat.now.me in
    let is = book_is _ _ me c.requires.has_book _ c.in-Some.book c.exchange.ensures.2 c.in-Some.is in
    let e = entry c.args.number c.args.event c.in_ok-reply.reply in
    let b = c.step-done.new.self in
    let second = put_in _ _ me _ _ _ b c.requires.has_book c.exchange.ensures.3 c.exchange-2.ensures.3 in
    let more = grown _ _ me c.requires.has_book _ b e is (rw (sym c.get_mut.ensures.value) c.in_ok-reply.ensures.entry) in
    let written = written_out _ _ me c.requires.has_book _ b e is (rw (sym c.get_mut.ensures.value) c.in_ok-reply.ensures.opening)
    (rw (sym c.get_mut.ensures.value) c.in_ok-reply.ensures.entry) (rw (sym c.get_mut.ensures.value) c.in_ok-reply.ensures.put) c.requires.may.within in
    noted _ _ me _ _ b c.args.number c.args.event c.in_ok-reply.reply second c.swap.ensures.2 written more c.in_ok-reply.ensures.legal c.in_ok-reply.ensures.fits
