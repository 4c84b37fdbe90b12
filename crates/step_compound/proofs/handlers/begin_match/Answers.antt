use Rattle.std.proofs.Common.{◌∙◌, sym, ap, List, slice_get}
use Rattle.py_syntax.specs.declared.stmt.Handler.{Handler}
use Rattle.meaning_script.specs.Pieces.{Piece}
use Rattle.meaning_script.specs.Meaning.{around_at}
use Rattle.step_compound.proofs.Chain.{catches_none, catches_all, catches_kinds}
use Rattle.step_compound.proofs.handlers.begin_match.Goals as goal

pub returns-in-None : goal.returns-in-None
returns-in-None c =
    let th = c.args.thread.now in
    let is = ap (λ (hs : List Handler). slice_get hs c.args.at) (sym c.get.ensures) ∙ sym c.in-None.ensures.value in
    record { does = λ w next. ap (λ (p : Piece). p th.state (next th.left)) (catches_none (around_at w th.left) c.args.handlers c.args.at c.args.error is) }

pub returns-in-None-kinds : goal.returns-in-None-kinds
returns-in-None-kinds c =
    let th = c.args.thread.now in
    let is = ap (λ (hs : List Handler). slice_get hs c.args.at) (sym c.get.ensures) ∙ sym c.in-Some.ensures.value in
    record { does = λ w next. ap (λ (p : Piece). p th.state (next th.left)) (catches_all (around_at w th.left) c.args.handlers c.args.at c.in-Some.handler.now c.args.error is c.in-None-kinds.is) }

pub returns-in_ok-share-in-Some-kinds : goal.returns-in_ok-share-in-Some-kinds
returns-in_ok-share-in-Some-kinds c =
    let th = c.args.thread.now in
    let is = ap (λ (hs : List Handler). slice_get hs c.args.at) (sym c.get.ensures) ∙ sym c.in-Some.ensures.value in
    record { does = λ w next. rw c.in_ok-share-in-Some-kinds.ensures (catches_kinds (around_at w th.left) c.args.handlers c.args.at c.in-Some.handler.now c.args.error c.in-Some-kinds.kinds th.state (next th.left) is c.in-Some-kinds.is) }
