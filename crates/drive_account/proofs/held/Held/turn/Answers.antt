use Rattle.std.proofs.Common.{◌≡◌, Some, true, slice_get, length, ap, sym, ◌∙◌}
use Rattle.machine_shown.specs.Holdings.{is_holding, becoming}
use Rattle.drive_account.specs.Holds.{holding_of, holdings, held_in}
use Rattle.std.proofs.lemmas.Option.{slice_get_read}
use Rattle.drive_account.specs.declared.held.Held.{Held}
use Rattle.drive_account.proofs.HeldPlaces.{becomes}
use Rattle.drive_account.proofs.held.Held.turn.Goals as goal

pub returns-then-is_hold : goal.returns-then-is_hold
returns-then-is_hold c =
    let h = c.index-as_slice-at.result in
    let there : slice_get c.loop-at.self.holds c.loop-at.at ≡ Some h =
    rw (sym c.as_slice.ensures) (slice_get_read c.as_slice.result.now c.len.result c.loop-at.at h (c.len.ensures ∙ ap length (sym c.as_slice.ensures)) c.loop-at-test.true c.index-as_slice-at.is) in
    let it_is : is_holding (holding_of c.args.hold.now) (holding_of h) ≡ true = sym c.is_hold.ensures ∙ c.if-is_hold.true in
    ap holdings c.set.ensures
    ∙ becomes (holding_of c.args.hold.now) c.args.into c.loop-at.self.holds c.loop-at.at h there it_is
    ∙ sym c.loop-at.invariant.rest
    ∙ ap (λ (held : Held). becoming (holding_of c.args.hold.now) (holding_of c.args.into) (held_in held)) c.loop-at.invariant.same
