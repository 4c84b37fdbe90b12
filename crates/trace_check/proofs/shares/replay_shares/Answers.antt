use Rattle.std.proofs.Common.{◌≡◌, ◌<◌, ◌≤◌, ◌∙◌, ◌+◌, ℕ, List, [], Option, Some, length, get_or, sym, ap, subst, arith}
use Rattle.std.proofs.lemmas.List.{take_all}
use Rattle.machine_events.specs.declared.event.Entry.{Entry}
use Rattle.machine_events.specs.declared.event.Pair.{Pair}
use Rattle.machine_spec.specs.Legal.{IsLegal}
use Rattle.trace_check.specs.declared.answers.Why.{Why}
use Rattle.trace_check.specs.declared.answers.Why.TheVariants as cause
use Rattle.trace_check.specs.Replays.{Tests, IsWrong}
use Rattle.trace_check.proofs.Replaying.{up_to_tested}
use Rattle.trace_check.proofs.Splitting.{many_threads}
use Rattle.trace_check.proofs.Sharing.{IsLeft, breaks_there, entry_at, entry_same, left_more, not_empty, same_scripts, taken_event, taken_reply, written}
use Rattle.trace_check.proofs.shares.replay_shares.Goals as goal

pub returns-then-thread-scripts-clause-replays : goal.returns-then-thread-scripts-clause-replays
returns-then-thread-scripts-clause-replays c = λ h are.
    let i = c.loop-i.i in
    let e = entry_at c.args.order.now h i are.ordered c.loop-i-test.true in
    let past = c.if-thread-scripts.true in
    let many = c.scripts.ensures in
    let its = e.its in
    breaks_there c.broken.result c.args.machine c.loop-i.machine h i (get_or c.args.order.now i 0) cause.Thread e c.broken.ensures (c.loop-i.invariant.each h are).0 (omega (arith, past, many, its))

pub take_last-requires : goal.take_last-requires
take_last-requires c =
    let h : List Entry = c.requires.shared.0 in
    let before = c.loop-i.invariant.each h c.requires.shared.1 in
    let same = same_scripts c.args.machine c.loop-i.machine h c.loop-i.i c.is_sound.ensures before.0 in
    let less = c.if-thread-scripts.false in
    let many = c.scripts.ensures in
    let all = c.requires.scripts in
    let held = c.loop-i.invariant.many in
    let seen = ap (λ (l : List (List Pair)). length l) c.as_mut_slice-in-loop-i.ensures.value in
    omega (arith, same, less, many, all, held, seen)

pub unreachable-requires : goal.unreachable-requires
unreachable-requires c =
    let h : List Entry = c.requires.shared.0 in
    let are = c.requires.shared.1 in
    let i = c.loop-i.i in
    let t = get_or c.args.order.now i 0 in
    let before = c.loop-i.invariant.each h are in
    let e = entry_at c.args.order.now h i are.ordered c.loop-i-test.true in
    let same = same_scripts c.args.machine c.loop-i.machine h i c.is_sound.ensures before.0 in
    let less = c.if-thread-scripts.false in
    let many = c.scripts.ensures in
    let all = c.requires.scripts in
    not_empty c.loop-i.lists.items (length c.args.lists.items) t i h e.entry before.1 (omega (arith, same, less, many, all)) e.low e.is e.its
    (subst (λ (l : List (List Pair)). get_or l t [] ≡ []) c.as_mut_slice-in-loop-i.ensures.value c.in_default.ensures.last)

pub returns-in-Some-2-clause-replays : goal.returns-in-Some-2-clause-replays
returns-in-Some-2-clause-replays c = λ h are.
    let i = c.loop-i.i in
    let t = get_or c.args.order.now i 0 in
    let old : List (List Pair) = c.loop-i.lists.items in
    let now : List (List Pair) = c.take_last.new.lists in
    let pair : Pair = c.in-Some.field-0 in
    let before = c.loop-i.invariant.each h are in
    let e = entry_at c.args.order.now h i are.ordered c.loop-i-test.true in
    let same = same_scripts c.args.machine c.loop-i.machine h i c.is_sound.ensures before.0 in
    let less = c.if-thread-scripts.false in
    let many = c.scripts.ensures in
    let all = c.requires.scripts in
    let low : t < length c.args.lists.items = omega (arith, same, less, many, all) in
    let seen = c.as_mut_slice-in-loop-i.ensures.value in
    let kept : length now ≡ length old = c.in-Some.ensures.many ∙ ap (λ (l : List (List Pair)). length l) seen in
    let others : (u : ℕ) → (u ≡ t → ⊥) → get_or now u [] ≡ get_or old u [] = λ u apart. c.in-Some.ensures.others u apart ∙ ap (λ (l : List (List Pair)). get_or l u []) seen in
    let last = ap (λ (l : List (List Pair)). get_or l t []) (sym seen) ∙ c.in-Some.ensures.last in
    let event = taken_event old (length c.args.lists.items) t i h e.entry before.1 low e.low e.is e.its now pair kept others last in
    let reply = taken_reply old (length c.args.lists.items) t i h e.entry before.1 low e.low e.is e.its now pair kept others last in
    let one = entry_same e.entry t pair.event pair.reply e.its event reply in
    let entry : Entry = record { thread = t; event = pair.event; reply = pair.reply } in
    let tests : Tests c.loop-i.machine c.fault-judged.new.machine e.entry (Some c.in-Some-2.why) =
    subst (λ (z : Entry). Tests c.loop-i.machine c.fault-judged.new.machine z (Some c.in-Some-2.why)) one (subst (λ (o : Option Why). Tests c.loop-i.machine c.fault-judged.new.machine entry o) c.in-Some-2.is c.in_ok-why.ensures) in
    breaks_there c.broken-in-Some-2.result c.args.machine c.loop-i.machine h i t c.in-Some-2.why e c.broken-in-Some-2.ensures before.0 tests

pub loop-i-preserved : goal.loop-i-preserved
loop-i-preserved c =
    let i = c.loop-i.i in
    let t = get_or c.args.order.now i 0 in
    let old : List (List Pair) = c.loop-i.lists.items in
    let now : List (List Pair) = c.take_last.new.lists in
    let pair : Pair = c.in-Some.field-0 in
    let less = c.if-thread-scripts.false in
    let many = c.scripts.ensures in
    let all = c.requires.scripts in
    let seen = c.as_mut_slice-in-loop-i.ensures.value in
    let kept : length now ≡ length old = c.in-Some.ensures.many ∙ ap (λ (l : List (List Pair)). length l) seen in
    let back = written c.loop-i.lists.len now old c.loop-i.lists.ok.0 kept in
    let others : (u : ℕ) → (u ≡ t → ⊥) → get_or now u [] ≡ get_or old u [] = λ u apart. c.in-Some.ensures.others u apart ∙ ap (λ (l : List (List Pair)). get_or l u []) seen in
    let last = ap (λ (l : List (List Pair)). get_or l t []) (sym seen) ∙ c.in-Some.ensures.last in
    record {
      many = ap (λ (l : List (List Pair)). length l) back ∙ (kept ∙ c.loop-i.invariant.many);
      each = λ h are.
          let before = c.loop-i.invariant.each h are in
          let e = entry_at c.args.order.now h i are.ordered c.loop-i-test.true in
          let same = same_scripts c.args.machine c.loop-i.machine h i c.is_sound.ensures before.0 in
          let low : t < length c.args.lists.items = omega (arith, same, less, many, all) in
          let event = taken_event old (length c.args.lists.items) t i h e.entry before.1 low e.low e.is e.its now pair kept others last in
          let reply = taken_reply old (length c.args.lists.items) t i h e.entry before.1 low e.low e.is e.its now pair kept others last in
          let one = entry_same e.entry t pair.event pair.reply e.its event reply in
          let tests = subst (λ (z : Entry). Tests c.loop-i.machine c.fault-judged.new.machine z c.in_ok-why.field-0) one c.in_ok-why.ensures in (
            up_to_tested c.args.machine c.loop-i.machine c.fault-judged.new.machine h i e.entry c.in_ok-why.field-0 c.in_default-2.not-Some tests before.0 e.low e.is,
            subst (λ (l : List (List Pair)). IsLeft l (length c.args.lists.items) h (i + 1)) (sym back)
                (left_more old (length c.args.lists.items) t i h e.entry before.1 low e.low e.is e.its now pair kept others last),
          );
    }

pub returns-clause-replays : goal.returns-clause-replays
returns-clause-replays c = λ h are.
    let past = c.loop-i-test.false in
    let many = many_threads h c.args.order.now are.ordered in
    let whole = take_all c.loop-i.i h (omega (arith, past, many)) in
    (subst (λ (l : List Entry). IsLegal c.args.machine l) whole (c.loop-i.invariant.each h are).0.legal, are.counted)
