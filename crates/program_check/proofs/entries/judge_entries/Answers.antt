use Rattle.std.proofs.Common.{◌≡◌, ◌∙◌, ◌<◌, ◌≤◌, List, ℕ, length, refl, sym, ap, subst, arith}
use Rattle.words_rounds.specs.declared.rounds.Round.{Round}
use Rattle.machine_events.specs.declared.event.Entry.{Entry}
use Rattle.machine_events.specs.declared.event.Pair.{Pair}
use Rattle.trace_check.specs.Threads.{threads_of, AreShares}
use Rattle.trace_check.specs.Judge.{IsPlaced}
use Rattle.program_check.specs.Opened.{Fit}
use Rattle.program_check.proofs.Following.{entries_judged, scripts_held, shares_of, threads_many}
use Rattle.program_check.proofs.entries.judge_entries.Goals as goal

pub follow_all-requires-clause-fit : goal.follow_all-requires-clause-fit
follow_all-requires-clause-fit g c κs within =
    subst (λ (t : List (List ℕ)). Fit c.as_slice-rounds.result.now t) (sym c.as_slice-texts.ensures) (subst (λ (r : List Round). Fit r c.args.it.now.texts) (sym c.as_slice-rounds.ensures) c.requires.fit)

pub follow_all-requires-clause-held : goal.follow_all-requires-clause-held
follow_all-requires-clause-held g c κs within =
    let many = c.in_ok-lists.ensures.many in
    let seen = ap (λ (l : List (List Pair)). length l) c.as_slice-own.ensures.value in
    omega (arith, many, seen)

pub replay_shares-requires-clause-scripts : goal.replay_shares-requires-clause-scripts
replay_shares-requires-clause-scripts g c =
    scripts_held c.args.run.now c.args.it.now.rounds c.args.it.now.texts c.as_slice-texts.result.now c.in_ok-machine.machine c.in_ok-lists.lists.items (length c.as_slice-texts.result.now) c.in_ok-machine.ensures c.requires.fit.many c.as_slice-texts.ensures refl
    c.in_ok-lists.ensures.many

pub replay_shares-requires-clause-shared : goal.replay_shares-requires-clause-shared
replay_shares-requires-clause-shared g c = (
  c.args.entries,
  shares_of c.in_ok-threads.threads c.as_slice-order.result.now c.as_slice-history.result.now c.args.entries c.in_ok-lists.lists.items (length c.as_slice-texts.result.now) c.counts_of-counts.result c.as_slice-order.ensures c.in_ok-threads.ensures c.as_slice-history.ensures
      c.in_ok-lists.ensures c.counts_of-counts.ensures,
)

pub verdict_in-requires-clause-few : goal.verdict_in-requires-clause-few
verdict_in-requires-clause-few g c =
    let many = threads_many c.in_ok-threads.threads c.as_slice-order.result.now c.as_slice-history.result.now c.args.entries c.as_slice-order.ensures c.in_ok-threads.ensures c.as_slice-history.ensures in
    let few = c.if-len-ge-MOST_ENTRIES.false in
    let count = c.len.ensures in
    omega (arith, many, few, count)

pub verdict_in-requires-clause-placed : goal.verdict_in-requires-clause-placed
verdict_in-requires-clause-placed g c = c.in_ok-replayed.ensures.placed

pub returns-clause-judges : goal.returns-clause-judges
returns-clause-judges g c =
    let seen : List Entry = c.as_slice-history.result.now in
    let same : seen ≡ c.args.entries = c.as_slice-history.ensures in
    let shares : AreShares c.as_slice-order.result.now c.in_ok-lists.lists.items c.counts_of-counts.result c.args.entries = shares_of c.in_ok-threads.threads c.as_slice-order.result.now seen c.args.entries c.in_ok-lists.lists.items (length c.as_slice-texts.result.now)
    c.counts_of-counts.result c.as_slice-order.ensures c.in_ok-threads.ensures same c.in_ok-lists.ensures c.counts_of-counts.ensures in
    entries_judged g.F.Followed.means (g.T.Tree.files c.args.tree.now) c.args.run.now c.args.it.now.rounds c.as_slice-rounds.result.now c.args.it.now.texts c.as_slice-texts.result.now c.args.entries c.in_ok-lists.lists.items c.as_slice-own.result.now
    (length c.as_slice-texts.result.now) c.verdict_in.result c.in_ok-machine.machine c.in_ok-replayed.replayed c.in_ok-follows.follows.items c.as_slice.result.now c.in_ok-machine.ensures c.as_slice-rounds.ensures c.as_slice-texts.ensures c.as_slice.ensures.value c.as_slice-own.ensures.value refl c.in_ok-lists.ensures
    (c.in_ok-replayed.ensures.replays c.args.entries shares) c.in_ok-follows.ensures.each
    (c.verdict_in.ensures c.args.entries shares.ordered)
