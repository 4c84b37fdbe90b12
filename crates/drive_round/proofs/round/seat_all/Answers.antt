use Rattle.std.proofs.Common.{◌≡◌, ◌+◌, suc, [], ◌∷◌, length, length-append, append-nil, arith, refl, sym, ap, ◌∙◌, subst}
use mathlib.Core.List.{IsPrefix}
use Rattle.drive_round.specs.Workers.{Descends, IsSeated}
use Rattle.drive_round.proofs.Places.{shorter, descends-push}
use Rattle.drive_round.proofs.Gathering.{is-seated}
use Rattle.drive_round.proofs.round.seat_all.Goals as goal

pub loop-pass-init : goal.loop-pass-init
loop-pass-init g c = record {
  passes = ([], append-nil c.args.passes.items);
  programs = ([], append-nil c.args.programs.items);
  forks = ([], append-nil c.args.forks.items);
  same = c.requires.programs;
  same_forks = c.requires.forks;
  count = let none = ap length c.requires.room.0 in omega (arith, none);
  room = c.requires.room.1;
  seated = subst (Descends (IsSeated c.args.passes.items c.args.programs.items c.args.forks.items c.args.from) (length c.args.passes.items)) (sym c.requires.room.0) tt;
}

pub loop-pass-preserved : goal.loop-pass-preserved
loop-pass-preserved g c =
    let inv = c.loop-pass.invariant in
    let P = IsSeated c.args.passes.items c.args.programs.items c.args.forks.items c.args.from in
    let passes = c.pop.new.self.items in
    let programs = c.last_of.new.items.items in
    let forks = c.last_of-in-Some.new.items.items in
    let workers = c.loop-pass.workers.items in
    let fewer = ap length c.in-Some.ensures.items ∙ length-append passes (c.in-Some.pass ∷ []) in
    let fewer-programs = ap length c.last_of.ensures ∙ length-append programs (c.last_of.result ∷ []) in
    let fewer-forks = ap length c.last_of-in-Some.ensures ∙ length-append forks (c.last_of-in-Some.result ∷ []) in
    let more = ap length c.add.ensures.items ∙ length-append workers _ in
    let same : length programs ≡ length passes = let a = inv.same in omega (arith, fewer, fewer-programs, a) in
    let same-forks : length forks ≡ length passes = let a = inv.same_forks in omega (arith, fewer, fewer-forks, a) in
    let size : length c.args.passes.items ≡ length workers + suc (length passes) = let a = inv.count in omega (arith, fewer, a) in
    let seat = is-seated c.args.passes.items passes c.in-Some.pass c.args.programs.items programs c.args.forks.items forks c.args.from _
    (subst (λ l. IsPrefix l c.args.passes.items) c.in-Some.ensures.items inv.passes)
    (subst (λ l. IsPrefix l c.args.programs.items) c.last_of.ensures inv.programs)
    (subst (λ l. IsPrefix l c.args.forks.items) c.last_of-in-Some.ensures inv.forks) same same-forks refl (ap (λ n. c.args.from + n) (c.len.ensures ∙ c.pop.new.self.ok.0)) in
    record {
      passes = shorter _ _ passes c.in-Some.pass inv.passes c.in-Some.ensures.items;
      programs = shorter _ _ programs c.last_of.result inv.programs c.last_of.ensures;
      forks = shorter _ _ forks c.last_of-in-Some.result inv.forks c.last_of-in-Some.ensures;
      same = same;
      same_forks = same-forks;
      count = omega (arith, more, size);
      room = let a = inv.room in let b = c.add.ensures.room in omega (arith, a, b);
      seated = subst (Descends P (length c.args.passes.items)) (sym c.add.ensures.items) (descends-push P (length c.args.passes.items) (length passes) workers _ inv.seated size seat);
    }
