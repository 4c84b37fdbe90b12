use Rattle.std.proofs.Common.{◌≡◌, ◌∙◌, refl, sym, ap, subst, ℕ, Bool, ◌&&◌, ◌+◌, ◌≤◌, Err, length, arith}
use Rattle.std.specs.Option.{ForSome}
use Rattle.tree_files.specs.Count.{Rose}
use Rattle.tree_files.specs.Files.{Files}
use Rattle.import_report.specs.Left.{left, unlisted}
use Rattle.import_report.proofs.Steps.{lists_count}
use Rattle.machine_desk.specs.declared.outlet.Flow.{Flow}
use Rattle.program_run.specs.Sinks.{at, Gets}
use Rattle.program_commands.specs.Telling.{line_text}
use Rattle.program_commands.proofs.Lines.{Telling, begin, tell_more, all_told, unread_told, short_told, cut_told, short_line_told, next_line, no_line}
use Rattle.program_commands.proofs.telling.tell_all.Goals as goal

pub lines-init : goal.lines-init
lines-init g c = record {
  told = begin (g.T.Tree.files c.args.tree.now) (λ f. left f c.args.begun) (at g.O.Sink c.args.out.now);
  files = refl;
  faults = refl;
  lists = λ f there. omega arith;
  lists_grow = omega arith;
  out_faults = omega arith;
}

pub lines-preserved : goal.lines-preserved
lines-preserved g c =
    let files = g.T.Tree.files c.args.tree.now in
    let next = next_line files (λ f. left f c.lines.walk) (λ f. left f c.next.new.self) c.in-Ok-Some.field-0 c.in-Ok-Some.line c.in-Ok-Some.field-0-is (λ f there. c.in-Ok-Some.ensures.told f (c.lines.invariant.files ∙ there)) in
    let got = subst (λ (flow : Flow). Gets (at g.O.Sink c.lines.out) (line_text c.in-Ok-Some.line) (at g.O.Sink c.tell_line.new.out) flow) c.in-Open.is c.tell_line.ensures.gets in
    let grow = c.lines.invariant.lists_grow in
    let grows = c.next.ensures.lists_grow in
    let out = c.lines.invariant.out_faults in
    let outs = c.tell_line.ensures.faults_grow in
    record {
      told = subst (λ (found : Bool). Telling files (λ f. left f c.args.begun) (λ f. left f c.next.new.self) (at g.O.Sink c.args.out.now) (at g.O.Sink c.tell_line.new.out) found) (sym c.are_found-found.ensures)
          (tell_more files (λ f. left f c.args.begun) (λ f. left f c.lines.walk) (at g.O.Sink c.args.out.now) (at g.O.Sink c.lines.out) c.lines.found c.lines.invariant.told
          (λ f. left f c.next.new.self) (at g.O.Sink c.tell_line.new.out) c.in-Ok-Some.line next got);
      files = c.next.ensures.files_stay ∙ c.lines.invariant.files;
      faults = c.in-Ok-Some.ensures.faults_stay ∙ c.lines.invariant.faults;
      lists = λ f there.
          let before = c.lines.invariant.lists f there in
          let one = lists_count _ _ _ _ (c.next.ensures.lists f (c.lines.invariant.files ∙ there)) in
          omega (arith, before, one);
      lists_grow = omega (arith, grow, grows);
      out_faults = omega (arith, out, outs);
    }

pub returns-in-Failed-clause-tells : goal.returns-in-Failed-clause-tells
returns-in-Failed-clause-tells g c =
    let files = g.T.Tree.files c.args.tree.now in
    let next = next_line files (λ f. left f c.lines.walk) (λ f. left f c.next.new.self) c.in-Ok-Some.field-0 c.in-Ok-Some.line c.in-Ok-Some.field-0-is (λ f there. c.in-Ok-Some.ensures.told f (c.lines.invariant.files ∙ there)) in
    let got = subst (λ (flow : Flow). Gets (at g.O.Sink c.lines.out) (line_text c.in-Ok-Some.line) (at g.O.Sink c.tell_line.new.out) flow) c.in-Failed.is c.tell_line.ensures.gets in
    cut_told files (λ f. left f c.args.begun) (λ f. left f c.lines.walk) _ _ c.lines.found c.lines.invariant.told (g.T.Tree.faults c.args.tree.now) (g.T.Tree.faults c.next.new.tree) (λ f. left f c.next.new.self) _ c.in-Ok-Some.line next got

pub returns-in-Short-clause-tells : goal.returns-in-Short-clause-tells
returns-in-Short-clause-tells g c =
    let files = g.T.Tree.files c.args.tree.now in
    let next = next_line files (λ f. left f c.lines.walk) (λ f. left f c.next.new.self) c.in-Ok-Some.field-0 c.in-Ok-Some.line c.in-Ok-Some.field-0-is (λ f there. c.in-Ok-Some.ensures.told f (c.lines.invariant.files ∙ there)) in
    let got = subst (λ (flow : Flow). Gets (at g.O.Sink c.lines.out) (line_text c.in-Ok-Some.line) (at g.O.Sink c.tell_line.new.out) flow) c.in-Short.is c.tell_line.ensures.gets in
    short_line_told files (λ f. left f c.args.begun) (λ f. left f c.lines.walk) _ _ c.lines.found c.lines.invariant.told (g.T.Tree.faults c.args.tree.now) (g.T.Tree.faults c.next.new.tree) (λ f. left f c.next.new.self) _ c.in-Ok-Some.line next got

pub returns-in-Ok-None-clause-tells : goal.returns-in-Ok-None-clause-tells
returns-in-Ok-None-clause-tells g c =
    let files = g.T.Tree.files c.args.tree.now in
    all_told files (λ f. left f c.args.begun) (λ f. left f c.lines.walk) _ _ c.lines.found c.lines.invariant.told (g.T.Tree.faults c.args.tree.now) (g.T.Tree.faults c.next.new.tree)
    (no_line files (λ f. left f c.lines.walk) (λ f. left f c.next.new.self) c.in-Ok-None.field-0 c.in-Ok-None.field-0-is (λ f there. c.in-Ok-None.ensures.told f (c.lines.invariant.files ∙ there)))

pub returns-in-Err-Failed-clause-tells : goal.returns-in-Err-Failed-clause-tells
returns-in-Err-Failed-clause-tells g c =
    unread_told (g.T.Tree.files c.args.tree.now) (λ f. left f c.args.begun) (λ f. left f c.lines.walk) _ _ c.lines.found c.lines.invariant.told (g.T.Tree.faults c.args.tree.now) (g.T.Tree.faults c.next.new.tree)
    (subst (λ (n : ℕ). Rose n (g.T.Tree.faults c.next.new.tree)) c.lines.invariant.faults (c.in-Err-Failed.ensures.failed (ap Err c.in-Err-Failed.field-0-is)))

pub returns-in-Err-NoMemory-clause-tells : goal.returns-in-Err-NoMemory-clause-tells
returns-in-Err-NoMemory-clause-tells g c =
    short_told (g.T.Tree.files c.args.tree.now) (λ f. left f c.args.begun) (λ f. left f c.lines.walk) _ _ c.lines.found c.lines.invariant.told (g.T.Tree.faults c.args.tree.now) (g.T.Tree.faults c.next.new.tree)

pub returns-clause-tells : goal.returns-clause-tells
returns-clause-tells g c =
    short_told (g.T.Tree.files c.args.tree.now) (λ f. left f c.args.begun) (λ f. left f c.lines.walk) _ _ c.lines.found c.lines.invariant.told (g.T.Tree.faults c.args.tree.now) (g.T.Tree.faults c.lines.tree)
