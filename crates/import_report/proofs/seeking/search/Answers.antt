use Rattle.std.proofs.Common.{◌≡◌, ◌∙◌, sym, ap, ℕ, ◌+◌, List, [], drop, Option, Some, None, subst}
use Rattle.std.specs.Option.{ForSome}
use Rattle.spec_core.specs.declared.spec.Spec.{Spec}
use Rattle.spec_core.specs.declared.spec.SpecKind.{SpecKind}
use Rattle.path_finder.specs.declared.words.Found.TheVariants as founds
use Rattle.import_report.specs.Seeking.{seek, by_kind}
use Rattle.import_report.proofs.Finding.{seek_step, seek_decided, seek_over}
use Rattle.import_report.proofs.seeking.search.Goals as goal

pub loop-entry-preserved : goal.loop-entry-preserved
loop-entry-preserved g c = record {
  found = λ f there.
      let before = sym c.entry_offer.ensures.files_stay ∙ there in
      let step = seek_step f c.args.name c.as_slice-entry-items.result.now c.loop-entry.entry-index c.entry-item.result c.in_ok-wanted.wanted.part c.in_ok-offer.offer c.loop-entry.portions c.loop-entry-test.true c.entry-item.is c.in_ok-wanted.ensures (c.in_ok-offer.ensures.told f before) in
      sym (ap (λ (k : Option SpecKind). by_kind c.args.name k (seek f c.args.name (drop (c.loop-entry.entry-index + 1) c.as_slice-entry-items.result.now) c.keep.new.portions)) c.in-None.is)
      ∙ sym (c.in_ok-decided.ensures c.args.name (seek f c.args.name (drop (c.loop-entry.entry-index + 1) c.as_slice-entry-items.result.now)))
      ∙ sym step ∙ c.loop-entry.invariant.found f before;
  files = c.entry_offer.ensures.files_stay ∙ c.loop-entry.invariant.files;
  faults = c.in_ok-offer.ensures.faults_stay ∙ c.loop-entry.invariant.faults;
  lists = c.entry_offer.ensures.lists_stay ∙ c.loop-entry.invariant.lists;
}

pub returns-in-Some-clause-found : goal.returns-in-Some-clause-found
returns-in-Some-clause-found g c = λ f there.
    let before = c.loop-entry.invariant.files ∙ there in
    let behind = seek f c.args.name (drop (c.loop-entry.entry-index + 1) c.as_slice-entry-items.result.now) in
    let step = seek_step f c.args.name c.as_slice-entry-items.result.now c.loop-entry.entry-index c.entry-item.result c.in_ok-wanted.wanted.part c.in_ok-offer.offer c.loop-entry.portions c.loop-entry-test.true c.entry-item.is c.in_ok-wanted.ensures (c.in_ok-offer.ensures.told f before) in
    ap (λ (spec : Spec). Some (founds.Spec spec)) c.in_ok-spec-in-Some.ensures
    ∙ seek_decided f c.args.name c.in_ok-name-in-Some.name c.args.path.now c.in_ok-decided.decided c.in-Some.kind (behind c.keep.new.portions) _ c.in_ok-name-in-Some.ensures c.in-Some.is (sym (c.in_ok-decided.ensures c.args.name behind)) (sym step ∙ c.loop-entry.invariant.found f before)

pub returns-clause-found : goal.returns-clause-found
returns-clause-found g c = λ f there.
    c.found.ensures c.args.name
    ∙ seek_over f c.args.name c.args.path.now c.as_slice-entry-items.result.now c.loop-entry.entry-index c.loop-entry.portions c.loop-entry-test.false (c.loop-entry.invariant.found f (c.loop-entry.invariant.files ∙ there))
