use Rattle.std.proofs.Common.{sym, ap, ◌∙◌, is_some}
use Rattle.std.specs.Cmp.Lexicographic.{nat_list_cmp_total}
use Rattle.std.specs.Option.{option_copied_mut}
use Rattle.std.specs.FinMap.{nat_cmp-IsAntisymmetric, slice_cmp-IsAntisymmetric}
use Rattle.std.specs.FinMap as map
use Rattle.spec_core.proofs.Entries.{look, given}
use Rattle.module_lock.specs.Queues.{shortened_by}
use Rattle.module_lock.proofs.queues.Queues.shorten.Goals as goal
use Rattle.module_lock.proofs.queues.Queues.shorten.Goals.{in-Some, in_default}

pub returns : goal.returns
returns c =
    let name = c.args.name.now in
    let now = sym (ap (λ m. map.get m name) c.self.view_is) ∙ look nat_list_cmp_total c.self.inside.map.entries name in
    elim c.match-get_mut.branch [
      | in-Some w ↦
          let here = sym c.get_mut.ensures.value ∙ ap option_copied_mut w.in-Some.is in
          let v = w.leave_queue.new.queue in
          rw w.self-inside-is (given nat_list_cmp_total (slice_cmp-IsAntisymmetric nat_cmp-IsAntisymmetric) c.self.inside.map.entries (c.get_mut.follows.lender v).entries name v ((c.get_mut.follows.holds v).3 (ap is_some here)).0
          ∙ ap (λ m. map.insert m name v) c.self.view_is ∙ ap (map.insert c.args.self.now name) w.leave_queue.ensures ∙ ap (shortened_by c.args.self.now name c.args.thread) (sym (now ∙ here)))
      | in_default w ↦
          let none = sym c.get_mut.ensures.value ∙ ap option_copied_mut w.in_default.is in
          rw (w.self-inside-is, c.get_mut.follows.holds-at-none) (c.self.view_is ∙ ap (shortened_by c.args.self.now name c.args.thread) (sym (now ∙ none)))
    ]
