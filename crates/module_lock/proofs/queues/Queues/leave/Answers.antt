use Rattle.std.proofs.Common.{cond, sym, ap, ◌∙◌}
use Rattle.std.specs.Prelude.{length}
use Rattle.std.proofs.lemmas.Bool.{eq-eqb}
use Rattle.std.specs.Cmp.Lexicographic.{nat_list_cmp_total}
use Rattle.std.specs.FinMap.{nat_cmp-IsAntisymmetric, slice_cmp-IsAntisymmetric}
use Rattle.std.specs.FinMap as map
use Rattle.spec_core.proofs.Entries.{taken}
use Rattle.module_lock.specs.Queues.{queue_of, shortened}
use Rattle.module_lock.proofs.queues.Queues.leave.Goals as goal

pub returns-then-of-eq0 : goal.returns-then-of-eq0
returns-then-of-eq0 c =
    let name = c.args.name.now in
    let short = shortened c.args.self.now name c.args.thread in
    let gone = taken nat_list_cmp_total (slice_cmp-IsAntisymmetric nat_cmp-IsAntisymmetric) c.self.inside.map.entries c.remove.new.self.entries name c.remove.ensures.updates.0 ∙ ap (λ m. map.remove m name) (c.self.view_is ∙ c.shorten.ensures) in
    let none = eq-eqb (length (queue_of short name)) 0 (sym (ap length (c.of.ensures ∙ ap (λ m. queue_of m name) c.shorten.ensures)) ∙ c.if-of-eq0.true) in
    gone ∙ sym (ap (λ b. cond b (map.remove short name) short) none)
