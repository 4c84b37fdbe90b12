use Rattle.std.proofs.Common.{rules, ap, ◌∙◌}
use Rattle.std.specs.Prelude.{not, ◌==◌}
use Rattle.std.proofs.lemmas.Fn.{filter_same}
use Rattle.module_lock.specs.Queues.{without}
use Rattle.module_lock.proofs.queues.leave_queue.Goals as goal

pub returns : goal.returns
returns c =
    let kept = filter_same _ (λ u. not (u == c.args.thread)) _ (λ x b f' k. search rules) _ _ c.retain.ensures.filtered in
    c.from_vec.ensures ∙ kept ∙ ap (without c.args.thread) (c.into_vec-threads.ensures ∙ c.replace.ensures.value)
