use Rattle.std.proofs.Common.{◌∙◌, sym, ap, subst, ◌++◌, ◌∷◌, [], slice_get}
use Rattle.std.specs.List.{All}
use Rattle.bundle_hook.specs.Indexes.{IsRight, AreRight}
use Rattle.bundle_hook.proofs.Above.{all_set, all_push, set_there, pushed_there}
use Rattle.bundle_hook.proofs.indexes.keep.Goals as goal

pub returns-in_err-push-in-None-clause-right : goal.returns-in_err-push-in-None-clause-right
unfolding AreRight
returns-in_err-push-in-None-clause-right c = λ told right new f is. subst (All (IsRight f)) (sym c.in_err-push-in-None.ensures.err) (right f is)

pub returns-in-Some-clause-right : goal.returns-in-Some-clause-right
unfolding AreRight
returns-in-Some-clause-right c = λ told right new f is. subst (All (IsRight f)) (sym c.set.ensures) (all_set (IsRight f) c.args.kept.now c.in-Some.at c.args.new (right f is) (new f is))

pub returns-in-Some-clause-there : goal.returns-in-Some-clause-there
returns-in-Some-clause-there c = ap (λ l. slice_get l c.in-Some.at) c.set.ensures ∙ set_there c.args.kept.now c.in-Some.at c.args.new c.in-Some.ensures.within

pub returns-in_ok-push-in-None-clause-right : goal.returns-in_ok-push-in-None-clause-right
unfolding AreRight
returns-in_ok-push-in-None-clause-right c = λ told right new f is. subst (All (IsRight f)) (sym c.in_ok-push-in-None.ensures.ok) (all_push (IsRight f) c.args.kept.now c.args.new (right f is) (new f is))

pub returns-in_ok-push-in-None-clause-there : goal.returns-in_ok-push-in-None-clause-there
returns-in_ok-push-in-None-clause-there c = ap (λ l. slice_get l c.len-at.result) c.in_ok-push-in-None.ensures.ok ∙ ap (slice_get (c.args.kept.now ++ c.args.new ∷ [])) c.len-at.ensures ∙ pushed_there c.args.kept.now c.args.new
