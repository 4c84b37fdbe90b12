use Rattle.std.proofs.Common.{ℕ, Option, subst}
use Rattle.drive_account.specs.At.{MayBeUnread}
use Rattle.py_run.proofs.looks.unread.Goals as goal

pub returns-in-Some-clause-looked : goal.returns-in-Some-clause-looked
returns-in-Some-clause-looked c = λ files old new run rose mine. record {
  moves = λ whole fuel a. subst (λ (o : Option ℕ). MayBeUnread files whole fuel mine o) c.in-Some.is a.unread;
  counts = rose;
}
