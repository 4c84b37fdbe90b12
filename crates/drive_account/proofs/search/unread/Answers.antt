use Rattle.std.proofs.Common.{ℕ, Option, subst}
use Rattle.drive_account.specs.At.{MayBeUnread}
use Rattle.drive_account.proofs.search.unread.Goals as goal

pub returns-in-Some-clause-taken : goal.returns-in-Some-clause-taken
returns-in-Some-clause-taken c = λ files faults faults' number mine before go rose. record {
  moves = λ k whole fuel a. subst (λ (o : Option ℕ). MayBeUnread files whole fuel mine o) c.in-Some.is a.unread;
  safe = λ k h. tt;
  counts = rose;
}
