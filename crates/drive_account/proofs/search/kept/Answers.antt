use Rattle.drive_account.proofs.search.kept.Goals as goal

pub returns-then-pay-clause-moves : goal.returns-then-pay-clause-moves
returns-then-pay-clause-moves c = λ files go k whole fuel mine a. c.if-pay.ensures.moves files whole fuel mine _ a

pub returns-then-pay-clause-safe : goal.returns-then-pay-clause-safe
returns-then-pay-clause-safe c = λ s go k h. h.1

pub returns-else-pay-clause-moves : goal.returns-else-pay-clause-moves
returns-else-pay-clause-moves c = λ files go k whole fuel mine a. c.if-pay.ensures.moves files whole fuel mine _ a
