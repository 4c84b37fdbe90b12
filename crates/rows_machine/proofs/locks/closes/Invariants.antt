use Rattle.rows_machine.proofs.locks.closes.Given as goal

-- the ledger is the blank's
abbrev pub ghosts-closes_by : goal.ghosts-closes_by
ghosts-closes_by a = record { name = a.blank.name; parts = a.blank.parts }
