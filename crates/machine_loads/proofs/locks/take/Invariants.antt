use Rattle.machine_loads.proofs.locks.take.Given as goal

-- the ledger is the blank's
abbrev pub ghosts-take_by : goal.ghosts-take_by
ghosts-take_by a = record { name = a.blank.name; parts = a.blank.parts }
