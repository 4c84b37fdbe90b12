use Rattle.path_finder.proofs.probes.stamp_first.Goals as goal

pub returns-clause-shows : goal.returns-clause-shows
returns-clause-shows g c = rw c.in_ok-path.ensures at c.stamp_at.ensures.reads
