use Rattle.std.proofs.Common.{rules}
use Rattle.py_run.proofs.Dues.{event_due, step_due}
use Rattle.py_run.proofs.turn.give.Goals as goal

pub read-requires : goal.read-requires
read-requires g c = record { stood = rw c.in-ReadGlobal.is at c.requires.stood }

pub returns-in-ReadGlobal : goal.returns-in-ReadGlobal
returns-in-ReadGlobal g c = rw c.in-ReadGlobal.is (event_due _ _ _ _ _ _ _ _ c.read.result c.read.ensures)

pub read_member-requires : goal.read_member-requires
read_member-requires g c = record { stood = rw c.in-Member.is at c.requires.stood }

pub returns-in-Member : goal.returns-in-Member
returns-in-Member g c = rw c.in-Member.is (event_due _ _ _ _ _ _ _ _ c.read_member.result c.read_member.ensures)

pub give_wanted-requires : goal.give_wanted-requires
give_wanted-requires g c = record { stood = rw (c.in-Wanted.is, ← c.into_inner.ensures) at c.requires.stood }

pub returns-in-Wanted : goal.returns-in-Wanted
returns-in-Wanted g c = rw (c.in-Wanted.is, ← c.into_inner.ensures) c.give_wanted.ensures

pub bind-requires : goal.bind-requires
bind-requires g c = record {
  global = search rules;
  stood = rw c.in-Store.is at c.requires.stood;
}

pub returns-else-is_local_name : goal.returns-else-is_local_name
returns-else-is_local_name g c = rw c.in-Store.is (event_due _ _ _ _ _ _ _ _ c.bind.result c.bind.ensures)

pub returns-then-is_local_name : goal.returns-then-is_local_name
returns-then-is_local_name g c =
    rw c.in-Store.is (step_due _ _ _ _ _ _ _ c.go_straight.result c.go_straight.ensures.turned (rw c.go_straight.ensures.held c.requires.stood.holds) c.go_straight.ensures.refused)

pub returns-in_default : goal.returns-in_default
returns-in_default g c =
    step_due _ _ _ _ _ _ _ c.go_straight-in_default.result c.go_straight-in_default.ensures.turned (rw c.go_straight-in_default.ensures.held c.requires.stood.holds) c.go_straight-in_default.ensures.refused
