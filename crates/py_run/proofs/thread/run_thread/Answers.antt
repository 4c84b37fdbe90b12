use Rattle.std.proofs.Common.{refl, sym}
use Rattle.machine_desk.proofs.Keeping.{continues_refl}
use Rattle.py_run.proofs.thread.run_thread.Goals as goal

pub returns-in-Ok-clause-continues : goal.returns-in-Ok-clause-continues
returns-in-Ok-clause-continues g c =
    let l = c.run_on.ensures.stays.later c.run_on.new.port (continues_refl _, refl) in
    let same = c.desk-1.given.1 (sym l.1) in
    rw same l.0

pub returns-in-Ok-clause-lists : goal.returns-in-Ok-clause-lists
returns-in-Ok-clause-lists g c =
    let l = c.run_on.ensures.stays.later c.run_on.new.port (continues_refl _, refl) in
    let same = c.desk-1.given.1 (sym l.1) in
    rw same c.in-Ok.ensures.lists

pub returns-in-Ok-clause-meant : goal.returns-in-Ok-clause-meant
returns-in-Ok-clause-meant g c =
    let l = c.run_on.ensures.stays.later c.run_on.new.port (continues_refl _, refl) in
    let same = c.desk-1.given.1 (sym l.1) in
    rw same c.in-Ok.ensures.meant

pub returns-in-Ok-clause-follows : goal.returns-in-Ok-clause-follows
returns-in-Ok-clause-follows g c =
    let l = c.run_on.ensures.stays.later c.run_on.new.port (continues_refl _, refl) in
    let same = c.desk-1.given.1 (sym l.1) in
    rw same c.in-Ok.ensures.follows

pub returns-in-Err-clause-continues : goal.returns-in-Err-clause-continues
returns-in-Err-clause-continues g c =
    let l = c.run_on.ensures.stays.later c.run_on.new.port (continues_refl _, refl) in
    let same = c.desk-1.given.1 (sym l.1) in
    rw same l.0

pub returns-in-Err-clause-part : goal.returns-in-Err-clause-part
returns-in-Err-clause-part g c =
    let l = c.run_on.ensures.stays.later c.run_on.new.port (continues_refl _, refl) in
    let same = c.desk-1.given.1 (sym l.1) in
    rw same c.in-Err.ensures.part

pub returns-in-Err-clause-goes_on : goal.returns-in-Err-clause-goes_on
returns-in-Err-clause-goes_on g c =
    let l = c.run_on.ensures.stays.later c.run_on.new.port (continues_refl _, refl) in
    let same = c.desk-1.given.1 (sym l.1) in
    rw same c.in-Err.ensures.goes_on
