-- How an event changes what is held, once its reply is known.
use Rattle.std.specs.Prelude.{List}
use Rattle.machine_events.specs.declared.event.Reply.{Reply}
use Rattle.machine_shown.specs.Holdings.{Holding, without}
use Rattle.machine_shown.specs.Shown.{take_answered, add_answered, rouse_answered, begin_answered, reload_answered}
use Rattle.drive_account.specs.Holds.{holding_of}
use Rattle.drive_account.specs.declared.change.Change.{Change}
use Rattle.drive_account.specs.declared.change.Change.TheVariants as change

-- what is held after an event of this change and its reply, in the order in which a thread knows it
abbrev pub changed : Change → Reply → List Holding → List Holding
changed change.Nothing reply held = held
changed (change.Takes n) reply held = take_answered n held reply
changed (change.Gives hold) reply held = without (holding_of hold) held
changed (change.Adds n) reply held = add_answered n held reply
changed change.Rouses reply held = rouse_answered held reply
changed (change.Begins mid) reply held = begin_answered mid held reply
changed (change.Reloads mid) reply held = reload_answered mid held reply
