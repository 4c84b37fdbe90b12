-- How many open loads there are of each name, and how an event changes that.
use Rattle.std.specs.Prelude.{◌≡◌, ℕ, ◌+◌, ◌-◌, ◌&&◌, not, nat_le, count_by, Bool, true, false, List, Option, Some, None, slice_get, if◌then◌else◌}
use Rattle.std.specs.Ordering.{nat_cmp}
use Rattle.std.specs.Cmp.Lexicographic.{slice_cmp}
use Rattle.std.specs.FinMap.{FinMap, insert, remove}
use Rattle.machine_events.specs.declared.event.Event.{Event}
use Rattle.machine_events.specs.declared.event.Event.TheVariants as events
use Rattle.machine_events.specs.declared.event.Reply.{Reply}
use Rattle.machine_events.specs.declared.event.Reply.TheVariants as replies
use Rattle.machine_spec.specs.declared.state.State.{State}
use Rattle.machine_spec.specs.Parts.{is_open, is_main}
use Rattle.machine_spec.specs.Gives.{gives, name_of}
use Rattle.machine_laws.specs.Bones.{Bones, Module, Body, bones, is_named}
use Rattle.import_machine.specs.SpareCounts.{count_of}

-- an open load, Main aside, of a module of this name
abbrev pub counts_on : List Module → List ℕ → Body → Bool
counts_on modules n l = is_open l.stage && not (is_main l.kind) && is_named (slice_get modules l.mid) n

-- how many of them there are, whoever has them
abbrev pub total : Bones → List ℕ → ℕ
total b n = count_by (counts_on b.modules n) b.bodies

-- each name counts as many as there are
abbrev pub AreCounted : State → FinMap (slice_cmp nat_cmp) ℕ → Type 0
AreCounted s counts = (n : List ℕ) → count_of counts n ≡ total (bones s) n

-- an event that ends a load
abbrev pub is_end : Event → Bool
is_end (events.Finish load good) = true
is_end (events.ReloadEnd mid load) = true
is_end _ = false

-- the name of the load that the event ends
abbrev pub ends : State → Event → Option (List ℕ)
ends s e = if is_end e then gives s e else None

-- the name of the load that the event may open
abbrev pub begins : State → Event → Option (List ℕ)
begins s (events.Add spec text) = Some spec.name
begins s (events.ReloadTake mid spec text) = Some spec.name
begins s (events.Rouse mid) = name_of s mid
begins s _ = None

-- the answer to an event that opened it
abbrev pub has_begun : Reply → Bool
has_begun (replies.Load load mid) = true
has_begun (replies.Yours load text) = true
has_begun _ = false

-- the name counts one more
abbrev pub raised : FinMap (slice_cmp nat_cmp) ℕ → List ℕ → FinMap (slice_cmp nat_cmp) ℕ
raised counts n = insert counts n (count_of counts n + 1)

-- a count of 1 or less leaves the map
abbrev pub lowered : FinMap (slice_cmp nat_cmp) ℕ → List ℕ → FinMap (slice_cmp nat_cmp) ℕ
lowered counts n = if nat_le (count_of counts n) 1 then remove counts n else insert counts n (count_of counts n - 1)

-- the same, where a name is given; else nothing changes
abbrev pub raised_at : FinMap (slice_cmp nat_cmp) ℕ → Option (List ℕ) → FinMap (slice_cmp nat_cmp) ℕ
raised_at counts None = counts
raised_at counts (Some n) = raised counts n

-- the name counts one less, where one is given; else nothing changes
abbrev pub lowered_at : FinMap (slice_cmp nat_cmp) ℕ → Option (List ℕ) → FinMap (slice_cmp nat_cmp) ℕ
lowered_at counts None = counts
lowered_at counts (Some n) = lowered counts n

-- what was raised for the load that may begin is taken back where none has, and what ends is taken off
abbrev pub settled : FinMap (slice_cmp nat_cmp) ℕ → Option (List ℕ) → Option (List ℕ) → Bool → FinMap (slice_cmp nat_cmp) ℕ
settled counts begun ended has = lowered_at (if has then counts else lowered_at counts begun) ended
