-- What sizes and replies cost.
use Rattle.std.specs.Prelude.{ℕ, ◌+◌, ◌-◌, ◌^◌, ◌/◌, min, length, map, List, false}
use Rattle.std.specs.List.{sum}
use Rattle.py_value.specs.Measures.{size_of}
use Rattle.py_value.specs.declared.value.Value.{Value}
use Rattle.py_value.specs.declared.value.Value.TheVariants as values
use Rattle.machine_events.specs.declared.event.Event.{Event}
use Rattle.machine_events.specs.declared.event.Reply.{Reply}
use Rattle.machine_events.specs.declared.event.Reply.TheVariants as r
use Rattle.meaning_runs.specs.Runs.{Run, Pays, Makes}

-- units that are no payment for a call of the tree
abbrev pub pay : ℕ → Run → Run
pay units next = Pays false units next

-- no cost is more than 64 bits hold
abbrev pub at_most : ℕ → ℕ
at_most units = min units (2 ^ 64 - 1)

-- what a value's size costs
abbrev pub units_of : Value → ℕ
units_of v = at_most (size_of v)

-- a text costs its whole 64 bytes
abbrev pub text_units : List ℕ → ℕ
text_units text = length text / 64

-- a list of texts costs its items and their sizes
abbrev pub texts_size : List (List ℕ) → ℕ
texts_size texts = length texts + sum (map text_units texts)

-- what a list of texts costs, at most what 64 bits hold
abbrev pub texts_units : List (List ℕ) → ℕ
texts_units texts = at_most (texts_size texts)

-- what is paid for the reply to an event
abbrev pub reply_units : Reply → ℕ
reply_units (r.Value v) = units_of v
reply_units (r.Path items) = units_of (values.List items)
reply_units (r.Names names) = texts_units names
reply_units (r.Loaded m text) = text_units text
reply_units (r.Yours load text) = text_units text
reply_units (r.Ns state epoch) = at_most (size_of (values.List state.parent_path) + texts_size state.portions)
reply_units reply = 0

-- the reply to an event is paid for; a thread that is to wait for a lock pays nothing before it waits
abbrev pub after_reply : Reply → Run → Run
after_reply (r.Wait l) next = next
after_reply reply next = pay (reply_units reply) next

-- an event costs a unit before it is made, and then what its reply costs
abbrev pub calls : Event → (Reply → Run) → Run
calls event next = pay 1 (Makes event (λ reply. after_reply reply (next reply)))
