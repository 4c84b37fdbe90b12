-- What a piece of a script does: from a state, and with what
-- comes after it. The words that all forms of the language share.
use Rattle.std.specs.Prelude.{ℕ, List, [], ◌∷◌, ◌++◌, Bool, true, false, if◌then◌else◌}
use Rattle.py_value.specs.Measures.{is_true}
use Rattle.py_value.specs.declared.value.ModRef.{ModRef}
use Rattle.py_value.specs.declared.value.Value.{Value, out-Value}
use Rattle.py_value.specs.declared.value.Value.TheVariants as values
use Rattle.py_value.specs.declared.value.Value.TheOpen.{Value-F}
use Rattle.py_value.specs.declared.operator.Applied.{Applied}
use Rattle.py_value.specs.declared.operator.Applied.TheVariants as applied
use Rattle.machine_events.specs.declared.event.Event.{Event}
use Rattle.machine_events.specs.declared.event.Event.TheVariants as e
use Rattle.machine_events.specs.declared.event.Reply.{Reply}
use Rattle.machine_events.specs.declared.event.Reply.TheVariants as r
use Rattle.meaning_runs.specs.Runs.{Run}
pub use Rattle.meaning_runs.specs.Costs.{pay, at_most, units_of, text_units, texts_size, texts_units, reply_units, after_reply, calls}
use Rattle.meaning_state.specs.Faults.{error_of}
use Rattle.meaning_state.specs.declared.fault.Fault.{Fault}
use Rattle.meaning_state.specs.declared.fault.Fault.TheVariants as fault
use Rattle.meaning_state.specs.declared.flow.Leave.TheVariants.{Raised}
use Rattle.meaning_state.specs.declared.flow.Flow.{Flow}
use Rattle.meaning_state.specs.declared.flow.Flow.TheVariants.{Went, Left}
use Rattle.meaning_state.specs.declared.thread.State.{State}

-- the rest of a run, by how what comes before it ends and the state then
abbrev pub Onward : Type 0
Onward = Flow → State → Run

-- what a piece of a script does
abbrev pub Piece : Type 0
Piece = State → Onward → Run

-- no loop can have more turns, and no size be greater, since each unit is one of a budget of 64 bits
unfoldable pub most : ℕ
most = 18446744073709551615

-- goes on by `go` with a value, and passes a leave on
abbrev pub on_value : Onward → (Value → State → Run) → Onward
on_value k go (Went v) s = go v s
on_value k go (Left leave) s = k (Left leave) s

-- a statement's end
abbrev pub done : Flow
done = Went values.Nothing

-- nothing is done, and a statement is at its end
abbrev pub passes : Piece
passes s k = k done s

-- an error is raised
abbrev pub raise : Fault → Flow
raise f = Left (Raised (error_of f))

-- the error of a fault is raised, and the state stays
abbrev pub fails : Fault → Piece
fails f s k = k (raise f) s

-- what an operator gives
abbrev pub flow_of : Applied → Flow
flow_of (applied.Value v) = Went v
flow_of (applied.Raised error) = Left (Raised error)

-- goes on with the value that an operator gave, or with the error that it raised
abbrev pub gives : Applied → Piece
gives a s k = k (flow_of a) s

-- a form pays the size of its value when it is done
abbrev pub sized : Onward → Onward
sized k (Went v) s = pay (units_of v) (k (Went v) s)
sized k (Left leave) s = k (Left leave) s

-- an atom pays a unit when it is evaluated
abbrev pub atom : Piece → Piece
atom p s k = pay 1 (p s (sized k))

-- the pieces from left to right, after those that have values, and then `go` with all values
abbrev pub gathers : List Piece → List Value → (List Value → Piece) → Piece
gathers [] vs go s k = go vs s k
gathers (p ∷ ps) vs go s k = p s (on_value k (λ v s. gathers ps (vs ++ v ∷ []) go s k))

-- a form is applied: a unit is paid before, and the size of its value behind
abbrev pub applied_on : (List Value → Piece) → List Value → Piece
applied_on apply vs s k = pay 1 (apply vs s (sized k))

-- a form with operands
abbrev pub operates : List Piece → (List Value → Piece) → Piece
operates ps apply = gathers ps [] (applied_on apply)

-- one piece behind the other
abbrev pub in_order : List Piece → Piece
in_order [] = passes
in_order (p ∷ ps) = λ s k. p s (on_value k (λ _ s. in_order ps s k))

-- What stands for the search path is, as an operand, the list
-- that PathGet replies; what stands for the cache is no operand.

-- goes on with the entries of the search path as a list; PathGet replies nothing else
abbrev pub as_list : (Value → Piece) → Reply → Piece
as_list go (r.Path items) = go (values.List items)
as_list go reply = fails fault.NotInProfile

-- goes on with an operand, by how the value looks from outside
abbrev pub lists_at : Value → Value-F Value → (Value → Piece) → Piece
lists_at v Value-F.SysPath go = λ s k. calls e.PathGet (λ reply. as_list go reply s k)
lists_at v Value-F.SysModules go = fails fault.NotInProfile
lists_at v other go = go v

-- goes on with an operand
abbrev pub listed : Value → (Value → Piece) → Piece
listed v go = lists_at v (out-Value v) go

-- goes on with operands, from left to right
abbrev pub all_listed : List Value → (List Value → Piece) → Piece
all_listed [] go = go []
all_listed (v ∷ vs) go = listed v (λ u. all_listed vs (λ us. go (u ∷ us)))

-- goes on by whether a value counts as true
abbrev pub decides : Value → Piece → Piece → Piece
decides v good bad = listed v (λ u. if is_true u then good else bad)

-- an access that met a lazy module asleep loads it first, and is then made raw
abbrev pub awake : (ModRef → Piece) → ModRef → Event → (Reply → Piece) → Reply → Piece
awake roused m raw go r.Sleeping = λ s k. roused m s (on_value k (λ _ s. calls raw (λ reply. go reply s k)))
awake roused m raw go reply = go reply

-- the same by whether it was made raw already
abbrev pub accessed : Bool → (ModRef → Piece) → ModRef → Event → (Reply → Piece) → Reply → Piece
accessed true roused m raw go reply = go reply
accessed false roused m raw go reply = awake roused m raw go reply

-- forms of one, two and three operands
abbrev pub with_one : List Value → (Value → Piece) → Piece
with_one (a ∷ []) go = go a
with_one vs go = fails fault.NotInProfile

-- a form of two operands goes on with them in their order
abbrev pub with_two : List Value → (Value → Value → Piece) → Piece
with_two (a ∷ b ∷ []) go = go a b
with_two vs go = fails fault.NotInProfile

-- a form of three operands goes on with them in their order
abbrev pub with_three : List Value → (Value → Value → Value → Piece) → Piece
with_three (a ∷ b ∷ c ∷ []) go = go a b c
with_three vs go = fails fault.NotInProfile
