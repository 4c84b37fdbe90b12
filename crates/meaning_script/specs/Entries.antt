-- The cache as scripts see it, `sys.modules` (Library Reference,
-- sys): a table whose keys are texts. Only dotted names have entries.
use Rattle.std.specs.Prelude.{ℕ, List, [], Option, Some, None, Bool, true, false, not, if◌then◌else◌}
use Rattle.std.specs.List.{list_any}
use Rattle.py_value.specs.declared.kind.Kind.TheVariants as kinds
use Rattle.py_value.specs.declared.operator.Applied.{Applied}
use Rattle.py_value.specs.declared.operator.Applied.TheVariants as applied
use Rattle.py_value.specs.declared.value.Value.{Value, out-Value}
use Rattle.py_value.specs.declared.value.Value.TheVariants as values
use Rattle.py_value.specs.declared.value.Value.TheOpen.{Value-F}
use Rattle.py_value.specs.declared.value.Value.TheFolds.{fold-Value}
use Rattle.value_texts.specs.Texts.{repr_of}
use Rattle.spec_core.specs.Identifiers.{is_dotted}
use Rattle.machine_events.specs.declared.event.Event.TheVariants as e
use Rattle.machine_events.specs.declared.event.Reply.{Reply}
use Rattle.machine_events.specs.declared.event.Reply.TheVariants as r
use Rattle.machine_events.specs.declared.module.Slot.{Slot}
use Rattle.machine_events.specs.declared.module.Slot.TheVariants as slots
use Rattle.meaning_state.specs.Faults.{raised}
use Rattle.meaning_state.specs.declared.fault.Fault.TheVariants as fault
use Rattle.meaning_state.specs.declared.flow.Flow.TheVariants.{Went}
use Rattle.meaning_script.specs.Pieces.{Piece, calls, fails, passes, listed}

-- ---- keys

-- a list cannot be hashed, nor can a tuple that holds one at any depth
abbrev pub is_unhashable_at : Value-F Bool → Bool
is_unhashable_at (Value-F.List items) = true
is_unhashable_at (Value-F.Tuple items) = list_any (λ b. b) items
is_unhashable_at v = false

-- the same of a value itself, and so whether it raises TypeError as a key
abbrev pub is_unhashable : Value → Bool
is_unhashable = fold-Value Bool is_unhashable_at

-- the name that a key is, if it is one
abbrev pub key_name_at : Value-F Value → Option (List ℕ)
key_name_at (Value-F.Text n) = if is_dotted n then Some n else None
key_name_at v = None

-- the same of a key itself: only a text that is a dotted name is one
abbrev pub key_name : Value → Option (List ℕ)
key_name k = key_name_at (out-Value k)

-- goes on with a key and its name
abbrev pub tested : (Value → Option (List ℕ) → Piece) → Value → Piece
tested go key = if is_unhashable key then fails fault.Unhashable else go key (key_name key)

-- a key is an operand; one that cannot be hashed raises TypeError before the cache is asked
abbrev pub with_key : Value → (Value → Option (List ℕ) → Piece) → Piece
with_key key go = listed key (tested go)

-- ---- what stands there

-- the value of an entry, which is `None` for one that halts imports
abbrev pub entry_value : Slot → Option Value
entry_value slots.Absent = None
entry_value slots.Halted = Some values.Nothing
entry_value (slots.Module m) = Some (values.Module m)

-- a KeyError tells its key
abbrev pub text_or_none : Value-F Value → List ℕ
text_or_none (Value-F.Text text) = text
text_or_none v = []

-- the KeyError with this text, which is the `repr` of a key; where making that raised, the error of it
abbrev pub key_error : Applied → Piece
key_error (applied.Value v) = fails (fault.Given (raised kinds.KeyError (text_or_none (out-Value v))))
key_error (applied.Raised error) = fails (fault.Given error)

-- a key without an entry raises KeyError
abbrev pub lacks : Value → Piece
lacks key = key_error (repr_of key)

-- in place of an entry comes the default, where there is one
abbrev pub absent : Value → Option Value → Piece
absent key (Some d) = λ s k. k (Went d) s
absent key None = lacks key

-- the value of the entry; where there is none the default, and without a default KeyError
abbrev pub entry_or : Value → Option Value → Option Value → Piece
entry_or key default None = absent key default
entry_or key default (Some v) = λ s k. k (Went v) s

-- `k in sys.modules`, and `k not in sys.modules`
abbrev pub tells_entry : Bool → Option Value → Piece
tells_entry is_negated None = λ s k. k (Went (values.Bool is_negated)) s
tells_entry is_negated (Some v) = λ s k. k (Went (values.Bool (not is_negated))) s

-- behind a deletion
abbrev pub dropped : Value → Option Value → Piece
dropped key None = lacks key
dropped key (Some v) = passes

-- ---- events

-- the reply to a look at an entry: it goes on with the entry's value, if there is one
abbrev pub looked_up : (Option Value → Piece) → Reply → Piece
looked_up go (r.Slot slot) = go (entry_value slot)
looked_up go reply = fails fault.NotInProfile

-- a key that is no dotted name has no entry: the machine is not asked
abbrev pub looks_up : Option (List ℕ) → (Option Value → Piece) → Piece
looks_up None go = go None
looks_up (Some n) go = λ s k. calls (e.TabGet n) (λ reply. looked_up go reply s k)

-- the reply to a deletion tells what stood there; an entry that is fixed, as that of `sys`, raises ProfileError
abbrev pub taken_out : (Option Value → Piece) → Reply → Piece
taken_out go (r.Was slot) = go (entry_value slot)
taken_out go reply = fails fault.NotInProfile

-- an entry is deleted, and it goes on with what stood there; a key that is no dotted name has no entry
abbrev pub takes_out : Option (List ℕ) → (Option Value → Piece) → Piece
takes_out None go = go None
takes_out (Some n) go = λ s k. calls (e.TabDel n) (λ reply. taken_out go reply s k)

-- the reply to a setting; an entry that is fixed, as that of `sys`, raises ProfileError
abbrev pub entry_set : Reply → Piece
entry_set r.Done = passes
entry_set reply = fails fault.NotInProfile

-- the entry is set to a module, or to the `None` that halts imports of the name (Language Reference 5.3.1)
abbrev pub puts_slot : List ℕ → Slot → Piece
puts_slot n slot s k = calls (e.TabSet n slot) (λ reply. entry_set reply s k)

-- only a module or `None` can be an entry
abbrev pub puts : List ℕ → Value-F Value → Piece
puts n (Value-F.Module m) = puts_slot n (slots.Module m)
puts n Value-F.Nothing = puts_slot n slots.Halted
puts n v = fails fault.NotInProfile

-- only dotted names can have entries; to set any other key raises ProfileError
abbrev pub puts_named : Option (List ℕ) → Value → Piece
puts_named None v = fails fault.NotInProfile
puts_named (Some n) v = puts n (out-Value v)

-- ---- operations

-- `sys.modules[k]`, and `.get`, with what comes in place of an entry
abbrev pub reads_entry : Value → Option Value → Piece
reads_entry key default = with_key key (λ key n. looks_up n (entry_or key default))

-- `k in sys.modules`, and negated `k not in sys.modules`; the entry `None` counts as being there
abbrev pub has_entry : Bool → Value → Piece
has_entry is_negated key = with_key key (λ key n. looks_up n (tells_entry is_negated))

-- `sys.modules[k] = v`: what is wrong with the key is raised before what is wrong with the value
abbrev pub sets_entry : Value → Value → Piece
sets_entry key v = with_key key (λ key n. puts_named n v)

-- `del sys.modules[k]`: KeyError where there is no entry
abbrev pub deletes_entry : Value → Piece
deletes_entry key = with_key key (λ key n. takes_out n (dropped key))

-- `.pop`
abbrev pub pops_entry : Value → Option Value → Piece
pops_entry key default = with_key key (λ key n. takes_out n (entry_or key default))
