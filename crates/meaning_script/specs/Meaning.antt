-- What calls, imports and bodies mean where so many more may be open, and what a script means.
use Rattle.std.specs.Prelude.{ℕ, zero, suc, List, [], ◌∷◌, codes, Option, Some, None, nat_eq, length, if◌then◌else◌, Bool, true, false}
use Rattle.std.specs.FinMap as maps
use Rattle.std.specs.FinMap.{FinMap}
use Rattle.std.specs.Ordering.{nat_cmp}
use Rattle.std.specs.Cmp.Lexicographic.{slice_cmp}
use Rattle.py_value.specs.Names.{type_of}
use Rattle.py_value.specs.declared.value.ModRef.{ModRef}
use Rattle.py_value.specs.declared.value.Value.{Value, out-Value}
use Rattle.py_value.specs.declared.value.Value.TheOpen.{Value-F}
use Rattle.spec_core.specs.Identifiers.{is_dotted}
use Rattle.machine_events.specs.declared.event.Event.TheVariants as e
use Rattle.machine_events.specs.declared.event.Reply.{Reply}
use Rattle.machine_events.specs.declared.event.Reply.TheVariants as r
use Rattle.machine_events.specs.declared.event.Outcome.{Outcome}
use Rattle.machine_events.specs.declared.event.Outcome.TheVariants as o
use Rattle.meaning_runs.specs.Runs.{Run, Over, Ended}
use Rattle.py_syntax.specs.declared.stmt.FuncDef.{FuncDef}
use Rattle.meaning_state.specs.declared.fault.Fault.TheVariants as fault
use Rattle.meaning_state.specs.declared.flow.Leave.TheVariants.{Raised, Return}
use Rattle.meaning_state.specs.declared.flow.Flow.{Flow}
use Rattle.meaning_state.specs.declared.flow.Flow.TheVariants.{Went, Left}
use Rattle.source_functions.specs.Functions.{function_of}
use Rattle.meaning_state.specs.declared.thread.FunctionScope.{FunctionScope}
use Rattle.meaning_state.specs.declared.thread.Parsing.{Parsing}
use Rattle.meaning_state.specs.declared.thread.Parsing.TheVariants.{Parsed, Faulty}
use Rattle.meaning_state.specs.declared.thread.Source.{Source}
use Rattle.meaning_state.specs.declared.thread.State.{State}
use Rattle.meaning_script.specs.Pieces.{Piece, Onward, pay, calls, text_units, most, done, fails}
use Rattle.meaning_script.specs.Calls.{Loading, calls_kind, calls_native}
use Rattle.meaning_script.specs.Names.{Access}
use Rattle.meaning_script.specs.Operators.{Around}
use Rattle.meaning_script.specs.Statements.{run_all}
use Rattle.meaning_script.specs.Paths.{replaced}
use Rattle.meaning_script.specs.Imports.{Inside, asks, roused}
use Rattle.meaning_script.specs.Reload.{reloads}

-- what the text of each source comes to
abbrev pub World : Type 0
World = List ℕ → Parsing

-- after a body: a `return` gives its value, an error goes on, and every other end is the end of the body
abbrev pub body_gives : Flow → Flow
body_gives (Left (Raised error)) = Left (Raised error)
body_gives (Left (Return v)) = Went v
body_gives flow = done

-- the state in another place
abbrev pub placed : State → ℕ → ℕ → Option FunctionScope → State
placed s mid load function = record {
  scope = record { mid = mid; load = load; function = function };
  kept = s.kept;
  handling = s.handling;
}

-- the caller goes on where it stood, with what the thread keeps since
abbrev pub comes_back : State → Onward → Onward
comes_back s k flow s' = k (body_gives flow) (record { scope = s.scope; kept = s'.kept; handling = s'.handling })

-- the thread has the text of this load from now on
abbrev pub keeps : State → ℕ → Source → State
keeps s load source = record { scope = s.scope; kept = maps.insert s.kept load source; handling = s.handling }

-- Calls of functions.

-- the parameters with their arguments
abbrev pub bound : List (List ℕ) → List Value → FinMap (slice_cmp nat_cmp) Value → FinMap (slice_cmp nat_cmp) Value
bound (x ∷ xs) (v ∷ vs) locals = bound xs vs (maps.insert locals x v)
bound xs vs locals = locals

-- the function's body, in the module of its source
abbrev pub runs_function : Around → Source → ℕ → FuncDef → List Value → Piece
runs_function around source load f vs s k =
    run_all around f.body
    (placed s source.mid load (Some (record { function = f; locals = bound f.parameters vs maps.empty })))
    (comes_back s k)

-- a function takes exactly as many arguments as it has parameters; any other number raises TypeError
abbrev pub enters : Around → Source → ℕ → List Value → Option FuncDef → Piece
enters around source load vs None = fails fault.NotInProfile
enters around source load vs (Some f) =
    if nat_eq (length vs) (length f.parameters)
    then runs_function around source load f vs
    else fails (fault.Parameters f.name (length f.parameters) (length vs))

-- a function has the number of its `def` in its source
abbrev pub enters_source : Around → Source → ℕ → ℕ → List Value → Piece
enters_source around source load index vs = enters around source load vs (function_of source.program index)

-- the text of a load whose function is called for the first time
abbrev pub with_kept : Around → ℕ → ℕ → List Value → Source → Piece
with_kept around load index vs source s k = enters_source around source load index vs (keeps s load source) k

-- that text is parsed again; it parsed when the function was defined, so no faulty one is met
abbrev pub sourced : Around → ℕ → ℕ → List Value → ModRef → Parsing → Piece
sourced around load index vs m (Parsed script) = with_kept around load index vs (record { mid = m.mid; name = m.name; program = script })
sourced around load index vs m (Faulty error) = fails fault.NotInProfile

-- the reply to the question for a load: its module and its text
abbrev pub loaded : World → Around → ℕ → ℕ → List Value → Reply → Piece
loaded w around load index vs (r.Loaded m text) = sourced around load index vs m (w text)
loaded w around load index vs reply = fails fault.NotInProfile

-- where the thread does not have the text of the load yet, the machine is asked for it
abbrev pub with_source : World → Around → ℕ → ℕ → List Value → Option Source → Piece
with_source w around load index vs (Some source) = enters_source around source load index vs
with_source w around load index vs None = λ s k. calls (e.Source load) (λ reply. loaded w around load index vs reply s k)

-- a function is a load and a number: it can be called in any module, and by another thread
abbrev pub calls_function : World → Around → ℕ → ℕ → List Value → Piece
calls_function w around load index vs s k = with_source w around load index vs (maps.get s.kept load) s k

-- Bodies of modules and scripts.

-- a body runs in its module and its load, in no function; where its text does not parse, that error is raised
abbrev pub starts : Around → ℕ → ℕ → List ℕ → Parsing → Piece
starts around mid load n (Faulty error) = λ s k. k (Left (Raised error)) s
starts around mid load n (Parsed script) = λ s k.
    run_all around script.body (placed (keeps s load (record { mid = mid; name = n; program = script })) mid load None) (comes_back s k)

-- a body pays for its text before it is parsed
abbrev pub runs_body : World → Around → ℕ → ℕ → List ℕ → List ℕ → Piece
runs_body w around mid load n text s k = pay (text_units text) (starts around mid load n (w text) s k)

-- the import of a name, which may be that of another one's parent
abbrev pub imports_name : Inside → Bool → List ℕ → Piece
imports_name inside is_parent n = if is_dotted n then asks inside most is_parent n else fails fault.NotInProfile

-- a call, by what the callee is
abbrev pub calls_value : (ℕ → ℕ → List Value → Piece) → Loading → Value → Value-F Value → List Value → Piece
calls_value function loading f (Value-F.Func load index name) vs = function load index vs
calls_value function loading f (Value-F.Kind kind) vs = calls_kind kind vs
calls_value function loading f (Value-F.Native native) vs = calls_native loading native vs
calls_value function loading f v vs = fails (fault.NotCallable (type_of f))

-- the same of the callee itself; what cannot be called raises TypeError
abbrev pub calls_with : (ℕ → ℕ → List Value → Piece) → Loading → Value → List Value → Piece
calls_with function loading f vs = calls_value function loading f (out-Value f) vs

-- what accesses of modules go into, inside which their bodies run
abbrev pub access_in : Inside → Access
access_in inside = record { roused = roused inside; replaced = replaced (roused inside) }

-- what the calls of built-in functions go into
abbrev pub loading_in : Inside → (List ℕ → Piece) → Loading
loading_in inside lazily = record { access = access_in inside; reloaded = reloads inside; lazily = lazily }

-- what stands around a piece: the calls of functions, imports, lazy imports, and what imports go into
abbrev pub around_of : (ℕ → ℕ → List Value → Piece) → (List ℕ → Piece) → (List ℕ → Piece) → Inside → Around
around_of function imported lazily inside = record {
  called = calls_with function (loading_in inside lazily);
  imported = imported;
  access = access_in inside;
}

-- Where so many more bodies, calls and imports may be open.

-- what is opened leaves one less to all that is opened inside it; where none is left, RecursionError is raised
abbrev mutual
  -- a call of a function
  pub functions_at : World → ℕ → ℕ → ℕ → List Value → Piece
  functions_at w zero = λ load index vs. fails fault.TooDeep
  functions_at w (suc left) =
      calls_function w
      (around_of (functions_at w left) (imports_at w left false false) (imports_at w left false true)
      (record { body = bodies_at w left; parent = imports_at w left true false; is_lazy = false }))

  -- the body of a module, with its load, its name and its text
  pub bodies_at : World → ℕ → ℕ → ℕ → List ℕ → List ℕ → Piece
  bodies_at w zero = λ mid load n text. fails fault.TooDeep
  bodies_at w (suc left) =
      runs_body w
      (around_of (functions_at w left) (imports_at w left false false) (imports_at w left false true)
      (record { body = bodies_at w left; parent = imports_at w left true false; is_lazy = false }))

  -- the import of a name, of a parent first, and of a lazy module where it is to be one
  pub imports_at : World → ℕ → Bool → Bool → List ℕ → Piece
  imports_at w zero = λ is_parent is_lazy n. fails fault.TooDeep
  imports_at w (suc left) = λ is_parent is_lazy.
      imports_name (record { body = bodies_at w left; parent = imports_at w left true false; is_lazy = is_lazy }) is_parent

-- what imports, reloads and first uses go into where so many more may be open; no module that they make is lazy
abbrev pub inside_at : World → ℕ → Inside
inside_at w left = record { body = bodies_at w left; parent = imports_at w left true false; is_lazy = false }

-- what stands around a piece in which so many more may be open
abbrev pub around_at : World → ℕ → Around
around_at w left = around_of (functions_at w left) (imports_at w left false false) (imports_at w left false true) (inside_at w left)

-- the call of a value in such a piece
abbrev pub calls_at : World → ℕ → Value → List Value → Piece
calls_at w left = (around_at w left).called

-- Scripts.

-- an error that leaves the body is how the script ended; every other end is normal
abbrev pub outcome_of : Flow → Outcome
outcome_of (Left (Raised error)) = o.Raised error
outcome_of flow = o.Normal

-- where no work is left
abbrev pub ends : Onward
ends flow s = Over (Ended (outcome_of flow))

-- at first a thread stands in its own module and load, and keeps nothing
abbrev pub first_state : ℕ → State
first_state t = record { scope = record { mid = t; load = t; function = None }; kept = maps.empty; handling = [] }

-- what the script of thread t does: its body is the first of at most 200 that are open
unfoldable pub meaning : World → ℕ → List ℕ → Run
meaning w t text = bodies_at w 200 t t (codes "__main__") text (first_state t) ends
