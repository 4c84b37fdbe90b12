-- What the work that remains will do, in the words of the meaning.
use Rattle.std.specs.Prelude.{◌≡◌, ℕ, zero, suc, List, [], ◌∷◌, ◌++◌, map, drop, length, slice_get, slice_set, Option, Some, None, Bool, true, false}
use Rattle.py_value.specs.declared.value.ModRef.{ModRef}
use Rattle.py_value.specs.declared.value.Raised.{Raised as Error}
use Rattle.py_value.specs.declared.value.Value.{Value}
use Rattle.machine_events.specs.declared.event.Event.TheVariants as e
use Rattle.machine_events.specs.declared.event.Reply.{Reply}
use Rattle.meaning_runs.specs.Runs.{Run, Pays, Looks, Makes, StampOf}
use Rattle.py_syntax.specs.declared.expr.Expr.{Expr, out-Expr}
use Rattle.py_syntax.specs.declared.expr.Expr.TheOpen.{Expr-F}
use Rattle.py_syntax.specs.declared.stmt.Alias.{Alias}
use Rattle.py_syntax.specs.declared.stmt.Branch.{Branch}
use Rattle.py_syntax.specs.declared.stmt.FuncDef.{FuncDef}
use Rattle.py_syntax.specs.declared.stmt.Handler.{Handler}
use Rattle.py_syntax.specs.declared.stmt.ImportedNames.{ImportedNames}
use Rattle.py_syntax.specs.declared.stmt.ImportedNames.TheVariants as names
use Rattle.py_syntax.specs.declared.stmt.Stmt.{Stmt, out-Stmt}
use Rattle.py_syntax.specs.declared.stmt.Stmt.TheOpen.{Stmt-F}
use Rattle.meaning_state.specs.declared.fault.Fault.TheVariants as fault
use Rattle.meaning_state.specs.declared.flow.Flow.{Flow}
use Rattle.meaning_state.specs.declared.flow.Flow.TheVariants.{Went, Left}
use Rattle.meaning_state.specs.declared.thread.State.{State}
use Rattle.meaning_state.specs.declared.thread.Thread.{Thread}
use Rattle.meaning_script.specs.Pieces.{Piece, Onward, pay, calls, after_reply, on_value, done, passes, fails, sized, gathers, in_order, applied_on, as_list, listed, decides}
use Rattle.meaning_script.specs.Names.{reads_global, read_global, member, member_came, stores, stored, member_stored, deleted, member_deleted}
use Rattle.meaning_script.specs.Entries.{reads_entry, has_entry, sets_entry, deletes_entry, pops_entry, looked_up, entry_or, tells_entry, entry_set, taken_out, dropped}
use Rattle.meaning_script.specs.Methods.{calls_method, adds_entry, path_added}
use Rattle.meaning_script.specs.Calls.{telling, defaulting}
use Rattle.meaning_script.specs.Operators.{Around, operands_at, applies_at, atom_at, conjoins, disjoins, calls_member, eval}
use Rattle.meaning_script.specs.Statements.{BranchPiece, HandlerPiece, DefPiece, augment, stmt_operands_at, performs_at, tests, turn, turns, looped, handled, handles, binds_error, chosen, takes, catches, tried, tries, finishes, resumes, guards, unbinds, defines, run, branch, handler, run_all}
use Rattle.meaning_script.specs.Imports.{opens}
use Rattle.meaning_script.specs.Meaning.{World, around_at, inside_at, calls_at, imports_at, bodies_at, starts, loaded, body_gives, ends}
use Rattle.meaning_script.specs.ImportStatements.{with_module, imports_one, imports_all, imports_front, binds_import, follows_parts, name_of, name_came, submodule_entry, missed, tried_submodule, submodule_came, submodule, submodules, package_came, asks_submodules, binds_item, binds_items, binds_star, binds_stars, public_names, all_came, package_in, optional_name, from_resolved, imported_names, from_import}
use Rattle.step_package_path.specs.Means.{means as path_means}
use Rattle.reload_lazy.specs.Reload.{means as reload_means}
use Rattle.run_module.specs.Rouse.{means as rouse_means}
use Rattle.run_module.specs.Means.{means as program_means}
use Rattle.run_module.specs.Programs.{program_inside}
use Rattle.path_finder.specs.Steps.{searches}
use Rattle.meaning_script.specs.Searches.{searches_in}
use Rattle.spec_core.specs.Relative.{resolved}
use Rattle.find_load.specs.Means.{means}
use Rattle.find_load.specs.declared.words.In.{In}
use Rattle.find_load.specs.declared.words.In.TheVariants as given
use Rattle.py_frames.specs.declared.procedures.Procedure.{Procedure}
use Rattle.py_frames.specs.declared.procedures.Procedure.TheVariants.{Import, Path, Rouse, Reload, Program}
use Rattle.py_frames.specs.declared.work.Form.{Form}
use Rattle.py_frames.specs.declared.work.Form.TheVariants.{Expression, Statement, Method}
use Rattle.py_frames.specs.declared.work.Item.{Item}
use Rattle.py_frames.specs.declared.work.Item.TheVariants as it
use Rattle.py_frames.specs.declared.work.Frame.{Frame}
use Rattle.py_frames.specs.declared.work.Frame.TheVariants as frame
use Rattle.py_frames.specs.declared.replies.OnReply.{OnReply}
use Rattle.py_frames.specs.declared.replies.OnReply.TheVariants as on
use Rattle.py_frames.specs.declared.want.Want.{Want}
use Rattle.py_frames.specs.declared.want.Want.TheVariants as want

-- the rest of the work, by how many more bodies, calls and imports may be open
abbrev pub Rest : Type 0
Rest = ℕ → Onward

-- what is done with a part that may be missing; where it is, ProfileError is raised
abbrev pub or_fails : {X : Type 0} → (X → Piece) → Option X → Piece
or_fails go None = fails fault.NotInProfile
or_fails go (Some x) = go x

-- ---- parts of trees

-- the statement at a place of a block, where there is one
abbrev pub operands_of_stmt : Option Stmt → List Expr
operands_of_stmt None = []
operands_of_stmt (Some s) = stmt_operands_at (out-Stmt s)

-- that statement on the values of its operands; where none stands there, ProfileError is raised
abbrev pub performs : Around → Option Stmt → List Value → Piece
performs around o vs = or_fails (λ (s : Stmt). performs_at around.access (out-Stmt s) vs) o

-- the arguments of a call, and the attribute that it names
abbrev pub arguments_at : Expr-F Expr → List Expr
arguments_at (Expr-F.Call callee es) = es
arguments_at form = []

-- the name behind the dot of an attribute; any other form has the empty one
abbrev pub attribute_name : Expr-F Expr → List ℕ
attribute_name (Expr-F.Attribute object x) = x
attribute_name form = []

-- the name of the attribute that a call has as its callee; empty where a form is no call, or its callee no attribute
abbrev pub method_name_at : Expr-F Expr → List ℕ
method_name_at (Expr-F.Call callee es) = attribute_name (out-Expr callee)
method_name_at form = []

-- the arguments of an expression that is a call, by its outermost form; any other has none
abbrev pub arguments_of : Expr → List Expr
arguments_of e = arguments_at (out-Expr e)

-- the name of the attribute that an expression calls, by its outermost form; empty where it calls none
abbrev pub method_name : Expr → List ℕ
method_name e = method_name_at (out-Expr e)

-- whose values a form is applied to: the operands of an expression, those of the statement at a place, or the arguments
-- of a method, whose object has its value already
abbrev pub operands_of : Form → List Expr
operands_of (Expression e) = operands_at (out-Expr e)
operands_of (Statement stmts at) = operands_of_stmt (slice_get stmts at)
operands_of (Method e object) = arguments_of e

-- a form on the values of its operands: an operator is paid for first
abbrev pub completes : Around → Form → List Value → Piece
completes around (Expression e) vs = applied_on (applies_at around (out-Expr e)) vs
completes around (Statement stmts at) vs = performs around (slice_get stmts at) vs
completes around (Method e object) vs = applied_on (calls_method object (method_name e)) vs

-- behind the object of the attribute that a call names, and its unit
abbrev pub calls_callee : Around → Expr → Value → Piece
calls_callee around e object = calls_member around (method_name e) (map (eval around) (arguments_of e)) object

-- ---- an operand in whose place a list comes

-- the piece of work with this value as its operand at the place; of work on an entry that is the key, of `and` and `or`
-- the left operand, whatever the place; any other work stays as it is
abbrev pub with_operand : Item → ℕ → Value → Item
with_operand (it.Apply e vs) at v = it.Apply e (slice_set vs at v)
with_operand (it.Augment x o vs) at v = it.Augment x o (slice_set vs at v)
with_operand (it.Perform stmts place vs) at v = it.Perform stmts place (slice_set vs at v)
with_operand (it.Call f vs) at v = it.Call f (slice_set vs at v)
with_operand (it.Choose e left) at v = it.Choose e v
with_operand (it.ReadEntry key default) at v = it.ReadEntry v default
with_operand (it.HasEntry key is_negated) at v = it.HasEntry v is_negated
with_operand (it.SetEntry key value) at v = it.SetEntry v value
with_operand (it.DeleteEntry key) at v = it.DeleteEntry v
with_operand (it.PopEntry key default) at v = it.PopEntry v default
with_operand item at v = item

-- `and` and `or` behind their left operand
abbrev pub chooses_at : Around → Expr-F Expr → Value → Piece
chooses_at around (Expr-F.And a b) v = conjoins (eval around b) v
chooses_at around (Expr-F.Or a b) v = disjoins (eval around b) v
chooses_at around form v = fails fault.NotInProfile

-- the same of an expression, by its outermost form (Language Reference 6.11)
abbrev pub chooses : Around → Expr → Value → Piece
chooses around e v = chooses_at around (out-Expr e) v

-- what an `import` statement imports, in order; any other statement, a `from` too, has no such list
abbrev pub aliases_at : Stmt-F Stmt Branch FuncDef Handler → List Alias
aliases_at (Stmt-F.Import items) = items
aliases_at stmt = []

-- the same of a statement that may be missing; where it is, there is nothing
abbrev pub aliases_of : Option Stmt → List Alias
aliases_of None = []
aliases_of (Some s) = aliases_at (out-Stmt s)

-- one module of an `import`, with its binding (Language Reference 7.11); where it is missing, ProfileError is raised
abbrev pub imports_some : Around → Option Alias → Piece
imports_some around o = or_fails (imports_one around) o

-- `import a.b.c` behind the import of the whole name, and then behind that of its first part
abbrev pub fronts_parts : Around → List (List ℕ) → Option (List ℕ) → Piece
fronts_parts around [] bound = fails fault.NotInProfile
fronts_parts around (x ∷ cs) bound = imports_front around x cs bound

-- the same of one module of an `import`; where it is missing, ProfileError is raised
abbrev pub fronts_some : Around → Option Alias → Piece
fronts_some around o = or_fails (λ (a : Alias). fronts_parts around a.parts a.bound) o

-- the value of the first part is bound to that part, or, with `as`,
-- followed to its last part, which is bound (Language Reference 7.11)
abbrev pub binds_parts : Around → List (List ℕ) → Option (List ℕ) → Value → Piece
binds_parts around [] bound v = fails fault.NotInProfile
binds_parts around (x ∷ cs) bound v = binds_import around x cs bound v

-- the same of one module of an `import`; where it is missing, ProfileError is raised
abbrev pub binds_some_import : Around → Option Alias → Value → Piece
binds_some_import around o v = or_fails (λ (a : Alias). binds_parts around a.parts a.bound v) o

-- the parts from one on, where they are bound to a name of their own
abbrev pub follows_bound : Around → List (List ℕ) → Option (List ℕ) → Value → Piece
follows_bound around parts o v = or_fails (λ (x : List ℕ). follows_parts around parts x v) o

-- the same of one module of an `import`; where it is missing, or has no `as`, ProfileError is raised
abbrev pub follows_some : Around → ℕ → Option Alias → Value → Piece
follows_some around part o v = or_fails (λ (a : Alias). follows_bound around (drop part a.parts) a.bound v) o

-- a `from` statement
abbrev pub from_at : Around → Stmt-F Stmt Branch FuncDef Handler → Piece
from_at around (Stmt-F.From dots parts names) = from_import around dots parts names
from_at around stmt = fails fault.NotInProfile

-- the same of a statement that may be missing; where it is, ProfileError is raised
abbrev pub from_some : Around → Option Stmt → Piece
from_some around o = or_fails (λ (s : Stmt). from_at around (out-Stmt s)) o

-- what it does with its module
abbrev pub names_at : Around → Stmt-F Stmt Branch FuncDef Handler → ModRef → Piece
names_at around (Stmt-F.From dots parts names) m = imported_names around names m
names_at around stmt m = fails fault.NotInProfile

-- the same of a statement that may be missing; where it is, ProfileError is raised
abbrev pub names_some : Around → Option Stmt → ModRef → Piece
names_some around o m = or_fails (λ (s : Stmt). names_at around (out-Stmt s) m) o

-- the package of its own module was read
abbrev pub relative_at : Around → Stmt-F Stmt Branch FuncDef Handler → Reply → Piece
relative_at around (Stmt-F.From dots parts names) reply =
    from_resolved around (imported_names around names) (resolved (package_in reply) dots (optional_name parts))
relative_at around stmt reply = fails fault.NotInProfile

-- the same of a statement that may be missing; where it is, ProfileError is raised
abbrev pub relative_some : Around → Option Stmt → Reply → Piece
relative_some around o reply = or_fails (λ (s : Stmt). relative_at around (out-Stmt s) reply) o

-- the items that are listed behind `import`; a star lists none
abbrev pub listed_in : ImportedNames → List Alias
listed_in names.All = []
listed_in (names.Listed items) = items

-- the items of a `from` statement, in order; any other statement has none
abbrev pub items_at : Stmt-F Stmt Branch FuncDef Handler → List Alias
items_at (Stmt-F.From dots parts names) = listed_in names
items_at stmt = []

-- the same of a statement that may be missing; where it is, there are none
abbrev pub items_of : Option Stmt → List Alias
items_of None = []
items_of (Some s) = items_at (out-Stmt s)

-- one item of a `from` statement is bound from the module; where it is missing, ProfileError is raised
abbrev pub binds_some_item : Around → ModRef → Option Alias → Piece
binds_some_item around m o = or_fails (binds_item around m) o

-- the branches of an `if`, in order: of each its test and its block
abbrev pub branches : Around → List Branch → List BranchPiece
branches around bs = map (branch around) bs

-- the handlers of a `try`, in order: of each its kinds, its name and its block
abbrev pub handlers : Around → List Handler → List HandlerPiece
handlers around hs = map (handler around) hs

-- a `try` without its `finally` block
abbrev pub tries_at : Around → Stmt-F Stmt Branch FuncDef Handler → Piece
tries_at around (Stmt-F.Try body hs otherwise last) = tries (run_all around body) (handlers around hs) (run_all around otherwise)
tries_at around stmt = fails fault.NotInProfile

-- the same of a statement that may be missing; where it is, ProfileError is raised
abbrev pub tries_some : Around → Option Stmt → Piece
tries_some around o = or_fails (λ (s : Stmt). tries_at around (out-Stmt s)) o

-- behind the first block of a `try`
abbrev pub tried_at : Around → Stmt-F Stmt Branch FuncDef Handler → Onward → Onward
tried_at around (Stmt-F.Try body hs otherwise last) k = tried (handlers around hs) (run_all around otherwise) k
tried_at around stmt k = k

-- the same of a statement that may be missing; where it is, the way on stays as it is
abbrev pub tried_some : Around → Option Stmt → Onward → Onward
tried_some around None k = k
tried_some around (Some s) k = tried_at around (out-Stmt s) k

-- a statement, once its unit is paid
abbrev pub begun_at : Around → Stmt-F Stmt Branch FuncDef Handler → Piece
begun_at around (Stmt-F.Import items) = imports_all around items
begun_at around (Stmt-F.From dots parts names) = from_import around dots parts names
begun_at around (Stmt-F.If bs otherwise) = tests (branches around bs) (run_all around otherwise)
begun_at around (Stmt-F.Try body hs otherwise last) =
    guards (map (run around) last) (tries (run_all around body) (handlers around hs) (run_all around otherwise))
begun_at around (Stmt-F.Def f) = defines (record { number = f.number; name = f.name })
begun_at around stmt = gathers (map (eval around) (stmt_operands_at stmt)) [] (performs_at around.access stmt)

-- the same of a statement that may be missing; where it is, ProfileError is raised
abbrev pub begun : Around → Option Stmt → Piece
begun around o = or_fails (λ (s : Stmt). begun_at around (out-Stmt s)) o

-- a whole statement, with its own units; where it is missing, ProfileError is raised
abbrev pub runs_some : Around → Option Stmt → Piece
runs_some around o = or_fails (run around) o

-- the handlers from a place on
abbrev pub catches_from : Around → List Handler → ℕ → Error → Piece
catches_from around hs at error = catches (handlers around (drop at hs)) error

-- a handler that takes the error: its name, where it has one, is bound to the error, and then its block runs
-- (Language Reference 8.4.1); where no handler is there, ProfileError is raised
abbrev pub binds_some : Around → Option Handler → Error → Piece
binds_some around o error = or_fails (λ (h : Handler). binds_error (handler around h) error h.bound) o

-- the block of a handler, with the error, and then its name is unset; where no handler is there, ProfileError is raised
abbrev pub handles_some : Around → Option Handler → Error → Piece
handles_some around o error = or_fails (λ (h : Handler). handles (handler around h) error) o

-- by whether a handler's kinds take the error: this handler, else the others; TypeError where it names what is no kind,
-- and ProfileError where the handler is missing
abbrev pub chosen_some : Around → Option Handler → Error → Piece → Option Bool → Piece
chosen_some around o error others taken = or_fails (λ (h : Handler). chosen (handler around h) error others taken) o

-- behind a branch's test: its block where the value counts as true, else the others (Language Reference 8.1); where the
-- branch is missing, ProfileError is raised
abbrev pub decides_some : Around → Option Branch → Value → Piece → Piece
decides_some around o v others = or_fails (λ (b : Branch). decides v (run_all around b.body) others) o

-- ---- procedures, and the depth of calls

-- what a procedure does by what it is fed, where so many more bodies, calls and imports may be open
abbrev pub fed : World → ℕ → Procedure → In → Piece
fed w left (Import p) input = means (inside_at w left) p input
fed w left (Path p) input = path_means (inside_at w left) p input
fed w left (Rouse p) input = rouse_means (inside_at w left) p input
fed w left (Reload p) input = reload_means (inside_at w left) p input
fed w left (Program p) input = program_means (program_inside w left) p input

-- a body that is paid for, where one more may be open
abbrev pub begins_at : World → ℕ → ℕ → ℕ → List ℕ → List ℕ → Piece
begins_at w zero mid load n text = fails fault.TooDeep
begins_at w (suc left) mid load n text = starts (around_at w left) mid load n (w text)

-- a function's text came, where one more call may be open
abbrev pub loaded_at : World → ℕ → ℕ → ℕ → List Value → Reply → Piece
loaded_at w zero load index vs reply = fails fault.TooDeep
loaded_at w (suc left) load index vs reply = loaded w (around_at w left) load index vs reply

-- ---- one piece of work, where `next` is the rest

-- goes on with a value
abbrev pub goes_with : Value → Piece
goes_with v s k = k (Went v) s

-- what a piece of work means, in the words of the meaning, where d more bodies, calls and imports may be open
abbrev pub item_piece : World → ℕ → Item → Piece
item_piece w d (it.Give flow) = λ s k. k flow s
item_piece w d (it.Eval e) = eval (around_at w d) e
item_piece w d (it.Atom e) = λ s k. atom_at (around_at w d).access (out-Expr e) s (sized k)
item_piece w d (it.Operands form vs) = gathers (map (eval (around_at w d)) (drop (length vs) (operands_of form))) vs (completes (around_at w d) form)
item_piece w d (it.Apply e vs) = λ s k. applies_at (around_at w d) (out-Expr e) vs s (sized k)
item_piece w d (it.Callee e object) = calls_callee (around_at w d) e object
item_piece w d (it.Method e object vs) = λ s k. calls_method object (method_name e) vs s (sized k)
item_piece w d it.SearchPath = λ s k. calls e.PathGet (λ reply. as_list goes_with reply s k)
item_piece w d (it.ReadEntry key default) = reads_entry key default
item_piece w d (it.HasEntry key is_negated) = has_entry is_negated key
item_piece w d (it.SetEntry key v) = sets_entry key v
item_piece w d (it.DeleteEntry key) = deletes_entry key
item_piece w d (it.PopEntry key default) = pops_entry key default
item_piece w d (it.AddEntry at v) = adds_entry at v
item_piece w d (it.Perform stmts at vs) = performs (around_at w d) (slice_get stmts at) vs
item_piece w d (it.Choose e v) = chooses (around_at w d) e v
item_piece w d (it.ReadGlobal x) = reads_global (around_at w d).access x
item_piece w d (it.Member object x) = member (around_at w d).access object x
item_piece w d (it.Call f vs) = calls_at w d f vs
item_piece w d (it.Store x v) = stores x v
item_piece w d (it.Augment x o vs) = augment x o vs
item_piece w d (it.Block stmts at) = run_all (around_at w d) (drop at stmts)
item_piece w d (it.Statement stmts at) = runs_some (around_at w d) (slice_get stmts at)
item_piece w d (it.Begun stmts at) = begun (around_at w d) (slice_get stmts at)
item_piece w d (it.Imports stmts at place) = imports_all (around_at w d) (drop place (aliases_of (slice_get stmts at)))
item_piece w d (it.Alias stmts at place) = imports_some (around_at w d) (slice_get (aliases_of (slice_get stmts at)) place)
item_piece w d (it.Import x is_parent is_lazy) = imports_at w d is_parent is_lazy x
item_piece w d (it.Parent n is_parent) = imports_at w d is_parent false n
item_piece w d (it.From stmts at) = from_some (around_at w d) (slice_get stmts at)
item_piece w d (it.FromModule m x is_bound) = name_of (around_at w d) is_bound m x
item_piece w d (it.AskSubmodules m xs) = asks_submodules (around_at w d) m xs
item_piece w d (it.Submodules m xs at) = submodules (around_at w d) m (drop at xs)
item_piece w d (it.Submodule m x) = submodule (around_at w d) m x
item_piece w d (it.Bindings m stmts at place) = binds_items (around_at w d) m (drop place (items_of (slice_get stmts at)))
item_piece w d (it.Binding m stmts at place) = binds_some_item (around_at w d) m (slice_get (items_of (slice_get stmts at)) place)
item_piece w d (it.Stars m xs at) = binds_stars (around_at w d) m (drop at xs)
item_piece w d (it.Star m x) = binds_star (around_at w d) m x
item_piece w d (it.Feed p input) = fed w d p input
item_piece w d (it.Start mid load n text) = bodies_at w d mid load n text
item_piece w d (it.Begin mid load n text) = begins_at w d mid load n text
item_piece w d (it.Branches bs at otherwise) = tests (branches (around_at w d) (drop at bs)) (run_all (around_at w d) otherwise)
item_piece w d (it.Turn test body n) = turns n (eval (around_at w d) test) (run_all (around_at w d) body)
item_piece w d (it.Test test body n) = turn (eval (around_at w d) test) (run_all (around_at w d) body) (turns n (eval (around_at w d) test) (run_all (around_at w d) body))
item_piece w d (it.Try stmts at) = tries_some (around_at w d) (slice_get stmts at)
item_piece w d (it.Match hs at error) = catches_from (around_at w d) hs at error
item_piece w d (it.Bind hs at error) = binds_some (around_at w d) (slice_get hs at) error
item_piece w d (it.Handle hs at error) = handles_some (around_at w d) (slice_get hs at) error

-- the run of a piece of work from a state on, and then `next`
abbrev pub item_does : World → ℕ → Item → Rest → State → Run
item_does w d item next s = item_piece w d item s (next d)

-- what goes on by a reply
abbrev pub reply_piece : World → ℕ → OnReply → Reply → Piece
reply_piece w d on.Done reply = passes
reply_piece w d (on.Global x) reply = read_global (around_at w d).access reply x
reply_piece w d (on.Member m x raw) reply = member_came (around_at w d).access raw m x reply
reply_piece w d on.Stored reply = stored reply
reply_piece w d (on.MemberStored m x v raw) reply = member_stored (around_at w d).access raw m x v reply
reply_piece w d (on.Deleted x) reply = deleted reply x
reply_piece w d (on.MemberDeleted m x raw) reply = member_deleted (around_at w d).access raw m x reply
reply_piece w d (on.Unbound flow) reply = λ s k. k flow s
reply_piece w d (on.Sourced load index vs) reply = loaded_at w d load index vs reply
reply_piece w d (on.Feed p) reply = fed w d p (given.Replied reply)
reply_piece w d (on.FromModule m x is_bound raw) reply = name_came (around_at w d) raw is_bound m x reply
reply_piece w d (on.Entry m x init) reply = submodule_entry m x init reply
reply_piece w d (on.IfPackage m xs raw) reply = package_came (around_at w d) raw m xs reply
reply_piece w d (on.Submodule m x raw) reply = submodule_came (around_at w d) raw m x reply
reply_piece w d (on.Missed error) reply = missed error reply
reply_piece w d (on.All m raw) reply = all_came (around_at w d) raw m reply
reply_piece w d (on.Names m) reply = public_names m (around_at w d) reply
reply_piece w d on.SearchPath reply = as_list goes_with reply
reply_piece w d (on.EntryFound key default) reply = looked_up (entry_or key default) reply
reply_piece w d (on.EntryTold is_negated) reply = looked_up (tells_entry is_negated) reply
reply_piece w d on.EntrySet reply = entry_set reply
reply_piece w d (on.EntryDeleted key) reply = taken_out (dropped key) reply
reply_piece w d (on.EntryPopped key default) reply = taken_out (entry_or key default) reply
reply_piece w d on.PathAdded reply = path_added reply
reply_piece w d (on.Package stmts at) reply = relative_some (around_at w d) (slice_get stmts at) reply

-- the run of what goes on by a reply from a state on, once the reply is paid for, and then `next`
abbrev pub reply_does : World → ℕ → OnReply → Rest → State → Reply → Run
reply_does w d o next s reply = reply_piece w d o reply s (next d)

-- what waits, and then `next`
abbrev pub frame_does : World → ℕ → Frame → Rest → Onward
frame_does w d frame.Sized next = sized (next d)
frame_does w d (frame.Operands form vs) next =
    on_value (next d) (λ v s.
    gathers (map (eval (around_at w d)) (drop (suc (length vs)) (operands_of form))) (vs ++ v ∷ []) (completes (around_at w d) form) s (next d))
frame_does w d (frame.Callee e) next = on_value (next d) (λ object s. pay 1 (calls_callee (around_at w d) e object s (next d)))
frame_does w d (frame.Listed item at) next = on_value (next d) (λ v s. item_piece w d (with_operand item at v) s (next d))
frame_does w d (frame.Roused event o) next = on_value (next d) (λ _ s. calls event (λ reply. reply_does w d o next s reply))
frame_does w d (frame.Second e) next = on_value (next d) (λ v s. pay 1 (chooses (around_at w d) e v s (next d)))
frame_does w d (frame.Block stmts at) next = on_value (next d) (λ _ s. run_all (around_at w d) (drop at stmts) s (next d))
frame_does w d (frame.Test bs at otherwise) next =
    on_value (next d) (λ v s.
    decides_some (around_at w d) (slice_get bs at) v (tests (branches (around_at w d) (drop (suc at) bs)) (run_all (around_at w d) otherwise)) s (next d))
frame_does w d (frame.Decide test body n) next =
    on_value (next d) (λ v s.
    decides v (λ s k. run_all (around_at w d) body s (looped k (turns n (eval (around_at w d) test) (run_all (around_at w d) body)))) passes s (next d))
frame_does w d (frame.Loop test body n) next = looped (next d) (turns n (eval (around_at w d) test) (run_all (around_at w d) body))
frame_does w d (frame.Handlers stmts at) next = tried_some (around_at w d) (slice_get stmts at) (next d)
frame_does w d (frame.Catch hs at error) next =
    on_value (next d) (λ v s.
    listed v (λ v. chosen_some (around_at w d) (slice_get hs at) error (catches_from (around_at w d) hs (suc at) error) (takes error.kind v)) s (next d))
frame_does w d (frame.Handle hs at error) next = on_value (next d) (λ _ s. handles_some (around_at w d) (slice_get hs at) error s (next d))
frame_does w d (frame.EndHandler bound) next = λ flow s. unbinds bound flow (handled s) (next d)
frame_does w d (frame.Finally block) next = finishes (run_all (around_at w d) block) (next d)
frame_does w d (frame.Resume flow) next = resumes flow (next d)
frame_does w d (frame.Store x) next = on_value (next d) (λ v s. stores x v s (next d))
frame_does w d (frame.Imports stmts at place) next =
    on_value (next d) (λ _ s. imports_all (around_at w d) (drop place (aliases_of (slice_get stmts at))) s (next d))
frame_does w d (frame.Front stmts at place) next =
    on_value (next d) (λ _ s. fronts_some (around_at w d) (slice_get (aliases_of (slice_get stmts at)) place) s (next d))
frame_does w d (frame.Fronted stmts at place) next =
    on_value (next d) (λ v s. binds_some_import (around_at w d) (slice_get (aliases_of (slice_get stmts at)) place) v s (next d))
frame_does w d (frame.Parts stmts at place part) next =
    on_value (next d) (λ v s. follows_some (around_at w d) part (slice_get (aliases_of (slice_get stmts at)) place) v s (next d))
frame_does w d (frame.From stmts at) next =
    on_value (next d) (λ v s. with_module v (names_some (around_at w d) (slice_get stmts at)) s (next d))
frame_does w d (frame.Submodules m xs at) next = on_value (next d) (λ _ s. submodules (around_at w d) m (drop at xs) s (next d))
frame_does w d (frame.TriedSubmodule n) next = λ flow s. tried_submodule n flow s (next d)
frame_does w d (frame.Bindings m stmts at place) next =
    on_value (next d) (λ _ s. binds_items (around_at w d) m (drop place (items_of (slice_get stmts at))) s (next d))
frame_does w d (frame.Stars m xs at) next = on_value (next d) (λ _ s. binds_stars (around_at w d) m (drop at xs) s (next d))
frame_does w d (frame.Imported left) next = next left
frame_does w d (frame.Open p) next = λ flow s. fed w d p (given.Ended flow) s (next d)
frame_does w d (frame.Back scope left) next =
    λ flow s. next left (body_gives flow) (record { scope = scope; kept = s.kept; handling = s.handling })
frame_does w d frame.HasAttr next = telling (next d)
frame_does w d (frame.GetAttr v) next = defaulting (next d) v

-- the work that remains
abbrev pub rest : World → List Frame → Rest
rest w [] d = ends
rest w (f ∷ fs) d = frame_does w d f (rest w fs)

-- ---- what is wanted, where `next` is the rest of the work

-- the run of what is wanted from a state on: what it asks for first, if anything, then its work, and then `next`
abbrev pub want_does : World → ℕ → Want → Rest → State → Run
want_does w d (want.Go flow) next s = next d flow s
want_does w d (want.Then item) next s = item_does w d item next s
want_does w d (want.Both item f) next s = item_does w d item (λ d. frame_does w d f next) s
want_does w d (want.Pay of_tree units item) next s = Pays of_tree units (item_does w d item next s)
want_does w d (want.Call event o) next s = calls event (λ reply. reply_does w d o next s reply)
want_does w d (want.Replied o reply) next s = after_reply reply (reply_does w d o next s reply)
want_does w d (want.Wait item) next s = Makes e.Wake (λ _. item_does w d item next s)
want_does w d (want.Find n path p) next s = searches_in (searches n path []) (λ answer. fed w d p (given.Found answer) s (next d))
want_does w d (want.File path p) next s =
    Looks (StampOf path) (opens path (fed w d p (given.Opened None) s (next d)) (λ o. fed w d p (given.Opened (Some o)) s (next d)))

-- what is wanted in a thread does what `run` does, over this world
pub record DoesIn (w : World) (after : Thread) (run : Rest → Run) (want : Want) : Type 0 where
  pub does : (next : Rest) → want_does w after.left want next after.state ≡ run next

-- the same over every world
pub record Does (after : Thread) (run : World → Rest → Run) (want : Want) : Type 0 where
  pub does : (w : World) (next : Rest) → want_does w after.left want next after.state ≡ run w next

-- from a thread on: a piece of work, a piece of the meaning, a frame that a way on comes to, and a reply
abbrev pub begins : Item → Thread → World → Rest → Run
begins item th w next = item_does w th.left item next th.state

-- where the meaning counts how many more may be open, that is what the thread has left
abbrev pub pieces : (World → ℕ → Piece) → Thread → World → Rest → Run
pieces piece th w next = piece w th.left th.state (next th.left)

-- this way on comes to the frame, in the state of the thread
abbrev pub goes_on : Frame → Flow → Thread → World → Rest → Run
goes_on f flow th w next = frame_does w th.left f next flow th.state

-- the reply is paid for already
abbrev pub replies : OnReply → Reply → Thread → World → Rest → Run
replies o reply th w next = reply_does w th.left o next th.state reply
