-- Operations on entries whose key stands for nothing else.
use Rattle.std.specs.Prelude.{Option, Bool}
use Rattle.py_value.specs.declared.value.Value.{Value}
use Rattle.meaning_script.specs.Pieces.{Piece}
use Rattle.meaning_script.specs.Entries.{tested, looks_up, takes_out, entry_or, tells_entry, dropped, puts_named}

-- `sys.modules[k]` and `.get`: the entry of the key, else the default, else
-- KeyError; here and below, a key that cannot be hashed raises TypeError
abbrev pub reads : Value → Option Value → Piece
reads key default = tested (λ key n. looks_up n (entry_or key default)) key

-- `k in sys.modules`, or `k not in sys.modules` where it is negated
abbrev pub tells : Bool → Value → Piece
tells is_negated key = tested (λ key n. looks_up n (tells_entry is_negated)) key

-- `sys.modules[k] = v`: the entry of the key is set; a key that is no dotted name raises ProfileError, and so does a
-- value that is neither a module nor `None`
abbrev pub sets : Value → Value → Piece
sets key v = tested (λ key n. puts_named n v) key

-- `del sys.modules[k]`: the entry of the key is taken out; without one KeyError is raised
abbrev pub deletes : Value → Piece
deletes key = tested (λ key n. takes_out n (dropped key)) key

-- `.pop`: the entry of the key is taken out, and is the value; without one comes the default, or else KeyError
abbrev pub pops : Value → Option Value → Piece
pops key default = tested (λ key n. takes_out n (entry_or key default)) key
