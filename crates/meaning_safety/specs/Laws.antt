-- What a thread knows of the modules and functions in values, through the operators. `KnowsAll s v` says that each
-- module in v, at any depth, exists with its name and place, and that each load whose function stands in v exists.
use Rattle.std.specs.Prelude.{◌≡◌, ℕ, Bool, false, List, ℤ, Some}
use Rattle.std.specs.List.{slice_get}
use Rattle.py_value.specs.declared.kind.Kind.{Kind}
use Rattle.py_value.specs.declared.kind.Native.{Native}
use Rattle.py_value.specs.declared.value.ModRef.{ModRef}
use Rattle.py_value.specs.declared.value.Raised.{Raised}
use Rattle.py_value.specs.declared.value.Value.{Value}
use Rattle.py_value.specs.declared.value.Value.TheVariants as values
use Rattle.py_value.specs.declared.operator.Applied.{Applied}
use Rattle.py_value.specs.declared.operator.Applied.TheVariants as applied
use Rattle.py_value.specs.declared.operator.BinOp.{BinOp}
use Rattle.py_value.specs.declared.operator.CmpOp.{CmpOp}
use Rattle.value_operators.specs.Arithmetic.{binary, augmented, negated}
use Rattle.value_operators.specs.Comparison.{compare, identical}
use Rattle.value_operators.specs.Items.{contains, subscript}
use Rattle.value_operators.specs.Outcomes.{limited}
use Rattle.value_texts.specs.Texts.{str_of, repr_of}
use Rattle.machine_events.specs.declared.event.Event.{Event}
use Rattle.machine_events.specs.declared.event.Reply.{Reply}
use Rattle.machine_shown.specs.Shown.{Shown, shown_more, is_namespace_path}
use Rattle.machine_shown.specs.Knowing.{Has, KnowsAll, KnowsItems}

-- the value that an operator gives is known, and is not the path of a namespace; an error holds nothing
abbrev pub KnowsApplied : Shown → Applied → Type 0
KnowsApplied s (applied.Value v) = KnowsAll s v × (is_namespace_path v ≡ false)
KnowsApplied s (applied.Raised error) = Unit {0}

-- an item may be that path
abbrev pub KnowsGiven : Shown → Applied → Type 0
KnowsGiven s (applied.Value v) = KnowsAll s v
KnowsGiven s (applied.Raised error) = Unit {0}

-- values by themselves: a function is known by its load, a module by its number, name and place
pub record PlainValues (s : Shown) : Type 0 where
  pub nothing : KnowsAll s values.Nothing
  pub bool : (b : Bool) → KnowsAll s (values.Bool b)
  pub number : (n : ℤ) → KnowsAll s (values.Int n)
  pub text : (text : List ℕ) → KnowsAll s (values.Text text)
  pub native : (native : Native) → KnowsAll s (values.Native native)
  pub kind : (kind : Kind) → KnowsAll s (values.Kind kind)
  pub error : (error : Raised) → KnowsAll s (values.Error error)
  pub sys_modules : KnowsAll s values.SysModules
  pub sys_path : KnowsAll s values.SysPath
  pub ns_path : KnowsAll s values.NsPath
  pub function : (load index : ℕ) (name : List ℕ) → Has s.loads load → KnowsAll s (values.Func load index name)
  pub module_of : (m : ModRef) → Has s.modules m → KnowsAll s (values.Module m)

-- values by themselves are known so, whatever a thread has been shown
abbrev pub PlainValuesHold : Type 0
PlainValuesHold = (s : Shown) → PlainValues s

-- a list and a tuple of these items are known
pub record Displays (s : Shown) (items : List Value) : Type 0 where
  pub list : KnowsAll s (values.List items)
  pub tuple : KnowsAll s (values.Tuple items)

-- what is made of items that are all known is known
abbrev pub DisplaysHold : Type 0
DisplaysHold = (s : Shown) (items : List Value) → KnowsItems s items → Displays s items

-- the items of a list or tuple that is known are known, and so is each one by itself
pub record KnownParts (s : Shown) (items : List Value) : Type 0 where
  pub of_list : KnowsAll s (values.List items) → KnowsItems s items
  pub of_tuple : KnowsAll s (values.Tuple items) → KnowsItems s items
  pub one : (at : ℕ) (item : Value) → KnowsItems s items → slice_get items at ≡ Some item → KnowsAll s item

-- the parts of lists and tuples are known so, whatever a thread has been shown
abbrev pub ItemsAreKnown : Type 0
ItemsAreKnown = (s : Shown) (items : List Value) → KnownParts s items

-- what an operator gives is known. Where it may be, hold or come out of an operand, the operand is known first;
-- numbers, texts and the answers of tests hold no module and no function, so nothing need be known for them
pub record Operators (s : Shown) : Type 0 where
  pub binary : (op : BinOp) (left right : Value) → KnowsAll s left → KnowsAll s right → KnowsApplied s (binary op left right)
  pub augmented : (op : BinOp) (left right : Value) → KnowsAll s left → KnowsAll s right → KnowsApplied s (augmented op left right)
  pub subscript : (value index : Value) → KnowsAll s value → KnowsGiven s (subscript value index)
  pub limited : (value : Value) → KnowsAll s value → is_namespace_path value ≡ false → KnowsApplied s (limited value)
  pub negated : (value : Value) → KnowsApplied s (negated value)
  pub compare : (op : CmpOp) (left right : Value) → KnowsApplied s (compare op left right)
  pub identical : (left right : Value) → KnowsApplied s (identical left right)
  pub contains : (container item : Value) → KnowsApplied s (contains container item)
  pub str : (value : Value) → KnowsApplied s (str_of value)
  pub repr : (value : Value) → KnowsApplied s (repr_of value)

-- what operators give is known so, whatever a thread has been shown
abbrev pub OperatorsHold : Type 0
OperatorsHold = (s : Shown) → Operators s

-- what is known stays known, whatever event and reply come next
abbrev pub MoreIsKnown : Type 0
MoreIsKnown = (s : Shown) (event : Event) (reply : Reply) (v : Value) → KnowsAll s v → KnowsAll (shown_more s (event, reply)) v
