-- The variables that a new module has.
use Rattle.std.specs.Prelude.{ℕ, codes, List, [], Option, Some, None, map}
use Rattle.spec_core.specs.Packages.{package_of}
use Rattle.py_value.specs.declared.value.Value.{Value}
use Rattle.py_value.specs.declared.value.Value.TheVariants as values
use Rattle.spec_core.specs.declared.spec.Spec.{Spec}
use Rattle.spec_core.specs.declared.spec.SpecKind.{SpecKind}
use Rattle.spec_core.specs.declared.spec.SpecKind.TheVariants as kinds
use Rattle.py_value.specs.declared.value.NsState.{NsState}
use Rattle.module_table.specs.Vars.{with_var}

-- only packages have a `__path__`, and a namespace has `__file__` None (`importlib._bootstrap._init_module_attrs`)
abbrev pub kind_vars : SpecKind → List (List ℕ × Value) → List (List ℕ × Value)
kind_vars kinds.Builtin vars = vars
kind_vars (kinds.Source file) vars = with_var vars (codes "__file__") (values.Text file)
kind_vars (kinds.Package file path) vars =
    with_var (with_var vars (codes "__path__") (values.List (map (λ text. values.Text text) path))) (codes "__file__") (values.Text file)
kind_vars (kinds.Namespace path) vars = with_var (with_var vars (codes "__path__") values.NsPath) (codes "__file__") values.Nothing

-- the variables of a spec are set in this order; a name that is there keeps its place
abbrev pub restarted : Spec → List (List ℕ × Value) → List (List ℕ × Value)
restarted spec vars =
    kind_vars spec.kind
    (with_var (with_var vars (codes "__name__") (values.Text spec.name)) (codes "__package__") (values.Text (package_of spec.name spec.kind)))

-- a new module has the variables of its spec and no others
abbrev pub start_vars : Spec → List (List ℕ × Value)
start_vars spec = restarted spec []

-- a namespace begins with its portions, and with no path of a parent
abbrev pub start_ns : SpecKind → Option NsState
start_ns kinds.Builtin = None
start_ns (kinds.Source file) = None
start_ns (kinds.Package file path) = None
start_ns (kinds.Namespace path) = Some (record { parent_path = []; epoch = 0; portions = path })
