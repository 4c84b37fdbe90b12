-- A made workload: modules that import earlier ones, and scripts that import
-- modules. Its numbers come from a linear congruential generator, so one seed makes
-- the same workload on each machine. No chain of imports is longer than 14 modules.
use Rattle.std.specs.Prelude.{◌≡◌, ℕ, zero, suc, ◌+◌, ◌*◌, ◌/◌, ◌%◌, ◌^◌, ◌==◌, List, [], ◌∷◌, ◌++◌, codes, if◌then◌else◌, false}
use Rattle.std.specs.Fmt.{decimal}
use Rattle.tree_files.specs.Files.{Files, node_at, is_dir}
use Rattle.tree_files.specs.Edits.{placed}
use Rattle.tree_files.specs.MemFiles.{root_alone}
use Rattle.tree_files.specs.declared.tree.Node.TheVariants.{File}

-- a name or a text, as its bytes
abbrev pub Word : Type 0
Word = List ℕ

-- the state after one draw more
abbrev pub stepped : ℕ → ℕ
stepped x = (x * 6364136223846793005 + 1442695040888963407) % 2 ^ 64

-- the state after n draws
abbrev pub after : ℕ → ℕ → ℕ
after zero x = x
after (suc n) x = stepped (after n x)

-- the number below a bound that the draw to this state gives
abbrev pub drawn : ℕ → ℕ → ℕ
drawn bound x = (x / 2 ^ 33) % bound

-- modules are m0, m1 and so on
abbrev pub module_name : ℕ → Word
module_name i = codes "m" ++ decimal i

-- scripts are s0, s1 and so on, so none has the name of a module
abbrev pub script_name : ℕ → Word
script_name s = codes "s" ++ decimal s

-- the file of a module or of a script is its name with `.py` behind it
abbrev pub file_of : Word → Word
file_of name = name ++ codes ".py"

-- one line, `import mI`
abbrev pub import_of : ℕ → Word
import_of i = codes "import " ++ (module_name i ++ codes "\n")

-- n imports of modules below the bound, by the n draws from this state on
abbrev pub imports_of : ℕ → ℕ → ℕ → Word
imports_of bound zero x = []
imports_of bound (suc n) x = imports_of bound n x ++ import_of (drawn bound (after (suc n) x))

-- a module prints its name, and sets one variable
abbrev pub own_lines : ℕ → Word
own_lines i = codes "print(\"" ++ (module_name i ++ (codes "\")\nx = " ++ (decimal i ++ codes "\n")))

-- how many modules a module imports, each of a number below half of one more than its own
abbrev pub imports_in : ℕ → ℕ
imports_in i = if i == 0 then 0 else 2

-- first the imports of earlier modules, by the draws from state x on, then the own lines
abbrev pub module_text : ℕ → ℕ → Word
module_text i x = imports_of ((i + 1) / 2) (imports_in i) x ++ own_lines i

-- the state before a module is made
abbrev pub before_module : ℕ → ℕ → ℕ
before_module zero seed = seed
before_module (suc i) seed = after (imports_in i) (before_module i seed)

-- a script imports four modules of all there are
abbrev pub script_text : ℕ → ℕ → Word
script_text modules x = imports_of modules 4 x

-- the state before a script is made
abbrev pub before_script : ℕ → ℕ → ℕ
before_script zero x = x
before_script (suc s) x = after 4 (before_script s x)

-- each module and each script is one file in the root
abbrev pub with_file : Files → Word → Word → Files
with_file files name text = placed files (file_of name ∷ []) (File text)

-- the root, and so many modules in it
abbrev pub with_modules : ℕ → ℕ → Files
with_modules zero seed = root_alone
with_modules (suc i) seed = with_file (with_modules i seed) (module_name i) (module_text i (before_module i seed))

-- so many scripts beside what there is
abbrev pub with_scripts : Files → ℕ → ℕ → ℕ → Files
with_scripts files modules zero x = files
with_scripts files modules (suc s) x = with_file (with_scripts files modules s x) (script_name s) (script_text modules (before_script s x))

-- all files of a workload
abbrev pub made_files : ℕ → ℕ → ℕ → Files
made_files seed modules scripts = with_scripts (with_modules modules seed) modules scripts (before_module modules seed)

-- the files of so many scripts, in their order
abbrev pub script_files : ℕ → List Word
script_files zero = []
script_files (suc s) = script_files s ++ file_of (script_name s) ∷ []

-- no directory stands in the root
abbrev pub IsFlat : Files → Type 0
IsFlat files = (name : Word) → is_dir (node_at files (name ∷ [])) ≡ false
