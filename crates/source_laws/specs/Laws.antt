-- What holds of the tree of each source.
use Rattle.std.specs.Prelude.{◌≡◌, ℕ, List, [], ◌∷◌, Some, Ok, IsTrue}
use Rattle.std.specs.List.{AllByRecursion}
use Rattle.std.specs.Str.{IsUtf8}
use Rattle.spec_core.specs.Identifiers.{is_name, is_dotted}
use Rattle.spec_core.specs.Names.{joined}
use Rattle.py_syntax.specs.declared.stmt.FuncDef.{FuncDef}
use Rattle.py_syntax.specs.declared.stmt.Script.{Script}
use Rattle.py_parser.specs.Parsed.{parsed}
use Rattle.source_functions.specs.Functions.{function_of}
use Rattle.source_laws.specs.Mentions.{Mention, Named, Dotted, mentions}

-- the function of a number has this number
abbrev pub FunctionsAreNumbered : Type 0
FunctionsAreNumbered = (src : List ℕ) (script : Script) → parsed src ≡ Ok script → (number : ℕ) (function : FuncDef) → function_of script number ≡ Some function → function.number ≡ number

-- the parts with dots between
abbrev pub behind_dots : List ℕ → List (List ℕ) → List ℕ
behind_dots n [] = n
behind_dots n (m ∷ ns) = joined n (behind_dots m ns)

-- the same of all parts of a dotted name; no parts give the empty text
abbrev pub dotted_text : List (List ℕ) → List ℕ
dotted_text [] = []
dotted_text (n ∷ ns) = behind_dots n ns

-- A name is an identifier that is its own normal form, and no keyword; the parts of a dotted name make one. Texts are
-- UTF-8, as every text of the code is.
abbrev pub IsGood : Mention → Type 0
IsGood (Named name) = IsUtf8 name → IsTrue (is_name name)
IsGood (Dotted parts) = AllByRecursion IsUtf8 parts → IsTrue (is_dotted (dotted_text parts))

-- each name in the tree of a source is good
abbrev pub NamesAreGood : Type 0
NamesAreGood = (src : List ℕ) (script : Script) → parsed src ≡ Ok script → AllByRecursion IsGood (mentions script)
