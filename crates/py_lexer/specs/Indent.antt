-- Indentation (Language Reference 2.1.8). The stack of open columns, the innermost first, starts with 0 and 0.
use Rattle.std.specs.Prelude.{ℕ, ◌-◌, ◌==◌, nat_lt, if◌then◌else◌, List, [], ◌∷◌, length, Result, Ok, Err}
use Rattle.py_lexer.specs.declared.columns.Columns.{Columns}
use Rattle.py_lexer.specs.declared.error.Kind.{Kind}
use Rattle.py_lexer.specs.declared.error.Kind.TheVariants.{BadDedent, MixedTabs}
use Rattle.py_lexer.specs.declared.indent.Change.{Change}
use Rattle.py_lexer.specs.declared.indent.Change.TheVariants.{Indent, Dedents}

-- the levels that stay open: the top is taken off while its first column is greater
unfoldable pub left_open : Columns → List Columns → List Columns
left_open at [] = []
left_open at (top ∷ below) = if nat_lt at.first top.first then left_open at below else top ∷ below

-- Where these levels stay open, of `count`: a Dedent for each level taken off, which may be none. Where the top's first
-- column is then not equal it is BadDedent, else where the second is not equal MixedTabs.
abbrev pub closed_to : Columns → ℕ → List Columns → Result (Change × List Columns) Kind
closed_to at count [] = Err BadDedent
closed_to at count (top ∷ below) =
    if top.first == at.first
    then (if top.second == at.second then Ok (Dedents (count - length (top ∷ below)), top ∷ below) else Err MixedTabs)
    else Err BadDedent

-- What a logical line with the columns `at` does to the open columns. A greater first column makes
-- Indent and is pushed; where the second is not greater it is MixedTabs. Any other closes levels.
unfoldable pub settled : List Columns → Columns → Result (Change × List Columns) Kind
settled [] at = Err BadDedent
settled (top ∷ below) at =
    if nat_lt top.first at.first
    then (if nat_lt top.second at.second then Ok (Indent, at ∷ top ∷ below) else Err MixedTabs)
    else closed_to at (length (top ∷ below)) (left_open at (top ∷ below))
