-- The stack of open columns as the code has it, with the innermost last.
use Rattle.std.specs.Prelude.{◌≡◌, ℕ, zero, suc, ◌-◌, ◌==◌, ◌||◌, not, nat_lt, if◌then◌else◌, List, [], ◌∷◌, ◌++◌, length, take, slice_index_or, Result, Ok, Err}
use Rattle.py_lexer.specs.declared.columns.Columns.{Columns}
use Rattle.py_lexer.specs.Columns.{margin}
use Rattle.py_lexer.specs.declared.error.Kind.{Kind}
use Rattle.py_lexer.specs.declared.error.Kind.TheVariants.{BadDedent, MixedTabs}
use Rattle.py_lexer.specs.declared.error.WordError.{WordError}
use Rattle.py_lexer.specs.declared.error.WordError.TheVariants.{Memory, Bad}
use Rattle.py_lexer.specs.declared.indent.Change.{Change}
use Rattle.py_lexer.specs.declared.indent.Change.TheVariants.{Indent, Dedents}

-- the columns of the level at this height
abbrev pub level : List Columns → ℕ → Columns
level stack n = slice_index_or stack (n - 1) margin

-- how many of the lowest n levels do not lie deeper than the line
unfoldable pub kept : List Columns → Columns → ℕ → ℕ
kept stack at zero = zero
kept stack at (suc n) = if nat_lt at.first (slice_index_or stack n margin).first then kept stack at n else suc n

-- Where the lowest `left` levels stay open: a Dedent for each level above them. Where none stays open, or the first
-- column of the highest is not the line's, it is BadDedent, else where the second columns differ it is MixedTabs.
abbrev pub closed_last : List Columns → Columns → ℕ → Result (Change × List Columns) Kind
closed_last stack at left =
    if left == 0 || not ((level stack left).first == at.first) then Err BadDedent
    else if (level stack left).second == at.second then Ok (Dedents (length stack - left), take left stack)
    else Err MixedTabs

-- what a logical line with the columns `at` does to the open columns: the rule of `settled`, with the innermost last
unfoldable pub settled_last : List Columns → Columns → Result (Change × List Columns) Kind
settled_last stack at =
    let top = level stack (length stack) in
    if nat_lt top.first at.first
    then (if nat_lt top.second at.second then Ok (Indent, stack ++ at ∷ []) else Err MixedTabs)
    else closed_last stack at (kept stack at (length stack))

-- what the code answers beside that
abbrev pub Changes : List Columns → List Columns → Result Change WordError → Result (Change × List Columns) Kind → Type 0
Changes old new (Ok c) expected = expected ≡ Ok (c, new)
Changes old new (Err Memory) expected = Unit {0}
Changes old new (Err (Bad kind)) expected = expected ≡ Err kind
