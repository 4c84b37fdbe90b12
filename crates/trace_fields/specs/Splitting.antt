-- The pieces of a text between separators. A separator counts where it stands outside quotes and outside brackets.
use Rattle.std.specs.Prelude.{ℕ, zero, suc, ◌+◌, ◌-◌, List, [], ◌∷◌, ◌++◌, map, Bool, false, ◌==◌, ◌||◌, if◌then◌else◌}
use Rattle.std.specs.Borrow.{Bor}
use Rattle.std.specs.List.{join_by}
use Rattle.trace_fields.specs.declared.pieces.Scan.{Scan}
use Rattle.trace_fields.specs.declared.pieces.Scan.TheVariants as scan

-- outside quotes, behind so many open brackets: `"` (34), `[` (91), `(` (40), `]` (93), `)` (41)
abbrev pub next_outside : ℕ → ℕ → Scan
next_outside depth b =
    if b == 34 then scan.Quoted depth
    else if b == 91 || b == 40 then scan.Outside (depth + 1)
    else if b == 93 || b == 41 then scan.Outside (depth - 1)
    else scan.Outside depth

-- in quotes: a backslash (92) takes the next byte with it
abbrev pub next_quoted : ℕ → ℕ → Scan
next_quoted depth b = if b == 92 then scan.Escaped depth else if b == 34 then scan.Outside depth else scan.Quoted depth

-- what a byte leads to: in quotes no bracket counts, and the byte behind a backslash neither ends the text nor escapes
abbrev pub next : Scan → ℕ → Scan
next (scan.Outside depth) b = next_outside depth b
next (scan.Quoted depth) b = next_quoted depth b
next (scan.Escaped depth) b = scan.Quoted depth

-- a byte parts two pieces where it is the separator, and stands outside quotes and outside all brackets
abbrev pub separates : ℕ → Scan → ℕ → Bool
separates separator (scan.Outside zero) b = b == separator
separates separator (scan.Outside (suc depth)) b = false
separates separator (scan.Quoted depth) b = false
separates separator (scan.Escaped depth) b = false

-- more bytes before the first piece
abbrev pub with_front : List ℕ → List (List ℕ) → List (List ℕ)
with_front front [] = front ∷ []
with_front front (piece ∷ pieces) = (front ++ piece) ∷ pieces

-- there is one piece more than there are separators
abbrev pub split_from : ℕ → Scan → List ℕ → List (List ℕ)
split_from separator s [] = [] ∷ []
split_from separator s (b ∷ bs) = if separates separator s b then [] ∷ split_from separator s bs else with_front (b ∷ []) (split_from separator (next s b) bs)

-- the pieces of a whole text, whose first byte stands outside quotes and outside brackets
unfoldable pub split : ℕ → List ℕ → List (List ℕ)
split separator text = split_from separator (scan.Outside 0) text

-- the pieces with separators between
abbrev pub joined : ℕ → List (List ℕ) → List ℕ
joined separator pieces = join_by (λ piece. piece) (separator ∷ []) pieces

-- what a list of slices has
abbrev pub views : List (Bor (List ℕ)) → List (List ℕ)
views pieces = map (λ piece. piece.now) pieces

-- the open brackets
abbrev pub depth : Scan → ℕ
depth (scan.Outside n) = n
depth (scan.Quoted n) = n
depth (scan.Escaped n) = n
