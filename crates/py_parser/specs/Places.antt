-- Whether a token stands inside a `finally` block, by the tokens before it: those of the blocks that are open there.
use Rattle.std.specs.Prelude.{◌-◌, Bool, true, false, if◌then◌else◌, List, [], ◌∷◌, ◌++◌, length, take, slice_index_or}
use Rattle.py_syntax.specs.declared.lexeme.Lexeme.{Lexeme}
use Rattle.py_syntax.specs.declared.lexeme.Lexeme.TheVariants as token
use Rattle.py_parser.specs.declared.place.Opening.{Opening}
use Rattle.py_parser.specs.declared.place.Opening.TheVariants.{Same, Within, Anew}
use Rattle.py_parser.specs.declared.place.Place.{Place}

-- where a script begins
abbrev pub start : Place
start = record { blocks = []; is_fresh = true; opening = Same; here = false }

-- what holds of the statements of the innermost open block
abbrev pub around : List Bool → Bool
around blocks = slice_index_or blocks (length blocks - 1) false

-- what the first token of a line makes of the block behind its colon: a `finally` block, the
-- body of a function, in which no `finally` block around counts, or a block of another form
abbrev pub opening_of : Lexeme → Opening
opening_of token.Finally = Within
opening_of token.Def = Anew
opening_of t = Same

-- inside a `finally` block stands its own block always, a function's body never, and any other where its line does
abbrev pub opened : Opening → Bool → Bool
opened Within here = true
opened Anew here = false
opened Same here = here

-- the first token of a line stands in the innermost open block, and says what the block behind the colon is
abbrev pub first_of_line : Place → Lexeme → Place
first_of_line p t = record { blocks = p.blocks; is_fresh = false; opening = opening_of t; here = around p.blocks }

-- what follows the colon belongs to the block that it opens, on the same line or on the next ones
abbrev pub behind_colon : Place → Place
behind_colon p = record { blocks = p.blocks; is_fresh = p.is_fresh; opening = p.opening; here = opened p.opening p.here }

-- the place behind one more token of a line
abbrev pub within_line : Bool → Place → Lexeme → Place
within_line true p t = first_of_line p t
within_line false p token.Colon = behind_colon p
within_line false p t = p

-- the place behind one more token
unfoldable pub behind : Place → Lexeme → Place
behind p token.Newline = record { blocks = p.blocks; is_fresh = true; opening = p.opening; here = p.here }
behind p token.Indent = record { blocks = p.blocks ++ p.here ∷ []; is_fresh = p.is_fresh; opening = p.opening; here = p.here }
behind p token.Dedent = record { blocks = take (length p.blocks - 1) p.blocks; is_fresh = p.is_fresh; opening = p.opening; here = p.here }
behind p t = within_line p.is_fresh p t

-- the place behind all of these tokens
abbrev pub behind_all : Place → List Lexeme → Place
behind_all p [] = p
behind_all p (t ∷ ts) = behind_all (behind p t) ts

-- the next token stands inside a `finally` block: by the open blocks where it begins a line, else by its line
abbrev pub inside : Place → Bool
inside p = if p.is_fresh then around p.blocks else p.here

-- a token behind these ones stands inside a `finally` block of its function
abbrev pub inside_finally : List Lexeme → Bool
inside_finally front = inside (behind_all start front)
