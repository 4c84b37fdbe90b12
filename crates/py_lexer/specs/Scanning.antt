-- What the scanner answers, beside what reading gives.
use Rattle.std.specs.Prelude.{reverse, ◌≡◌, ℕ, zero, List, Result, Ok, Err, MatchResult}
use Rattle.py_lexer.specs.declared.error.Fault.{Fault}
use Rattle.py_lexer.specs.declared.error.ScanError.{ScanError}
use Rattle.py_lexer.specs.declared.error.ScanError.TheVariants.{NoMemory, Refused}
use Rattle.py_lexer.specs.declared.error.WordError.{WordError}
use Rattle.py_lexer.specs.declared.error.WordError.TheVariants.{Memory, Bad}
use Rattle.py_lexer.specs.declared.scan.Mode.{Mode}
use Rattle.py_lexer.specs.declared.scan.Mode.TheVariants.{Fresh, Inside}
use Rattle.py_lexer.specs.declared.scan.Scanner.{Scanner}
use Rattle.py_lexer.specs.declared.word.Token.{Token}
use Rattle.py_lexer.specs.declared.error.LexError.{LexError}
use Rattle.py_lexer.specs.declared.error.LexError.TheVariants as error
use Rattle.py_lexer.specs.Source.{Answer, error_at}
use Rattle.py_lexer.specs.Reading.{State}

-- the scanner as reading has it: the code keeps the innermost open columns last, reading has them first
abbrev pub state_of : Scanner → State
state_of s = record { stack = reverse s.stack.items; mode = s.mode; line = s.line; out = s.out }

-- what is wrong in a token is a fault of this line; want of memory has no line
abbrev pub at_line : WordError → ℕ → ScanError
at_line Memory line = NoMemory
at_line (Bad kind) line = Refused (record { kind = kind; line = line })

-- the error is what reading gives, unless memory ran out
abbrev pub Stops : {B : Type 0} → ScanError → Result B Fault → Type 0
Stops NoMemory read = Unit {0}
Stops (Refused fault) read = read ≡ Err fault

-- the result is what reading gives, seen through view, unless memory ran out
abbrev pub Comes : {A B : Type 0} → (A → B) → Result A ScanError → Result B Fault → Type 0
Comes view r read = MatchResult r (λ a. read ≡ Ok (view a)) (λ e. Stops e read)

-- how many brackets are open: none before the first token of a logical line
abbrev pub depth_of : Mode → ℕ
depth_of (Fresh at first) = zero
depth_of (Inside depth) = depth

-- why the text is not scanned as why its source has no tokens
abbrev pub lex_error : ScanError → LexError
lex_error NoMemory = error.NoMemory
lex_error (Refused fault) = error_at fault.kind fault.line

-- what was answered has the property, unless memory ran out
abbrev pub Told : (Answer → Type 0) → Result (List Token) LexError → Type 0
Told P (Ok v) = P (Ok v)
Told P (Err error.NoMemory) = Unit {0}
Told P (Err e) = P (Err e)
