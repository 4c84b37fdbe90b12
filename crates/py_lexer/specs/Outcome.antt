-- What the code answers, beside what reading gives.
use Rattle.std.specs.Prelude.{◌≡◌, ℕ, ◌≤◌, ◌<◌, ◌+◌, List, [], ◌∷◌, length, Option, Some, None, Result, Ok, Err, IfOk, MatchResult}
use Rattle.std.specs.Borrow.{Bor}
use Rattle.py_lexer.specs.declared.quoted.Part.{Part as PartRead}
use Rattle.py_lexer.specs.declared.word.Word.{Word as WordRead}
use Rattle.py_lexer.specs.Strings.{Part}
use Rattle.py_lexer.specs.Reading.{Read_word}
use Rattle.py_lexer.specs.declared.error.Kind.{Kind}
use Rattle.py_lexer.specs.declared.error.WordError.{WordError}
use Rattle.py_lexer.specs.declared.error.WordError.TheVariants.{Memory, Bad}

-- the error is what reading gives, unless memory ran out
abbrev pub Fails : {B : Type 0} → WordError → Result B Kind → Type 0
Fails Memory read = Unit {0}
Fails (Bad kind) read = read ≡ Err kind

-- the result is what reading gives, seen through view, unless memory ran out
abbrev pub Gives : {A B : Type 0} → (A → B) → Result A WordError → Result B Kind → Type 0
Gives view r read = MatchResult r (λ a. read ≡ Ok (view a)) (λ e. Fails e read)

-- the same of a value and what follows it
abbrev pub GivesAt : {A B : Type 0} → (A → B) → Result (A × Bor (List ℕ)) WordError → Result (B × List ℕ) Kind → Type 0
GivesAt view r read = Gives (λ p. (view p.0, p.1.now)) r read

-- fewer characters are left
abbrev pub Shortens : {A : Type 0} → List ℕ → Result (A × Bor (List ℕ)) WordError → Type 0
Shortens cs r = IfOk r (λ p. length p.1.now < length cs)

-- and no more line ends were passed than characters
abbrev pub Within : List ℕ → Result (PartRead × Bor (List ℕ)) WordError → Type 0
Within cs r = IfOk r (λ p. p.0.lines + length p.1.now ≤ length cs)

-- the same of a token, which takes more characters than it passes line ends
abbrev pub WithinWord : List ℕ → Result (WordRead × Bor (List ℕ)) WordError → Type 0
WithinWord cs r = IfOk r (λ p. p.0.lines + length p.1.now < length cs)

-- the text of one character; none gives the empty text
abbrev pub option_list : Option ℕ → List ℕ
option_list None = []
option_list (Some c) = c ∷ []

-- a part of a string as what it gives
abbrev pub part_view : PartRead → Part
part_view p = record { text = option_list p.char; lines = p.lines }

-- a token as reading has it, over as many line ends as it has inside
abbrev pub word_view : WordRead → Read_word
word_view w = record { lexeme = w.tok; lines = w.lines }
