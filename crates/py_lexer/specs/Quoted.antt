-- Strings (Language Reference 2.4.1): in `'`, `"`, `'''` or `"""`.
use Rattle.std.specs.Prelude.{◌≡◌, ◌≢◌, ℕ, ◌+◌, true, false, List, [], ◌∷◌, ◌++◌, drop, Some, None, IsTrue, IsFalse}
use Rattle.py_lexer.specs.declared.error.Kind.{Kind}
use Rattle.py_lexer.specs.declared.error.Kind.TheVariants.{OpenString, BadEscape}
use Rattle.py_lexer.specs.declared.quoted.Quotes.{Quotes}
use Rattle.py_lexer.specs.Strings.{closing_quotes, escaped, hex_pair, hex_four as hex_quad, is_surrogate}
use Rattle.py_lexer.specs.Chars.{is_end, IsLineEnd}

-- Escapes (Language Reference 2.4.1.1): what may stand behind a backslash,
-- the text that it stands for, over so many line ends, and what follows it
pub data Escape : List ℕ → List ℕ → ℕ → List ℕ → Type 0 where
  -- `\\ \' \" \n \r \t`
  simple : {c d : ℕ} {after : List ℕ} → escaped c ≡ Some d → Escape (c ∷ after) (d ∷ []) 0 after
  -- a backslash before a line end gives nothing
  hidden : {end after : List ℕ} → IsLineEnd end after → Escape (end ++ after) [] 1 after
  -- `\xHH`
  hex_two : {x n : ℕ} {cs : List ℕ} → x ≡ 120 → hex_pair cs ≡ Some n → Escape (x ∷ cs) (n ∷ []) 0 (drop 2 cs)
  -- `\uHHHH`, and no surrogate
  hex_four : {u n : ℕ} {cs : List ℕ} → u ≡ 117 → hex_quad cs ≡ Some n → IsFalse (is_surrogate n) → Escape (u ∷ cs) (n ∷ []) 0 (drop 4 cs)

-- a part of a string at the front, where the string is not closed: its
-- text, over so many line ends, and what follows it; a backslash is 92
pub data Item : Quotes → List ℕ → List ℕ → ℕ → List ℕ → Type 0 where
  plain : {q : Quotes} {c : ℕ} {after : List ℕ} → c ≢ 92 → IsFalse (is_end c) → Item q (c ∷ after) (c ∷ []) 0 after
  -- a line end in three quotes is read as LF
  line : {q : Quotes} {end after : List ℕ} → q.long ≡ true → IsLineEnd end after → Item q (end ++ after) (10 ∷ []) 1 after
  escape : {q : Quotes} {c n : ℕ} {text cs after : List ℕ} → c ≡ 92 → Escape cs text n after → Item q (c ∷ cs) text n after

-- nothing goes on with the string
pub data Bad_item : Quotes → List ℕ → Kind → Type 0 where
  -- the text ends
  ends : {q : Quotes} → Bad_item q [] OpenString
  -- in one quote on each side the line ends
  line_ends : {q : Quotes} {c : ℕ} {after : List ℕ} → q.long ≡ false → IsTrue (is_end c) → Bad_item q (c ∷ after) OpenString
  -- any other escape, and a backslash at the very end of the text
  bad_escape : {q : Quotes} {b : ℕ} {cs : List ℕ} → b ≡ 92 → ((text : List ℕ) (n : ℕ) (after : List ℕ) → ¬ Escape cs text n after) → Bad_item q (b ∷ cs) BadEscape

-- the rest of a string: its text, over so many line ends, and what follows it
pub data Body : Quotes → List ℕ → List ℕ → ℕ → List ℕ → Type 0 where
  closed : {q : Quotes} {cs after : List ℕ} → closing_quotes q cs ≡ Some after → Body q cs [] 0 after
  item : {q : Quotes} {cs text more after rest : List ℕ} {n m : ℕ} → closing_quotes q cs ≡ None → Item q cs text n after → Body q after more m rest → Body q cs (text ++ more) (n + m) rest

-- the first part that does not go on decides
pub data Bad_body : Quotes → List ℕ → Kind → Type 0 where
  here : {q : Quotes} {cs : List ℕ} {kind : Kind} → closing_quotes q cs ≡ None → Bad_item q cs kind → Bad_body q cs kind
  later : {q : Quotes} {cs text after : List ℕ} {n : ℕ} {kind : Kind} → closing_quotes q cs ≡ None → Item q cs text n after → Bad_body q after kind → Bad_body q cs kind
