-- Strings are read so, and only so.
use Rattle.std.proofs.Common.{◌≡◌, ◌≢◌, ℕ, zero, suc, ◌+◌, ◌*◌, ◌<◌, ◌≤◌, ◌==◌, ◌&&◌, Bool, true, false, Option, Some, None, Result, Ok, Err, List, [], ◌∷◌, ◌++◌, length, drop, refl, sym, ap, subst, ◌∙◌, arith, length-drop, append_assoc, append-nil}
use Rattle.std.specs.Prelude.{if◌then◌else◌, IsFalse}
use Rattle.std.proofs.lemmas.Bool.Decides.{nat_tests}
use Rattle.py_lexer.specs.declared.error.Kind.{Kind}
use Rattle.py_lexer.specs.declared.error.Kind.TheVariants.{BadEscape}
use Rattle.py_lexer.specs.declared.quoted.Quotes.{Quotes}
use Rattle.py_lexer.specs.Chars.{is_end}
use Rattle.py_lexer.specs.declared.word.Tok.{Tok}
use Rattle.py_lexer.specs.TokenList.{quoted_of}
use Rattle.py_lexer.specs.Strings.{Part, closing_quotes, opening_quotes, after_two, escaped, hex_digit, hex_pair, hex_four, is_surrogate}
use Rattle.py_lexer.specs.Quoted as tokens
use Rattle.py_lexer.specs.Quoted.{Escape, Item, Bad_item, Body, Bad_body}
use Rattle.py_lexer.specs.Reading.{Reading, ◌>>=◌, after_end, part, read, hex_escape, escape, item, body}
use Rattle.py_lexer.proofs.Cases.{choice, option_cases}
use Rattle.py_lexer.proofs.Runs.{ends_so, is_line_end, end_shorter, eqb_eq}

abbrev Read_part : Type 0
Read_part = Result (Part × List ℕ) Kind

-- escapes
not_end : (c d : ℕ) → escaped c ≡ Some d → is_end c ≡ false
unfolding escaped
not_end c d e = grind (arith, nat_tests, e)

plain_escape : (c d : ℕ) → escaped c ≡ Some d → ((c == 120) ≡ false) × ((c == 117) ≡ false)
unfolding escaped
plain_escape c d e = (grind (arith, nat_tests, e), grind (arith, nat_tests, e))

hex_small : (c d : ℕ) → hex_digit c ≡ Some d → d < 16
unfolding hex_digit
hex_small c d e = grind (arith, nat_tests, e)

pair_by : (a b n : ℕ) (x y : Option ℕ) → ((d : ℕ) → x ≡ Some d → d < 16) → ((d : ℕ) → y ≡ Some d → d < 16) → (elim x [ None ↦ None | Some x ↦ elim y [ None ↦ None | Some y ↦ Some (16 * x + y) ] ]) ≡ Some n → n < 256
pair_by a b n None y f g e = absurd cc
pair_by a b n (Some x) None f g e = absurd cc
pair_by a b n (Some x) (Some y) f g e = let same : 16 * x + y ≡ n = cc in omega (arith, f x refl, g y refl)

pair_small : (cs : List ℕ) (n : ℕ) → hex_pair cs ≡ Some n → n < 256
unfolding hex_pair
pair_small [] n e = absurd cc
pair_small (a ∷ []) n e = absurd cc
pair_small (a ∷ b ∷ cs) n e = pair_by a b n (hex_digit a) (hex_digit b) (hex_small a) (hex_small b) e

no_surrogate : (n : ℕ) (cs : List ℕ) → hex_pair cs ≡ Some n → is_surrogate n ≡ false
no_surrogate n cs e = let h = pair_small cs n e in grind (arith, nat_tests, h)

end_escape : (text after : List ℕ) (c : ℕ) (cs : List ℕ) → text ≡ c ∷ cs → is_end c ≡ true → after_end c cs ≡ after → escape text ≡ part [] 1 after
unfolding escape
end_escape text after c cs p e h = rw (p, e, h) refl

escape_complete : {cs text : List ℕ} {n : ℕ} {after : List ℕ} → Escape cs text n after → escape cs ≡ part text n after
unfolding escape hex_escape
escape_complete (tokens.simple {c = c} {d = d} e) = let (x, u) = plain_escape c d e in rw (not_end c d e, x, u, e) refl
escape_complete (tokens.hidden {end = end} {after = after} l) = let e = ends_so l in end_escape (end ++ after) after e.first e.rest e.parts e.ends e.behind
escape_complete (tokens.hex_two {x = x} {n = n} {cs = cs} e h) = rw (e, h, no_surrogate n cs h) refl
escape_complete (tokens.hex_four {u = u} {n = n} {cs = cs} e h s) = rw (e, h, s) refl

abbrev Escape_right : List ℕ → Read_part → Type 0
Escape_right cs (Ok x) = Escape cs x.0.text x.0.lines x.1
Escape_right cs (Err kind) = kind ≡ BadEscape

hex_right : (c : ℕ) (cs rest : List ℕ) (o : Option ℕ) → ((n : ℕ) → o ≡ Some n → IsFalse (is_surrogate n) → Escape (c ∷ cs) (n ∷ []) 0 rest) → Escape_right (c ∷ cs) (hex_escape o rest)
unfolding hex_escape
hex_right c cs rest None f = refl
hex_right c cs rest (Some n) f = choice (Escape_right (c ∷ cs)) (Err BadEscape) (part (n ∷ []) 0 rest) (is_surrogate n) (λ t. refl) (λ e. f n refl e)

escape_right : (cs : List ℕ) → Escape_right cs (escape cs)
unfolding escape
escape_right [] = refl
escape_right (c ∷ cs) =
    let P : Read_part → Type 0 = Escape_right (c ∷ cs) in
    choice P _ _ (is_end c)
    (λ e. let l = is_line_end c cs e in subst (λ (t : List ℕ). Escape t [] 1 (after_end c cs)) (sym l.parts) (tokens.hidden l.is))
    (λ _. choice P _ _ (c == 120)
    (λ e. hex_right c cs (drop 2 cs) (hex_pair cs) (λ n h s. tokens.hex_two (eqb_eq c 120 e) h))
    (λ _. choice P _ _ (c == 117)
    (λ e. hex_right c cs (drop 4 cs) (hex_four cs) (λ n h s. tokens.hex_four (eqb_eq c 117 e) h s))
    (λ _. option_cases P (Err BadEscape) (λ d. part (d ∷ []) 0 cs) (escaped c) (λ _. refl) (λ d e. tokens.simple e))))

escape_shorter : {cs text : List ℕ} {n : ℕ} {after : List ℕ} → Escape cs text n after → length after < length cs
escape_shorter (tokens.simple e) = omega arith
escape_shorter (tokens.hidden l) = end_shorter l
escape_shorter (tokens.hex_two {cs = cs} e h) = omega (arith, length-drop 2 cs)
escape_shorter (tokens.hex_four {cs = cs} e h s) = omega (arith, length-drop 4 cs)

-- parts
end_no_backslash : (c : ℕ) → is_end c ≡ true → (c == 92) ≡ false
end_no_backslash c e = grind (arith, nat_tests)

neq_eqb : (c d : ℕ) → c ≢ d → (c == d) ≡ false
neq_eqb c d h = grind (arith, nat_tests)

eqb_neq : (c d : ℕ) → (c == d) ≡ false → c ≢ d
eqb_neq c d h e = grind (arith, nat_tests)

end_item : (q : Quotes) (text after : List ℕ) (c : ℕ) (cs : List ℕ) → q.long ≡ true → text ≡ c ∷ cs → is_end c ≡ true → after_end c cs ≡ after → item q text ≡ part (10 ∷ []) 1 after
unfolding item
end_item q text after c cs l p e h = rw (p, end_no_backslash c e, e, l, h) refl

item_complete : {q : Quotes} {cs text : List ℕ} {n : ℕ} {after : List ℕ} → Item q cs text n after → item q cs ≡ part text n after
unfolding item
item_complete (tokens.plain {c = c} b e) = rw (neq_eqb c 92 b, e) refl
item_complete {q} (tokens.line {end = end} {after = after} g l) = let e = ends_so l in end_item q (end ++ after) after e.first e.rest g e.parts e.ends e.behind
item_complete (tokens.escape b e) = rw b (escape_complete e)

bad_escape_by : (cs : List ℕ) → ((text : List ℕ) (n : ℕ) (after : List ℕ) → ¬ Escape cs text n after) → (r : Read_part) → Escape_right cs r → r ≡ Err BadEscape
bad_escape_by cs f (Ok x) h = absurd (f x.0.text x.0.lines x.1 h)
bad_escape_by cs f (Err kind) h = ap (λ (k : Kind). Err k) h

bad_item_complete : {q : Quotes} {cs : List ℕ} {kind : Kind} → Bad_item q cs kind → item q cs ≡ Err kind
unfolding item escape
bad_item_complete tokens.ends = refl
bad_item_complete (tokens.line_ends {c = c} l e) = rw (end_no_backslash c e, e, l) refl
bad_item_complete (tokens.bad_escape {cs = cs} b f) = rw b (bad_escape_by cs f (escape cs) (escape_right cs))

abbrev Item_right : Quotes → List ℕ → Read_part → Type 0
Item_right q cs (Ok x) = Item q cs x.0.text x.0.lines x.1
Item_right q cs (Err kind) = Bad_item q cs kind

bad_of : (cs : List ℕ) (kind : Kind) → escape cs ≡ Err kind → (text : List ℕ) (n : ℕ) (after : List ℕ) → ¬ Escape cs text n after
bad_of cs kind e text n after h = let r = escape_complete h in absurd cc

escape_item : (q : Quotes) (c : ℕ) (cs : List ℕ) (r : Read_part) → c ≡ 92 → escape cs ≡ r → Escape_right cs r → Item_right q (c ∷ cs) r
escape_item q c cs (Ok x) b e h = tokens.escape b h
escape_item q c cs (Err kind) b e h = rw h (tokens.bad_escape b (bad_of cs kind e))

item_right : (q : Quotes) (cs : List ℕ) → Item_right q cs (item q cs)
unfolding item
item_right q [] = tokens.ends
item_right q (c ∷ cs) =
    let P : Read_part → Type 0 = Item_right q (c ∷ cs) in
    choice P _ _ (c == 92)
    (λ e. escape_item q c cs (escape cs) (eqb_eq c 92 e) refl (escape_right cs))
    (λ b. choice P _ _ (is_end c)
    (λ e. choice P _ _ q.long
    (λ g. let l = is_line_end c cs e in subst (λ (t : List ℕ). Item q t (10 ∷ []) 1 (after_end c cs)) (sym l.parts) (tokens.line g l.is))
    (λ g. tokens.line_ends g e))
    (λ e. tokens.plain (eqb_neq c 92 b) e))

item_shorter : {q : Quotes} {cs text : List ℕ} {n : ℕ} {after : List ℕ} → Item q cs text n after → length after < length cs
item_shorter (tokens.plain b e) = omega arith
item_shorter (tokens.line g l) = end_shorter l
item_shorter (tokens.escape b e) = let h = escape_shorter e in omega (arith, h)

-- whole strings
close_body : (n : ℕ) (q : Quotes) (text : List ℕ) (lines : ℕ) (cs after : List ℕ) → 0 < n → closing_quotes q cs ≡ Some after → body n q text lines cs ≡ read (quoted_of text) lines after
unfolding body
close_body zero q text lines cs after h e = absurd (omega arith)
close_body (suc n) q text lines cs after h e = rw (e, body) refl

item_body : (n : ℕ) (q : Quotes) (text : List ℕ) (lines : ℕ) (cs : List ℕ) (r : Read_part) → closing_quotes q cs ≡ None → item q cs ≡ r → body (suc n) q text lines cs ≡ (r >>= λ x. body n q (text ++ x.0.text) (lines + x.0.lines) x.1)
unfolding body
item_body n q text lines cs r e h = rw (e, body) (rw h refl)

same_read : (text more : List ℕ) (lines m : ℕ) (rest : List ℕ) → text ≡ more → lines ≡ m → read (quoted_of text) lines rest ≡ read (quoted_of more) m rest
same_read text more lines m rest e f = rw (e, f) refl

pub body_complete : {q : Quotes} {cs more : List ℕ} {m : ℕ} {rest : List ℕ} → Body q cs more m rest → (n : ℕ) (text : List ℕ) (lines : ℕ) → length cs < n → body n q text lines cs ≡ read (quoted_of (text ++ more)) (lines + m) rest
body_complete {q} {cs} (tokens.closed {after = after} e) n text lines h = close_body n q text lines cs after (omega arith) e ∙ same_read text (text ++ []) lines (lines + 0) after (simp append-nil) (omega arith)
body_complete b zero text lines h = absurd (omega arith)
body_complete {q} {cs} (tokens.item {text = us} {more = more} {after = after} {rest = rest} {n = k} {m = m} e i b) (suc n) text lines h =
    let shorter = item_shorter i in
    item_body n q text lines cs (part us k after) e (item_complete i)
    ∙ body_complete b n (text ++ us) (lines + k) (omega arith)
    ∙ same_read ((text ++ us) ++ more) (text ++ (us ++ more)) ((lines + k) + m) (lines + (k + m)) rest (simp append_assoc) (omega arith)

pub bad_body_complete : {q : Quotes} {cs : List ℕ} {kind : Kind} → Bad_body q cs kind → (n : ℕ) (text : List ℕ) (lines : ℕ) → length cs < n → body n q text lines cs ≡ Err kind
bad_body_complete b zero text lines h = absurd (omega arith)
bad_body_complete {q} {cs} {kind} (tokens.here e i) (suc n) text lines h = item_body n q text lines cs (Err kind) e (bad_item_complete i)
bad_body_complete {q} {cs} (tokens.later {text = us} {after = after} {n = k} e i b) (suc n) text lines h =
    let shorter = item_shorter i in
    item_body n q text lines cs (part us k after) e (item_complete i) ∙ bad_body_complete b n (text ++ us) (lines + k) (omega arith)

pub record Body_read (q : Quotes) (text : List ℕ) (lines : ℕ) (cs : List ℕ) (lexeme : Tok) (all : ℕ) (rest : List ℕ) : Type 0 where
  pub more : List ℕ
  pub m : ℕ
  pub is : Body q cs more m rest
  pub lexeme_is : lexeme ≡ quoted_of (text ++ more)
  pub lines_is : all ≡ lines + m

abbrev pub Body_right : Quotes → List ℕ → ℕ → List ℕ → Reading → Type 0
Body_right q text lines cs (Ok x) = Body_read q text lines cs x.0.lexeme x.0.lines x.1
Body_right q text lines cs (Err kind) = Bad_body q cs kind

body_later : (q : Quotes) (text : List ℕ) (lines : ℕ) (cs us : List ℕ) (k : ℕ) (after : List ℕ) (r : Reading) → closing_quotes q cs ≡ None → Item q cs us k after → Body_right q (text ++ us) (lines + k) after r → Body_right q text lines cs r
body_later q text lines cs us k after (Ok x) e i h = record {
  more = us ++ h.more;
  m = k + h.m;
  is = tokens.item e i h.is;
  lexeme_is = h.lexeme_is ∙ ap quoted_of (simp append_assoc);
  lines_is = omega (arith, h.lines_is);
}
body_later q text lines cs us k after (Err kind) e i h = tokens.later e i h

body_item : (n : ℕ) (q : Quotes) (text : List ℕ) (lines : ℕ) (cs : List ℕ) → length cs < suc n → closing_quotes q cs ≡ None → (r : Read_part) → Item_right q cs r → ((text : List ℕ) (lines : ℕ) (cs : List ℕ) → length cs < n → Body_right q text lines cs (body n q text lines cs)) → Body_right q text lines cs (r >>= λ x. body n q (text ++ x.0.text) (lines + x.0.lines) x.1)
body_item n q text lines cs h e (Ok x) i f = let shorter = item_shorter i in body_later q text lines cs x.0.text x.0.lines x.1 _ e i (f (text ++ x.0.text) (lines + x.0.lines) x.1 (omega arith))
body_item n q text lines cs h e (Err kind) i f = tokens.here e i

pub body_right : (n : ℕ) (q : Quotes) (text : List ℕ) (lines : ℕ) (cs : List ℕ) → length cs < n → Body_right q text lines cs (body n q text lines cs)
unfolding body
body_right zero q text lines cs h = absurd (omega arith)
body_right (suc n) q text lines cs h =
    let P : Reading → Type 0 = Body_right q text lines cs in
    option_cases P (item q cs >>= λ x. body n q (text ++ x.0.text) (lines + x.0.lines) x.1) (λ rest. read (quoted_of text) lines rest) (closing_quotes q cs)
    (λ e. body_item n q text lines cs h e (item q cs) (item_right q cs) (body_right n q))
    (λ rest e. record { more = []; m = 0; is = tokens.closed e; lexeme_is = ap quoted_of (simp append-nil); lines_is = omega arith })

two_by : (cs rest : List ℕ) (b : Bool) → (if b then Some cs else None) ≡ Some rest → length rest ≤ length (0 ∷ 0 ∷ cs)
two_by cs rest true e = let same : cs ≡ rest = cc in rw (← same) (omega arith)
two_by cs rest false e = absurd cc

after_two_shorter : (m : ℕ) (cs rest : List ℕ) → after_two m cs ≡ Some rest → length rest ≤ length cs
unfolding after_two
after_two_shorter m [] rest e = absurd cc
after_two_shorter m (a ∷ []) rest e = absurd cc
after_two_shorter m (a ∷ b ∷ cs) rest e = two_by cs rest (a == m && b == m) e

closing_by : (q : Quotes) (c : ℕ) (cs rest : List ℕ) (b l : Bool) → (if b then (if l then after_two c cs else Some cs) else None) ≡ Some rest → length rest < length (c ∷ cs)
closing_by q c cs rest true true e = let h = after_two_shorter c cs rest e in omega (arith, h)
closing_by q c cs rest true false e = let same : cs ≡ rest = cc in rw (← same) (omega arith)
closing_by q c cs rest false l e = absurd cc

closing_shorter : (q : Quotes) (cs rest : List ℕ) → closing_quotes q cs ≡ Some rest → length rest < length cs
unfolding closing_quotes
closing_shorter q [] rest e = absurd cc
closing_shorter q (c ∷ cs) rest e = closing_by q c cs rest (c == q.mark) q.long e

pub opening_shorter : (c : ℕ) (cs : List ℕ) → length (opening_quotes c cs).1 ≤ length cs
unfolding opening_quotes
opening_shorter c cs = option_cases (λ (x : Quotes × List ℕ). length x.1 ≤ length cs) _ _ (after_two c cs) (λ _. omega arith) (λ rest e. after_two_shorter c cs rest e)

pub body_shorter : {q : Quotes} {cs more : List ℕ} {m : ℕ} {rest : List ℕ} → Body q cs more m rest → length rest < length cs
body_shorter {q} (tokens.closed {cs = cs} {after = after} e) = closing_shorter q cs after e
body_shorter (tokens.item e i b) = let h = item_shorter i in let k = body_shorter b in omega (arith, h, k)
