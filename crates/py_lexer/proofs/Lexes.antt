-- The scanner gives the outcome of the text, and a text has no other.
use Rattle.std.proofs.Common.{◌≡◌, ℕ, zero, suc, ◌+◌, ◌<◌, ◌==◌, false, Option, Some, None, Result, Ok, Err, List, [], ◌∷◌, ◌++◌, length, refl, sym, ap, subst, ◌∙◌, arith, length-append, append_assoc, append-nil}
use Rattle.std.specs.Prelude.{IsTrue}
use Rattle.std.proofs.lemmas.Bool.Decides.{nat_tests}
use Rattle.py_lexer.specs.declared.columns.Columns.{Columns}
use Rattle.py_lexer.specs.declared.error.Kind.{Kind}
use Rattle.py_lexer.specs.declared.error.Fault.{Fault}
use Rattle.py_lexer.specs.declared.gap.Gap.{Gap}
use Rattle.py_lexer.specs.declared.gap.Gap.TheVariants.{Blank, Joined, Ended}
use Rattle.py_lexer.specs.declared.indent.Change.{Change}
use Rattle.py_lexer.specs.declared.scan.Mode.{Mode}
use Rattle.py_lexer.specs.declared.scan.Mode.TheVariants.{Fresh as Fresh_at, Inside}
use Rattle.py_lexer.specs.Chars.{is_white, IsRun}
use Rattle.py_lexer.specs.Columns.{margin, leading, columns_after}
use Rattle.py_lexer.specs.Indent.{settled}
use Rattle.py_lexer.specs.TokenList.{Outcome, before, mark, marks, closing, depth_after}
use Rattle.py_lexer.specs.declared.word.Tok.{Tok}
use Rattle.py_lexer.specs.declared.word.Token.{Token}
use Rattle.py_lexer.specs.declared.word.Tok.TheVariants.{Newline}
use Rattle.py_lexer.specs.Gaps.{Stands}
use Rattle.py_lexer.specs.Words.{Reads, Faulty, begins_token}
use Rattle.py_lexer.proofs.Bits as tokens
use Rattle.py_lexer.proofs.Bits.{Starts, Fresh, Within}
use Rattle.py_lexer.specs.Reading.{State, Read_word, Reading, ◌>>=◌, gap, word, start, pass, begin, put, take_word, step, finish, scan, first_state, scan_text}
use Rattle.py_lexer.proofs.Runs.{leading_run, leads}
use Rattle.py_lexer.proofs.Gaps.{gap_complete, gap_right, gap_none, gap_shorter, Gap_right}
use Rattle.py_lexer.proofs.Words.{word_complete, fault_complete, word_right, Word_right, word_shorter, word_begins, fault_begins}

abbrev state : List Columns → Mode → ℕ → List Token → State
state stack mode line out = record { stack = stack; mode = mode; line = line; out = out }

abbrev scan_at : ℕ → State × List ℕ → Outcome
scan_at n y = scan n y.0 y.1

pub before_before : (xs ys : List Token) (out : Outcome) → before (xs ++ ys) out ≡ before xs (before ys out)
before_before xs ys (Ok ts) = ap (λ (l : List Token). Ok l) (simp append_assoc)
before_before xs ys (Err f) = refl

-- single steps
scan_step : (n : ℕ) (s : State) (cs : List ℕ) (r : Result (State × List ℕ) Fault) → 0 < length cs → step s cs ≡ r → scan (suc n) s cs ≡ (r >>= λ y. scan n y.0 y.1)
unfolding scan
scan_step n s [] r h e = absurd (omega arith)
scan_step n s (c ∷ cs) r h e = rw e refl

step_gap : (s : State) (cs : List ℕ) (g : Gap) (after : List ℕ) → gap cs ≡ Some (g, after) → step s cs ≡ Ok (pass g s after)
unfolding step
step_gap s cs g after e = rw (e, step) refl

step_word : (s : State) (cs : List ℕ) → gap cs ≡ None → step s cs ≡ take_word s cs
unfolding step
step_word s cs e = rw (e, step) refl

gap_scan : (n : ℕ) (s : State) (text : List ℕ) (g : Gap) (after : List ℕ) → Stands text g after → scan (suc n) s text ≡ scan_at n (pass g s after)
gap_scan n s text g after h =
    let shorter = gap_shorter h in
    scan_step n s text (Ok (pass g s after)) (omega arith) (step_gap s text g after (gap_complete h))

some_begins : (text : List ℕ) → IsTrue (begins_token text) → 0 < length text
some_begins [] b = absurd cc
some_begins (c ∷ cs) b = omega arith

take_inside : (stack : List Columns) (depth line : ℕ) (acc : List Token) (text : List ℕ) (x : Read_word × List ℕ) → word text ≡ Ok x → take_word (state stack (Inside depth) line acc) text ≡ Ok (put (state stack (Inside depth) line acc) x.0, x.1)
unfolding take_word begin
take_inside stack depth line acc text x e = rw e refl

take_fault : (stack : List Columns) (depth line : ℕ) (acc : List Token) (text : List ℕ) (kind : Kind) → word text ≡ Err kind → take_word (state stack (Inside depth) line acc) text ≡ Err (record { kind = kind; line = line })
unfolding take_word begin
take_fault stack depth line acc text kind e = rw e refl

word_scan : (n : ℕ) (stack : List Columns) (depth line : ℕ) (acc : List Token) (text : List ℕ) (lexeme : Tok) (k : ℕ) (after : List ℕ) → Reads text lexeme k after → scan (suc n) (state stack (Inside depth) line acc) text ≡ scan n (state stack (Inside (depth_after lexeme depth)) (line + k) (acc ++ mark lexeme line)) after
unfolding put
word_scan n stack depth line acc text lexeme k after h =
    let b = word_begins h in
    scan_step n (state stack (Inside depth) line acc) text _ (some_begins text b) (step_word _ text (gap_none text b) ∙ take_inside stack depth line acc text (record { lexeme = lexeme; lines = k }, after) (word_complete h))

fault_scan : (n : ℕ) (stack : List Columns) (depth line : ℕ) (acc : List Token) (text : List ℕ) (kind : Kind) → Faulty text kind → scan (suc n) (state stack (Inside depth) line acc) text ≡ Err (record { kind = kind; line = line })
fault_scan n stack depth line acc text kind h =
    let b = fault_begins h in
    scan_step n (state stack (Inside depth) line acc) text _ (some_begins text b) (step_word _ text (gap_none text b) ∙ take_fault stack depth line acc text kind (fault_complete h))

begin_opens : (stack next : List Columns) (at : Columns) (first line : ℕ) (acc : List Token) (change : Change) → settled stack at ≡ Ok (change, next) → begin (state stack (Fresh_at at first) line acc) ≡ Ok (state next (Inside 0) line (acc ++ marks change line))
unfolding begin
begin_opens stack next at first line acc change e = rw (e, begin) refl

begin_misplaced : (stack : List Columns) (at : Columns) (first line : ℕ) (acc : List Token) (kind : Kind) → settled stack at ≡ Err kind → begin (state stack (Fresh_at at first) line acc) ≡ Err (record { kind = kind; line = first })
unfolding begin
begin_misplaced stack at first line acc kind e = rw (e, begin) refl

take_begun : (s : State) (stack : List Columns) (depth line : ℕ) (acc : List Token) (text : List ℕ) → begin s ≡ Ok (state stack (Inside depth) line acc) → take_word s text ≡ take_word (state stack (Inside depth) line acc) text
unfolding take_word begin
take_begun s stack depth line acc text e = rw (e, take_word) refl

take_stops : (s : State) (text : List ℕ) (fault : Fault) → begin s ≡ Err fault → take_word s text ≡ Err fault
unfolding take_word
take_stops s text fault e = rw e refl

opens_scan : (n : ℕ) (s : State) (stack : List Columns) (depth line : ℕ) (acc : List Token) (text : List ℕ) → IsTrue (begins_token text) → begin s ≡ Ok (state stack (Inside depth) line acc) → scan (suc n) s text ≡ scan (suc n) (state stack (Inside depth) line acc) text
opens_scan n s stack depth line acc text b e =
    let t = state stack (Inside depth) line acc in
    let none = gap_none text b in
    scan_step n s text (take_word t text) (some_begins text b) (step_word s text none ∙ take_begun s stack depth line acc text e)
    ∙ sym (scan_step n t text (take_word t text) (some_begins text b) (step_word t text none))

misplaced_scan : (n : ℕ) (s : State) (text : List ℕ) (fault : Fault) → IsTrue (begins_token text) → begin s ≡ Err fault → scan (suc n) s text ≡ Err fault
misplaced_scan n s text fault b e = scan_step n s text (Err fault) (some_begins text b) (step_word s text (gap_none text b) ∙ take_stops s text fault e)

start_run : (stack : List Columns) (mode : Mode) (line : ℕ) (acc : List Token) (white after : List ℕ) → IsRun is_white white after → start (state stack mode line acc) (white ++ after) ≡ (state stack (Fresh_at (columns_after margin white) line) line acc, after)
unfolding start
start_run stack mode line acc white after r = rw (leading_run margin white after r.all r.longest) refl

-- past gaps
fresh_ended : (stack : List Columns) (at : Columns) (first line : ℕ) (acc : List Token) (after : List ℕ) → pass Ended (state stack (Fresh_at at first) line acc) after ≡ start (state stack (Fresh_at at first) (line + 1) acc) after
unfolding pass
fresh_ended stack at first line acc after = refl

line_ended : (stack : List Columns) (line : ℕ) (acc : List Token) (after : List ℕ) → pass Ended (state stack (Inside zero) line acc) after ≡ start (state stack (Inside zero) (line + 1) (acc ++ mark Newline line)) after
unfolding pass
line_ended stack line acc after = refl

suc_eqb : (n : ℕ) → (suc n == 0) ≡ false
suc_eqb n = grind (arith, nat_tests)

inner_ended : (stack : List Columns) (depth line : ℕ) (acc : List Token) (after : List ℕ) → pass Ended (state stack (Inside (suc depth)) line acc) after ≡ (state stack (Inside (suc depth)) (line + 1) acc, after)
unfolding pass
inner_ended stack depth line acc after = rw (suc_eqb depth) refl

passed_blank : (s : State) (after : List ℕ) → pass Blank s after ≡ (s, after)
unfolding pass
passed_blank s after = refl

passed_join : (stack : List Columns) (mode : Mode) (line : ℕ) (acc : List Token) (after : List ℕ) → pass Joined (state stack mode line acc) after ≡ (state stack mode (line + 1) acc, after)
unfolding pass
passed_join stack mode line acc after = refl

-- the end of the text
fresh_end : (n : ℕ) (stack : List Columns) (at : Columns) (first line : ℕ) (acc : List Token) → scan (suc n) (state stack (Fresh_at at first) line acc) [] ≡ Ok (acc ++ closing stack line)
unfolding scan finish
fresh_end n stack at first line acc = ap (λ (l : List Token). Ok (l ++ closing stack line)) (simp append-nil)

line_end : (n : ℕ) (stack : List Columns) (line : ℕ) (acc : List Token) → scan (suc n) (state stack (Inside zero) line acc) [] ≡ Ok (acc ++ (mark Newline line ++ closing stack line))
unfolding scan finish
line_end n stack line acc = ap (λ (l : List Token). Ok l) (append_assoc acc (mark Newline line) (closing stack line))

open_end : (n : ℕ) (stack : List Columns) (depth line : ℕ) (acc : List Token) → scan (suc n) (state stack (Inside (suc depth)) line acc) [] ≡ Ok (acc ++ closing stack line)
unfolding scan finish
open_end n stack depth line acc = rw (suc_eqb depth) (ap (λ (l : List Token). Ok (l ++ closing stack line)) (simp append-nil))

-- what a text gives is what the scanner answers
mutual
  complete_starts : {stack : List Columns} {line : ℕ} {text : List ℕ} {out : Outcome} → Starts stack line text out → (n : ℕ) (mode : Mode) (acc : List Token) → length text < n → scan_at n (start (state stack mode line acc) text) ≡ before acc out
  complete_starts {stack} {line} (tokens.starts {white = white} {after = after} r f) n mode acc h =
      ap (scan_at n) (start_run stack mode line acc white after r) ∙ complete_fresh f n acc (omega (arith, length-append white after))

  complete_fresh : {stack : List Columns} {at : Columns} {first line : ℕ} {text : List ℕ} {out : Outcome} → Fresh stack at first line text out → (n : ℕ) (acc : List Token) → length text < n → scan n (state stack (Fresh_at at first) line acc) text ≡ before acc out
  complete_fresh f zero acc h = absurd (omega arith)
  complete_fresh {stack} {at} {first} {line} {text} (tokens.blank {after = after} s f) (suc n) acc h =
      let shorter = gap_shorter s in
      let t = state stack (Fresh_at at first) line acc in
      gap_scan n t text Blank after s ∙ ap (scan_at n) (passed_blank t after) ∙ complete_fresh f n acc (omega arith)
  complete_fresh {stack} {at} {first} {line} {text} (tokens.joined {after = after} s f) (suc n) acc h =
      let shorter = gap_shorter s in
      gap_scan n (state stack (Fresh_at at first) line acc) text Joined after s ∙ ap (scan_at n) (passed_join stack (Fresh_at at first) line acc after) ∙ complete_fresh f n acc (omega arith)
  complete_fresh {stack} {at} {first} {line} {text} (tokens.empty {after = after} s f) (suc n) acc h =
      let shorter = gap_shorter s in
      gap_scan n (state stack (Fresh_at at first) line acc) text Ended after s ∙ ap (scan_at n) (fresh_ended stack at first line acc after) ∙ complete_starts f n (Fresh_at at first) acc (omega arith)
  complete_fresh {stack} {at} {first} {line} tokens.nothing (suc n) acc h = fresh_end n stack at first line acc
  complete_fresh {stack} {at} {first} {line} {text} (tokens.opens {next = next} {change = change} {out = out} b e w) (suc n) acc h =
      opens_scan n (state stack (Fresh_at at first) line acc) next 0 line (acc ++ marks change line) text b (begin_opens stack next at first line acc change e)
      ∙ complete_within w (suc n) (acc ++ marks change line) h ∙ before_before acc (marks change line) out
  complete_fresh {stack} {at} {first} {line} {text} (tokens.misplaced {kind = kind} b e) (suc n) acc h =
      misplaced_scan n (state stack (Fresh_at at first) line acc) text (record { kind = kind; line = first }) b (begin_misplaced stack at first line acc kind e)

  complete_within : {stack : List Columns} {depth line : ℕ} {text : List ℕ} {out : Outcome} → Within stack depth line text out → (n : ℕ) (acc : List Token) → length text < n → scan n (state stack (Inside depth) line acc) text ≡ before acc out
  complete_within w zero acc h = absurd (omega arith)
  complete_within {stack} {depth} {line} {text} (tokens.blank_inside {after = after} s w) (suc n) acc h =
      let shorter = gap_shorter s in
      let t = state stack (Inside depth) line acc in
      gap_scan n t text Blank after s ∙ ap (scan_at n) (passed_blank t after) ∙ complete_within w n acc (omega arith)
  complete_within {stack} {depth} {line} {text} (tokens.joined_inside {after = after} s w) (suc n) acc h =
      let shorter = gap_shorter s in
      gap_scan n (state stack (Inside depth) line acc) text Joined after s ∙ ap (scan_at n) (passed_join stack (Inside depth) line acc after) ∙ complete_within w n acc (omega arith)
  complete_within {stack} {line = line} {text = text} (tokens.inner {depth = depth} {after = after} s w) (suc n) acc h =
      let shorter = gap_shorter s in
      gap_scan n (state stack (Inside (suc depth)) line acc) text Ended after s ∙ ap (scan_at n) (inner_ended stack depth line acc after) ∙ complete_within w n acc (omega arith)
  complete_within {stack} {line = line} {text = text} (tokens.ended {after = after} {out = out} s f) (suc n) acc h =
      let shorter = gap_shorter s in
      gap_scan n (state stack (Inside zero) line acc) text Ended after s ∙ ap (scan_at n) (line_ended stack line acc after) ∙ complete_starts f n (Inside zero) (acc ++ mark Newline line) (omega arith) ∙ before_before acc (mark Newline line) out
  complete_within {stack} {line = line} tokens.ended_by_text (suc n) acc h = line_end n stack line acc
  complete_within {stack} {line = line} (tokens.open_end {depth = depth}) (suc n) acc h = open_end n stack depth line acc
  complete_within {stack} {depth} {line} {text} (tokens.token {n = k} {after = after} {lexeme = lexeme} {out = out} r w) (suc n) acc h =
      let shorter = word_shorter r in
      word_scan n stack depth line acc text lexeme k after r ∙ complete_within w n (acc ++ mark lexeme line) (omega arith) ∙ before_before acc (mark lexeme line) out
  complete_within {stack} {depth} {line} {text} (tokens.fault {kind = kind} f) (suc n) acc h = fault_scan n stack depth line acc text kind f

-- each text has an outcome, which the scanner answers
abbrev Starts_found : ℕ → List Columns → Mode → ℕ → List Token → List ℕ → Type 0
Starts_found n stack mode line acc text = (out : Outcome) × Starts stack line text out × (scan_at n (start (state stack mode line acc) text) ≡ before acc out)

abbrev Fresh_found : ℕ → List Columns → Columns → ℕ → ℕ → List Token → List ℕ → Type 0
Fresh_found n stack at first line acc text = (out : Outcome) × Fresh stack at first line text out × (scan n (state stack (Fresh_at at first) line acc) text ≡ before acc out)

abbrev Within_found : ℕ → List Columns → ℕ → ℕ → List Token → List ℕ → Type 0
Within_found n stack depth line acc text = (out : Outcome) × Within stack depth line text out × (scan n (state stack (Inside depth) line acc) text ≡ before acc out)

-- in fewer than n steps
record Found (n : ℕ) : Type 0 where
  fresh : (stack : List Columns) (at : Columns) (first line : ℕ) (acc : List Token) (text : List ℕ) → length text < n → Fresh_found n stack at first line acc text
  within : (stack : List Columns) (depth line : ℕ) (acc : List Token) (text : List ℕ) → length text < n → Within_found n stack depth line acc text

starts_found : (n : ℕ) → Found n → (stack : List Columns) (mode : Mode) (line : ℕ) (acc : List Token) (text : List ℕ) → length text < n → Starts_found n stack mode line acc text
starts_found n all stack mode line acc text h =
    let l = leads margin text in
    let whole : length text ≡ length (l.white ++ (leading margin text).1) = ap length l.parts in
    let (out, f, e) = all.fresh stack (columns_after margin l.white) line line acc (leading margin text).1 (omega (arith, whole, length-append l.white (leading margin text).1)) in (
      out,
      subst (λ (t : List ℕ). Starts stack line t out) (sym l.parts) (tokens.starts l.run f),
      ap (λ (t : List ℕ). scan_at n (start (state stack mode line acc) t)) l.parts ∙ ap (scan_at n) (start_run stack mode line acc l.white (leading margin text).1 l.run) ∙ e,
    )

fresh_gap : (n : ℕ) → Found n → (stack : List Columns) (at : Columns) (first line : ℕ) (acc : List Token) (text : List ℕ) → length text < suc n → (g : Gap) (after : List ℕ) → Stands text g after → Fresh_found (suc n) stack at first line acc text
fresh_gap n all stack at first line acc text h Blank after s =
    let shorter = gap_shorter s in
    let (out, f, e) = all.fresh stack at first line acc after (omega arith) in
    let t = state stack (Fresh_at at first) line acc in
    (out, tokens.blank s f, gap_scan n t text Blank after s ∙ ap (scan_at n) (passed_blank t after) ∙ e)
fresh_gap n all stack at first line acc text h Joined after s =
    let shorter = gap_shorter s in
    let (out, f, e) = all.fresh stack at first (line + 1) acc after (omega arith) in
    (out, tokens.joined s f, gap_scan n (state stack (Fresh_at at first) line acc) text Joined after s ∙ ap (scan_at n) (passed_join stack (Fresh_at at first) line acc after) ∙ e)
fresh_gap n all stack at first line acc text h Ended after s =
    let shorter = gap_shorter s in
    let (out, f, e) = starts_found n all stack (Fresh_at at first) (line + 1) acc after (omega arith) in
    (out, tokens.empty s f, gap_scan n (state stack (Fresh_at at first) line acc) text Ended after s ∙ ap (scan_at n) (fresh_ended stack at first line acc after) ∙ e)

within_gap : (n : ℕ) → Found n → (stack : List Columns) (depth line : ℕ) (acc : List Token) (text : List ℕ) → length text < suc n → (g : Gap) (after : List ℕ) → Stands text g after → Within_found (suc n) stack depth line acc text
within_gap n all stack depth line acc text h Blank after s =
    let shorter = gap_shorter s in
    let (out, w, e) = all.within stack depth line acc after (omega arith) in
    let t = state stack (Inside depth) line acc in
    (out, tokens.blank_inside s w, gap_scan n t text Blank after s ∙ ap (scan_at n) (passed_blank t after) ∙ e)
within_gap n all stack depth line acc text h Joined after s =
    let shorter = gap_shorter s in
    let (out, w, e) = all.within stack depth (line + 1) acc after (omega arith) in
    (out, tokens.joined_inside s w, gap_scan n (state stack (Inside depth) line acc) text Joined after s ∙ ap (scan_at n) (passed_join stack (Inside depth) line acc after) ∙ e)
within_gap n all stack zero line acc text h Ended after s =
    let shorter = gap_shorter s in
    let (out, f, e) = starts_found n all stack (Inside zero) (line + 1) (acc ++ mark Newline line) after (omega arith) in
    (before (mark Newline line) out, tokens.ended s f, gap_scan n (state stack (Inside zero) line acc) text Ended after s ∙ ap (scan_at n) (line_ended stack line acc after) ∙ e ∙ before_before acc (mark Newline line) out)
within_gap n all stack (suc depth) line acc text h Ended after s =
    let shorter = gap_shorter s in
    let (out, w, e) = all.within stack (suc depth) (line + 1) acc after (omega arith) in
    (out, tokens.inner s w, gap_scan n (state stack (Inside (suc depth)) line acc) text Ended after s ∙ ap (scan_at n) (inner_ended stack depth line acc after) ∙ e)

within_word : (n : ℕ) → Found n → (stack : List Columns) (depth line : ℕ) (acc : List Token) (text : List ℕ) → length text < suc n → (r : Reading) → Word_right text r → Within_found (suc n) stack depth line acc text
within_word n all stack depth line acc text h (Ok x) r =
    let shorter = word_shorter r in
    let (out, w, e) = all.within stack (depth_after x.0.lexeme depth) (line + x.0.lines) (acc ++ mark x.0.lexeme line) x.1 (omega arith) in
    (before (mark x.0.lexeme line) out, tokens.token r w, word_scan n stack depth line acc text x.0.lexeme x.0.lines x.1 r ∙ e ∙ before_before acc (mark x.0.lexeme line) out)
within_word n all stack depth line acc text h (Err kind) f = (Err (record { kind = kind; line = line }), tokens.fault f, fault_scan n stack depth line acc text kind f)

within_end : (n : ℕ) (stack : List Columns) (depth line : ℕ) (acc : List Token) → Within_found (suc n) stack depth line acc []
within_end n stack zero line acc = (Ok (mark Newline line ++ closing stack line), tokens.ended_by_text, line_end n stack line acc)
within_end n stack (suc depth) line acc = (Ok (closing stack line), tokens.open_end, open_end n stack depth line acc)

within_by : (n : ℕ) → Found n → (stack : List Columns) (depth line : ℕ) (acc : List Token) (text : List ℕ) → length text < suc n → (o : Option (Gap × List ℕ)) → Gap_right text o → Within_found (suc n) stack depth line acc text
within_by n all stack depth line acc text h (Some x) s = within_gap n all stack depth line acc text h x.0 x.1 s
within_by n all stack depth line acc [] h None s = within_end n stack depth line acc
within_by n all stack depth line acc (c ∷ cs) h None b = within_word n all stack depth line acc (c ∷ cs) h (word (c ∷ cs)) (word_right (c ∷ cs) b)

opened : (n : ℕ) → Found n → (stack : List Columns) (at : Columns) (first line : ℕ) (acc : List Token) (text : List ℕ) → length text < suc n → IsTrue (begins_token text) → (r : Result (Change × List Columns) Kind) → settled stack at ≡ r → Fresh_found (suc n) stack at first line acc text
opened n all stack at first line acc text h b (Ok x) e =
    let (out, w, r) = within_by n all x.1 0 line (acc ++ marks x.0 line) text h (gap text) (gap_right text) in (
      before (marks x.0 line) out,
      tokens.opens b e w,
      opens_scan n (state stack (Fresh_at at first) line acc) x.1 0 line (acc ++ marks x.0 line) text b (begin_opens stack x.1 at first line acc x.0 e) ∙ r ∙ before_before acc (marks x.0 line) out,
    )
opened n all stack at first line acc text h b (Err kind) e = (
  Err (record { kind = kind; line = first }),
  tokens.misplaced b e,
  misplaced_scan n (state stack (Fresh_at at first) line acc) text (record { kind = kind; line = first }) b (begin_misplaced stack at first line acc kind e),
)

fresh_by : (n : ℕ) → Found n → (stack : List Columns) (at : Columns) (first line : ℕ) (acc : List Token) (text : List ℕ) → length text < suc n → (o : Option (Gap × List ℕ)) → Gap_right text o → Fresh_found (suc n) stack at first line acc text
fresh_by n all stack at first line acc text h (Some x) s = fresh_gap n all stack at first line acc text h x.0 x.1 s
fresh_by n all stack at first line acc [] h None s = (Ok (closing stack line), tokens.nothing, fresh_end n stack at first line acc)
fresh_by n all stack at first line acc (c ∷ cs) h None b = opened n all stack at first line acc (c ∷ cs) h b (settled stack at) refl

found : (n : ℕ) → Found n
found zero = record { fresh = λ stack at first line acc text h. absurd (omega arith); within = λ stack depth line acc text h. absurd (omega arith) }
found (suc n) = record {
  fresh = λ stack at first line acc text h. fresh_by n (found n) stack at first line acc text h (gap text) (gap_right text);
  within = λ stack depth line acc text h. within_by n (found n) stack depth line acc text h (gap text) (gap_right text);
}

-- the whole text
pub nothing_before : (out : Outcome) → before [] out ≡ out
nothing_before (Ok ts) = refl
nothing_before (Err f) = refl

pub starts_scan : (text : List ℕ) (out : Outcome) → Starts (margin ∷ []) 1 text out → scan_text text ≡ out
unfolding scan_text first_state
starts_scan text out (tokens.starts {white = white} {after = after} r f) =
    ap (λ (y : State × List ℕ). scan (suc (length y.1)) y.0 y.1) (start_run (margin ∷ []) (Fresh_at margin 1) 1 [] white after r)
    ∙ complete_fresh f (suc (length after)) [] (omega arith) ∙ nothing_before out

scan_from : (text : List ℕ) → (out : Outcome) × Starts (margin ∷ []) 1 text out
scan_from text = let (out, s, e) = starts_found (suc (length text)) (found (suc (length text))) (margin ∷ []) (Fresh_at margin 1) 1 [] text (omega arith) in (out, s)

pub scan_starts : (text : List ℕ) → Starts (margin ∷ []) 1 text (scan_text text)
scan_starts text = let (out, s) = scan_from text in subst (Starts (margin ∷ []) 1 text) (sym (starts_scan text out s)) s
