-- The line at which a rounds file is refused.
use Rattle.std.proofs.Common.{◌≡◌, ◌∙◌, refl, sym, ap, subst, ℕ, zero, suc, ◌+◌, ◌<◌, List, [], ◌∷◌, ◌++◌, length, length-append, codes, true, nat_lt, cond, Some, None, Option, Ok, Err, Result, arith, inl, inr}
use Rattle.std.proofs.lemmas.Bool.{and_parts, and_from, ltb-true, lt-ltb, cond-true}
use Rattle.std.proofs.lemmas.List.{append_assoc}
use Rattle.std.proofs.lemmas.List.Splits.{join_with_byte-slice_split}
use Rattle.std.proofs.lemmas.Str.{IsUtf8-from_ascii}
use Rattle.std.specs.List.{list_all, join_with_byte}
use Rattle.std.specs.Option.{option_and_then, ok_or}
use Rattle.std.specs.Str.{bytes_eq, IsAscii}
use Rattle.words_rounds.specs.declared.draft.Draft.{Draft}
use Rattle.words_rounds.specs.declared.draft.Stage.{Stage}
use Rattle.words_rounds.specs.declared.draft.Stage.TheVariants as stages
use Rattle.words_rounds.specs.declared.line.Line.{Line}
use Rattle.words_rounds.specs.declared.line.Line.TheVariants as lines
use Rattle.words_rounds.specs.declared.rounds.Round.{Round}
use Rattle.words_rounds.specs.declared.rounds.Rounds.{Rounds}
use Rattle.words_rounds.specs.declared.rounds.RoundsError.{RoundsError}
use Rattle.words_rounds.specs.declared.rounds.RoundsError.TheVariants as error
use Rattle.words_rounds.specs.Spelling.{first_line}
use Rattle.words_rounds.specs.Lines.{line_in}
use Rattle.words_rounds.specs.Reading.{start, further, goes, next, next_at, ends, read_on, rounds_in, pieces, Reads}
use Rattle.words_rounds.specs.Grammar.{in_line, IsPlace, IsScript, IsFile}
use Rattle.words_rounds.specs.Refusing.{joined_lines, Begins, StopsAt, IsRefusedAt, Says}
use Rattle.words_rounds.proofs.Cuts.{if_some, pieces_clean}
use Rattle.words_rounds.proofs.Sayings.{round_found, script_found}
use Rattle.words_rounds.proofs.Going.{step, Goes, goes_line}
use Rattle.words_rounds.proofs.Found.{file_found}
use Rattle.words_rounds.proofs.Only.{file_only}

-- Each draft on the way can be completed.

-- where a script is still asked for there is room for it
abbrev HasRoom : Stage → ℕ → Type 0
HasRoom stages.Scripts count = Unit {0}
HasRoom stage count = count < 16

abbrev Room : Draft → Type 0
Room d = HasRoom d.stage d.count

abbrev completion : Stage → List ℕ
completion stages.First = first_line ++ 10 ∷ (codes "round" ++ 10 ∷ (codes "script a" ++ 10 ∷ []))
completion stages.Rounds = codes "round" ++ 10 ∷ (codes "script a" ++ 10 ∷ [])
completion stages.Edits = codes "script a" ++ 10 ∷ []
completion stages.Scripts = []

a_is_ascii : IsAscii (codes "a")
a_is_ascii zero = omega arith
a_is_ascii (suc i) = omega arith

place_a : IsPlace (codes "a") (codes "a" ∷ [])
place_a = record { text = IsUtf8-from_ascii (codes "a") a_is_ascii; names = (refl, inl refl); some = omega arith; blank = refl; line = refl }

script_a : IsScript (codes "a") (codes "script a")
script_a = (codes "a" ∷ [], place_a, refl)

-- from the draft the text is read to its end
abbrev Ends : Draft → List ℕ → Type 0
Ends d text = (at : ℕ) → (rounds : List Round) × (read_on at d (pieces text) ≡ Ok rounds)

ends_on : (d e : Draft) (text rest : List ℕ) → Goes d text e rest → Ends e rest → Ends d text
ends_on d e text rest g f at = let there = g at in let end = f there.0 in (end.0, there.1 ∙ end.1)

module _ (d : Draft) where
  complete_scripts : Ends (record d { stage = stages.Scripts }) []
  complete_scripts at = (d.done ++ record { edits = d.edits; scripts = d.scripts } ∷ [], refl)

  complete_rounds : d.count < 16 → Ends (record d { stage = stages.Edits }) (completion stages.Edits) → Ends (record d { stage = stages.Rounds }) (completion stages.Rounds)
  complete_rounds low more =
      let here : Draft = record d { stage = stages.Rounds } in
      let after : Draft = record d { stage = stages.Edits } in
      ends_on here after (completion stages.Rounds) (completion stages.Edits) (goes_line here after (codes "round") (completion stages.Edits) refl (ap (option_and_then (λ l. further stages.Rounds l here)) round_found)) more

  complete_first : Ends (record d { stage = stages.Rounds }) (completion stages.Rounds) → Ends (record d { stage = stages.First }) (completion stages.First)
  complete_first more =
      let here : Draft = record d { stage = stages.First } in
      let after : Draft = record d { stage = stages.Rounds } in
      ends_on here after (completion stages.First) (completion stages.Rounds) (goes_line here after first_line (completion stages.Rounds) refl refl) more

complete_edits : (d : Draft) → d.count < 16 → Ends (record d { stage = stages.Edits }) (completion stages.Edits)
complete_edits d low =
    let here : Draft = record d { stage = stages.Edits } in
    let after : Draft = record { stage = stages.Scripts; done = d.done; edits = d.edits; scripts = d.scripts ++ codes "a" ∷ []; count = d.count + 1 } in
    ends_on here after (completion stages.Edits) []
    (goes_line here after (codes "script a") [] refl (ap (option_and_then (λ l. further stages.Edits l here)) (script_found (codes "a") (codes "script a") script_a) ∙ cond-true _ _ _ (lt-ltb d.count 16 low)))
    (complete_scripts after)

complete : (d : Draft) → Room d → Ends d (completion d.stage)
complete d room = by d.stage room
  where
    by : (s : Stage) → HasRoom s d.count → Ends (record d { stage = s }) (completion s)
    by stages.First low = complete_first d (complete_rounds d low (complete_edits d low))
    by stages.Rounds low = complete_rounds d low (complete_edits d low)
    by stages.Edits low = complete_edits d low
    by stages.Scripts low = complete_scripts d

-- A line that is accepted leaves room for what is asked for.

below : (count : ℕ) (x e : Draft) → cond (nat_lt count 16) (Some x) None ≡ Some e → (count < 16) × (x ≡ e)
below count x e h = let both = if_some (nat_lt count 16) (Some x) e h in (ltb-true count 16 both.0, let k : Some x ≡ Some e = both.1 in cc)

module _ (line : List ℕ) (d e : Draft) (room : Room d) where
  room_rounds : (o : Option Line) → d.count < 16 → option_and_then (λ l. further stages.Rounds l d) o ≡ Some e → Room e
  room_rounds None low k = cc
  room_rounds (Some lines.Round) low k = let is : record d { stage = stages.Edits } ≡ e = cc in subst Room is low
  room_rounds (Some (lines.Edit edit)) low k = cc
  room_rounds (Some (lines.Script script)) low k = cc

  room_edits : (o : Option Line) → option_and_then (λ l. further stages.Edits l d) o ≡ Some e → Room e
  room_edits None k = cc
  room_edits (Some lines.Round) k = cc
  room_edits (Some (lines.Edit edit)) k = let is : record d { edits = d.edits ++ edit ∷ [] } ≡ e = cc in subst Room is room
  room_edits (Some (lines.Script script)) k =
      let more : Draft = record { stage = stages.Scripts; done = d.done; edits = d.edits; scripts = d.scripts ++ script ∷ []; count = d.count + 1 } in
      subst Room (below d.count more e k).1 tt

  room_scripts : (o : Option Line) → option_and_then (λ l. further stages.Scripts l d) o ≡ Some e → Room e
  room_scripts None k = cc
  room_scripts (Some lines.Round) k =
      let more : Draft = record { stage = stages.Edits; done = d.done ++ record { edits = d.edits; scripts = d.scripts } ∷ []; edits = []; scripts = []; count = d.count } in
      let low = below d.count more e k in
      subst Room low.1 low.0
  room_scripts (Some (lines.Edit edit)) k = cc
  room_scripts (Some (lines.Script script)) k =
      let more : Draft = record { stage = stages.Scripts; done = d.done; edits = d.edits; scripts = d.scripts ++ script ∷ []; count = d.count + 1 } in
      subst Room (below d.count more e k).1 tt

  room_first : d.count < 16 → cond (bytes_eq line first_line) (Some (record d { stage = stages.Rounds })) None ≡ Some e → Room e
  room_first low k =
      let both = if_some (bytes_eq line first_line) (Some (record d { stage = stages.Rounds })) e k in
      let is : record d { stage = stages.Rounds } ≡ e = let h : Some (record d { stage = stages.Rounds }) ≡ Some e = both.1 in cc in
      subst Room is low

  room_next : next line d ≡ Some e → Room e
  room_next k = by d.stage room k
    where
      by : (s : Stage) → HasRoom s d.count → next_at s line d ≡ Some e → Room e
      by stages.First low k = room_first low k
      by stages.Rounds low k = room_rounds (line_in line) low k
      by stages.Edits low k = room_edits (line_in line) k
      by stages.Scripts low k = room_scripts (line_in line) k

-- Lines before the refused one.

lines_more : (before : List (List ℕ)) (line rest : List ℕ) → joined_lines (before ++ line ∷ []) ++ rest ≡ joined_lines before ++ (line ++ 10 ∷ rest)
lines_more [] line rest = append_assoc line (10 ∷ []) rest
lines_more (l ∷ before) line rest =
    append_assoc l (10 ∷ joined_lines (before ++ line ∷ [])) rest
    ∙ ap (λ t. l ++ 10 ∷ t) (lines_more before line rest)
    ∙ sym (append_assoc l (10 ∷ joined_lines before) (line ++ 10 ∷ rest))

clean_more : (before : List (List ℕ)) (line : List ℕ) → list_all in_line before ≡ true → in_line line ≡ true → list_all in_line (before ++ line ∷ []) ≡ true
clean_more [] line h k = and_from (in_line line) true k refl
clean_more (l ∷ before) line h k = let both = and_parts (in_line l) (list_all in_line before) h in and_from (in_line l) (list_all in_line (before ++ line ∷ [])) both.0 (clean_more before line both.1 k)

rounds_is : (bytes : List ℕ) → rounds_in bytes ≡ read_on 1 start (pieces bytes)
unfolding rounds_in
rounds_is bytes = refl

abbrev join : List (List ℕ) → List ℕ
join ls = join_with_byte 10 ls

-- behind these lines reading is at this draft
abbrev Reaches : List (List ℕ) → ℕ → Draft → Type 0
Reaches before at d = (rest : List ℕ) → read_on 1 start (pieces (joined_lines before ++ rest)) ≡ read_on at d (pieces rest)

begins_there : (before : List (List ℕ)) (at : ℕ) (d : Draft) → Reaches before at d → Room d → Begins (joined_lines before)
begins_there before at d reach room =
    let more : List ℕ = completion d.stage in
    let end = complete d room at in
    record { rounds = end.0; more = more; is = file_only end.0 (joined_lines before ++ more) (rounds_is (joined_lines before ++ more) ∙ reach more ∙ end.1) }

module _ (bytes : List ℕ) (n : ℕ) (none : (rounds : List Round) → IsFile rounds bytes → ⊥) where
  module _ (before : List (List ℕ)) (at : ℕ) (d : Draft) (reach : Reaches before at d) (room : Room d) (are : list_all in_line before ≡ true) (number : at ≡ length before + 1) where
    refused_here : (rest : List ℕ) → bytes ≡ joined_lines before ++ rest → at ≡ n → StopsAt (joined_lines before) rest → IsRefusedAt n bytes
    refused_here rest whole same stops = record {
      before = before;
      rest = rest;
      are_lines = are;
      number = sym same ∙ number;
      whole = whole;
      begins = begins_there before at d reach room;
      stops = stops;
      none = none;
    }

    stops_line : (line : List ℕ) → in_line line ≡ true → next line d ≡ None → Begins (joined_lines before ++ (line ++ 10 ∷ [])) → ⊥
    stops_line line clean is b =
        let goes_on : List ℕ = line ++ 10 ∷ b.more in
        let spelled : (joined_lines before ++ (line ++ 10 ∷ [])) ++ b.more ≡ joined_lines before ++ goes_on = append_assoc (joined_lines before) (line ++ 10 ∷ []) b.more ∙ ap (λ t. joined_lines before ++ t) (append_assoc line (10 ∷ []) b.more) in
        let found : read_on 1 start (pieces (joined_lines before ++ goes_on)) ≡ Ok b.rounds =
        sym (rounds_is (joined_lines before ++ goes_on)) ∙ ap rounds_in (sym spelled) ∙ file_found b.rounds ((joined_lines before ++ (line ++ 10 ∷ [])) ++ b.more) b.is
        in
        let refused : read_on 1 start (pieces (joined_lines before ++ goes_on)) ≡ Err at = reach goes_on ∙ step at d line b.more clean ∙ ap (λ o. goes o at (λ e. read_on (at + 1) e (pieces b.more))) is in
        let bad : Err at ≡ Ok b.rounds = sym refused ∙ found in
        cc

    reach_next : (line : List ℕ) (e : Draft) → in_line line ≡ true → next line d ≡ Some e → Reaches (before ++ line ∷ []) (at + 1) e
    reach_next line e clean is rest =
        ap (λ t. read_on 1 start (pieces t)) (lines_more before line rest) ∙ reach (line ++ 10 ∷ rest) ∙ step at d line rest clean ∙ ap (λ o. goes o at (λ e. read_on (at + 1) e (pieces rest))) is

  refused_on : (ls before : List (List ℕ)) (at : ℕ) (d : Draft) → Reaches before at d → Room d → list_all in_line before ≡ true → at ≡ length before + 1
      → bytes ≡ joined_lines before ++ join ls → list_all in_line ls ≡ true → read_on at d ls ≡ Err n → IsRefusedAt n bytes
  refused_on [] before at d reach room are number whole clean h = refused_here before at d reach room are number [] whole (let e : at ≡ n = cc in e) (inl refl)
  refused_on (line ∷ []) before at d reach room are number whole clean h = by (ends line d) h
    where
      by : (o : Option (List Round)) → ok_or o at ≡ Err n → IsRefusedAt n bytes
      by (Some rounds) k = cc
      by None k = refused_here before at d reach room are number line whole (let e : at ≡ n = cc in e) (inl (and_parts (in_line line) true clean).0)
  refused_on (line ∷ more ∷ ls) before at d reach room are number whole clean h =
      let both = and_parts (in_line line) (list_all in_line (more ∷ ls)) clean in
      by (next line d) refl
      (λ e is k.
      refused_on (more ∷ ls) (before ++ line ∷ []) (at + 1) e (reach_next before at d reach room are number line e both.0 is) (room_next line d e room is)
      (clean_more before line are both.0) (let many = length-append before (line ∷ []) in omega (arith, number, many))
      (whole ∙ sym (lines_more before line (join (more ∷ ls)))) both.1 k)
      h
    where
      by : (o : Option Draft) → next line d ≡ o → ((e : Draft) → next line d ≡ Some e → read_on (at + 1) e (more ∷ ls) ≡ Err n → IsRefusedAt n bytes)
          → goes o at (λ e. read_on (at + 1) e (more ∷ ls)) ≡ Err n → IsRefusedAt n bytes
      by None is later k =
          let clean_line = (and_parts (in_line line) (list_all in_line (more ∷ ls)) clean).0 in
          refused_here before at d reach room are number (line ++ 10 ∷ join (more ∷ ls)) whole (let e : at ≡ n = cc in e)
          (inr (line, join (more ∷ ls), clean_line, refl, stops_line before at d reach room are number line clean_line is))
      by (Some e) is later k = later e is k

not_ok : (n : ℕ) (bytes : List ℕ) → rounds_in bytes ≡ Err n → (rounds : List Round) → IsFile rounds bytes → ⊥
not_ok n bytes h rounds file = let bad : Err n ≡ Ok rounds = sym h ∙ file_found rounds bytes file in cc

pub refused_at : (n : ℕ) (bytes : List ℕ) → rounds_in bytes ≡ Err n → IsRefusedAt n bytes
refused_at n bytes h =
    refused_on bytes n (not_ok n bytes h) (pieces bytes) [] 1 start (λ rest. refl) (omega arith) refl refl (sym (join_with_byte-slice_split 10 bytes)) (pieces_clean bytes) (sym (rounds_is bytes) ∙ h)

pub one_list : (a b : List Round) (bytes : List ℕ) → IsFile a bytes → IsFile b bytes → a ≡ b
one_list a b bytes f g = let same : Ok a ≡ Ok b = sym (file_found a bytes f) ∙ file_found b bytes g in cc

-- what reading line by line answers, said by the grammar
pub says_from : (bytes : List ℕ) (r : Result Rounds RoundsError) → Reads (rounds_in bytes) r → Says bytes r
says_from bytes (Ok rounds) h = file_only rounds.list bytes h
says_from bytes (Err (error.At line)) h = refused_at line bytes h
says_from bytes (Err error.NoMemory) h = tt
