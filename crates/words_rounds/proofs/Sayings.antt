-- What each kind of line says.
use Rattle.std.proofs.Common.{◌≡◌, ◌∙◌, refl, sym, ap, subst, ℕ, ◌+◌, ◌/◌, ◌%◌, ◌^◌, List, [], ◌∷◌, ◌++◌, length, codes, true, false, Bool, not, cond, if◌then◌else◌, eqb, ltb, nat_lt, ◌&&◌, Some, None, Option, arith, inl, inr, ◌⊎◌}
use Rattle.std.specs.Prelude.{◌==◌, ◌||◌, nat_le}
use Rattle.std.specs.Char.{is_ascii_digit}
use Rattle.std.specs.Str.Parse.{digits_value}
use Rattle.std.proofs.lemmas.Bool.{and_from, and_parts, cond-true, cond-false, false≢true, eqb-true}
use Rattle.std.proofs.lemmas.List.Splits.{join_with_byte-slice_split, length-slice_split}
use Rattle.std.proofs.lemmas.Slice.Eq.{bytes_eq-Decides}
use Rattle.std.proofs.lemmas.Str.{IsUtf8-from_is_utf8}
use Rattle.std.specs.List.{list_all, flat_map}
use Rattle.std.specs.Option.{option_map, option_and_then, is_some}
use Rattle.std.specs.Str.{is_utf8, bytes_eq}
use Rattle.base_types.specs.Path.{Path, is_part, Spells}
use Rattle.base_spelling.specs.Numbers.{number_in, is_number, begins_with_zero}
use Rattle.base_spelling.specs.Read.{source_in}
use Rattle.base_spelling.specs.Spelling.{hex_digit, hex_byte, is_escaped, escape, escaped, quoted, in_hex, source}
use Rattle.base_spelling.proofs.Takes.{source_takes}
use Rattle.tree_files.specs.declared.edit.Edit.{Edit}
use Rattle.tree_files.specs.declared.edit.Edit.TheVariants as edits
use Rattle.words_rounds.specs.Lines.{behind, cut, parts, has_no_blank, named_in, path_in, file_at, dir_at, file_in, dir_in, remove_in, taken, edit_in, script_in, line_in}
use Rattle.words_rounds.specs.declared.line.Line.{Line}
use Rattle.words_rounds.specs.declared.line.Line.TheVariants as lines
use Rattle.words_rounds.proofs.Places.{named, read_is, has_parts}
use Rattle.words_rounds.specs.Grammar.{IsPlace, IsEdit, IsScript, in_line}
use Rattle.words_rounds.proofs.Cuts.{if_some, behind_front, behind_taken, cut_found, cut_taken, blank_before}

-- Paths.

pub place_found : (name : List ℕ) (path : Path) → IsPlace name path → path_in name ≡ Some path
place_found name path h = sym (named name h.blank h.text) ∙ sym (read_is name (Some path) h.names) ∙ sym (has_parts path (λ none. let short : length path ≡ 0 = ap length none in let few = h.some in omega arith))

path_parts : (name : List ℕ) (path : Path) → path_in name ≡ Some path → (is_utf8 name && has_no_blank name ≡ true) × (named_in name ≡ Some path)
unfolding path_in
path_parts name path h = if_some (is_utf8 name && has_no_blank name) (named_in name) path h

pub place_taken : (name : List ℕ) (path : Path) → in_line name ≡ true → path_in name ≡ Some path → IsPlace name path
place_taken name path line h =
    let front = path_parts name path h in
    let both = and_parts (is_utf8 name) (has_no_blank name) front.0 in
    let all = if_some (list_all is_part (parts name)) (Some (parts name)) path front.1 in
    let same : parts name ≡ path = let e : Some (parts name) ≡ Some path = all.1 in cc in
    let spells : Spells name (parts name) = (all.0, inl (sym (join_with_byte-slice_split 47 name))) in
    let many : length (parts name) ≡ length path = ap length same in
    let pieces = length-slice_split (λ b. eqb b 47) name in
    record {
      text = IsUtf8-from_is_utf8 name both.0;
      names = subst (λ p. Spells name p) same spells;
      some = omega (arith, many, pieces);
      blank = both.1;
      line = line;
    }

-- Lines, each by its first word.

round_line : line_in (codes "round") ≡ Some lines.Round
unfolding line_in
round_line = refl

script_line : (rest : List ℕ) → line_in (codes "script " ++ rest) ≡ script_in rest
unfolding line_in
script_line rest = ap (λ o. taken o script_in (option_map lines.Edit (edit_in (codes "script " ++ rest)))) (behind_front (codes "script ") rest)

edit_line : (line : List ℕ) → bytes_eq line (codes "round") ≡ false → behind (codes "script ") line ≡ None → line_in line ≡ option_map lines.Edit (edit_in line)
unfolding line_in
edit_line line other none = cond-false _ _ _ other ∙ ap (λ o. taken o script_in (option_map lines.Edit (edit_in line))) none

file_edit : (rest : List ℕ) → edit_in (codes "file " ++ rest) ≡ file_in rest
unfolding edit_in
file_edit rest = ap (λ o. taken o file_in (taken (behind (codes "dir ") (codes "file " ++ rest)) dir_in (taken (behind (codes "remove ") (codes "file " ++ rest)) remove_in None))) (behind_front (codes "file ") rest)

dir_edit : (rest : List ℕ) → edit_in (codes "dir " ++ rest) ≡ dir_in rest
unfolding edit_in
dir_edit rest = ap (λ o. taken o dir_in (taken (behind (codes "remove ") (codes "dir " ++ rest)) remove_in None)) (behind_front (codes "dir ") rest)

remove_edit : (rest : List ℕ) → edit_in (codes "remove " ++ rest) ≡ remove_in rest
unfolding edit_in
remove_edit rest = ap (λ o. taken o remove_in None) (behind_front (codes "remove ") rest)

-- What is spelled is read.

pub round_found : line_in (codes "round") ≡ Some lines.Round
round_found = round_line

pub script_found : (script line : List ℕ) → IsScript script line → line_in line ≡ Some (lines.Script script)
script_found script line (path, place, is) =
    ap line_in is ∙ script_line script ∙ cond-true _ _ _ (ap is_some (place_found script path place))

file_found : (name text : List ℕ) (path : Path) (bytes : List ℕ) → IsPlace name path → source_in text ≡ Some bytes → file_in (name ++ 32 ∷ text) ≡ Some (edits.File path bytes)
file_found name text path bytes place is =
    ap (option_and_then file_at) (cut_found name text place.blank)
    ∙ ap (option_and_then (λ path. option_map (λ bytes. edits.File path bytes) (source_in text))) (place_found name path place)
    ∙ ap (option_map (λ bytes. edits.File path bytes)) is

dir_found : (name text : List ℕ) (path : Path) (time : ℕ) → IsPlace name path → number_in text ≡ Some time → dir_in (name ++ 32 ∷ text) ≡ Some (edits.Dir path time)
dir_found name text path time place is =
    ap (option_and_then dir_at) (cut_found name text place.blank)
    ∙ ap (option_and_then (λ path. option_map (λ time. edits.Dir path time) (number_in text))) (place_found name path place)
    ∙ ap (option_map (λ time. edits.Dir path time)) is

pub edit_found : (edit : Edit) (line : List ℕ) → IsEdit edit line → line_in line ≡ Some (lines.Edit edit)
edit_found (edits.File path bytes) line (name, text, place, source, is) =
    ap line_in is ∙ edit_line (codes "file " ++ (name ++ 32 ∷ text)) refl refl ∙ ap (option_map lines.Edit) (file_edit (name ++ 32 ∷ text) ∙ file_found name text path bytes place source)
edit_found (edits.Dir path time) line (name, text, place, number, is) =
    ap line_in is ∙ edit_line (codes "dir " ++ (name ++ 32 ∷ text)) refl refl ∙ ap (option_map lines.Edit) (dir_edit (name ++ 32 ∷ text) ∙ dir_found name text path time place number)
edit_found (edits.Remove path) line (name, place, is) =
    ap line_in is ∙ edit_line (codes "remove " ++ name) refl refl ∙ ap (option_map lines.Edit) (remove_edit name ∙ ap (option_map edits.Remove) (place_found name path place))

-- What is read is spelled.

abbrev pub Means : Line → List ℕ → Type 0
Means lines.Round line = line ≡ codes "round"
Means (lines.Edit edit) line = IsEdit edit line
Means (lines.Script script) line = IsScript script line

map_some : {X Y : Type 0} (f : X → Y) (o : Option X) (y : Y) → option_map f o ≡ Some y → (x : X) × (o ≡ Some x) × (f x ≡ y)
map_some f None y h = cc
map_some f (Some x) y h = (x, refl, cc)

then_some : {X Y : Type 0} (f : X → Option Y) (o : Option X) (y : Y) → option_and_then f o ≡ Some y → (x : X) × (o ≡ Some x) × (f x ≡ Some y)
then_some f None y h = cc
then_some f (Some x) y h = (x, refl, h)

taken_some : {X : Type 0} (o : Option (List ℕ)) (f : List ℕ → Option X) (other : Option X) (x : X) → taken o f other ≡ Some x → ((rest : List ℕ) × (o ≡ Some rest) × (f rest ≡ Some x)) ⊎ (other ≡ Some x)
taken_some None f other x h = inr h
taken_some (Some rest) f other x h = inl (rest, refl, h)

file_taken : (line rest : List ℕ) (edit : Edit) → in_line line ≡ true → line ≡ codes "file " ++ rest → file_in rest ≡ Some edit → IsEdit edit line
file_taken line rest edit clean is h =
    let c = then_some file_at (cut rest) edit h in
    let name : List ℕ = c.0.0 in
    let text : List ℕ = c.0.1 in
    let p = then_some (λ path. option_map (λ bytes. edits.File path bytes) (source_in text)) (path_in name) edit c.2 in
    let b = map_some (λ bytes. edits.File p.0 bytes) (source_in text) edit p.2 in
    let whole : rest ≡ name ++ 32 ∷ text = cut_taken rest name text c.1 in
    let behind_word = (blank_before line (codes "file ") rest clean is).1 in
    let place : IsPlace name p.0 = place_taken name p.0 (blank_before rest name (32 ∷ text) behind_word whole).0 p.1 in
    subst (λ e. IsEdit e line) b.2 (name, text, place, b.1, is ∙ ap (λ r. codes "file " ++ r) whole)

dir_taken : (line rest : List ℕ) (edit : Edit) → in_line line ≡ true → line ≡ codes "dir " ++ rest → dir_in rest ≡ Some edit → IsEdit edit line
dir_taken line rest edit clean is h =
    let c = then_some dir_at (cut rest) edit h in
    let name : List ℕ = c.0.0 in
    let text : List ℕ = c.0.1 in
    let p = then_some (λ path. option_map (λ time. edits.Dir path time) (number_in text)) (path_in name) edit c.2 in
    let b = map_some (λ time. edits.Dir p.0 time) (number_in text) edit p.2 in
    let whole : rest ≡ name ++ 32 ∷ text = cut_taken rest name text c.1 in
    let behind_word = (blank_before line (codes "dir ") rest clean is).1 in
    let place : IsPlace name p.0 = place_taken name p.0 (blank_before rest name (32 ∷ text) behind_word whole).0 p.1 in
    subst (λ e. IsEdit e line) b.2 (name, text, place, b.1, is ∙ ap (λ r. codes "dir " ++ r) whole)

remove_taken : (line rest : List ℕ) (edit : Edit) → in_line line ≡ true → line ≡ codes "remove " ++ rest → remove_in rest ≡ Some edit → IsEdit edit line
remove_taken line rest edit clean is h =
    let p = map_some edits.Remove (path_in rest) edit h in
    let behind_word = (blank_before line (codes "remove ") rest clean is).1 in
    subst (λ e. IsEdit e line) p.2 (rest, place_taken rest p.0 behind_word p.1, is)

edit_taken : (line : List ℕ) (edit : Edit) → in_line line ≡ true → edit_in line ≡ Some edit → IsEdit edit line
unfolding edit_in
edit_taken line edit clean h =
    elim (taken_some (behind (codes "file ") line) file_in (taken (behind (codes "dir ") line) dir_in (taken (behind (codes "remove ") line) remove_in None)) edit h) [
      | inl (rest, at, is) ↦ file_taken line rest edit clean (behind_taken (codes "file ") line rest at) is
      | inr h ↦ elim (taken_some (behind (codes "dir ") line) dir_in (taken (behind (codes "remove ") line) remove_in None) edit h) [
        | inl (rest, at, is) ↦ dir_taken line rest edit clean (behind_taken (codes "dir ") line rest at) is
        | inr h ↦ elim (taken_some (behind (codes "remove ") line) remove_in None edit h) [
          | inl (rest, at, is) ↦ remove_taken line rest edit clean (behind_taken (codes "remove ") line rest at) is
          | inr none ↦ cc
        ]
      ]
    ]

script_taken : (line rest : List ℕ) (said : Line) → in_line line ≡ true → line ≡ codes "script " ++ rest → script_in rest ≡ Some said → Means said line
script_taken line rest said clean is h =
    let both = if_some (is_some (path_in rest)) (Some (lines.Script rest)) said h in
    let same : lines.Script rest ≡ said = let e : Some (lines.Script rest) ≡ Some said = both.1 in cc in
    let some = there (path_in rest) both.0 in
    let behind_word = (blank_before line (codes "script ") rest clean is).1 in
    subst (λ s. Means s line) same (some.0, place_taken rest some.0 behind_word some.1, is)
  where
    there : (o : Option Path) → is_some o ≡ true → (path : Path) × (o ≡ Some path)
    there None h = cc
    there (Some path) h = (path, refl)

pub line_taken : (line : List ℕ) (said : Line) → in_line line ≡ true → line_in line ≡ Some said → Means said line
unfolding line_in
line_taken line said clean h = by (bytes_eq line (codes "round")) refl h
  where
    other : taken (behind (codes "script ") line) script_in (option_map lines.Edit (edit_in line)) ≡ Some said → Means said line
    other h =
        elim (taken_some (behind (codes "script ") line) script_in (option_map lines.Edit (edit_in line)) said h) [
          | inl (rest, at, is) ↦ script_taken line rest said clean (behind_taken (codes "script ") line rest at) is
          | inr h ↦ let e = map_some lines.Edit (edit_in line) said h in subst (λ s. Means s line) e.2 (edit_taken line e.0 clean e.1)
        ]

    by : (c : Bool) → bytes_eq line (codes "round") ≡ c → cond c (Some lines.Round) (taken (behind (codes "script ") line) script_in (option_map lines.Edit (edit_in line))) ≡ Some said → Means said line
    by true p e = let same : lines.Round ≡ said = cc in subst (λ s. Means s line) same ((bytes_eq-Decides line (codes "round")).0 p)
    by false p e = other e

-- Lines have no LF within them.

pub word_line : (front rest : List ℕ) → in_line front ≡ true → in_line rest ≡ true → in_line (front ++ rest) ≡ true
word_line [] rest h k = k
word_line (b ∷ front) rest h k = let both = and_parts (not (eqb b 10)) (in_line front) h in and_from (not (eqb b 10)) (in_line (front ++ rest)) both.0 (word_line front rest both.1 k)

not_end : (b : ℕ) → (b ≡ 10 → ⊥) → not (eqb b 10) ≡ true
not_end b h = elim (eqb b 10) as (λ c. eqb b 10 ≡ c → not c ≡ true) [ true ↦ λ p. absurd (h (eqb-true b 10 p)) | false ↦ λ _. refl ] refl

hex_line : (n : ℕ) → not (eqb (hex_digit n) 10) ≡ true
hex_line n = not_end (hex_digit n) (elim (ltb n 10) as (λ c. (if c then 48 + n else 87 + n) ≡ 10 → ⊥) [ true ↦ λ p. omega arith | false ↦ λ p. omega arith ])

hex_lines : (b : ℕ) → in_line (hex_byte b) ≡ true
hex_lines b = and_from (not (eqb (hex_digit (b / 16)) 10)) (in_line (hex_digit (b % 16) ∷ [])) (hex_line (b / 16)) (and_from (not (eqb (hex_digit (b % 16)) 10)) true (hex_line (b % 16)) refl)

flat_line : (f : ℕ → List ℕ) → ((b : ℕ) → in_line (f b) ≡ true) → (bytes : List ℕ) → in_line (flat_map f bytes) ≡ true
flat_line f h [] = refl
flat_line f h (b ∷ bytes) = word_line (f b) (flat_map f bytes) (h b) (flat_line f h bytes)

escape_line : (b : ℕ) → in_line (escape b) ≡ true
escape_line b =
    elim (b == 92 || b == 34) as (λ c. b == 92 || b == 34 ≡ c → in_line (if c then 92 ∷ b ∷ [] else if b == 10 then codes "\\n" else if b == 13 then codes "\\r" else if b == 9 then codes "\\t" else codes "\\x" ++ hex_byte b) ≡ true) [
      | true ↦ λ p. and_from (not (eqb b 10)) true (not_end b (λ ten. let bad : false ≡ true = subst (λ z. z == 92 || z == 34 ≡ true) ten p in absurd (false≢true bad))) refl
      | false ↦ λ _. elim (b == 10) as (λ c. in_line (if c then codes "\\n" else if b == 13 then codes "\\r" else if b == 9 then codes "\\t" else codes "\\x" ++ hex_byte b) ≡ true) [
        | true ↦ refl
        | false ↦ elim (b == 13) as (λ c. in_line (if c then codes "\\r" else if b == 9 then codes "\\t" else codes "\\x" ++ hex_byte b) ≡ true) [
          | true ↦ refl
          | false ↦ elim (b == 9) as (λ c. in_line (if c then codes "\\t" else codes "\\x" ++ hex_byte b) ≡ true) [
            | true ↦ refl
            | false ↦ hex_lines b
          ]
        ]
      ]
    ] refl

escaped_line : (b : ℕ) → in_line (escaped b) ≡ true
escaped_line b =
    elim (is_escaped b) as (λ c. is_escaped b ≡ c → in_line (if c then escape b else b ∷ []) ≡ true) [
      | true ↦ λ _. escape_line b
      | false ↦ λ p. and_from (not (eqb b 10)) true (not_end b (λ ten. let bad : true ≡ false = subst (λ z. is_escaped z ≡ false) ten p in absurd (false≢true (sym bad)))) refl
    ] refl

source_line : (bytes : List ℕ) → in_line (source bytes) ≡ true
source_line bytes =
    elim (is_utf8 bytes) as (λ c. in_line (if c then quoted bytes else in_hex bytes) ≡ true) [
      | true ↦ word_line (34 ∷ flat_map escaped bytes) (34 ∷ []) (flat_line escaped escaped_line bytes) refl
      | false ↦ word_line (codes "hex(" ++ flat_map hex_byte bytes) (codes ")") (flat_line hex_byte hex_lines bytes) refl
    ]

text_line : (text bytes : List ℕ) → source_in text ≡ Some bytes → in_line text ≡ true
text_line text bytes h = ap in_line (source_takes text bytes h) ∙ source_line bytes

digits_line : (text : List ℕ) → list_all is_ascii_digit text ≡ true → in_line text ≡ true
digits_line [] h = refl
digits_line (d ∷ text) h =
    let both = and_parts (is_ascii_digit d) (list_all is_ascii_digit text) h in
    and_from (not (eqb d 10)) (in_line text) (not_end d (λ ten. let bad : false ≡ true = subst (λ z. is_ascii_digit z ≡ true) ten both.0 in absurd (false≢true bad))) (digits_line text both.1)

number_line : (text : List ℕ) (n : ℕ) → number_in text ≡ Some n → in_line text ≡ true
unfolding number_in
number_line text n h =
    let c = if_some (is_number text && nat_lt (digits_value 10 text) (2 ^ 64)) (Some (digits_value 10 text)) n h in
    let number = (and_parts (is_number text) (nat_lt (digits_value 10 text) (2 ^ 64)) c.0).0 in
    digits_line text (and_parts (list_all is_ascii_digit text) (nat_le 1 (length text) && (nat_le (length text) 1 || not (begins_with_zero text))) number).0

pub script_clean : (script line : List ℕ) → IsScript script line → in_line line ≡ true
script_clean script line (path, place, is) = ap in_line is ∙ place.line

pub edit_clean : (edit : Edit) (line : List ℕ) → IsEdit edit line → in_line line ≡ true
edit_clean (edits.File path bytes) line (name, text, place, source, is) = ap in_line is ∙ word_line name (32 ∷ text) place.line (text_line text bytes source)
edit_clean (edits.Dir path time) line (name, text, place, number, is) = ap in_line is ∙ word_line name (32 ∷ text) place.line (number_line text time number)
edit_clean (edits.Remove path) line (name, place, is) = ap in_line is ∙ place.line
