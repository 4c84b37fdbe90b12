-- What is read is spelled by the grammar.
use Rattle.std.proofs.Common.{◌≡◌, ◌∙◌, refl, sym, ap, subst, ℕ, ◌+◌, ◌<◌, ◌≤◌, List, [], ◌∷◌, ◌++◌, length, codes, true, false, Bool, nat_lt, cond, Some, None, Option, Ok, Result, arith}
use Rattle.std.proofs.lemmas.Bool.{and_parts, ltb-true}
use Rattle.std.proofs.lemmas.List.{append-nil, append_assoc}
use Rattle.std.proofs.lemmas.List.Splits.{join_with_byte-slice_split}
use Rattle.std.proofs.lemmas.Slice.Eq.{bytes_eq-Decides}
use Rattle.std.specs.List.{list_all, join_with_byte}
use Rattle.std.specs.Option.{option_and_then}
use Rattle.std.specs.Str.{bytes_eq}
use Rattle.tree_files.specs.declared.edit.Edit.{Edit}
use Rattle.words_rounds.specs.declared.draft.Draft.{Draft}
use Rattle.words_rounds.specs.declared.draft.Stage.TheVariants as stages
use Rattle.words_rounds.specs.declared.line.Line.{Line}
use Rattle.words_rounds.specs.declared.line.Line.TheVariants as lines
use Rattle.words_rounds.specs.declared.rounds.Round.{Round}
use Rattle.words_rounds.specs.Spelling.{first_line}
use Rattle.words_rounds.specs.Lines.{line_in}
use Rattle.words_rounds.specs.Reading.{start, further, goes, read_on, rounds_in, pieces}
use Rattle.words_rounds.specs.Grammar.{in_line, IsEdit, IsScript, OnLines, AreRounds, scripts_in, IsFile}
use Rattle.words_rounds.proofs.Cuts.{pieces_clean}
use Rattle.words_rounds.proofs.Sayings.{line_taken}
use Rattle.words_rounds.proofs.Going.{edits_draft, scripts_draft}
use Rattle.words_rounds.proofs.Found.{rounds_draft}

-- what a text spells where a round has no script yet
record EditsTail (done : List Round) (edits : List Edit) (count : ℕ) (text : List ℕ) (rounds : List Round) : Type 0 where
  more : List Edit
  scripts : List (List ℕ)
  others : List Round
  a : List ℕ
  b : List ℕ
  c : List ℕ
  are_edits : OnLines IsEdit more a
  are_scripts : OnLines IsScript scripts b
  are_rounds : AreRounds others c
  some : 1 ≤ length scripts
  few : count + length scripts + scripts_in others ≤ 16
  whole : text ≡ a ++ (b ++ c)
  is : rounds ≡ done ++ record { edits = edits ++ more; scripts = scripts } ∷ others

-- and where it has one
record ScriptsTail (done : List Round) (edits : List Edit) (scripts : List (List ℕ)) (count : ℕ) (text : List ℕ) (rounds : List Round) : Type 0 where
  more : List (List ℕ)
  others : List Round
  b : List ℕ
  c : List ℕ
  are_scripts : OnLines IsScript more b
  are_rounds : AreRounds others c
  few : count + length more + scripts_in others ≤ 16
  whole : text ≡ b ++ c
  is : rounds ≡ done ++ record { edits = edits; scripts = scripts ++ more } ∷ others

-- the same with a line more in front
edit_more : (done : List Round) (edits : List Edit) (count : ℕ) (edit : Edit) (line text : List ℕ) (rounds : List Round) → IsEdit edit line
    → EditsTail done (edits ++ edit ∷ []) count text rounds → EditsTail done edits count (line ++ 10 ∷ text) rounds
edit_more done edits count edit line text rounds is t = record {
  more = edit ∷ t.more;
  scripts = t.scripts;
  others = t.others;
  a = line ++ 10 ∷ t.a;
  b = t.b;
  c = t.c;
  are_edits = (line, t.a, is, t.are_edits, refl);
  are_scripts = t.are_scripts;
  are_rounds = t.are_rounds;
  some = t.some;
  few = t.few;
  whole = ap (λ z. line ++ 10 ∷ z) t.whole ∙ sym (append_assoc line (10 ∷ t.a) (t.b ++ t.c));
  is = t.is ∙ ap (λ es. done ++ record { edits = es; scripts = t.scripts } ∷ t.others) (append_assoc edits (edit ∷ []) t.more);
}

script_first : (done : List Round) (edits : List Edit) (count : ℕ) (script line text : List ℕ) (rounds : List Round) → IsScript script line
    → ScriptsTail done edits (script ∷ []) (count + 1) text rounds → EditsTail done edits count (line ++ 10 ∷ text) rounds
script_first done edits count script line text rounds is t = record {
  more = [];
  scripts = script ∷ t.more;
  others = t.others;
  a = [];
  b = line ++ 10 ∷ t.b;
  c = t.c;
  are_edits = refl;
  are_scripts = (line, t.b, is, t.are_scripts, refl);
  are_rounds = t.are_rounds;
  some = omega arith;
  few = let few = t.few in omega arith;
  whole = ap (λ z. line ++ 10 ∷ z) t.whole ∙ sym (append_assoc line (10 ∷ t.b) t.c);
  is = t.is ∙ ap (λ es. done ++ record { edits = es; scripts = script ∷ t.more } ∷ t.others) (sym (append-nil edits));
}

script_more : (done : List Round) (edits : List Edit) (scripts : List (List ℕ)) (count : ℕ) (script line text : List ℕ) (rounds : List Round) → IsScript script line
    → ScriptsTail done edits (scripts ++ script ∷ []) (count + 1) text rounds → ScriptsTail done edits scripts count (line ++ 10 ∷ text) rounds
script_more done edits scripts count script line text rounds is t = record {
  more = script ∷ t.more;
  others = t.others;
  b = line ++ 10 ∷ t.b;
  c = t.c;
  are_scripts = (line, t.b, is, t.are_scripts, refl);
  are_rounds = t.are_rounds;
  few = let few = t.few in omega arith;
  whole = ap (λ z. line ++ 10 ∷ z) t.whole ∙ sym (append_assoc line (10 ∷ t.b) t.c);
  is = t.is ∙ ap (λ ss. done ++ record { edits = edits; scripts = ss } ∷ t.others) (append_assoc scripts (script ∷ []) t.more);
}

round_more : (done : List Round) (edits : List Edit) (scripts : List (List ℕ)) (count : ℕ) (line text : List ℕ) (rounds : List Round) → line ≡ codes "round"
    → EditsTail (done ++ record { edits = edits; scripts = scripts } ∷ []) [] count text rounds → ScriptsTail done edits scripts count (line ++ 10 ∷ text) rounds
round_more done edits scripts count line text rounds is t =
    let round : Round = record { edits = t.more; scripts = t.scripts } in
    let first : List ℕ = codes "round" ++ 10 ∷ (t.a ++ t.b) in
    let so_far : Round = record { edits = edits; scripts = scripts } in
    record {
      more = [];
      others = round ∷ t.others;
      b = [];
      c = line ++ 10 ∷ text;
      are_scripts = refl;
      are_rounds = (
        first,
        t.c,
        record { edits = t.a; scripts = t.b; are_edits = t.are_edits; are_scripts = t.are_scripts; some = t.some; whole = refl },
        t.are_rounds,
        ap (λ l. l ++ 10 ∷ text) is ∙ ap (λ z. codes "round" ++ 10 ∷ z) (t.whole ∙ sym (append_assoc t.a t.b t.c)),
      );
      few = let few = t.few in omega arith;
      whole = refl;
      is =
          t.is ∙ append_assoc done (so_far ∷ []) (round ∷ t.others)
          ∙ ap (λ ss. done ++ record { edits = edits; scripts = ss } ∷ round ∷ t.others) (sym (append-nil scripts));
    }

-- One line at a time.

abbrev join : List (List ℕ) → List ℕ
join ls = join_with_byte 10 ls

abbrev OnEdits : List (List ℕ) → Type 0
OnEdits ls = (at count : ℕ) (done : List Round) (edits : List Edit) (rounds : List Round) → count ≤ 16 → read_on at (edits_draft done edits count) ls ≡ Ok rounds → EditsTail done edits count (join ls) rounds

abbrev OnScripts : List (List ℕ) → Type 0
OnScripts ls = (at count : ℕ) (done : List Round) (edits : List Edit) (scripts : List (List ℕ)) (rounds : List Round) → count ≤ 16 → read_on at (scripts_draft done edits scripts count) ls ≡ Ok rounds → ScriptsTail done edits scripts count (join ls) rounds

-- a draft that is there only below a bound
below : (count at : ℕ) (e : Draft) (then_ : Draft → Result (List Round) ℕ) (rounds : List Round) → goes (cond (nat_lt count 16) (Some e) None) at then_ ≡ Ok rounds → (count < 16) × (then_ e ≡ Ok rounds)
below count at e then_ rounds h = by (nat_lt count 16) refl h
  where
    by : (c : Bool) → nat_lt count 16 ≡ c → goes (cond c (Some e) None) at then_ ≡ Ok rounds → (count < 16) × (then_ e ≡ Ok rounds)
    by true p k = (ltb-true count 16 p, k)
    by false p k = cc

module _ (line more : List ℕ) (ls : List (List ℕ)) (clean : in_line line ≡ true) (later : OnEdits (more ∷ ls) × OnScripts (more ∷ ls)) where
  abbrev rest : List ℕ
  rest = join (more ∷ ls)

  on_edits : OnEdits (line ∷ more ∷ ls)
  on_edits at count done edits rounds few h = by (line_in line) refl h
    where
      here : Draft
      here = edits_draft done edits count

      by : (o : Option Line) → line_in line ≡ o → goes (option_and_then (λ l. further stages.Edits l (edits_draft done edits count)) o) at (λ e. read_on (at + 1) e (more ∷ ls)) ≡ Ok rounds → EditsTail done edits count (line ++ 10 ∷ rest) rounds
      by None is k = cc
      by (Some lines.Round) is k = cc
      by (Some (lines.Edit edit)) is k = edit_more done edits count edit line rest rounds (line_taken line (lines.Edit edit) clean is) (later.0 (at + 1) count done (edits ++ edit ∷ []) rounds few k)
      by (Some (lines.Script script)) is k =
          let low = below count at (scripts_draft done edits (script ∷ []) (count + 1)) (λ e. read_on (at + 1) e (more ∷ ls)) rounds k in
          script_first done edits count script line rest rounds (line_taken line (lines.Script script) clean is) (later.1 (at + 1) (count + 1) done edits (script ∷ []) rounds (omega (arith, low.0)) low.1)

  on_scripts : OnScripts (line ∷ more ∷ ls)
  on_scripts at count done edits scripts rounds few h = by (line_in line) refl h
    where
      by : (o : Option Line) → line_in line ≡ o → goes (option_and_then (λ l. further stages.Scripts l (scripts_draft done edits scripts count)) o) at (λ e. read_on (at + 1) e (more ∷ ls)) ≡ Ok rounds → ScriptsTail done edits scripts count (line ++ 10 ∷ rest) rounds
      by None is k = cc
      by (Some lines.Round) is k =
          let low = below count at (edits_draft (done ++ record { edits = edits; scripts = scripts } ∷ []) [] count) (λ e. read_on (at + 1) e (more ∷ ls)) rounds k in
          round_more done edits scripts count line rest rounds (line_taken line lines.Round clean is) (later.0 (at + 1) count (done ++ record { edits = edits; scripts = scripts } ∷ []) [] rounds few low.1)
      by (Some (lines.Edit edit)) is k = cc
      by (Some (lines.Script script)) is k =
          let low = below count at (scripts_draft done edits (scripts ++ script ∷ []) (count + 1)) (λ e. read_on (at + 1) e (more ∷ ls)) rounds k in
          script_more done edits scripts count script line rest rounds (line_taken line (lines.Script script) clean is) (later.1 (at + 1) (count + 1) done edits (scripts ++ script ∷ []) rounds (omega (arith, low.0)) low.1)

last_edits : (line : List ℕ) → OnEdits (line ∷ [])
last_edits [] at count done edits rounds few h = cc
last_edits (b ∷ line) at count done edits rounds few h = cc

last_scripts : (line : List ℕ) → OnScripts (line ∷ [])
last_scripts (b ∷ line) at count done edits scripts rounds few h = cc
last_scripts [] at count done edits scripts rounds few h =
    let same : done ++ record { edits = edits; scripts = scripts } ∷ [] ≡ rounds = cc in
    record {
      more = [];
      others = [];
      b = [];
      c = [];
      are_scripts = refl;
      are_rounds = refl;
      few = omega arith;
      whole = refl;
      is = sym same ∙ ap (λ ss. done ++ record { edits = edits; scripts = ss } ∷ []) (sym (append-nil scripts));
    }

on_lines : (ls : List (List ℕ)) → list_all in_line ls ≡ true → OnEdits ls × OnScripts ls
on_lines [] clean = (λ at count done edits rounds few h. cc, λ at count done edits scripts rounds few h. cc)
on_lines (line ∷ []) clean = (last_edits line, last_scripts line)
on_lines (line ∷ more ∷ ls) clean =
    let both = and_parts (in_line line) (list_all in_line (more ∷ ls)) clean in
    let later = on_lines (more ∷ ls) both.1 in
    (on_edits line more ls both.0 later, on_scripts line more ls both.0 later)

-- The first two lines.

on_rounds : (ls : List (List ℕ)) → list_all in_line ls ≡ true → (at : ℕ) (rounds : List Round) → read_on at rounds_draft ls ≡ Ok rounds
    → (text : List ℕ) × (join ls ≡ codes "round" ++ 10 ∷ text) × EditsTail [] [] 0 text rounds
on_rounds [] clean at rounds h = cc
on_rounds ([] ∷ []) clean at rounds h = cc
on_rounds ((b ∷ line) ∷ []) clean at rounds h = cc
on_rounds (line ∷ more ∷ ls) clean at rounds h = by (line_in line) refl h
  where
    both : (in_line line ≡ true) × (list_all in_line (more ∷ ls) ≡ true)
    both = and_parts (in_line line) (list_all in_line (more ∷ ls)) clean

    by : (o : Option Line) → line_in line ≡ o → goes (option_and_then (λ l. further stages.Rounds l rounds_draft) o) at (λ e. read_on (at + 1) e (more ∷ ls)) ≡ Ok rounds
        → (text : List ℕ) × (join (line ∷ more ∷ ls) ≡ codes "round" ++ 10 ∷ text) × EditsTail [] [] 0 text rounds
    by None is k = cc
    by (Some lines.Round) is k = (join (more ∷ ls), ap (λ l. l ++ 10 ∷ join (more ∷ ls)) (line_taken line lines.Round both.0 is), (on_lines (more ∷ ls) both.1).0 (at + 1) 0 [] [] rounds (omega arith) k)
    by (Some (lines.Edit edit)) is k = cc
    by (Some (lines.Script script)) is k = cc

file_of : (rounds : List Round) (bytes text more : List ℕ) → bytes ≡ first_line ++ 10 ∷ text → text ≡ codes "round" ++ 10 ∷ more → EditsTail [] [] 0 more rounds → IsFile rounds bytes
file_of rounds bytes text more whole begins t =
    let round : Round = record { edits = t.more; scripts = t.scripts } in
    let is : rounds ≡ round ∷ t.others = t.is in
    subst (λ rs. IsFile rs bytes) (sym is) (record {
      text = text;
      are_rounds = (
        codes "round" ++ 10 ∷ (t.a ++ t.b),
        t.c,
        record { edits = t.a; scripts = t.b; are_edits = t.are_edits; are_scripts = t.are_scripts; some = t.some; whole = refl },
        t.are_rounds,
        begins ∙ ap (λ z. codes "round" ++ 10 ∷ z) (t.whole ∙ sym (append_assoc t.a t.b t.c)),
      );
      some = omega arith;
      few = let few = t.few in omega arith;
      whole = whole;
    })

on_first : (ls : List (List ℕ)) → list_all in_line ls ≡ true → (rounds : List Round) → read_on 1 start ls ≡ Ok rounds → IsFile rounds (join ls)
on_first [] clean rounds h = cc
on_first ([] ∷ []) clean rounds h = cc
on_first ((b ∷ line) ∷ []) clean rounds h = cc
on_first (line ∷ more ∷ ls) clean rounds h = by (bytes_eq line first_line) refl h
  where
    by : (c : Bool) → bytes_eq line first_line ≡ c → goes (cond c (Some rounds_draft) None) 1 (λ e. read_on 2 e (more ∷ ls)) ≡ Ok rounds → IsFile rounds (join (line ∷ more ∷ ls))
    by false p k = cc
    by true p k =
        let both = and_parts (in_line line) (list_all in_line (more ∷ ls)) clean in
        let is : line ≡ first_line = (bytes_eq-Decides line first_line).0 p in
        let t = on_rounds (more ∷ ls) both.1 2 rounds k in
        file_of rounds (join (line ∷ more ∷ ls)) (join (more ∷ ls)) t.0 (ap (λ l. l ++ 10 ∷ join (more ∷ ls)) is) t.1 t.2

pub file_only : (rounds : List Round) (bytes : List ℕ) → rounds_in bytes ≡ Ok rounds → IsFile rounds bytes
unfolding rounds_in
file_only rounds bytes h = subst (λ t. IsFile rounds t) (join_with_byte-slice_split 10 bytes) (on_first (pieces bytes) (pieces_clean bytes) rounds h)
