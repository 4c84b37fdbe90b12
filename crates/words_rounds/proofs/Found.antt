-- What the grammar spells is read.
use Rattle.std.proofs.Common.{◌≡◌, ◌∙◌, refl, sym, ap, subst, ℕ, ◌+◌, ◌<◌, ◌≤◌, List, [], ◌∷◌, ◌++◌, length, codes, Ok, arith}
use Rattle.std.proofs.lemmas.Bool.{cond-true, lt-ltb}
use Rattle.std.proofs.lemmas.List.{append-nil, append_assoc}
use Rattle.std.specs.Option.{option_and_then}
use Rattle.tree_files.specs.declared.edit.Edit.{Edit}
use Rattle.words_rounds.specs.declared.draft.Draft.{Draft}
use Rattle.words_rounds.specs.declared.draft.Stage.TheVariants as stages
use Rattle.words_rounds.specs.declared.rounds.Round.{Round}
use Rattle.words_rounds.specs.Spelling.{first_line}
use Rattle.words_rounds.specs.Reading.{start, further, read_on, rounds_in, pieces}
use Rattle.words_rounds.specs.Grammar.{IsEdit, IsScript, OnLines, AreRounds, scripts_in, IsFile}
use Rattle.words_rounds.proofs.Sayings.{round_found, script_found, edit_found, script_clean, edit_clean}
use Rattle.words_rounds.proofs.Going.{Goes, goes_refl, goes_then, goes_line, goes_text, edits_draft, scripts_draft}

-- a text of one line more, and what stands behind it
behind_line : (text line more rest : List ℕ) → text ≡ line ++ 10 ∷ more → text ++ rest ≡ line ++ 10 ∷ (more ++ rest)
behind_line text line more rest is = ap (λ t. t ++ rest) is ∙ append_assoc line (10 ∷ more) rest

-- the first script of a round, and the others
first_script : (done : List Round) (edits : List Edit) (count : ℕ) (script line rest : List ℕ) → IsScript script line → count < 16 → Goes (edits_draft done edits count) (line ++ 10 ∷ rest) (scripts_draft done edits (script ∷ []) (count + 1)) rest
first_script done edits count script line rest is few =
    goes_line (edits_draft done edits count) (scripts_draft done edits (script ∷ []) (count + 1)) line rest (script_clean script line is)
    (ap (option_and_then (λ l. further stages.Edits l (edits_draft done edits count))) (script_found script line is) ∙ cond-true _ _ _ (lt-ltb count 16 few))

next_script : (done : List Round) (edits : List Edit) (scripts : List (List ℕ)) (count : ℕ) (script line rest : List ℕ) → IsScript script line → count < 16
    → Goes (scripts_draft done edits scripts count) (line ++ 10 ∷ rest) (scripts_draft done edits (scripts ++ script ∷ []) (count + 1)) rest
next_script done edits scripts count script line rest is few =
    goes_line (scripts_draft done edits scripts count) (scripts_draft done edits (scripts ++ script ∷ []) (count + 1)) line rest (script_clean script line is)
    (ap (option_and_then (λ l. further stages.Scripts l (scripts_draft done edits scripts count))) (script_found script line is) ∙ cond-true _ _ _ (lt-ltb count 16 few))

found_scripts : (done : List Round) (edits : List Edit) (scripts : List (List ℕ)) (count : ℕ) (more : List (List ℕ)) (text rest : List ℕ) → OnLines IsScript more text → count + length more ≤ 16
    → Goes (scripts_draft done edits scripts count) (text ++ rest) (scripts_draft done edits (scripts ++ more) (count + length more)) rest
found_scripts done edits scripts count [] text rest are few =
    let here : Draft = scripts_draft done edits scripts count in
    let same : count ≡ count + length {A = List ℕ} [] = omega arith in
    subst (λ n. Goes here (text ++ rest) (scripts_draft done edits (scripts ++ []) n) rest) same
    (subst (λ s. Goes here (text ++ rest) (scripts_draft done edits s count) rest) (sym (append-nil scripts))
    (goes_text here here (text ++ rest) rest rest (ap (λ t. t ++ rest) are) (goes_refl here rest)))
found_scripts done edits scripts count (script ∷ more) text rest (line, others, is, are, whole) few =
    let here : Draft = scripts_draft done edits scripts count in
    let middle : Draft = scripts_draft done edits (scripts ++ script ∷ []) (count + 1) in
    let last : Draft = scripts_draft done edits ((scripts ++ script ∷ []) ++ more) (count + 1 + length more) in
    let long : count + 1 + length more ≡ count + length (script ∷ more) = omega arith in
    subst (λ n. Goes here (text ++ rest) (scripts_draft done edits (scripts ++ script ∷ more) n) rest) long
    (subst (λ s. Goes here (text ++ rest) (scripts_draft done edits s (count + 1 + length more)) rest) (append_assoc scripts (script ∷ []) more)
    (goes_text here last (text ++ rest) (line ++ 10 ∷ (others ++ rest)) rest (behind_line text line others rest whole)
    (goes_then here middle last (line ++ 10 ∷ (others ++ rest)) (others ++ rest) rest
    (next_script done edits scripts count script line (others ++ rest) is (omega arith))
    (found_scripts done edits (scripts ++ script ∷ []) (count + 1) more others rest are (omega arith)))))

next_edit : (done : List Round) (edits : List Edit) (count : ℕ) (edit : Edit) (line rest : List ℕ) → IsEdit edit line → Goes (edits_draft done edits count) (line ++ 10 ∷ rest) (edits_draft done (edits ++ edit ∷ []) count) rest
next_edit done edits count edit line rest is =
    goes_line (edits_draft done edits count) (edits_draft done (edits ++ edit ∷ []) count) line rest (edit_clean edit line is)
    (ap (option_and_then (λ l. further stages.Edits l (edits_draft done edits count))) (edit_found edit line is))

found_edits : (done : List Round) (edits : List Edit) (count : ℕ) (more : List Edit) (text rest : List ℕ) → OnLines IsEdit more text → Goes (edits_draft done edits count) (text ++ rest) (edits_draft done (edits ++ more) count) rest
found_edits done edits count [] text rest are =
    subst (λ es. Goes (edits_draft done edits count) (text ++ rest) (edits_draft done es count) rest) (sym (append-nil edits))
    (goes_text (edits_draft done edits count) (edits_draft done edits count) (text ++ rest) rest rest (ap (λ t. t ++ rest) are) (goes_refl (edits_draft done edits count) rest))
found_edits done edits count (edit ∷ more) text rest (line, others, is, are, whole) =
    let here : Draft = edits_draft done edits count in
    let middle : Draft = edits_draft done (edits ++ edit ∷ []) count in
    let last : Draft = edits_draft done ((edits ++ edit ∷ []) ++ more) count in
    subst (λ es. Goes here (text ++ rest) (edits_draft done es count) rest) (append_assoc edits (edit ∷ []) more)
    (goes_text here last (text ++ rest) (line ++ 10 ∷ (others ++ rest)) rest (behind_line text line others rest whole)
    (goes_then here middle last (line ++ 10 ∷ (others ++ rest)) (others ++ rest) rest
    (next_edit done edits count edit line (others ++ rest) is)
    (found_edits done (edits ++ edit ∷ []) count more others rest are)))

-- the scripts of a round that has at least one
found_all_scripts : (done : List Round) (edits : List Edit) (count : ℕ) (scripts : List (List ℕ)) (text rest : List ℕ) → OnLines IsScript scripts text → 1 ≤ length scripts → count + length scripts ≤ 16
    → Goes (edits_draft done edits count) (text ++ rest) (scripts_draft done edits scripts (count + length scripts)) rest
found_all_scripts done edits count [] text rest are some few = absurd (omega arith)
found_all_scripts done edits count (script ∷ more) text rest (line, others, is, are, whole) some few =
    let here : Draft = edits_draft done edits count in
    let middle : Draft = scripts_draft done edits (script ∷ []) (count + 1) in
    let last : Draft = scripts_draft done edits (script ∷ more) (count + 1 + length more) in
    let long : count + 1 + length more ≡ count + length (script ∷ more) = omega arith in
    subst (λ n. Goes here (text ++ rest) (scripts_draft done edits (script ∷ more) n) rest) long
    (goes_text here last (text ++ rest) (line ++ 10 ∷ (others ++ rest)) rest (behind_line text line others rest whole)
    (goes_then here middle last (line ++ 10 ∷ (others ++ rest)) (others ++ rest) rest
    (first_script done edits count script line (others ++ rest) is (omega arith))
    (found_scripts done edits (script ∷ []) (count + 1) more others rest are (omega arith))))

-- a round, from behind its first line
found_round : (done : List Round) (count : ℕ) (round : Round) (edits scripts rest : List ℕ) → OnLines IsEdit round.edits edits → OnLines IsScript round.scripts scripts → 1 ≤ length round.scripts → count + length round.scripts ≤ 16
    → Goes (edits_draft done [] count) ((edits ++ scripts) ++ rest) (scripts_draft done round.edits round.scripts (count + length round.scripts)) rest
found_round done count round edits scripts rest es ss some few =
    let here : Draft = edits_draft done [] count in
    let middle : Draft = edits_draft done round.edits count in
    let last : Draft = scripts_draft done round.edits round.scripts (count + length round.scripts) in
    goes_text here last ((edits ++ scripts) ++ rest) (edits ++ (scripts ++ rest)) rest (append_assoc edits scripts rest)
    (goes_then here middle last (edits ++ (scripts ++ rest)) (scripts ++ rest) rest
    (found_edits done [] count round.edits edits (scripts ++ rest) es)
    (found_all_scripts done round.edits count round.scripts scripts rest ss some few))

-- the line that begins a further round
next_round : (done : List Round) (edits : List Edit) (scripts : List (List ℕ)) (count : ℕ) (rest : List ℕ) → count < 16
    → Goes (scripts_draft done edits scripts count) (codes "round" ++ 10 ∷ rest) (edits_draft (done ++ record { edits = edits; scripts = scripts } ∷ []) [] count) rest
next_round done edits scripts count rest few =
    let here : Draft = scripts_draft done edits scripts count in
    goes_line here (edits_draft (done ++ record { edits = edits; scripts = scripts } ∷ []) [] count) (codes "round") rest refl
    (ap (option_and_then (λ l. further stages.Scripts l here)) round_found ∙ cond-true _ _ _ (lt-ltb count 16 few))

round_text : (text first more rest : List ℕ) → text ≡ first ++ rest → first ≡ codes "round" ++ 10 ∷ more → text ≡ codes "round" ++ 10 ∷ (more ++ rest)
round_text text first more rest is whole = is ∙ ap (λ t. t ++ rest) whole

found_rounds : (rounds done : List Round) (edits : List Edit) (scripts : List (List ℕ)) (count : ℕ) (text : List ℕ) → AreRounds rounds text → count + scripts_in rounds ≤ 16
    → (at : ℕ) → read_on at (scripts_draft done edits scripts count) (pieces text) ≡ Ok (done ++ record { edits = edits; scripts = scripts } ∷ rounds)
found_rounds [] done edits scripts count text are few at = ap (λ t. read_on at (scripts_draft done edits scripts count) (pieces t)) are
found_rounds (round ∷ rounds) done edits scripts count text (first, rest, is, are, whole) few at =
    let so_far : Round = record { edits = edits; scripts = scripts } in
    let here : Draft = scripts_draft done edits scripts count in
    let middle : Draft = edits_draft (done ++ so_far ∷ []) [] count in
    let last : Draft = scripts_draft (done ++ so_far ∷ []) round.edits round.scripts (count + length round.scripts) in
    let some = is.some in
    let body : List ℕ = is.edits ++ is.scripts in
    let goes : Goes here text last rest =
    goes_text here last text (codes "round" ++ 10 ∷ (body ++ rest)) rest (round_text text first body rest whole is.whole)
    (goes_then here middle last (codes "round" ++ 10 ∷ (body ++ rest)) (body ++ rest) rest
    (next_round done edits scripts count (body ++ rest) (omega (arith, some)))
    (found_round (done ++ so_far ∷ []) count round is.edits is.scripts rest is.are_edits is.are_scripts some (omega arith)))
    in
    let there = goes at in
    there.1 ∙ found_rounds rounds (done ++ so_far ∷ []) round.edits round.scripts (count + length round.scripts) rest are (omega arith) there.0
    ∙ ap Ok (append_assoc done (so_far ∷ []) (round ∷ rounds))

-- the first round, behind the first line
abbrev pub rounds_draft : Draft
rounds_draft = record { stage = stages.Rounds; done = []; edits = []; scripts = []; count = 0 }

pub file_found : (rounds : List Round) (bytes : List ℕ) → IsFile rounds bytes → rounds_in bytes ≡ Ok rounds
unfolding rounds_in
file_found rounds bytes file = by rounds file.are_rounds file.some file.few
  where
    by : (rs : List Round) → AreRounds rs file.text → 1 ≤ length rs → scripts_in rs ≤ 16 → read_on 1 start (pieces bytes) ≡ Ok rs
    by [] are some few = absurd (omega arith)
    by (round ∷ rs) (first, rest, is, are, whole) some few =
        let opened : Draft = edits_draft [] [] 0 in
        let last : Draft = scripts_draft [] round.edits round.scripts (0 + length round.scripts) in
        let body : List ℕ = is.edits ++ is.scripts in
        let begun : Goes start bytes rounds_draft file.text = goes_text start rounds_draft bytes (first_line ++ 10 ∷ file.text) file.text file.whole (goes_line start rounds_draft first_line file.text refl refl) in
        let goes : Goes start bytes last rest =
        goes_then start rounds_draft last bytes file.text rest begun
        (goes_text rounds_draft last file.text (codes "round" ++ 10 ∷ (body ++ rest)) rest (round_text file.text first body rest whole is.whole)
        (goes_then rounds_draft opened last (codes "round" ++ 10 ∷ (body ++ rest)) (body ++ rest) rest
        (goes_line rounds_draft opened (codes "round") (body ++ rest) refl (ap (option_and_then (λ l. further stages.Rounds l rounds_draft)) round_found))
        (found_round [] 0 round is.edits is.scripts rest is.are_edits is.are_scripts is.some (omega arith))))
        in
        let there = goes 1 in
        there.1 ∙ found_rounds rs [] round.edits round.scripts (0 + length round.scripts) rest are (omega arith) there.0
