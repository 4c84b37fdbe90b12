-- A whole trace and its lines.
use Rattle.std.proofs.Common.{◌≡◌, ◌∙◌, refl, sym, ap, subst, ℕ, ◌+◌, List, [], ◌∷◌, ◌++◌, append_assoc, Bool, true, false, eqb, Option, Some, None, Result, Ok, Err, inl, inr, ◌⊎◌, codes, if◌then◌else◌}
use Rattle.std.proofs.lemmas.Bool.{and_parts, and_from}
use Rattle.std.proofs.lemmas.List.Elements.{All-from_recursion}
use Rattle.std.proofs.lemmas.List.Splits.{slice_split_at, join_with_byte-slice_split}
use Rattle.std.proofs.lemmas.Slice.Eq.{bytes_eq-Decides}
use Rattle.std.specs.List.{AllByRecursion, flat_map, slice_split, join_with_byte}
use Rattle.std.specs.Str.{bytes_eq}
use Rattle.machine_events.specs.declared.event.Entry.{Entry}
use Rattle.trace_text.specs.Fields.{entry_fields}
use Rattle.trace_text.specs.Trace.{unsplit, line}
use Rattle.trace_fields.specs.declared.refusal.Cause.{Cause}
use Rattle.trace_entries.specs.Entries.{entry_in}
use Rattle.trace_read.proofs.Held.{some_is}
use Rattle.trace_read.specs.Reading.{format_of, format_in, Read, behind, with_entry, last, entries_in, with_format, opened, lines_in, pieces, trace_in}
use Rattle.trace_read.specs.Fitting.{entry_fits, entry_bytes, entries_fit, entries_bytes}
use Rattle.trace_read.specs.Text.{first_line_of, text_of, Spelled}
use Rattle.trace_read.proofs.Entries.{entry_told, entry_again, one_line}

abbrev is_end : ℕ → Bool
is_end b = eqb b 10

-- ---- what is read is spelled so

abbrev done : {A : Type 0} → A → Read A
done x = Ok x

ok_is : {A : Type 0} (x y : A) → done x ≡ done y → x ≡ y
ok_is x y h = cc

-- the lines, and what stands behind the last line end, as one text
abbrev unlined : List (List ℕ) → List ℕ
unlined ls = join_with_byte 10 ls

abbrev Told : Bool → List (List ℕ) → List Entry → Type 0
Told old ls entries = (unlined ls ≡ flat_map line entries) × (entries_fit old entries ≡ true)

last_told : (old : Bool) (at : ℕ) (rest : List ℕ) (entries : List Entry) → last at rest ≡ Ok entries → Told old (rest ∷ []) entries
last_told old at [] entries h = subst (Told old ([] ∷ [])) (ok_is [] entries h) (refl, refl)
last_told old at (b ∷ bs) entries h = cc

behind_told : (entry : Entry) (read : Read (List Entry)) (entries : List Entry) → behind entry read ≡ Ok entries → (more : List Entry) × (read ≡ Ok more) × (entry ∷ more ≡ entries)
behind_told entry (Ok more) entries h = (more, refl, ok_is (entry ∷ more) entries h)
behind_told entry (Err why) entries h = cc

with_entry_told : (at : ℕ) (one : Result Entry Cause) (read : Read (List Entry)) (entries : List Entry) → with_entry at one read ≡ Ok entries → (entry : Entry) × (one ≡ Ok entry) × (behind entry read ≡ Ok entries)
with_entry_told at (Ok entry) read entries h = (entry, refl, h)
with_entry_told at (Err why) read entries h = cc

entries_told : (old : Bool) (at : ℕ) (ls : List (List ℕ)) (entries : List Entry) → entries_in old at ls ≡ Ok entries → Told old ls entries
entries_told old at [] entries h = cc
entries_told old at (rest ∷ []) entries h = last_told old at rest entries h
entries_told old at (l ∷ m ∷ ls) entries h =
    let w = with_entry_told at (entry_in old l) (entries_in old (at + 1) (m ∷ ls)) entries h in
    let b = behind_told w.0 (entries_in old (at + 1) (m ∷ ls)) entries w.2 in
    let one = entry_told old l w.0 w.1 in
    let others = entries_told old (at + 1) (m ∷ ls) b.0 b.1 in
    subst (Told old (l ∷ m ∷ ls)) b.2
    ((λ k. one.0 k ++ 10 ∷ others.0 k) ∙ sym (append_assoc (unsplit (entry_fields w.0)) (10 ∷ []) (flat_map line b.0)), and_from _ _ one.1 others.1)

format_cases : (a b : Bool) (old : Bool) → (if a then Some false else if b then Some true else None) ≡ Some old → ((a ≡ true) × (false ≡ old)) ⊎ ((b ≡ true) × (true ≡ old))
format_cases true b old h = inl (refl, some_is false old h)
format_cases false true old h = inr (refl, some_is true old h)
format_cases false false old h = cc

format_told : (first : List ℕ) (old : Bool) → format_in first ≡ Some old → first ++ 10 ∷ [] ≡ first_line_of old
format_told first old h = elim (format_cases (bytes_eq first (codes "pyimport-trace 2")) (bytes_eq first (codes "pyimport-trace 1")) old h) [
  | inl w ↦ subst (λ o. first ++ 10 ∷ [] ≡ first_line_of o) w.1 (ap (λ t. t ++ 10 ∷ []) ((bytes_eq-Decides first (codes "pyimport-trace 2")).0 w.0))
  | inr w ↦ subst (λ o. first ++ 10 ∷ [] ≡ first_line_of o) w.1 (ap (λ t. t ++ 10 ∷ []) ((bytes_eq-Decides first (codes "pyimport-trace 1")).0 w.0))
]

with_format_told : (old : Bool) (read : Read (List Entry)) (t : ℕ × List Entry) → with_format old read ≡ Ok t → (entries : List Entry) × (read ≡ Ok entries) × ((format_of old, entries) ≡ t)
with_format_told old (Ok entries) t h = (entries, refl, ok_is (format_of old, entries) t h)
with_format_told old (Err why) t h = cc

opened_told : (o : Option Bool) (ls : List (List ℕ)) (t : ℕ × List Entry) → opened o ls ≡ Ok t → (old : Bool) × (o ≡ Some old) × (with_format old (entries_in old 2 ls) ≡ Ok t)
opened_told None ls t h = cc
opened_told (Some old) ls t h = (old, refl, h)

lines_told : (ls : List (List ℕ)) (t : ℕ × List Entry) → lines_in ls ≡ Ok t → Spelled (unlined ls) t
lines_told [] t h = cc
lines_told (l ∷ []) t h = cc
lines_told (l ∷ m ∷ ls) t h =
    let o = opened_told (format_in l) (m ∷ ls) t h in
    let old = o.0 in
    let w = with_format_told old (entries_in old 2 (m ∷ ls)) t o.2 in
    let first = format_told l old o.1 in
    let others = entries_told old 2 (m ∷ ls) w.0 w.1 in
    let whole : unlined (l ∷ m ∷ ls) ≡ text_of old w.0 = sym (append_assoc l (10 ∷ []) (unlined (m ∷ ls))) ∙ (λ k. first k ++ others.0 k) in
    subst (Spelled (unlined (l ∷ m ∷ ls))) w.2 (record { old = old; format = refl; text = whole; fits = others.1 })

pub trace_told : (bytes : List ℕ) (t : ℕ × List Entry) → trace_in bytes ≡ Ok t → Spelled bytes t
unfolding trace_in
trace_told bytes t h = subst (λ b. Spelled b t) (join_with_byte-slice_split 10 bytes) (lines_told (pieces bytes) t h)

-- ---- what is spelled so is read

-- the lines of some entries, and nothing behind the last
abbrev lines_of : List Entry → List (List ℕ)
lines_of [] = [] ∷ []
lines_of (entry ∷ entries) = unsplit (entry_fields entry) ∷ lines_of entries

split_off : (text rest : List ℕ) → AllByRecursion (λ n. eqb n 10 ≡ false) text → slice_split is_end ((text ++ 10 ∷ []) ++ rest) ≡ text ∷ slice_split is_end rest
split_off text rest h = ap (slice_split is_end) (append_assoc text (10 ∷ []) rest) ∙ slice_split_at is_end text 10 rest (All-from_recursion (λ n. eqb n 10 ≡ false) text h) refl

split_lines : (old : Bool) (entries : List Entry) → entries_fit old entries ≡ true → entries_bytes entries ≡ true → slice_split is_end (flat_map line entries) ≡ lines_of entries
split_lines old [] h s = refl
split_lines old (entry ∷ entries) h s =
    let f = and_parts (entry_fits old entry) (entries_fit old entries) h in
    let g = and_parts (entry_bytes entry) (entries_bytes entries) s in
    split_off (unsplit (entry_fields entry)) (flat_map line entries) (one_line old entry f.0 g.0) ∙ ap (λ ls. unsplit (entry_fields entry) ∷ ls) (split_lines old entries f.1 g.1)

step_on : (old : Bool) (at : ℕ) (l : List ℕ) (entries : List Entry) → entries_in old at (l ∷ lines_of entries) ≡ with_entry at (entry_in old l) (entries_in old (at + 1) (lines_of entries))
step_on old at l [] = refl
step_on old at l (entry ∷ entries) = refl

first_line_again : (old : Bool) (at : ℕ) (entry : Entry) (entries : List Entry) → entry_in old (unsplit (entry_fields entry)) ≡ Ok entry → entries_in old (at + 1) (lines_of entries) ≡ Ok entries → entries_in old at (unsplit (entry_fields entry) ∷ lines_of entries) ≡ Ok (entry ∷ entries)
first_line_again old at entry entries one others =
    step_on old at (unsplit (entry_fields entry)) entries
    ∙ ap (λ o. with_entry at o (entries_in old (at + 1) (lines_of entries))) one
    ∙ ap (behind entry) others

entries_again : (old : Bool) (at : ℕ) (entries : List Entry) → entries_fit old entries ≡ true → entries_bytes entries ≡ true → entries_in old at (lines_of entries) ≡ Ok entries
entries_again old at [] h s = refl
entries_again old at (entry ∷ entries) h s =
    let f = and_parts (entry_fits old entry) (entries_fit old entries) h in
    let g = and_parts (entry_bytes entry) (entries_bytes entries) s in
    first_line_again old at entry entries (entry_again old entry f.0 g.0) (entries_again old (at + 1) entries f.1 g.1)

opened_again : (old : Bool) (first : List ℕ) (entries : List Entry) → format_in first ≡ Some old → entries_fit old entries ≡ true → entries_bytes entries ≡ true → lines_in (first ∷ lines_of entries) ≡ Ok (format_of old, entries)
opened_again old first [] is h s = ap (λ o. opened o ([] ∷ [])) is
opened_again old first (entry ∷ entries) is h s = ap (λ o. opened o (lines_of (entry ∷ entries))) is ∙ ap (with_format old) (entries_again old 2 (entry ∷ entries) h s)

plain_1 : AllByRecursion (λ n. eqb n 10 ≡ false) (codes "pyimport-trace 1")
plain_1 = (refl, (refl, (refl, (refl, (refl, (refl, (refl, (refl, (refl, (refl, (refl, (refl, (refl, (refl, (refl, (refl, tt))))))))))))))))

plain_2 : AllByRecursion (λ n. eqb n 10 ≡ false) (codes "pyimport-trace 2")
plain_2 = (refl, (refl, (refl, (refl, (refl, (refl, (refl, (refl, (refl, (refl, (refl, (refl, (refl, (refl, (refl, (refl, tt))))))))))))))))

pub trace_again : (old : Bool) (entries : List Entry) → entries_fit old entries ≡ true → entries_bytes entries ≡ true → trace_in (text_of old entries) ≡ Ok (format_of old, entries)
unfolding trace_in
trace_again false entries h s =
    ap lines_in (split_off (codes "pyimport-trace 2") (flat_map line entries) plain_2 ∙ ap (λ ls. codes "pyimport-trace 2" ∷ ls) (split_lines false entries h s))
    ∙ opened_again false (codes "pyimport-trace 2") entries refl h s
trace_again true entries h s =
    ap lines_in (split_off (codes "pyimport-trace 1") (flat_map line entries) plain_1 ∙ ap (λ ls. codes "pyimport-trace 1" ∷ ls) (split_lines true entries h s))
    ∙ opened_again true (codes "pyimport-trace 1") entries refl h s
