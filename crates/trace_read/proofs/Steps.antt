-- Line by line.
use Rattle.std.proofs.Common.{◌≡◌, ◌∙◌, refl, sym, ap, ℕ, suc, ◌+◌, ◌-◌, ◌<◌, ◌≤◌, List, [], ◌∷◌, ◌++◌, append_assoc, length, get_or, take, drop, Bor, Bool, Ok, Err, arith}
use Rattle.std.proofs.lemmas.List.{drop_more, take_more, take_all, map_push, get_or-map, length-map}
use Rattle.machine_events.specs.declared.event.Entry.{Entry}
use Rattle.trace_fields.specs.declared.refusal.Cause.{Cause}
use Rattle.trace_fields.specs.Splitting.{views}
use Rattle.trace_entries.specs.Entries.{entry_in}
use Rattle.trace_read.specs.Reading.{Read, behind, with_entry, entries_in, format_in, opened, lines_in}

-- the entries so far, and what is still read
abbrev pub with_front : List Entry → Read (List Entry) → Read (List Entry)
with_front front (Ok entries) = Ok (front ++ entries)
with_front front (Err why) = Err why

one_more : (front : List Entry) (entry : Entry) (read : Read (List Entry)) → with_front front (behind entry read) ≡ with_front (front ++ entry ∷ []) read
one_more front entry (Ok entries) = ap Ok (sym (append_assoc front (entry ∷ []) entries))
one_more front entry (Err why) = refl

step_on : (old : Bool) (at : ℕ) (line rest : List ℕ) (lines : List (List ℕ)) → entries_in old at (line ∷ (lines ++ rest ∷ [])) ≡ with_entry at (entry_in old line) (entries_in old (at + 1) (lines ++ rest ∷ []))
step_on old at line rest [] = refl
step_on old at line rest (l ∷ lines) = refl

cut_line : (lines : List (Bor (List ℕ))) (i : ℕ) (default : Bor (List ℕ)) → i < length lines → drop i (views lines) ≡ (get_or lines i default).now ∷ drop (i + 1) (views lines)
cut_line lines i default low =
    let low_too : i < length (views lines) = rw (length-map lines (λ (x : Bor (List ℕ)). x.now)) low in
    drop_more (views lines) i default.now low_too ∙ ap (λ l. l ∷ drop (i + 1) (views lines)) (get_or-map (λ x. x.now) lines i default default.now low)

goes_on : (old : Bool) (at i : ℕ) (lines : List (Bor (List ℕ))) (rest : List ℕ) (default : Bor (List ℕ)) → i < length lines →
    entries_in old at (drop i (views lines) ++ rest ∷ []) ≡ with_entry at (entry_in old (get_or lines i default).now) (entries_in old (at + 1) (drop (i + 1) (views lines) ++ rest ∷ []))
goes_on old at i lines rest default low =
    ap (λ ls. entries_in old at (ls ++ rest ∷ [])) (cut_line lines i default low) ∙ step_on old at (get_or lines i default).now rest (drop (i + 1) (views lines))

pub moves : (old : Bool) (front : List Entry) (at i : ℕ) (entry : Entry) (lines : List (Bor (List ℕ))) (rest : List ℕ) (default : Bor (List ℕ)) → i < length lines → entry_in old (get_or lines i default).now ≡ Ok entry →
    with_front front (entries_in old at (drop i (views lines) ++ rest ∷ [])) ≡ with_front (front ++ entry ∷ []) (entries_in old (at + 1) (drop (i + 1) (views lines) ++ rest ∷ []))
moves old front at i entry lines rest default low is =
    let behind_it = entries_in old (at + 1) (drop (i + 1) (views lines) ++ rest ∷ []) in
    ap (with_front front) (goes_on old at i lines rest default low ∙ ap (λ e. with_entry at e behind_it) is) ∙ one_more front entry behind_it

pub stops : (old : Bool) (front : List Entry) (at i : ℕ) (why : Cause) (lines : List (Bor (List ℕ))) (rest : List ℕ) (default : Bor (List ℕ)) → i < length lines → entry_in old (get_or lines i default).now ≡ Err why →
    with_front front (entries_in old at (drop i (views lines) ++ rest ∷ [])) ≡ Err (at, why)
stops old front at i why lines rest default low is =
    ap (with_front front) (goes_on old at i lines rest default low ∙ ap (λ e. with_entry at e (entries_in old (at + 1) (drop (i + 1) (views lines) ++ rest ∷ []))) is)

-- ---- the first line, those behind it, and what stands behind the last line end

last_off : (xs : List (Bor (List ℕ))) (e : Bor (List ℕ)) → 0 < length xs → xs ≡ take (length xs - 1) xs ++ get_or xs (length xs - 1) e ∷ []
last_off xs e some =
    let low : length xs - 1 < length xs = omega arith in
    let all : length xs ≤ length xs - 1 + 1 = omega arith in
    sym (take_all (length xs - 1 + 1) xs all) ∙ take_more xs (length xs - 1) e low

seen_off : (xs : List (Bor (List ℕ))) (e : Bor (List ℕ)) → 0 < length xs → views xs ≡ views (take (length xs - 1) xs) ++ (get_or xs (length xs - 1) e).now ∷ []
seen_off xs e some = ap views (last_off xs e some) ∙ map_push _ (take (length xs - 1) xs) (get_or xs (length xs - 1) e)

pub two_up : (ps : List (Bor (List ℕ))) (d e : Bor (List ℕ)) → 2 ≤ length ps →
    lines_in (views ps) ≡ opened (format_in (get_or ps 0 d).now) (views (take (length ps - 1 - 1) (drop 1 ps)) ++ (get_or ps (length ps - 1) e).now ∷ [])
two_up [] d e h = absurd (omega arith)
two_up (p ∷ []) d e h = absurd (omega arith)
two_up (p ∷ q ∷ ps) d e h =
    let xs = q ∷ ps in
    let less : length (p ∷ xs) - 1 - 1 ≡ length xs - 1 = omega arith in
    let there : length (p ∷ xs) - 1 ≡ suc (length xs - 1) = omega arith in
    ap (opened (format_in p.now))
    (seen_off xs e (omega arith)
    ∙ ap (λ n. views (take n xs) ++ (get_or xs (length xs - 1) e).now ∷ []) (sym less)
    ∙ ap (λ n. views (take (length (p ∷ xs) - 1 - 1) xs) ++ (get_or (p ∷ xs) n e).now ∷ []) (sym there))
