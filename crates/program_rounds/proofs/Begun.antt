-- What rounds begin with.
use Rattle.std.proofs.Common.{◌≡◌, ◌<◌, ◌≤◌, ℕ, zero, suc, ◌+◌, List, [], ◌∷◌, ◌++◌, length, map, take, get_or, Ok, Err, refl, sym, ap, subst, ◌∙◌, arith}
use Rattle.std.specs.List.{AllByRecursion, sum}
use Rattle.std.proofs.lemmas.List.{append-nil, append_assoc, map-append, take_more, length-append}
use Rattle.std.proofs.lemmas.List.Sums.{sum_by-cons}
use Rattle.base_types.specs.declared.no_memory.NoMemory.{NoMemory}
use Rattle.tree_files.specs.declared.edit.Edit.{Edit}
use Rattle.tree_overlay.specs.Kinds.{IsBelowRoot}
use Rattle.tree_overlay.specs.Rounds as trees
use Rattle.words_rounds.specs.declared.rounds.Round.{Round}
use Rattle.machine_laws.specs.Begun.{HaveScripts}
use Rattle.machine_book.specs.Bound.{CanOpen}
use Rattle.machine_book.specs.declared.opening.Opening.{Opening}
use Rattle.import_words.specs.Words.{Word}
use Rattle.drive_round.specs.Played.{AreShort}
use Rattle.program_run.specs.Results.{Came}
use Rattle.program_rounds.specs.Rounds.{AreBelowRoot, AreFew, AreSingle, CanRun, scripts_of, sizes_of, edits_of}

-- the rounds so far and one more
pub next_round : (rounds : List Round) (i : ℕ) (round : Round) → i < length rounds → round ≡ get_or rounds i round → take (i + 1) rounds ≡ take i rounds ++ round ∷ []
next_round rounds i round low is = take_more rounds i round low ∙ ap (λ (x : Round). take i rounds ++ x ∷ []) (sym is)

pub scripts_more : (rounds : List Round) (round : Round) → scripts_of (rounds ++ round ∷ []) ≡ scripts_of rounds ++ round.scripts
scripts_more [] round = append-nil round.scripts
scripts_more (r ∷ rounds) round = ap (λ (x : List Word). r.scripts ++ x) (scripts_more rounds round) ∙ sym (append_assoc r.scripts (scripts_of rounds) round.scripts)

pub scripts_next : (rounds : List Round) (i : ℕ) (round : Round) (scripts more new : List Word) → i < length rounds → round ≡ get_or rounds i round → scripts ≡ scripts_of (take i rounds) → more ≡ round.scripts → new ≡ scripts ++ more → new ≡ scripts_of (take (i + 1) rounds)
scripts_next rounds i round scripts more new low is was same joined =
    joined ∙ (ap (λ (x : List Word). x ++ more) was ∙ (ap (λ (x : List Word). scripts_of (take i rounds) ++ x) same ∙ (sym (scripts_more (take i rounds) round) ∙ sym (ap scripts_of (next_round rounds i round low is)))))

edits_more : (rounds : List Round) (round : Round) → edits_of (rounds ++ round ∷ []) ≡ edits_of rounds ++ round.edits ∷ []
edits_more [] round = refl
edits_more (r ∷ rounds) round = ap (λ (x : List (List Edit)). r.edits ∷ x) (edits_more rounds round)

pub edits_next : (rounds : List Round) (i : ℕ) (round : Round) (edits new : List (List Edit)) (more copy : List Edit) → i < length rounds → round ≡ get_or rounds i round → edits ≡ edits_of (take i rounds) → more ≡ round.edits → copy ≡ more → new ≡ edits ++ copy ∷ []
    → new ≡ edits_of (take (i + 1) rounds)
edits_next rounds i round edits new more copy low is was same copied joined =
    joined ∙ (ap (λ (x : List (List Edit)). x ++ copy ∷ []) was ∙ (ap (λ (x : List Edit). edits_of (take i rounds) ++ x ∷ []) (copied ∙ same) ∙ (sym (edits_more (take i rounds) round) ∙ sym (ap edits_of (next_round rounds i round low is)))))

pub sizes_next : (rounds : List Round) (i : ℕ) (round : Round) (sizes new : List ℕ) (size : ℕ) → i < length rounds → round ≡ get_or rounds i round → sizes ≡ sizes_of (take i rounds) → size ≡ length round.scripts → new ≡ sizes ++ size ∷ [] → new ≡ sizes_of (take (i + 1) rounds)
sizes_next rounds i round sizes new size low is was same joined =
    joined ∙ (ap (λ (ns : List ℕ). ns ++ size ∷ []) was ∙ (ap (λ (n : ℕ). sizes_of (take i rounds) ++ n ∷ []) same ∙ (sym (map-append (λ (r : Round). length r.scripts) (take i rounds) (round ∷ [])) ∙ sym (ap sizes_of (next_round rounds i round low is)))))

-- no round has more than all
pub few_at : (rounds : List Round) (i : ℕ) (round : Round) → i < length rounds → round ≡ get_or rounds i round → length round.scripts ≤ length (scripts_of rounds)
few_at [] i round low is = absurd (omega (arith, low))
few_at (r ∷ rounds) zero round low is =
    let same : length round.scripts ≡ length r.scripts = ap (λ (x : Round). length x.scripts) is in
    let whole = length-append r.scripts (scripts_of rounds) in
    omega (arith, same, whole)
few_at (r ∷ rounds) (suc i) round low is =
    let rest = few_at rounds i round (omega (arith, low)) is in
    let whole = length-append r.scripts (scripts_of rounds) in
    omega (arith, rest, whole)

sum_sizes : (rounds : List Round) → sum (sizes_of rounds) ≡ length (scripts_of rounds)
sum_sizes [] = refl
sum_sizes (round ∷ rounds) =
    let rest = sum_sizes rounds in
    let whole : sum (sizes_of (round ∷ rounds)) ≡ length round.scripts + sum (sizes_of rounds) = sum_by-cons (λ x. x) (length round.scripts) (sizes_of rounds) in
    let all : length (round.scripts ++ scripts_of rounds) ≡ length round.scripts + length (scripts_of rounds) = length-append round.scripts (scripts_of rounds) in
    omega (arith, rest, whole, all)

-- a machine can be opened for such rounds
pub can_open : (rounds : List Round) (opening : Opening) → CanRun rounds → opening.scripts ≡ scripts_of rounds → length opening.texts ≡ length (scripts_of rounds) → opening.rounds ≡ sizes_of rounds → CanOpen opening
can_open rounds opening can scripts texts sizes =
    let many : length opening.scripts ≡ length (scripts_of rounds) = ap length scripts in
    let some = can.some in
    let most = can.few in
    record {
      some = omega (arith, many, some);
      few = omega (arith, many, most);
      texts = texts ∙ sym many;
      each = subst HaveScripts (sym sizes) can.each;
      rounds = ap sum sizes ∙ (sum_sizes rounds ∙ sym many);
    }

-- ---- rounds of one script each

pub each_one : (rounds : List Round) → AreSingle rounds → AllByRecursion (λ size. size ≡ 1) (sizes_of rounds)
each_one [] single = tt
each_one (round ∷ rounds) single = (single.0, each_one rounds single.1)

have_scripts : (rounds : List Round) → AreSingle rounds → HaveScripts (sizes_of rounds)
have_scripts [] single = tt
have_scripts (round ∷ rounds) single = let one : length round.scripts ≡ 1 = single.0 in (omega (arith, one), have_scripts rounds single.1)

pub many_scripts : (rounds : List Round) → AreSingle rounds → length (scripts_of rounds) ≡ length rounds
many_scripts [] single = refl
many_scripts (round ∷ rounds) single =
    let one : length round.scripts ≡ 1 = single.0 in
    let rest = many_scripts rounds single.1 in
    let all : length (round.scripts ++ scripts_of rounds) ≡ length round.scripts + length (scripts_of rounds) = length-append round.scripts (scripts_of rounds) in
    omega (arith, one, rest, all)

pub many_sizes : (rounds : List Round) → length (sizes_of rounds) ≡ length rounds
many_sizes [] = refl
many_sizes (round ∷ rounds) = ap suc (many_sizes rounds)

pub can_run : (rounds : List Round) → AreSingle rounds → AreFew rounds → CanRun rounds
can_run rounds single few =
    let many = many_scripts rounds single in
    let some = few.0 in
    let most = few.1 in
    record { some = omega (arith, many, some); few = omega (arith, many, most); each = have_scripts rounds single }

-- there are no more of them than scripts
pub few_by : (rounds : List Round) → AreSingle rounds → CanRun rounds → AreFew rounds
few_by rounds single can =
    let many = many_scripts rounds single in
    let some = can.some in
    let most = can.few in
    (omega (arith, many, some), omega (arith, many, most))

pub below_edits : (rounds : List Round) → AreBelowRoot rounds → trees.AreBelowRoot (edits_of rounds)
below_edits [] below = tt
below_edits (round ∷ rounds) below = (below.0, below_edits rounds below.1)

-- one more of which nothing has come
pub short_more : (results : List Came) (e : NoMemory) → AreShort results → AreShort (results ++ Err e ∷ [])
short_more [] e short = tt
short_more (Ok it ∷ results) e short = absurd short
short_more (Err x ∷ results) e short = short_more results e short
