-- Scripts that are compared one after another.
use Rattle.std.proofs.Common.{◌≡◌, ◌<◌, ◌≤◌, ℕ, zero, suc, ◌+◌, ◌-◌, List, [], ◌∷◌, ◌++◌, ◌&&◌, Bool, true, false, length, take, drop, get_or, replicate, Option, Some, None, IfSome, Result, Ok, Err, refl, subst, ap, sym, ◌∙◌, arith}
use Rattle.std.specs.Prelude.{OnOk, slice_range}
use Rattle.std.proofs.lemmas.List.{append_assoc, append-nil, drop-take, length-append, length-drop, length-map, length-take-le, replicate_more, take-append-drop, take-take, take_all, take_more}
use Rattle.tree_files.specs.Files.{Files}
use Rattle.tree_files.specs.declared.edit.Edit.{Edit}
use Rattle.std.specs.List.{list_all, sum}
use Rattle.std.proofs.lemmas.List.Sums.{sum_by-cons}
use Rattle.tree_overlay.specs.Kinds.{IsBelowRoot, is_below_root}
use Rattle.tree_overlay.specs.Told.{edited_told}
use Rattle.tree_overlay.proofs.Overlaid.{told_append}
use Rattle.words_rounds.specs.declared.rounds.Round.{Round}
use Rattle.machine_events.specs.declared.event.Event.{Event}
use Rattle.machine_events.specs.declared.event.Reply.{Reply}
use Rattle.machine_events.specs.declared.event.Entry.{Entry}
use Rattle.machine_events.specs.declared.event.Pair.{Pair}
use Rattle.machine_events.specs.declared.event.Follow.{Follow}
use Rattle.machine_shown.specs.Own.{own}
use Rattle.drive_account.specs.Following.{Answers}
use Rattle.program_run.specs.Alone.{Means}
use Rattle.program_rounds.specs.Opened.{files_after}
use Rattle.program_rounds.proofs.Begun.{next_round}
use Rattle.program_rounds.proofs.Coursing.{many_more, told_more}
use Rattle.program_rounds.proofs.Opening.{after_more}
use Rattle.import_words.specs.declared.plan.RunPlan.{RunPlan}
use Rattle.machine_spec.specs.declared.state.State.{State}
use Rattle.machine_spec.specs.Allowed.{scripts}
use Rattle.machine_laws.proofs.First.{rounds_long}
use Rattle.program_rounds.specs.Rounds.{opening_in, scripts_of, sizes_of, told_in}
use Rattle.trace_check.specs.Judge.{Judges}
use Rattle.trace_check.specs.Replays.{Replays, counts_of}
use Rattle.trace_check.specs.declared.answers.Counts.{Counts}
use Rattle.trace_check.specs.Threads.{threads_of, list_of, AreOwn, AreShares}
use Rattle.trace_check.specs.declared.answers.Replayed.{Replayed}
use Rattle.trace_check.specs.declared.answers.Verdict.{Verdict}
use Rattle.program_check.specs.Judge.{AreFollows, JudgesEntries}

-- what holds of the files that a tree tells
pub if_told : (tree : Option Files) (P : Files → Type 0) → ((files : Files) → tree ≡ Some files → P files) → IfSome tree P
if_told None P holds = tt
if_told (Some files) P holds = holds files refl

-- edits below the root, and more of them
pub below_both : (edits more : List Edit) → IsBelowRoot edits → IsBelowRoot more → IsBelowRoot (edits ++ more)
below_both [] more are behind = behind
below_both (edit ∷ edits) more are behind = by (is_below_root edit) are (λ rest. below_both edits more rest behind)
  where
    by : (b : Bool) → (b && list_all is_below_root edits) ≡ true → (IsBelowRoot edits → IsBelowRoot (edits ++ more)) → (b && list_all is_below_root (edits ++ more)) ≡ true
    by true rest go_on = go_on rest
    by false rest go_on = rest

-- edits that were joined are below the root
pub below_joined : (edits more mine joined seen : List Edit) → seen ≡ joined → joined ≡ edits ++ mine → mine ≡ more → IsBelowRoot edits → IsBelowRoot more → IsBelowRoot seen
below_joined edits more mine joined seen same is copied are behind =
    subst IsBelowRoot (sym (same ∙ (is ∙ ap (λ (x : List Edit). edits ++ x) copied))) (below_both edits more are behind)

-- the files after edits, and after more of them
pub told_next : (tree before : Option Files) (edits more joined : List Edit) → joined ≡ edits ++ more → edited_told edits tree ≡ before → edited_told joined tree ≡ edited_told more before
told_next tree before edits more joined is was = told_append tree edits more joined is ∙ ap (λ (x : Option Files). edited_told more x) was

pub after_next : (tree : Option Files) (rounds : List Round) (i : ℕ) (round : Round) → i < length rounds → round ≡ get_or rounds i round → edited_told round.edits (files_after tree (take i rounds)) ≡ files_after tree (take (i + 1) rounds)
after_next tree rounds i round low at = sym (after_more tree (take i rounds) round) ∙ ap (λ (r : List Round). files_after tree r) (sym (next_round rounds i round low at))

-- the front of a list, and what stands behind it
take_split : {A : Type 0} (n m : ℕ) (xs : List A) → take n xs ++ take m (drop n xs) ≡ take (n + m) xs
take_split n m xs =
    let low : n ≤ n + m = omega arith in
    let front = take-take n (n + m) xs low in
    let rest = drop-take n m xs in
    ap (λ (ys : List _). ys ++ take m (drop n xs)) (sym front) ∙ (ap (λ (ys : List _). take n (take (n + m) xs) ++ ys) (sym rest) ∙ take-append-drop n (take (n + m) xs))

-- a round has no more texts than all
pub few_here : (n k some from most : ℕ) (texts here : List (List ℕ)) → here ≡ slice_range texts from (from + some) → some ≡ n → from ≡ k → k + n ≤ length texts → length texts ≤ most → from + length here ≤ most
few_here n k some from most texts here is count at fits few =
    let size : (from + some) - from ≡ n = omega (arith, count) in
    let part : length here ≡ length (take n (drop k texts)) = ap length is ∙ (ap (λ (m : ℕ). length (take m (drop from texts))) size ∙ ap (λ (m : ℕ). length (take n (drop m texts))) at) in
    let left = length-drop k texts in
    let whole = length-take-le n (drop k texts) (omega (arith, left, fits)) in
    omega (arith, part, whole, at, fits, few)

-- what holds behind a call that went well
pub then_ok : {A E P Q : Type 0} (r : Result A E) → OnOk r P → (P → Q) → OnOk r Q
then_ok (Ok x) holds then = then holds
then_ok (Err e) holds then = tt

pub always_ok : {A E P : Type 0} (r : Result A E) → P → OnOk r P
always_ok (Ok x) holds = holds
always_ok (Err e) holds = tt

module _ (means : Means) (fuel : ℕ) (made : ℕ → List (Event × Reply)) where
  -- one script more
  follows_more : {t : ℕ} {trees : List (Option Files)} {texts : List (List ℕ)} {follows : List Follow} (n : ℕ) (tree : Option Files) (text : List ℕ) (follow : Follow) → n ≡ t + length texts
      → AreFollows means fuel made t trees texts follows → IfSome tree (λ files. Answers files n (means n text) fuel (made n) follow)
      → AreFollows means fuel made t (trees ++ tree ∷ []) (texts ++ text ∷ []) (follows ++ follow ∷ [])
  follows_more n tree text follow is (AreFollows.none t) here =
      let same : n ≡ t = omega (arith, is) in
      AreFollows.more t tree [] text [] follow [] (subst (λ (m : ℕ). IfSome tree (λ files. Answers files m (means m text) fuel (made m) follow)) same here) (AreFollows.none (suc t))
  follows_more n tree text follow is (AreFollows.more t x trees y texts z follows first rest) here =
      AreFollows.more t x (trees ++ tree ∷ []) y (texts ++ text ∷ []) z (follows ++ follow ∷ []) first (follows_more {t = suc t} n tree text follow (omega (arith, is)) rest here)

  -- as many answers as scripts
  pub many_follows : {t : ℕ} {trees : List (Option Files)} {texts : List (List ℕ)} {follows : List Follow} → AreFollows means fuel made t trees texts follows → length follows ≡ length texts
  many_follows (AreFollows.none t) = refl
  many_follows (AreFollows.more t x trees y texts z follows first rest) = ap suc (many_follows {t = suc t} rest)

  abbrev All : List (Option Files) → List (List ℕ) → List Follow → Type 0
  All trees texts follows = AreFollows means fuel made 0 trees texts follows

  -- of a round no script yet
  pub round_none : (trees : List (Option Files)) (before texts : List (List ℕ)) (follows : List Follow) (tree : Option Files) → All trees before follows → All (trees ++ replicate 0 tree) (before ++ take 0 texts) follows
  round_none trees before texts follows tree all =
      subst (λ (x : List (Option Files)). All x (before ++ take 0 texts) follows) (sym (append-nil trees)) (subst (λ (x : List (List ℕ)). All trees x follows) (sym (append-nil before)) all)

  -- one script more of a round
  pub round_more : (n i : ℕ) (trees : List (Option Files)) (before texts : List (List ℕ)) (follows : List Follow) (tree : Option Files) (text seen : List ℕ) (follow : Follow) (more : List Follow) → n ≡ length before + i → i < length texts → text ≡ get_or texts i text → seen ≡ text
      → more ≡ follows ++ follow ∷ [] → All (trees ++ replicate i tree) (before ++ take i texts) follows → IfSome tree (λ files. Answers files n (means n seen) fuel (made n) follow)
      → All (trees ++ replicate (i + 1) tree) (before ++ take (i + 1) texts) more
  round_more n i trees before texts follows tree text seen follow more is low at same pushed all here =
      let whole = length-append before (take i texts) in
      let here_many = length-take-le i texts (omega (arith, low)) in
      let count : n ≡ 0 + length (before ++ take i texts) = omega (arith, is, whole, here_many) in
      let next : take (i + 1) texts ≡ take i texts ++ text ∷ [] = take_more texts i text low ∙ ap (λ z. take i texts ++ z ∷ []) (sym at) in
      let ts : (before ++ take i texts) ++ text ∷ [] ≡ before ++ take (i + 1) texts = append_assoc before (take i texts) (text ∷ []) ∙ ap (λ (x : List (List ℕ)). before ++ x) (sym next) in
      let fs : (trees ++ replicate i tree) ++ tree ∷ [] ≡ trees ++ replicate (i + 1) tree = append_assoc trees (replicate i tree) (tree ∷ []) ∙ ap (λ (x : List (Option Files)). trees ++ x) (replicate_more i tree) in
      let there : IfSome tree (λ files. Answers files n (means n text) fuel (made n) follow) = subst (λ (x : List ℕ). IfSome tree (λ files. Answers files n (means n x) fuel (made n) follow)) same here in
      subst (λ (x : List Follow). All (trees ++ replicate (i + 1) tree) (before ++ take (i + 1) texts) x) (sym pushed)
      (subst (λ (x : List (Option Files)). All x (before ++ take (i + 1) texts) (follows ++ follow ∷ [])) fs
      (subst (λ (x : List (List ℕ)). All ((trees ++ replicate i tree) ++ tree ∷ []) x (follows ++ follow ∷ [])) ts (follows_more {t = 0} n tree text follow count all there)))

  -- the texts of a round are those that stand at its place
  pub round_here : (n k some from : ℕ) (trees : List (Option Files)) (before texts here : List (List ℕ)) (seen tree : Option Files) (follows : List Follow) → here ≡ slice_range texts from (from + some) → some ≡ n → from ≡ k → k + n ≤ length texts → seen ≡ tree
      → All (trees ++ replicate (length here) seen) (before ++ here) follows → All (trees ++ replicate n tree) (before ++ take n (drop k texts)) follows
  round_here n k some from trees before texts here seen tree follows is count at fits same all =
      let size : (from + some) - from ≡ n = omega (arith, count) in
      let part : here ≡ take n (drop k texts) = is ∙ (ap (λ (m : ℕ). take m (drop from texts)) size ∙ ap (λ (m : ℕ). take n (drop m texts)) at) in
      let left = length-drop k texts in
      let whole = length-take-le n (drop k texts) (omega (arith, left, fits)) in
      let many : length here ≡ n = ap length part ∙ whole in
      subst (λ (x : Option Files). All (trees ++ replicate n x) (before ++ take n (drop k texts)) follows) same
      (subst (λ (m : ℕ). All (trees ++ replicate m seen) (before ++ take n (drop k texts)) follows) many
      (subst (λ (x : List (List ℕ)). All (trees ++ replicate (length here) seen) (before ++ x) follows) part all))

  -- so many texts so far
  pub front_many : (k n : ℕ) (texts : List (List ℕ)) → k + n ≤ length texts → k ≡ length (take k texts)
  front_many k n texts fits = sym (length-take-le k texts (omega (arith, fits)))

  -- one round more
  module _ (tree : Option Files) (rounds : List Round) (i : ℕ) (round : Round) (low : i < length rounds) (at : round ≡ get_or rounds i round) (texts : List (List ℕ)) (k : ℕ) (many : k ≡ length (scripts_of (take i rounds)))
      (fits : k + length round.scripts ≤ length texts) (after : Option Files) (same : after ≡ edited_told round.edits (files_after tree (take i rounds))) (follows : List Follow) where
    more : All (told_in tree (take i rounds) ++ replicate (length round.scripts) after) (take k texts ++ take (length round.scripts) (drop k texts)) follows → All (told_in tree (take (i + 1) rounds)) (take (k + length round.scripts) texts) follows
    more all =
        let fs : told_in tree (take i rounds) ++ replicate (length round.scripts) after ≡ told_in tree (take (i + 1) rounds) =
        ap (λ (x : Option Files). told_in tree (take i rounds) ++ replicate (length round.scripts) x) same
        ∙ (sym (told_more tree (take i rounds) round) ∙ ap (λ (r : List Round). told_in tree r) (sym (next_round rounds i round low at))) in
        subst (λ (x : List (Option Files)). All x (take (k + length round.scripts) texts) follows) fs
        (subst (λ (x : List (List ℕ)). All (told_in tree (take i rounds) ++ replicate (length round.scripts) after) x follows) (take_split k (length round.scripts) texts) all)

    count : All (told_in tree (take (i + 1) rounds)) (take (k + length round.scripts) texts) follows → length follows ≡ k + length round.scripts
    count all = many_follows {t = 0} all ∙ length-take-le (k + length round.scripts) texts fits

    pub rounds_more : All (told_in tree (take i rounds) ++ replicate (length round.scripts) after) (take k texts ++ take (length round.scripts) (drop k texts)) follows
        → (length follows ≡ length (scripts_of (take (i + 1) rounds))) × All (told_in tree (take (i + 1) rounds)) (take (length follows) texts) follows
    rounds_more all =
        let next = more all in
        let here = count next in
        let scripts : length (scripts_of (take (i + 1) rounds)) ≡ length (scripts_of (take i rounds)) + length round.scripts =
        ap (λ (r : List Round). length (scripts_of r)) (next_round rounds i round low at) ∙ many_more (take i rounds) round in
        (omega (arith, here, many, scripts), subst (λ (m : ℕ). All (told_in tree (take (i + 1) rounds)) (take m texts) follows) (sym here) next)

  -- behind the last round all scripts were compared
  pub whole_rounds : (tree : Option Files) (rounds : List Round) (i : ℕ) (texts : List (List ℕ)) (follows : List Follow) → length rounds ≤ i → length texts ≡ length (scripts_of rounds) → length follows ≡ length (scripts_of (take i rounds))
      → All (told_in tree (take i rounds)) (take (length follows) texts) follows → All (told_in tree rounds) texts follows
  whole_rounds tree rounds i texts follows high all many each =
      let last : take i rounds ≡ rounds = take_all i rounds high in
      let scripts : length (scripts_of (take i rounds)) ≡ length (scripts_of rounds) = ap (λ (r : List Round). length (scripts_of r)) last in
      subst (λ (r : List Round). All (told_in tree r) texts follows) last
      (subst (λ (x : List (List ℕ)). All (told_in tree (take i rounds)) x follows) (take_all (length follows) texts (omega (arith, all, many, scripts))) each)

-- the same of what threads made by another account
pub follows_by : (means : Means) (fuel : ℕ) (made mine : ℕ → List (Event × Reply)) {t : ℕ} {trees : List (Option Files)} {texts : List (List ℕ)} {follows : List Follow} → ((u : ℕ) → u < t + length texts → made u ≡ mine u)
    → AreFollows means fuel made t trees texts follows → AreFollows means fuel mine t trees texts follows
follows_by means fuel made mine same (AreFollows.none t) = AreFollows.none t
follows_by means fuel made mine same (AreFollows.more t x trees y texts z follows first rest) =
    AreFollows.more t x trees y texts z follows (subst (λ (own : List (Event × Reply)). IfSome x (λ files. Answers files t (means t y) fuel own z)) (same t (omega arith)) first)
    (follows_by means fuel made mine {t = suc t} (λ u less. same u (omega (arith, less))) rest)

-- as many threads as entries
pub threads_many : (threads seen : List ℕ) (entries history : List Entry) → seen ≡ threads → threads ≡ threads_of entries → entries ≡ history → length seen ≡ length history
threads_many threads seen entries history same are is = ap (λ (l : List ℕ). length l) (same ∙ are) ∙ (length-map entries (λ (e : Entry). e.thread) ∙ ap (λ (l : List Entry). length l) is)

-- the machine has a script for each text
sum_scripts : (rounds : List Round) → sum (sizes_of rounds) ≡ length (scripts_of rounds)
sum_scripts [] = refl
sum_scripts (round ∷ rounds) =
    let rest = sum_scripts rounds in
    let whole : sum (sizes_of (round ∷ rounds)) ≡ length round.scripts + sum (sizes_of rounds) = sum_by-cons (λ x. x) (length round.scripts) (sizes_of rounds) in
    let both = length-append round.scripts (scripts_of rounds) in
    omega (arith, rest, whole, both)

pub scripts_held : (plan : RunPlan) (rounds : List Round) (texts heard : List (List ℕ)) (machine : State) (lists : List (List Pair)) (many : ℕ) → machine ≡ opening_in plan rounds texts → length texts ≡ length (scripts_of rounds)
    → heard ≡ texts → many ≡ length heard → length lists ≡ many → scripts machine ≤ length lists
scripts_held plan rounds texts heard machine lists many opened as_many same count held =
    let there : scripts machine ≡ sum (sizes_of rounds) = ap (λ (s : State). scripts s) opened ∙ rounds_long 0 (sizes_of rounds) in
    let all = sum_scripts rounds in
    let here = ap (λ (l : List (List ℕ)). length l) same in
    omega (arith, there, all, as_many, here, count, held)

-- what the threads have of the entries of a trace
pub shares_of : (threads order : List ℕ) (entries history : List Entry) (lists : List (List Pair)) (many : ℕ) (counts : Counts) → order ≡ threads → threads ≡ threads_of entries → entries ≡ history → AreOwn lists many history → counts ≡ counts_of entries
    → AreShares order lists counts history
shares_of threads order entries history lists many counts seen are same have was = record {
  ordered = seen ∙ (are ∙ ap (λ (h : List Entry). threads_of h) same);
  listed = subst (λ n. AreOwn lists n history) (sym have.many) have;
  counted = was ∙ ap (λ (h : List Entry). counts_of h) same;
}

-- the verdict on the entries of a trace
pub entries_judged : (means : Means) (tree : Option Files) (plan : RunPlan) (rounds seen : List Round) (texts heard : List (List ℕ)) (history : List Entry) (lists slices : List (List Pair)) (many : ℕ) (verdict : Verdict) (machine : State) (replayed : Replayed) (follows told : List Follow)
    → machine ≡ opening_in plan rounds texts → seen ≡ rounds → heard ≡ texts → told ≡ follows → slices ≡ lists → many ≡ length heard → AreOwn lists many history → Replays machine history replayed → AreFollows means plan.fuel (list_of slices) 0 (told_in tree seen) heard follows → Judges history replayed told verdict
    → JudgesEntries means tree plan rounds texts history verdict
entries_judged means tree plan rounds seen texts heard history lists slices many verdict machine replayed follows told opened same_rounds same_texts same same_lists count have replays are judges = record {
  replayed = replayed;
  replays = subst (λ (s : State). Replays s history replayed) opened replays;
  follows = follows;
  are = subst (λ (r : List Round). AreFollows means plan.fuel (λ t. own t history) 0 (told_in tree r) texts follows) same_rounds
      (subst (λ (t : List (List ℕ)). AreFollows means plan.fuel (λ t. own t history) 0 (told_in tree seen) t follows) same_texts
      (follows_by means plan.fuel (list_of slices) (λ t. own t history) {t = 0} (λ u less. ap (λ (l : List (List Pair)). list_of l u) same_lists ∙ have.own u (omega (arith, less, count))) are));
  judges = subst (λ (f : List Follow). Judges history replayed f verdict) same judges;
}
