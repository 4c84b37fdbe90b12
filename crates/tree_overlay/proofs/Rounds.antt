-- Forks that are made one after another.
use Rattle.std.proofs.Common.{◌≡◌, ◌∙◌, ◌<◌, ◌≤◌, refl, sym, ap, subst, arith, ℕ, zero, suc, ◌+◌, ◌&&◌, Bool, true, false, List, [], ◌∷◌, ◌++◌, length, map, take, get_or, Option, Some}
use Rattle.std.specs.List.{list_all}
use Rattle.std.proofs.lemmas.List.{append-nil, append_assoc, take_more}
use Rattle.std.proofs.lemmas.List.Folds.{list_all-append}
use Rattle.tree_files.specs.Files.{Files}
use Rattle.tree_files.specs.Edits.{edited}
use Rattle.tree_files.specs.declared.edit.Edit.{Edit}
use Rattle.tree_overlay.specs.Kinds.{IsBelowRoot, is_below_root}
use Rattle.tree_overlay.specs.Told.{edited_told}
use Rattle.tree_overlay.proofs.Overlaid.{told_append}
use Rattle.tree_overlay.specs.Rounds.{AreBelowRoot, AreForks, Absorbed, trees_of, total}

-- all edits of these rounds, in order
abbrev pub all_edits : List (List Edit) → List Edit
all_edits [] = []
all_edits (edits ∷ rounds) = edits ++ all_edits rounds

pub all_more : (rounds : List (List Edit)) (edits : List Edit) → all_edits (rounds ++ edits ∷ []) ≡ all_edits rounds ++ edits
all_more [] edits = append-nil edits
all_more (es ∷ rounds) edits = ap (λ (x : List Edit). es ++ x) (all_more rounds edits) ∙ sym (append_assoc es (all_edits rounds) edits)

-- the rounds so far and one more
next_round : (rounds : List (List Edit)) (i : ℕ) (round : List Edit) → i < length rounds → round ≡ get_or rounds i round → take (i + 1) rounds ≡ take i rounds ++ round ∷ []
next_round rounds i round low is = take_more rounds i round low ∙ ap (λ (x : List Edit). take i rounds ++ x ∷ []) (sym is)

pub edits_next : (rounds : List (List Edit)) (i : ℕ) (round edits more new : List Edit) → i < length rounds → round ≡ get_or rounds i round → edits ≡ all_edits (take i rounds) → more ≡ round → new ≡ edits ++ more → new ≡ all_edits (take (i + 1) rounds)
edits_next rounds i round edits more new low is was same joined =
    joined ∙ (ap (λ (x : List Edit). x ++ more) was ∙ (ap (λ (x : List Edit). all_edits (take i rounds) ++ x) same ∙ (sym (all_more (take i rounds) round) ∙ sym (ap all_edits (next_round rounds i round low is)))))

module _ {F : Type 0} (told : F → Option Files) (faults lists : F → ℕ) where
  pub told_by : (files : Files) (rounds : List (List Edit)) (forks : List F) → AreForks told faults lists (Some files) rounds forks → map told forks ≡ map (λ f. Some f) (trees_of files rounds)
  told_by files [] [] are = refl
  told_by files [] (fork ∷ forks) are = absurd are
  told_by files (edits ∷ rounds) [] are = absurd are
  told_by files (edits ∷ rounds) (fork ∷ forks) are =
      ap (λ (o : Option Files). o ∷ map told forks) are.0 ∙ ap (λ (os : List (Option Files)). Some (edited files edits) ∷ os) (told_by (edited files edits) rounds forks are.3)

  -- one fork more, over all edits so far
  pub forks_more : (tree : Option Files) (rounds : List (List Edit)) (edits : List Edit) (forks : List F) (fork : F) → AreForks told faults lists tree rounds forks
      → told fork ≡ edited_told (all_edits rounds ++ edits) tree → faults fork ≡ 0 → lists fork ≡ 0 → AreForks told faults lists tree (rounds ++ edits ∷ []) (forks ++ fork ∷ [])
  forks_more tree [] edits [] fork are is f l = (is, f, l, tt)
  forks_more tree [] edits (x ∷ forks) fork are is f l = absurd are
  forks_more tree (es ∷ rounds) edits [] fork are is f l = absurd are
  forks_more tree (es ∷ rounds) edits (x ∷ forks) fork are is f l =
      let behind : told fork ≡ edited_told (all_edits rounds ++ edits) (edited_told es tree) = is ∙ told_append tree es (all_edits rounds ++ edits) ((es ++ all_edits rounds) ++ edits) (append_assoc es (all_edits rounds) edits) in
      (are.0, are.1, are.2, forks_more (edited_told es tree) rounds edits forks fork are.3 behind f l)

  pub forks_next : (tree now : Option Files) (rounds : List (List Edit)) (i : ℕ) (round edits : List Edit) (forks forks' : List F) (fork : F) → i < length rounds → round ≡ get_or rounds i round → AreForks told faults lists tree (take i rounds) forks
      → edits ≡ all_edits (take (i + 1) rounds) → now ≡ tree → told fork ≡ edited_told edits now → faults fork ≡ 0 → lists fork ≡ 0 → forks' ≡ forks ++ fork ∷ [] → AreForks told faults lists tree (take (i + 1) rounds) forks'
  forks_next tree now rounds i round edits forks forks' fork low is are edits_are same tells f l joined =
      let more = next_round rounds i round low is in
      let here : told fork ≡ edited_told (all_edits (take i rounds) ++ round) tree = tells ∙ (ap (edited_told edits) same ∙ ap (λ (es : List Edit). edited_told es tree) (edits_are ∙ (ap all_edits more ∙ all_more (take i rounds) round))) in
      subst (λ (xs : List F). AreForks told faults lists tree (take (i + 1) rounds) xs) (sym joined)
      (subst (λ (rs : List (List Edit)). AreForks told faults lists tree rs (forks ++ fork ∷ [])) (sym more)
      (forks_more tree (take i rounds) round forks fork are here f l))

both : (a b : Bool) → a ≡ true → b ≡ true → (a && b) ≡ true
both true b p q = q
both false b p q = p

-- so has each edit of the first rounds
pub below_front : (n : ℕ) (rounds : List (List Edit)) → AreBelowRoot rounds → IsBelowRoot (all_edits (take n rounds))
below_front zero rounds below = refl
below_front (suc n) [] below = refl
below_front (suc n) (es ∷ rounds) below = list_all-append is_below_root es (all_edits (take n rounds)) ∙ both (list_all is_below_root es) (list_all is_below_root (all_edits (take n rounds))) below.0 (below_front n rounds below.1)

-- ---- what forks counted

total_more : {F : Type 0} (count : F → ℕ) (forks : List F) (fork : F) → total count (forks ++ fork ∷ []) ≡ total count forks + count fork
total_more count [] fork = omega arith
total_more count (x ∷ forks) fork = let rest = total_more count forks fork in omega (arith, rest)

pub faults_step : {F : Type 0} (count : F → ℕ) (forks left : List F) (fork : F) (a b new : ℕ) → forks ≡ left ++ fork ∷ [] → Absorbed a (count fork) b → Absorbed b (total count left) new → Absorbed a (total count forks) new
faults_step count forks left fork a b new is p q =
    let sum : total count forks ≡ total count left + count fork = ap (total count) is ∙ total_more count left fork in
    let first = p.least in
    let rest = q.least in
    record {
      least = omega (arith, sum, first, rest);
      none = λ none.
          let low = p.none (omega (arith, sum, none)) in
          let high = q.none (omega (arith, sum, none)) in
          omega (arith, low, high);
    }

pub lists_step : {F : Type 0} (count : F → ℕ) (forks left : List F) (fork : F) (a b new : ℕ) → forks ≡ left ++ fork ∷ [] → b ≤ a + count fork → new ≤ b + total count left → new ≤ a + total count forks
lists_step count forks left fork a b new is p q = let sum : total count forks ≡ total count left + count fork = ap (total count) is ∙ total_more count left fork in omega (arith, sum, p, q)

pub faults_end : {F : Type 0} (count : F → ℕ) (forks : List F) (now : ℕ) → forks ≡ [] → Absorbed now (total count forks) now
faults_end count forks now is = let none : total count forks ≡ 0 = ap (total count) is in record { least = omega (arith, none); none = λ zero. omega arith }

pub lists_end : {F : Type 0} (count : F → ℕ) (forks : List F) (now : ℕ) → forks ≡ [] → now ≤ now + total count forks
lists_end count forks now is = omega arith
