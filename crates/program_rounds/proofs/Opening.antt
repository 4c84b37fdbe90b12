-- Scripts that are opened round after round.
use Rattle.std.proofs.Common.{◌≡◌, ◌<◌, ◌≤◌, ℕ, zero, suc, ◌+◌, List, [], ◌∷◌, ◌++◌, length, take, drop, get_or, Option, Some, None, Err, refl, sym, ap, subst, ◌∙◌, arith}
use Rattle.std.proofs.lemmas.List.{append-nil, append_assoc, drop_more, take-append-drop}
use Rattle.tree_files.specs.Files.{Files}
use Rattle.tree_files.specs.Count.{Rose}
use Rattle.tree_overlay.specs.Kinds.{IsBelowRoot}
use Rattle.tree_overlay.specs.Told.{edited_told}
use Rattle.words_rounds.specs.Refusing.{IsRefusedAt, Says}
use Rattle.words_rounds.specs.declared.rounds.Round.{Round}
use Rattle.words_rounds.specs.declared.rounds.RoundsError.{RoundsError}
use Rattle.words_rounds.specs.declared.rounds.RoundsError.TheVariants as error
use Rattle.import_words.specs.Words.{Word}
use Rattle.program_run.specs.Scripts.{Opens, EachOpens, IsLineOf, Stops}
use Rattle.program_run.specs.declared.open.Opened.{Opened}
use Rattle.program_run.specs.declared.open.Opened.TheVariants as opened
use Rattle.program_run.specs.declared.open.Unopened.{Unopened}
use Rattle.program_run.specs.declared.open.Unopened.TheVariants as unopened
use Rattle.program_rounds.specs.Rounds.{AreBelowRoot}
use Rattle.program_rounds.proofs.Begun.{next_round}
use Rattle.program_rounds.specs.Opened.{refusal_of, line_refused, HasNoRounds, WantsRounds, files_after, EachRoundOpens, OpensRound, StopsIn}

-- no edit changes nothing
pub told_same : (tree : Option Files) → edited_told [] tree ≡ tree
told_same None = refl
told_same (Some files) = refl

-- the line about a rounds file that is none
pub wants_file : (tree : Option Files) (file : Word) (old new : ℕ) (it : Opened) (text : List ℕ) → Opens tree file it → refusal_of file it ≡ Some text → (why : Unopened) → IsLineOf (Some text) why → WantsRounds tree file old new why
wants_file tree file old new it text opens is (unopened.Refused line) told = HasNoRounds.unopened it opens (is ∙ told)
wants_file tree file old new it text opens is unopened.Unread told = absurd told
wants_file tree file old new it text opens is unopened.NoMemory told = tt

pub unspelled : (tree : Option Files) (file : Word) (old new : ℕ) (bytes seen : List ℕ) (e : RoundsError) (line : ℕ) → Opens tree file (opened.Text bytes) → seen ≡ bytes → Says seen (Err e) → e ≡ error.At line → (why : Unopened) → IsLineOf (Some (line_refused file line)) why
    → WantsRounds tree file old new why
unspelled tree file old new bytes seen e line opens same says is (unopened.Refused it) told =
    let lines : line_refused file line ≡ it.items = cc told in
    let refused : IsRefusedAt line seen = subst (λ (x : RoundsError). Says seen (Err x)) is says in
    HasNoRounds.unspelled bytes line opens (subst (λ (b : List ℕ). IsRefusedAt line b) same refused) (sym lines)
unspelled tree file old new bytes seen e line opens same says is unopened.Unread told = absurd told
unspelled tree file old new bytes seen e line opens same says is unopened.NoMemory told = tt

-- one round more
pub after_more : (tree : Option Files) (rounds : List Round) (round : Round) → files_after tree (rounds ++ round ∷ []) ≡ edited_told round.edits (files_after tree rounds)
after_more tree [] round = refl
after_more tree (r ∷ rounds) round = after_more (edited_told r.edits tree) rounds round

pub opens_more : (tree : Option Files) (rounds : List Round) (round : Round) (texts here : List (List ℕ)) → EachRoundOpens tree rounds texts → EachOpens (edited_told round.edits (files_after tree rounds)) round.scripts here
    → EachRoundOpens tree (rounds ++ round ∷ []) (texts ++ here)
opens_more tree [] round texts here none each = (here, [], each, refl, ap (λ (ts : List (List ℕ)). ts ++ here) none ∙ sym (append-nil here))
opens_more tree (r ∷ rounds) round texts here opens each = (
  opens.0,
  opens.1 ++ here,
  opens.2,
  opens_more (edited_told r.edits tree) rounds round opens.1 here opens.3 each,
  ap (λ (ts : List (List ℕ)). ts ++ here) opens.4 ∙ append_assoc opens.0 opens.1 here,
)

-- one has a script without a text: this is why, whatever stands behind it
pub stops_in : (tree : Option Files) (old mid new : ℕ) (before behind : List Round) (round : Round) (texts : List (List ℕ)) (rounds : List Round) (why : Unopened) → old ≤ mid → rounds ≡ before ++ round ∷ behind → EachRoundOpens tree before texts
    → Stops (edited_told round.edits (files_after tree before)) round.scripts mid new why → StopsIn tree rounds old new why
stops_in tree old mid new before behind round texts rounds (unopened.Refused line) later whole opens stop =
    record { round = round; reached = record { before = before; behind = behind; whole = whole; texts = texts; opened = opens }; refused = stop }
stops_in tree old mid new before behind round texts rounds unopened.Unread later whole opens stop = let rose = stop.rose in omega (arith, later, rose)
stops_in tree old mid new before behind round texts rounds unopened.NoMemory later whole opens stop = tt

-- ---- at round number i

pub below_at : (rounds : List Round) (i : ℕ) (round : Round) → AreBelowRoot rounds → i < length rounds → round ≡ get_or rounds i round → IsBelowRoot round.edits
below_at [] i round below low is = absurd (omega (arith, low))
below_at (r ∷ rounds) zero round below low is = subst (λ (x : Round). IsBelowRoot x.edits) (sym is) below.0
below_at (r ∷ rounds) (suc i) round below low is = below_at rounds i round below.1 (omega (arith, low)) is

module _ (tree : Option Files) (rounds : List Round) (i : ℕ) (round : Round) (low : i < length rounds) (is : round ≡ get_or rounds i round) (now : Option Files) (same : now ≡ files_after tree (take i rounds)) (texts : List (List ℕ)) (opens : EachRoundOpens tree (take i rounds) texts) where
  pub files_next : (new : Option Files) → new ≡ edited_told round.edits now → new ≡ files_after tree (take (i + 1) rounds)
  files_next new edits = edits ∙ (ap (edited_told round.edits) same ∙ (sym (after_more tree (take i rounds) round) ∙ ap (files_after tree) (sym (next_round rounds i round low is))))

  pub texts_next : (new : List (List ℕ)) → OpensRound (edited_told round.edits now) round.scripts texts new → EachRoundOpens tree (take (i + 1) rounds) new
  texts_next new more =
      subst (λ (ts : List (List ℕ)). EachRoundOpens tree (take (i + 1) rounds) ts) (sym more.joined)
      (subst (λ (rs : List Round). EachRoundOpens tree rs (texts ++ more.here)) (sym (next_round rounds i round low is))
      (opens_more tree (take i rounds) round texts more.here opens (subst (λ (t : Option Files). EachOpens (edited_told round.edits t) round.scripts more.here) same more.opened)))

  pub stops_at_round : (old mid new : ℕ) (why : Unopened) → old ≤ mid → Stops (edited_told round.edits now) round.scripts mid new why → StopsIn tree rounds old new why
  stops_at_round old mid new why later stop =
      let whole : rounds ≡ take i rounds ++ round ∷ drop (i + 1) rounds = sym (take-append-drop i rounds) ∙ ap (λ (rs : List Round). take i rounds ++ rs) (drop_more rounds i round low ∙ ap (λ (x : Round). x ∷ drop (i + 1) rounds) (sym is)) in
      stops_in tree old mid new (take i rounds) (drop (i + 1) rounds) round texts rounds why later whole opens (subst (λ (t : Option Files). Stops (edited_told round.edits t) round.scripts mid new why) same stop)
