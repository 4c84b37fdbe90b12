-- From where a script stands to where it stands next, and to its end.
use Rattle.std.proofs.Common.{◌≡◌, ◌≤◌, ℕ, ◌+◌, ◌-◌, Bool, true, if◌then◌else◌, List, [], ◌∷◌, ◌++◌, Option, Some, Result, Ok, Err, OnErr, refl, sym, ◌∙◌, ap, subst, arith}
use Rattle.std.proofs.lemmas.Bool.{lt-ltb}
use Rattle.std.proofs.lemmas.List.{append-nil}
use Rattle.machine_events.specs.declared.event.Event.{Event}
use Rattle.machine_events.specs.declared.event.Event.TheVariants.{End}
use Rattle.machine_events.specs.declared.event.Reply.{Reply}
use Rattle.machine_events.specs.declared.event.Reply.TheVariants.{Done}
use Rattle.machine_events.specs.declared.event.Outcome.{Outcome}
use Rattle.tree_files.specs.Files.{Files}
use Rattle.machine_shown.specs.Holdings.{Holding}
use Rattle.machine_shown.specs.Shown.{Shown, Running, shown, shown_first, holds}
use Rattle.meaning_runs.specs.Runs.{Run, Over, Pays, Makes, How, Spent, gives_up, spend, play, on_budget, Ending, Came, replies_of, Reaches, starts, pays, makes, told, Looks, Stands, StandsIn, IsSpent, IsUnread, gives, GivesUp, Safe}
use Rattle.meaning_runs.specs.Follows.{Follows, IsPart, Ends}
use Rattle.meaning_runs.specs.Lists.{ends_in}
use Rattle.meaning_runs.proofs.Spends.{spend_reaches, played, safe_reaches, shown-snoc}
use Rattle.meaning_runs.proofs.Giving.{safe_spend}
pub use Rattle.meaning_runs.proofs.Giving.{given, still, may_give}
use Rattle.meaning_runs.proofs.Once.{no_end, once_at_end}

pub stands_start : {files : Option Files} (whole : Run) (fuel : ℕ) → Stands files whole fuel [] fuel whole
stands_start whole fuel = record { paid = 0; sum = omega arith; reaches = starts }

pub stands_paid : {files : Option Files} {whole : Run} {fuel : ℕ} {mine : List (Event × Reply)} {b n : ℕ} {of_tree : Bool} {next : Run} → n ≤ b → Stands files whole fuel mine b (Pays of_tree n next) → Stands files whole fuel mine (b - n) next
stands_paid {mine = mine} {b} {n} {of_tree} {next} enough s = record { paid = s.paid + n; sum = omega (arith, s.sum, enough); reaches = pays s.paid n mine of_tree next s.reaches }

pub stands_made : {files : Option Files} {whole : Run} {fuel : ℕ} {mine mine' : List (Event × Reply)} {b : ℕ} {e : Event} {r : Reply} {next : Reply → Run} → mine' ≡ mine ++ (e, r) ∷ [] → Stands files whole fuel mine b (Makes e next) → Stands files whole fuel mine' b (next r)
stands_made {mine = mine} {e = e} {r} {next} is s = rw is (record { paid = s.paid; sum = s.sum; reaches = makes s.paid mine e r next s.reaches })

pub safe_stands : {files : Option Files} (t : ℕ) {whole : Run} {fuel : ℕ} {mine : List (Event × Reply)} {b : ℕ} {rest : Run} → Stands files whole fuel mine b rest → Safe (shown_first t) whole → Safe (shown t mine) rest
safe_stands t s safe = safe_reaches t s.reaches safe

pub in_some : {files : Option Files} {whole : Run} {fuel : ℕ} {mine : List (Event × Reply)} {b : ℕ} {rest : Run} → Stands files whole fuel mine b rest → StandsIn files whole fuel mine
in_some {b = b} {rest} s = record { budget = b; rest = rest; stands = s }

-- where a script breaks off, its pairs are a part of those of its run
play_none : (f : Files) (run : Run) (pairs : List (Event × Reply)) → (play f run pairs []).pairs ≡ pairs
play_none f (Over how) pairs = refl
play_none f (Pays of_tree n next) pairs = play_none f next pairs
play_none f (Looks q next) pairs = play_none f (next (told f q)) pairs
play_none f (Makes e next) pairs = refl

-- what a run with a budget comes to
pub came : (f : Files) (t : ℕ) (whole : Run) (budget : ℕ) {mine : List (Event × Reply)} {how : How} → Reaches (Some f) (spend budget (shown_first t) whole) 0 mine (Over how) → on_budget f t whole budget (replies_of mine) ≡ record { pairs = mine; stop = Came how; left = [] }
came f t whole budget {mine} {how} r = ap (on_budget f t whole budget) (sym (append-nil (replies_of mine))) ∙ played f r []

-- while it gives up, it breaks off
pub part_given : (f : Files) (t : ℕ) (whole : Run) (budget : ℕ) {mine : List (Event × Reply)} {rest : Run} → Reaches (Some f) (spend budget (shown_first t) whole) 0 mine rest → IsPart f t whole budget mine
part_given f t whole budget {mine} {rest} r = ap (λ (e : Ending). e.pairs) (ap (on_budget f t whole budget) (sym (append-nil (replies_of mine))) ∙ played f r []) ∙ play_none f rest mine

pub over_reached : {files : Option Files} (t : ℕ) {whole : Run} {fuel : ℕ} {mine : List (Event × Reply)} {b : ℕ} {how : How} → Stands files whole fuel mine b (Over how) → Reaches files (spend fuel (shown_first t) whole) 0 mine (Over how)
over_reached {files = files} t {whole} {fuel} {mine} {b} {how} s = subst (λ f. Reaches files (spend f (shown_first t) whole) 0 mine (Over how)) s.sum (spend_reaches t s.reaches b)

-- a spent script gives up
pub spent_gives_up : {files : Option Files} (t : ℕ) {whole : Run} {fuel : ℕ} {mine : List (Event × Reply)} {b : ℕ} → (s : IsSpent files whole fuel mine b) → GivesUp files t whole fuel mine s.of_tree
spent_gives_up {files = files} t {whole} {fuel} {mine} {b} s =
    subst (λ f. Reaches files (spend f (shown_first t) whole) 0 mine (gives_up s.of_tree (shown t mine).held)) s.stands.sum
    (subst (λ (short : Bool). Reaches files (spend (s.stands.paid + b) (shown_first t) whole) 0 mine (if short then gives_up s.of_tree (shown t mine).held else spend (b - s.units) (shown t mine) s.next)) (lt-ltb b s.units s.short)
    (spend_reaches t s.stands.reaches b))

-- a failed call of the file tree: the same, with the budget that was paid before its payment
pub unread_gives_up : {files : Option Files} (t : ℕ) {whole : Run} {fuel : ℕ} {mine : List (Event × Reply)} {b : ℕ} → (s : IsUnread files whole fuel mine b) → GivesUp files t whole (fuel - b) mine true
unread_gives_up {files = files} t {whole} {fuel} {mine} {b} s =
    let same : s.stands.paid + 0 ≡ fuel - b = omega (arith, s.stands.sum) in
    subst (λ f. Reaches files (spend f (shown_first t) whole) 0 mine (gives_up true (shown t mine).held)) same
    (subst (λ (short : Bool). Reaches files (spend (s.stands.paid + 0) (shown_first t) whole) 0 mine (if short then gives_up true (shown t mine).held else spend (0 - s.units) (shown t mine) s.next)) (lt-ltb 0 s.units s.some)
    (spend_reaches t s.stands.reaches 0))

-- the whole script
pub whole_of : (f : Files) (t : ℕ) {run : Run} {fuel : ℕ} {before mine : List (Event × Reply)} {outcome : Outcome} (paid : ℕ) {how : How} {r : Reply} → mine ≡ before ++ (End outcome paid, r) ∷ [] → r ≡ Done → Reaches (Some f) (spend paid (shown_first t) run) 0 before (Over how) → Ends fuel outcome paid how → Safe (shown_first t) run → Follows f t run fuel mine outcome
whole_of f t {run} {fuel} {before} {mine} {outcome} paid {how} {r} is done reached ends safe = record {
  before = before;
  paid = paid;
  how = how;
  whole = is ∙ ap (λ x. before ++ (End outcome paid, x) ∷ []) done;
  once = ap ends_in is ∙ once_at_end before outcome paid r (no_end t reached (safe_spend run paid (shown_first t) safe));
  eval = came f t run paid reached;
  ends = ends;
}

pub on_err : {T E : Type 0} (r : Result T E) {P : Type 0} → P → OnErr r P
on_err (Ok x) p = tt
on_err (Err e) p = p

-- what one more pair shows
pub held_more : (t : ℕ) (h : Holding) (held : List Holding) (mine mine' : List (Event × Reply)) (r : Reply) → (shown t mine).held ≡ h ∷ held → mine' ≡ mine ++ (gives h, r) ∷ [] → (shown t mine').held ≡ held
held_more t h held mine mine' r is more = rw more (ap (λ (s : Shown). s.held) (shown-snoc t mine (gives h, r)) ∙ (ap (holds (gives h) r) is ∙ given h r held))

-- one more is given up
pub gives_more : {files : Option Files} (t : ℕ) (whole : Run) (budget : ℕ) (h : Holding) (held : List Holding) (mine mine' : List (Event × Reply)) (of_tree : Bool) (r : Reply) → (shown t mine).held ≡ h ∷ held → mine' ≡ mine ++ (gives h, r) ∷ [] → GivesUp files t whole budget mine of_tree → GivesUp files t whole budget mine' of_tree
gives_more {files = files} t whole budget h held mine mine' of_tree r is more up =
    let here : Reaches files (spend budget (shown_first t) whole) 0 mine (gives_up of_tree (h ∷ held)) = subst (λ (held : List Holding). Reaches files (spend budget (shown_first t) whole) 0 mine (gives_up of_tree held)) is up in
    let after : (shown t (mine ++ (gives h, r) ∷ [])).held ≡ held = held_more t h held mine (mine ++ (gives h, r) ∷ []) r is refl in
    rw more (subst (λ (held : List Holding). Reaches files (spend budget (shown_first t) whole) 0 (mine ++ (gives h, r) ∷ []) (gives_up of_tree held)) (sym after) (makes 0 mine (gives h) r (λ _. gives_up of_tree held) here))

pub runs_more : (t : ℕ) (h : Holding) (mine mine' : List (Event × Reply)) (r : Reply) → (shown t mine).doing ≡ Running → mine' ≡ mine ++ (gives h, r) ∷ [] → (shown t mine').doing ≡ Running
runs_more t h mine mine' r is more = rw more (ap (λ (s : Shown). s.doing) (shown-snoc t mine (gives h, r)) ∙ (still h r (shown t mine).doing ∙ is))

pub all_given : {files : Option Files} (t : ℕ) (whole : Run) (budget : ℕ) (mine : List (Event × Reply)) (of_tree : Bool) → (shown t mine).held ≡ [] → GivesUp files t whole budget mine of_tree → Reaches files (spend budget (shown_first t) whole) 0 mine (Over (Spent of_tree))
all_given {files = files} t whole budget mine of_tree is up = subst (λ (held : List Holding). Reaches files (spend budget (shown_first t) whole) 0 mine (gives_up of_tree held)) is up
