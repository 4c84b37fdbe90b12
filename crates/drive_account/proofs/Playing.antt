-- How a run plays on the first of some replies.
use Rattle.std.proofs.Common.{◌≡◌, ℕ, ◌+◌, List, [], ◌∷◌, ◌++◌, refl, sym, ◌∙◌, ap, arith}
use Rattle.std.proofs.lemmas.List.{append-nil, append_assoc, append_cancel_left}
use Rattle.tree_files.specs.Files.{Files}
use Rattle.machine_events.specs.declared.event.Event.{Event}
use Rattle.machine_events.specs.declared.event.Reply.{Reply}
use Rattle.machine_shown.specs.Shown.{Shown, shown_first, shown_more}
use Rattle.meaning_runs.specs.Lists.{ends, ends_in}
use Rattle.meaning_runs.specs.Runs.{Run, Over, Pays, Looks, Makes, Stop, Cut, Ending, play, spend, on_budget, replies_of, told, Safe}
use Rattle.meaning_runs.proofs.Spends.{play_longer, safe_looked}
use Rattle.meaning_runs.proofs.Giving.{safe_spend}
use Rattle.meaning_runs.proofs.Once.{no_end_made}

abbrev ended : List (Event × Reply) → Stop → Ending
ended pairs stop = record { pairs = pairs; stop = stop; left = [] }

-- the pair behind the same pairs is the same
next_same : (pairs a b : List (Event × Reply)) (p q : Event × Reply) → (pairs ++ p ∷ []) ++ a ≡ pairs ++ q ∷ b → p ≡ q
next_same pairs a b p q is =
    let same : p ∷ a ≡ q ∷ b = append_cancel_left pairs (p ∷ a) (q ∷ b) (sym (append_assoc pairs (p ∷ []) a) ∙ is) in
    cc same

-- the event that a run makes first is that of the first pair
first_made : (f : Files) (event : Event) (next : Reply → Run) (pairs more : List (Event × Reply)) (p : Event × Reply) (stop : Stop)
    → play f (Makes event next) pairs (replies_of (p ∷ more)) ≡ ended (pairs ++ p ∷ more) stop → event ≡ p.0
first_made f event next pairs more p stop is =
    let longer = play_longer f (next p.1) (pairs ++ (event, p.1) ∷ []) (replies_of more) in
    let same : (event, p.1) ≡ p = next_same pairs longer.0 more (event, p.1) p (sym longer.1 ∙ ap (λ (x : Ending). x.pairs) is) in
    ap (λ (x : Event × Reply). x.0) same

-- a run that makes some pairs on their replies is cut, on fewer of these replies, at the event of the next pair
pub play_cut : (f : Files) (run : Run) (pairs before more : List (Event × Reply)) (p : Event × Reply) (stop : Stop)
    → play f run pairs (replies_of (before ++ p ∷ more)) ≡ ended (pairs ++ (before ++ p ∷ more)) stop
    → play f run pairs (replies_of before) ≡ ended (pairs ++ before) (Cut p.0)
play_cut f (Over how) pairs [] more p stop is = absurd (cc (ap (λ (x : Ending). x.left) is))
play_cut f (Over how) pairs (q ∷ before) more p stop is = absurd (cc (ap (λ (x : Ending). x.left) is))
play_cut f (Pays of_tree n next) pairs before more p stop is = play_cut f next pairs before more p stop is
play_cut f (Looks question next) pairs before more p stop is = play_cut f (next (told f question)) pairs before more p stop is
play_cut f (Makes event next) pairs [] more p stop is =
    let same : event ≡ p.0 = first_made f event next pairs more p stop is in
    ap (λ (x : Event). ended pairs (Cut x)) same ∙ ap (λ (x : List (Event × Reply)). ended x (Cut p.0)) (sym (append-nil pairs))
play_cut f (Makes event next) pairs (q ∷ before) more p stop is =
    let same : event ≡ q.0 = first_made f event next pairs (before ++ p ∷ more) q stop is in
    let whole : play f (next q.1) (pairs ++ (event, q.1) ∷ []) (replies_of (before ++ p ∷ more)) ≡ ended ((pairs ++ (event, q.1) ∷ []) ++ (before ++ p ∷ more)) stop =
    is ∙ ap (λ (x : List (Event × Reply)). ended x stop) (ap (λ (x : Event). pairs ++ (x, q.1) ∷ (before ++ p ∷ more)) (sym same) ∙ sym (append_assoc pairs ((event, q.1) ∷ []) (before ++ p ∷ more))) in
    play_cut f (next q.1) (pairs ++ (event, q.1) ∷ []) before more p stop whole
    ∙ ap (λ (x : List (Event × Reply)). ended x (Cut p.0)) (append_assoc pairs ((event, q.1) ∷ []) before ∙ ap (λ (x : Event). pairs ++ (x, q.1) ∷ before) same)

pub ends_more : (pairs : List (Event × Reply)) (p : Event × Reply) → ends_in (pairs ++ p ∷ []) ≡ ends_in pairs + ends p.0
ends_more [] p = omega arith
ends_more (q ∷ pairs) p = let rest = ends_more pairs p in omega (arith, rest)

-- a safe run makes no End
play_no_end : (f : Files) (run : Run) (s : Shown) (pairs : List (Event × Reply)) (replies : List Reply) → Safe s run → ends_in pairs ≡ 0 → ends_in (play f run pairs replies).pairs ≡ 0
play_no_end f (Over how) s pairs replies safe none = none
play_no_end f (Pays of_tree n next) s pairs replies safe none = play_no_end f next s pairs replies safe.1 none
play_no_end f (Looks question next) s pairs replies safe none = play_no_end f (next (told f question)) s pairs replies (safe_looked s question (told f question) next safe) none
play_no_end f (Makes event next) s pairs [] safe none = none
play_no_end f (Makes event next) s pairs (r ∷ replies) safe none =
    let more = ends_more pairs (event, r) in
    let here = no_end_made event next s safe in
    play_no_end f (next r) (shown_more s (event, r)) (pairs ++ (event, r) ∷ []) replies (safe.1 r) (omega (arith, more, here, none))

pub budget_no_end : (f : Files) (t : ℕ) (run : Run) (budget : ℕ) (replies : List Reply) → Safe (shown_first t) run → ends_in (on_budget f t run budget replies).pairs ≡ 0
budget_no_end f t run budget replies safe = play_no_end f (spend budget (shown_first t) run) (shown_first t) [] replies (safe_spend run budget (shown_first t) safe) refl
