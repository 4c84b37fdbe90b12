-- A run that comes somewhere comes there with each budget that is enough for it.
use Rattle.std.proofs.Common.{◌≡◌, ℕ, ◌+◌, Bool, false, nat_lt, List, [], ◌∷◌, ◌++◌, fold, refl, sym, ◌∙◌, ap, subst, arith, Option, Some}
use Rattle.std.proofs.lemmas.Bool.{le-ltb}
use Rattle.std.proofs.lemmas.List.{append-nil, append_assoc, map-append}
use Rattle.machine_events.specs.declared.event.Event.{Event}
use Rattle.machine_events.specs.declared.event.Reply.{Reply}
use Rattle.tree_files.specs.Files.{Files}
use Rattle.machine_shown.specs.Shown.{Shown, shown, shown_first, shown_more}
use Rattle.meaning_runs.specs.Runs.{Run, Over, Pays, Makes, spend, play, on_budget, replies_of, Reaches, starts, pays, looks, makes, Question, StampOf, TextOf, NamesOf, Answer, told, Looks, Safe}

-- what one more pair shows
pub shown-snoc : (t : ℕ) (pairs : List (Event × Reply)) (p : Event × Reply) → shown t (pairs ++ p ∷ []) ≡ shown_more (shown t pairs) p
shown-snoc t pairs p = go pairs (shown_first t) p
  where
    go : (pairs : List (Event × Reply)) (s : Shown) (p : Event × Reply) → fold shown_more s (pairs ++ p ∷ []) ≡ shown_more (fold shown_more s pairs) p
    go [] s p = refl
    go (q ∷ qs) s p = go qs (shown_more s q) p

not_less : (n k : ℕ) → nat_lt (n + k) n ≡ false
not_less n k = le-ltb (n + k) n (omega arith)

spend_paid : (n k : ℕ) (s : Shown) (of_tree : Bool) (next : Run) → spend (n + k) s (Pays of_tree n next) ≡ spend k s next
spend_paid n k s of_tree next = rw (not_less n k) (ap (λ b. spend b s next) (omega arith))

pub spend_reaches : (t : ℕ) {files : Option Files} {whole : Run} {paid : ℕ} {pairs : List (Event × Reply)} {rest : Run} → Reaches files whole paid pairs rest → (k : ℕ) → Reaches files (spend (paid + k) (shown_first t) whole) 0 pairs (spend k (shown t pairs) rest)
spend_reaches t {files} {whole} starts k = subst (λ b. Reaches files (spend b (shown_first t) whole) 0 [] (spend k (shown_first t) whole)) (zero_plus k) starts
  where
    zero_plus : (k : ℕ) → k ≡ 0 + k
    zero_plus k = omega arith
spend_reaches t {files} {whole} (pays paid n pairs of_tree next r) k =
    let same : paid + n + k ≡ paid + (n + k) = omega arith in
    subst (λ b. Reaches files (spend b (shown_first t) whole) 0 pairs (spend k (shown t pairs) next)) (sym same)
    (subst (λ run. Reaches files (spend (paid + (n + k)) (shown_first t) whole) 0 pairs run) (spend_paid n k (shown t pairs) of_tree next) (spend_reaches t r (n + k)))
spend_reaches t {files} {whole} (looks paid pairs q a next h at) k = looks 0 pairs q a (λ a. spend k (shown t pairs) (next a)) h (spend_reaches t at k)
spend_reaches t {files} {whole} (makes paid pairs e r next at) k =
    subst (λ s. Reaches files (spend (paid + k) (shown_first t) whole) 0 (pairs ++ (e, r) ∷ []) (spend k s (next r))) (sym (shown-snoc t pairs (e, r)))
    (makes 0 pairs e r (λ r. spend k (shown_more (shown t pairs) (e, r)) (next r)) (spend_reaches t at k))

-- on the replies of what was made, and any further ones, a run goes on from there
pub played : (f : Files) {whole : Run} {paid : ℕ} {pairs : List (Event × Reply)} {rest : Run} → Reaches (Some f) whole paid pairs rest → (replies : List Reply) → play f whole [] (replies_of pairs ++ replies) ≡ play f rest pairs replies
played f starts replies = refl
played f (pays paid n pairs of_tree next r) replies = played f r replies
played f (looks paid pairs q a next h at) replies = played f at replies ∙ ap (λ (a : Answer q). play f (next a) pairs replies) (sym h)
played f {whole} (makes paid pairs e r next at) replies =
    ap (play f whole []) (ap (λ w. w ++ replies) (map-append (λ (p : Event × Reply). p.1) pairs ((e, r) ∷ [])) ∙ append_assoc (replies_of pairs) (r ∷ []) replies)
    ∙ played f at (r ∷ replies)

pub safe_looked : (s : Shown) (q : Question) (a : Answer q) (next : Answer q → Run) → Safe s (Looks q next) → Safe s (next a)
safe_looked s (StampOf path) a next safe = safe.1 a
safe_looked s (TextOf path) a next safe = safe.1 a
safe_looked s (NamesOf path) a next safe = (safe.1 a).1

-- what is shown is enough for what a safe run comes to
pub safe_reaches : (t : ℕ) {files : Option Files} {whole : Run} {paid : ℕ} {pairs : List (Event × Reply)} {rest : Run} → Reaches files whole paid pairs rest → Safe (shown_first t) whole → Safe (shown t pairs) rest
safe_reaches t starts safe = safe
safe_reaches t (pays paid n pairs of_tree next r) safe = (safe_reaches t r safe).1
safe_reaches t (looks paid pairs q a next h at) safe = safe_looked (shown t pairs) q a next (safe_reaches t at safe)
safe_reaches t (makes paid pairs e r next at) safe =
    subst (λ s. Safe s (next r)) (sym (shown-snoc t pairs (e, r))) ((safe_reaches t at safe).1 r)

-- the run with a budget goes on as the rest with what is left of it
pub on_budget_at : (f : Files) (t : ℕ) {whole : Run} {paid : ℕ} {pairs : List (Event × Reply)} {rest : Run} {budget : ℕ} {replies : List Reply} → Reaches (Some f) whole paid pairs rest → (k : ℕ) (more : List Reply) → budget ≡ paid + k → replies ≡ replies_of pairs ++ more → on_budget f t whole budget replies ≡ play f (spend k (shown t pairs) rest) pairs more
on_budget_at f t {whole} {budget = budget} r k more same begin = rw same (rw begin (played f (spend_reaches t r k) more))

-- no event is lost
pub play_longer : (f : Files) (run : Run) (pairs : List (Event × Reply)) (replies : List Reply) → (more : List (Event × Reply)) × ((play f run pairs replies).pairs ≡ pairs ++ more)
play_longer f (Over how) pairs replies = ([], sym (append-nil pairs))
play_longer f (Pays of_tree n next) pairs replies = play_longer f next pairs replies
play_longer f (Looks q next) pairs replies = play_longer f (next (told f q)) pairs replies
play_longer f (Makes e next) pairs [] = ([], sym (append-nil pairs))
play_longer f (Makes e next) pairs (r ∷ replies) =
    let below = play_longer f (next r) (pairs ++ (e, r) ∷ []) replies in
    ((e, r) ∷ below.0, below.1 ∙ append_assoc pairs ((e, r) ∷ []) below.0)
