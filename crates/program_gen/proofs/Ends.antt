-- How a script ended, entry by entry.
use Rattle.std.proofs.Common.{◌≡◌, ◌∙◌, append-nil, refl, ap, ℕ, ◌==◌, List, [], ◌∷◌, ◌++◌, Bool, true, false, cond, map, Option, Some, None}
use Rattle.std.proofs.lemmas.List.{map-append}
use Rattle.std.proofs.lemmas.List.Elements.{filter-append}
use Rattle.std.specs.List.{filter}
use Rattle.std.specs.Option.{option_or}
use Rattle.machine_events.specs.declared.event.Event.{Event}
use Rattle.machine_events.specs.declared.event.Reply.{Reply}
use Rattle.machine_events.specs.declared.event.Entry.{Entry}
use Rattle.machine_events.specs.declared.event.Outcome.{Outcome}
use Rattle.machine_shown.specs.Own.{own}
use Rattle.program_run.specs.Ends.{end_in, end_of, number_at}
use Rattle.program_gen.specs.Worst.{number_or, number_behind}

first_none : (o : Option Outcome) → option_or None o ≡ option_or o None
first_none None = refl
first_none (Some outcome) = refl

one_after_other : (a b c : Option Outcome) → option_or (option_or a b) c ≡ option_or a (option_or b c)
one_after_other None b c = refl
one_after_other (Some outcome) b c = refl

-- a pair behind others
end_of-push : (pairs : List (Event × Reply)) (p : Event × Reply) → end_of (pairs ++ p ∷ []) ≡ option_or (end_in p.0) (end_of pairs)
end_of-push [] p = first_none (end_in p.0)
end_of-push (q ∷ pairs) p = ap (λ o. option_or o (end_in q.0)) (end_of-push pairs p) ∙ one_after_other (end_in p.0) (end_of pairs) (end_in q.0)

number_at-or : (o before : Option Outcome) → number_at (option_or o before) ≡ number_or (number_at before) o
number_at-or None before = refl
number_at-or (Some outcome) before = refl

pair_of : Entry → Event × Reply
pair_of entry = (entry.event, entry.reply)

one_own : Bool → Entry → List (Event × Reply)
one_own true entry = pair_of entry ∷ []
one_own false entry = []

own-one : (b : Bool) (entry : Entry) → map (λ e. (e.event, e.reply)) (cond b (entry ∷ []) []) ≡ one_own b entry
unfolding one_own pair_of
own-one true entry = refl
own-one false entry = refl

own-push : (t : ℕ) (history : List Entry) (entry : Entry) → own t (history ++ entry ∷ []) ≡ own t history ++ one_own (entry.thread == t) entry
own-push t history entry =
    ap (map (λ e. (e.event, e.reply))) (filter-append (λ e. e.thread == t) history (entry ∷ []))
    ∙ map-append (λ e. (e.event, e.reply)) (filter (λ e. e.thread == t) history) (filter (λ e. e.thread == t) (entry ∷ []))
    ∙ ap (λ more. own t history ++ more) (own-one (entry.thread == t) entry)

behind : (b : Bool) (pairs : List (Event × Reply)) (entry : Entry)
    → number_at (end_of (pairs ++ one_own b entry)) ≡ cond b (number_or (number_at (end_of pairs)) (end_in entry.event)) (number_at (end_of pairs))
unfolding one_own pair_of
behind true pairs entry = ap number_at (end_of-push pairs (pair_of entry)) ∙ number_at-or (end_in entry.event) (end_of pairs)
behind false pairs entry = ap (λ list. number_at (end_of list)) (append-nil pairs)

-- one entry more
pub number-push : (t : ℕ) (history : List Entry) (entry : Entry) → number_at (end_of (own t (history ++ entry ∷ []))) ≡ number_behind (number_at (end_of (own t history))) entry t
number-push t history entry = ap (λ list. number_at (end_of list)) (own-push t history entry) ∙ behind (entry.thread == t) (own t history) entry
