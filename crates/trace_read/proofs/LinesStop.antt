-- A trace is refused at its first line that is none.
use Rattle.std.proofs.Common.{◌≡◌, refl, sym, ap, subst, ℕ, ◌+◌, List, [], ◌∷◌, length, Bool, Option, Some, None, Result, Ok, Err, ◌⊎◌, inl, inr, arith}
use Rattle.machine_events.specs.declared.event.Entry.{Entry}
use Rattle.trace_fields.specs.declared.refusal.Cause.{Cause}
use Rattle.trace_fields.specs.declared.refusal.Cause.TheVariants as cause
use Rattle.trace_fields.specs.Splitting.{split}
use Rattle.trace_entries.specs.Entries.{entry_in}
use Rattle.trace_read.specs.Reading.{Read, behind, with_entry, last, entries_in, format_in, with_format, opened, lines_in, pieces, trace_in}
use Rattle.trace_read.specs.Refusing.{NoFirstLine, Refused, RefusedFrom, RefusedLater, RefusedTrace}
use Rattle.trace_read.proofs.Refusals.{refused_there}

abbrev refusal : {A : Type 0} → ℕ × Cause → Read A
refusal r = Err r

abbrev place : ℕ → Cause → ℕ × Cause
place number why = (number, why)

same_refusal : {A : Type 0} (x y : ℕ × Cause) → refusal {A = A} x ≡ refusal y → x ≡ y
same_refusal x y h = cc

-- ---- from a line on

last_refused : (old : Bool) (at : ℕ) (line : List ℕ) (number : ℕ) (why : Cause) → last at line ≡ Err (number, why) → RefusedFrom old at (line ∷ []) number why
last_refused old at [] number why h = cc
last_refused old at (b ∷ bs) number why h =
    let same = same_refusal {A = List Entry} (at, cause.Cut) (number, why) h in
    let here : at ≡ number = λ k. (same k).0 in
    record {
      before = [];
      line = b ∷ bs;
      behind = [];
      lines_are = refl;
      all_before = tt;
      number_is = omega arith;
      refused = (λ none. cc, λ k. (sym same k).1);
    }

behind_refused : (entry : Entry) (read : Read (List Entry)) (r : ℕ × Cause) → behind entry read ≡ Err r → read ≡ Err r
behind_refused entry (Ok entries) r h = cc
behind_refused entry (Err told) r h = ap refusal (same_refusal {A = List Entry} told r h)

one_more : (old : Bool) (at : ℕ) (l : List ℕ) (entry : Entry) → entry_in old l ≡ Ok entry → (lines : List (List ℕ)) (number : ℕ) (why : Cause) → RefusedFrom old (at + 1) lines number why → RefusedFrom old at (l ∷ lines) number why
one_more old at l entry is lines number why r =
    let told : number ≡ at + 1 + length r.before = r.number_is in
    record {
      before = l ∷ r.before;
      line = r.line;
      behind = r.behind;
      lines_are = (λ k. l ∷ r.lines_are k);
      all_before = ((entry, is), r.all_before);
      number_is = omega arith;
      refused = r.refused;
    }

refused_here : (old : Bool) (at : ℕ) (l m : List ℕ) (lines : List (List ℕ)) (told : Cause) → entry_in old l ≡ Err told → (number : ℕ) (why : Cause) → place at told ≡ place number why → RefusedFrom old at (l ∷ m ∷ lines) number why
refused_here old at l m lines told is number why same =
    let here : at ≡ number = λ k. (same k).0 in
    let because : told ≡ why = λ k. (same k).1 in
    record {
      before = [];
      line = l;
      behind = m ∷ lines;
      lines_are = refl;
      all_before = tt;
      number_is = omega arith;
      refused = subst (Refused old (split 32 l)) because (refused_there old l told is);
    }

from_entry : (old : Bool) (at : ℕ) (l m : List ℕ) (lines : List (List ℕ)) (one : Result Entry Cause) → entry_in old l ≡ one → (read : Read (List Entry)) (number : ℕ) (why : Cause) → with_entry at one read ≡ Err (number, why) → (read ≡ Err (number, why) → RefusedFrom old (at + 1) (m ∷ lines) number why) → RefusedFrom old at (l ∷ m ∷ lines) number why
from_entry old at l m lines (Ok entry) is read number why h next = one_more old at l entry is (m ∷ lines) number why (next (behind_refused entry read (number, why) h))
from_entry old at l m lines (Err told) is read number why h next = refused_here old at l m lines told is number why (same_refusal {A = List Entry} (at, told) (number, why) h)

entries_refused : (old : Bool) (at : ℕ) (l : List ℕ) (lines : List (List ℕ)) (number : ℕ) (why : Cause) → entries_in old at (l ∷ lines) ≡ Err (number, why) → RefusedFrom old at (l ∷ lines) number why
entries_refused old at l [] number why h = last_refused old at l number why h
entries_refused old at l (m ∷ lines) number why h =
    from_entry old at l m lines (entry_in old l) refl (entries_in old (at + 1) (m ∷ lines)) number why h (λ e. entries_refused old (at + 1) m lines number why e)

-- ---- the first line

abbrev First : List (List ℕ) → ℕ → Cause → Type 0
First lines number why = ((number ≡ 1) × NoFirstLine lines why) ⊎ RefusedLater lines number why

with_format_refused : (old : Bool) (read : Read (List Entry)) (r : ℕ × Cause) → with_format old read ≡ Err r → read ≡ Err r
with_format_refused old (Ok entries) r h = cc
with_format_refused old (Err told) r h = ap refusal (same_refusal {A = ℕ × List Entry} told r h)

opened_refused : (first m : List ℕ) (lines : List (List ℕ)) (o : Option Bool) → format_in first ≡ o → (number : ℕ) (why : Cause) → opened o (m ∷ lines) ≡ Err (number, why) → First (first ∷ m ∷ lines) number why
opened_refused first m lines None is number why h =
    let same = same_refusal {A = ℕ × List Entry} (1, cause.Fields) (number, why) h in
    inl (λ k. (sym same k).0, (is, λ k. (sym same k).1))
opened_refused first m lines (Some old) is number why h =
    let refused = with_format_refused old (entries_in old 2 (m ∷ lines)) (number, why) h in
    inr (record { old = old; first = first; others = m ∷ lines; lines_are = refl; format = is; refused = entries_refused old 2 m lines number why refused })

lines_refused : (lines : List (List ℕ)) (number : ℕ) (why : Cause) → lines_in lines ≡ Err (number, why) → First lines number why
lines_refused [] number why h =
    let same = same_refusal {A = ℕ × List Entry} (1, cause.Cut) (number, why) h in
    inl (λ k. (sym same k).0, λ k. (sym same k).1)
lines_refused (line ∷ []) number why h =
    let same = same_refusal {A = ℕ × List Entry} (1, cause.Cut) (number, why) h in
    inl (λ k. (sym same k).0, λ k. (sym same k).1)
lines_refused (line ∷ m ∷ lines) number why h = opened_refused line m lines (format_in line) refl number why h

pub refused_line : (bytes : List ℕ) (number : ℕ) (why : Cause) → trace_in bytes ≡ Err (number, why) → RefusedTrace bytes number why
unfolding trace_in
refused_line bytes number why h = lines_refused (pieces bytes) number why h
