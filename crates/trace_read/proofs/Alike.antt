-- What is spelled alike is one.
use Rattle.std.proofs.Common.{◌≡◌, ◌∙◌, sym, ap, ℕ, List, [], ◌∷◌, ◌++◌, length, length-append, take, refl, Bool, true, Result, Ok, arith}
use Rattle.std.proofs.lemmas.List.{take_at}
use Rattle.machine_events.specs.declared.event.Entry.{Entry}
use Rattle.trace_text.specs.Fields.{entry_fields}
use Rattle.trace_text.specs.Trace.{unsplit, line}
use Rattle.trace_fields.specs.declared.refusal.Cause.{Cause}
use Rattle.trace_entries.specs.Entries.{entry_in}
use Rattle.trace_read.specs.Reading.{format_of, trace_in}
use Rattle.trace_read.specs.Fitting.{entry_fits, entry_bytes, entries_fit, entries_bytes}
use Rattle.trace_read.specs.Text.{text_of}
use Rattle.trace_read.proofs.Entries.{entry_again, entry_told}
use Rattle.trace_read.proofs.Lines.{trace_again}

abbrev done : {A E : Type 0} → A → Result A E
done x = Ok x

ok_is : {A E : Type 0} (x y : A) → done {E = E} x ≡ done y → x ≡ y
ok_is x y h = cc

same_front : (a b : List ℕ) → a ++ 10 ∷ [] ≡ b ++ 10 ∷ [] → a ≡ b
same_front a b h =
    let la = length-append a (10 ∷ []) in
    let lb = length-append b (10 ∷ []) in
    let lengths : length (a ++ 10 ∷ []) ≡ length (b ++ 10 ∷ []) = ap length h in
    let same : length b ≡ length a = omega (arith, la, lb, lengths) in
    sym (take_at a (10 ∷ []) (length a) refl) ∙ ap (take (length a)) h ∙ take_at b (10 ∷ []) (length a) same

pub one_entry : (old : Bool) (x y : Entry) → entry_fits old x ≡ true → entry_bytes x ≡ true → entry_fits old y ≡ true → entry_bytes y ≡ true → line x ≡ line y → x ≡ y
one_entry old x y f s g t h =
    let same = same_front (unsplit (entry_fields x)) (unsplit (entry_fields y)) h in
    ok_is {E = Cause} x y (sym (entry_again old x f s) ∙ ap (entry_in old) same ∙ entry_again old y g t)

pub one_spelling : (old new : Bool) (x y : List ℕ) (entry : Entry) → entry_in old x ≡ Ok entry → entry_in new y ≡ Ok entry → x ≡ y
one_spelling old new x y entry f g = (entry_told old x entry f).0 ∙ sym (entry_told new y entry g).0

pub one_trace : (old : Bool) (x y : List Entry) → entries_fit old x ≡ true → entries_bytes x ≡ true → entries_fit old y ≡ true → entries_bytes y ≡ true → text_of old x ≡ text_of old y → x ≡ y
one_trace old x y f s g t h =
    let same = ok_is {E = ℕ × Cause} (format_of old, x) (format_of old, y) (sym (trace_again old x f s) ∙ ap trace_in h ∙ trace_again old y g t) in
    ap (λ (p : ℕ × List Entry). p.1) same
