-- A line is refused at the first of its fields at which no line goes on.
use Rattle.std.proofs.Common.{◌≡◌, ◌∙◌, refl, sym, ap, subst, ℕ, List, [], ◌∷◌, ◌++◌, append_assoc, Bool, true, false, Result, Ok, Err, codes, inl, inr}
use Rattle.std.proofs.lemmas.Bool.{cases_Bool, cond-true, cond-false}
use Rattle.std.specs.Str.{bytes_eq}
use Rattle.machine_events.specs.declared.event.Event.{Event}
use Rattle.machine_events.specs.declared.event.Reply.{Reply}
use Rattle.machine_events.specs.declared.event.Entry.{Entry}
use Rattle.trace_fields.specs.declared.refusal.Cause.{Cause}
use Rattle.trace_fields.specs.declared.refusal.Cause.TheVariants as cause
use Rattle.trace_fields.specs.Splitting.{split}
use Rattle.trace_fields.specs.Reading.{Fields, ◌>>=◌}
use Rattle.trace_entries.specs.Taking.{small_number_at}
use Rattle.trace_entries.specs.Events.{event_at}
use Rattle.trace_entries.specs.Replies.{reply_at}
use Rattle.trace_entries.specs.Entries.{arrow, last_reply, reply_in, with_reply, entry_of, entry_in}
use Rattle.trace_read.specs.Refusing.{CouldStand, Fits, NoneGoesOn, Refused}
use Rattle.trace_read.proofs.Causes.{Unfit, Because, Why, because_there, why_there, plain_unfit, fits}
use Rattle.trace_read.proofs.Steady.{Here, Could, bound, WholeStop, Whole, whole_bound}
use Rattle.trace_read.proofs.OneField.{small_number_steady}
use Rattle.trace_read.proofs.EventsStop.{event_steady}
use Rattle.trace_read.proofs.RepliesStop.{reply_steady}

abbrev err : {A : Type 0} → Cause → Result A Cause
err why = Err why

err_is : {A : Type 0} (x y : Cause) → err {A = A} x ≡ err y → x ≡ y
err_is x y h = cc

abbrev ok : {A : Type 0} → A → Result A Cause
ok x = Ok x

-- ---- what fits no cause but `Fields`

unfit_there : {Y : Type 0} (old : Bool) (r : Fields → Result Y Cause) (why : Cause) → cause.Fields ≡ why → ((other : Cause) → Unfit old (Could r []) (Could r []) other) → Because old (Could r []) (Could r []) why
unfit_there old r why same unfit = subst (λ w. Because old (Could r []) (Could r []) w) same unfit

-- ---- nothing stands behind the reply

no_more : (reply : Reply) (field : List ℕ) → Could (last_reply reply) [] field → ⊥
no_more reply field c = let bad : err cause.Fields ≡ ok c.1 = c.2 in cc

none_behind : (old : Bool) (reply : Reply) (other : Cause) → Unfit old (Could (last_reply reply) []) (Could (last_reply reply) []) other
none_behind old reply other =
    plain_unfit old (Could (last_reply reply) []) (Could (last_reply reply) []) (no_more reply (codes "0")) (no_more reply (codes "a")) (no_more reply (codes "\"\"")) (no_more reply (codes "wake")) (no_more reply (codes "done")) other

last_stops : (old : Bool) (reply : Reply) (fields : Fields) (why : Cause) → last_reply reply fields ≡ Err why → WholeStop old (last_reply reply) fields why
last_stops old reply [] why h = cc
last_stops old reply (field ∷ fields) why h =
    let same : cause.Fields ≡ why = err_is {A = Reply} cause.Fields why h in
    record { front = []; rest = field ∷ fields; parts = refl; tail = []; y = reply; onward = refl; here = λ more. ap err same; because = unfit_there old (last_reply reply) why same (none_behind old reply) }

last_whole : (old : Bool) (reply : Reply) → Whole old (last_reply reply)
last_whole old reply = record { example = record { fields = []; y = reply; read = refl }; stops = last_stops old reply }

-- ---- the arrow

abbrev behind_arrow : {Y : Type 0} → (Fields → Result Y Cause) → Fields → Result Y Cause
behind_arrow k fields = arrow fields >>= k

arrow_on : {Y : Type 0} (k : Fields → Result Y Cause) (field : List ℕ) (fields : Fields) → bytes_eq field (codes "->") ≡ true → behind_arrow k (field ∷ fields) ≡ k fields
arrow_on k field fields h = ap (λ o. o >>= k) (cond-true (bytes_eq field (codes "->")) (ok fields) (err cause.Fields) h)

arrow_off : {Y : Type 0} (k : Fields → Result Y Cause) (field : List ℕ) (fields : Fields) → bytes_eq field (codes "->") ≡ false → behind_arrow k (field ∷ fields) ≡ Err cause.Fields
arrow_off k field fields h = ap (λ o. o >>= k) (cond-false (bytes_eq field (codes "->")) (ok fields) (err cause.Fields) h)

here_behind : {Y : Type 0} (k : Fields → Result Y Cause) (arrow_field : List ℕ) → bytes_eq arrow_field (codes "->") ≡ true → (front rest : Fields) (why : Cause) → Here k front rest why → Here (behind_arrow k) (arrow_field ∷ front) rest why
here_behind k arrow_field is front [] why h = h
here_behind k arrow_field is front (field ∷ fields) why h = λ more. arrow_on k arrow_field (front ++ field ∷ more) is ∙ h more

could_behind : {Y : Type 0} (k : Fields → Result Y Cause) (arrow_field : List ℕ) → bytes_eq arrow_field (codes "->") ≡ true → (front : Fields) (field : List ℕ) → Could (behind_arrow k) (arrow_field ∷ front) field → Could k front field
could_behind k arrow_field is front field c = (c.0, c.1, sym (arrow_on k arrow_field (front ++ field ∷ c.0) is) ∙ c.2)

does_behind : {Y : Type 0} (k : Fields → Result Y Cause) (arrow_field : List ℕ) → bytes_eq arrow_field (codes "->") ≡ true → (front : Fields) (field : List ℕ) → Could k front field → Could (behind_arrow k) (arrow_field ∷ front) field
does_behind k arrow_field is front field c = (c.0, c.1, arrow_on k arrow_field (front ++ field ∷ c.0) is ∙ c.2)

because_behind : {Y : Type 0} (old : Bool) (k : Fields → Result Y Cause) (arrow_field : List ℕ) → bytes_eq arrow_field (codes "->") ≡ true → (front rest : Fields) (why : Cause) → Why old (Could k front) (Could k front) rest why → Why old (Could (behind_arrow k) (arrow_field ∷ front)) (Could (behind_arrow k) (arrow_field ∷ front)) rest why
because_behind old k arrow_field is front rest why h =
    why_there old (Could k front) (Could k front) (Could (behind_arrow k) (arrow_field ∷ front)) (Could (behind_arrow k) (arrow_field ∷ front)) (could_behind k arrow_field is front) (does_behind k arrow_field is front) rest why h

-- only the arrow could stand there, which is of no kind
arrow_unlike : {Y : Type 0} (k : Fields → Result Y Cause) (field : List ℕ) → bytes_eq field (codes "->") ≡ false → Could (behind_arrow k) [] field → ⊥
arrow_unlike k field isnt c = let bad : ok c.1 ≡ err cause.Fields = sym c.2 ∙ arrow_off k field c.0 isnt in cc

no_arrow : {Y : Type 0} (old : Bool) (k : Fields → Result Y Cause) (other : Cause) → Unfit old (Could (behind_arrow k) []) (Could (behind_arrow k) []) other
no_arrow old k other =
    plain_unfit old (Could (behind_arrow k) []) (Could (behind_arrow k) []) (arrow_unlike k (codes "0") refl) (arrow_unlike k (codes "a") refl) (arrow_unlike k (codes "\"\"") refl) (arrow_unlike k (codes "wake") refl) (arrow_unlike k (codes "done") refl) other

arrow_stops : {Y : Type 0} (old : Bool) (k : Fields → Result Y Cause) → Whole old k → (fields : Fields) (why : Cause) → behind_arrow k fields ≡ Err why → WholeStop old (behind_arrow k) fields why
arrow_stops {Y} old k w [] why h =
    let same : cause.Fields ≡ why = err_is {A = Y} cause.Fields why h in
    record { front = []; rest = []; parts = refl; tail = codes "->" ∷ w.example.fields; y = w.example.y; onward = w.example.read; here = sym same; because = tt }
arrow_stops {Y} old k w (field ∷ fields) why h = elim (cases_Bool (bytes_eq field (codes "->"))) [
  | inl is ↦
      let s = w.stops fields why (sym (arrow_on k field fields is) ∙ h) in
      record {
        front = field ∷ s.front;
        rest = s.rest;
        parts = (λ j. field ∷ s.parts j);
        tail = s.tail;
        y = s.y;
        onward = arrow_on k field (s.front ++ s.tail) is ∙ s.onward;
        here = here_behind k field is s.front s.rest why s.here;
        because = because_behind old k field is s.front s.rest why s.because;
      }
  | inr isnt ↦
      let same : cause.Fields ≡ why = err_is {A = Y} cause.Fields why (sym (arrow_off k field fields isnt) ∙ h) in
      record {
        front = [];
        rest = field ∷ fields;
        parts = refl;
        tail = codes "->" ∷ w.example.fields;
        y = w.example.y;
        onward = w.example.read;
        here = λ more. arrow_off k field more isnt ∙ ap err same;
        because = unfit_there old (behind_arrow k) why same (no_arrow old k);
      }
]

arrow_whole : {Y : Type 0} (old : Bool) (k : Fields → Result Y Cause) → Whole old k → Whole old (behind_arrow k)
arrow_whole old k w = record {
  example = record { fields = codes "->" ∷ w.example.fields; y = w.example.y; read = w.example.read };
  stops = arrow_stops old k w;
}

-- ---- what is made of what was read

abbrev mapped : {Y Z : Type 0} → (Y → Z) → (Fields → Result Y Cause) → Fields → Result Z Cause
mapped f r fields = r fields >>= λ y. Ok (f y)

mapped_was : {Y Z : Type 0} (f : Y → Z) (z : Z) (one : Result Y Cause) → (one >>= λ y. ok (f y)) ≡ Ok z → (y : Y) × (one ≡ Ok y)
mapped_was f z (Ok y) h = (y, refl)
mapped_was f z (Err why) h = cc

mapped_refused : {Y Z : Type 0} (f : Y → Z) (why : Cause) (one : Result Y Cause) → (one >>= λ y. ok (f y)) ≡ Err why → one ≡ Err why
mapped_refused f why (Ok y) h = cc
mapped_refused {Y} {Z} f why (Err told) h = ap err (err_is {A = Z} told why h)

here_mapped : {Y Z : Type 0} (f : Y → Z) (r : Fields → Result Y Cause) (front rest : Fields) (why : Cause) → Here r front rest why → Here (mapped f r) front rest why
here_mapped f r front [] why h = h
here_mapped f r front (field ∷ fields) why h = λ more. ap (λ o. o >>= λ y. ok (f y)) (h more)

could_mapped : {Y Z : Type 0} (f : Y → Z) (r : Fields → Result Y Cause) (front : Fields) (field : List ℕ) → Could (mapped f r) front field → Could r front field
could_mapped f r front field c = let was = mapped_was f c.1 (r (front ++ field ∷ c.0)) c.2 in (c.0, was.0, was.1)

does_mapped : {Y Z : Type 0} (f : Y → Z) (r : Fields → Result Y Cause) (front : Fields) (field : List ℕ) → Could r front field → Could (mapped f r) front field
does_mapped f r front field c = (c.0, f c.1, ap (λ o. o >>= λ y. ok (f y)) c.2)

because_mapped : {Y Z : Type 0} (old : Bool) (f : Y → Z) (r : Fields → Result Y Cause) (front rest : Fields) (why : Cause) → Why old (Could r front) (Could r front) rest why → Why old (Could (mapped f r) front) (Could (mapped f r) front) rest why
because_mapped old f r front rest why h = why_there old (Could r front) (Could r front) (Could (mapped f r) front) (Could (mapped f r) front) (could_mapped f r front) (does_mapped f r front) rest why h

mapped_stops : {Y Z : Type 0} (old : Bool) (f : Y → Z) (r : Fields → Result Y Cause) → Whole old r → (fields : Fields) (why : Cause) → mapped f r fields ≡ Err why → WholeStop old (mapped f r) fields why
mapped_stops old f r w fields why h =
    let s = w.stops fields why (mapped_refused f why (r fields) h) in
    record {
      front = s.front;
      rest = s.rest;
      parts = s.parts;
      tail = s.tail;
      y = f s.y;
      onward = ap (λ o. o >>= λ y. ok (f y)) s.onward;
      here = here_mapped f r s.front s.rest why s.here;
      because = because_mapped old f r s.front s.rest why s.because;
    }

mapped_whole : {Y Z : Type 0} (old : Bool) (f : Y → Z) (r : Fields → Result Y Cause) → Whole old r → Whole old (mapped f r)
mapped_whole old f r w = record {
  example = record { fields = w.example.fields; y = f w.example.y; read = ap (λ o. o >>= λ y. ok (f y)) w.example.read };
  stops = mapped_stops old f r w;
}

-- ---- entries

reply_whole : (old : Bool) → Whole old (reply_in old)
reply_whole old = arrow_whole old (bound (reply_at old) last_reply) (whole_bound old (reply_at old) last_reply (reply_steady old) (last_whole old))

abbrev made : ℕ → Event → Reply → Entry
made thread event reply = record { thread = thread; event = event; reply = reply }

with_reply_whole : (old : Bool) (thread : ℕ) (event : Event) → Whole old (with_reply old thread event)
with_reply_whole old thread event = mapped_whole old (made thread event) (reply_in old) (reply_whole old)

entry_whole : (old : Bool) → Whole old (entry_of old)
entry_whole old =
    whole_bound old small_number_at (λ thread. bound (event_at old) (with_reply old thread)) (small_number_steady old) (λ thread.
    whole_bound old (event_at old) (with_reply old thread) (event_steady old) (with_reply_whole old thread))

-- ---- the law

could_stand : (old : Bool) (front : Fields) (field : List ℕ) → Could (entry_of old) front field → CouldStand old front field
could_stand old front field c = (c.0, c.1, ap (entry_of old) (append_assoc front (field ∷ []) c.0) ∙ c.2)

stands_could : (old : Bool) (front : Fields) (field : List ℕ) → CouldStand old front field → Could (entry_of old) front field
stands_could old front field g = (g.0, g.1, ap (entry_of old) (sym (append_assoc front (field ∷ []) g.0)) ∙ g.2)

fits_there : (old : Bool) (front : Fields) (why : Cause) → Because old (Could (entry_of old) front) (Could (entry_of old) front) why → Fits old front why
fits_there old front why h = fits old front why (because_there old (Could (entry_of old) front) (Could (entry_of old) front) (CouldStand old front) (CouldStand old front) (stands_could old front) (could_stand old front) why h)

never_stands : (old : Bool) (front : Fields) (field : List ℕ) (why : Cause) → ((more : Fields) → entry_of old (front ++ field ∷ more) ≡ Err why) → CouldStand old front field → ⊥
never_stands old front field why refused g =
    let c = stands_could old front field g in
    let both : ok c.1 ≡ Err why = sym c.2 ∙ refused c.0 in
    cc

none_goes_on : (old : Bool) (front rest : Fields) (why : Cause) → Here (entry_of old) front rest why → Why old (Could (entry_of old) front) (Could (entry_of old) front) rest why → NoneGoesOn old front rest why
none_goes_on old front [] why h because = h
none_goes_on old front (field ∷ fields) why h because = (never_stands old front field why h, fits_there old front why because)

entry_refused : (old : Bool) (fields : Fields) (why : Cause) → entry_of old fields ≡ Err why → Refused old fields why
entry_refused old fields why h =
    let s = (entry_whole old).stops fields why h in
    record {
      front = s.front;
      rest = s.rest;
      fields_are = s.parts;
      goes_on = (s.tail, s.y, s.onward);
      stops = none_goes_on old s.front s.rest why s.here s.because;
    }

pub refused_there : (old : Bool) (line : List ℕ) (why : Cause) → entry_in old line ≡ Err why → Refused old (split 32 line) why
unfolding entry_in
refused_there old line why h = entry_refused old (split 32 line) why h
