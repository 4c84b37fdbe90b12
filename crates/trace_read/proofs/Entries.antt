-- An entry and its line.
use Rattle.std.proofs.Common.{◌≡◌, ◌∙◌, refl, sym, ap, subst, ℕ, List, [], ◌∷◌, ◌++◌, Bool, true, false, not, eqb, ◌&&◌, Result, Ok, Err, codes, inl, if◌then◌else◌}
use Rattle.std.proofs.lemmas.Bool.{and_parts, and_from}
use Rattle.std.proofs.lemmas.List.{append-nil}
use Rattle.std.proofs.lemmas.Slice.Eq.{bytes_eq-Decides}
use Rattle.std.specs.List.{AllByRecursion, flat_map}
use Rattle.std.specs.Fmt.{decimal}
use Rattle.std.specs.Str.{bytes_eq}
use Rattle.machine_events.specs.declared.event.Entry.{Entry}
use Rattle.machine_events.specs.declared.event.Reply.{Reply}
use Rattle.trace_text.specs.Fields.{event_fields, reply_fields, entry_fields}
use Rattle.trace_text.specs.Trace.{unsplit}
use Rattle.trace_fields.specs.declared.refusal.Cause.{Cause}
use Rattle.trace_fields.specs.declared.refusal.Cause.TheVariants as cause
use Rattle.trace_fields.specs.Splitting.{split, joined}
use Rattle.trace_fields.specs.Reading.{Fields, ◌>>=◌}
use Rattle.trace_fields.specs.Fields.{small_number_in}
use Rattle.trace_fields.proofs.Closed.{Closed, ordinary_closed, split_again, split_is_joined, closed_no_line_end}
use Rattle.trace_entries.specs.Events.{event_at}
use Rattle.trace_entries.specs.Replies.{reply_at}
use Rattle.trace_entries.specs.Entries.{arrow, last_reply, reply_in, with_reply, entry_of, entry_in}
use Rattle.trace_read.specs.Fitting.{small_fits, event_fits, reply_fits, event_bytes, reply_bytes, is_new_event, is_new_reply, entry_fits, entry_bytes}
use Rattle.trace_read.proofs.Taking.{step, bind_ok, ok_is}
use Rattle.trace_read.proofs.FieldKinds.{small_told, small_read, small_closed}
use Rattle.trace_read.proofs.EventsTold.{event_told}
use Rattle.trace_read.proofs.EventsAgain.{event_again, event_closed}
use Rattle.trace_read.proofs.RepliesTold.{reply_told}
use Rattle.trace_read.proofs.RepliesAgain.{reply_again, reply_closed}

-- ---- what is read is spelled so

abbrev done_fields : Fields → Result Fields Cause
done_fields x = Ok x

guarded : (b : Bool) (x y : Fields) → (if b then done_fields x else Err cause.Fields) ≡ Ok y → (b ≡ true) × (x ≡ y)
guarded true x y h = (refl, ok_is x y h)
guarded false x y h = cc

arrow_told : (fields rest : Fields) → arrow fields ≡ Ok rest → fields ≡ codes "->" ∷ rest
arrow_told [] rest h = cc
arrow_told (field ∷ fields) rest h =
    let g = guarded (bytes_eq field (codes "->")) fields rest h in
    let is : field ≡ codes "->" = (bytes_eq-Decides field (codes "->")).0 g.0 in
    (λ k. is k ∷ g.1 k)

last_told : (made : Reply) (rest : Fields) (reply : Reply) → last_reply made rest ≡ Ok reply → (rest ≡ []) × (made ≡ reply)
last_told made [] reply h = (refl, ok_is made reply h)
last_told made (field ∷ fields) reply h = cc

abbrev ReplyTold : Bool → Fields → Reply → Type 0
ReplyTold old fields reply = (fields ≡ codes "->" ∷ reply_fields reply) × (reply_fits reply ≡ true) × (not (old && is_new_reply reply) ≡ true)

reply_in_told : (old : Bool) (fields : Fields) (reply : Reply) → reply_in old fields ≡ Ok reply → ReplyTold old fields reply
reply_in_told old fields reply h =
    let s0 = bind_ok (arrow fields) (λ behind. reply_at old behind >>= λ reply. last_reply reply.0 reply.1) reply h in
    let s1 = bind_ok (reply_at old s0.0) (λ reply. last_reply reply.0 reply.1) reply s0.2 in
    let last = last_told s1.0.0 s1.0.1 reply s1.2 in
    let t0 = arrow_told fields s0.0 s0.1 in
    let t1 = reply_told old s0.0 s1.0 s1.1 in
    let replied : s0.0 ≡ reply_fields s1.0.0 = t1.0 ∙ ap (λ rest. reply_fields s1.0.0 ++ rest) last.0 ∙ append-nil (reply_fields s1.0.0) in
    subst (ReplyTold old fields) last.1 (t0 ∙ ap (λ rest. codes "->" ∷ rest) replied, t1.1, t1.2)

abbrev Told : Bool → Fields → Entry → Type 0
Told old fields entry = (fields ≡ entry_fields entry) × (entry_fits old entry ≡ true)

entry_of_told : (old : Bool) (fields : Fields) (entry : Entry) → entry_of old fields ≡ Ok entry → Told old fields entry
entry_of_told old fields entry h =
    let s0 = step cause.Number small_number_in fields (λ thread. event_at old thread.1 >>= λ event. with_reply old thread.0 event.0 event.1) entry h in
    let s1 = bind_ok (event_at old s0.rest) (λ event. with_reply old s0.x event.0 event.1) entry s0.more in
    let s2 = bind_ok (reply_in old s1.0.1) (λ reply. Ok (record { thread = s0.x; event = s1.0.0; reply = reply })) entry s1.2 in
    let made : Entry = record { thread = s0.x; event = s1.0.0; reply = s2.0 } in
    let t0 = small_told s0.field s0.x s0.held in
    let t1 = event_told old s0.rest s1.0 s1.1 in
    let t2 = reply_in_told old s1.0.1 s2.0 s2.1 in
    let whole : fields ≡ entry_fields made = s0.front ∙ (λ k. t0.0 k ∷ t1.0 k) ∙ ap (λ rest. decimal s0.x ∷ (event_fields s1.0.0 ++ rest)) t2.0 in
    subst (Told old fields) (ok_is made entry s2.2) (whole, and_from _ _ t0.1 (and_from _ _ (and_from _ _ t1.1 t1.2) (and_from _ _ t2.1 t2.2)))

pub entry_told : (old : Bool) (line : List ℕ) (entry : Entry) → entry_in old line ≡ Ok entry → (line ≡ unsplit (entry_fields entry)) × (entry_fits old entry ≡ true)
unfolding entry_in
entry_told old line entry h =
    let t = entry_of_told old (split 32 line) entry h in
    (sym (split_is_joined 32 line) ∙ ap (joined 32) t.0, t.1)

-- ---- what is spelled so is read

closed_both : (a b : Fields) → AllByRecursion Closed a → AllByRecursion Closed b → AllByRecursion Closed (a ++ b)
closed_both [] b f g = g
closed_both (x ∷ xs) b f g = (f.0, closed_both xs b f.1 g)

pub record Parts (old : Bool) (entry : Entry) : Type 0 where
  pub thread : small_fits entry.thread ≡ true
  pub event : event_fits entry.event ≡ true
  pub event_known : not (old && is_new_event entry.event) ≡ true
  pub event_source : event_bytes entry.event ≡ true
  pub reply : reply_fits entry.reply ≡ true
  pub reply_known : not (old && is_new_reply entry.reply) ≡ true
  pub reply_source : reply_bytes entry.reply ≡ true

parts : (old : Bool) (entry : Entry) → entry_fits old entry ≡ true → entry_bytes entry ≡ true → Parts old entry
parts old entry h s =
    let a = and_parts (small_fits entry.thread) _ h in
    let b = and_parts (event_fits entry.event && not (old && is_new_event entry.event)) _ a.1 in
    let c = and_parts (event_fits entry.event) (not (old && is_new_event entry.event)) b.0 in
    let d = and_parts (reply_fits entry.reply) (not (old && is_new_reply entry.reply)) b.1 in
    let e = and_parts (event_bytes entry.event) (reply_bytes entry.reply) s in
    record { thread = a.0; event = c.0; event_known = c.1; event_source = e.0; reply = d.0; reply_known = d.1; reply_source = e.1 }

entry_closed : (old : Bool) (entry : Entry) → Parts old entry → AllByRecursion Closed (entry_fields entry)
entry_closed old entry p = (
  small_closed entry.thread p.thread,
  closed_both (event_fields entry.event) (codes "->" ∷ reply_fields entry.reply) (event_closed entry.event p.event p.event_source)
      (ordinary_closed (codes "->") refl, reply_closed entry.reply p.reply p.reply_source),
)

whole_reply : (old : Bool) (reply : Reply) → reply_fits reply ≡ true → reply_bytes reply ≡ true → not (old && is_new_reply reply) ≡ true → reply_at old (reply_fields reply) ≡ Ok (reply, [])
whole_reply old reply h s k = ap (reply_at old) (sym (append-nil (reply_fields reply))) ∙ reply_again old reply [] h s k

entry_of_again : (old : Bool) (entry : Entry) → Parts old entry → entry_of old (entry_fields entry) ≡ Ok entry
entry_of_again old entry p =
    rw (small_read entry.thread p.thread, event_again old entry.event (codes "->" ∷ reply_fields entry.reply) p.event p.event_source p.event_known, whole_reply old entry.reply p.reply p.reply_source p.reply_known) refl

pub entry_again : (old : Bool) (entry : Entry) → entry_fits old entry ≡ true → entry_bytes entry ≡ true → entry_in old (unsplit (entry_fields entry)) ≡ Ok entry
unfolding entry_in
entry_again old entry h s =
    let p = parts old entry h s in
    ap (entry_of old) (split_again 32 (decimal entry.thread) (event_fields entry.event ++ codes "->" ∷ reply_fields entry.reply) (inl refl) (entry_closed old entry p))
    ∙ entry_of_again old entry p

-- ---- no line end stands in a line

lines_both : (a b : List ℕ) → AllByRecursion (λ n. eqb n 10 ≡ false) a → AllByRecursion (λ n. eqb n 10 ≡ false) b → AllByRecursion (λ n. eqb n 10 ≡ false) (a ++ b)
lines_both [] b f g = g
lines_both (x ∷ xs) b f g = (f.0, lines_both xs b f.1 g)

behind : (fields : Fields) → AllByRecursion Closed fields → AllByRecursion (λ n. eqb n 10 ≡ false) (flat_map (λ field. 32 ∷ field) fields)
behind [] h = tt
behind (x ∷ xs) h = lines_both (32 ∷ x) (flat_map (λ field. 32 ∷ field) xs) (refl, closed_no_line_end x h.0) (behind xs h.1)

pub one_line : (old : Bool) (entry : Entry) → entry_fits old entry ≡ true → entry_bytes entry ≡ true → AllByRecursion (λ n. eqb n 10 ≡ false) (unsplit (entry_fields entry))
one_line old entry h s =
    let closed = entry_closed old entry (parts old entry h s) in
    lines_both (decimal entry.thread) (flat_map (λ field. 32 ∷ field) (event_fields entry.event ++ codes "->" ∷ reply_fields entry.reply)) (closed_no_line_end (decimal entry.thread) closed.0) (behind (event_fields entry.event ++ codes "->" ∷ reply_fields entry.reply) closed.1)
