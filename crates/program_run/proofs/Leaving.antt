-- What is left in the sinks.
use Rattle.std.proofs.Common.{◌≡◌, ℕ, Bool, List, [], ◌++◌, length, Option, Some, None, refl, sym, subst, ap, ◌∙◌, take, drop}
use Rattle.std.proofs.lemmas.List.{append-nil, take-append-drop}
use Rattle.tree_files.specs.Count.{Rose}
use Rattle.tree_files.specs.Writing.{appended, HasPrefixOf}
use Rattle.machine_events.specs.declared.event.Entry.{Entry}
use Rattle.machine_desk.specs.declared.outlet.Flow.{Flow}
use Rattle.machine_desk.specs.declared.outlet.Flow.TheVariants.{Open, Failed, Short}
use Rattle.machine_desk.proofs.Keeping.{appends_then, part_then, part_still}
use Rattle.machine_desk.specs.Outgo.{Outgo, Kept, Flows, FlowsFrom, Appends, AppendsPart, text_of}
use Rattle.program_run.specs.Statuses.{sink_fault}
use Rattle.program_run.specs.Prints.{piece, opening_text, out_text}
use Rattle.program_run.specs.Ends.{err_text, status_of}
use Rattle.program_run.specs.Sinks.{At, outgo_at, Gets, Moment, Leaves, status_by}

-- nothing was to be written
pub appends_none : (a : Option (List ℕ)) → Appends a a []
appends_none None = tt
appends_none (Some a) = sym (append-nil a)

pub gets_none : (a : At) → Gets a [] a Open
gets_none a = (appends_none a.written, refl)

-- nothing of a text was written, for want of memory
pub gets_nothing : (a : At) (text : List ℕ) → Gets a text a Short
gets_nothing a text = (record { part = []; rest = text; whole = refl; gained = appends_none a.written }, refl)

-- a sink that got a first text and was then an outlet for some entries, by how it stood between and stands now
module _ (a : At) (s b : Outgo) (x y : List ℕ) where
  gets_then : (m e : Flow) → s.flow ≡ m → b.flow ≡ e → Gets a x (record { written = s.written; faults = s.faults }) m → FlowsFrom s y b m → Gets a (x ++ y) (record { written = b.written; faults = b.faults }) e
  gets_then Open e sm be p q = open_then e be p (subst (λ (f : Flow). Flows s y b f) be q)
    where
      open_then : (e : Flow) → b.flow ≡ e → Gets a x (record { written = s.written; faults = s.faults }) Open → Flows s y b e → Gets a (x ++ y) (record { written = b.written; faults = b.faults }) e
      open_then Open be p q = (appends_then a.written s.written b.written x y p.0 q.0, q.1 ∙ p.1)
      open_then Failed be p q = (part_then a.written s.written b.written x y p.0 q.0, subst (λ f. Rose f b.faults) p.1 q.1)
      open_then Short be p q = (part_then a.written s.written b.written x y p.0 q.0, q.1 ∙ p.1)
  gets_then Failed Failed sm be p q = (part_still a.written s.written b.written x y p.0 q.1, subst (λ f. Rose a.faults f) (sym q.2) p.1)
  gets_then Short Short sm be p q = (part_still a.written s.written b.written x y p.0 q.1, q.2 ∙ p.1)
  gets_then Failed Open sm be p q = absurd (cc (sm, be, q.0))
  gets_then Failed Short sm be p q = absurd (cc (sm, be, q.0))
  gets_then Short Open sm be p q = absurd (cc (sm, be, q.0))
  gets_then Short Failed sm be p q = absurd (cc (sm, be, q.0))

-- an outlet that was given a sink, and the sink that got it back: it has got the whole text of the history, or a beginning
pub gets_back : (a : At) (s b : Outgo) (trace : Bool) (history : List Entry) (written : Option (List ℕ)) (faults : ℕ) (flow : Flow) → s.trace ≡ trace
    → Gets a (opening_text trace) (record { written = s.written; faults = s.faults }) s.flow → Kept piece s b history → written ≡ b.written → faults ≡ b.faults → flow ≡ b.flow
    → Gets a (out_text trace history) (record { written = written; faults = faults }) flow
gets_back a s b trace history written faults flow t first k pw pf pl =
    let text : List ℕ = out_text trace history in
    subst (λ (x : Flow). Gets a text (record { written = written; faults = faults }) x) (sym pl)
    (subst (λ (x : Option (List ℕ)). Gets a text (record { written = x; faults = faults }) b.flow) (sym pw)
    (subst (λ (x : ℕ). Gets a text (record { written = b.written; faults = x }) b.flow) (sym pf)
    (gets_then a s b (opening_text trace) (text_of piece trace history) s.flow b.flow refl refl first (subst (λ (x : Bool). FlowsFrom s (text_of piece x history) b s.flow) t k.text))))

appends_by : (old new : Option (List ℕ)) (text : List ℕ) → new ≡ appended old text → Appends old new text
appends_by None None text e = tt
appends_by (Some a) (Some b) text e = cc e
appends_by None (Some b) text e = absurd (cc e)
appends_by (Some a) None text e = absurd (cc e)

-- a prefix that was written is a beginning
pub part_by : (bytes : List ℕ) (old new : Option (List ℕ)) → HasPrefixOf bytes old new → AppendsPart old new bytes
part_by bytes old new h = record { part = take h.0 bytes; rest = drop h.0 bytes; whole = take-append-drop h.0 bytes; gained = appends_by old new (take h.0 bytes) h.2 }

-- what both sinks have got of a run, and its status
pub leaves_of : (old new : Moment) (s b : Outgo) (trace : Bool) (names scripts : List (List ℕ)) (h : List Entry) (status : ℕ) (flow : Flow) → s.trace ≡ trace → Gets old.out (opening_text trace) (outgo_at s) s.flow → Kept piece s b h
    → new.out.written ≡ b.written → new.out.faults ≡ b.faults → flow ≡ b.flow → names ≡ scripts
    → (err_flow : Flow) × Gets old.err (err_text names h) new.err err_flow × (status ≡ status_by (status_of (length names) h) sink_fault flow err_flow)
    → Leaves (status_by (status_of (length scripts) h) sink_fault) (out_text trace h) (err_text scripts h) old new status
leaves_of old new s b trace names scripts h status flow t first kept w f l same said = record {
  out_flow = flow;
  err_flow = said.0;
  out_gets = gets_back old.out s b trace h new.out.written new.out.faults flow t first kept w f l;
  err_gets = subst (λ (ns : List (List ℕ)). Gets old.err (err_text ns h) new.err said.0) same said.1;
  is = said.2 ∙ ap (λ (ns : List (List ℕ)). status_by (status_of (length ns) h) sink_fault flow said.0) same;
}
