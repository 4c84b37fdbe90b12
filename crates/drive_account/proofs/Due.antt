-- The one event that is due after some pairs.
use Rattle.std.proofs.Common.{◌≡◌, ◌<◌, inl, inr, ℕ, List, Bool, true, refl, sym, ◌∙◌, subst, arith}
use Rattle.tree_files.specs.Files.{Files}
use Rattle.machine_events.specs.declared.event.Event.{Event}
use Rattle.machine_events.specs.declared.event.Event.TheVariants as e
use Rattle.machine_events.specs.declared.event.Reply.{Reply}
use Rattle.machine_events.specs.declared.event.Outcome.{Outcome}
use Rattle.machine_events.specs.declared.event.Outcome.TheVariants as o
use Rattle.meaning_runs.specs.Follows.{Ends}
use Rattle.meaning_runs.specs.Runs.{Run, Stop, Cut, Came, How, Ended, Spent}
use Rattle.drive_account.specs.Following.{budget_of, StopsBy, IsDue, NoEnd}
use Rattle.drive_account.proofs.Parting.{one_stop, one_cut, one_came, cut_came}

-- the event is due, and no other is
pub record IsOnlyDue (f : Files) (t : ℕ) (run : Run) (fuel budget : ℕ) (before : List (Event × Reply)) (event : Event) : Type 0 where
  pub stop : Stop
  pub stops : StopsBy f t run budget before stop
  pub due : IsDue f t run fuel budget before event
  pub only : (other : Event) → IsDue f t run fuel budget before other → other ≡ event

-- where a run is over, which Ends tell how
abbrev pub OnlyEnd : ℕ → ℕ → How → Event → Type 0
OnlyEnd fuel budget how event = (outcome : Outcome) (paid : ℕ) → budget ≡ budget_of fuel outcome paid → Ends fuel outcome paid how → e.End outcome paid ≡ event

pub only_cut : (f : Files) (t : ℕ) (run : Run) (fuel budget : ℕ) (before : List (Event × Reply)) (event : Event) → StopsBy f t run budget before (Cut event) → IsOnlyDue f t run fuel budget before event
only_cut f t run fuel budget before event stops = record {
  stop = Cut event;
  stops = stops;
  due = inl stops;
  only = λ other due. elim due [
    | inl cut ↦ one_cut other event (one_stop cut stops)
    | inr over ↦ absurd (cut_came event over.how (one_stop stops over.over))
  ];
}

pub only_end : (f : Files) (t : ℕ) (run : Run) (fuel budget : ℕ) (before : List (Event × Reply)) (how : How) (outcome : Outcome) (paid : ℕ) → StopsBy f t run budget before (Came how)
    → budget ≡ budget_of fuel outcome paid → Ends fuel outcome paid how → OnlyEnd fuel budget how (e.End outcome paid) → IsOnlyDue f t run fuel budget before (e.End outcome paid)
only_end f t run fuel budget before how outcome paid stops within ends one = record {
  stop = Came how;
  stops = stops;
  due = inr (record { how = how; outcome = outcome; paid = paid; is = refl; within = within; ends = ends; over = stops });
  only = λ other due. elim due [
    | inl cut ↦ absurd (cut_came other how (one_stop cut stops))
    | inr over ↦ over.is ∙ one over.outcome over.paid over.within (subst (λ (h : How). Ends fuel over.outcome over.paid h) (one_came over.how how (one_stop over.over stops)) over.ends)
  ];
}

-- no event is due
pub none_due : (f : Files) (t : ℕ) (run : Run) (fuel budget : ℕ) (before : List (Event × Reply)) (how : How) → StopsBy f t run budget before (Came how) → NoEnd fuel budget how
    → (other : Event) → IsDue f t run fuel budget before other → ⊥
none_due f t run fuel budget before how stops none other due = elim due [
  | inl cut ↦ cut_came other how (one_stop cut stops)
  | inr over ↦ none over.outcome over.paid over.within (subst (λ (h : How). Ends fuel over.outcome over.paid h) (one_came over.how how (one_stop over.over stops)) over.ends)
]

one_ended : (a b : Outcome) → Ended a ≡ Ended b → a ≡ b
one_ended a b is = cc is

ended_spent : (a : Outcome) (b : Bool) → Ended a ≡ Spent b → ⊥
ended_spent a b is = cc is

end_of : (a b : Outcome) (m n : ℕ) → a ≡ b → m ≡ n → e.End a m ≡ e.End b n
end_of a b m n p q = rw (p, q) refl

-- a run that ended by itself
pub only_ended : (fuel : ℕ) (x : Outcome) → OnlyEnd fuel fuel (Ended x) (e.End x fuel)
only_ended fuel x o.Normal paid within ends = end_of o.Normal x paid fuel (sym (one_ended x o.Normal ends.0)) ends.1
only_ended fuel x (o.Raised error) paid within ends = end_of (o.Raised error) x paid fuel (sym (one_ended x (o.Raised error) ends.0)) ends.1
only_ended fuel x o.Fuel paid within ends = absurd (ended_spent x ends.0.0 ends.0.1)
only_ended fuel x o.Read paid within ends = absurd (ended_spent x true ends.0)

pub none_ended : (fuel budget : ℕ) (x : Outcome) → (budget ≡ fuel → ⊥) → NoEnd fuel budget (Ended x)
none_ended fuel budget x other o.Normal paid within ends = other within
none_ended fuel budget x other (o.Raised error) paid within ends = other within
none_ended fuel budget x other o.Fuel paid within ends = ended_spent x ends.0.0 ends.0.1
none_ended fuel budget x other o.Read paid within ends = ended_spent x true ends.0

-- a run that is spent
pub only_fuel : (fuel : ℕ) (of_tree : Bool) → OnlyEnd fuel fuel (Spent of_tree) (e.End o.Fuel fuel)
only_fuel fuel of_tree o.Normal paid within ends = absurd (ended_spent o.Normal of_tree (sym ends.0))
only_fuel fuel of_tree (o.Raised error) paid within ends = absurd (ended_spent (o.Raised error) of_tree (sym ends.0))
only_fuel fuel of_tree o.Fuel paid within ends = end_of o.Fuel o.Fuel paid fuel refl ends.1
only_fuel fuel of_tree o.Read paid within ends = absurd (let less = ends.1 in omega (arith, within, less))

pub only_read : (fuel budget : ℕ) → budget < fuel → OnlyEnd fuel budget (Spent true) (e.End o.Read budget)
only_read fuel budget less o.Normal paid within ends = absurd (ended_spent o.Normal true (sym ends.0))
only_read fuel budget less (o.Raised error) paid within ends = absurd (ended_spent (o.Raised error) true (sym ends.0))
only_read fuel budget less o.Fuel paid within ends = absurd (omega (arith, within, less))
only_read fuel budget less o.Read paid within ends = end_of o.Read o.Read paid budget refl (sym within)
