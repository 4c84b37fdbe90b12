-- Faults, and the first of them.
use Rattle.std.proofs.Common.{◌≡◌, ◌<◌, ◌≤◌, ◌↔◌, ◌⊎◌, ℕ, zero, suc, ◌+◌, List, Bool, true, false, ◌&&◌, Some, length, refl, sym, ap, subst, ◌∙◌, arith, inl, inr}
use Rattle.std.specs.Prelude.{slice_get, nat_lt, nat_le, ◌==◌}
use Rattle.std.proofs.lemmas.Bool.{cases_lt, cases_eq, cond_both, or_cases, or_parts, or_left, or_right, and_parts, and_cases, and_from, ltb-true, ltb-false, eqb-true, eqb-false, leb-true, leb-false, lt-ltb, le-leb, eq-eqb, false≢true}
use Rattle.std.proofs.lemmas.Option.{slice_get_within}
use Rattle.machine_events.specs.declared.event.Entry.{Entry}
use Rattle.machine_events.specs.declared.event.Follow.{Follow}
use Rattle.machine_events.specs.declared.event.Follow.TheVariants as ways
use Rattle.machine_spec.specs.declared.state.State.{State}
use Rattle.machine_spec.specs.Legal.{IsLegal}
use Rattle.trace_check.specs.declared.answers.Counts.{Counts}
use Rattle.trace_check.specs.declared.answers.Why.{Why}
use Rattle.trace_check.specs.declared.answers.Why.TheVariants as cause
use Rattle.trace_check.specs.declared.answers.Replayed.{Replayed}
use Rattle.trace_check.specs.declared.answers.Replayed.TheVariants as replays
use Rattle.trace_check.specs.declared.answers.Verdict.{Verdict}
use Rattle.trace_check.specs.declared.answers.Verdict.TheVariants as verdicts
use Rattle.trace_check.specs.Replays.{Replays, counts_of}
use Rattle.trace_check.specs.Judge.{made, IsPlaceOf, Parts, PartsBy, BreaksAt, IsFault, rank, is_first, IsFirst, JudgesBy, Judges, verdict_of_replay, first_of, AllFollow}
use Rattle.trace_check.proofs.Lists.{place_within, place_least, place_exists}
use Rattle.trace_check.proofs.Replaying.{broken_not_legal}

-- the order of faults

abbrev Before : ℕ → Why → ℕ → Why → Type 0
Before l w m v = (l < m) ⊎ ((l ≡ m) × (rank w ≤ rank v))

before : (l : ℕ) (w : Why) (m : ℕ) (v : Why) → is_first l w m v ≡ true → Before l w m v
before l w m v is = elim (or_cases (nat_lt l m) (l == m && nat_le (rank w) (rank v)) is) [
  | inl less ↦ inl (ltb-true l m less)
  | inr same ↦ let parts = and_parts (l == m) (nat_le (rank w) (rank v)) same in inr (eqb-true l m parts.0, leb-true (rank w) (rank v) parts.1)
]

first_by_line : (l : ℕ) (w : Why) (m : ℕ) (v : Why) → l < m → is_first l w m v ≡ true
first_by_line l w m v less = or_left (nat_lt l m) (l == m && nat_le (rank w) (rank v)) (lt-ltb l m less)

first_by_cause : (l : ℕ) (w : Why) (m : ℕ) (v : Why) → l ≡ m → rank w ≤ rank v → is_first l w m v ≡ true
first_by_cause l w m v same less = or_right (nat_lt l m) (l == m && nat_le (rank w) (rank v)) (and_from (l == m) (nat_le (rank w) (rank v)) (eq-eqb l m same) (le-leb (rank w) (rank v) less))

first_next : (l : ℕ) (w : Why) (m : ℕ) (v : Why) (n : ℕ) (u : Why) → is_first l w m v ≡ true → is_first m v n u ≡ true → is_first l w n u ≡ true
first_next l w m v n u a b = elim (before l w m v a) [
  | inl less ↦ elim (before m v n u b) [
    | inl more ↦ first_by_line l w n u (omega (arith, less, more))
    | inr same ↦ first_by_line l w n u (omega (arith, less, same.0))
  ]
  | inr one ↦ elim (before m v n u b) [
    | inl more ↦ first_by_line l w n u (omega (arith, one.0, more))
    | inr same ↦ first_by_cause l w n u (one.0 ∙ same.0) (omega (arith, one.1, same.1))
  ]
]

-- of two faults one does not come after the other
first_other : (l : ℕ) (w : Why) (m : ℕ) (v : Why) → is_first l w m v ≡ false → is_first m v l w ≡ true
first_other l w m v is =
    let parts = or_parts (nat_lt l m) (l == m && nat_le (rank w) (rank v)) is in
    let least = ltb-false l m parts.0 in
    elim (and_cases (l == m) (nat_le (rank w) (rank v)) parts.1) [
      | inl apart ↦ first_by_line m v l w (omega (arith, least, eqb-false l m apart))
      | inr less ↦ elim (cases_eq m l) [
        | inl same ↦ first_by_cause m v l w same (omega (arith, leb-false (rank w) (rank v) less))
        | inr apart ↦ first_by_line m v l w (omega (arith, least, apart))
      ]
    ]

-- causes are told apart by their order
abbrev cause_at : ℕ → Why
cause_at zero = cause.Thread
cause_at (suc zero) = cause.Call
cause_at (suc (suc zero)) = cause.Allowed
cause_at (suc (suc (suc zero))) = cause.Reply
cause_at (suc (suc (suc (suc zero)))) = cause.End
cause_at (suc (suc (suc (suc (suc n))))) = cause.Text

cause_back : (w : Why) → cause_at (rank w) ≡ w
cause_back cause.Text = refl
cause_back cause.Thread = refl
cause_back cause.Call = refl
cause_back cause.Allowed = refl
cause_back cause.Reply = refl
cause_back cause.End = refl

rank_same : (w v : Why) → rank w ≡ rank v → w ≡ v
rank_same w v same = sym (cause_back w) ∙ (ap cause_at same ∙ cause_back v)

first_both : (l : ℕ) (w : Why) (m : ℕ) (v : Why) → is_first l w m v ≡ true → is_first m v l w ≡ true → (l ≡ m) × (w ≡ v)
first_both l w m v a b = elim (before l w m v a) [
  | inl less ↦ elim (before m v l w b) [
    | inl more ↦ absurd (omega (arith, less, more))
    | inr same ↦ absurd (omega (arith, less, same.0))
  ]
  | inr one ↦ elim (before m v l w b) [
    | inl more ↦ absurd (omega (arith, one.0, more))
    | inr same ↦ (one.0, rank_same w v (omega (arith, one.1, same.1)))
  ]
]

-- verdicts by faults

pub judges_same : (F G : ℕ → Why → Type 0) (r : Replayed) (v : Verdict) → ((l : ℕ) (w : Why) → F l w → G l w) → ((l : ℕ) (w : Why) → G l w → F l w) → JudgesBy F r v → JudgesBy G r v
judges_same F G r (verdicts.Yes c) to from j = (j.0, λ l w g. j.1 l w (from l w g))
judges_same F G r (verdicts.No line why) to from j = (to line why j.0, λ l w g. j.1 l w (from l w g))

-- one more fault
pub judges_more : (F G : ℕ → Why → Type 0) (r : Replayed) (v : Verdict) (line : ℕ) (why : Why) → JudgesBy F r v → IsFirst G line why → JudgesBy (λ l w. F l w ⊎ G l w) r (first_of v line why)
judges_more F G r (verdicts.Yes c) line why j g = (
  inr g.0,
  λ l w f. elim f [
    | inl a ↦ absurd (j.1 l w a)
    | inr b ↦ g.1 l w b
  ],
)
judges_more F G r (verdicts.No line' why') line why j g =
    cond_both (is_first line' why' line why) (verdicts.No line' why') (verdicts.No line why) (λ v. JudgesBy (λ l w. F l w ⊎ G l w) r v)
    (λ is. (
      inl j.0,
      λ l w f. elim f [
        | inl a ↦ j.1 l w a
        | inr b ↦ first_next line' why' line why l w is (g.1 l w b)
      ],
    ))
    (λ is. (
      inr g.0,
      λ l w f. elim f [
        | inl a ↦ first_next line why line' why' l w (first_other line' why' line why is) (j.1 l w a)
        | inr b ↦ g.1 l w b
      ],
    ))

abbrev counts_in : Replayed → Counts → Counts
counts_in (replays.Legal c) d = c
counts_in (replays.Breaks at why) d = d

pub verdict_one : (h : List Entry) (a : Replayed) (follows : List Follow) (v w : Verdict) → Judges h a follows v → Judges h a follows w → v ≡ w
verdict_one h a follows (verdicts.Yes c) (verdicts.Yes d) j k = ap verdicts.Yes (ap (λ z. counts_in z c) (sym j.0 ∙ k.0))
verdict_one h a follows (verdicts.Yes c) (verdicts.No line why) j k = absurd (j.1 line why k.0)
verdict_one h a follows (verdicts.No line why) (verdicts.Yes d) j k = absurd (k.1 line why j.0)
verdict_one h a follows (verdicts.No line why) (verdicts.No line' why') j k =
    let same = first_both line why line' why' (j.1 line' why' k.0) (k.1 line why j.0) in
    ap (λ l. verdicts.No l why) same.0 ∙ ap (λ w. verdicts.No line' w) same.1

-- faults of the first scripts

abbrev pub IsFaultOf : List Entry → Replayed → List Follow → ℕ → ℕ → Why → Type 0
IsFaultOf h r follows n line why = BreaksAt r line why ⊎ ((t : ℕ) × (f : Follow) × (t < n) × (slice_get follows t ≡ Some f) × PartsBy h t f line why)

pub judges_none : (h : List Entry) (r : Replayed) (follows : List Follow) → JudgesBy (IsFaultOf h r follows 0) r (verdict_of_replay r)
judges_none h (replays.Legal c) follows = (
  refl,
  λ l w f. elim f [
    | inl a ↦ absurd a
    | inr b ↦ absurd (omega (arith, b.2))
  ],
)
judges_none h (replays.Breaks at why) follows = (
  inl (refl, refl),
  λ l w f. elim f [
    | inl a ↦ first_by_cause (at + 2) why l w (sym a.0) (omega (arith, ap rank a.1))
    | inr b ↦ absurd (omega (arith, b.2))
  ],
)

pub judges_all : (h : List Entry) (r : Replayed) (follows : List Follow) (v : Verdict) → JudgesBy (IsFaultOf h r follows (length follows)) r v → Judges h r follows v
judges_all h r follows v j =
    judges_same (IsFaultOf h r follows (length follows)) (IsFault h r follows) r v
    (λ l w f. elim f [
      | inl a ↦ inl a
      | inr b ↦ inr (b.0, b.1, b.3, b.4)
    ])
    (λ l w f. elim f [
      | inl a ↦ inl a
      | inr b ↦ inr (b.0, b.1, slice_get_within follows b.0 b.1 b.2, b.2, b.3)
    ])
    j

-- a fault of one script more
fault_split : (h : List Entry) (r : Replayed) (follows : List Follow) (n : ℕ) (f : Follow) (l : ℕ) (w : Why) → slice_get follows n ≡ Some f
    → IsFaultOf h r follows (n + 1) l w → IsFaultOf h r follows n l w ⊎ PartsBy h n f l w
fault_split h r follows n f l w there (inl a) = inl (inl a)
fault_split h r follows n f l w there (inr b) = elim (cases_lt b.0 n) [
  | inl less ↦ inl (inr (b.0, b.1, less, b.3, b.4))
  | inr more ↦
      let same : b.0 ≡ n = omega (arith, more, b.2) in
      let one : slice_get follows n ≡ Some b.1 = subst (λ t. slice_get follows t ≡ Some b.1) same b.3 in
      let as_one : b.1 ≡ f = cc in
      inr (subst (λ (z : Follow). PartsBy h n z l w) as_one (subst (λ t. PartsBy h t b.1 l w) same b.4))
]

fault_join : (h : List Entry) (r : Replayed) (follows : List Follow) (n : ℕ) (f : Follow) (l : ℕ) (w : Why) → slice_get follows n ≡ Some f
    → IsFaultOf h r follows n l w ⊎ PartsBy h n f l w → IsFaultOf h r follows (n + 1) l w
fault_join h r follows n f l w there (inl a) = elim a [
  | inl one ↦ inl one
  | inr b ↦ inr (b.0, b.1, omega (arith, b.2), b.3, b.4)
]
fault_join h r follows n f l w there (inr p) = inr (n, f, omega arith, there, p)

pub judges_parts : (h : List Entry) (r : Replayed) (follows : List Follow) (n at : ℕ) (v : Verdict) (line : ℕ) (why : Why)
    → slice_get follows n ≡ Some (ways.Parts at) → JudgesBy (IsFaultOf h r follows n) r v → IsFirst (Parts h n at) line why
    → JudgesBy (IsFaultOf h r follows (n + 1)) r (first_of v line why)
judges_parts h r follows n at v line why there j g =
    judges_same (λ l w. IsFaultOf h r follows n l w ⊎ Parts h n at l w) (IsFaultOf h r follows (n + 1)) r (first_of v line why)
    (λ l w f. fault_join h r follows n (ways.Parts at) l w there f)
    (λ l w f. fault_split h r follows n (ways.Parts at) l w there f)
    (judges_more (IsFaultOf h r follows n) (Parts h n at) r v line why j g)

pub judges_follows : (h : List Entry) (r : Replayed) (follows : List Follow) (n : ℕ) (v : Verdict)
    → slice_get follows n ≡ Some ways.Yes → JudgesBy (IsFaultOf h r follows n) r v → JudgesBy (IsFaultOf h r follows (n + 1)) r v
judges_follows h r follows n v there j =
    judges_same (IsFaultOf h r follows n) (IsFaultOf h r follows (n + 1)) r v
    (λ l w f. fault_join h r follows n ways.Yes l w there (inl f))
    (λ l w f. elim (fault_split h r follows n ways.Yes l w there f) [
      | inl a ↦ a
      | inr b ↦ absurd b
    ])
    j

-- where a script parts

pub parts_there : (h : List Entry) (t at place : ℕ) → IsPlaceOf h t at place → IsFirst (Parts h t at) (place + 2) cause.Call
parts_there h t at place is = ((place, is, refl), λ l w p. rest l w p)
  where
    rest : (l : ℕ) (w : Why) → Parts h t at l w → is_first (place + 2) cause.Call l w ≡ true
    rest l cause.Text p = absurd p
    rest l cause.Thread p = absurd p
    rest l cause.Call p = elim (cases_eq (place + 2) l) [
      | inl same ↦ first_by_cause (place + 2) cause.Call l cause.Call same (omega arith)
      | inr apart ↦ first_by_line (place + 2) cause.Call l cause.Call (omega (arith, apart, place_least h t at place p.0 is p.1, p.2))
    ]
    rest l cause.Allowed p = absurd p
    rest l cause.Reply p = absurd p
    rest l cause.End p = absurd (omega (arith, p.0, place_within h t at place is))

pub parts_behind : (h : List Entry) (t at : ℕ) → made t h ≤ at → IsFirst (Parts h t at) (length h + 2) cause.End
parts_behind h t at none = ((none, refl), λ l w p. rest l w p)
  where
    rest : (l : ℕ) (w : Why) → Parts h t at l w → is_first (length h + 2) cause.End l w ≡ true
    rest l cause.Text p = absurd p
    rest l cause.Thread p = absurd p
    rest l cause.Call p = absurd (omega (arith, none, place_within h t at p.0 p.1))
    rest l cause.Allowed p = absurd p
    rest l cause.Reply p = absurd p
    rest l cause.End p = first_by_cause (length h + 2) cause.End l cause.End (sym p.1) (omega arith)

-- who parts is at fault somewhere
parts_somewhere : (h : List Entry) (t at : ℕ) → (l : ℕ) × (w : Why) × Parts h t at l w
parts_somewhere h t at = elim (cases_lt at (made t h)) [
  | inl less ↦ let there = place_exists h t at less in (there.0 + 2, cause.Call, (there.0, there.1, refl))
  | inr none ↦ (length h + 2, cause.End, (none, refl))
]

follows_there : (h : List Entry) (r : Replayed) (follows : List Follow) (t : ℕ) (f : Follow) → ((l : ℕ) (w : Why) → IsFault h r follows l w → ⊥) → slice_get follows t ≡ Some f → f ≡ ways.Yes
follows_there h r follows t ways.Yes none there = refl
follows_there h r follows t (ways.Parts at) none there =
    let fault = parts_somewhere h t at in
    absurd (none fault.0 fault.1 (inr (t, ways.Parts at, there, fault.2)))

abbrev is_yes : Verdict → Bool
is_yes (verdicts.Yes c) = true
is_yes (verdicts.No line why) = false

no_fault : (s : State) (h : List Entry) (a : Replayed) (follows : List Follow) → Replays s h a → IsLegal s h → AllFollow follows → (l : ℕ) (w : Why) → IsFault h a follows l w → ⊥
no_fault s h (replays.Legal c) follows r legal all l w (inl b) = b
no_fault s h (replays.Breaks at why) follows r legal all l w (inl b) = broken_not_legal s h at why r legal
no_fault s h a follows r legal all l w (inr b) = subst (λ (f : Follow). PartsBy h b.0 f l w) (all b.0 b.1 b.2) b.3

yes_counts : (s : State) (h : List Entry) (a : Replayed) (c : Counts) → Replays s h a → a ≡ replays.Legal c → IsLegal s h × (c ≡ counts_of h)
yes_counts s h (replays.Legal d) c r is = (r.0, ap (λ z. counts_in z c) (sym is) ∙ r.1)
yes_counts s h (replays.Breaks at why) c r is = absurd (false≢true (ap is_legal is))
  where
    is_legal : Replayed → Bool
    is_legal (replays.Legal c) = true
    is_legal (replays.Breaks at why) = false

pub verdict_yes : (s : State) (h : List Entry) (a : Replayed) (follows : List Follow) (v : Verdict) → Replays s h a → Judges h a follows v
    → ((v ≡ verdicts.Yes (counts_of h)) ↔ (IsLegal s h × AllFollow follows))
verdict_yes s h a follows (verdicts.Yes c) r j =
    let is = yes_counts s h a c r j.0 in
    (λ _. (is.0, λ t f there. follows_there h a follows t f j.1 there), λ _. ap verdicts.Yes is.1)
verdict_yes s h a follows (verdicts.No line why) r j =
    (λ same. absurd (false≢true (ap is_yes same)), λ both. absurd (no_fault s h a follows r both.0 both.1 line why j.0))
