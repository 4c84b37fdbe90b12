-- Which cause fits a field, and that no other does.
use Rattle.std.proofs.Common.{◌≡◌, ◌∙◌, refl, sym, ℕ, List, [], ◌∷◌, Bool, Option, Some, codes, ◌⊎◌, inl, inr}
use Rattle.trace_fields.specs.declared.refusal.Cause.{Cause}
use Rattle.trace_fields.specs.declared.refusal.Cause.TheVariants as cause
use Rattle.trace_fields.specs.Reading.{Fields}
use Rattle.trace_entries.specs.EventWords.{any_event_word}
use Rattle.trace_entries.specs.ReplyWords.{any_reply_word}
use Rattle.trace_read.specs.Refusing.{Is, Stands, OfPlainest, CouldStand, OnlyOfKind, Fits}
use Rattle.trace_read.proofs.Odd.{no_number, no_escape, no_event, no_reply, Odd}

-- ---- the plainest field of a kind

pub plainest_there : (P Q : List ℕ → Type 0) → ((field : List ℕ) → P field → Q field) → (why : Cause) → OfPlainest P why → OfPlainest Q why
plainest_there P Q there cause.Fields h = h
plainest_there P Q there cause.Number h = there (codes "0") h
plainest_there P Q there cause.Name h = there (codes "a") h
plainest_there P Q there cause.Escape h = there (codes "\"\"") h
plainest_there P Q there cause.Event h = there (codes "wake") h
plainest_there P Q there cause.Reply h = there (codes "done") h
plainest_there P Q there cause.Cut h = h

-- ---- a place: what could stand there, and what does in some fields

-- only fields of a cause's kind could, and the plainest of the kind does
abbrev pub Only : Bool → (List ℕ → Type 0) → (List ℕ → Type 0) → Cause → Type 0
Only old Could Does why = ((field : List ℕ) → Could field → Stands old why field) × OfPlainest Does why

-- a field of another kind does, or the plainest could not
abbrev pub Unfit : Bool → (List ℕ → Type 0) → (List ℕ → Type 0) → Cause → Type 0
Unfit old Could Does other = ((field : List ℕ) × Does field × (Stands old other field → ⊥)) ⊎ (OfPlainest Could other → ⊥)

abbrev pub Because : Bool → (List ℕ → Type 0) → (List ℕ → Type 0) → Cause → Type 0
Because old Could Does cause.Fields = (other : Cause) → Unfit old Could Does other
Because old Could Does why = Only old Could Does why

-- a field is missing, or the cause of the one that stands there
abbrev pub Why : Bool → (List ℕ → Type 0) → (List ℕ → Type 0) → Fields → Cause → Type 0
Why old Could Does [] why = Unit {0}
Why old Could Does (field ∷ fields) why = Because old Could Does why

-- ---- from one place to another

only_there : (old : Bool) (C D E F : List ℕ → Type 0) → ((field : List ℕ) → E field → C field) → ((field : List ℕ) → D field → F field) → (why : Cause) → Only old C D why → Only old E F why
only_there old C D E F down up why h = (λ field c. h.0 field (down field c), plainest_there D F up why h.1)

unfit_there : (old : Bool) (C D E F : List ℕ → Type 0) → ((field : List ℕ) → E field → C field) → ((field : List ℕ) → D field → F field) → (other : Cause) → Unfit old C D other → Unfit old E F other
unfit_there old C D E F down up other (inl u) = inl (u.0, up u.0 u.1, u.2)
unfit_there old C D E F down up other (inr none) = inr (λ h. none (plainest_there E C down other h))

pub because_there : (old : Bool) (C D E F : List ℕ → Type 0) → ((field : List ℕ) → E field → C field) → ((field : List ℕ) → D field → F field) → (why : Cause) → Because old C D why → Because old E F why
because_there old C D E F down up cause.Fields h = λ other. unfit_there old C D E F down up other (h other)
because_there old C D E F down up cause.Number h = only_there old C D E F down up cause.Number h
because_there old C D E F down up cause.Name h = only_there old C D E F down up cause.Name h
because_there old C D E F down up cause.Escape h = only_there old C D E F down up cause.Escape h
because_there old C D E F down up cause.Event h = only_there old C D E F down up cause.Event h
because_there old C D E F down up cause.Reply h = only_there old C D E F down up cause.Reply h
because_there old C D E F down up cause.Cut h = only_there old C D E F down up cause.Cut h

pub why_there : (old : Bool) (C D E F : List ℕ → Type 0) → ((field : List ℕ) → E field → C field) → ((field : List ℕ) → D field → F field) → (rest : Fields) (why : Cause) → Why old C D rest why → Why old E F rest why
why_there old C D E F down up [] why h = tt
why_there old C D E F down up (field ∷ fields) why h = because_there old C D E F down up why h

-- ---- the cause that fits

unfit_never : (old : Bool) (C : List ℕ → Type 0) (other : Cause) → Unfit old C C other → Only old C C other → ⊥
unfit_never old C other (inl u) h = u.2 (h.0 u.0 u.1)
unfit_never old C other (inr none) h = none h.1

pub fits : (old : Bool) (front : Fields) (why : Cause) → Because old (CouldStand old front) (CouldStand old front) why → Fits old front why
fits old front cause.Fields h = λ other only. unfit_never old (CouldStand old front) other (h other) only
fits old front cause.Number h = h
fits old front cause.Name h = h
fits old front cause.Escape h = h
fits old front cause.Event h = h
fits old front cause.Reply h = h
fits old front cause.Cut h = h

-- ---- kinds of one field

abbrev pub Holds : {X : Type 0} → (List ℕ → Option X) → List ℕ → Type 0
Holds read field = Is (read field)

-- a field of no kind is read
pub odd_unfit : {X : Type 0} (old : Bool) (read : List ℕ → Option X) (field : List ℕ) (x : X) → read field ≡ Some x → Odd field → (other : Cause) → Unfit old (Holds read) (Holds read) other
odd_unfit old read field x is odd cause.Fields = inr (λ h. h)
odd_unfit old read field x is odd cause.Number = inl (field, (x, is), odd.number)
odd_unfit old read field x is odd cause.Name = inl (field, (x, is), odd.name)
odd_unfit old read field x is odd cause.Escape = inl (field, (x, is), odd.escape)
odd_unfit old read field x is odd cause.Event = inl (field, (x, is), no_event old field odd.event)
odd_unfit old read field x is odd cause.Reply = inl (field, (x, is), no_reply old field odd.reply)
odd_unfit old read field x is odd cause.Cut = inr (λ h. h)

-- the plainest field of no kind could stand there
pub plain_unfit : (old : Bool) (Could Does : List ℕ → Type 0) → (Could (codes "0") → ⊥) → (Could (codes "a") → ⊥) → (Could (codes "\"\"") → ⊥) → (Could (codes "wake") → ⊥) → (Could (codes "done") → ⊥) → (other : Cause) → Unfit old Could Does other
plain_unfit old Could Does number name escape event reply cause.Fields = inr (λ h. h)
plain_unfit old Could Does number name escape event reply cause.Number = inr number
plain_unfit old Could Does number name escape event reply cause.Name = inr name
plain_unfit old Could Does number name escape event reply cause.Escape = inr escape
plain_unfit old Could Does number name escape event reply cause.Event = inr event
plain_unfit old Could Does number name escape event reply cause.Reply = inr reply
plain_unfit old Could Does number name escape event reply cause.Cut = inr (λ h. h)

-- ---- no two causes fit

apart : (old : Bool) (x y : Cause) → OfPlainest (Stands old y) x → OfPlainest (Stands old x) y → x ≡ y
unfolding any_event_word any_reply_word
apart old cause.Fields y g h = absurd g
apart old cause.Cut y g h = absurd g
apart old cause.Number cause.Number g h = refl
apart old cause.Number cause.Name g h = absurd (no_number 97 [] refl h)
apart old cause.Number cause.Escape g h = absurd (no_number 34 (34 ∷ []) refl h)
apart old cause.Number cause.Event g h = absurd (no_number 119 (codes "ake") refl h)
apart old cause.Number cause.Reply g h = absurd (no_number 100 (codes "one") refl h)
apart old cause.Name cause.Number g h = absurd (no_number 97 [] refl g)
apart old cause.Name cause.Name g h = refl
apart old cause.Name cause.Escape g h = absurd (no_escape 97 [] refl refl g)
apart old cause.Name cause.Event g h = absurd (no_event old (codes "a") refl g)
apart old cause.Name cause.Reply g h = absurd (no_reply old (codes "a") refl g)
apart old cause.Escape cause.Number g h = absurd (no_number 34 (34 ∷ []) refl g)
apart old cause.Escape cause.Name g h = absurd (no_escape 97 [] refl refl h)
apart old cause.Escape cause.Escape g h = refl
apart old cause.Escape cause.Event g h = absurd (no_event old (codes "\"\"") refl g)
apart old cause.Escape cause.Reply g h = absurd (no_reply old (codes "\"\"") refl g)
apart old cause.Event cause.Number g h = absurd (no_number 119 (codes "ake") refl g)
apart old cause.Event cause.Name g h = absurd (no_event old (codes "a") refl h)
apart old cause.Event cause.Escape g h = absurd (no_event old (codes "\"\"") refl h)
apart old cause.Event cause.Event g h = refl
apart old cause.Event cause.Reply g h = absurd (no_reply old (codes "wake") refl g)
apart old cause.Reply cause.Number g h = absurd (no_number 100 (codes "one") refl g)
apart old cause.Reply cause.Name g h = absurd (no_reply old (codes "a") refl h)
apart old cause.Reply cause.Escape g h = absurd (no_reply old (codes "\"\"") refl h)
apart old cause.Reply cause.Event g h = absurd (no_reply old (codes "wake") refl h)
apart old cause.Reply cause.Reply g h = refl
apart old x cause.Fields g h = absurd h
apart old x cause.Cut g h = absurd h

one_kind : (old : Bool) (front : Fields) (x y : Cause) → OnlyOfKind old front x → OnlyOfKind old front y → x ≡ y
one_kind old front x y f g = apart old x y (plainest_there (CouldStand old front) (Stands old y) g.0 x f.1) (plainest_there (CouldStand old front) (Stands old x) f.0 y g.1)

-- what fits is `Fields`, where no kind is the only one, or a cause of such a kind
abbrev Known : Bool → Fields → Cause → Type 0
Known old front why = ((why ≡ cause.Fields) × ((other : Cause) → OnlyOfKind old front other → ⊥)) ⊎ OnlyOfKind old front why

known : (old : Bool) (front : Fields) (why : Cause) → Fits old front why → Known old front why
known old front cause.Fields f = inl (refl, f)
known old front cause.Number f = inr f
known old front cause.Name f = inr f
known old front cause.Escape f = inr f
known old front cause.Event f = inr f
known old front cause.Reply f = inr f
known old front cause.Cut f = inr f

one_known : (old : Bool) (front : Fields) (x y : Cause) → Known old front x → Known old front y → x ≡ y
one_known old front x y (inl f) (inl g) = f.0 ∙ sym g.0
one_known old front x y (inl f) (inr g) = absurd (f.1 y g)
one_known old front x y (inr f) (inl g) = absurd (g.1 x f)
one_known old front x y (inr f) (inr g) = one_kind old front x y f g

pub one_fits : (old : Bool) (front : Fields) (x y : Cause) → Fits old front x → Fits old front y → x ≡ y
one_fits old front x y f g = one_known old front x y (known old front x f) (known old front y g)
