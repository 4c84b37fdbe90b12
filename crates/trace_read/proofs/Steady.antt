-- Readers of fields that stop at the first field at which nothing goes on, and how they are put together.
use Rattle.std.proofs.Common.{◌≡◌, ◌∙◌, refl, sym, ap, ℕ, List, [], ◌∷◌, ◌++◌, append_assoc, Bool, Option, Some, None, Result, Ok, Err, subst}
use Rattle.trace_fields.specs.declared.refusal.Cause.{Cause}
use Rattle.trace_fields.specs.declared.refusal.Cause.TheVariants as cause
use Rattle.trace_fields.specs.Reading.{Fields, ◌>>=◌, taken}
use Rattle.trace_entries.specs.Taking.{Taken, held_or}
use Rattle.trace_read.specs.Refusing.{Stands, OfPlainest}
use Rattle.trace_read.proofs.Causes.{Only, Because, Why, Holds, because_there, why_there}

-- a field is missing, or this one is refused whatever stands behind it
abbrev pub Here : {Y : Type 0} → (Fields → Result Y Cause) → Fields → Fields → Cause → Type 0
Here r front [] why = why ≡ cause.Fields
Here r front (field ∷ fields) why = (more : Fields) → r (front ++ field ∷ more) ≡ Err why

-- a field that could stand behind those
abbrev pub Could : {Y : Type 0} → (Fields → Result Y Cause) → Fields → List ℕ → Type 0
Could {Y} r front field = (more : Fields) × (y : Y) × (r (front ++ field ∷ more) ≡ Ok y)

-- ---- readers of the front of some fields

-- a field that stands behind those in some fields that are read, whatever stands behind them
abbrev pub Does : {X : Type 0} → (Fields → Taken X) → Fields → List ℕ → Type 0
Does {X} r front field = (tail : Fields) × (x : X) × ((more : Fields) → r (front ++ field ∷ (tail ++ more)) ≡ Ok (x, more))

-- some fields that are read, whatever stands behind them
pub record Example {X : Type 0} (r : Fields → Taken X) : Type 0 where
  pub fields : Fields
  pub x : X
  pub read : (more : Fields) → r (fields ++ more) ≡ Ok (x, more)

pub record Local {X : Type 0} (r : Fields → Taken X) (fields : Fields) (x : X) (rest : Fields) : Type 0 where
  pub front : Fields
  pub parts : fields ≡ front ++ rest
  pub again : (more : Fields) → r (front ++ more) ≡ Ok (x, more)

pub record Stop {X : Type 0} (old : Bool) (r : Fields → Taken X) (fields : Fields) (why : Cause) : Type 0 where
  pub front : Fields
  pub rest : Fields
  pub parts : fields ≡ front ++ rest
  pub tail : Fields
  pub x : X
  pub onward : (more : Fields) → r (front ++ (tail ++ more)) ≡ Ok (x, more)
  pub here : Here r front rest why
  pub because : Why old (Could r front) (Does r front) rest why

pub record Steady {X : Type 0} (old : Bool) (r : Fields → Taken X) : Type 0 where
  pub example : Example r
  pub reads : (fields : Fields) (x : X) (rest : Fields) → r fields ≡ Ok (x, rest) → Local r fields x rest
  pub stops : (fields : Fields) (why : Cause) → r fields ≡ Err why → Stop old r fields why

-- nothing is read
abbrev pub done : {X : Type 0} → X → Fields → Taken X
done x fields = Ok (x, fields)

abbrev ok : {A : Type 0} → A → Result A Cause
ok x = Ok x

ok_is : {A : Type 0} (x y : A) → ok x ≡ ok y → x ≡ y
ok_is x y h = cc

abbrev err : {A : Type 0} → Cause → Result A Cause
err why = Err why

err_is : {A : Type 0} (x y : Cause) → err {A = A} x ≡ err y → x ≡ y
err_is x y h = cc

done_reads : {X : Type 0} (x : X) (fields : Fields) (y : X) (rest : Fields) → done x fields ≡ Ok (y, rest) → Local (done x) fields y rest
done_reads x fields y rest h =
    let same = ok_is (x, fields) (y, rest) h in
    let one : x ≡ y = λ k. (same k).0 in
    let other : fields ≡ rest = λ k. (same k).1 in
    record { front = []; parts = other; again = λ more. (λ k. ok (one k, more)) }

done_stops : {X : Type 0} (old : Bool) (x : X) (fields : Fields) (why : Cause) → done x fields ≡ Err why → Stop old (done x) fields why
done_stops old x fields why h = cc

pub steady_done : {X : Type 0} (old : Bool) (x : X) → Steady old (done x)
steady_done old x = record { example = record { fields = []; x = x; read = λ more. refl }; reads = done_reads x; stops = done_stops old x }

-- ---- one field

one_reads : {X : Type 0} (why : Cause) (read : List ℕ → Option X) (field : List ℕ) (fields : Fields) (x : X) (rest : Fields) (o : Option X) → read field ≡ o → held_or why o fields ≡ Ok (x, rest) → Local (taken why read) (field ∷ fields) x rest
one_reads why read field fields x rest None is h = cc
one_reads why read field fields x rest (Some y) is h =
    let same = ok_is (y, fields) (x, rest) h in
    let one : y ≡ x = λ k. (same k).0 in
    record {
      front = field ∷ [];
      parts = (λ k. field ∷ (same k).1);
      again = λ more. ap (λ o. held_or why o more) is ∙ (λ k. ok (one k, more));
    }

taken_reads : {X : Type 0} (why : Cause) (read : List ℕ → Option X) (fields : Fields) (x : X) (rest : Fields) → taken why read fields ≡ Ok (x, rest) → Local (taken why read) fields x rest
taken_reads why read [] x rest h = cc
taken_reads why read (field ∷ fields) x rest h = one_reads why read field fields x rest (read field) refl h

-- what a kind of field holds is of the kind that a cause names
abbrev pub Told : {X : Type 0} → Bool → Cause → (List ℕ → Option X) → Type 0
Told {X} old why read = (field : List ℕ) (x : X) → read field ≡ Some x → Stands old why field

pub only_kind : {X : Type 0} (old : Bool) (why : Cause) (read : List ℕ → Option X) → Told old why read → OfPlainest (Holds read) why → Only old (Holds read) (Holds read) why
only_kind old why read told plainest = (λ field h. told field h.0 h.1, plainest)

held_was : {X : Type 0} (why : Cause) (read : List ℕ → Option X) (field : List ℕ) (more : Fields) (y : X × Fields) (o : Option X) → read field ≡ o → held_or why o more ≡ Ok y → Holds read field
held_was why read field more y None is h = cc
held_was why read field more y (Some x) is h = (x, is)

could_hold : {X : Type 0} (why : Cause) (read : List ℕ → Option X) (field : List ℕ) → Could (taken why read) [] field → Holds read field
could_hold why read field c = held_was why read field c.0 c.1 (read field) refl c.2

does_hold : {X : Type 0} (why : Cause) (read : List ℕ → Option X) (field : List ℕ) → Holds read field → Does (taken why read) [] field
does_hold why read field h = ([], h.0, λ more. ap (λ o. held_or why o more) h.1)

one_because : {X : Type 0} (old : Bool) (why : Cause) (read : List ℕ → Option X) → Because old (Holds read) (Holds read) why → Because old (Could (taken why read) []) (Does (taken why read) []) why
one_because old why read h = because_there old (Holds read) (Holds read) (Could (taken why read) []) (Does (taken why read) []) (could_hold why read) (does_hold why read) why h

one_stops : {X : Type 0} (old : Bool) (why : Cause) (read : List ℕ → Option X) (sample : List ℕ) (held : X) → read sample ≡ Some held → Because old (Holds read) (Holds read) why → (field : List ℕ) (fields : Fields) (told_why : Cause) (o : Option X) → read field ≡ o → held_or why o fields ≡ Err told_why → Stop old (taken why read) (field ∷ fields) told_why
one_stops {X} old why read sample held sampled reason field fields told_why None is h =
    let same : why ≡ told_why = err_is {A = X × Fields} why told_why h in
    record {
      front = [];
      rest = field ∷ fields;
      parts = refl;
      tail = sample ∷ [];
      x = held;
      onward = λ more. ap (λ o. held_or why o more) sampled;
      here = λ more. ap (λ o. held_or why o more) is ∙ ap err same;
      because = subst (λ w. Because old (Could (taken why read) []) (Does (taken why read) []) w) same (one_because old why read reason);
    }
one_stops {X} old why read sample held sampled reason field fields told_why (Some y) is h = cc

taken_stops : {X : Type 0} (old : Bool) (why : Cause) (read : List ℕ → Option X) (sample : List ℕ) (held : X) → read sample ≡ Some held → Because old (Holds read) (Holds read) why → (fields : Fields) (told_why : Cause) → taken why read fields ≡ Err told_why → Stop old (taken why read) fields told_why
taken_stops {X} old why read sample held sampled reason [] told_why h =
    let same : cause.Fields ≡ told_why = err_is {A = X × Fields} cause.Fields told_why h in
    record {
      front = [];
      rest = [];
      parts = refl;
      tail = sample ∷ [];
      x = held;
      onward = λ more. ap (λ o. held_or why o more) sampled;
      here = sym same;
      because = tt;
    }
taken_stops {X} old why read sample held sampled reason (field ∷ fields) told_why h = one_stops old why read sample held sampled reason field fields told_why (read field) refl h

pub steady_field : {X : Type 0} (old : Bool) (why : Cause) (read : List ℕ → Option X) (sample : List ℕ) (held : X) → read sample ≡ Some held → Because old (Holds read) (Holds read) why → Steady old (taken why read)
steady_field old why read sample held sampled reason = record {
  example = record { fields = sample ∷ []; x = held; read = λ more. ap (λ o. held_or why o more) sampled };
  reads = taken_reads why read;
  stops = taken_stops old why read sample held sampled reason;
}

-- ---- one reader behind another

abbrev pub bound : {X Y : Type 0} → (Fields → Taken X) → (X → Fields → Result Y Cause) → Fields → Result Y Cause
bound r k fields = r fields >>= λ p. k p.0 p.1

-- what a result is
abbrev pub Known : {X Y : Type 0} → (Fields → Taken X) → (X → Fields → Result Y Cause) → Fields → Result Y Cause → Result (X × Fields) Cause → Type 0
Known {X} {Y} r k fields whole (Ok p) = (r fields ≡ Ok p) × (k p.0 p.1 ≡ whole)
Known {X} {Y} r k fields whole (Err why) = (r fields ≡ Err why) × (err {A = Y} why ≡ whole)

bound_is : {X Y : Type 0} (r : Fields → Taken X) (k : X → Fields → Result Y Cause) (fields : Fields) (whole : Result Y Cause) (one : Result (X × Fields) Cause) → r fields ≡ one → bound r k fields ≡ whole → Known r k fields whole one
bound_is r k fields whole (Ok p) is h = (is, ap (λ o. o >>= λ p. k p.0 p.1) (sym is) ∙ h)
bound_is r k fields whole (Err why) is h = (is, ap (λ o. o >>= λ p. k p.0 p.1) (sym is) ∙ h)

-- read on behind a front that is read
on : {X Y : Type 0} (r : Fields → Taken X) (k : X → Fields → Result Y Cause) (front : Fields) (x : X) → ((more : Fields) → r (front ++ more) ≡ Ok (x, more)) → (more : Fields) → bound r k (front ++ more) ≡ k x more
on r k front x again more = ap (λ o. o >>= λ p. k p.0 p.1) (again more)

-- read on behind two fronts
on_both : {X Y : Type 0} (r : Fields → Taken X) (k : X → Fields → Result Y Cause) (front : Fields) (x : X) → ((more : Fields) → r (front ++ more) ≡ Ok (x, more)) → (next more : Fields) → bound r k ((front ++ next) ++ more) ≡ k x (next ++ more)
on_both r k front x again next more = ap (bound r k) (append_assoc front next more) ∙ on r k front x again (next ++ more)

bound_example : {X Y : Type 0} (r : Fields → Taken X) (k : X → Fields → Taken Y) → Example r → ((x : X) → Example (k x)) → Example (bound r k)
bound_example r k one next =
    let two = next one.x in
    record { fields = one.fields ++ two.fields; x = two.x; read = λ more. on_both r k one.fields one.x one.read two.fields more ∙ two.read more }

reads_from : {X Y : Type 0} (old : Bool) (r : Fields → Taken X) (k : X → Fields → Taken Y) → Steady old r → ((x : X) → Steady old (k x)) → (fields : Fields) (y : Y) (rest : Fields) (one : Result (X × Fields) Cause) → Known r k fields (Ok (y, rest)) one → Local (bound r k) fields y rest
reads_from old r k first next fields y rest (Ok p) known =
    let a = first.reads fields p.0 p.1 known.0 in
    let b = (next p.0).reads p.1 y rest known.1 in
    record {
      front = a.front ++ b.front;
      parts = a.parts ∙ ap (λ t. a.front ++ t) b.parts ∙ sym (append_assoc a.front b.front rest);
      again = λ more. on_both r k a.front p.0 a.again b.front more ∙ b.again more;
    }
reads_from old r k first next fields y rest (Err why) known = let h = known.1 in cc

here_first : {X Y : Type 0} (r : Fields → Taken X) (k : X → Fields → Result Y Cause) (front rest : Fields) (why : Cause) → Here r front rest why → Here (bound r k) front rest why
here_first r k front [] why h = h
here_first r k front (field ∷ fields) why h = λ more. ap (λ o. o >>= λ p. k p.0 p.1) (h more)

here_next : {X Y : Type 0} (r : Fields → Taken X) (k : X → Fields → Result Y Cause) (front : Fields) (x : X) (again : (more : Fields) → r (front ++ more) ≡ Ok (x, more)) (next rest : Fields) (why : Cause) → Here (k x) next rest why → Here (bound r k) (front ++ next) rest why
here_next r k front x again next [] why h = h
here_next r k front x again next (field ∷ fields) why h = λ more. on_both r k front x again next (field ∷ more) ∙ h more

-- where the whole goes on, the first reader did
first_read : {X Y : Type 0} (r : Fields → Taken X) (k : X → Fields → Result Y Cause) (fields : Fields) (y : Y) (one : Result (X × Fields) Cause) → Known r k fields (Ok y) one → (p : X × Fields) × (r fields ≡ Ok p)
first_read r k fields y (Ok p) known = (p, known.0)
first_read r k fields y (Err why) known = let h = known.1 in cc

-- what could stand for both could stand for the first
could_first : {X Y : Type 0} (r : Fields → Taken X) (k : X → Fields → Result Y Cause) (front : Fields) (field : List ℕ) → Could (bound r k) front field → Could r front field
could_first r k front field c =
    let whole = front ++ field ∷ c.0 in
    let was = first_read r k whole c.1 (r whole) (bound_is r k whole (Ok c.1) (r whole) refl c.2) in
    (c.0, was.0, was.1)

does_first : {X Y : Type 0} (r : Fields → Taken X) (k : X → Fields → Taken Y) → ((x : X) → Example (k x)) → (front : Fields) (field : List ℕ) → Does r front field → Does (bound r k) front field
does_first r k next front field d =
    let b = next d.1 in
    (d.0 ++ b.fields, b.x, λ more. ap (λ t. bound r k (front ++ field ∷ t)) (append_assoc d.0 b.fields more) ∙ ap (λ o. o >>= λ p. k p.0 p.1) (d.2 (b.fields ++ more)) ∙ b.read more)

could_next : {X Y : Type 0} (r : Fields → Taken X) (k : X → Fields → Result Y Cause) (front : Fields) (x : X) (again : (more : Fields) → r (front ++ more) ≡ Ok (x, more)) (next : Fields) (field : List ℕ) → Could (bound r k) (front ++ next) field → Could (k x) next field
could_next r k front x again next field c = (c.0, c.1, sym (on_both r k front x again next (field ∷ c.0)) ∙ c.2)

does_next : {X Y : Type 0} (r : Fields → Taken X) (k : X → Fields → Taken Y) (front : Fields) (x : X) (again : (more : Fields) → r (front ++ more) ≡ Ok (x, more)) (next : Fields) (field : List ℕ) → Does (k x) next field → Does (bound r k) (front ++ next) field
does_next r k front x again next field d = (d.0, d.1, λ more. on_both r k front x again next (field ∷ (d.0 ++ more)) ∙ d.2 more)

because_first : {X Y : Type 0} (old : Bool) (r : Fields → Taken X) (k : X → Fields → Taken Y) → ((x : X) → Example (k x)) → (front rest : Fields) (why : Cause) → Why old (Could r front) (Does r front) rest why → Why old (Could (bound r k) front) (Does (bound r k) front) rest why
because_first old r k next front rest why h = why_there old (Could r front) (Does r front) (Could (bound r k) front) (Does (bound r k) front) (could_first r k front) (does_first r k next front) rest why h

because_next : {X Y : Type 0} (old : Bool) (r : Fields → Taken X) (k : X → Fields → Taken Y) (front : Fields) (x : X) (again : (more : Fields) → r (front ++ more) ≡ Ok (x, more)) (next rest : Fields) (why : Cause) → Why old (Could (k x) next) (Does (k x) next) rest why → Why old (Could (bound r k) (front ++ next)) (Does (bound r k) (front ++ next)) rest why
because_next old r k front x again next rest why h =
    why_there old (Could (k x) next) (Does (k x) next) (Could (bound r k) (front ++ next)) (Does (bound r k) (front ++ next)) (could_next r k front x again next) (does_next r k front x again next) rest why h

stops_from : {X Y : Type 0} (old : Bool) (r : Fields → Taken X) (k : X → Fields → Taken Y) → Steady old r → ((x : X) → Steady old (k x)) → (fields : Fields) (why : Cause) (one : Result (X × Fields) Cause) → Known r k fields (Err why) one → Stop old (bound r k) fields why
stops_from {X} {Y} old r k first next fields why (Ok p) known =
    let a = first.reads fields p.0 p.1 known.0 in
    let b = (next p.0).stops p.1 why known.1 in
    record {
      front = a.front ++ b.front;
      rest = b.rest;
      parts = a.parts ∙ ap (λ t. a.front ++ t) b.parts ∙ sym (append_assoc a.front b.front b.rest);
      tail = b.tail;
      x = b.x;
      onward = λ more. on_both r k a.front p.0 a.again b.front (b.tail ++ more) ∙ b.onward more;
      here = here_next r k a.front p.0 a.again b.front b.rest why b.here;
      because = because_next old r k a.front p.0 a.again b.front b.rest why b.because;
    }
stops_from {X} {Y} old r k first next fields why (Err told) known =
    let same : told ≡ why = err_is {A = Y × Fields} told why known.1 in
    let a = first.stops fields why (known.0 ∙ ap err same) in
    let b = (next a.x).example in
    record {
      front = a.front;
      rest = a.rest;
      parts = a.parts;
      tail = a.tail ++ b.fields;
      x = b.x;
      onward = λ more. ap (λ t. bound r k (a.front ++ t)) (append_assoc a.tail b.fields more) ∙ ap (λ o. o >>= λ p. k p.0 p.1) (a.onward (b.fields ++ more)) ∙ b.read more;
      here = here_first r k a.front a.rest why a.here;
      because = because_first old r k (λ x. (next x).example) a.front a.rest why a.because;
    }

pub steady_bound : {X Y : Type 0} (old : Bool) (r : Fields → Taken X) (k : X → Fields → Taken Y) → Steady old r → ((x : X) → Steady old (k x)) → Steady old (bound r k)
steady_bound old r k first next = record {
  example = bound_example r k first.example (λ x. (next x).example);
  reads = λ fields y rest h. reads_from old r k first next fields y rest (r fields) (bound_is r k fields (Ok (y, rest)) (r fields) refl h);
  stops = λ fields why h. stops_from old r k first next fields why (r fields) (bound_is r k fields (Err why) (r fields) refl h);
}

-- ---- readers of all fields

pub record WholeExample {Y : Type 0} (r : Fields → Result Y Cause) : Type 0 where
  pub fields : Fields
  pub y : Y
  pub read : r fields ≡ Ok y

pub record WholeStop {Y : Type 0} (old : Bool) (r : Fields → Result Y Cause) (fields : Fields) (why : Cause) : Type 0 where
  pub front : Fields
  pub rest : Fields
  pub parts : fields ≡ front ++ rest
  pub tail : Fields
  pub y : Y
  pub onward : r (front ++ tail) ≡ Ok y
  pub here : Here r front rest why
  pub because : Why old (Could r front) (Could r front) rest why

pub record Whole {Y : Type 0} (old : Bool) (r : Fields → Result Y Cause) : Type 0 where
  pub example : WholeExample r
  pub stops : (fields : Fields) (why : Cause) → r fields ≡ Err why → WholeStop old r fields why

does_first_whole : {X Y : Type 0} (r : Fields → Taken X) (k : X → Fields → Result Y Cause) → ((x : X) → WholeExample (k x)) → (front : Fields) (field : List ℕ) → Does r front field → Could (bound r k) front field
does_first_whole r k next front field d =
    let b = next d.1 in
    (d.0 ++ b.fields, b.y, ap (λ o. o >>= λ p. k p.0 p.1) (d.2 b.fields) ∙ b.read)

could_on : {X Y : Type 0} (r : Fields → Taken X) (k : X → Fields → Result Y Cause) (front : Fields) (x : X) (again : (more : Fields) → r (front ++ more) ≡ Ok (x, more)) (next : Fields) (field : List ℕ) → Could (k x) next field → Could (bound r k) (front ++ next) field
could_on r k front x again next field c = (c.0, c.1, on_both r k front x again next (field ∷ c.0) ∙ c.2)

because_first_whole : {X Y : Type 0} (old : Bool) (r : Fields → Taken X) (k : X → Fields → Result Y Cause) → ((x : X) → WholeExample (k x)) → (front rest : Fields) (why : Cause) → Why old (Could r front) (Does r front) rest why → Why old (Could (bound r k) front) (Could (bound r k) front) rest why
because_first_whole old r k next front rest why h = why_there old (Could r front) (Does r front) (Could (bound r k) front) (Could (bound r k) front) (could_first r k front) (does_first_whole r k next front) rest why h

because_next_whole : {X Y : Type 0} (old : Bool) (r : Fields → Taken X) (k : X → Fields → Result Y Cause) (front : Fields) (x : X) (again : (more : Fields) → r (front ++ more) ≡ Ok (x, more)) (next rest : Fields) (why : Cause) → Why old (Could (k x) next) (Could (k x) next) rest why → Why old (Could (bound r k) (front ++ next)) (Could (bound r k) (front ++ next)) rest why
because_next_whole old r k front x again next rest why h =
    why_there old (Could (k x) next) (Could (k x) next) (Could (bound r k) (front ++ next)) (Could (bound r k) (front ++ next)) (could_next r k front x again next) (could_on r k front x again next) rest why h

whole_stops_from : {X Y : Type 0} (old : Bool) (r : Fields → Taken X) (k : X → Fields → Result Y Cause) → Steady old r → ((x : X) → Whole old (k x)) → (fields : Fields) (why : Cause) (one : Result (X × Fields) Cause) → Known r k fields (Err why) one → WholeStop old (bound r k) fields why
whole_stops_from {X} {Y} old r k first next fields why (Ok p) known =
    let a = first.reads fields p.0 p.1 known.0 in
    let b = (next p.0).stops p.1 why known.1 in
    record {
      front = a.front ++ b.front;
      rest = b.rest;
      parts = a.parts ∙ ap (λ t. a.front ++ t) b.parts ∙ sym (append_assoc a.front b.front b.rest);
      tail = b.tail;
      y = b.y;
      onward = on_both r k a.front p.0 a.again b.front b.tail ∙ b.onward;
      here = here_next r k a.front p.0 a.again b.front b.rest why b.here;
      because = because_next_whole old r k a.front p.0 a.again b.front b.rest why b.because;
    }
whole_stops_from {X} {Y} old r k first next fields why (Err told) known =
    let same : told ≡ why = err_is {A = Y} told why known.1 in
    let a = first.stops fields why (known.0 ∙ ap err same) in
    let b = (next a.x).example in
    record {
      front = a.front;
      rest = a.rest;
      parts = a.parts;
      tail = a.tail ++ b.fields;
      y = b.y;
      onward = ap (λ o. o >>= λ p. k p.0 p.1) (a.onward b.fields) ∙ b.read;
      here = here_first r k a.front a.rest why a.here;
      because = because_first_whole old r k (λ x. (next x).example) a.front a.rest why a.because;
    }

pub whole_bound : {X Y : Type 0} (old : Bool) (r : Fields → Taken X) (k : X → Fields → Result Y Cause) → Steady old r → ((x : X) → Whole old (k x)) → Whole old (bound r k)
whole_bound old r k first next = record {
  example = let one = first.example in let two = (next one.x).example in record { fields = one.fields ++ two.fields; y = two.y; read = on r k one.fields one.x one.read two.fields ∙ two.read };
  stops = λ fields why h. whole_stops_from old r k first next fields why (r fields) (bound_is r k fields (Err why) (r fields) refl h);
}
