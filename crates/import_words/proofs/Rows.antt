-- What is seen of the rows of a parse by an id: the values, and how they are read.
use Rattle.std.proofs.Common.{◌≡◌, ◌∙◌, refl, ap, Bool, true, false, cond, List, [], ◌∷◌, ◌++◌, Option, Some, None, inl, inr, true≢false, is_some}
use Rattle.std.specs.Prelude.{slice_get, option_and_then, option_map, if◌then◌else◌}
use Rattle.std.specs.List.{find}
use Rattle.std.specs.Option.{option_or}
use Rattle.std.specs.Str.{bytes_eq}
use Rattle.std.proofs.lemmas.Bool.{cases_Bool}
use Rattle.std.proofs.lemmas.List.Folds.{find-append}
use Rattle.std.proofs.lemmas.Slice.Eq.{bytes_eq-Decides}
use Rattle.clap.specs.Values.{read_as}
use Rattle.clap.specs.Walk.{Row, Text, without, with_values, has_row, first_of, one_of, all_of}
use Rattle.clap.specs.declared.builder.value_parser.Reading.{Reading}
use Rattle.clap.specs.declared.parser.matches.ValueSource.{ValueSource}

abbrev pub Seen : Type 0
Seen = Option (List Text × Reading)

abbrev pub shown : Row → List Text × Reading
shown r = (r.values, r.reading)

abbrev pub seen : Text → List Row → Seen
seen id rows = option_map shown (find (λ r. bytes_eq r.id id) rows)

abbrev pub new_row : Text → Reading → ValueSource → List Text → Row
new_row id how s values = record { id = id; values = values; count = None; source = Some s; reading = how }

pub row-seen : (id : Text) (rows : List Row) → has_row id rows ≡ is_some (seen id rows)
row-seen id [] = refl
row-seen id (r ∷ rs) = elim (cases_Bool (bytes_eq r.id id)) [
  | inl hit ↦ rw hit refl
  | inr miss ↦ rw miss (row-seen id rs)
]

pub first-seen : (id : Text) (rows : List Row) → first_of id rows ≡ option_and_then (λ p. slice_get p.0 0) (seen id rows)
first-seen id rows = go (find (λ r. bytes_eq r.id id) rows)
  where
    go : (o : Option Row) → option_and_then (λ r. slice_get r.values 0) o ≡ option_and_then (λ p. slice_get p.0 0) (option_map shown o)
    go None = refl
    go (Some r) = refl

pub one-seen : (id : Text) (rows : List Row) → one_of id rows ≡ option_and_then (λ p. option_map (read_as p.1) (slice_get p.0 0)) (seen id rows)
one-seen id rows = go (find (λ r. bytes_eq r.id id) rows)
  where
    go : (o : Option Row) → option_and_then (λ r. option_map (read_as r.reading) (slice_get r.values 0)) o ≡ option_and_then (λ p. option_map (read_as p.1) (slice_get p.0 0)) (option_map shown o)
    go None = refl
    go (Some r) = refl

pub all-seen : (id : Text) (rows : List Row) → all_of id rows ≡ option_map (λ p. p.0) (seen id rows)
all-seen id rows = go (find (λ r. bytes_eq r.id id) rows)
  where
    go : (o : Option Row) → option_map (λ r. r.values) o ≡ option_map (λ p. p.0) (option_map shown o)
    go None = refl
    go (Some r) = refl

-- where there is no row of the id, it stays so without it, and a new one is the last
pub without-none : (id : Text) (rows : List Row) → has_row id rows ≡ false → without id rows ≡ rows
without-none id [] none = refl
without-none id (r ∷ rs) none = elim (cases_Bool (bytes_eq r.id id)) [
  | inl hit ↦ absurd (true≢false (rw hit at none))
  | inr miss ↦ rw miss (ap (λ more. r ∷ more) (without-none id rs (rw miss at none)))
]

pub put-none : (id : Text) (how : Reading) (s : ValueSource) (values : List Text) (rows : List Row) → has_row id rows ≡ false → with_values id how s values rows ≡ rows ++ new_row id how s values ∷ []
put-none id how s values [] none = refl
put-none id how s values (r ∷ rs) none = elim (cases_Bool (bytes_eq r.id id)) [
  | inl hit ↦ absurd (true≢false (rw hit at none))
  | inr miss ↦ rw miss (ap (λ more. r ∷ more) (put-none id how s values rs (rw miss at none)))
]

pub seen-last : (id : Text) (rows : List Row) (r : Row) → seen id (rows ++ r ∷ []) ≡ option_or (seen id rows) (if bytes_eq r.id id then Some (shown r) else None)
seen-last id rows r = ap (option_map shown) (find-append (λ r. bytes_eq r.id id) rows (r ∷ [])) ∙ go (find (λ r. bytes_eq r.id id) rows) (bytes_eq r.id id)
  where
    go : (o : Option Row) (b : Bool) → option_map shown (option_or o (cond b (Some r) None)) ≡ option_or (option_map shown o) (cond b (Some (shown r)) None)
    go None true = refl
    go None false = refl
    go (Some x) b = refl

-- a use of an id that was not used before
pub use_seen : (id j : Text) (how : Reading) (s : ValueSource) (values : List Text) (rows : List Row) → has_row id rows ≡ false
    → seen j (with_values id how s values (without id rows)) ≡ option_or (seen j rows) (if bytes_eq id j then Some (values, how) else None)
use_seen id j how s values rows none =
    ap (λ rs. seen j (with_values id how s values rs)) (without-none id rows none) ∙ ap (seen j) (put-none id how s values rows none) ∙ seen-last j rows (new_row id how s values)

pub default_seen : (id j : Text) (how : Reading) (s : ValueSource) (values : List Text) (rows : List Row) → has_row id rows ≡ false
    → seen j (with_values id how s values rows) ≡ option_or (seen j rows) (if bytes_eq id j then Some (values, how) else None)
default_seen id j how s values rows none = ap (seen j) (put-none id how s values rows none) ∙ seen-last j rows (new_row id how s values)

-- a use that adds to those before it
abbrev pub more_seen : List Text → Reading → Seen → Seen
more_seen values how None = Some (values, how)
more_seen values how (Some p) = Some (p.0 ++ values, p.1)

pub more_same : (id : Text) (how : Reading) (s : ValueSource) (values : List Text) (rows : List Row) → bytes_eq id id ≡ true
    → seen id (with_values id how s values rows) ≡ more_seen values how (seen id rows)
more_same id how s values [] same = rw same refl
more_same id how s values (r ∷ rs) same = elim (cases_Bool (bytes_eq r.id id)) [
  | inl hit ↦ rw hit (rw hit refl)
  | inr miss ↦ rw miss (rw miss (more_same id how s values rs same))
]

pub more_other : (id j : Text) (how : Reading) (s : ValueSource) (values : List Text) (rows : List Row) → bytes_eq id j ≡ false
    → seen j (with_values id how s values rows) ≡ seen j rows
more_other id j how s values [] apart = rw apart refl
more_other id j how s values (r ∷ rs) apart = elim (cases_Bool (bytes_eq r.id id)) [
  | inl hit ↦
      let is : r.id ≡ id = (bytes_eq-Decides r.id id).0 hit in
      let differs : bytes_eq r.id j ≡ false = ap (λ i. bytes_eq i j) is ∙ apart in
      rw hit (rw differs refl)
  | inr miss ↦ elim (cases_Bool (bytes_eq r.id j)) [
    | inl found ↦ rw (miss, found) refl
    | inr not_here ↦ rw (miss, not_here) (more_other id j how s values rs apart)
  ]
]
