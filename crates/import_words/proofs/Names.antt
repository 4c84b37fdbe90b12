-- Options as they are spelled: what stands behind `--`, up to the first `=` (61), and which option that names.
use Rattle.std.proofs.Common.{◌≡◌, ◌≢◌, ◌∙◌, refl, sym, ap, ℕ, Bool, true, false, zero, suc, ◌&&◌, ◌==◌, nat_eq, ◌<◌, List, [], ◌∷◌, ◌++◌, take, length, get_or, Option, Some, None, codes, inl, inr, ◌⊎◌, true≢false, arith, eqb, ne_eqb}
use Rattle.std.specs.Prelude.{is_some, if◌then◌else◌, option_map}
use Rattle.std.specs.List.{list_any}
use Rattle.std.specs.Option.{option_or}
use Rattle.std.specs.Str.{bytes_eq}
use Rattle.std.proofs.lemmas.Bool.{cases_Bool, or_parts, eqb-true, eq-eqb}
use Rattle.std.proofs.lemmas.List.Folds.{list_any_at}
use Rattle.std.proofs.lemmas.Bool.Decides.{eqb_tells}
use Rattle.std.proofs.lemmas.Slice.Eq.{bytes_eq-Decides}
use Rattle.clap.specs.Walk.{Text}
use Rattle.clap.proofs.CutLemmas.{Lacks, list_any-Lacks, list_any-at}
use Rattle.import_words.specs.Setting.{Setting}
use Rattle.import_words.specs.Setting as setting
use Rattle.import_words.specs.OptionWords.{Word, same_text, is_dashed, is_refused, behind, joined, apart}
use Rattle.import_words.specs.Taken.{Key, path, fuel, rounds, bundles, trace, name_of, all_keys}
use Rattle.import_words.proofs.Keys.{key_in, takes}

pub alike : (xs ys : Text) → bytes_eq xs ys ≡ true → xs ≡ ys
alike xs ys h = (bytes_eq-Decides xs ys).0 h

pub itself : (xs : Text) → bytes_eq xs xs ≡ true
itself xs = (bytes_eq-Decides xs xs).1 refl

-- where two texts differ, they differ the other way round
pub differ : (xs ys : Text) → bytes_eq xs ys ≡ false → bytes_eq ys xs ≡ false
differ xs ys h = elim (cases_Bool (bytes_eq ys xs)) [
  | inl hit ↦ absurd (true≢false (sym (itself xs) ∙ ap (bytes_eq xs) (sym (alike ys xs hit)) ∙ h))
  | inr miss ↦ miss
]

-- ---- cut at the first `=`

lacks_more : (x : ℕ) (xs : Text) → x ≢ 61 → Lacks 61 xs → Lacks 61 (x ∷ xs)
lacks_more x xs h l zero low = h
lacks_more x xs h l (suc i) low = l i (omega arith)

pub data Cut (t : Text) : Type 0 where
  whole : Lacks 61 t → Cut t
  parts : (name v : Text) → t ≡ name ++ 61 ∷ v → Lacks 61 name → Cut t

pub cut : (t : Text) → Cut t
cut [] = whole (λ i low. absurd (omega arith))
cut (x ∷ xs) = go (eqb_tells x 61) (cut xs)
  where
    go : ((eqb x 61 ≡ true) × (x ≡ 61)) ⊎ ((eqb x 61 ≡ false) × (x ≢ 61)) → Cut xs → Cut (x ∷ xs)
    go (inl h) rest = parts [] xs (ap (λ y. y ∷ xs) h.1) (λ i low. absurd (omega arith))
    go (inr h) (whole l) = whole (lacks_more x xs h.1 l)
    go (inr h) (parts name v e l) = parts (x ∷ name) v (ap (λ y. x ∷ y) e) (lacks_more x name h.1 l)

-- ---- which option is named

pub data Named (keys : List Key) (name : Text) : Type 0 where
  mine : (k : Key) → name ≡ name_of k → key_in keys (name_of k) ≡ Some k → Named keys name
  other : (k : Key) → name ≡ name_of k → key_in keys (name_of k) ≡ None → Named keys name
  none : key_in keys name ≡ None → key_in all_keys name ≡ None → Named keys name

pub key_found : (keys : List Key) (name : Text) (k : Key) → key_in keys name ≡ Some k → name_of k ≡ name
key_found [] name k h = elim (cases_Bool false) [ inl x ↦ absurd (true≢false (sym x)) | inr x ↦ absurd (true≢false (ap is_some (sym h))) ]
key_found (j ∷ js) name k h = elim (cases_Bool (bytes_eq (name_of j) name)) [
  | inl hit ↦ go (rw hit at h) (alike (name_of j) name hit)
  | inr miss ↦ key_found js name k (rw miss at h)
]
  where
    go : Some j ≡ Some k → name_of j ≡ name → name_of k ≡ name
    go e is = ap name_or_none (sym e) ∙ is
      where
        name_or_none : Option Key → Text
        name_or_none (Some i) = name_of i
        name_or_none None = []

own : (k : Key) → key_in all_keys (name_of k) ≡ Some k
own path = refl
own fuel = refl
own rounds = refl
own bundles = refl
own trace = refl

pub named : (keys : List Key) (name : Text) → Named keys name
named keys name = go (key_in all_keys name) refl (key_in keys name) refl
  where
    go : (a : Option Key) → key_in all_keys name ≡ a → (b : Option Key) → key_in keys name ≡ b → Named keys name
    go None e None f = none f e
    go None e (Some k) f = absurd (true≢false (ap is_some (sym (own k) ∙ ap (key_in all_keys) (key_found keys name k f) ∙ e)))
    go (Some k) e None f = other k (sym (key_found all_keys name k e)) (ap (key_in keys) (key_found all_keys name k e) ∙ f)
    go (Some k) e (Some j) f =
        let is : Some j ≡ Some k = sym (own j) ∙ ap (key_in all_keys) (key_found keys name j f) ∙ e in
        mine k (sym (key_found all_keys name k e)) (ap (key_in keys) (key_found all_keys name k e) ∙ f ∙ is)

-- ---- what the rules say of such a word

abbrev pub setting_of : Key → Word → Setting
setting_of path v = setting.Path v
setting_of fuel v = setting.Fuel v
setting_of rounds v = setting.Rounds v
setting_of bundles v = setting.Bundles
setting_of trace v = setting.Trace

differ_by : (t k : Text) → list_any (λ x. x == 61) t ≡ true → list_any (λ x. x == 61) k ≡ false → same_text t k ≡ false
differ_by t k has lacks = elim (cases_Bool (bytes_eq t k)) [
  | inl hit ↦ absurd (true≢false (sym has ∙ ap (list_any (λ x. x == 61)) (alike t k hit) ∙ lacks))
  | inr miss ↦ miss
]

-- what ends with a `=` is no beginning of what has none
no_front : (front : Text) (n : ℕ) (t : Text) → list_any (λ x. x == 61) front ≡ true → list_any (λ x. x == 61) t ≡ false → same_text front (take n t) ≡ false
no_front [] n t has lacks = absurd (true≢false (sym has))
no_front (f ∷ fs) zero t has lacks = refl
no_front (f ∷ fs) (suc n) [] has lacks = refl
no_front (f ∷ fs) (suc n) (b ∷ bs) has lacks = elim (cases_Bool (nat_eq f b)) [
  | inl hit ↦
      let parts = or_parts (b == 61) (list_any (λ x. x == 61) bs) lacks in
      let here : (f == 61) ≡ false = ap (λ x. x == 61) (eqb-true f b hit) ∙ parts.0 in
      let later : list_any (λ x. x == 61) fs ≡ true = rw here at has in
      rw hit (no_front fs n bs later parts.1)
  | inr miss ↦ rw miss refl
]

lacks_behind : (x : ℕ) (xs : Text) → Lacks 61 (x ∷ xs) → Lacks 61 xs
lacks_behind x xs l i low = l (suc i) (omega arith)

-- a name with a `=` behind it begins a text exactly where the text has this name up to its first `=`
front_is : (key name v : Text) → Lacks 61 key → Lacks 61 name → same_text (key ++ 61 ∷ []) (take (length (key ++ 61 ∷ [])) (name ++ 61 ∷ v)) ≡ same_text key name
front_is [] [] v k n = refl
front_is [] (b ∷ bs) v k n = rw (ne_eqb 61 b (λ e. n 0 (omega arith) (sym e))) refl
front_is (x ∷ xs) [] v k n = rw (ne_eqb x 61 (k 0 (omega arith))) refl
front_is (x ∷ xs) (b ∷ bs) v k n = ap (λ e. nat_eq x b && e) (front_is xs bs v (lacks_behind x xs k) (lacks_behind b bs n))

behind_other : (key name v : Text) → Lacks 61 key → Lacks 61 name → bytes_eq key name ≡ false → behind (key ++ 61 ∷ []) (name ++ 61 ∷ v) ≡ None
behind_other key name v k n apart = rw (front_is key name v k n, apart) refl

behind_whole : (front t : Text) → list_any (λ x. x == 61) front ≡ true → list_any (λ x. x == 61) t ≡ false → behind front t ≡ None
behind_whole front t has lacks = rw (no_front front (length front) t has lacks) refl

pick : Bool → Bool → Option Word → Option Word → Option Word → Option Setting
pick b t p f r = if b then Some setting.Bundles else if t then Some setting.Trace
    else option_or (option_map setting.Path p) (option_or (option_map setting.Fuel f) (option_map setting.Rounds r))

nothing : (b t : Bool) (p f r : Option Word) → b ≡ false → t ≡ false → p ≡ None → f ≡ None → r ≡ None → pick b t p f r ≡ None
unfolding pick
nothing b t p f r e1 e2 e3 e4 e5 = rw (e1, e2, e3, e4, e5) refl

-- no option has the name
unfound : (name : Text) → key_in all_keys name ≡ None → (k : Key) → bytes_eq (name_of k) name ≡ false
unfound name missing k = elim (cases_Bool (bytes_eq (name_of k) name)) [
  | inl hit ↦ absurd (true≢false (ap is_some (sym (own k) ∙ ap (key_in all_keys) (alike (name_of k) name hit) ∙ missing)))
  | inr miss ↦ miss
]

no_cut : (k : Key) → Lacks 61 (name_of k)
no_cut k i low e = absurd (true≢false (sym (there (name_of k) i low e) ∙ plain k))
  where
    there : (t : Text) (i : ℕ) → i < length t → get_or t i 0 ≡ 61 → list_any (λ x. x == 61) t ≡ true
    there t i low e = list_any_at (λ x. x == 61) t i 0 low (eq-eqb _ _ e)

    plain : (k : Key) → list_any (λ x. x == 61) (name_of k) ≡ false
    plain path = refl
    plain fuel = refl
    plain rounds = refl
    plain bundles = refl
    plain trace = refl

pub unnamed_joined : (t : Text) → key_in all_keys t ≡ None → Lacks 61 t → joined (45 ∷ 45 ∷ t) ≡ None
unfolding pick
unnamed_joined t missing l =
    let whole = list_any-Lacks 61 t l in
    nothing (same_text t (codes "bundles")) (same_text t (codes "trace")) (behind (codes "--path=") (45 ∷ 45 ∷ t)) (behind (codes "--fuel=") (45 ∷ 45 ∷ t)) (behind (codes "--rounds=") (45 ∷ 45 ∷ t))
    (differ (name_of bundles) t (unfound t missing bundles)) (differ (name_of trace) t (unfound t missing trace))
    (nothing_behind (codes "path=") t (behind_whole (codes "path=") t refl whole)) (nothing_behind (codes "fuel=") t (behind_whole (codes "fuel=") t refl whole)) (nothing_behind (codes "rounds=") t (behind_whole (codes "rounds=") t refl whole))
  where
    nothing_behind : (front t : Text) → behind front t ≡ None → behind (45 ∷ 45 ∷ front) (45 ∷ 45 ∷ t) ≡ None
    nothing_behind front t h = h

pub unnamed_apart : (t : Text) → key_in all_keys t ≡ None → (v : Text) → apart (45 ∷ 45 ∷ t) v ≡ None
unnamed_apart t missing v = elim (cases_Bool (is_dashed v)) [
  | inl d ↦ rw d refl
  | inr p ↦ rw (p, differ (name_of path) t (unfound t missing path), differ (name_of fuel) t (unfound t missing fuel), differ (name_of rounds) t (unfound t missing rounds)) refl
]

pub unnamed_cut : (name v : Text) → key_in all_keys name ≡ None → Lacks 61 name → joined (45 ∷ 45 ∷ (name ++ 61 ∷ v)) ≡ None
unfolding pick
unnamed_cut name v missing l =
    let t = name ++ 61 ∷ v in
    let has = list_any-at 61 name v in
    nothing (same_text t (codes "bundles")) (same_text t (codes "trace")) (behind (codes "--path=") (45 ∷ 45 ∷ t)) (behind (codes "--fuel=") (45 ∷ 45 ∷ t)) (behind (codes "--rounds=") (45 ∷ 45 ∷ t))
    (differ_by t (codes "bundles") has refl) (differ_by t (codes "trace") has refl)
    (behind_other (codes "path") name v (no_cut path) l (unfound name missing path)) (behind_other (codes "fuel") name v (no_cut fuel) l (unfound name missing fuel))
    (behind_other (codes "rounds") name v (no_cut rounds) l (unfound name missing rounds))

pub cut_apart : (name v next : Text) → apart (45 ∷ 45 ∷ (name ++ 61 ∷ v)) next ≡ None
cut_apart name v next =
    let t = name ++ 61 ∷ v in
    let has = list_any-at 61 name v in
    elim (cases_Bool (is_dashed next)) [
      | inl d ↦ rw d refl
      | inr p ↦ rw (p, differ_by t (codes "path") has refl, differ_by t (codes "fuel") has refl, differ_by t (codes "rounds") has refl) refl
    ]

pub joined_value : (k : Key) (v : Text) → takes k ≡ true → joined (45 ∷ 45 ∷ (name_of k ++ 61 ∷ v)) ≡ Some (setting_of k v)
joined_value path v t = refl
joined_value fuel v t = refl
joined_value rounds v t = refl
joined_value bundles v t = absurd (true≢false (sym t))
joined_value trace v t = absurd (true≢false (sym t))

pub flag_with_value : (k : Key) (v : Text) → takes k ≡ false → joined (45 ∷ 45 ∷ (name_of k ++ 61 ∷ v)) ≡ None
flag_with_value path v t = absurd (true≢false t)
flag_with_value fuel v t = absurd (true≢false t)
flag_with_value rounds v t = absurd (true≢false t)
flag_with_value bundles v t = refl
flag_with_value trace v t = refl

pub joined_flag : (k : Key) → takes k ≡ false → joined (45 ∷ 45 ∷ name_of k) ≡ Some (setting_of k [])
joined_flag path t = absurd (true≢false t)
joined_flag fuel t = absurd (true≢false t)
joined_flag rounds t = absurd (true≢false t)
joined_flag bundles t = refl
joined_flag trace t = refl

pub value_to_come : (k : Key) → takes k ≡ true → joined (45 ∷ 45 ∷ name_of k) ≡ None
value_to_come path t = refl
value_to_come fuel t = refl
value_to_come rounds t = refl
value_to_come bundles t = absurd (true≢false (sym t))
value_to_come trace t = absurd (true≢false (sym t))

pub apart_value : (k : Key) (v : Text) → takes k ≡ true → is_dashed v ≡ false → apart (45 ∷ 45 ∷ name_of k) v ≡ Some (setting_of k v)
apart_value path v t plain = rw plain refl
apart_value fuel v t plain = rw plain refl
apart_value rounds v t plain = rw plain refl
apart_value bundles v t plain = absurd (true≢false (sym t))
apart_value trace v t plain = absurd (true≢false (sym t))

pub dashed_value : (word v : Text) → is_dashed v ≡ true → apart word v ≡ None
dashed_value word v d = rw d refl

pub short_joined : (x : ℕ) (xs : Text) → (x == 45) ≡ false → joined (45 ∷ x ∷ xs) ≡ None
short_joined x xs h = rw (h, flipped) refl
  where
    flipped : nat_eq 45 x ≡ false
    flipped = ne_eqb 45 x (λ e. true≢false (sym (eq-eqb x 45 (sym e)) ∙ h))

pub short_apart : (x : ℕ) (xs v : Text) → (x == 45) ≡ false → apart (45 ∷ x ∷ xs) v ≡ None
short_apart x xs v h = elim (cases_Bool (is_dashed v)) [ inl d ↦ rw d refl | inr p ↦ rw (p, h) refl ]

-- ---- forms of words

pub data Form (word : Text) : Type 0 where
  plain : is_dashed word ≡ false → Form word
  long : (x : ℕ) (xs : Text) → word ≡ 45 ∷ 45 ∷ x ∷ xs → Form word
  short : (x : ℕ) (xs : Text) → (x == 45) ≡ false → word ≡ 45 ∷ x ∷ xs → Form word

pub form : (word : Text) → is_refused word ≡ false → Form word
form [] h = plain refl
form (b ∷ bs) h = go (eqb_tells b 45) bs h
  where
    go : ((eqb b 45 ≡ true) × (b ≡ 45)) ⊎ ((eqb b 45 ≡ false) × (b ≢ 45)) → (bs : Text) → is_refused (b ∷ bs) ≡ false → Form (b ∷ bs)
    go (inr e) bs h = plain e.0
    go (inl e) [] h = absurd (true≢false (ap (λ c. is_refused (c ∷ [])) (sym e.1) ∙ h))
    go (inl e) (x ∷ xs) h = next (eqb_tells x 45) xs h
      where
        next : ((eqb x 45 ≡ true) × (x ≡ 45)) ⊎ ((eqb x 45 ≡ false) × (x ≢ 45)) → (xs : Text) → is_refused (b ∷ x ∷ xs) ≡ false → Form (b ∷ x ∷ xs)
        next (inr f) xs h = short x xs f.0 (ap (λ c. c ∷ x ∷ xs) e.1)
        next (inl f) [] h = absurd (true≢false (ap (λ c. is_refused (45 ∷ c ∷ [])) (sym f.1) ∙ ap (λ c. is_refused (c ∷ x ∷ [])) (sym e.1) ∙ h))
        next (inl f) (y ∷ ys) h = long y ys (ap (λ c. c ∷ x ∷ y ∷ ys) e.1 ∙ ap (λ c. 45 ∷ c ∷ y ∷ ys) f.1)
