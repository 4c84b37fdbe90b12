-- Options one at a time: what is held of each, and which a command has.
use Rattle.std.proofs.Common.{◌≡◌, ◌∙◌, refl, sym, ap, subst, Bool, true, false, ◌&&◌, ◌||◌, List, [], ◌∷◌, Option, Some, None, codes, inl, inr, true≢false}
use Rattle.std.specs.Prelude.{is_some, not, find, if◌then◌else◌, option_map, IfSome}
use Rattle.std.specs.List.{list_any}
use Rattle.std.specs.Option.{option_or, option_and_then}
use Rattle.std.specs.Str.{bytes_eq}
use Rattle.std.proofs.lemmas.Bool.{cases_Bool}
use Rattle.clap.specs.declared.builder.value_parser.Reading.TheVariants.{AsWritten}
use Rattle.import_words.specs.Setting.{Setting}
use Rattle.import_words.specs.Setting as setting
use Rattle.import_words.specs.OptionWords.{Word, is_dashed, joined, apart, added, front, goes_on, options}
use Rattle.import_words.specs.Taken.{Key, path, fuel, rounds, bundles, trace, name_of, has, is_given, allows, only}
use Rattle.import_words.specs.declared.found.Settings.{Settings}
use Rattle.import_words.specs.declared.found.Front.{Front}
use Rattle.import_words.proofs.Rows.{Seen}
use Rattle.import_words.proofs.Keys.{key_in}
use Rattle.import_words.proofs.Names.{setting_of, alike}

-- the settings with an option more
abbrev pub put : Key → Word → Settings → Settings
put path v s = record s { path = Some v }
put fuel v s = record s { fuel = Some v }
put rounds v s = record s { rounds = Some v }
put bundles v s = record s { bundles = true }
put trace v s = record s { trace = true }

-- the values of a use
abbrev pub values_for : Key → Word → List Word
values_for path v = v ∷ []
values_for fuel v = v ∷ []
values_for rounds v = v ∷ []
values_for bundles v = codes "true" ∷ []
values_for trace v = codes "true" ∷ []

abbrev pub held_value : Option Word → Seen
held_value o = option_map (λ v. (v ∷ [], AsWritten)) o

abbrev pub held_flag : Bool → Seen
held_flag b = if b then Some (codes "true" ∷ [], AsWritten) else None

-- what is to be seen of an option
abbrev pub held_by : Key → Settings → Seen
held_by path s = held_value s.path
held_by fuel s = held_value s.fuel
held_by rounds s = held_value s.rounds
held_by bundles s = held_flag s.bundles
held_by trace s = held_flag s.trace

pub added_is : (k : Key) (v : Word) (s : Settings) → added (setting_of k v) s ≡ (if is_given k s then None else Some (put k v s))
added_is path v s = refl
added_is fuel v s = refl
added_is rounds v s = refl
added_is bundles v s = refl
added_is trace v s = refl

value_given : (o : Option Word) → is_some (held_value o) ≡ is_some o
value_given None = refl
value_given (Some v) = refl

flag_given : (b : Bool) → is_some (held_flag b) ≡ b
flag_given true = refl
flag_given false = refl

pub held_given : (k : Key) (s : Settings) → is_some (held_by k s) ≡ is_given k s
held_given path s = value_given s.path
held_given fuel s = value_given s.fuel
held_given rounds s = value_given s.rounds
held_given bundles s = flag_given s.bundles
held_given trace s = flag_given s.trace

kept : (o : Seen) → o ≡ option_or o None
kept None = refl
kept (Some p) = refl

new_value : (o : Option Word) (x : Seen) → is_some o ≡ false → x ≡ option_or (held_value o) x
new_value None x h = refl
new_value (Some v) x h = absurd (true≢false h)

new_flag : (b : Bool) (x : Seen) → b ≡ false → x ≡ option_or (held_flag b) x
new_flag false x h = refl
new_flag true x h = absurd (true≢false h)

-- an option that did not stand is held behind it, and no other changes
pub held_put : (k j : Key) (v : Word) (s : Settings) → is_given k s ≡ false
    → held_by j (put k v s) ≡ option_or (held_by j s) (if bytes_eq (name_of k) (name_of j) then Some (values_for k v, AsWritten) else None)
held_put path path v s new = new_value s.path _ new
held_put path fuel v s new = kept (held_by fuel s)
held_put path rounds v s new = kept (held_by rounds s)
held_put path bundles v s new = kept (held_by bundles s)
held_put path trace v s new = kept (held_by trace s)
held_put fuel path v s new = kept (held_by path s)
held_put fuel fuel v s new = new_value s.fuel _ new
held_put fuel rounds v s new = kept (held_by rounds s)
held_put fuel bundles v s new = kept (held_by bundles s)
held_put fuel trace v s new = kept (held_by trace s)
held_put rounds path v s new = kept (held_by path s)
held_put rounds fuel v s new = kept (held_by fuel s)
held_put rounds rounds v s new = new_value s.rounds _ new
held_put rounds bundles v s new = kept (held_by bundles s)
held_put rounds trace v s new = kept (held_by trace s)
held_put bundles path v s new = kept (held_by path s)
held_put bundles fuel v s new = kept (held_by fuel s)
held_put bundles rounds v s new = kept (held_by rounds s)
held_put bundles bundles v s new = new_flag s.bundles _ new
held_put bundles trace v s new = kept (held_by trace s)
held_put trace path v s new = kept (held_by path s)
held_put trace fuel v s new = kept (held_by fuel s)
held_put trace rounds v s new = kept (held_by rounds s)
held_put trace bundles v s new = kept (held_by bundles s)
held_put trace trace v s new = new_flag s.trace _ new

some_or : (o x : Seen) → is_some o ≡ true → is_some (option_or o x) ≡ true
some_or (Some p) x h = refl
some_or None x h = absurd (true≢false (sym h))

-- what stood still stands
pub still_given : (k j : Key) (v : Word) (s : Settings) → is_given k s ≡ false → is_given j s ≡ true → is_given j (put k v s) ≡ true
still_given k j v s new old = sym (held_given j (put k v s)) ∙ ap is_some (held_put k j v s new) ∙ some_or (held_by j s) _ (held_given j s ∙ old)

-- ---- which options a command has

five : (a b c d e : Bool) → (a && (b && (c && (d && (e && true))))) ≡ true → (a ≡ true) × (b ≡ true) × (c ≡ true) × (d ≡ true) × (e ≡ true)
five false b c d e h = absurd (true≢false (sym h))
five true false c d e h = absurd (true≢false (sym h))
five true true false d e h = absurd (true≢false (sym h))
five true true true false e h = absurd (true≢false (sym h))
five true true true true false h = absurd (true≢false (sym h))
five true true true true true h = (refl, refl, refl, refl, refl)

-- the option is one of the command's, or did not stand
abbrev pub is_allowed : List Key → Settings → Key → Bool
is_allowed keys s k = has keys k || not (is_given k s)

pub allows_each : (keys : List Key) (s : Settings) → ((k : Key) → is_allowed keys s k ≡ true) → allows keys s ≡ true
allows_each keys s h = rw (h path, h fuel, h rounds, h bundles, h trace) refl

pub each_allowed : (keys : List Key) (s : Settings) → allows keys s ≡ true → (k : Key) → is_allowed keys s k ≡ true
each_allowed keys s h k = go k (five (is_allowed keys s path) (is_allowed keys s fuel) (is_allowed keys s rounds) (is_allowed keys s bundles) (is_allowed keys s trace) h)
  where
    go : (k : Key) → (is_allowed keys s path ≡ true) × (is_allowed keys s fuel ≡ true) × (is_allowed keys s rounds ≡ true) × (is_allowed keys s bundles ≡ true) × (is_allowed keys s trace ≡ true)
        → is_allowed keys s k ≡ true
    go path each = each.0
    go fuel each = each.1
    go rounds each = each.2
    go bundles each = each.3
    go trace each = each.4

pub allows_put : (keys : List Key) (s : Settings) (k : Key) (v : Word) → is_given k s ≡ false → has keys k ≡ true → allows keys s ≡ true → allows keys (put k v s) ≡ true
allows_put keys s k v new mine h = allows_each keys (put k v s) (λ j. elim (cases_Bool (bytes_eq (name_of k) (name_of j))) [
  | inl hit ↦
      let also : has keys j ≡ true = ap (λ n. list_any (λ i. bytes_eq (name_of i) n) keys) (sym (alike (name_of k) (name_of j) hit)) ∙ mine in
      ap (λ b. b || not (is_given j (put k v s))) also
  | inr miss ↦
      let same : is_given j (put k v s) ≡ is_given j s = sym (held_given j (put k v s)) ∙ ap is_some (held_put k j v s new ∙ ap (λ b. option_or (held_by j s) (if b then Some (values_for k v, AsWritten) else None)) miss ∙ sym (kept (held_by j s))) ∙ held_given j s in
      ap (λ b. has keys j || not b) same ∙ each_allowed keys s h j
])

pub found_has : (keys : List Key) (k : Key) → has keys k ≡ is_some (key_in keys (name_of k))
found_has keys k = go keys
  where
    go : (js : List Key) → list_any (λ j. bytes_eq (name_of j) (name_of k)) js ≡ is_some (find (λ j. bytes_eq (name_of j) (name_of k)) js)
    go [] = refl
    go (j ∷ js) = elim (cases_Bool (bytes_eq (name_of j) (name_of k))) [ inl hit ↦ rw hit refl | inr miss ↦ rw miss (go js) ]

-- an option that stood stands in all that is read from there on
abbrev Keeps : Key → Option Front → Type 0
Keeps k o = IfSome o (λ it. is_given k it.settings ≡ true)

keeps_added : (k : Key) (o : Setting) (s : Settings) (next : Settings → Option Front) → is_given k s ≡ true → ((t : Settings) → is_given k t ≡ true → Keeps k (next t))
    → Keeps k (option_and_then next (added o s))
keeps_added k o s next given h = go o
  where
    step : (j : Key) (v : Word) → Keeps k (option_and_then next (added (setting_of j v) s))
    step j v = elim (cases_Bool (is_given j s)) [
      | inl again ↦ subst (λ a. Keeps k (option_and_then next a)) (sym (added_is j v s ∙ ap (λ b. if b then None else Some (put j v s)) again)) tt
      | inr new ↦ subst (λ a. Keeps k (option_and_then next a)) (sym (added_is j v s ∙ ap (λ b. if b then None else Some (put j v s)) new)) (h (put j v s) (still_given j k v s new given))
    ]

    go : (o : Setting) → Keeps k (option_and_then next (added o s))
    go (setting.Path v) = step path v
    go (setting.Fuel v) = step fuel v
    go (setting.Rounds v) = step rounds v
    go setting.Bundles = step bundles []
    go setting.Trace = step trace []

keeps_on : (k : Key) (found : Option Setting) (s : Settings) (next : Settings → Option Front) → is_given k s ≡ true → ((t : Settings) → is_given k t ≡ true → Keeps k (next t))
    → Keeps k (goes_on found s next)
keeps_on k None s next given h = tt
keeps_on k (Some o) s next given h = keeps_added k o s next given h

keeps_all : (k : Key) (words : List Word) (s : Settings) → is_given k s ≡ true → Keeps k (options s words)
keeps_all k [] s given = given
keeps_all k (word ∷ []) s given = elim (cases_Bool (is_dashed word)) [
  | inl d ↦ rw d (keeps_on k (joined word) s (front []) given (λ t h. h))
  | inr p ↦ rw p given
]
keeps_all k (word ∷ next ∷ words) s given = elim (cases_Bool (is_dashed word)) [
  | inl d ↦ elim (cases_Bool (is_some (joined word))) [
    | inl j ↦ rw (d, j) (keeps_on k (joined word) s (λ t. options t (next ∷ words)) given (λ t h. keeps_all k (next ∷ words) t h))
    | inr n ↦ rw (d, n) (keeps_on k (apart word next) s (λ t. options t words) given (λ t h. keeps_all k words t h))
  ]
  | inr p ↦ rw p given
]

-- where an option stood that the command lacks, nothing is taken
pub lacked : (keys : List Key) (k : Key) (words : List Word) (s : Settings) → has keys k ≡ false → is_given k s ≡ true → only keys (options s words) ≡ None
lacked keys k words s lacks given = go (options s words) (keeps_all k words s given)
  where
    go : (o : Option Front) → Keeps k o → only keys o ≡ None
    go None h = refl
    go (Some it) h = elim (cases_Bool (allows keys it.settings)) [
      | inl yes_all ↦
          let bad : (false || not true) ≡ true = sym (ap (λ b. b || not (is_given k it.settings)) lacks ∙ ap (λ b. false || not b) h) ∙ each_allowed keys it.settings yes_all k in
          absurd (true≢false (sym bad))
      | inr no_one ↦ rw no_one refl
    ]
