-- What `clap` makes of words is what the rules make of them, word by word.
use Rattle.std.proofs.Common.{◌≡◌, ◌∙◌, refl, sym, ap, ap₂, subst, ℕ, Bool, true, false, ◌||◌, List, [], ◌∷◌, ◌++◌, Option, Some, None, codes, inl, inr, ◌⊎◌, true≢false, append_assoc, fold}
use Rattle.std.specs.Prelude.{is_some, not, if◌then◌else◌, option_map, slice_get, unwrap_or}
use Rattle.std.specs.Option.{option_or, option_and_then}
use Rattle.std.specs.Str.{bytes_eq, IsUtf8}
use Rattle.std.proofs.lemmas.Bool.{cases_Bool}
use Rattle.clap.specs.Values.{read_as}
use Rattle.clap.specs.Lexer.{name_and_value}
use Rattle.clap.proofs.LexerLemmas.{name_and_value-at, name_and_value-without}
use Rattle.clap.specs.Walk.{Row, Rule, Text, Walk, Waiting, idle, option, all_of, arg_by_id, arg_by_long, first_of, has_row, is_pending, one_of, settled_rows, used, walked, with_default, with_values, without}
use Rattle.clap.specs.Faults.{settle_fault, turn_fault, walk_fault}
use Rattle.clap.specs.declared.builder.value_parser.Reading.TheVariants.{AsWritten}
use Rattle.clap.specs.declared.parser.matches.ValueSource.TheVariants.{CommandLine}
use Rattle.import_words.specs.OptionWords.{Word, is_dashed, is_refused, joined, apart, added, front, options, no_settings}
use Rattle.import_words.specs.Taken.{Key, path, fuel, rounds, bundles, trace, name_of, has, is_given, allows, only}
use Rattle.import_words.specs.declared.found.Settings.{Settings}
use Rattle.import_words.specs.declared.found.Front.{Front}
use Rattle.import_words.proofs.Rows.{Seen, seen, row-seen, first-seen, one-seen, all-seen, use_seen, more_seen, more_same, more_other}
use Rattle.import_words.proofs.Steps.{value_filled, flag_filled, words_filled, Fails, fails_first, hold, stand, trail, left, rows_left, left_step, rows_step, left_fails, long_unknown, long_waits, joined_used, joined_fine, joined_again, apart_opened, apart_fine, flag_used, flag_fine, flag_again, flag_valued, other_used, other_fine, other_waits, short_unknown, value_used, value_fine, trail_used, trail_fine}
use Rattle.import_words.proofs.Keys.{takes, rule_for, rules, shape_with, key_in, by_long, by_id, by_index, by_short, default_in, ended_seen, defaults_fine, nothing_missing, goes_on_with}
use Rattle.import_words.proofs.Names.{itself, Cut, whole, parts, cut, Named, mine, other, none, named, setting_of, unnamed_joined, unnamed_apart, unnamed_cut, cut_apart, joined_value, flag_with_value, joined_flag, value_to_come, apart_value, dashed_value, short_joined, short_apart, Form, plain, long, short, form}
use Rattle.import_words.proofs.Given.{put, values_for, held_by, held_value, held_flag, added_is, held_given, held_put, allows_each, allows_put, found_has, lacked}
use Rattle.import_words.proofs.Options as opt
use Rattle.import_words.specs.Setting.{Setting}
use Rattle.import_words.specs.Setting as setting

-- ---- the end

-- the text of a flag
abbrev pub IsText : Bool → Option Text → Type 0
IsText true text = text ≡ Some (codes "true")
IsText false text = (text ≡ None) ⊎ (text ≡ Some (codes "false"))

-- the rows say what the front says
pub record Final (it : Front) (rows : List Row) : Type 0 where
  pub path : first_of (codes "path") rows ≡ it.settings.path
  pub fuel : first_of (codes "fuel") rows ≡ it.settings.fuel
  pub rounds : first_of (codes "rounds") rows ≡ it.settings.rounds
  pub bundles : IsText it.settings.bundles (one_of (codes "bundles") rows)
  pub trace : IsText it.settings.trace (one_of (codes "trace") rows)
  pub rest : unwrap_or (all_of (codes "words") rows) [] ≡ it.rest

abbrev pub Agrees : Text → List Key → Walk → List Text → Option Front → Type 0
Agrees of keys w words None = Fails (left (shape_with of keys) w words)
Agrees of keys w words (Some it) = (left (shape_with of keys) w words ≡ []) × Final it (rows_left (shape_with of keys) w words)

abbrev held_words : List Word → Seen
held_words [] = None
held_words (v ∷ vs) = Some (v ∷ vs, AsWritten)

-- the rows say which options stood so far, and which words behind them
record Sees (rows : List Row) (st : Settings) (past : List Word) : Type 0 where
  keys : (k : Key) → seen (name_of k) rows ≡ held_by k st
  words : seen (codes "words") rows ≡ held_words past

no_default : (j : Text) → bytes_eq (codes "bundles") j ≡ false → bytes_eq (codes "trace") j ≡ false → (keys : List Key) → default_in keys j ≡ None
no_default j b t [] = refl
no_default j b t (path ∷ ks) = no_default j b t ks
no_default j b t (fuel ∷ ks) = no_default j b t ks
no_default j b t (rounds ∷ ks) = no_default j b t ks
no_default j b t (bundles ∷ ks) = rw b (no_default j b t ks)
no_default j b t (trace ∷ ks) = rw t (no_default j b t ks)

two_defaults : (j : Text) (keys : List Key) → (default_in keys j ≡ None) ⊎ (default_in keys j ≡ Some (codes "false" ∷ [], AsWritten))
two_defaults j [] = inl refl
two_defaults j (path ∷ ks) = two_defaults j ks
two_defaults j (fuel ∷ ks) = two_defaults j ks
two_defaults j (rounds ∷ ks) = two_defaults j ks
two_defaults j (bundles ∷ ks) = elim (cases_Bool (bytes_eq (codes "bundles") j)) [ inl hit ↦ rw hit (inr refl) | inr miss ↦ rw miss (two_defaults j ks) ]
two_defaults j (trace ∷ ks) = elim (cases_Bool (bytes_eq (codes "trace") j)) [ inl hit ↦ rw hit (inr refl) | inr miss ↦ rw miss (two_defaults j ks) ]

value_final : (keys : List Key) (rows : List Row) (j : Text) (o : Option Word) → default_in keys j ≡ None → seen j rows ≡ held_value o
    → first_of j (fold with_default rows (rules keys)) ≡ o
value_final keys rows j o missing is = first-seen j (fold with_default rows (rules keys)) ∙ ap (option_and_then (λ p. slice_get p.0 0)) (ended_seen keys j rows ∙ ap₂ option_or is missing) ∙ go o
  where
    go : (o : Option Word) → option_and_then (λ p. slice_get p.0 0) (option_or (held_value o) None) ≡ o
    go None = refl
    go (Some v) = refl

flag_final : (keys : List Key) (rows : List Row) (j : Text) (b : Bool) → seen j rows ≡ held_flag b → IsText b (one_of j (fold with_default rows (rules keys)))
flag_final keys rows j b is =
    subst (IsText b) (sym (one-seen j (fold with_default rows (rules keys)) ∙ ap (option_and_then (λ p. option_map (read_as p.1) (slice_get p.0 0))) (ended_seen keys j rows ∙ ap (λ x. option_or x (default_in keys j)) is)))
    (go b (default_in keys j) (two_defaults j keys))
  where
    go : (b : Bool) (d : Seen) → (d ≡ None) ⊎ (d ≡ Some (codes "false" ∷ [], AsWritten)) → IsText b (option_and_then (λ p. option_map (read_as p.1) (slice_get p.0 0)) (option_or (held_flag b) d))
    go true d h = refl
    go false d (inl e) = inl (ap (option_and_then (λ p. option_map (read_as p.1) (slice_get p.0 0))) e)
    go false d (inr e) = inr (ap (option_and_then (λ p. option_map (read_as p.1) (slice_get p.0 0))) e)

words_final : (keys : List Key) (rows : List Row) (past : List Word) → seen (codes "words") rows ≡ held_words past → unwrap_or (all_of (codes "words") (fold with_default rows (rules keys))) [] ≡ past
words_final keys rows past is =
    ap (λ o. unwrap_or o []) (all-seen (codes "words") (fold with_default rows (rules keys)) ∙ ap (option_map (λ p. p.0)) (ended_seen keys (codes "words") rows ∙ ap₂ option_or is (no_default (codes "words") refl refl keys)))
    ∙ go past
  where
    go : (past : List Word) → unwrap_or (option_map (λ p. p.0) (option_or (held_words past) None)) [] ≡ past
    go [] = refl
    go (v ∷ vs) = refl

final_is : (keys : List Key) (rows : List Row) (st : Settings) (past : List Word) → Sees rows st past → Final (record { settings = st; rest = past }) (fold with_default rows (rules keys))
final_is keys rows st past h = record {
  path = value_final keys rows (codes "path") st.path (no_default (codes "path") refl refl keys) (h.keys path);
  fuel = value_final keys rows (codes "fuel") st.fuel (no_default (codes "fuel") refl refl keys) (h.keys fuel);
  rounds = value_final keys rows (codes "rounds") st.rounds (no_default (codes "rounds") refl refl keys) (h.keys rounds);
  bundles = flag_final keys rows (codes "bundles") st.bundles (h.keys bundles);
  trace = flag_final keys rows (codes "trace") st.trace (h.keys trace);
  rest = words_final keys rows past h.words;
}

agrees_end : (of : Text) (keys : List Key) (w : Walk) (st : Settings) (past : List Word) → settle_fault (rules keys) false w.held ≡ []
    → Sees (settled_rows (rules keys) w.held.pending w.held.rows) st past → allows keys st ≡ true → Agrees of keys w [] (only keys (Some (record { settings = st; rest = past })))
unfolding walk_fault
agrees_end of keys w st past fine sees allowed =
    let rows = settled_rows (rules keys) w.held.pending w.held.rows in
    let good : left (shape_with of keys) w [] ≡ [] = rw (fine, defaults_fine keys rows, nothing_missing of keys (fold with_default rows (rules keys))) refl in
    rw allowed (good, final_is keys rows st past sees)

agrees_step : (of : Text) (keys : List Key) (w after : Walk) (word : Text) (words : List Text) (o : Option Front) → turn_fault (shape_with of keys) [] w word ≡ []
    → walked (rules keys) [] w word ≡ after → Agrees of keys after words o → Agrees of keys w (word ∷ words) o
agrees_step of keys w after word words None fine is h = subst Fails (sym (left_step (shape_with of keys) w after word words fine is)) h
agrees_step of keys w after word words (Some it) fine is h =
    (left_step (shape_with of keys) w after word words fine is ∙ h.0, subst (Final it) (sym (rows_step (shape_with of keys) w after word words is)) h.1)

agrees_fail : (of : Text) (keys : List Key) (w : Walk) (word : Text) (words : List Text) (o : Option Front) → Fails (turn_fault (shape_with of keys) [] w word) → o ≡ None → Agrees of keys w (word ∷ words) o
agrees_fail of keys w word words o bad e = subst (Agrees of keys w (word ∷ words)) (sym e) (left_fails (shape_with of keys) w word words bad)

-- ---- the words behind the options

no_key : (keys : List Key) → key_in keys (codes "words") ≡ None
no_key [] = refl
no_key (path ∷ ks) = no_key ks
no_key (fuel ∷ ks) = no_key ks
no_key (rounds ∷ ks) = no_key ks
no_key (bundles ∷ ks) = no_key ks
no_key (trace ∷ ks) = no_key ks

words_rule_is : (keys : List Key) → arg_by_id (rules keys) (codes "words") ≡ Some words_filled
words_rule_is keys = by_id keys (codes "words") ∙ ap (λ o. option_or (option_map rule_for o) (Some words_filled)) (no_key keys)

words_apart : (k : Key) → bytes_eq (codes "words") (name_of k) ≡ false
words_apart path = refl
words_apart fuel = refl
words_apart rounds = refl
words_apart bundles = refl
words_apart trace = refl

key_apart : (k : Key) → bytes_eq (name_of k) (codes "words") ≡ false
key_apart path = refl
key_apart fuel = refl
key_apart rounds = refl
key_apart bundles = refl
key_apart trace = refl

trail_sees : (rows : List Row) (st : Settings) (past : List Word) (word : Text) → Sees rows st past → Sees (used words_filled (word ∷ []) rows) st (past ++ word ∷ [])
trail_sees rows st past word h = record {
  keys = λ k. more_other (codes "words") (name_of k) AsWritten CommandLine (word ∷ []) rows (words_apart k) ∙ h.keys k;
  words = more_same (codes "words") AsWritten CommandLine (word ∷ []) rows refl ∙ ap (more_seen (word ∷ []) AsWritten) h.words ∙ go past;
}
  where
    go : (past : List Word) → more_seen (word ∷ []) AsWritten (held_words past) ≡ held_words (past ++ word ∷ [])
    go [] = refl
    go (v ∷ vs) = refl

trail_agrees : (of : Text) (keys : List Key) (words : List Text) (rows : List Row) (st : Settings) (past : List Word) (word : Text) → Sees rows st past → allows keys st ≡ true
    → Agrees of keys (trail rows word) words (only keys (Some (record { settings = st; rest = past ++ word ∷ words })))
trail_agrees of keys [] rows st past word sees allowed =
    agrees_end of keys (trail rows word) st (past ++ word ∷ []) (rw (words_rule_is keys) refl)
    (subst (λ rs. Sees rs st (past ++ word ∷ [])) (sym (rw (words_rule_is keys) refl)) (trail_sees rows st past word sees)) allowed
trail_agrees of keys (more ∷ words) rows st past word sees allowed =
    let after = used words_filled (word ∷ []) rows in
    agrees_step of keys (trail rows word) (trail after more) more words (only keys (Some (record { settings = st; rest = past ++ word ∷ more ∷ words })))
    (trail_fine (shape_with of keys) rows word more (by_index keys) (words_rule_is keys)) (trail_used (shape_with of keys) rows word more (by_index keys) (words_rule_is keys))
    (subst (λ l. Agrees of keys (trail after more) words (only keys (Some (record { settings = st; rest = l })))) (append_assoc past (word ∷ []) (more ∷ words))
    (trail_agrees of keys words after st (past ++ word ∷ []) more (trail_sees rows st past word sees) allowed))

-- ---- an option more

-- nothing is wrong so far, and the rows say which options stood
record Stands (keys : List Key) (rows : List Row) (p : Option (Text × List Text)) (st : Settings) : Type 0 where
  fine : settle_fault (rules keys) false (hold rows p) ≡ []
  sees : Sees (settled_rows (rules keys) p rows) st []
  apart : is_pending words_filled p ≡ false

not_held : (rows : List Row) (st : Settings) (past : List Word) (k : Key) → Sees rows st past → has_row (name_of k) rows ≡ is_given k st
not_held rows st past k h = row-seen (name_of k) rows ∙ ap is_some (h.keys k) ∙ held_given k st

abbrev with_key : Key → Word → List Row → List Row
with_key k v rows = with_values (name_of k) AsWritten CommandLine (values_for k v) (without (name_of k) rows)

sees_put : (rows : List Row) (st : Settings) (k : Key) (v : Word) → is_given k st ≡ false → Sees rows st [] → Sees (with_key k v rows) (put k v st) []
sees_put rows st k v new h =
    let missing : has_row (name_of k) rows ≡ false = not_held rows st [] k h ∙ new in
    record {
      keys = λ j. use_seen (name_of k) (name_of j) AsWritten CommandLine (values_for k v) rows missing
          ∙ ap (λ x. option_or x (if bytes_eq (name_of k) (name_of j) then Some (values_for k v, AsWritten) else None)) (h.keys j) ∙ sym (held_put k j v st new);
      words = use_seen (name_of k) (codes "words") AsWritten CommandLine (values_for k v) rows missing
          ∙ ap₂ option_or h.words (ap (λ b. if b then Some (values_for k v, AsWritten) else None) (key_apart k));
    }

long_found : (keys : List Key) (name : Text) (k : Key) → key_in keys name ≡ Some k → arg_by_long (rules keys) name ≡ Some (rule_for k)
long_found keys name k m = by_long keys name ∙ ap (option_map rule_for) m

long_missing : (keys : List Key) (name : Text) → key_in keys name ≡ None → arg_by_long (rules keys) name ≡ None
long_missing keys name m = by_long keys name ∙ ap (option_map rule_for) m

value_rule_is : (k : Key) → takes k ≡ true → rule_for k ≡ value_filled (name_of k)
value_rule_is path t = refl
value_rule_is fuel t = refl
value_rule_is rounds t = refl
value_rule_is bundles t = absurd (true≢false (sym t))
value_rule_is trace t = absurd (true≢false (sym t))

flag_rule_is : (k : Key) → takes k ≡ false → rule_for k ≡ flag_filled (name_of k)
flag_rule_is path t = absurd (true≢false t)
flag_rule_is fuel t = absurd (true≢false t)
flag_rule_is rounds t = absurd (true≢false t)
flag_rule_is bundles t = refl
flag_rule_is trace t = refl

id_found : (keys : List Key) (k : Key) → key_in keys (name_of k) ≡ Some k → takes k ≡ true → arg_by_id (rules keys) (name_of k) ≡ Some (value_filled (name_of k))
id_found keys k m t =
    by_id keys (name_of k) ∙ ap (λ o. option_or (option_map rule_for o) (if bytes_eq (codes "words") (name_of k) then Some words_filled else None)) m ∙ ap Some (value_rule_is k t)

used_value : (k : Key) (v : Word) (rows : List Row) → takes k ≡ true → used (value_filled (name_of k)) (v ∷ []) rows ≡ with_key k v rows
used_value path v rows t = refl
used_value fuel v rows t = refl
used_value rounds v rows t = refl
used_value bundles v rows t = absurd (true≢false (sym t))
used_value trace v rows t = absurd (true≢false (sym t))

used_flag : (k : Key) (v : Word) (rows : List Row) → takes k ≡ false → used (flag_filled (name_of k)) [] rows ≡ with_key k v rows
used_flag path v rows t = absurd (true≢false t)
used_flag fuel v rows t = absurd (true≢false t)
used_flag rounds v rows t = absurd (true≢false t)
used_flag bundles v rows t = refl
used_flag trace v rows t = refl

put_given : (k : Key) (v : Word) (st : Settings) → is_given k (put k v st) ≡ true
put_given path v st = refl
put_given fuel v st = refl
put_given rounds v st = refl
put_given bundles v st = refl
put_given trace v st = refl

-- ---- what the rules say

adds : (k : Key) (v : Word) (st : Settings) (b : Bool) → is_given k st ≡ b → added (setting_of k v) st ≡ (if b then None else Some (put k v st))
adds k v st b h = added_is k v st ∙ ap (λ c. if c then None else Some (put k v st)) h

joined_on : (st : Settings) (k : Key) (v word : Word) (words : List Word) → is_dashed word ≡ true → joined word ≡ Some (setting_of k v) → is_given k st ≡ false
    → options st (word ∷ words) ≡ options (put k v st) words
joined_on st k v word words d j new = opt.joined_goes_on st (put k v st) word words (setting_of k v) d j (adds k v st false new)

joined_twice : (st : Settings) (k : Key) (v word : Word) (words : List Word) → is_dashed word ≡ true → joined word ≡ Some (setting_of k v) → is_given k st ≡ true
    → options st (word ∷ words) ≡ None
joined_twice st k v word words d j old = opt.joined_again st word words (setting_of k v) d j (adds k v st true old)

apart_on : (st : Settings) (k : Key) (v word next : Word) (words : List Word) → is_dashed word ≡ true → joined word ≡ None → apart word next ≡ Some (setting_of k v) → is_given k st ≡ false
    → options st (word ∷ next ∷ words) ≡ options (put k v st) words
apart_on st k v word next words d j a new = opt.apart_goes_on st (put k v st) word next words (setting_of k v) d j a (adds k v st false new)

apart_twice : (st : Settings) (k : Key) (v word next : Word) (words : List Word) → is_dashed word ≡ true → joined word ≡ None → apart word next ≡ Some (setting_of k v) → is_given k st ≡ true
    → options st (word ∷ next ∷ words) ≡ None
apart_twice st k v word next words d j a old = opt.apart_again st word next words (setting_of k v) d j a (adds k v st true old)

alone : (st : Settings) (word : Word) → is_dashed word ≡ true → joined word ≡ None → options st (word ∷ []) ≡ None
alone st word d j = rw (d, j) refl

unpaired : (st : Settings) (word next : Word) (words : List Word) → is_dashed word ≡ true → joined word ≡ None → apart word next ≡ None → options st (word ∷ next ∷ words) ≡ None
unpaired st word next words d j a = rw (d, j, a) refl

unjoined : (st : Settings) (word : Word) (words : List Word) → is_dashed word ≡ true → joined word ≡ None → ((v : Word) → apart word v ≡ None) → options st (word ∷ words) ≡ None
unjoined st word [] d j a = alone st word d j
unjoined st word (v ∷ words) d j a = unpaired st word v words d j (a v)

behind_all : (st : Settings) (word : Word) (words : List Word) → is_dashed word ≡ false → options st (word ∷ words) ≡ front (word ∷ words) st
behind_all st word [] p = rw p refl
behind_all st word (v ∷ words) p = rw p refl

-- where the command lacks the option
joined_lacked : (keys : List Key) (st : Settings) (k : Key) (v word : Word) (words : List Word) → is_dashed word ≡ true → joined word ≡ Some (setting_of k v) → has keys k ≡ false
    → only keys (options st (word ∷ words)) ≡ None
joined_lacked keys st k v word words d j lacks = elim (cases_Bool (is_given k st)) [
  | inl old ↦ ap (only keys) (joined_twice st k v word words d j old)
  | inr new ↦ ap (only keys) (joined_on st k v word words d j new) ∙ lacked keys k words (put k v st) lacks (put_given k v st)
]

pair_lacked : (keys : List Key) (st : Settings) (k : Key) (v word next : Word) (words : List Word) → is_dashed word ≡ true → joined word ≡ None → apart word next ≡ Some (setting_of k v) → has keys k ≡ false
    → only keys (options st (word ∷ next ∷ words)) ≡ None
pair_lacked keys st k v word next words d j a lacks = elim (cases_Bool (is_given k st)) [
  | inl old ↦ ap (only keys) (apart_twice st k v word next words d j a old)
  | inr new ↦ ap (only keys) (apart_on st k v word next words d j a new) ∙ lacked keys k words (put k v st) lacks (put_given k v st)
]

apart_lacked : (keys : List Key) (st : Settings) (k : Key) (words : List Word) → takes k ≡ true → has keys k ≡ false → only keys (options st ((45 ∷ 45 ∷ name_of k) ∷ words)) ≡ None
apart_lacked keys st k [] t lacks = ap (only keys) (alone st (45 ∷ 45 ∷ name_of k) refl (value_to_come k t))
apart_lacked keys st k (v ∷ words) t lacks = elim (cases_Bool (is_dashed v)) [
  | inl d ↦ ap (only keys) (unpaired st (45 ∷ 45 ∷ name_of k) v words refl (value_to_come k t) (dashed_value (45 ∷ 45 ∷ name_of k) v d))
  | inr p ↦ pair_lacked keys st k v (45 ∷ 45 ∷ name_of k) v words refl (value_to_come k t) (apart_value k v t p) lacks
]

-- a command without options takes no word that begins with `-` in front, and else all words
pub dashed_taken : (st : Settings) (word : Word) (words : List Word) → is_dashed word ≡ true → only [] (options st (word ∷ words)) ≡ None
dashed_taken st word words d = go (joined word) refl
  where
    pair : (next : Word) (more : List Word) → joined word ≡ None → (o : Option Setting) → apart word next ≡ o → only [] (options st (word ∷ next ∷ more)) ≡ None
    pair next more j None a = ap (only []) (unpaired st word next more d j a)
    pair next more j (Some (setting.Path v)) a = pair_lacked [] st path v word next more d j a refl
    pair next more j (Some (setting.Fuel v)) a = pair_lacked [] st fuel v word next more d j a refl
    pair next more j (Some (setting.Rounds v)) a = pair_lacked [] st rounds v word next more d j a refl
    pair next more j (Some setting.Bundles) a = pair_lacked [] st bundles [] word next more d j a refl
    pair next more j (Some setting.Trace) a = pair_lacked [] st trace [] word next more d j a refl

    rest : (more : List Word) → joined word ≡ None → only [] (options st (word ∷ more)) ≡ None
    rest [] j = ap (only []) (alone st word d j)
    rest (next ∷ more) j = pair next more j (apart word next) refl

    go : (o : Option Setting) → joined word ≡ o → only [] (options st (word ∷ words)) ≡ None
    go None j = rest words j
    go (Some (setting.Path v)) j = joined_lacked [] st path v word words d j refl
    go (Some (setting.Fuel v)) j = joined_lacked [] st fuel v word words d j refl
    go (Some (setting.Rounds v)) j = joined_lacked [] st rounds v word words d j refl
    go (Some setting.Bundles) j = joined_lacked [] st bundles [] word words d j refl
    go (Some setting.Trace) j = joined_lacked [] st trace [] word words d j refl

pub plain_taken : (word : Word) (words : List Word) → is_dashed word ≡ false → only [] (options no_settings (word ∷ words)) ≡ Some (record { settings = no_settings; rest = word ∷ words })
plain_taken word words p = ap (only []) (behind_all no_settings word words p)

whole_lacked : (keys : List Key) (st : Settings) (k : Key) (words : List Word) → has keys k ≡ false → only keys (options st ((45 ∷ 45 ∷ name_of k) ∷ words)) ≡ None
whole_lacked keys st k words lacks = elim (cases_Bool (takes k)) [
  | inl t ↦ apart_lacked keys st k words t lacks
  | inr t ↦ joined_lacked keys st k [] (45 ∷ 45 ∷ name_of k) words refl (joined_flag k t) lacks
]

parts_lacked : (keys : List Key) (st : Settings) (k : Key) (v : Word) (words : List Word) → has keys k ≡ false → only keys (options st ((45 ∷ 45 ∷ (name_of k ++ 61 ∷ v)) ∷ words)) ≡ None
parts_lacked keys st k v words lacks = elim (cases_Bool (takes k)) [
  | inl t ↦ joined_lacked keys st k v (45 ∷ 45 ∷ (name_of k ++ 61 ∷ v)) words refl (joined_value k v t) lacks
  | inr t ↦ ap (only keys) (unjoined st (45 ∷ 45 ∷ (name_of k ++ 61 ∷ v)) words refl (flag_with_value k v t) (cut_apart (name_of k) v))
]

-- ---- words from an option whose value is wrong

-- no word is refused by itself, and each is text
abbrev pub Clear : List Text → Type 0
Clear [] = Unit {0}
Clear (word ∷ words) = (is_refused word ≡ false) × IsUtf8 word × Clear words

dashed_fails : (of : Text) (keys : List Key) (rows : List Row) (p : Option (Text × List Text)) (waiting : Waiting) (word : Text) → is_refused word ≡ false → is_dashed word ≡ true → IsUtf8 word
    → Fails (settle_fault (rules keys) false (hold rows p)) → Fails (turn_fault (shape_with of keys) [] (stand rows p waiting) word)
dashed_fails of keys rows p waiting word clear d utf8 bad = go (form word clear)
  where
    found : (x : ℕ) (xs : Text) (a : Option Rule) → arg_by_long (rules keys) (name_and_value (x ∷ xs)).0 ≡ a → Fails (turn_fault (shape_with of keys) [] (stand rows p waiting) (45 ∷ 45 ∷ x ∷ xs))
    found x xs None e = long_unknown (shape_with of keys) rows p waiting x xs (name_and_value (x ∷ xs)).0 (name_and_value (x ∷ xs)).1 refl e
    found x xs (Some a) e = long_waits (shape_with of keys) rows p waiting x xs (name_and_value (x ∷ xs)).0 (name_and_value (x ∷ xs)).1 a refl e bad

    go : Form word → Fails (turn_fault (shape_with of keys) [] (stand rows p waiting) word)
    go (plain h) = absurd (true≢false (sym d ∙ h))
    go (long x xs is) = subst (λ w. Fails (turn_fault (shape_with of keys) [] (stand rows p waiting) w)) (sym is) (found x xs (arg_by_long (rules keys) (name_and_value (x ∷ xs)).0) refl)
    go (short x xs one is) =
        let c = goes_on_with x xs (subst IsUtf8 is utf8) in
        subst (λ w. Fails (turn_fault (shape_with of keys) [] (stand rows p waiting) w)) (sym is) (short_unknown (shape_with of keys) rows p waiting x xs c.0 c.1 one c.2 (by_short keys c.0))

end_fails : (of : Text) (keys : List Key) (w : Walk) → Fails (settle_fault (rules keys) false w.held) → Fails (left (shape_with of keys) w [])
unfolding walk_fault
end_fails of keys w bad = fails_first (settle_fault (rules keys) false w.held) _ bad

doomed : (of : Text) (keys : List Key) (words : List Text) (rows : List Row) (p : Option (Text × List Text)) → Fails (settle_fault (rules keys) false (hold rows p)) → is_pending words_filled p ≡ false → Clear words
    → Fails (left (shape_with of keys) (stand rows p idle) words)
doomed of keys [] rows p bad apart ok = end_fails of keys (stand rows p idle) bad
doomed of keys (word ∷ words) rows p bad apart ok = left_fails (shape_with of keys) (stand rows p idle) word words (elim (cases_Bool (is_dashed word)) [
  | inl d ↦ dashed_fails of keys rows p idle word ok.0 d ok.1 bad
  | inr h ↦ other_waits (shape_with of keys) rows p word h (by_index keys) apart bad
])

-- ---- all words

abbrev Rec : Text → List Key → List Text → Type 0
Rec of keys words = (rows : List Row) (p : Option (Text × List Text)) (st : Settings) → Stands keys rows p st → allows keys st ≡ true → Clear words
    → Agrees of keys (stand rows p idle) words (only keys (options st words))

abbrev AfterNext : Text → List Key → List Text → Type 0
AfterNext of keys [] = Unit {0}
AfterNext of keys (next ∷ words) = Rec of keys words

module _ (of : Text) (keys : List Key) (rows : List Row) (p : Option (Text × List Text)) (st : Settings) (stands : Stands keys rows p st) (allowed : allows keys st ≡ true) where
  plain_case : (word : Text) (words : List Text) → is_dashed word ≡ false → Agrees of keys (stand rows p idle) (word ∷ words) (only keys (options st (word ∷ words)))
  plain_case word words h =
      let after = settled_rows (rules keys) p rows in
      subst (λ o. Agrees of keys (stand rows p idle) (word ∷ words) (only keys o)) (sym (behind_all st word words h))
      (agrees_step of keys (stand rows p idle) (trail after word) word words (only keys (front (word ∷ words) st))
      (other_fine (shape_with of keys) rows p word h (by_index keys) stands.apart stands.fine) (other_used (shape_with of keys) rows p word h (by_index keys) stands.apart)
      (trail_agrees of keys words after st [] word stands.sees allowed))

  fresh : (k : Key) (v : Word) (m : key_in keys (name_of k) ≡ Some k) → is_given k st ≡ false → allows keys (put k v st) ≡ true
  fresh k v m new = allows_put keys st k v new (found_has keys k ∙ ap is_some m) allowed

  stands_put : (k : Key) (v : Word) → is_given k st ≡ false → Stands keys (with_key k v (settled_rows (rules keys) p rows)) None (put k v st)
  stands_put k v new = record { fine = refl; sees = sees_put (settled_rows (rules keys) p rows) st k v new stands.sees; apart = refl }

  flag_case : (x : ℕ) (xs : Text) (words : List Text) (k : Key) → name_and_value (x ∷ xs) ≡ (name_of k, None) → key_in keys (name_of k) ≡ Some k → takes k ≡ false
      → joined (45 ∷ 45 ∷ x ∷ xs) ≡ Some (setting_of k []) → Clear words → Rec of keys words
      → Agrees of keys (stand rows p idle) ((45 ∷ 45 ∷ x ∷ xs) ∷ words) (only keys (options st ((45 ∷ 45 ∷ x ∷ xs) ∷ words)))
  flag_case x xs words k nv m t j ok next =
      let s = shape_with of keys in
      let word = 45 ∷ 45 ∷ x ∷ xs in
      let settled = settled_rows (rules keys) p rows in
      let found : arg_by_long (rules keys) (name_of k) ≡ Some (flag_filled (name_of k)) = long_found keys (name_of k) k m ∙ ap Some (flag_rule_is k t) in
      elim (cases_Bool (is_given k st)) [
        | inl old ↦ agrees_fail of keys (stand rows p idle) word words (only keys (options st (word ∷ words)))
            (flag_again s rows p x xs (name_of k) nv found refl stands.fine (not_held settled st [] k stands.sees ∙ old)) (ap (only keys) (joined_twice st k [] word words refl j old))
        | inr new ↦ subst (λ o. Agrees of keys (stand rows p idle) (word ∷ words) (only keys o)) (sym (joined_on st k [] word words refl j new))
            (agrees_step of keys (stand rows p idle) (stand (with_key k [] settled) None idle) word words (only keys (options (put k [] st) words))
            (flag_fine s rows p x xs (name_of k) nv found stands.fine (not_held settled st [] k stands.sees ∙ new))
            (flag_used s rows p x xs (name_of k) nv found ∙ ap (λ rs. stand rs None idle) (used_flag k [] settled t))
            (next (with_key k [] settled) None (put k [] st) (stands_put k [] new) (fresh k [] m new) ok))
      ]

  joined_case : (x : ℕ) (xs v : Text) (words : List Text) (k : Key) → name_and_value (x ∷ xs) ≡ (name_of k, Some v) → key_in keys (name_of k) ≡ Some k → takes k ≡ true
      → joined (45 ∷ 45 ∷ x ∷ xs) ≡ Some (setting_of k v) → Clear words → Rec of keys words
      → Agrees of keys (stand rows p idle) ((45 ∷ 45 ∷ x ∷ xs) ∷ words) (only keys (options st ((45 ∷ 45 ∷ x ∷ xs) ∷ words)))
  joined_case x xs v words k nv m t j ok next =
      let s = shape_with of keys in
      let word = 45 ∷ 45 ∷ x ∷ xs in
      let settled = settled_rows (rules keys) p rows in
      let found : arg_by_long (rules keys) (name_of k) ≡ Some (value_filled (name_of k)) = long_found keys (name_of k) k m ∙ ap Some (value_rule_is k t) in
      elim (cases_Bool (is_given k st)) [
        | inl old ↦ agrees_fail of keys (stand rows p idle) word words (only keys (options st (word ∷ words)))
            (joined_again s rows p x xs (name_of k) v nv found refl stands.fine (not_held settled st [] k stands.sees ∙ old)) (ap (only keys) (joined_twice st k v word words refl j old))
        | inr new ↦ subst (λ o. Agrees of keys (stand rows p idle) (word ∷ words) (only keys o)) (sym (joined_on st k v word words refl j new))
            (agrees_step of keys (stand rows p idle) (stand (with_key k v settled) None idle) word words (only keys (options (put k v st) words))
            (joined_fine s rows p x xs (name_of k) v nv found stands.fine (not_held settled st [] k stands.sees ∙ new))
            (joined_used s rows p x xs (name_of k) v nv found ∙ ap (λ rs. stand rs None idle) (used_value k v settled t))
            (next (with_key k v settled) None (put k v st) (stands_put k v new) (fresh k v m new) ok))
      ]

  -- an option whose value is the next word
  apart_case : (x : ℕ) (xs : Text) (words : List Text) (k : Key) → name_and_value (x ∷ xs) ≡ (name_of k, None) → key_in keys (name_of k) ≡ Some k → takes k ≡ true
      → joined (45 ∷ 45 ∷ x ∷ xs) ≡ None → ((v : Word) → is_dashed v ≡ false → apart (45 ∷ 45 ∷ x ∷ xs) v ≡ Some (setting_of k v)) → Clear words → AfterNext of keys words
      → Agrees of keys (stand rows p idle) ((45 ∷ 45 ∷ x ∷ xs) ∷ words) (only keys (options st ((45 ∷ 45 ∷ x ∷ xs) ∷ words)))
  apart_case x xs words k nv m t j a ok next = go words ok next
    where
      by : arg_by_id (rules keys) (name_of k) ≡ Some (value_filled (name_of k))
      by = id_found keys k m t

      found : arg_by_long (rules keys) (name_of k) ≡ Some (value_filled (name_of k))
      found = long_found keys (name_of k) k m ∙ ap Some (value_rule_is k t)

      empty_fails : Fails (settle_fault (rules keys) false (hold (settled_rows (rules keys) p rows) (Some (name_of k, []))))
      empty_fails = rw by tt

      step : (words : List Text) (o : Option Front) → Agrees of keys (stand (settled_rows (rules keys) p rows) (Some (name_of k, [])) (option (name_of k))) words o → Agrees of keys (stand rows p idle) ((45 ∷ 45 ∷ x ∷ xs) ∷ words) o
      step words o h = agrees_step of keys (stand rows p idle) (stand (settled_rows (rules keys) p rows) (Some (name_of k, [])) (option (name_of k))) (45 ∷ 45 ∷ x ∷ xs) words o (apart_fine (shape_with of keys) rows p x xs (name_of k) nv found stands.fine) (apart_opened (shape_with of keys) rows p x xs (name_of k) nv found) h

      used_up : (v : Text) → is_dashed v ≡ false → (words : List Text) (o : Option Front) → Agrees of keys (stand (settled_rows (rules keys) p rows) (Some (name_of k, v ∷ [])) idle) words o → Agrees of keys (stand (settled_rows (rules keys) p rows) (Some (name_of k, [])) (option (name_of k))) (v ∷ words) o
      used_up v h words o later = agrees_step of keys (stand (settled_rows (rules keys) p rows) (Some (name_of k, [])) (option (name_of k))) (stand (settled_rows (rules keys) p rows) (Some (name_of k, v ∷ [])) idle) v words o (value_fine (shape_with of keys) (settled_rows (rules keys) p rows) (name_of k) v h)
          (value_used (shape_with of keys) (settled_rows (rules keys) p rows) (name_of k) v h by (itself (name_of k))) later

      stands_on : (v : Text) → is_given k st ≡ false → Stands keys (settled_rows (rules keys) p rows) (Some (name_of k, v ∷ [])) (put k v st)
      stands_on v new = record {
        fine = rw (by, not_held (settled_rows (rules keys) p rows) st [] k stands.sees ∙ new) refl;
        sees = subst (λ rs. Sees rs (put k v st) []) (sym (rw by (used_value k v (settled_rows (rules keys) p rows) t))) (sees_put (settled_rows (rules keys) p rows) st k v new stands.sees);
        apart = key_apart k;
      }

      twice_fails : (v : Text) → is_given k st ≡ true → Fails (settle_fault (rules keys) false (hold (settled_rows (rules keys) p rows) (Some (name_of k, v ∷ []))))
      twice_fails v old = rw (by, not_held (settled_rows (rules keys) p rows) st [] k stands.sees ∙ old) tt

      go : (words : List Text) → Clear words → AfterNext of keys words → Agrees of keys (stand rows p idle) ((45 ∷ 45 ∷ x ∷ xs) ∷ words) (only keys (options st ((45 ∷ 45 ∷ x ∷ xs) ∷ words)))
      go [] ok next = subst (λ o. Agrees of keys (stand rows p idle) ((45 ∷ 45 ∷ x ∷ xs) ∷ []) (only keys o)) (sym (alone st (45 ∷ 45 ∷ x ∷ xs) refl j)) (step [] None (end_fails of keys (stand (settled_rows (rules keys) p rows) (Some (name_of k, [])) (option (name_of k))) empty_fails))
      go (v ∷ words) ok next = elim (cases_Bool (is_dashed v)) [
        | inl d ↦ subst (λ o. Agrees of keys (stand rows p idle) ((45 ∷ 45 ∷ x ∷ xs) ∷ v ∷ words) (only keys o)) (sym (unpaired st (45 ∷ 45 ∷ x ∷ xs) v words refl j (dashed_value (45 ∷ 45 ∷ x ∷ xs) v d)))
            (step (v ∷ words) None (left_fails (shape_with of keys) (stand (settled_rows (rules keys) p rows) (Some (name_of k, [])) (option (name_of k))) v words (dashed_fails of keys (settled_rows (rules keys) p rows) (Some (name_of k, [])) (option (name_of k)) v ok.0 d ok.1 empty_fails)))
        | inr h ↦ elim (cases_Bool (is_given k st)) [
          | inl old ↦ subst (λ o. Agrees of keys (stand rows p idle) ((45 ∷ 45 ∷ x ∷ xs) ∷ v ∷ words) (only keys o)) (sym (apart_twice st k v (45 ∷ 45 ∷ x ∷ xs) v words refl j (a v h) old))
              (step (v ∷ words) None (used_up v h words None (doomed of keys words (settled_rows (rules keys) p rows) (Some (name_of k, v ∷ [])) (twice_fails v old) (key_apart k) ok.2)))
          | inr new ↦ subst (λ o. Agrees of keys (stand rows p idle) ((45 ∷ 45 ∷ x ∷ xs) ∷ v ∷ words) (only keys o)) (sym (apart_on st k v (45 ∷ 45 ∷ x ∷ xs) v words refl j (a v h) new))
              (step (v ∷ words) (only keys (options (put k v st) words)) (used_up v h words (only keys (options (put k v st) words))
              (next (settled_rows (rules keys) p rows) (Some (name_of k, v ∷ [])) (put k v st) (stands_on v new) (fresh k v m new) ok.2)))
        ]
      ]

  -- a word that begins with `--`
  unknown_case : (x : ℕ) (xs name : Text) (v : Option Text) (words : List Text) → name_and_value (x ∷ xs) ≡ (name, v) → key_in keys name ≡ None
      → only keys (options st ((45 ∷ 45 ∷ x ∷ xs) ∷ words)) ≡ None → Agrees of keys (stand rows p idle) ((45 ∷ 45 ∷ x ∷ xs) ∷ words) (only keys (options st ((45 ∷ 45 ∷ x ∷ xs) ∷ words)))
  unknown_case x xs name v words nv m e = agrees_fail of keys (stand rows p idle) (45 ∷ 45 ∷ x ∷ xs) words (only keys (options st ((45 ∷ 45 ∷ x ∷ xs) ∷ words)))
      (long_unknown (shape_with of keys) rows p idle x xs name v nv (long_missing keys name m)) e

  lacks_key : (k : Key) → key_in keys (name_of k) ≡ None → has keys k ≡ false
  lacks_key k m = found_has keys k ∙ ap is_some m

  long_case : (x : ℕ) (xs : Text) (words : List Text) → Clear words → Rec of keys words → AfterNext of keys words
      → Agrees of keys (stand rows p idle) ((45 ∷ 45 ∷ x ∷ xs) ∷ words) (only keys (options st ((45 ∷ 45 ∷ x ∷ xs) ∷ words)))
  long_case x xs words ok rec next = by_cut (cut (x ∷ xs))
    where
      by_cut : Cut (x ∷ xs) → Agrees of keys (stand rows p idle) ((45 ∷ 45 ∷ x ∷ xs) ∷ words) (only keys (options st ((45 ∷ 45 ∷ x ∷ xs) ∷ words)))
      by_cut (whole l) = by_name (named keys (x ∷ xs))
        where
          nv : name_and_value (x ∷ xs) ≡ (x ∷ xs, None)
          nv = name_and_value-without (x ∷ xs) l

          by_name : Named keys (x ∷ xs) → Agrees of keys (stand rows p idle) ((45 ∷ 45 ∷ x ∷ xs) ∷ words) (only keys (options st ((45 ∷ 45 ∷ x ∷ xs) ∷ words)))
          by_name (none e f) = unknown_case x xs (x ∷ xs) None words nv e
              (ap (only keys) (unjoined st (45 ∷ 45 ∷ x ∷ xs) words refl (unnamed_joined (x ∷ xs) f l) (unnamed_apart (x ∷ xs) f)))
          by_name (other k e m) = unknown_case x xs (x ∷ xs) None words nv (ap (key_in keys) e ∙ m)
              (ap (λ t. only keys (options st ((45 ∷ 45 ∷ t) ∷ words))) e ∙ whole_lacked keys st k words (lacks_key k m))
          by_name (mine k e m) = elim (cases_Bool (takes k)) [
            | inl t ↦ apart_case x xs words k (nv ∙ ap (λ n. (n, None)) e) m t (ap (λ n. joined (45 ∷ 45 ∷ n)) e ∙ value_to_come k t)
                (λ v h. ap (λ n. apart (45 ∷ 45 ∷ n) v) e ∙ apart_value k v t h) ok next
            | inr t ↦ flag_case x xs words k (nv ∙ ap (λ n. (n, None)) e) m t (ap (λ n. joined (45 ∷ 45 ∷ n)) e ∙ joined_flag k t) ok rec
          ]
      by_cut (parts name v is l) = by_name (named keys name)
        where
          nv : name_and_value (x ∷ xs) ≡ (name, Some v)
          nv = ap name_and_value is ∙ name_and_value-at name v l

          by_name : Named keys name → Agrees of keys (stand rows p idle) ((45 ∷ 45 ∷ x ∷ xs) ∷ words) (only keys (options st ((45 ∷ 45 ∷ x ∷ xs) ∷ words)))
          by_name (none e f) = unknown_case x xs name (Some v) words nv e (ap (λ t. only keys (options st ((45 ∷ 45 ∷ t) ∷ words))) is
              ∙ ap (only keys) (unjoined st (45 ∷ 45 ∷ (name ++ 61 ∷ v)) words refl (unnamed_cut name v f l) (cut_apart name v)))
          by_name (other k e m) = unknown_case x xs name (Some v) words nv (ap (key_in keys) e ∙ m) (ap (λ t. only keys (options st ((45 ∷ 45 ∷ t) ∷ words))) (is ∙ ap (λ n. n ++ 61 ∷ v) e)
              ∙ parts_lacked keys st k v words (lacks_key k m))
          by_name (mine k e m) =
              let full : x ∷ xs ≡ name_of k ++ 61 ∷ v = is ∙ ap (λ n. n ++ 61 ∷ v) e in
              let found_at : name_and_value (x ∷ xs) ≡ (name_of k, Some v) = nv ∙ ap (λ n. (n, Some v)) e in
              elim (cases_Bool (takes k)) [
                | inl t ↦ joined_case x xs v words k found_at m t (ap (λ n. joined (45 ∷ 45 ∷ n)) full ∙ joined_value k v t) ok rec
                | inr t ↦ agrees_fail of keys (stand rows p idle) (45 ∷ 45 ∷ x ∷ xs) words (only keys (options st ((45 ∷ 45 ∷ x ∷ xs) ∷ words)))
                    (flag_valued (shape_with of keys) rows p idle x xs (name_of k) v found_at (long_found keys (name_of k) k m ∙ ap Some (flag_rule_is k t)))
                    (ap (λ n. only keys (options st ((45 ∷ 45 ∷ n) ∷ words))) full ∙ ap (only keys) (unjoined st (45 ∷ 45 ∷ (name_of k ++ 61 ∷ v)) words refl (flag_with_value k v t) (cut_apart (name_of k) v)))
              ]

  one_word : (word : Text) (words : List Text) → Clear (word ∷ words) → Rec of keys words → AfterNext of keys words
      → Agrees of keys (stand rows p idle) (word ∷ words) (only keys (options st (word ∷ words)))
  one_word word words ok rec next = go (form word ok.0)
    where
      go : Form word → Agrees of keys (stand rows p idle) (word ∷ words) (only keys (options st (word ∷ words)))
      go (plain h) = plain_case word words h
      go (long x xs is) = subst (λ w. Agrees of keys (stand rows p idle) (w ∷ words) (only keys (options st (w ∷ words)))) (sym is) (long_case x xs words ok.2 rec next)
      go (short x xs one is) =
          let c = goes_on_with x xs (subst IsUtf8 is ok.1) in
          subst (λ w. Agrees of keys (stand rows p idle) (w ∷ words) (only keys (options st (w ∷ words)))) (sym is)
          (agrees_fail of keys (stand rows p idle) (45 ∷ x ∷ xs) words (only keys (options st ((45 ∷ x ∷ xs) ∷ words)))
          (short_unknown (shape_with of keys) rows p idle x xs c.0 c.1 one c.2 (by_short keys c.0))
          (ap (only keys) (unjoined st (45 ∷ x ∷ xs) words refl (short_joined x xs one) (λ v. short_apart x xs v one))))

all_words : (of : Text) (keys : List Key) (words : List Text) → Rec of keys words
all_words of keys [] rows p st stands allowed ok = agrees_end of keys (stand rows p idle) st [] stands.fine stands.sees allowed
all_words of keys (word ∷ []) rows p st stands allowed ok = one_word of keys rows p st stands allowed word [] ok (all_words of keys []) tt
all_words of keys (word ∷ next ∷ words) rows p st stands allowed ok = one_word of keys rows p st stands allowed word (next ∷ words) ok (all_words of keys (next ∷ words)) (all_words of keys words)

nothing_held : (k : Key) → seen (name_of k) [] ≡ held_by k no_settings
nothing_held path = refl
nothing_held fuel = refl
nothing_held rounds = refl
nothing_held bundles = refl
nothing_held trace = refl

none_given : (keys : List Key) → allows keys no_settings ≡ true
none_given keys = allows_each keys no_settings (λ k. elim (cases_Bool (has keys k)) [ inl h ↦ rw h refl | inr h ↦ rw h (nobody k) ])
  where
    nobody : (k : Key) → (false || not (is_given k no_settings)) ≡ true
    nobody path = refl
    nobody fuel = refl
    nobody rounds = refl
    nobody bundles = refl
    nobody trace = refl

-- a parse of all words agrees with the rules
pub from_start : (of : Text) (keys : List Key) (words : List Text) → Clear words → Agrees of keys (stand [] None idle) words (only keys (options no_settings words))
from_start of keys words ok = all_words of keys words [] None no_settings (record { fine = refl; sees = record { keys = nothing_held; words = refl }; apart = refl }) (none_given keys) ok
