-- One more word of a parse: what may go wrong at it, and where the walk stands then.
use Rattle.std.proofs.Common.{◌≡◌, ◌∙◌, refl, sym, subst, ap, ℕ, true, false, ◌==◌, List, [], ◌∷◌, length, Option, Some, None, codes, inl, inr}
use Rattle.std.proofs.lemmas.Bool.{cases_Bool}
use Rattle.std.specs.Prelude.{slice_get, fold}
use Rattle.std.specs.Str.{bytes_eq, chars}
use Rattle.clap.specs.Lexer.{long_of, short_of, name_and_value}
use Rattle.clap.specs.Walk.{Held, Row, Rule, Text, Walk, Waiting, idle, option, positional, arg_by_id, arg_by_index, arg_by_long, arg_by_short, finished, settled, settled_rows, used, after_step, long_word, walked, has_row, is_pending, takes_values}
use Rattle.clap.specs.Simple.{Shape, filled, with_index}
use Rattle.clap.specs.Kinds.{Kinds, or_else}
use Rattle.clap.specs.Faults.{bundle_fault, bundle_step_fault, check_fault, defaults_fault, flags_fault, long_fault, settle_fault, step_fault, turn_fault, walk_fault}
use Rattle.import_words.specs.OptionWords.{is_dashed}
use Rattle.import_words.specs.Parsers.{value_rule, flag_rule, words_rule}

abbrev pub value_filled : Text → Rule
value_filled id = filled (value_rule id)

abbrev pub flag_filled : Text → Rule
flag_filled id = filled (flag_rule id)

abbrev pub words_filled : Rule
words_filled = with_index 1 (filled words_rule)

-- something goes wrong
abbrev pub Fails : Kinds → Type 0
Fails [] = ⊥
Fails (k ∷ ks) = Unit {0}

pub fails_first : (a b : Kinds) → Fails a → Fails (or_else a b)
fails_first [] b h = elim h [ ]
fails_first (k ∷ ks) b h = tt

-- ---- where a walk stands

abbrev pub hold : List Row → Option (Text × List Text) → Held
hold rows p = record { rows = rows; pending = p; skip = 0 }

abbrev pub stand : List Row → Option (Text × List Text) → Waiting → Walk
stand rows p waiting = record { held = hold rows p; waiting = waiting; position = 1; is_trailing = false; stopped = None }

-- in the words behind the options
abbrev pub trail : List Row → Text → Walk
trail rows word = record { held = hold rows (Some (codes "words", word ∷ [])); waiting = positional; position = 1; is_trailing = true; stopped = None }

-- what goes wrong from here on, and the rows in the end
abbrev pub ending : Shape → Held → Kinds
ending s end = or_else (settle_fault s.rules s.args_override_self end)
    (or_else (defaults_fault (settled s.rules end).rows s.rules) (check_fault s (finished s.rules end) false))

abbrev pub left : Shape → Walk → List Text → Kinds
left s w words = or_else (walk_fault s [] w words) (ending s (fold (walked s.rules []) w words).held)

abbrev pub rows_left : Shape → Walk → List Text → List Row
rows_left s w words = finished s.rules (fold (walked s.rules []) w words).held

pub left_step : (s : Shape) (w after : Walk) (word : Text) (words : List Text) → turn_fault s [] w word ≡ [] → walked s.rules [] w word ≡ after → left s w (word ∷ words) ≡ left s after words
unfolding walk_fault
left_step s w after word words fine is =
    rw fine (ap (λ x. or_else (walk_fault s [] x words) (ending s (fold (walked s.rules []) x words).held)) is)

pub rows_step : (s : Shape) (w after : Walk) (word : Text) (words : List Text) → walked s.rules [] w word ≡ after → rows_left s w (word ∷ words) ≡ rows_left s after words
rows_step s w after word words is = ap (λ x. rows_left s x words) is

pub left_fails : (s : Shape) (w : Walk) (word : Text) (words : List Text) → Fails (turn_fault s [] w word) → Fails (left s w (word ∷ words))
unfolding walk_fault
left_fails s w word words h = fails_first _ _ (fails_first (turn_fault s [] w word) _ h)

-- ---- how words look

pub plain_long : (word : Text) → is_dashed word ≡ false → long_of word ≡ None
plain_long [] h = refl
plain_long (b ∷ bs) h = rw h refl

pub plain_short : (word : Text) → is_dashed word ≡ false → short_of word ≡ None
plain_short [] h = refl
plain_short (b ∷ bs) h = rw h refl

pub plain_word : (word : Text) → is_dashed word ≡ false → bytes_eq word (45 ∷ 45 ∷ []) ≡ false
plain_word [] h = refl
plain_word (b ∷ bs) h = rw h refl

pub short_long : (x : ℕ) (xs : Text) → (x == 45) ≡ false → long_of (45 ∷ x ∷ xs) ≡ None
short_long x xs h = rw h refl

pub short_short : (x : ℕ) (xs : Text) → (x == 45) ≡ false → short_of (45 ∷ x ∷ xs) ≡ Some (x ∷ xs)
short_short x xs h = rw h refl

pub short_word : (x : ℕ) (xs : Text) → (x == 45) ≡ false → bytes_eq (45 ∷ x ∷ xs) (45 ∷ 45 ∷ []) ≡ false
short_word x xs h = rw h refl

-- ---- one more word

-- a word that begins with `--`, whose name and value are q
abbrev pub long_turn : Shape → Waiting → Text → Held → Text × Option Text → Kinds
long_turn s waiting word h q = or_else (long_fault s.rules s.args_override_self (arg_by_long s.rules q.0) q.1 h)
    (step_fault s 1 (long_word s.rules waiting word q.0 q.1 h).0 (long_word s.rules waiting word q.0 q.1 h).1)

abbrev pub long_walk : Shape → Walk → Text → Text × Option Text → Walk
long_walk s w word q = after_step s.rules word w (long_word s.rules w.waiting word q.0 q.1 w.held).0 (long_word s.rules w.waiting word q.0 q.1 w.held).1

module _ (s : Shape) (rows : List Row) (p : Option (Text × List Text)) where
  pub turn_long : (waiting : Waiting) (x : ℕ) (xs : Text) (q : Text × Option Text) → name_and_value (x ∷ xs) ≡ q
      → turn_fault s [] (stand rows p waiting) (45 ∷ 45 ∷ x ∷ xs) ≡ long_turn s waiting (45 ∷ 45 ∷ x ∷ xs) (hold rows p) q
  turn_long idle x xs q cut = ap (long_turn s idle (45 ∷ 45 ∷ x ∷ xs) (hold rows p)) cut
  turn_long (option id) x xs q cut = ap (long_turn s (option id) (45 ∷ 45 ∷ x ∷ xs) (hold rows p)) cut
  turn_long positional x xs q cut = ap (long_turn s positional (45 ∷ 45 ∷ x ∷ xs) (hold rows p)) cut

  pub walk_long : (x : ℕ) (xs : Text) (q : Text × Option Text) → name_and_value (x ∷ xs) ≡ q
      → walked s.rules [] (stand rows p idle) (45 ∷ 45 ∷ x ∷ xs) ≡ long_walk s (stand rows p idle) (45 ∷ 45 ∷ x ∷ xs) q
  unfolding walked
  walk_long x xs q cut = ap (long_walk s (stand rows p idle) (45 ∷ 45 ∷ x ∷ xs)) cut

  -- an option that the command lacks
  pub long_unknown : (waiting : Waiting) (x : ℕ) (xs name : Text) (v : Option Text) → name_and_value (x ∷ xs) ≡ (name, v) → arg_by_long s.rules name ≡ None
      → Fails (turn_fault s [] (stand rows p waiting) (45 ∷ 45 ∷ x ∷ xs))
  long_unknown waiting x xs name v cut none = subst Fails (sym (turn_long waiting x xs (name, v) cut)) (rw none tt)

  -- the values that wait are wrong
  pub waits_turn : (waiting : Waiting) (word name : Text) (v : Option Text) (a : Rule) → arg_by_long s.rules name ≡ Some a
      → Fails (settle_fault s.rules s.args_override_self (hold rows p)) → Fails (long_turn s waiting word (hold rows p) (name, v))
  waits_turn waiting word name None a found bad = elim (cases_Bool (takes_values a)) [
    | inl t ↦ rw (found, t) (fails_first _ _ bad)
    | inr t ↦ rw (found, t) (fails_first _ _ (fails_first _ _ bad))
  ]
  waits_turn waiting word name (Some y) a found bad = elim (cases_Bool (takes_values a)) [
    | inl t ↦ rw (found, t) (fails_first _ _ (fails_first _ _ bad))
    | inr t ↦ rw (found, t) tt
  ]

  pub long_waits : (waiting : Waiting) (x : ℕ) (xs name : Text) (v : Option Text) (a : Rule) → name_and_value (x ∷ xs) ≡ (name, v) → arg_by_long s.rules name ≡ Some a
      → Fails (settle_fault s.rules s.args_override_self (hold rows p)) → Fails (turn_fault s [] (stand rows p waiting) (45 ∷ 45 ∷ x ∷ xs))
  long_waits waiting x xs name v a cut found bad = subst Fails (sym (turn_long waiting x xs (name, v) cut)) (waits_turn waiting (45 ∷ 45 ∷ x ∷ xs) name v a found bad)

  -- an option with its value behind a `=`
  pub joined_used : (x : ℕ) (xs id v : Text) → name_and_value (x ∷ xs) ≡ (id, Some v) → arg_by_long s.rules id ≡ Some (value_filled id)
      → walked s.rules [] (stand rows p idle) (45 ∷ 45 ∷ x ∷ xs) ≡ stand (used (value_filled id) (v ∷ []) (settled_rows s.rules p rows)) None idle
  joined_used x xs id v cut found = walk_long x xs (id, Some v) cut ∙ rw found refl

  pub joined_fine : (x : ℕ) (xs id v : Text) → name_and_value (x ∷ xs) ≡ (id, Some v) → arg_by_long s.rules id ≡ Some (value_filled id)
      → settle_fault s.rules s.args_override_self (hold rows p) ≡ [] → has_row id (settled_rows s.rules p rows) ≡ false
      → turn_fault s [] (stand rows p idle) (45 ∷ 45 ∷ x ∷ xs) ≡ []
  joined_fine x xs id v cut found fine new = turn_long idle x xs (id, Some v) cut ∙ rw (found, fine, new) refl

  pub joined_again : (x : ℕ) (xs id v : Text) → name_and_value (x ∷ xs) ≡ (id, Some v) → arg_by_long s.rules id ≡ Some (value_filled id)
      → s.args_override_self ≡ false → settle_fault s.rules s.args_override_self (hold rows p) ≡ [] → has_row id (settled_rows s.rules p rows) ≡ true
      → Fails (turn_fault s [] (stand rows p idle) (45 ∷ 45 ∷ x ∷ xs))
  joined_again x xs id v cut found single fine old = subst Fails (sym (turn_long idle x xs (id, Some v) cut)) (rw (found, fine, old, single) tt)

  -- an option whose value is to come
  pub apart_opened : (x : ℕ) (xs id : Text) → name_and_value (x ∷ xs) ≡ (id, None) → arg_by_long s.rules id ≡ Some (value_filled id)
      → walked s.rules [] (stand rows p idle) (45 ∷ 45 ∷ x ∷ xs) ≡ stand (settled_rows s.rules p rows) (Some (id, [])) (option id)
  apart_opened x xs id cut found = walk_long x xs (id, None) cut ∙ rw found refl

  pub apart_fine : (x : ℕ) (xs id : Text) → name_and_value (x ∷ xs) ≡ (id, None) → arg_by_long s.rules id ≡ Some (value_filled id)
      → settle_fault s.rules s.args_override_self (hold rows p) ≡ [] → turn_fault s [] (stand rows p idle) (45 ∷ 45 ∷ x ∷ xs) ≡ []
  apart_fine x xs id cut found fine = turn_long idle x xs (id, None) cut ∙ rw (found, fine) refl

  -- an option without a value
  pub flag_used : (x : ℕ) (xs id : Text) → name_and_value (x ∷ xs) ≡ (id, None) → arg_by_long s.rules id ≡ Some (flag_filled id)
      → walked s.rules [] (stand rows p idle) (45 ∷ 45 ∷ x ∷ xs) ≡ stand (used (flag_filled id) [] (settled_rows s.rules p rows)) None idle
  flag_used x xs id cut found = walk_long x xs (id, None) cut ∙ rw found refl

  pub flag_fine : (x : ℕ) (xs id : Text) → name_and_value (x ∷ xs) ≡ (id, None) → arg_by_long s.rules id ≡ Some (flag_filled id)
      → settle_fault s.rules s.args_override_self (hold rows p) ≡ [] → has_row id (settled_rows s.rules p rows) ≡ false
      → turn_fault s [] (stand rows p idle) (45 ∷ 45 ∷ x ∷ xs) ≡ []
  flag_fine x xs id cut found fine new = turn_long idle x xs (id, None) cut ∙ rw (found, fine, new) refl

  pub flag_again : (x : ℕ) (xs id : Text) → name_and_value (x ∷ xs) ≡ (id, None) → arg_by_long s.rules id ≡ Some (flag_filled id)
      → s.args_override_self ≡ false → settle_fault s.rules s.args_override_self (hold rows p) ≡ [] → has_row id (settled_rows s.rules p rows) ≡ true
      → Fails (turn_fault s [] (stand rows p idle) (45 ∷ 45 ∷ x ∷ xs))
  flag_again x xs id cut found single fine old = subst Fails (sym (turn_long idle x xs (id, None) cut)) (rw (found, fine, old, single) tt)

  pub flag_valued : (waiting : Waiting) (x : ℕ) (xs id v : Text) → name_and_value (x ∷ xs) ≡ (id, Some v) → arg_by_long s.rules id ≡ Some (flag_filled id)
      → Fails (turn_fault s [] (stand rows p waiting) (45 ∷ 45 ∷ x ∷ xs))
  flag_valued waiting x xs id v cut found = subst Fails (sym (turn_long waiting x xs (id, Some v) cut)) (rw found tt)

  -- a word that is no option, where none waits for a value
  pub other_used : (word : Text) → is_dashed word ≡ false → arg_by_index s.rules 1 ≡ Some words_filled → is_pending words_filled p ≡ false
      → walked s.rules [] (stand rows p idle) word ≡ trail (settled_rows s.rules p rows) word
  unfolding walked
  other_used word plain first apart = rw (plain_long word plain, plain_short word plain, plain_word word plain, first, apart) refl

  pub other_fine : (word : Text) → is_dashed word ≡ false → arg_by_index s.rules 1 ≡ Some words_filled → is_pending words_filled p ≡ false
      → settle_fault s.rules s.args_override_self (hold rows p) ≡ [] → turn_fault s [] (stand rows p idle) word ≡ []
  other_fine word plain first apart fine = rw (plain_long word plain, plain_short word plain, plain_word word plain, first, apart, fine) refl

  pub other_waits : (word : Text) → is_dashed word ≡ false → arg_by_index s.rules 1 ≡ Some words_filled → is_pending words_filled p ≡ false
      → Fails (settle_fault s.rules s.args_override_self (hold rows p)) → Fails (turn_fault s [] (stand rows p idle) word)
  other_waits word plain first apart bad = rw (plain_long word plain, plain_short word plain, plain_word word plain, first, apart) bad

  -- `-` and a letter: no option is so short
  pub bundle_fails : (x : ℕ) (xs : Text) (c : ℕ) (cs : List ℕ) → chars (x ∷ xs) ≡ c ∷ cs → arg_by_short s.rules c ≡ None
      → Fails (bundle_fault s.rules s.args_override_self (x ∷ xs) (hold rows p))
  unfolding flags_fault
  bundle_fails x xs c cs is none =
      let again = s.args_override_self in
      subst Fails (ap (λ l. bundle_step_fault s.rules again (slice_get l 0) (x ∷ xs) 0 (hold rows p) (flags_fault s.rules again (length xs))) (sym is)) (rw none tt)

  pub short_unknown : (waiting : Waiting) (x : ℕ) (xs : Text) (c : ℕ) (cs : List ℕ) → (x == 45) ≡ false → chars (x ∷ xs) ≡ c ∷ cs → arg_by_short s.rules c ≡ None
      → Fails (turn_fault s [] (stand rows p waiting) (45 ∷ x ∷ xs))
  short_unknown idle x xs c cs one is none = rw (short_long x xs one, short_short x xs one, short_word x xs one) (fails_first _ _ (bundle_fails x xs c cs is none))
  short_unknown (option id) x xs c cs one is none = rw (short_long x xs one, short_short x xs one, short_word x xs one) (fails_first _ _ (bundle_fails x xs c cs is none))
  short_unknown positional x xs c cs one is none = rw (short_long x xs one, short_short x xs one, short_word x xs one) (fails_first _ _ (bundle_fails x xs c cs is none))

module _ (s : Shape) (rows : List Row) where
  -- the value of the option before it
  pub value_used : (id word : Text) → is_dashed word ≡ false → arg_by_id s.rules id ≡ Some (value_filled id) → bytes_eq id id ≡ true
      → walked s.rules [] (stand rows (Some (id, [])) (option id)) word ≡ stand rows (Some (id, word ∷ [])) idle
  unfolding walked
  value_used id word plain found same = rw (plain_long word plain, plain_short word plain, plain_word word plain, found, same) refl

  pub value_fine : (id word : Text) → is_dashed word ≡ false → turn_fault s [] (stand rows (Some (id, [])) (option id)) word ≡ []
  value_fine id word plain = rw (plain_long word plain, plain_short word plain, plain_word word plain) refl

  -- a word behind the first that is no option
  pub trail_used : (word more : Text) → arg_by_index s.rules 1 ≡ Some words_filled → arg_by_id s.rules (codes "words") ≡ Some words_filled
      → walked s.rules [] (trail rows word) more ≡ trail (used words_filled (word ∷ []) rows) more
  unfolding walked
  trail_used word more first found = rw (first, found) refl

  pub trail_fine : (word more : Text) → arg_by_index s.rules 1 ≡ Some words_filled → arg_by_id s.rules (codes "words") ≡ Some words_filled
      → turn_fault s [] (trail rows word) more ≡ []
  trail_fine word more first found = rw (first, found) refl
