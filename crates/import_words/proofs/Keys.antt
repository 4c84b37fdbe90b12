-- The rules of a command, by its options.
use Rattle.std.proofs.Common.{◌≡◌, ◌∙◌, refl, sym, ap, ℕ, Bool, true, false, cond, ◌&&◌, ◌==◌, List, [], ◌∷◌, ◌++◌, map, Option, Some, None, codes, inl, inr, true≢false}
use Rattle.std.specs.Prelude.{not, is_some, find, fold, if◌then◌else◌, option_map}
use Rattle.std.specs.List.{list_any}
use Rattle.std.specs.Option.{option_or, option_map_or}
use Rattle.std.specs.Str.{bytes_eq, chars, IsUtf8}
use Rattle.std.proofs.lemmas.Bool.{cases_Bool}
use Rattle.std.proofs.lemmas.Str.{encodes-chars}
use Rattle.std.proofs.Math.Utf8.{encodes}
use Rattle.std.proofs.lemmas.Slice.Eq.{bytes_eq-Decides}
use Rattle.std.proofs.Math.Bool.{or-false}
use Rattle.clap.specs.Walk.{Row, Rule, Text, arg_by_id, arg_by_index, arg_by_long, arg_by_short, has_long, has_short, has_row, with_default, with_values}
use Rattle.clap.specs.Simple.{Shape, built}
use Rattle.clap.specs.Faults.{check_fault, defaults_fault, default_fault, is_simple_and_free}
use Rattle.clap.specs.Takes.{is_given}
use Rattle.clap.specs.declared.builder.value_parser.Reading.TheVariants.{AsWritten}
use Rattle.clap.specs.declared.parser.matches.ValueSource.TheVariants.{DefaultValue}
use Rattle.import_words.specs.Taken.{Key, path, fuel, rounds, bundles, trace, name_of, keys_of}
use Rattle.import_words.specs.Parsers.{app_for}
use Rattle.import_words.specs.declared.clap_command.Command.{Command}
use Rattle.import_words.specs.declared.clap_command.Command.TheVariants as command
use Rattle.import_words.proofs.Rows.{Seen, seen, row-seen, default_seen}
use Rattle.import_words.proofs.Steps.{value_filled, flag_filled, words_filled}

-- the option takes a value
abbrev pub takes : Key → Bool
takes path = true
takes fuel = true
takes rounds = true
takes bundles = false
takes trace = false

abbrev pub rule_for : Key → Rule
rule_for path = value_filled (codes "path")
rule_for fuel = value_filled (codes "fuel")
rule_for rounds = value_filled (codes "rounds")
rule_for bundles = flag_filled (codes "bundles")
rule_for trace = flag_filled (codes "trace")

abbrev pub rules : List Key → List Rule
rules keys = map rule_for keys ++ words_filled ∷ []

abbrev pub shape_with : Text → List Key → Shape
shape_with title keys = record {
  name = title;
  aliases = [];
  rules = rules keys;
  is_plain = true;
  is_leaf = true;
  no_binary_name = true;
  disable_help_flag = true;
  disable_help_subcommand = true;
  disable_version_flag = true;
  propagate_version = false;
  has_version = false;
  has_long_version = false;
  args_override_self = false;
  arg_required_else_help = false;
  subcommand_required = false;
  subcommand_negates_reqs = false;
  is_built = true;
}

abbrev pub title : Command → Text
title command.Run = codes "run"
title command.Gen = codes "gen"
title command.Check = codes "check"
title command.Convert = codes "convert"
title command.Module = codes "module"
title command.Report = codes "report"
title command.Bundle = codes "bundle"

abbrev pub shape_for : Command → Shape
shape_for it = shape_with (title it) (keys_of it)

pub built_is : (it : Command) → built (app_for it) ≡ record { top = shape_for it; subs = [] }
built_is command.Run = refl
built_is command.Gen = refl
built_is command.Check = refl
built_is command.Convert = refl
built_is command.Module = refl
built_is command.Report = refl
built_is command.Bundle = refl

pub simple_is : (it : Command) → is_simple_and_free (app_for it) ≡ true
simple_is command.Run = refl
simple_is command.Gen = refl
simple_is command.Check = refl
simple_is command.Convert = refl
simple_is command.Module = refl
simple_is command.Report = refl
simple_is command.Bundle = refl

-- ---- searches among the rules

abbrev pub key_in : List Key → Text → Option Key
key_in keys name = find (λ k. bytes_eq (name_of k) name) keys

long_is : (k : Key) (name : Text) → (not (is_some (rule_for k).index) && has_long (rule_for k) name) ≡ bytes_eq (name_of k) name
long_is path name = or-false _
long_is fuel name = or-false _
long_is rounds name = or-false _
long_is bundles name = or-false _
long_is trace name = or-false _

pub by_long : (keys : List Key) (name : Text) → arg_by_long (rules keys) name ≡ option_map rule_for (key_in keys name)
by_long [] name = refl
by_long (k ∷ ks) name = elim (cases_Bool (bytes_eq (name_of k) name)) [
  | inl hit ↦ rw (long_is k name, hit) refl
  | inr miss ↦ rw (long_is k name, miss) (by_long ks name)
]

id_is : (k : Key) → (rule_for k).id ≡ name_of k
id_is path = refl
id_is fuel = refl
id_is rounds = refl
id_is bundles = refl
id_is trace = refl

pub by_id : (keys : List Key) (id : Text) → arg_by_id (rules keys) id ≡ option_or (option_map rule_for (key_in keys id)) (if bytes_eq (codes "words") id then Some words_filled else None)
by_id [] id = refl
by_id (k ∷ ks) id = elim (cases_Bool (bytes_eq (name_of k) id)) [
  | inl hit ↦ rw (id_is k, hit) refl
  | inr miss ↦ rw (id_is k, miss) (by_id ks id)
]

no_index : (k : Key) → option_map_or (λ i. i == 1) (rule_for k).index false ≡ false
no_index path = refl
no_index fuel = refl
no_index rounds = refl
no_index bundles = refl
no_index trace = refl

pub by_index : (keys : List Key) → arg_by_index (rules keys) 1 ≡ Some words_filled
by_index [] = refl
by_index (k ∷ ks) = rw (no_index k) (by_index ks)

no_short : (k : Key) (c : ℕ) → (not (is_some (rule_for k).index) && has_short (rule_for k) c) ≡ false
no_short path c = refl
no_short fuel c = refl
no_short rounds c = refl
no_short bundles c = refl
no_short trace c = refl

pub by_short : (keys : List Key) (c : ℕ) → arg_by_short (rules keys) c ≡ None
by_short [] c = refl
by_short (k ∷ ks) c = rw (no_short k c) (by_short ks c)

-- ---- the end of a parse

-- what a flag that did not stand is given
abbrev pub own_default : Key → Text → Seen
own_default path j = None
own_default fuel j = None
own_default rounds j = None
own_default bundles j = if bytes_eq (codes "bundles") j then Some (codes "false" ∷ [], AsWritten) else None
own_default trace j = if bytes_eq (codes "trace") j then Some (codes "false" ∷ [], AsWritten) else None

abbrev pub default_in : List Key → Text → Seen
default_in [] j = None
default_in (k ∷ ks) j = option_or (own_default k j) (default_in ks j)

same : {X : Type 0} (b : Bool) (x : X) → cond b x x ≡ x
same true x = refl
same false x = refl

or_none : {X : Type 0} (o : Option X) → option_or o None ≡ o
or_none None = refl
or_none (Some x) = refl

or_assoc : {X : Type 0} (a b c : Option X) → option_or (option_or a b) c ≡ option_or a (option_or b c)
or_assoc None b c = refl
or_assoc (Some x) b c = refl

flag_default : (id j : Text) (rows : List Row) → seen j (if has_row id rows then rows else with_values id AsWritten DefaultValue (codes "false" ∷ []) rows)
    ≡ option_or (seen j rows) (if bytes_eq id j then Some (codes "false" ∷ [], AsWritten) else None)
flag_default id j rows = elim (cases_Bool (has_row id rows)) [
  | inl used ↦ rw used (elim (cases_Bool (bytes_eq id j)) [
    | inl hit ↦ rw hit (there _ (seen j rows) (sym (row-seen j rows) ∙ ap (λ i. has_row i rows) (sym (alike id j hit)) ∙ used))
    | inr miss ↦ rw miss (sym (or_none (seen j rows)))
  ])
  | inr new ↦ rw new (default_seen id j AsWritten DefaultValue (codes "false" ∷ []) rows new)
]
  where
    there : {X : Type 0} (y o : Option X) → is_some o ≡ true → o ≡ option_or o y
    there y None h = absurd (true≢false (sym h))
    there y (Some x) h = refl

    alike : (xs ys : Text) → bytes_eq xs ys ≡ true → xs ≡ ys
    alike xs ys h = (bytes_eq-Decides xs ys).0 h

key_default : (k : Key) (j : Text) (rows : List Row) → seen j (with_default rows (rule_for k)) ≡ option_or (seen j rows) (own_default k j)
key_default path j rows = ap (seen j) (same (has_row (codes "path") rows) rows) ∙ sym (or_none (seen j rows))
key_default fuel j rows = ap (seen j) (same (has_row (codes "fuel") rows) rows) ∙ sym (or_none (seen j rows))
key_default rounds j rows = ap (seen j) (same (has_row (codes "rounds") rows) rows) ∙ sym (or_none (seen j rows))
key_default bundles j rows = flag_default (codes "bundles") j rows
key_default trace j rows = flag_default (codes "trace") j rows

pub ended_seen : (keys : List Key) (j : Text) (rows : List Row) → seen j (fold with_default rows (rules keys)) ≡ option_or (seen j rows) (default_in keys j)
ended_seen [] j rows = ap (seen j) (same (has_row (codes "words") rows) rows) ∙ sym (or_none (seen j rows))
ended_seen (k ∷ ks) j rows =
    ended_seen ks j (with_default rows (rule_for k)) ∙ ap (λ x. option_or x (default_in ks j)) (key_default k j rows) ∙ or_assoc (seen j rows) (own_default k j) (default_in ks j)

no_fault : (k : Key) (rows : List Row) → default_fault rows (rule_for k) ≡ []
no_fault path rows = elim (cases_Bool (has_row (codes "path") rows)) [ inl h ↦ rw h refl | inr h ↦ rw h refl ]
no_fault fuel rows = elim (cases_Bool (has_row (codes "fuel") rows)) [ inl h ↦ rw h refl | inr h ↦ rw h refl ]
no_fault rounds rows = elim (cases_Bool (has_row (codes "rounds") rows)) [ inl h ↦ rw h refl | inr h ↦ rw h refl ]
no_fault bundles rows = elim (cases_Bool (has_row (codes "bundles") rows)) [ inl h ↦ rw h refl | inr h ↦ rw h refl ]
no_fault trace rows = elim (cases_Bool (has_row (codes "trace") rows)) [ inl h ↦ rw h refl | inr h ↦ rw h refl ]

pub defaults_fine : (keys : List Key) (rows : List Row) → defaults_fault rows (rules keys) ≡ []
unfolding defaults_fault
defaults_fine [] rows = elim (cases_Bool (has_row (codes "words") rows)) [ inl h ↦ rw h refl | inr h ↦ rw h refl ]
defaults_fine (k ∷ ks) rows = rw (no_fault k rows) (defaults_fine ks (with_default rows (rule_for k)))

none_required : (keys : List Key) (p : Rule → Bool) → list_any (λ a. a.required && p a) (rules keys) ≡ false
none_required [] p = refl
none_required (path ∷ ks) p = none_required ks p
none_required (fuel ∷ ks) p = none_required ks p
none_required (rounds ∷ ks) p = none_required ks p
none_required (bundles ∷ ks) p = none_required ks p
none_required (trace ∷ ks) p = none_required ks p

pub nothing_missing : (of : Text) (keys : List Key) (rows : List Row) → check_fault (shape_with of keys) rows false ≡ []
nothing_missing of keys rows = rw (none_required keys (λ a. not (is_given a.id rows))) refl

-- ---- characters

has_second : List ℕ → Bool
has_second [] = false
has_second (b ∷ []) = false
has_second (b ∷ c ∷ bs) = true

-- text that goes on behind a `-` has a character there
pub goes_on_with : (x : ℕ) (xs : Text) → IsUtf8 (45 ∷ x ∷ xs) → (c : ℕ) × (cs : List ℕ) × (chars (x ∷ xs) ≡ c ∷ cs)
unfolding has_second chars lib.Utf8.encode
goes_on_with x xs utf8 = go (chars (x ∷ xs)) refl
  where
    go : (cs : List ℕ) → chars (x ∷ xs) ≡ cs → (c : ℕ) × (more : List ℕ) × (chars (x ∷ xs) ≡ c ∷ more)
    go [] e =
        let short : 45 ∷ [] ≡ 45 ∷ x ∷ xs = sym (ap (λ cs. encodes (45 ∷ cs)) e) ∙ encodes-chars (45 ∷ x ∷ xs) utf8 in
        absurd (true≢false (sym (ap has_second short)))
    go (c ∷ more) e = (c, more, e)
