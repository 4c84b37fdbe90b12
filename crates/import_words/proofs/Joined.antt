-- A parse of a command's words, joined to the rules.
use Rattle.std.proofs.Common.{◌≡◌, ◌∙◌, refl, sym, ap, ap₂, subst, Bool, true, false, List, [], ◌∷◌, map, Option, Some, None, codes, inl, inr, String}
use Rattle.std.specs.Prelude.{unwrap_or}
use Rattle.std.specs.List.{list_any}
use Rattle.std.specs.String.{string_bytes}
use Rattle.std.proofs.lemmas.Bool.{or_parts}
use Rattle.std.proofs.lemmas.Str.{IsUtf8-string_bytes}
use Rattle.clap.specs.Values.{kind_of}
use Rattle.clap.specs.Matches.{found_of}
use Rattle.clap.specs.Walk.{Row, Text, idle, all_of, first_of, one_of, rows_after, rows_of}
use Rattle.clap.specs.Simple.{App, HasMatchesOf, argument_words, is_simple, matches_of, names_of}
use Rattle.clap.specs.Kinds.{HasKind, Kinds}
use Rattle.clap.specs.Faults.{built_fault, fault_of, is_simple_and_free}
use Rattle.clap.specs.Walk.{nothing_held as nothing_yet}
use Rattle.clap.proofs.FaultLemmas.{leaf_fault}
use Rattle.clap.proofs.WalkLemmas.{first_value-rows, one_text-rows, raw_values-rows}
use Rattle.clap.specs.declared.error.Error.{Error}
use Rattle.clap.specs.declared.error.kind.ErrorKind.TheVariants.{OutOfMemory}
use Rattle.clap.specs.declared.parser.matches.ArgMatches.{ArgMatches}
use Rattle.import_words.specs.OptionWords.{Word, is_refused}
use Rattle.import_words.specs.Taken.{taken, keys_of}
use Rattle.import_words.specs.Parsers.{app_for}
use Rattle.import_words.specs.Finds.{IsFlag, Finds}
use Rattle.import_words.specs.declared.clap_command.Command.{Command}
use Rattle.import_words.specs.declared.clap_command.Command.TheVariants as command
use Rattle.import_words.specs.declared.found.Front.{Front}
use Rattle.import_words.proofs.Steps.{Fails, stand, left, rows_left}
use Rattle.import_words.proofs.Keys.{built_is, simple_is, shape_for, title}
use Rattle.import_words.proofs.Agree.{Agrees, Clear, Final, IsText, from_start}

-- no word is the program's name
all_are : (it : Command) (words : List Text) → argument_words (app_for it) words ≡ words
all_are command.Run words = refl
all_are command.Gen words = refl
all_are command.Check words = refl
all_are command.Convert words = refl
all_are command.Module words = refl
all_are command.Report words = refl
all_are command.Bundle words = refl

is_simple_is : (it : Command) → is_simple (app_for it) ≡ true
is_simple_is command.Run = refl
is_simple_is command.Gen = refl
is_simple_is command.Check = refl
is_simple_is command.Convert = refl
is_simple_is command.Module = refl
is_simple_is command.Report = refl
is_simple_is command.Bundle = refl

fault_is : (it : Command) (words : List Text) → fault_of (app_for it) words ≡ left (shape_for it) (stand [] None idle) words
fault_is it words =
    ap₂ (λ b ws. built_fault b nothing_yet ws) (built_is it) (all_are it words) ∙ leaf_fault (record { top = shape_for it; subs = [] }) nothing_yet words refl

rows_are : (it : Command) (words : List Text) → matches_of (app_for it) words ≡ rows_left (shape_for it) (stand [] None idle) words
rows_are it words = ap₂ (λ b ws. rows_after b.top.rules (names_of b) ws) (built_is it) (all_are it words)

-- ---- the front that was read

flag_join : (b on : Bool) (text : Option Word) → IsText b text → IsFlag text on → on ≡ b
flag_join true on text is read = read.1 is
flag_join false on text (inl is) read = read.0 is
flag_join false on text (inr is) read = read.2 is

same_front : (a b : Front) → a.settings.path ≡ b.settings.path → a.settings.fuel ≡ b.settings.fuel → a.settings.rounds ≡ b.settings.rounds → a.settings.bundles ≡ b.settings.bundles
    → a.settings.trace ≡ b.settings.trace → a.rest ≡ b.rest → a ≡ b
same_front a b e1 e2 e3 e4 e5 e6 =
    ap (λ x. record { settings = record (a.settings) { path = x }; rest = a.rest }) e1 ∙ ap (λ x. record { settings = record (a.settings) { path = b.settings.path; fuel = x }; rest = a.rest }) e2
    ∙ ap (λ x. record { settings = record (a.settings) { path = b.settings.path; fuel = b.settings.fuel; rounds = x }; rest = a.rest }) e3
    ∙ ap (λ x. record { settings = record (b.settings) { bundles = x; trace = a.settings.trace }; rest = a.rest }) e4
    ∙ ap (λ x. record { settings = record (b.settings) { trace = x }; rest = a.rest }) e5
    ∙ ap (λ x. record { settings = b.settings; rest = x }) e6

front_is : (it read : Front) (m : ArgMatches) (rows : List Row) → rows_of (found_of m) ≡ rows → Final it rows → Finds (found_of m) read → read ≡ it
front_is it read m rows are final finds =
    let f = found_of m in
    same_front read it
    (finds.path ∙ first_value-rows f (codes "path") ∙ ap (first_of (codes "path")) are ∙ final.path)
    (finds.fuel ∙ first_value-rows f (codes "fuel") ∙ ap (first_of (codes "fuel")) are ∙ final.fuel)
    (finds.rounds ∙ first_value-rows f (codes "rounds") ∙ ap (first_of (codes "rounds")) are ∙ final.rounds)
    (flag_join it.settings.bundles read.settings.bundles (one_of (codes "bundles") rows) final.bundles
    (subst (λ t. IsFlag t read.settings.bundles) (one_text-rows f (codes "bundles") ∙ ap (one_of (codes "bundles")) are) finds.bundles))
    (flag_join it.settings.trace read.settings.trace (one_of (codes "trace") rows) final.trace
    (subst (λ t. IsFlag t read.settings.trace) (one_text-rows f (codes "trace") ∙ ap (one_of (codes "trace")) are) finds.trace))
    (finds.rest ∙ ap (λ o. unwrap_or o []) (raw_values-rows f (codes "words") ∙ ap (all_of (codes "words")) are) ∙ final.rest)

-- ---- the two answers

pub clear_of : {Z : Type 0} (words : List (String Z)) → list_any is_refused (map string_bytes words) ≡ false → Clear (map string_bytes words)
clear_of [] h = tt
clear_of (word ∷ words) h =
    let parts = or_parts (is_refused (string_bytes word)) (list_any is_refused (map string_bytes words)) h in
    (parts.0, IsUtf8-string_bytes word, clear_of words parts.1)

pub found_joins : (it : Command) (a : App) (words : List Text) (m : ArgMatches) (read : Front) → Clear words → a ≡ app_for it → (is_simple_and_free a ≡ true → fault_of a words ≡ [])
    → HasMatchesOf a words m → Finds (found_of m) read → Some read ≡ taken it words
found_joins it a words m read clear is kinds matches finds = go (taken it words) (from_start (title it) (keys_of it) words clear)
  where
    fine : left (shape_for it) (stand [] None idle) words ≡ []
    fine = sym (fault_is it words) ∙ ap (λ x. fault_of x words) (sym is) ∙ kinds (ap is_simple_and_free is ∙ simple_is it)

    are : rows_of (found_of m) ≡ rows_left (shape_for it) (stand [] None idle) words
    are = (matches (ap is_simple is ∙ is_simple_is it)).0 ∙ ap (λ x. matches_of x words) is ∙ rows_are it words

    go : (o : Option Front) → Agrees (title it) (keys_of it) (stand [] None idle) words o → Some read ≡ o
    go None h = absurd (subst Fails fine h)
    go (Some found) h = ap Some (front_is found read m (rows_left (shape_for it) (stand [] None idle) words) are h.1 finds)

pub refused_joins : (it : Command) (a : App) (words : List Text) (e : Error) → Clear words → a ≡ app_for it → (is_simple_and_free a ≡ true → HasKind (fault_of a words) e)
    → (kind_of e ≡ OutOfMemory → ⊥) → None ≡ taken it words
refused_joins it a words e clear is kinds room = go (taken it words) (from_start (title it) (keys_of it) words clear)
  where
    among : (ks : Kinds) → HasKind ks e → Fails ks
    among [] (inl h) = absurd (room h)
    among [] (inr h) = h
    among (k ∷ ks) h = tt

    bad : Fails (left (shape_for it) (stand [] None idle) words)
    bad = subst Fails (ap (λ x. fault_of x words) is ∙ fault_is it words) (among (fault_of a words) (kinds (ap is_simple_and_free is ∙ simple_is it)))

    go : (o : Option Front) → Agrees (title it) (keys_of it) (stand [] None idle) words o → None ≡ o
    go None h = refl
    go (Some found) h = absurd (subst Fails h.0 bad)
