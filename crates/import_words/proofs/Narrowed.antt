-- What a command makes of the words that were taken apart is what it makes of all options and words.
use Rattle.std.proofs.Common.{◌≡◌, ◌∙◌, refl, sym, ap, ℕ, Bool, true, false, ◌&&◌, ◌||◌, List, [], ◌∷◌, Option, Some, None, inl, inr, true≢false}
use Rattle.std.specs.Prelude.{is_some, not}
use Rattle.std.specs.List.{list_any}
use Rattle.std.specs.Option.{option_and_then}
use Rattle.std.specs.Char.{is_ascii_digit}
use Rattle.std.proofs.lemmas.Bool.{cases_Bool, eqb-true, or_parts}
use Rattle.import_words.specs.OptionWords.{Word, is_dashed, is_refused, options, no_settings}
use Rattle.import_words.specs.Taken.{keys_of, allows, only, taken}
use Rattle.import_words.specs.declared.clap_command.Command.{Command}
use Rattle.import_words.specs.declared.clap_command.Command.TheVariants as command
use Rattle.import_words.specs.declared.found.Settings.{Settings}
use Rattle.import_words.specs.declared.found.Front.{Front}
use Rattle.import_words.proofs.Agree.{dashed_taken, plain_taken}
use Rattle.import_words.specs.Plans.{behind_options, run_plan, check_plan, module_plan, report_plan, gen_of, gen_with, number_of, digits_of, only_word, plan_of, plan_by, command_of}
use Rattle.import_words.specs.declared.plan.Plan.{Plan}

-- what is made of what was taken
abbrev pub made_of : (Settings → List Word → Option Plan) → Option Front → Option Plan
made_of made found = option_and_then (λ it. made it.settings it.rest) found

narrowed : (it : Command) (made : Settings → List Word → Option Plan) → ((s : Settings) (rest : List Word) → allows (keys_of it) s ≡ false → made s rest ≡ None) → (words : List Word)
    → made_of made (taken it words) ≡ behind_options made words
narrowed it made lacks words = go (options no_settings words)
  where
    go : (o : Option Front) → made_of made (only (keys_of it) o) ≡ made_of made o
    go None = refl
    go (Some found) = elim (cases_Bool (allows (keys_of it) found.settings)) [
      | inl all_had ↦ rw all_had refl
      | inr one_lacked ↦ rw one_lacked (sym (lacks found.settings found.rest one_lacked))
    ]

pub run_is : (words : List Word) → made_of run_plan (taken command.Run words) ≡ behind_options run_plan words
run_is = narrowed command.Run run_plan (λ s rest h. absurd (true≢false h))

pub check_is : (words : List Word) → made_of check_plan (taken command.Check words) ≡ behind_options check_plan words
check_is = narrowed command.Check check_plan lacks
  where
    either : (b t : Bool) → (not b && (not t && true)) ≡ false → (t || b) ≡ true
    either true true h = refl
    either true false h = refl
    either false true h = refl
    either false false h = absurd (true≢false h)

    lacks : (s : Settings) (rest : List Word) → allows (keys_of command.Check) s ≡ false → check_plan s rest ≡ None
    lacks s [] h = refl
    lacks s (word ∷ words) h = rw (either s.bundles s.trace h) refl

pub module_is : (words : List Word) → made_of module_plan (taken command.Module words) ≡ behind_options module_plan words
module_is = narrowed command.Module module_plan lacks
  where
    stood : (r : Bool) → (not r && true) ≡ false → r ≡ true
    stood true h = refl
    stood false h = absurd (true≢false h)

    lacks : (s : Settings) (rest : List Word) → allows (keys_of command.Module) s ≡ false → module_plan s rest ≡ None
    lacks s rest h = rw (stood (is_some s.rounds) h) refl

pub report_is : (words : List Word) → made_of report_plan (taken command.Report words) ≡ behind_options report_plan words
report_is = narrowed command.Report report_plan lacks
  where
    more : (f r b t : Bool) → (not f && (not r && (not b && (not t && true)))) ≡ false → (not f && (not r && (not t && not b))) ≡ false
    more true r b t h = refl
    more false true b t h = refl
    more false false b true h = refl
    more false false true false h = refl
    more false false false false h = absurd (true≢false h)

    lacks : (s : Settings) (rest : List Word) → allows (keys_of command.Report) s ≡ false → report_plan s rest ≡ None
    lacks s [] h = refl
    lacks s (dir ∷ []) h = rw (more (is_some s.fuel) (is_some s.rounds) s.bundles s.trace h) refl
    lacks s (dir ∷ word ∷ words) h = refl

-- ---- commands without options

-- what is made of the words that were taken
abbrev pub made_of_words : {X : Type 0} → (List Word → Option X) → Option Front → Option X
made_of_words made found = option_and_then (λ it. made it.rest) found

bare : {X : Type 0} (made : List Word → Option X) → made [] ≡ None → ((word : Word) (words : List Word) → is_dashed word ≡ true → made (word ∷ words) ≡ None) → (words : List Word)
    → made_of_words made (only [] (options no_settings words)) ≡ made words
bare made empty lacks [] = refl
bare made empty lacks (word ∷ words) = elim (cases_Bool (is_dashed word)) [
  | inl d ↦ ap (made_of_words made) (dashed_taken no_settings word words d) ∙ sym (lacks word words d)
  | inr p ↦ ap (made_of_words made) (plain_taken word words p)
]

-- a `-` is no digit
no_digits : (word : Word) (most : ℕ) → is_dashed word ≡ true → digits_of most word ≡ None
no_digits [] most d = absurd (true≢false (sym d))
no_digits (b ∷ bs) most d =
    let none : is_ascii_digit b ≡ false = ap is_ascii_digit (eqb-true b 45 d) in
    rw none refl

pub gen_is : (words : List Word) → made_of_words gen_of (taken command.Gen words) ≡ gen_of words
gen_is = bare gen_of refl lacks
  where
    lacks : (word : Word) (words : List Word) → is_dashed word ≡ true → gen_of (word ∷ words) ≡ None
    lacks word [] d = refl
    lacks word (m ∷ []) d = refl
    lacks word (m ∷ s ∷ []) d = ap (λ o. gen_with o (number_of 5 1 10000 m) (number_of 5 1 16 s)) (no_digits word 18 d)
    lacks word (m ∷ s ∷ w ∷ words) d = refl

only_lacks : (word : Word) (words : List Word) → is_dashed word ≡ true → only_word (word ∷ words) ≡ None
only_lacks word [] d = rw d refl
only_lacks word (w ∷ words) d = refl

pub convert_is : (words : List Word) → made_of_words only_word (taken command.Convert words) ≡ only_word words
convert_is = bare only_word refl only_lacks

pub bundle_is : (words : List Word) → made_of_words only_word (taken command.Bundle words) ≡ only_word words
bundle_is = bare only_word refl only_lacks

-- ---- words that are refused by themselves

pub refused_plan : (words : List Word) → list_any is_refused words ≡ true → plan_of words ≡ None
refused_plan [] h = refl
refused_plan (word ∷ words) h = rw h refl

pub clear_plan : (word : Word) (words : List Word) → list_any is_refused (word ∷ words) ≡ false → plan_of (word ∷ words) ≡ plan_by (command_of word) words
clear_plan word words h = rw h refl

pub clear_rest : (word : Word) (words : List Word) → list_any is_refused (word ∷ words) ≡ false → list_any is_refused words ≡ false
clear_rest word words h = (or_parts (is_refused word) (list_any is_refused words) h).1
