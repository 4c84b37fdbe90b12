-- What is read of what `clap` found.
use Rattle.std.specs.Prelude.{◌≡◌, Bool, true, false, List, [], codes, Option, Some, None, option_map, unwrap_or}
use Rattle.clap.specs.Matches.{first_value, one_text, matched_of, raw_values}
use Rattle.clap.specs.declared.parser.matches.Found.{Found}
use Rattle.import_words.specs.OptionWords.{Word}
use Rattle.import_words.specs.declared.found.Front.{Front}

-- what a flag's text is read as
abbrev pub IsFlag : Option Word → Bool → Type 0
IsFlag text on =
    (text ≡ None → on ≡ false) × (text ≡ Some (codes "true") → on ≡ true) × (text ≡ Some (codes "false") → on ≡ false)

-- the words behind the options are the values that `clap` found for `words`; where it found none there are no words
abbrev pub words_in : Found → List Word
words_in f = unwrap_or (option_map raw_values (matched_of f (codes "words"))) []

-- what is read is what `clap` found: an option's first value, what a flag's text says, and the words behind
pub record Finds (f : Found) (it : Front) : Type 0 where
  pub path : it.settings.path ≡ first_value f (codes "path")
  pub fuel : it.settings.fuel ≡ first_value f (codes "fuel")
  pub rounds : it.settings.rounds ≡ first_value f (codes "rounds")
  pub bundles : IsFlag (one_text f (codes "bundles")) it.settings.bundles
  pub trace : IsFlag (one_text f (codes "trace")) it.settings.trace
  pub rest : it.rest ≡ words_in f
