-- The options of words, an option at a time.
use Rattle.std.proofs.Common.{◌≡◌, refl, List, [], ◌∷◌, Some, None, true}
use Rattle.import_words.specs.Setting.{Setting}
use Rattle.import_words.specs.declared.found.Settings.{Settings}
use Rattle.import_words.specs.OptionWords.{Word, is_dashed, joined, apart, added, options}

pub joined_goes_on : (s more : Settings) (word : Word) (rest : List Word) (o : Setting) → is_dashed word ≡ true → joined word ≡ Some o → added o s ≡ Some more → options s (word ∷ rest) ≡ options more rest
joined_goes_on s more word [] o dashed is adds = rw (dashed, is, adds) refl
joined_goes_on s more word (next ∷ words) o dashed is adds = rw (dashed, is, adds) refl

pub joined_again : (s : Settings) (word : Word) (rest : List Word) (o : Setting) → is_dashed word ≡ true → joined word ≡ Some o → added o s ≡ None → options s (word ∷ rest) ≡ None
joined_again s word [] o dashed is adds = rw (dashed, is, adds) refl
joined_again s word (next ∷ words) o dashed is adds = rw (dashed, is, adds) refl

pub apart_goes_on : (s more : Settings) (word next : Word) (rest : List Word) (o : Setting) → is_dashed word ≡ true → joined word ≡ None → apart word next ≡ Some o → added o s ≡ Some more → options s (word ∷ next ∷ rest) ≡ options more rest
apart_goes_on s more word next rest o dashed none is adds = rw (dashed, none, is, adds) refl

pub apart_again : (s : Settings) (word next : Word) (rest : List Word) (o : Setting) → is_dashed word ≡ true → joined word ≡ None → apart word next ≡ Some o → added o s ≡ None → options s (word ∷ next ∷ rest) ≡ None
apart_again s word next rest o dashed none is adds = rw (dashed, none, is, adds) refl
