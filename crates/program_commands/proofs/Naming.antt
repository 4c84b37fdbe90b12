-- The programs of names, each as the thread of its place.
use Rattle.std.proofs.Common.{◌≡◌, ◌<◌, ℕ, suc, ◌+◌, Bool, true, false, List, [], ◌∷◌, ◌++◌, length, get_or, ◌∙◌, sym, ap, refl, arith, map}
use Rattle.std.specs.List.{list_all}
use Rattle.std.proofs.lemmas.List.Folds.{list_all_at}
use Rattle.meaning_runs.specs.Runs.{Run}
use Rattle.spec_core.specs.Identifiers.{is_dotted}
use Rattle.import_words.specs.Words.{Word}
use Rattle.program_run.specs.Together.{Mean, MeanFrom}
use Rattle.program_commands.specs.Modules.{NamesMean, AreNames, name_at, of_names, no_texts}

-- each of them is a name
pub name_is : (names : List Word) (i : ℕ) (d : Word) → AreNames names → i < length names → is_dotted (get_or names i d) ≡ true
name_is names i d are low = at (is_dotted (get_or names i d)) refl
  where
    at : (b : Bool) → is_dotted (get_or names i d) ≡ b → b ≡ true
    at true is = refl
    at false is = absurd (cc (are, list_all_at is_dotted names i d low is))

-- the names from a place on are those of the threads from its number on
from : {P : Type 0} (run : P → ℕ → Run) (means : NamesMean) (all names : List Word) (t : ℕ) (programs : List P) → ((i j : ℕ) → j ≡ t + i → name_at all j ≡ name_at names i)
    → Mean run means names programs → MeanFrom run (of_names means all) t (no_texts names) programs
from run means all [] t [] there mean = tt
from run means all [] t (p ∷ programs) there mean = absurd mean
from run means all (name ∷ names) t [] there mean = absurd mean
from run means all (name ∷ names) t (p ∷ programs) there mean = (
  mean.0 t ∙ ap (means t) (sym (there 0 t (omega arith))),
  from run means all names (suc t) programs (λ i j is. there (suc i) j (omega (arith, is))) mean.1,
)

pub from_first : {P : Type 0} (run : P → ℕ → Run) (means : NamesMean) (names : List Word) (programs : List P) → Mean run means names programs → MeanFrom run (of_names means names) 0 (no_texts names) programs
from_first run means names programs mean = from run means names names 0 programs (λ i j is. ap (name_at names) (is ∙ omega arith)) mean

-- as many texts as names
pub many_texts : (names : List Word) → length (no_texts names) ≡ length names
many_texts [] = refl
many_texts (name ∷ names) = ap suc (many_texts names)

-- one text more for one name more
pub no_texts_more : (names : List Word) (name : Word) → no_texts (names ++ name ∷ []) ≡ no_texts names ++ [] ∷ []
no_texts_more [] name = refl
no_texts_more (n ∷ names) name = ap (λ (ts : List (List ℕ)). [] ∷ ts) (no_texts_more names name)
