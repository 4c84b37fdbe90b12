-- How a rounds file is read on, line by line.
use Rattle.std.proofs.Common.{◌≡◌, ◌∙◌, refl, sym, ap, subst, ℕ, ◌+◌, List, [], ◌∷◌, ◌++◌, true, Some}
use Rattle.words_rounds.specs.declared.draft.Draft.{Draft}
use Rattle.words_rounds.specs.declared.draft.Stage.TheVariants as stages
use Rattle.words_rounds.specs.declared.rounds.Round.{Round}
use Rattle.words_rounds.specs.Reading.{next, goes, read_on, pieces}
use Rattle.tree_files.specs.declared.edit.Edit.{Edit}
use Rattle.words_rounds.specs.Grammar.{in_line}
use Rattle.words_rounds.proofs.Cuts.{pieces_line, pieces_some}

-- one line and its end are read
pub step : (at : ℕ) (d : Draft) (line rest : List ℕ) → in_line line ≡ true → read_on at d (pieces (line ++ 10 ∷ rest)) ≡ goes (next line d) at (λ e. read_on (at + 1) e (pieces rest))
step at d line rest clean =
    let some = pieces_some rest in
    ap (read_on at d) (pieces_line line rest clean) ∙ ap (λ ps. read_on at d (line ∷ ps)) some.2 ∙ ap (λ ps. goes (next line d) at (λ e. read_on (at + 1) e ps)) (sym some.2)

-- reading from one draft at a text is reading from another at another text, whatever the line
abbrev pub Goes : Draft → List ℕ → Draft → List ℕ → Type 0
Goes d text e rest = (at : ℕ) → (then_ : ℕ) × (read_on at d (pieces text) ≡ read_on then_ e (pieces rest))

pub goes_refl : (d : Draft) (text : List ℕ) → Goes d text d text
goes_refl d text at = (at, refl)

pub goes_then : (a b c : Draft) (x y z : List ℕ) → Goes a x b y → Goes b y c z → Goes a x c z
goes_then a b c x y z f g at = let one = f at in let two = g one.0 in (two.0, one.1 ∙ two.1)

pub goes_line : (d e : Draft) (line rest : List ℕ) → in_line line ≡ true → next line d ≡ Some e → Goes d (line ++ 10 ∷ rest) e rest
goes_line d e line rest clean is at = (at + 1, step at d line rest clean ∙ ap (λ o. goes o at (λ e. read_on (at + 1) e (pieces rest))) is)

pub goes_text : (d e : Draft) (text same rest : List ℕ) → text ≡ same → Goes d same e rest → Goes d text e rest
goes_text d e text same rest is g = subst (λ t. Goes d t e rest) (sym is) g

-- the drafts in which a round has no script yet, and in which it has one
abbrev pub edits_draft : List Round → List Edit → ℕ → Draft
edits_draft done edits count = record { stage = stages.Edits; done = done; edits = edits; scripts = []; count = count }

abbrev pub scripts_draft : List Round → List Edit → List (List ℕ) → ℕ → Draft
scripts_draft done edits scripts count = record { stage = stages.Scripts; done = done; edits = edits; scripts = scripts; count = count }
