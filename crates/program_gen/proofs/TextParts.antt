-- The texts of scripts that stand in a tree of which no call fails.
use Rattle.std.proofs.Common.{◌≡◌, ◌∙◌, refl, sym, ap, subst, ℕ, ◌≤◌, length, List, [], ◌∷◌, ◌++◌, cond, Option, Some, None, le-leb, arith}
use Rattle.std.specs.List.{AllZip}
use Rattle.base_types.specs.declared.limits.TheConstants.{LONGEST_SOURCE}
use Rattle.tree_files.specs.Files.{Files, node_at}
use Rattle.tree_files.specs.declared.tree.Node.TheVariants.{File}
use Rattle.import_words.specs.Words.{Word}
use Rattle.program_run.specs.Scripts.{by_node, IsScript, no_path, at_path, EachOpens, refusal_of, IsRefused, Stops}
use Rattle.program_run.specs.declared.open.Opened.{Opened}
use Rattle.program_run.specs.declared.open.Opened.TheVariants as opened
use Rattle.program_run.specs.declared.open.Unopened.{Unopened}
use Rattle.program_run.specs.declared.open.Unopened.TheVariants as unopened
use Rattle.program_gen.specs.Scripts.{Holds}
use Rattle.program_gen.specs.Wanting.{IsWanting}

short_enough : (text : List ℕ) → length text ≤ LONGEST_SOURCE → by_node (Some (File text)) ≡ opened.Text text
short_enough text h = ap (λ b. cond b (opened.Text text) opened.TooLong) (le-leb (length text) LONGEST_SOURCE h)

-- what a word names that holds a text
named : (files : Files) (word text : Word) (it : Opened) → Holds files word text → IsScript files word it → it ≡ opened.Text text
named files word text it holds (no_path none) = absurd (none (word ∷ []) holds.spells)
named files word text it holds (at_path path spells) =
    ap (λ p. by_node (node_at files p)) (holds.only path spells) ∙ ap by_node holds.stands ∙ short_enough text holds.fits

text_in : Opened → List ℕ
text_in (opened.Text text) = text
text_in opened.Missing = []
text_in opened.TooLong = []

one_text : (a b : List ℕ) → opened.Text a ≡ opened.Text b → a ≡ b
unfolding text_in
one_text a b e = ap text_in e

pub given_texts : (files : Files) (words texts given : List Word) → AllZip (Holds files) words texts → EachOpens (Some files) words given → given ≡ texts
given_texts files [] [] [] hold each = refl
given_texts files [] [] (g ∷ given) hold each = absurd each
given_texts files [] (t ∷ texts) given hold each = absurd hold
given_texts files (w ∷ words) [] given hold each = absurd hold
given_texts files (w ∷ words) (t ∷ texts) [] hold each = absurd each
given_texts files (w ∷ words) (t ∷ texts) (g ∷ given) hold each =
    ap (λ it. it ∷ given) (one_text g t (named files w t (opened.Text g) hold.0 each.0)) ∙ ap (λ more. t ∷ more) (given_texts files words texts given hold.1 each.1)

-- each of the words holds some text
held : (files : Files) (before behind : List Word) (word : Word) (texts : List Word) → AllZip (Holds files) (before ++ word ∷ behind) texts → (text : Word) × Holds files word text
held files [] behind word [] hold = absurd hold
held files [] behind word (t ∷ texts) hold = (t, hold.0)
held files (w ∷ before) behind word [] hold = absurd hold
held files (w ∷ before) behind word (t ∷ texts) hold = held files before behind word texts hold.1

no_refusal : (word text : Word) (it : Opened) (line : List ℕ) → it ≡ opened.Text text → refusal_of word it ≡ Some line → ⊥
no_refusal word text it line e is = let none : ◌≡◌ {A = Option (List ℕ)} None (Some line) = sym (ap (refusal_of word) e) ∙ is in cc

not_refused : (files : Files) (words texts : List Word) (line : List ℕ) → AllZip (Holds files) words texts → IsRefused (Some files) words line → ⊥
not_refused files words texts line hold it =
    let some = held files it.reached.before it.reached.behind it.script texts (subst (λ w. AllZip (Holds files) w texts) it.reached.whole hold) in
    no_refusal it.script some.0 it.it line (named files it.script some.0 it.it some.1 it.opens) it.is

-- so nothing but memory is wanting
pub only_wanting : (files : Files) (words texts : List Word) (stop : Unopened) → AllZip (Holds files) words texts → Stops (Some files) words 0 0 stop → IsWanting stop
only_wanting files words texts (unopened.Refused line) hold stops = absurd (not_refused files words texts line.items hold stops)
only_wanting files words texts unopened.Unread hold stops = absurd (omega (arith, stops.rose))
only_wanting files words texts unopened.NoMemory hold stops = tt
