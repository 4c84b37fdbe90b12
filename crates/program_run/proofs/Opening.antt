-- Scripts that are opened one after another.
use Rattle.std.proofs.Common.{◌≡◌, ◌≤◌, ℕ, List, [], ◌∷◌, ◌++◌, Option, Some, None, Result, Ok, Err, IfOk, IfSome, sym, subst, ◌∙◌, arith}
use Rattle.tree_files.specs.Files.{Files, node_at}
use Rattle.tree_files.specs.declared.tree.TreeFault.{TreeFault}
use Rattle.base_types.specs.Path.{Path, Spells}
use Rattle.import_words.specs.Words.{Word}
use Rattle.program_run.specs.Scripts.{IsScript, Opens, EachOpens, by_node, refusal_of, IsLineOf, Stops, StopsAt}
use Rattle.program_run.specs.declared.open.Opened.{Opened}
use Rattle.program_run.specs.declared.open.Opened.TheVariants as opened
use Rattle.program_run.specs.declared.open.Unopened.{Unopened}
use Rattle.program_run.specs.declared.open.Unopened.TheVariants as unopened

-- what stands at the path that the word spells
pub script_at : (tree : Option Files) (word : List ℕ) (path : Path) (r : Result Opened TreeFault) → Spells word path → IfSome tree (λ f. IfOk r (λ it. it ≡ by_node (node_at f path))) → IfSome tree (λ f. IfOk r (IsScript f word))
script_at None word path r s h = tt
script_at (Some f) word path (Ok it) s h = subst (λ (x : Opened). IsScript f word x) (sym h) (IsScript.at_path path s)
script_at (Some f) word path (Err e) s h = tt

pub script_not : (tree : Option Files) (word : List ℕ) → ((path : Path) → Spells word path → ⊥) → IfSome tree (λ f. IsScript f word opened.Missing)
script_not None word never = tt
script_not (Some f) word never = IsScript.no_path never

pub opens_by : (tree : Option Files) (word word' : List ℕ) (it it' : Opened) → word ≡ word' → it ≡ it' → IfSome tree (λ f. IsScript f word it) → Opens tree word' it'
opens_by None word word' it it' e o h = tt
opens_by (Some f) word word' it it' e o h = subst (λ (x : Opened). IsScript f word' x) o (subst (λ (w : List ℕ). IsScript f w it) e h)

-- the line about a script without one
pub refused_at : (tree : Option Files) (word : Word) (old new : ℕ) (it : Opened) (text : List ℕ) → Opens tree word it → refusal_of word it ≡ Some text → (why : Unopened) → IsLineOf (Some text) why → StopsAt tree word old new why
refused_at tree word old new it text opens is (unopened.Refused line) told = (it, opens, is ∙ told)
refused_at tree word old new it text opens is unopened.Unread told = absurd told
refused_at tree word old new it text opens is unopened.NoMemory told = tt

-- one more has a text
pub each_more : (tree : Option Files) (words : List Word) (texts : List (List ℕ)) (word : Word) (text : List ℕ) → EachOpens tree words texts → Opens tree word (opened.Text text) → EachOpens tree (words ++ word ∷ []) (texts ++ text ∷ [])
each_more tree [] [] word text each opens = (opens, tt)
each_more tree [] (x ∷ texts) word text each opens = absurd each
each_more tree (w ∷ words) [] word text each opens = absurd each
each_more tree (w ∷ words) (x ∷ texts) word text each opens = (each.0, each_more tree words texts word text each.1 opens)

-- one has none: this is why, whatever stands behind it
pub stops_at : (tree : Option Files) (old mid new : ℕ) (words behind : List Word) (word : Word) (texts : List (List ℕ)) (scripts : List Word) (why : Unopened) → old ≤ mid → scripts ≡ words ++ word ∷ behind → EachOpens tree words texts
    → StopsAt tree word mid new why → Stops tree scripts old new why
stops_at tree old mid new words behind word texts scripts (unopened.Refused line) later whole each stop =
    record { script = word; reached = record { before = words; behind = behind; whole = whole; texts = texts; opened = each }; it = stop.0; opens = stop.1; is = stop.2 }
stops_at tree old mid new words behind word texts scripts unopened.Unread later whole each stop =
    record { script = word; reached = record { before = words; behind = behind; whole = whole; texts = texts; opened = each }; rose = omega (arith, later, stop) }
stops_at tree old mid new words behind word texts scripts unopened.NoMemory later whole each stop = tt
