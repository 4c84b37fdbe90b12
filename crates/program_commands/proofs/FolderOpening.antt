-- From what stands at a path to what a word names.
use Rattle.std.proofs.Common.{◌≡◌, refl, sym, subst, ℕ, List, Option, Some, None, Result, Ok, Err, IfOk, IfSome}
use Rattle.std.specs.Option.{ForSome}
use Rattle.base_types.specs.Path.{Path, Spells}
use Rattle.tree_files.specs.Files.{Files, node_at, stamp_of}
use Rattle.tree_files.specs.declared.tree.Node.{Node}
use Rattle.tree_files.specs.declared.tree.Node.TheVariants.{File, Dir}
use Rattle.tree_files.specs.declared.tree.Stamp.TheVariants as stamp
use Rattle.tree_files.specs.declared.tree.TreeFault.{TreeFault}
use Rattle.import_words.specs.Words.{Word}
use Rattle.program_run.specs.Scripts.{IsLineOf}
use Rattle.program_run.specs.declared.open.Unopened.{Unopened}
use Rattle.program_run.specs.declared.open.Unopened.TheVariants as unopened
use Rattle.program_commands.specs.FolderOpening.{folder_at, IsFolder, IsSpelled, Names, unopened_line, NoFolder}

pub folder_there : (path : Path) (o : Option Node) (time : ℕ) → stamp.Dir time ≡ stamp_of o → Some path ≡ folder_at path o
folder_there path None time is = cc
folder_there path (Some (File bytes)) time is = cc
folder_there path (Some (Dir t)) time is = refl

pub file_there : (path : Path) (o : Option Node) (size : ℕ) → stamp.File size ≡ stamp_of o → None ≡ folder_at path o
file_there path None size is = cc
file_there path (Some (File bytes)) size is = refl
file_there path (Some (Dir t)) size is = cc

pub absent_there : (path : Path) (o : Option Node) → stamp.Absent ≡ stamp_of o → None ≡ folder_at path o
absent_there path None is = refl
absent_there path (Some (File bytes)) is = cc
absent_there path (Some (Dir t)) is = cc

-- ---- what a word names

spelled_by : (word : Word) (path : Path) (it : Option Path) → Spells word path → IfSome it (λ at. at ≡ path) → IsSpelled word it
spelled_by word path (Some at) spells same = subst (λ (p : Path). Spells word p) (sym same) spells
spelled_by word path None spells same = tt

names_it : (files : Option Files) (word : Word) (path : Path) (it : Option Path) → Spells word path → ForSome files (λ f. it ≡ folder_at path (node_at f path)) → IfSome it (λ at. at ≡ path) → Names files word it
names_it None word path it spells told same = spelled_by word path it spells same
names_it (Some f) word path it spells told same = subst (λ (o : Option Path). IsFolder f word o) (sym (told f refl)) (IsFolder.at_path path spells)

-- a word that spells a path names the folder there
pub names_by : (files : Option Files) (word : Word) (path : Path) (r : Result (Option Path) TreeFault) → Spells word path → ForSome files (λ f. IfOk r (λ it. it ≡ folder_at path (node_at f path))) → IfOk r (λ it. IfSome it (λ at. at ≡ path)) → IfOk r (Names files word)
names_by files word path (Ok it) spells told same = names_it files word path it spells told same
names_by files word path (Err e) spells told same = tt

-- a word that spells none names none
pub names_none : (files : Option Files) (word : Word) → ((path : Path) → Spells word path → ⊥) → Names files word None
names_none None word never = tt
names_none (Some f) word never = IsFolder.no_path never

-- the line about it
pub refused_at : (files : Option Files) (word : Word) (old new : ℕ) (why : Unopened) → Names files word None → IsLineOf (Some (unopened_line word)) why → NoFolder files word old new why
refused_at files word old new (unopened.Refused line) names told = (names, cc)
refused_at files word old new unopened.Unread names told = absurd told
refused_at files word old new unopened.NoMemory names told = tt
