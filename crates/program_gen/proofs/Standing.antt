-- Each script of a made workload stands in its tree.
use Rattle.std.proofs.Common.{◌≡◌, ◌≢◌, ◌∙◌, refl, sym, ap, ℕ, zero, suc, ◌^◌, ◌<◌, ◌≤◌, [], ◌∷◌, Bool, true, false, cond, Option, Some, arith}
use Rattle.std.proofs.lemmas.Bool.{false≢true}
use Rattle.std.proofs.lemmas.List.Elements.{AllZip-push}
use Rattle.std.specs.Cmp.{eq_by_cmp_equiv}
use Rattle.std.specs.FinMap.{get-insert, IsAntisymmetric, slice_cmp-IsAntisymmetric, nat_cmp-IsAntisymmetric}
use Rattle.std.specs.List.{AllZip}
use Rattle.std.specs.Ordering.{eq_by_cmp, is_eq}
use Rattle.std.specs.declared.cmp.Ordering.{Ordering}
use Rattle.std.specs.declared.cmp.Ordering.TheVariants.{Less, Equal, Greater}
use Rattle.base_types.specs.Path.{Path, path_cmp}
use Rattle.tree_files.specs.Files.{Files, node_at}
use Rattle.tree_files.specs.Edits.{prefixes, with_dirs}
use Rattle.tree_files.specs.declared.tree.Node.{Node}
use Rattle.tree_files.specs.declared.tree.Node.TheVariants.{File}
use Rattle.tree_files.proofs.EditLemmas.{same_after_dirs}
use Rattle.tree_files.proofs.MemFilesLemmas.{path_total}
use Rattle.program_gen.specs.Generator.{Word, before_module, before_script, script_name, script_text, file_of, with_file, with_modules, with_scripts, made_files, script_files}
use Rattle.program_gen.proofs.Names.{script_part}
use Rattle.program_gen.specs.Scripts.{text_at, script_texts, Holds, HoldsScripts}
use Rattle.program_gen.proofs.Lengths.{script_length}
use Rattle.program_gen.proofs.Naming.{part_spells, part_only, script_of_file}

path_exact : IsAntisymmetric path_cmp
path_exact = slice_cmp-IsAntisymmetric (slice_cmp-IsAntisymmetric nat_cmp-IsAntisymmetric)

equal : (o : Ordering) → is_eq o ≡ true → o ≡ Equal
equal Less e = cc
equal Equal e = refl
equal Greater e = cc

-- whether two files in the root are one
abbrev is_same : Word → Word → Bool
is_same a b = eq_by_cmp path_cmp (a ∷ []) (b ∷ [])

first_of : Path → Word
first_of [] = []
first_of (part ∷ path) = part

same : (a b : Word) → is_same a b ≡ true → a ≡ b
unfolding first_of
same a b e = ap first_of (path_exact (a ∷ []) (b ∷ []) (equal (path_cmp (a ∷ []) (b ∷ [])) e))

-- what stands at a file after one was put
at_put : (files : Files) (name text word : Word) → node_at (with_file files name text) (word ∷ []) ≡ cond (is_same word (file_of name)) (Some (File text)) (node_at files (word ∷ []))
at_put files name text word =
    get-insert path_total (with_dirs files (prefixes (file_of name ∷ []))) (file_of name ∷ []) (File text) (word ∷ [])
    ∙ ap (cond (is_same word (file_of name)) (Some (File text))) (same_after_dirs files (word ∷ []))

pick : (b : Bool) (text want : Word) (o : Option Node) → (b ≡ true → text ≡ want) → (b ≡ false → o ≡ Some (File want)) → cond b (Some (File text)) o ≡ Some (File want)
pick true text want o put other = ap (λ t. Some (File t)) (put refl)
pick false text want o put other = other refl

below_or_same : (s n : ℕ) → s < suc n → s ≢ n → s < n
below_or_same s n h apart = omega arith

-- a script stands, whatever scripts come behind it
standing : (files : Files) (modules n s x : ℕ) → n ≤ 2 ^ 32 → s < n → node_at (with_scripts files modules n x) (file_of (script_name s) ∷ []) ≡ Some (File (script_text modules (before_script s x)))
standing files modules zero s x few h = absurd (omega arith)
standing files modules (suc n) s x few h =
    let word : Word = file_of (script_name s) in
    let test : Bool = is_same word (file_of (script_name n)) in
    at_put (with_scripts files modules n x) (script_name n) (script_text modules (before_script n x)) word
    ∙ pick test (script_text modules (before_script n x)) (script_text modules (before_script s x)) (node_at (with_scripts files modules n x) (word ∷ [])) (
    λ e. ap (λ k. script_text modules (before_script k x)) (sym (script_of_file s n (omega arith) (omega arith) (same word (file_of (script_name n)) e)))) (
    λ e. standing files modules n s x (omega arith) (below_or_same s n h (
    λ q. false≢true (sym e ∙ ap (λ k. is_same word (file_of (script_name k))) (sym q) ∙ (eq_by_cmp_equiv path_total).refl (word ∷ [])))))

holds : (seed modules scripts s : ℕ) → 1 ≤ modules → modules ≤ 2 ^ 32 → scripts ≤ 2 ^ 32 → s < scripts → Holds (made_files seed modules scripts) (file_of (script_name s)) (text_at seed modules s)
holds seed modules scripts s some few short h =
    let part = script_part s (omega arith) in
    record {
      spells = part_spells (file_of (script_name s)) part;
      only = part_only (file_of (script_name s)) part;
      stands = standing (with_modules modules seed) modules scripts s (before_module modules seed) short h;
      fits = script_length modules (before_script s (before_module modules seed)) some few;
    }

first_hold : (seed modules scripts n : ℕ) → 1 ≤ modules → modules ≤ 2 ^ 32 → scripts ≤ 2 ^ 32 → n ≤ scripts → AllZip (Holds (made_files seed modules scripts)) (script_files n) (script_texts seed modules n)
first_hold seed modules scripts zero some few short h = tt
first_hold seed modules scripts (suc n) some few short h =
    AllZip-push (Holds (made_files seed modules scripts)) (script_files n) (script_texts seed modules n) (file_of (script_name n)) (text_at seed modules n) (
    first_hold seed modules scripts n some few short (omega arith)) (holds seed modules scripts n some few short (omega arith))

pub scripts_stand : (seed modules scripts : ℕ) → 1 ≤ modules → modules ≤ 2 ^ 32 → scripts ≤ 2 ^ 32 → HoldsScripts seed modules scripts
scripts_stand seed modules scripts some few short = first_hold seed modules scripts scripts some few short (omega arith)
