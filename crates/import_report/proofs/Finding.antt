-- What is found by looks alone is what a search finds that keeps no listings.
use Rattle.std.proofs.Common.{◌≡◌, ◌∙◌, refl, sym, ap, subst, ℕ, ◌+◌, ◌<◌, ◌≤◌, length, get_or, drop, Result, IfOk, Bool, true, false, ◌&&◌, is_some, List, [], ◌∷◌, ◌++◌, append_assoc, append-nil, if◌then◌else◌, Option, Some, None}
use Rattle.std.specs.List.{filter_map, cons_option}
use Rattle.std.proofs.lemmas.List.{drop_more}
use Rattle.std.proofs.Math.ListN.{drop_of_length-le}
use Rattle.py_value.specs.declared.value.Value.{Value, out-Value, out-roll-Value}
use Rattle.py_value.specs.declared.value.Value.TheOpen.{Value-F}
use Rattle.py_value.specs.declared.value.Value.TheVariants as values
use Rattle.py_value.specs.declared.value.Value.TheVariants.{rolls-Text}
use Rattle.tree_files.specs.declared.tree.TreeFault.{TreeFault}
use Rattle.base_types.specs.Path.{Path, joined}
use Rattle.spec_core.specs.Names.{tail_of}
use Rattle.spec_core.specs.declared.spec.SpecKind.{SpecKind}
use Rattle.tree_files.specs.Files.{Files, node_at, is_dir, is_file, stamp_of}
use Rattle.tree_files.specs.declared.tree.Node.{Node}
use Rattle.tree_files.specs.declared.tree.Node.TheVariants.{File, Dir}
use Rattle.tree_files.specs.declared.tree.Stamp.TheVariants as stamp
use Rattle.path_finder.specs.Entries.{path_of, path_by, text_in, entry_path, timed, directory_at, directories}
use Rattle.path_finder.specs.Find as finds
use Rattle.path_finder.specs.Find.{folder, first_file, module_file, package_in, module_in, listed_in_tree, offer, offers, answer, answer_of, find}
use Rattle.path_finder.specs.declared.words.Found.{Found}
use Rattle.path_finder.specs.declared.words.Found.TheVariants as founds
use Rattle.import_report.specs.Meanings.{entries}
use Rattle.import_report.specs.Seeking.{folder_offer, offer_of_folder, either, module_at, offer_in, offer_at, entry_offer, by_offer, by_kind, seek}
use Rattle.import_report.specs.declared.offers.Offer.{Offer}
use Rattle.import_report.specs.declared.offers.Offer.TheVariants as here

-- ---- stamps

pub dir_there : (o : Option Node) (time : ℕ) → stamp.Dir time ≡ stamp_of o → true ≡ is_dir o
dir_there None time is = cc
dir_there (Some (File bytes)) time is = cc
dir_there (Some (Dir t)) time is = refl

pub file_no_dir : (o : Option Node) (size : ℕ) → stamp.File size ≡ stamp_of o → false ≡ is_dir o
file_no_dir None size is = cc
file_no_dir (Some (File bytes)) size is = refl
file_no_dir (Some (Dir t)) size is = cc

pub absent_no_dir : (o : Option Node) → stamp.Absent ≡ stamp_of o → false ≡ is_dir o
absent_no_dir None is = refl
absent_no_dir (Some (File bytes)) is = cc
absent_no_dir (Some (Dir t)) is = cc

pub file_there : (o : Option Node) (size : ℕ) → stamp.File size ≡ stamp_of o → true ≡ is_file o
file_there None size is = cc
file_there (Some (File bytes)) size is = refl
file_there (Some (Dir t)) size is = cc

pub dir_no_file : (o : Option Node) (time : ℕ) → stamp.Dir time ≡ stamp_of o → false ≡ is_file o
dir_no_file None time is = cc
dir_no_file (Some (File bytes)) time is = cc
dir_no_file (Some (Dir t)) time is = refl

pub absent_no_file : (o : Option Node) → stamp.Absent ≡ stamp_of o → false ≡ is_file o
absent_no_file None is = refl
absent_no_file (Some (File bytes)) is = cc
absent_no_file (Some (Dir t)) is = cc

-- ---- one entry

-- what an entry has as Find says it
abbrev as_offer : Option SpecKind → Option (List ℕ) → Offer
as_offer (Some kind) portion = here.Decides kind
as_offer None (Some portion) = here.Portion portion
as_offer None None = here.Nothing

-- a folder, a file of a package in it and a file of a module, by what stands there
same_offer : (a : Option Node) (b : Bool) (m : Option Node) (regular one : SpecKind) (portion : List ℕ)
    → either (if is_dir a then (if b then here.Decides regular else here.Portion portion) else here.Nothing) (if is_file m then Some one else None)
    ≡ as_offer (if (is_some a && is_dir a) && b then Some regular else (if is_some m && is_file m then Some one else None)) (if is_some a && is_dir a then Some portion else None)
same_offer None b None regular one portion = refl
same_offer None b (Some (File bytes)) regular one portion = refl
same_offer None b (Some (Dir time)) regular one portion = refl
same_offer (Some (File old)) b None regular one portion = refl
same_offer (Some (File old)) b (Some (File bytes)) regular one portion = refl
same_offer (Some (File old)) b (Some (Dir time)) regular one portion = refl
same_offer (Some (Dir time)) true m regular one portion = refl
same_offer (Some (Dir time)) false None regular one portion = refl
same_offer (Some (Dir time)) false (Some (File bytes)) regular one portion = refl
same_offer (Some (Dir time)) false (Some (Dir other)) regular one portion = refl

-- what a directory has
dir_offer : (f : Files) (part : List ℕ) (dir : Path) → offer_in f part dir ≡ as_offer (offer f dir part (listed_in_tree f dir part)).decides (offer f dir part (listed_in_tree f dir part)).portion
dir_offer f part dir = same_offer (node_at f (folder dir part)) (is_file (node_at f (first_file dir part))) (node_at f (module_file dir part)) (package_in dir part) (module_in dir part) (joined (folder dir part))

-- ---- all entries

-- what is found of offers, with the portions so far
abbrev found_of : List ℕ → List finds.Offer → List (List ℕ) → Option Found
found_of name all portions = answer name (filter_map (λ o. o.decides) all) (portions ++ filter_map (λ o. o.portion) all)

-- one offer before the others
on_offer : (name : List ℕ) (go : List (List ℕ) → Option Found) (kinds : List SpecKind) (more portions : List (List ℕ)) (decides : Option SpecKind) (portion : Option (List ℕ))
    → ((before : List (List ℕ)) → go before ≡ answer name kinds (before ++ more))
    → by_offer name go portions (as_offer decides portion) ≡ answer name (cons_option decides kinds) (portions ++ cons_option portion more)
on_offer name go kinds more portions (Some kind) portion h = refl
on_offer name go kinds more portions None (Some portion) h = h (portions ++ portion ∷ []) ∙ ap (answer name kinds) (append_assoc portions (portion ∷ []) more)
on_offer name go kinds more portions None None h = h portions

module _ (f : Files) (name : List ℕ) (go : List (List ℕ) → Option Found) (dirs : List (Path × ℕ)) (portions : List (List ℕ)) (h : (before : List (List ℕ)) → go before ≡ found_of name (offers f (tail_of name) dirs []) before) where
  on_node : (dir : Path) (node : Option Node) → by_offer name go portions (if is_dir node then offer_in f (tail_of name) dir else here.Nothing) ≡ found_of name (offers f (tail_of name) (cons_option (timed dir node) dirs) []) portions
  on_node dir None = h portions
  on_node dir (Some (File bytes)) = h portions
  on_node dir (Some (Dir time)) =
      let all = offers f (tail_of name) dirs [] in
      let o = offer f dir (tail_of name) (listed_in_tree f dir (tail_of name)) in
      ap (by_offer name go portions) (dir_offer f (tail_of name) dir)
      ∙ on_offer name go (filter_map (λ x. x.decides) all) (filter_map (λ x. x.portion) all) portions o.decides o.portion h

  on_path : (at : Option Path) → by_offer name go portions (offer_at f (tail_of name) at) ≡ found_of name (offers f (tail_of name) (cons_option (directory_at f at) dirs) []) portions
  on_path None = h portions
  on_path (Some dir) = on_node dir (node_at f dir)

-- the path of an entry that is a text
text_entry : (entry : List ℕ) → entry_path (values.Text entry) ≡ path_of entry
text_entry entry = ap (λ (layer : Value-F Value). path_by (text_in layer)) (ap out-Value (sym (rolls-Text entry)) ∙ out-roll-Value (Value-F.Text entry))

found_on : (f : Files) (name : List ℕ) (path portions : List (List ℕ)) → seek f name path portions ≡ found_of name (offers f (tail_of name) (directories f (entries path)) []) portions
found_on f name [] portions = ap (answer name []) (sym (append-nil portions))
found_on f name (entry ∷ path) portions =
    on_path f name (seek f name path) (directories f (entries path)) portions (found_on f name path) (path_of entry)
    ∙ ap (λ (at : Option Path). found_of name (offers f (tail_of name) (cons_option (directory_at f at) (directories f (entries path))) []) portions) (sym (text_entry entry))

pub seek_finds : (f : Files) (name : List ℕ) (path : List (List ℕ)) → seek f name path [] ≡ find f name (entries path) []
seek_finds f name path = found_on f name path []

-- ---- one step

-- the entry at a place is looked at, and then those behind it
pub seek_step : (f : Files) (name : List ℕ) (items : List (List ℕ)) (i : ℕ) (entry part : List ℕ) (offer : Offer) (portions : List (List ℕ)) → i < length items → entry ≡ get_or items i entry → part ≡ tail_of name → offer ≡ entry_offer f part entry
    → seek f name (drop i items) portions ≡ by_offer name (seek f name (drop (i + 1) items)) portions offer
seek_step f name items i entry part offer portions low is tail told =
    ap (λ (l : List (List ℕ)). seek f name l portions) (drop_more items i entry low ∙ ap (λ (e : List ℕ). e ∷ drop (i + 1) items) (sym is))
    ∙ ap (λ (o : Offer). by_offer name (seek f name (drop (i + 1) items)) portions o) (ap (λ (p : List ℕ). entry_offer f p entry) (sym tail) ∙ sym told)

-- an entry decided: that is found
pub seek_decided : (f : Files) (name name' : List ℕ) (path : List (List ℕ)) (decided : Option SpecKind) (kind : SpecKind) (more whole : Option Found) → name' ≡ name → decided ≡ Some kind → by_kind name decided more ≡ whole → whole ≡ seek f name path []
    → Some (founds.Spec (record { name = name'; kind = kind })) ≡ find f name (entries path) []
seek_decided f name name' path decided kind more whole same is told ends =
    ap (λ (n : List ℕ). Some (founds.Spec (record { name = n; kind = kind }))) same
    ∙ ap (λ (k : Option SpecKind). by_kind name k more) (sym is) ∙ told ∙ ends ∙ seek_finds f name path

-- no entry decided
pub seek_over : (f : Files) (name : List ℕ) (path items : List (List ℕ)) (i : ℕ) (portions : List (List ℕ)) → length items ≤ i → seek f name (drop i items) portions ≡ seek f name path [] → answer name [] portions ≡ find f name (entries path) []
seek_over f name path items i portions over is = ap (λ (l : List (List ℕ)). seek f name l portions) (sym (drop_of_length-le items over)) ∙ is ∙ seek_finds f name path

-- ---- only a directory is searched

pub offer_in_dir : (f : Files) (part : List ℕ) (dir : Path) (path : Option Path) (r : Result Offer TreeFault) → path ≡ Some dir → true ≡ is_dir (node_at f dir) → IfOk r (λ it. it ≡ offer_in f part dir) → IfOk r (λ it. it ≡ offer_at f part path)
offer_in_dir f part dir path r is there h =
    subst (λ (o : Option Path). IfOk r (λ it. it ≡ offer_at f part o)) (sym is)
    (subst (λ (b : Bool). IfOk r (λ it. it ≡ if b then offer_in f part dir else here.Nothing)) there h)
