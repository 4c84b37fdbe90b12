-- The walk over the entries comes to what Find says of the whole list.
use Rattle.std.proofs.Common.{◌≡◌, ◌∙◌, refl, sym, ap, subst, ℕ, ◌==◌, List, [], ◌∷◌, ◌++◌, Bool, true, false, ◌&&◌, Option, None, Some, append_assoc, append-nil, if◌then◌else◌}
use Rattle.std.specs.List.{filter_map, cons_option}
use Rattle.base_types.specs.Path.{Path, joined}
use Rattle.spec_core.specs.Names.{tail_of}
use Rattle.spec_core.specs.declared.spec.SpecKind.{SpecKind}
use Rattle.py_value.specs.declared.value.Value.{Value}
use Rattle.tree_files.specs.Files.{Files, node_at, stamp_of, is_dir, is_file, has_name, IsListing}
use Rattle.tree_files.specs.declared.tree.Node.{Node}
use Rattle.tree_files.specs.declared.tree.Node.TheVariants.{File, Dir}
use Rattle.path_finder.specs.Entries.{entry_path, timed, directory_at, directories}
use Rattle.path_finder.specs.Find.{folder, first_file, module_file, with_suffix, package_in, module_in, Listed, listed, listed_in_tree, offer, offers, answer, find}
use Rattle.path_finder.specs.Steps.{Search, Onward, Leads, Reads, here, stamped_at, listed_at, Stamps, Lists, is_dir_stamp, is_file_stamp, passes, module_tried, tries_module, package_tried, folder_tried, tries, probes, keeps, lists, replied, stamped, enters, searches}
use Rattle.path_finder.specs.declared.words.Probe.{Probe}
use Rattle.path_finder.specs.declared.words.Found.{Found}

file_stamp : (o : Option Node) → is_file_stamp (stamp_of o) ≡ is_file o
file_stamp None = refl
file_stamp (Some (File bytes)) = refl
file_stamp (Some (Dir time)) = refl

dir_stamp : (o : Option Node) → is_dir_stamp (stamp_of o) ≡ is_dir o
dir_stamp None = refl
dir_stamp (Some (File bytes)) = refl
dir_stamp (Some (Dir time)) = refl

abbrev kinds_of : Files → List ℕ → List (Path × ℕ) → List (Option Probe) → List SpecKind
kinds_of f part dirs replies = filter_map (λ o. o.decides) (offers f part dirs replies)

abbrev portions_of : Files → List ℕ → List (Path × ℕ) → List (Option Probe) → List (List ℕ)
portions_of f part dirs replies = filter_map (λ o. o.portion) (offers f part dirs replies)

-- what follows an entry comes to what is found in these directories, with the portions so far
abbrev Goes : Files → List ℕ → List (Path × ℕ) → Onward → Type 0
Goes f name dirs go = (portions : List (List ℕ)) (replies : List (Option Probe)) (found : Option Found) → Leads f (go portions) replies found
    → found ≡ answer name (kinds_of f (tail_of name) dirs replies) (portions ++ portions_of f (tail_of name) dirs replies)

module _ (f : Files) (name : List ℕ) (dirs : List (Path × ℕ)) (go : Onward) (goes : Goes f name dirs go) (portions : List (List ℕ)) (replies : List (Option Probe)) (found : Option Found) where
  -- with one entry's kind and portion before those of the entries behind it
  abbrev With : Option SpecKind → Option (List ℕ) → Type 0
  With kind portion = found ≡ answer name (cons_option kind (kinds_of f (tail_of name) dirs replies)) (portions ++ cons_option portion (portions_of f (tail_of name) dirs replies))

  abbrev part_of : Path → Bool → Option (List ℕ)
  part_of dir b = if b then Some (joined (folder dir (tail_of name))) else None

  abbrev module_of : Path → Bool → Option SpecKind
  module_of dir b = if b then Some (module_in dir (tail_of name)) else None

  passes_leads : (dir : Path) (portion : Bool) → Leads f (passes name dir portion portions go) replies found → With None (part_of dir portion)
  passes_leads dir true h =
      goes (portions ++ joined (folder dir (tail_of name)) ∷ []) replies found h
      ∙ ap (answer name (kinds_of f (tail_of name) dirs replies)) (append_assoc portions (joined (folder dir (tail_of name)) ∷ []) (portions_of f (tail_of name) dirs replies))
  passes_leads dir false h = goes portions replies found h

  module_leads : (dir : Path) (portion b : Bool) → Leads f (module_tried name dir portion portions go b) replies found → With (module_of dir b) (part_of dir portion)
  module_leads dir portion true h = h.1
  module_leads dir portion false h = passes_leads dir portion h

  tries_module_leads : (dir : Path) (portion file : Bool) → Leads f (tries_module name dir portion file portions go) replies found
      → With (module_of dir (file && is_file (node_at f (module_file dir (tail_of name))))) (part_of dir portion)
  tries_module_leads dir portion true h =
      subst (λ b. With (module_of dir b) (part_of dir portion)) (file_stamp (node_at f (module_file dir (tail_of name)))) (module_leads dir portion _ h)
  tries_module_leads dir portion false h = passes_leads dir portion h

  abbrev package_else : Path → Bool → Bool → Option SpecKind
  package_else dir b file = if b then Some (package_in dir (tail_of name)) else module_of dir (file && is_file (node_at f (module_file dir (tail_of name))))

  package_leads : (dir : Path) (file b : Bool) → Leads f (package_tried name dir file portions go b) replies found → With (package_else dir b file) (part_of dir true)
  package_leads dir file true h = h.1
  package_leads dir file false h = tries_module_leads dir true file h

  folder_leads : (dir : Path) (file b : Bool) → Leads f (folder_tried name dir file portions go b) replies found
      → With (package_else dir (b && is_file (node_at f (first_file dir (tail_of name)))) file) (part_of dir b)
  folder_leads dir file true h =
      subst (λ b. With (package_else dir b file) (part_of dir true)) (file_stamp (node_at f (first_file dir (tail_of name)))) (package_leads dir file _ h)
  folder_leads dir file false h = tries_module_leads dir false file h

  abbrev Offered : Path → Listed → Type 0
  Offered dir l = With (offer f dir (tail_of name) l).decides (offer f dir (tail_of name) l).portion

  tries_leads : (dir : Path) (bare file : Bool) → Leads f (tries name dir bare file portions go) replies found → Offered dir (record { bare = bare; file = file })
  tries_leads dir true file h =
      subst (λ b. With (package_else dir (b && is_file (node_at f (first_file dir (tail_of name)))) file) (part_of dir b)) (dir_stamp (node_at f (folder dir (tail_of name)))) (folder_leads dir file _ h)
  tries_leads dir false file h = tries_module_leads dir false file h

  told_listing : (dir : Path) (names : List (List ℕ)) → IsListing f dir names
      → ◌≡◌ {A = Listed} (record { bare = has_name names (tail_of name); file = has_name names (with_suffix (tail_of name)) }) (listed_in_tree f dir (tail_of name))
  told_listing dir names l = rw (l.exact (tail_of name), l.exact (with_suffix (tail_of name))) refl

  lists_leads : (dir : Path) (time : ℕ) → Leads f (lists name dir time portions go) replies found → Offered dir (listed_in_tree f dir (tail_of name))
  lists_leads dir time h = subst (Offered dir) (told_listing dir h.0 h.1) (tries_leads dir _ _ h.2)

  replied_some : (dir : Path) (time : ℕ) (probe : Probe) (b : Bool)
      → Leads f (if b then probes name dir probe.bare probe.file portions go else lists name dir time portions go) replies found
      → Offered dir (if b then record { bare = probe.bare; file = probe.file } else listed_in_tree f dir (tail_of name))
  replied_some dir time probe true h = tries_leads dir probe.bare probe.file h
  replied_some dir time probe false h = lists_leads dir time h

  replied_leads : (dir : Path) (time : ℕ) (reply : Option Probe) → Leads f (replied name dir time portions go reply) replies found → Offered dir (listed f (dir, time) (tail_of name) reply)
  replied_leads dir time None h = lists_leads dir time h
  replied_leads dir time (Some probe) h = replied_some dir time probe (probe.time == time) h

-- what is found from an entry on, by what it is
stamped_leads : (f : Files) (name : List ℕ) (dirs : List (Path × ℕ)) (go : Onward) → Goes f name dirs go → (portions : List (List ℕ)) (replies : List (Option Probe)) (found : Option Found) (dir : Path) (o : Option Node)
    → Leads f (stamped name dir portions go (stamp_of o)) replies found
    → found ≡ answer name (kinds_of f (tail_of name) (cons_option (timed dir o) dirs) replies) (portions ++ portions_of f (tail_of name) (cons_option (timed dir o) dirs) replies)
stamped_leads f name dirs go goes portions replies found dir None h = goes portions replies found h
stamped_leads f name dirs go goes portions replies found dir (Some (File bytes)) h = goes portions replies found h
stamped_leads f name dirs go goes portions [] found dir (Some (Dir time)) h = absurd h
stamped_leads f name dirs go goes portions (reply ∷ replies) found dir (Some (Dir time)) h = replied_leads f name dirs go goes portions replies found dir time reply h

enters_goes : (f : Files) (name : List ℕ) (dirs : List (Path × ℕ)) (go : Onward) (o : Option Path) → Goes f name dirs go → Goes f name (cons_option (directory_at f o) dirs) (λ portions. enters name o portions go)
enters_goes f name dirs go None goes = goes
enters_goes f name dirs go (Some dir) goes = λ portions replies found h. stamped_leads f name dirs go goes portions replies found dir (node_at f dir) h

searches_goes : (f : Files) (name : List ℕ) (path : List Value) → Goes f name (directories f path) (searches name path)
searches_goes f name [] = λ portions replies found h. h.1 ∙ ap (answer name []) (sym (append-nil portions))
searches_goes f name (entry ∷ path) = enters_goes f name (directories f path) (searches name path) (entry_path entry) (searches_goes f name path)

-- the walk is Find
pub walk_finds : (f : Files) (name : List ℕ) (path : List Value) (replies : List (Option Probe)) (found : Option Found) → Leads f (searches name path []) replies found → found ≡ find f name path replies
walk_finds f name path replies found h = searches_goes f name path [] replies found h

-- what follows looks into the tree follows what came before them
pub reads_leads : (f : Files) (a b : Search) (replies : List (Option Probe)) (found : Option Found) → Reads (Some f) a b → Leads f b replies found → Leads f a replies found
reads_leads f a b replies found (here search) h = h
reads_leads f a b replies found (stamped_at path s next search told reads) h =
    subst (λ x. Leads f (next x) replies found) told (reads_leads f (next s) search replies found reads h)
reads_leads f a b replies found (listed_at dir names next search told reads) h =
    (names, told, reads_leads f (next names) search replies found reads h)
