-- Each step tells a part of what is due.
use Rattle.std.proofs.Common.{◌≡◌, ◌∙◌, sym, ap, subst, ℕ, ◌+◌, ◌-◌, ◌<◌, ◌≤◌, List, [], ◌∷◌, ◌++◌, length, length-append, append_assoc, append-nil, drop, flat_map, Option, Some, None, Result, Ok, Err, IfOk, arith}
use Rattle.std.specs.List.{slice_get}
use Rattle.std.specs.Option.{ForSome, IfSome}
use Rattle.base_types.specs.Path.{Path, IsPath, joined}
use Rattle.tree_files.specs.Files.{Files, IsTree, IsDirAt, IsFileAt, IsListing, node_at, bytes_of, stamp_of}
use Rattle.tree_files.specs.declared.tree.Stamp.TheVariants as stamp
use Rattle.tree_files.specs.declared.tree.TreeFault.{TreeFault}
use Rattle.tree_files.proofs.Listings.{listing_told}
use Rattle.tree_walk.specs.Below.{all_within}
use Rattle.tree_walk.proofs.Splitting.{all_within-absent}
use Rattle.tree_walk.proofs.Walking.{absent_node, next_item, no_item}
use Rattle.report_questions.specs.declared.question.Question.{Question}
use Rattle.import_report.specs.Lines.{question_line, file_lines, too_deep}
use Rattle.import_report.specs.declared.line.Line.{Line}
use Rattle.import_report.specs.Sources.{source_of, source_questions}
use Rattle.import_report.specs.declared.sources.Source.{Source}
use Rattle.import_report.specs.Reports.{source_lines, lines_of, entered, report_lines, report_folders}
use Rattle.import_report.specs.Due.{asked_lines, part_lines, due_lines, part_folders, due_folders, Tells, Lists}
use Rattle.import_report.specs.declared.pending.Pending.{Pending}
use Rattle.import_report.specs.declared.pending.Pending.TheVariants as pending
use Rattle.import_report.proofs.Piles.{put_last}
use Rattle.import_report.proofs.Things.{file_lines_at, deep_lines_at, dir_lines_at, dir_folders_at}

-- ---- folders that have gone

-- all that came first has gone
pub gone_all : (first left left' : List Path) (old new : ℕ) → left' ≡ left → new ≤ old → Lists (first ++ left) left' old new
gone_all first left left' old new same count = record {
  gone = first;
  rest = ap (λ (l : List Path). first ++ l) (sym same);
  count = omega (arith, count);
}

-- none has gone
pub gone_none : (due left : List Path) (old : ℕ) → due ≡ left → Lists due left old old
gone_none due left old same = record { gone = []; rest = same; count = omega arith }

-- what came first by another name has gone
pub gone_name : (due first left left' : List Path) → due ≡ first ++ left → left' ≡ left → Lists due left' 0 0
gone_name due first left left' is same = record { gone = first; rest = is ∙ ap (λ (l : List Path). first ++ l) (sym same); count = omega arith }

-- ---- a folder

module _ (files : Option Files) (path : Path) (parts : ℕ) (is : ForSome files (λ f. IsDirAt f path)) (t : ForSome files IsTree) (p : IsPath path) where
  pub deep_told : (text : List ℕ) (line : Line) (old : List Pending) → 64 < length path - parts → length path - parts ≤ 65 → text ≡ joined path → line ≡ too_deep text
      → ForSome files (λ f. (on : List (List ℕ)) → Tells f on (all_within (lines_of parts f on) f path) old (Some line) old)
  deep_told text line old deep near spelled told = λ f there on.
      ap (λ (l : List Line). l ++ due_lines f on old) (deep_lines_at f (t f there) path parts (is f there) p deep near on)
      ∙ ap (λ (s : List ℕ). too_deep s ∷ due_lines f on old) (sym spelled)
      ∙ ap (λ (l : Line). l ∷ due_lines f on old) (sym told)

  -- the folder was listed, and nothing of it is kept
  pub listed_lost : (old new : List Pending) (lists lists' : ℕ) → new ≡ old → length path - parts ≤ 64 → lists' ≤ lists + 1
      → ForSome files (λ f. Lists (all_within (entered parts) f path ++ due_folders f old) (due_folders f new) lists lists')
  listed_lost old new lists lists' same low count = λ f there.
      let some = ap length (dir_folders_at f (t f there) path parts (is f there) p low) in
      record {
        gone = all_within (entered parts) f path;
        rest = ap (λ (pile : List Pending). all_within (entered parts) f path ++ due_folders f pile) (sym same);
        count = omega (arith, some, count);
      }

  module _ (names : List (List ℕ)) (low : length path - parts ≤ 64) (old new : List Pending) (listed : IfSome files (λ f. IsListing f path names))
      (put : new ≡ old ++ pending.Folder (record { dir = path; names = names; at = 0; above = parts; near = low }) ∷ []) where
    pub entered_lines : ForSome files (λ f. (on : List (List ℕ)) → Tells f on (all_within (lines_of parts f on) f path) old None new)
    entered_lines = λ f there on.
        ap (λ (l : List Line). l ++ due_lines f on old) (dir_lines_at f (t f there) path parts (is f there) p low on)
        ∙ ap (λ (ns : List (List ℕ)). flat_map (λ a. all_within (lines_of parts f on) f (path ++ a ∷ [])) ns ++ due_lines f on old) (sym (listing_told f path names (subst (λ (o : Option Files). IfSome o (λ g. IsListing g path names)) there listed)))
        ∙ sym (put_last (λ n. lines_of n f on) (asked_lines f on) f old new (pending.Folder (record { dir = path; names = names; at = 0; above = parts; near = low })) put)

    pub entered_lists : (lists lists' : ℕ) → lists' ≤ lists + 1 → ForSome files (λ f. Lists (all_within (entered parts) f path ++ due_folders f old) (due_folders f new) lists lists')
    entered_lists lists lists' count = λ f there. record {
      gone = path ∷ [];
      rest = ap (λ (l : List Path). l ++ due_folders f old) (dir_folders_at f (t f there) path parts (is f there) p low)
          ∙ ap (λ (ns : List (List ℕ)). path ∷ (flat_map (λ a. all_within (entered parts) f (path ++ a ∷ [])) ns ++ due_folders f old)) (sym (listing_told f path names (subst (λ (o : Option Files). IfSome o (λ g. IsListing g path names)) there listed)))
          ∙ ap (λ (l : List Path). path ∷ l) (sym (put_last entered (λ asked. []) f old new (pending.Folder (record { dir = path; names = names; at = 0; above = parts; near = low })) put));
      count = omega (arith, count);
    }

-- ---- a file

-- questions were put on the pile
pub asked_next : (files : Option Files) (path : Path) (source : Source) (text : List ℕ) (all : List Question) (old new : List Pending) → ForSome files (λ f. all ≡ source_questions source (bytes_of (node_at f path))) → text ≡ joined path
    → new ≡ old ++ pending.Asked (record { file = text; questions = all; at = 0 }) ∷ []
    → ForSome files (λ f. (on : List (List ℕ)) → Tells f on (source_lines f on path (bytes_of (node_at f path)) (Some source)) old None new)
asked_next files path source text all old new asked spelled put = λ f there on.
    ap (λ (q : List Question). file_lines f on (joined path) q ++ due_lines f on old) (sym (asked f there))
    ∙ ap (λ (s : List ℕ). file_lines f on s all ++ due_lines f on old) (sym spelled)
    ∙ sym (put_last (λ n. lines_of n f on) (asked_lines f on) f old new (pending.Asked (record { file = text; questions = all; at = 0 })) put)

-- for which no folder is listed
pub asked_folders : (f : Files) (text : List ℕ) (all : List Question) (at : ℕ) (old new : List Pending) → new ≡ old ++ pending.Asked (record { file = text; questions = all; at = at }) ∷ [] → due_folders f new ≡ due_folders f old
asked_folders f text all at old new put = put_last entered (λ asked. []) f old new (pending.Asked (record { file = text; questions = all; at = at })) put

-- what is told of a source file is told of the path
pub opened : (files : Option Files) (path : Path) (parts : ℕ) (source : Option Source) (old new : List Pending) → ForSome files (λ f. IsFileAt f path) → ForSome files IsTree → IsPath path → length path - parts ≤ 65 → source ≡ source_of (drop parts path)
    → ForSome files (λ f. (on : List (List ℕ)) → Tells f on (source_lines f on path (bytes_of (node_at f path)) source) old None new)
    → ForSome files (λ f. (on : List (List ℕ)) → Tells f on (all_within (lines_of parts f on) f path) old None new)
opened files path parts source old new is t p near found told = λ f there on.
    ap (λ (l : List Line). l ++ due_lines f on old) (file_lines_at f (t f there) path parts (is f there) on p near)
    ∙ ap (λ (s : Option Source). source_lines f on path (bytes_of (node_at f path)) s ++ due_lines f on old) (sym found)
    ∙ told f there on

-- ---- nothing

pub absent_told : (files : Option Files) (path : Path) (parts : ℕ) (old : List Pending) → IfSome files IsTree → IfSome files (λ f. stamp.Absent ≡ stamp_of (node_at f path))
    → ForSome files (λ f. (on : List (List ℕ)) → Tells f on (all_within (lines_of parts f on) f path) old None old)
absent_told files path parts old t is = λ f there on.
    ap (λ (l : List Line). l ++ due_lines f on old)
    (all_within-absent f (subst (λ (o : Option Files). IfSome o IsTree) there t) path (lines_of parts f on) (absent_node (node_at f path) (subst (λ (o : Option Files). IfSome o (λ g. stamp.Absent ≡ stamp_of (node_at g path))) there is)))

-- ---- questions

pub on_question : (files : Option Files) (on : List (List ℕ)) (file : List ℕ) (all : List Question) (at : ℕ) (question : Question) (line : Line) (old new : List Pending)
    → slice_get all at ≡ Some question → ForSome files (λ f. line ≡ question_line f on file question) → new ≡ old ++ pending.Asked (record { file = file; questions = all; at = at + 1 }) ∷ []
    → ForSome files (λ f. Tells f on (file_lines f on file (drop at all)) old (Some line) new)
on_question files on file all at question line old new is answers put = λ f there.
    ap (λ (l : List Question). file_lines f on file l ++ due_lines f on old) (next_item all at question is)
    ∙ ap (λ (l : Line). l ∷ (file_lines f on file (drop (at + 1) all) ++ due_lines f on old)) (sym (answers f there))
    ∙ ap (λ (d : List Line). line ∷ d) (sym (put_last (λ n. lines_of n f on) (asked_lines f on) f old new (pending.Asked (record { file = file; questions = all; at = at + 1 })) put))

pub no_question : (files : Option Files) (on : List (List ℕ)) (file : List ℕ) (all : List Question) (at : ℕ) (old : List Pending) → slice_get all at ≡ None
    → ForSome files (λ f. Tells f on (file_lines f on file (drop at all)) old None old)
no_question files on file all at old is = λ f there. ap (λ (l : List Question). file_lines f on file l ++ due_lines f on old) (no_item all at is)

-- ---- several steps

-- what holds on each search path holds on one
pub on_path : (r : Result (Option Line) TreeFault) (P : Option Line → List (List ℕ) → Type 0) (on : List (List ℕ)) → IfOk r (λ line. (p : List (List ℕ)) → P line p) → IfOk r (λ line. P line on)
on_path (Ok line) P on h = h on
on_path (Err e) P on h = tt

-- from another count, or to another rest, that is the same
pub lists_from : (due left : List Path) (old between new : ℕ) → between ≡ old → Lists due left between new → Lists due left old new
lists_from due left old between new same lists = subst (λ (n : ℕ). Lists due left n new) same lists

pub lists_to : (due left left' : List Path) (old new : ℕ) → left' ≡ left → Lists due left old new → Lists due left' old new
lists_to due left left' old new same lists = subst (λ (l : List Path). Lists due l old new) (sym same) lists

-- whatever the count is that stays
pub at_count : (due left : List Path) (n : ℕ) → Lists due left 0 0 → Lists due left n n
at_count due left n lists = record { gone = lists.gone; rest = lists.rest; count = omega arith }

-- one step and then another
pub lists_then : (due mid left : List Path) (old between new : ℕ) → Lists due mid old between → Lists mid left between new → Lists due left old new
lists_then due mid left old between new a b =
    let size = length-append a.gone b.gone in
    let first = a.count in
    let second = b.count in
    record {
      gone = a.gone ++ b.gone;
      rest = a.rest ∙ ap (λ (l : List Path). a.gone ++ l) b.rest ∙ sym (append_assoc a.gone b.gone left);
      count = omega (arith, size, first, second);
    }

-- the count and what is left are no more than the count and what was due
pub lists_count : (due left : List Path) (old new : ℕ) → Lists due left old new → new + length left ≤ old + length due
lists_count due left old new lists =
    let size = ap length lists.rest ∙ length-append lists.gone left in
    let count = lists.count in
    omega (arith, size, count)

-- a pile from which a part was taken
pub popped_lines : (f : Files) (on : List (List ℕ)) (pile rest : List Pending) (part : Pending) → pile ≡ rest ++ part ∷ [] → due_lines f on pile ≡ part_lines f on part ++ due_lines f on rest
popped_lines f on pile rest part is = put_last (λ n. lines_of n f on) (asked_lines f on) f rest pile part is

pub popped_folders : (f : Files) (pile rest : List Pending) (part : Pending) → pile ≡ rest ++ part ∷ [] → due_folders f pile ≡ part_folders f part ++ due_folders f rest
popped_folders f pile rest part is = put_last entered (λ asked. []) f rest pile part is

-- ---- the first pile

module _ (f : Files) (dir path : Path) (above : ℕ) (near : length path - above ≤ 65) (empty pile : List Pending) (none : empty ≡ []) (same : path ≡ dir) (long : above ≡ length dir)
    (put : pile ≡ empty ++ pending.Place (record { path = path; above = above; near = near }) ∷ []) where
  pub first_lines_at : (on : List (List ℕ)) → due_lines f on pile ≡ report_lines f dir on
  first_lines_at on =
      put_last (λ n. lines_of n f on) (asked_lines f on) f empty pile (pending.Place (record { path = path; above = above; near = near })) put
      ∙ ap (λ (l : List Pending). all_within (lines_of above f on) f path ++ due_lines f on l) none
      ∙ append-nil (all_within (lines_of above f on) f path)
      ∙ ap (λ (n : ℕ). all_within (lines_of n f on) f path) long
      ∙ ap (λ (p : Path). all_within (lines_of (length dir) f on) f p) same

  pub first_folders_at : due_folders f pile ≡ report_folders f dir
  first_folders_at =
      put_last entered (λ asked. []) f empty pile (pending.Place (record { path = path; above = above; near = near })) put
      ∙ ap (λ (l : List Pending). all_within (entered above) f path ++ due_folders f l) none
      ∙ append-nil (all_within (entered above) f path)
      ∙ ap (λ (n : ℕ). all_within (entered n) f path) long
      ∙ ap (λ (p : Path). all_within (entered (length dir)) f p) same
