-- Each kind of field: what is read is spelled so, what is spelled so is read, and no spelling is cut.
use Rattle.std.proofs.Common.{◌≡◌, ◌∙◌, refl, sym, ap, subst, ℕ, ◌^◌, ◌<◌, List, [], ◌∷◌, Bool, true, false, ltb, Some, arith, codes}
use Rattle.std.proofs.lemmas.Bool.{and_parts, and_from, ltb-true, lt-ltb}
use Rattle.std.proofs.lemmas.Option.{option_and_then_some}
use Rattle.std.proofs.lemmas.List.Splits.{join_with_byte-slice_split}
use Rattle.std.proofs.lemmas.Str.{IsUtf8-from_is_utf8}
use Rattle.std.specs.List.{list_all, AllByRecursion}
use Rattle.std.specs.Option.{option_and_then}
use Rattle.std.specs.Fmt.{decimal}
use Rattle.std.specs.Str.{is_utf8}
use Rattle.base_types.specs.Path.{Path, is_part, joined}
use Rattle.base_spelling.specs.Numbers.{number_in}
use Rattle.base_spelling.proofs.Spelled.{number_takes, number_again}
use Rattle.base_spelling.specs.Spelling.{quoted, source}
use Rattle.base_spelling.specs.Read.{text_in, source_in}
use Rattle.base_spelling.proofs.Takes.{source_takes, source_again}
use Rattle.trace_text.specs.Fields.{raw_word, good_word, init_word, yes_word}
use Rattle.trace_fields.specs.Fields.{small_number_in, name_in}
use Rattle.trace_fields.proofs.Closed.{Closed, ordinary_closed}
use Rattle.trace_fields.specs.Values.{parts_of, tree_path_of, tree_path_in}
use Rattle.trace_fields.proofs.Paths.{path_again}
use Rattle.trace_entries.specs.Taking.{flag_in}
use Rattle.trace_read.proofs.Naming.{dotted_ordinary}
use Rattle.trace_read.proofs.Held.{some_is, chosen, small_number_takes, small_number_again, name_takes, name_again, lookup_takes}
use Rattle.trace_read.proofs.Sources.{source_closed}
use Rattle.spec_core.specs.Identifiers.{is_dotted}
use Rattle.trace_read.specs.FieldsFit.{name_fits, tree_path_fits}
use Rattle.trace_read.proofs.Modules.{text_read, text_told, number_closed}
use Rattle.trace_read.specs.Fitting.{small_fits, number_fits, are_bytes}

-- ---- numbers and names

pub small_told : (field : List ℕ) (n : ℕ) → small_number_in field ≡ Some n → (field ≡ decimal n) × (small_fits n ≡ true)
small_told field n h = let t = small_number_takes field n h in (t.0, lt-ltb n (2 ^ 32) t.1)

pub small_read : (n : ℕ) → small_fits n ≡ true → small_number_in (decimal n) ≡ Some n
small_read n h = small_number_again n (ltb-true n (2 ^ 32) h)

pub small_closed : (n : ℕ) → small_fits n ≡ true → Closed (decimal n)
small_closed n h = let small = ltb-true n (2 ^ 32) h in number_closed n (omega arith)

pub number_told : (field : List ℕ) (n : ℕ) → number_in field ≡ Some n → (field ≡ decimal n) × (number_fits n ≡ true)
number_told field n h = let t = number_takes field n h in (t.0, lt-ltb n (2 ^ 64) t.1)

pub number_read : (n : ℕ) → number_fits n ≡ true → number_in (decimal n) ≡ Some n
number_read n h = number_again n (ltb-true n (2 ^ 64) h)

pub wide_closed : (n : ℕ) → number_fits n ≡ true → Closed (decimal n)
wide_closed n h = number_closed n (ltb-true n (2 ^ 64) h)

pub name_told : (field name : List ℕ) → name_in field ≡ Some name → (field ≡ name) × (name_fits name ≡ true)
name_told field name h = let t = name_takes field name h in (t.0, and_from _ _ t.1 t.2)

pub name_read : (name : List ℕ) → name_fits name ≡ true → name_in name ≡ Some name
name_read name h = let both = and_parts (is_utf8 name) (is_dotted name) h in name_again name both.0 both.1

pub name_closed : (name : List ℕ) → name_fits name ≡ true → Closed name
name_closed name h = let both = and_parts (is_utf8 name) (is_dotted name) h in ordinary_closed name (dotted_ordinary name (IsUtf8-from_is_utf8 name both.0) both.1)

-- ---- sources

bytes_all : (bytes : List ℕ) → are_bytes bytes ≡ true → AllByRecursion (λ b. b < 256) bytes
bytes_all [] h = tt
bytes_all (b ∷ bs) h = let both = and_parts (ltb b 256) (are_bytes bs) h in (ltb-true b 256 both.0, bytes_all bs both.1)

pub source_told : (field bytes : List ℕ) → source_in field ≡ Some bytes → field ≡ source bytes
source_told field bytes h = source_takes field bytes h

pub source_read : (bytes : List ℕ) → are_bytes bytes ≡ true → source_in (source bytes) ≡ Some bytes
source_read bytes h = source_again bytes (bytes_all bytes h)

pub source_field_closed : (bytes : List ℕ) → are_bytes bytes ≡ true → Closed (source bytes)
source_field_closed bytes h = source_closed bytes (bytes_all bytes h)

-- ---- one of two words

pub raw_read : (b : Bool) → flag_in (codes "raw") (codes "soft") (raw_word b) ≡ Some b
raw_read true = refl
raw_read false = refl

pub good_read : (b : Bool) → flag_in (codes "good") (codes "bad") (good_word b) ≡ Some b
good_read true = refl
good_read false = refl

pub init_read : (b : Bool) → flag_in (codes "init") (codes "plain") (init_word b) ≡ Some b
init_read true = refl
init_read false = refl

pub yes_read : (b : Bool) → flag_in (codes "yes") (codes "no") (yes_word b) ≡ Some b
yes_read true = refl
yes_read false = refl

pub raw_told : (field : List ℕ) (b : Bool) → flag_in (codes "raw") (codes "soft") field ≡ Some b → field ≡ raw_word b
raw_told field b h = lookup_takes raw_word field (true ∷ false ∷ []) b h

pub good_told : (field : List ℕ) (b : Bool) → flag_in (codes "good") (codes "bad") field ≡ Some b → field ≡ good_word b
good_told field b h = lookup_takes good_word field (true ∷ false ∷ []) b h

pub init_told : (field : List ℕ) (b : Bool) → flag_in (codes "init") (codes "plain") field ≡ Some b → field ≡ init_word b
init_told field b h = lookup_takes init_word field (true ∷ false ∷ []) b h

pub yes_told : (field : List ℕ) (b : Bool) → flag_in (codes "yes") (codes "no") field ≡ Some b → field ≡ yes_word b
yes_told field b h = lookup_takes yes_word field (true ∷ false ∷ []) b h

pub raw_closed : (b : Bool) → Closed (raw_word b)
raw_closed true = ordinary_closed (codes "raw") refl
raw_closed false = ordinary_closed (codes "soft") refl

pub good_closed : (b : Bool) → Closed (good_word b)
good_closed true = ordinary_closed (codes "good") refl
good_closed false = ordinary_closed (codes "bad") refl

pub init_closed : (b : Bool) → Closed (init_word b)
init_closed true = ordinary_closed (codes "init") refl
init_closed false = ordinary_closed (codes "plain") refl

pub yes_closed : (b : Bool) → Closed (yes_word b)
yes_closed true = ordinary_closed (codes "yes") refl
yes_closed false = ordinary_closed (codes "no") refl

-- ---- tree paths

pub tree_path_read : (path : Path) → tree_path_fits path ≡ true → tree_path_in (quoted (joined path)) ≡ Some path
unfolding tree_path_in
tree_path_read path h =
    let both = and_parts (list_all is_part path) (is_utf8 (joined path)) h in
    ap (option_and_then tree_path_of) (text_read (joined path) both.1) ∙ path_again path both.0

path_takes : (text : List ℕ) (path : Path) → tree_path_of text ≡ Some path → (text ≡ joined path) × (list_all is_part path ≡ true)
path_takes [] path h = subst (λ p. ([] ≡ joined p) × (list_all is_part p ≡ true)) (some_is [] path h) (refl, refl)
path_takes (b ∷ bs) path h =
    let c = chosen (list_all is_part (parts_of (b ∷ bs))) (parts_of (b ∷ bs)) path h in
    (sym (join_with_byte-slice_split 47 (b ∷ bs)) ∙ ap joined c.1, ap (list_all is_part) (sym c.1) ∙ c.0)

pub tree_path_told : (field : List ℕ) (path : Path) → tree_path_in field ≡ Some path → (field ≡ quoted (joined path)) × (tree_path_fits path ≡ true)
unfolding tree_path_in
tree_path_told field path h =
    option_and_then_some tree_path_of (text_in field) path h (λ text is held.
    let t = text_told field text is in
    let p = path_takes text path held in
    (t.0 ∙ ap quoted p.0, and_from _ _ p.1 (ap is_utf8 (sym p.0) ∙ t.1)))
