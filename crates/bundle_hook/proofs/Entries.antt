-- Single lines: what an entry spells is read, and what is read is spelled so.
use Rattle.std.proofs.Common.{◌≡◌, ◌∙◌, refl, sym, ap, subst, ℕ, ◌≤◌, ◌<◌, ◌^◌, List, ◌∷◌, ◌++◌, length, true, cond, leb, eqb, ◌&&◌, Some, None, arith, inl}
use Rattle.std.specs.Char.{is_ascii_digit}
use Rattle.std.specs.Fmt.{decimal}
use Rattle.std.proofs.lemmas.Bool.{and_parts, cond-true, leb-true, le-leb}
use Rattle.std.proofs.lemmas.Fmt.{digits_decimal}
use Rattle.std.proofs.lemmas.List.Splits.{join_with_byte-slice_split, length-slice_split}
use Rattle.std.proofs.lemmas.Str.{IsUtf8-from_is_utf8}
use Rattle.std.specs.List.{list_all}
use Rattle.std.specs.Option.{option_map, option_and_then}
use Rattle.std.specs.Str.{is_utf8, IsUtf8}
use Rattle.base_types.specs.Path.{Path, is_part, IsPath, joined}
use Rattle.base_spelling.specs.Numbers.{number_in}
use Rattle.base_spelling.proofs.Spelled.{own, number_takes, number_again}
use Rattle.bundle_hook.specs.declared.entry.Entry.{Entry}
use Rattle.bundle_hook.specs.Spelling.{most_size, line_of, is_plain, IsEntry}
use Rattle.bundle_hook.specs.Reading.{cut_at, size_in, parts, named_in, path_in, entry_with, entry_in}
use Rattle.bundle_hook.proofs.Places.{named, read_is, has_parts}
use Rattle.bundle_hook.proofs.Cuts.{lacks, lacks_both, lacks_from, if_some, map_some, then_some, cut_found, cut_taken}

-- SIZE

small : (n : ℕ) → n ≤ most_size → n < 2 ^ 64
small n h = omega arith

digits : (n : ℕ) → n ≤ most_size → list_all is_ascii_digit (decimal n) ≡ true
digits n h = digits_decimal own n (small n h)

size_found : (n : ℕ) → n ≤ most_size → size_in (decimal n) ≡ Some n
size_found n h = ap (option_and_then (λ n. cond (leb n most_size) (Some n) None)) (number_again n (small n h)) ∙ cond-true _ _ _ (le-leb n most_size h)

size_taken : (text : List ℕ) (n : ℕ) → size_in text ≡ Some n → (text ≡ decimal n) × (n ≤ most_size)
size_taken text n h =
    let m = then_some (λ n. cond (leb n most_size) (Some n) None) (number_in text) n h in
    let c = if_some (leb m.0 most_size) (Some m.0) n m.2 in
    let same : m.0 ≡ n = let e : Some m.0 ≡ Some n = c.1 in cc in
    ((number_takes text m.0 m.1).0 ∙ ap decimal same, subst (λ k. k ≤ most_size) same (leb-true m.0 most_size c.0))

-- PATH

path_found : (path : Path) → IsPath path → 1 ≤ length path → IsUtf8 (joined path) → is_plain (joined path) ≡ true → path_in (joined path) ≡ Some path
path_found path is some text plain =
    sym (named (joined path) plain text) ∙ sym (read_is (joined path) (Some path) (is, inl refl))
    ∙ sym (has_parts path (λ none. let short : length path ≡ 0 = ap length none in omega (arith, some, short)))

front_of_path : (text : List ℕ) (path : Path) → path_in text ≡ Some path → (is_utf8 text && is_plain text ≡ true) × (named_in text ≡ Some path)
unfolding path_in
front_of_path text path h = if_some (is_utf8 text && is_plain text) (named_in text) path h

record IsPlace (text : List ℕ) (path : Path) : Type 0 where
  is_path : IsPath path
  some : 1 ≤ length path
  utf8 : IsUtf8 text
  plain : is_plain text ≡ true
  whole : text ≡ joined path

path_taken : (text : List ℕ) (path : Path) → path_in text ≡ Some path → IsPlace text path
path_taken text path h =
    let front = front_of_path text path h in
    let both = and_parts (is_utf8 text) (is_plain text) front.0 in
    let all = if_some (list_all is_part (parts text)) (Some (parts text)) path front.1 in
    let same : parts text ≡ path = let e : Some (parts text) ≡ Some path = all.1 in cc in
    let many : length (parts text) ≡ length path = ap length same in
    let pieces = length-slice_split (λ b. eqb b 47) text in
    record {
      is_path = subst IsPath same all.0;
      some = omega (arith, many, pieces);
      utf8 = IsUtf8-from_is_utf8 text both.0;
      plain = both.1;
      whole = sym (join_with_byte-slice_split 47 text) ∙ ap joined same;
    }

-- the whole line

pub entry_found : (e : Entry) → IsEntry e → entry_in (line_of e) ≡ Some e
unfolding entry_in
entry_found e is =
    ap (option_and_then (λ (p : List ℕ × List ℕ). entry_with (size_in p.0) (path_in p.1))) (cut_found 32 (decimal e.size) (joined e.path) (lacks_from 32 is_ascii_digit refl (decimal e.size) (digits e.size is.size)))
    ∙ ap (λ o. entry_with o (path_in (joined e.path))) (size_found e.size is.size)
    ∙ ap (λ o. entry_with (Some e.size) o) (path_found e.path is.is_path is.some is.text is.plain)

pub entry_taken : (line : List ℕ) (e : Entry) → entry_in line ≡ Some e → IsEntry e × (line ≡ line_of e)
unfolding entry_in
entry_taken line e h =
    let c = then_some (λ (p : List ℕ × List ℕ). entry_with (size_in p.0) (path_in p.1)) (cut_at 32 line) e h in
    let front : List ℕ = c.0.0 in
    let behind : List ℕ = c.0.1 in
    let n = then_some (λ n. option_map {U = Entry} (λ p. record { path = p; size = n }) (path_in behind)) (size_in front) e c.2 in
    let p = map_some {Y = Entry} (λ p. record { path = p; size = n.0 }) (path_in behind) e n.2 in
    let size = size_taken front n.0 n.1 in
    let path = path_taken behind p.0 p.1 in
    let made : Entry = record { path = p.0; size = n.0 } in
    let whole : line ≡ line_of made = cut_taken 32 line front behind c.1 ∙ ap (λ t. t ++ 32 ∷ behind) size.0 ∙ ap (λ t. decimal n.0 ++ 32 ∷ t) path.whole in
    let is : IsEntry made = record {
      size = size.1;
      is_path = path.is_path;
      some = path.some;
      text = subst IsUtf8 path.whole path.utf8;
      plain = subst (λ t. is_plain t ≡ true) path.whole path.plain;
    } in
    subst (λ f. IsEntry f × (line ≡ line_of f)) p.2 (is, whole)

-- a line of a file has no LF
pub no_lf : (e : Entry) → IsEntry e → lacks 10 (line_of e) ≡ true
no_lf e is =
    lacks_both 10 (decimal e.size) (32 ∷ joined e.path) (lacks_from 10 is_ascii_digit refl (decimal e.size) (digits e.size is.size)) (lacks_from 10 (λ b. leb 32 b) refl (joined e.path) is.plain)
