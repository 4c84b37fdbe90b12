-- The files of modules and scripts are names of parts.
use Rattle.std.proofs.Common.{◌≡◌, ◌≢◌, ◌∙◌, ap, sym, refl, ℕ, ◌<◌, ◌^◌, List, [], ◌∷◌, ◌++◌, length, true, false, not, IsTrue, codes, rules}
use Rattle.std.proofs.lemmas.Bool.{and_from, and_parts, false≢true, ne_eqb}
use Rattle.std.proofs.lemmas.Fmt.{digits_decimal}
use Rattle.std.proofs.lemmas.List.Folds.{list_all-append}
use Rattle.std.proofs.lemmas.Str.Parse.{IsNumeralModel, numerals_by_value}
use Rattle.std.specs.Char.{is_ascii_digit}
use Rattle.std.specs.Fmt.{decimal}
use Rattle.std.specs.List.{list_all}
use Rattle.std.specs.Str.Parse.{digits_value}
use Rattle.base_types.specs.Path.{is_part, is_part_byte}
use Rattle.program_gen.specs.Generator.{module_name, script_name, file_of}

own : IsNumeralModel (λ ds. list_all is_ascii_digit ds ≡ true) (digits_value 10)
own = numerals_by_value _ (search rules)

-- a digit is none of the other bytes
apart : (d n : ℕ) → is_ascii_digit n ≡ false → is_ascii_digit d ≡ true → d ≢ n
apart d n other h e = absurd (false≢true (sym other ∙ ap is_ascii_digit (sym e) ∙ h))

digit_byte : (d : ℕ) → is_ascii_digit d ≡ true → is_part_byte d ≡ true
digit_byte d h = and_from _ _ (ap not (ne_eqb d 47 (apart d 47 refl h))) (ap not (ne_eqb d 0 (apart d 0 refl h)))

digit_bytes : (ds : List ℕ) → list_all is_ascii_digit ds ≡ true → list_all is_part_byte ds ≡ true
digit_bytes [] h = refl
digit_bytes (d ∷ ds) h =
    let both = and_parts (is_ascii_digit d) (list_all is_ascii_digit ds) h in
    and_from (is_part_byte d) (list_all is_part_byte ds) (digit_byte d both.0) (digit_bytes ds both.1)

numbered : (n : ℕ) → n < 2 ^ 64 → list_all is_part_byte (decimal n ++ codes ".py") ≡ true
numbered n h = list_all-append is_part_byte (decimal n) (codes ".py") ∙ and_from _ _ (digit_bytes (decimal n) (digits_decimal own n h)) refl

pub module_part : (i : ℕ) → i < 2 ^ 64 → IsTrue (is_part (file_of (module_name i)))
module_part i h = and_from _ _ (ap not (ne_eqb (length (file_of (module_name i))) 0 (λ e. cc))) (numbered i h)

pub script_part : (s : ℕ) → s < 2 ^ 64 → IsTrue (is_part (file_of (script_name s)))
script_part s h = and_from _ _ (ap not (ne_eqb (length (file_of (script_name s))) 0 (λ e. cc))) (numbered s h)
