-- How long the text of a script is.
use Rattle.std.proofs.Common.{◌≡◌, ℕ, zero, suc, ◌+◌, ◌*◌, ◌/◌, ◌^◌, ◌<◌, ◌≤◌, ◌++◌, length, codes, arith, length-append}
use Rattle.std.proofs.lemmas.Fmt.{length-decimal-le}
use Rattle.std.proofs.lemmas.Nat.{mod_below}
use Rattle.std.specs.Fmt.{decimal}
use Rattle.base_types.specs.declared.limits.TheConstants.{LONGEST_SOURCE}
use Rattle.program_gen.specs.Generator.{after, drawn, import_of, imports_of, script_text}

drawn_below : (bound x : ℕ) → 1 ≤ bound → drawn bound x < bound
drawn_below bound x h = mod_below (x / 2 ^ 33) bound (omega arith)

import_length : (i : ℕ) → i < 2 ^ 32 → length (import_of i) ≤ 30
import_length i h =
    let small : length (decimal i) ≤ 10 = length-decimal-le 10 i (omega arith) (omega arith) (omega arith) in
    let behind : length (decimal i ++ codes "\n") ≡ length (decimal i) + 1 = length-append (decimal i) (codes "\n") in
    let whole : length (import_of i) ≡ 8 + length (decimal i ++ codes "\n") = length-append (codes "import m") (decimal i ++ codes "\n") in
    omega arith

pub imports_length : (bound n x : ℕ) → 1 ≤ bound → bound ≤ 2 ^ 32 → length (imports_of bound n x) ≤ n * 30
imports_length bound zero x some few = omega arith
imports_length bound (suc n) x some few =
    let number : ℕ = drawn bound (after (suc n) x) in
    let below : number < bound = drawn_below bound (after (suc n) x) some in
    let one : length (import_of number) ≤ 30 = import_length number (omega arith) in
    let whole : length (imports_of bound (suc n) x) ≡ length (imports_of bound n x) + length (import_of number) = length-append (imports_of bound n x) (import_of number) in
    let more : length (imports_of bound n x) ≤ n * 30 = imports_length bound n x some few in
    omega arith

pub script_length : (modules x : ℕ) → 1 ≤ modules → modules ≤ 2 ^ 32 → length (script_text modules x) ≤ LONGEST_SOURCE
script_length modules x some few =
    let short : length (imports_of modules 4 x) ≤ 4 * 30 = imports_length modules 4 x some few in
    omega arith
