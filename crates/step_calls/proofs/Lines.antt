-- The line of `print` is that of its texts.
use Rattle.std.proofs.Common.{◌≡◌, ◌∙◌, refl, sym, ap, ℕ, List, [], ◌∷◌, ◌++◌, append_assoc, append-nil}
use Rattle.std.specs.Prelude.{Result, Ok, Err, codes}
use Rattle.std.specs.List.{flat_map}
use Rattle.py_value.specs.declared.operator.Applied.{Applied}
use Rattle.py_value.specs.declared.operator.Applied.TheVariants as applied
use Rattle.py_value.specs.declared.value.Raised.{Raised as Error}
use Rattle.py_value.specs.declared.value.Value.{Value}
use Rattle.value_texts.specs.Texts.{str_of}
use Rattle.meaning_script.specs.Calls.{text_of, with_str, strs_of, prints}
use Rattle.step_calls.specs.Lines.{behind, continued, ended, printed, writes_or_fails}

-- the line so far and the texts behind it
abbrev tail : List ℕ → Result (List (List ℕ)) Error → Result (List ℕ) Error
tail line (Ok texts) = Ok (line ++ flat_map (λ text. codes " " ++ text) texts)
tail line (Err error) = Err error

tail_more : (line : List ℕ) (v : Value) (others : Result (List (List ℕ)) Error) → tail (line ++ 32 ∷ text_of v) others ≡ tail line (with_str (applied.Value v) others)
tail_more line v (Ok texts) = ap Ok (append_assoc line (32 ∷ text_of v) (flat_map (λ text. codes " " ++ text) texts))
tail_more line v (Err error) = refl

one_more : (line : List ℕ) (a : Applied) (vs : List Value) → ((more : List ℕ) → continued more vs ≡ tail more (strs_of vs)) → behind a (λ text. continued (line ++ 32 ∷ text) vs) ≡ tail line (with_str a (strs_of vs))
one_more line (applied.Value v) vs others = others (line ++ 32 ∷ text_of v) ∙ tail_more line v (strs_of vs)
one_more line (applied.Raised error) vs others = refl

continued_is : (line : List ℕ) (vs : List Value) → continued line vs ≡ tail line (strs_of vs)
continued_is line [] = ap Ok (sym (append-nil line))
continued_is line (v ∷ vs) = one_more line (str_of v) vs (λ more. continued_is more vs)

written : (v : Value) (others : Result (List (List ℕ)) Error) → prints (with_str (applied.Value v) others) ≡ writes_or_fails (ended (tail (text_of v) others))
written v (Ok texts) = refl
written v (Err error) = refl

first : (a : Applied) (vs : List Value) → prints (with_str a (strs_of vs)) ≡ writes_or_fails (ended (behind a (λ text. continued text vs)))
first (applied.Value v) vs = written v (strs_of vs) ∙ ap (λ line. writes_or_fails (ended line)) (sym (continued_is (text_of v) vs))
first (applied.Raised error) vs = refl

pub prints_is : (vs : List Value) → prints (strs_of vs) ≡ writes_or_fails (printed vs)
prints_is [] = refl
prints_is (v ∷ vs) = first (str_of v) vs
