-- Fields that are not of a cause's kind, and fields that are of none.
use Rattle.std.proofs.Common.{◌≡◌, ◌∙◌, sym, ap, ℕ, ◌^◌, List, ◌∷◌, get_or, Bool, true, false, ltb, eqb, ◌&&◌, None, Some, ◌⊎◌, inl, inr}
use Rattle.std.proofs.lemmas.Bool.{cases_Bool, and_parts, cond-true, cond-false, eq-eqb}
use Rattle.std.proofs.lemmas.Str.{IsUtf8-from_is_utf8}
use Rattle.std.specs.List.{list_all}
use Rattle.std.specs.Option.{option_and_then}
use Rattle.std.specs.Char.{is_ascii_digit}
use Rattle.std.specs.Str.{is_utf8}
use Rattle.std.specs.Str.Parse.{digits_value}
use Rattle.spec_core.specs.Identifiers.{is_dotted}
use Rattle.base_spelling.specs.Numbers.{is_number, number_in}
use Rattle.base_spelling.proofs.Spelled.{parts}
use Rattle.base_spelling.specs.Spelling.{quoted, in_hex}
use Rattle.base_spelling.specs.Read.{text_in, source_in}
use Rattle.base_spelling.proofs.Takes.{text_takes, source_takes}
use Rattle.trace_fields.specs.Fields.{name_in}
use Rattle.trace_fields.proofs.Closed.{is_ordinary}
use Rattle.trace_read.proofs.Naming.{dotted_ordinary}
use Rattle.trace_read.proofs.Held.{chosen, name_takes}
use Rattle.trace_entries.specs.EventWords.{any_event_word, event_word_in}
use Rattle.trace_entries.specs.EventWords as events
use Rattle.trace_entries.specs.ReplyWords.{any_reply_word, reply_word_in}
use Rattle.trace_entries.specs.ReplyWords as replies
use Rattle.trace_read.specs.Refusing.{Is}

both_ways : (b : Bool) → b ≡ true → b ≡ false → ⊥
both_ways b is isnt = let bad : true ≡ false = sym is ∙ isnt in cc

unlike : (b c : ℕ) → eqb b c ≡ false → b ≡ c → ⊥
unlike b c isnt same = both_ways (eqb b c) (eq-eqb b c same) isnt

-- the first byte is no digit
pub no_number : (b : ℕ) (bs : List ℕ) → is_ascii_digit b ≡ false → Is (number_in (b ∷ bs)) → ⊥
unfolding number_in
no_number b bs isnt h =
    let c = chosen (is_number (b ∷ bs) && ltb (digits_value 10 (b ∷ bs)) (2 ^ 64)) (digits_value 10 (b ∷ bs)) h.0 h.1 in
    let both = and_parts (is_number (b ∷ bs)) (ltb (digits_value 10 (b ∷ bs)) (2 ^ 64)) c.0 in
    let digits = and_parts (is_ascii_digit b) (list_all is_ascii_digit bs) (parts (b ∷ bs) both.0).digits in
    both_ways (is_ascii_digit b) digits.0 isnt

pub no_name : (field : List ℕ) → list_all is_ordinary field ≡ false → Is (name_in field) → ⊥
no_name field isnt h =
    let t = name_takes field h.0 h.1 in
    let utf8 : is_utf8 field ≡ true = ap is_utf8 t.0 ∙ t.1 in
    let dotted : is_dotted field ≡ true = ap is_dotted t.0 ∙ t.2 in
    both_ways (list_all is_ordinary field) (dotted_ordinary field (IsUtf8-from_is_utf8 field utf8) dotted) isnt

no_text : (b : ℕ) (bs : List ℕ) → eqb b 34 ≡ false → Is (text_in (b ∷ bs)) → ⊥
no_text b bs isnt h =
    let first : b ≡ 34 = ap (λ l. get_or l 0 0) (text_takes (b ∷ bs) h.0 h.1).0 in
    unlike b 34 isnt first

no_source : (b : ℕ) (bs : List ℕ) → eqb b 34 ≡ false → eqb b 104 ≡ false → Is (source_in (b ∷ bs)) → ⊥
no_source b bs no_quote no_hex h = elim (cases_Bool (is_utf8 h.0)) [
  | inl u ↦
      let first : b ≡ 34 = ap (λ l. get_or l 0 0) (source_takes (b ∷ bs) h.0 h.1 ∙ cond-true (is_utf8 h.0) (quoted h.0) (in_hex h.0) u) in
      unlike b 34 no_quote first
  | inr n ↦
      let first : b ≡ 104 = ap (λ l. get_or l 0 0) (source_takes (b ∷ bs) h.0 h.1 ∙ cond-false (is_utf8 h.0) (quoted h.0) (in_hex h.0) n) in
      unlike b 104 no_hex first
]

-- the first byte is neither a quote nor the `h` of `hex(`
pub no_escape : (b : ℕ) (bs : List ℕ) → eqb b 34 ≡ false → eqb b 104 ≡ false → Is (text_in (b ∷ bs)) ⊎ Is (source_in (b ∷ bs)) → ⊥
no_escape b bs no_quote no_hex (inl h) = no_text b bs no_quote h
no_escape b bs no_quote no_hex (inr h) = no_source b bs no_quote no_hex h

pub no_event : (old : Bool) (field : List ℕ) → any_event_word field ≡ None → Is (event_word_in old field) → ⊥
unfolding event_word_in
no_event old field none h =
    let bad : None ≡ Some h.0 = sym (ap (option_and_then (events.if_known old)) none) ∙ h.1 in
    cc

pub no_reply : (old : Bool) (field : List ℕ) → any_reply_word field ≡ None → Is (reply_word_in old field) → ⊥
unfolding reply_word_in
no_reply old field none h =
    let bad : None ≡ Some h.0 = sym (ap (option_and_then (replies.if_known old)) none) ∙ h.1 in
    cc

-- a field of no kind
pub record Odd (field : List ℕ) : Type 0 where
  pub number : Is (number_in field) → ⊥
  pub name : Is (name_in field) → ⊥
  pub escape : Is (text_in field) ⊎ Is (source_in field) → ⊥
  pub event : any_event_word field ≡ None
  pub reply : any_reply_word field ≡ None

pub odd : (b : ℕ) (bs : List ℕ) → is_ascii_digit b ≡ false → eqb b 34 ≡ false → eqb b 104 ≡ false → list_all is_ordinary (b ∷ bs) ≡ false → any_event_word (b ∷ bs) ≡ None → any_reply_word (b ∷ bs) ≡ None → Odd (b ∷ bs)
odd b bs no_digit no_quote no_hex cut no_event no_reply = record {
  number = no_number b bs no_digit;
  name = no_name (b ∷ bs) cut;
  escape = no_escape b bs no_quote no_hex;
  event = no_event;
  reply = no_reply;
}
