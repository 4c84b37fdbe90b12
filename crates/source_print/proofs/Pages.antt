-- What is written on a page is the text of the lexemes.
use Rattle.std.proofs.Common.{◌≡◌, ◌∙◌, refl, sym, ap, ℕ, suc, ◌+◌, true, false, List, [], ◌∷◌, ◌++◌, append_assoc, append-nil, fold, arith}
use Rattle.py_syntax.specs.declared.lexeme.Lexeme.{Lexeme}
use Rattle.py_syntax.specs.declared.lexeme.Lexeme.TheVariants as token
use Rattle.source_print.specs.Spelling.{spelled}
use Rattle.source_print.specs.Text.{lead, rendered}
use Rattle.source_print.specs.declared.page.Page.{Page}
use Rattle.source_print.specs.Page.{written}

-- a lexeme that is written, and then others
abbrev Goes_on : Page → Lexeme → List Lexeme → Type 0
Goes_on page t ts = (written page t).text ++ rendered (written page t).depth (written page t).is_first ts ≡ page.text ++ rendered page.depth page.is_first (t ∷ ts)

plain_goes_on : (page : Page) (t : Lexeme) (rest : List ℕ) → ((page.text ++ lead page.depth page.is_first) ++ spelled t) ++ rest ≡ page.text ++ (lead page.depth page.is_first ++ (spelled t ++ rest))
plain_goes_on page t rest = simp append_assoc

goes_on : (page : Page) (t : Lexeme) (ts : List Lexeme) → Goes_on page t ts
unfolding rendered
goes_on page token.Newline ts = append_assoc page.text (10 ∷ []) (rendered page.depth true ts)
goes_on page token.Indent ts =
    let next : page.depth + 1 ≡ suc page.depth = omega arith in
    ap (λ d. page.text ++ rendered d page.is_first ts) next
goes_on page token.Dedent ts = refl
goes_on page token.End ts = refl
goes_on page t ts = plain_goes_on page t (rendered page.depth false ts)

pub written_text : (page : Page) (ts : List Lexeme) → (fold written page ts).text ≡ page.text ++ rendered page.depth page.is_first ts
unfolding rendered
written_text page [] = sym (append-nil page.text)
written_text page (t ∷ ts) = written_text (written page t) ts ∙ goes_on page t ts
