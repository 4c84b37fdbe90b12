-- Expressions that are printed from their innermost left sides on.
use Rattle.std.proofs.Common.{◌≡◌, ◌∙◌, refl, sym, ap, subst, ℕ, ◌≤◌, nat_lt, if◌then◌else◌, Bool, true, false, Option, Some, None, List, [], ◌∷◌, ◌++◌, append_assoc, append-nil, map, Bor}
use Rattle.std.proofs.lemmas.List.{map_push}
use Rattle.py_syntax.specs.declared.lexeme.Lexeme.{Lexeme}
use Rattle.py_syntax.specs.declared.lexeme.Lexeme.TheVariants as token
use Rattle.py_syntax.specs.declared.expr.Expr.{Expr, out-Expr, map-Expr, size-Expr, fold_out-Expr}
use Rattle.py_syntax.specs.declared.expr.Expr.TheOpen.{Expr-F}
use Rattle.source_print.specs.Expressions.{Printed, enclosed, operand, printed_at, print_of, expr_tokens}
use Rattle.source_print.specs.Parts.{left_at, left, own_at, own, parenthesis, closing, behind, NoDeeper}

-- ---- an expression is its left side, and what stands behind it

abbrev joined : Option (Expr × ℕ) → List Lexeme → List Lexeme
joined None ts = ts
joined (Some (e, n)) ts = operand n (print_of e) ++ ts

parted_at : (d : Expr-F Expr) → (printed_at (map-Expr Expr Printed print_of d)).tokens ≡ joined (left_at d) (own_at d)
parted_at (Expr-F.Name n) = refl
parted_at (Expr-F.Number n) = refl
parted_at (Expr-F.Str s) = refl
parted_at Expr-F.Nothing = refl
parted_at Expr-F.True = refl
parted_at Expr-F.False = refl
parted_at (Expr-F.Tuple es) = refl
parted_at (Expr-F.List es) = refl
parted_at (Expr-F.Attribute e n) = refl
parted_at (Expr-F.Call e es) = refl
parted_at (Expr-F.Subscript e x) = refl
parted_at (Expr-F.Negative e) = refl
parted_at (Expr-F.Binary o a b) = refl
parted_at (Expr-F.Compare c a b) = refl
parted_at (Expr-F.Not e) = refl
parted_at (Expr-F.And a b) = refl
parted_at (Expr-F.Or a b) = refl

parted : (e : Expr) (l : Option (Expr × ℕ)) → left e ≡ l → expr_tokens e ≡ joined l (own e)
parted e l is = ap (λ p. p.tokens) (fold_out-Expr Printed printed_at e) ∙ parted_at (out-Expr e) ∙ ap (λ x. joined x (own e)) is

operand_by : (b : Bool) (ts : List Lexeme) → (if b then enclosed token.OpenParen ts token.CloseParen else ts) ≡ (if b then token.OpenParen ∷ [] else []) ++ (ts ++ (if b then token.CloseParen ∷ [] else []))
operand_by true ts = refl
operand_by false ts = sym (append-nil ts)

operand_is : (n : ℕ) (p : Printed) → operand n p ≡ parenthesis token.OpenParen n p ++ (p.tokens ++ parenthesis token.CloseParen n p)
operand_is n p = operand_by (nat_lt p.strength n) p.tokens

-- ---- what stands behind

abbrev end_of : Expr → List Lexeme
end_of e = closing (left e) ++ own e

behind_push : (es : List Expr) (e : Expr) → behind (es ++ e ∷ []) ≡ end_of e ++ behind es
behind_push [] e = sym (append-nil (end_of e))
behind_push (x ∷ es) e = ap (λ ts. ts ++ end_of x) (behind_push es e) ∙ append_assoc (end_of e) (behind es) (end_of x)

regrouped : (o p t c w r : List Lexeme) → (o ++ p) ++ (t ++ ((c ++ w) ++ r)) ≡ o ++ (((p ++ (t ++ c)) ++ w) ++ r)
regrouped o p t c w r = simp append_assoc

down : (out : List Lexeme) (es : List Expr) (e l : Expr) (n : ℕ) → left e ≡ Some (l, n)
    → (out ++ parenthesis token.OpenParen n (print_of l)) ++ (expr_tokens l ++ behind (es ++ e ∷ [])) ≡ out ++ (expr_tokens e ++ behind es)
down out es e l n is =
    let opening : List Lexeme = parenthesis token.OpenParen n (print_of l) in
    let closed : List Lexeme = parenthesis token.CloseParen n (print_of l) in
    ap (λ ts. (out ++ opening) ++ (expr_tokens l ++ ts)) (behind_push es e ∙ ap (λ x. (closing x ++ own e) ++ behind es) is)
    ∙ regrouped out opening (expr_tokens l) closed (own e) (behind es)
    ∙ ap (λ ts. out ++ (ts ++ behind es)) (ap (λ ts. ts ++ own e) (sym (operand_is n (print_of l))) ∙ sym (parted e (Some (l, n)) is))

lowest : (out : List Lexeme) (es : List Expr) (e : Expr) → left e ≡ None → out ++ behind (es ++ e ∷ []) ≡ out ++ (expr_tokens e ++ behind es)
lowest out es e is = ap (λ ts. out ++ ts) (behind_push es e ∙ ap (λ x. (closing x ++ own e) ++ behind es) is ∙ ap (λ ts. ts ++ behind es) (sym (parted e None is)))

up : (out : List Lexeme) (es : List Expr) (e : Expr) → ((out ++ closing (left e)) ++ own e) ++ behind es ≡ out ++ behind (es ++ e ∷ [])
up out es e =
    ap (λ ts. ts ++ behind es) (append_assoc out (closing (left e)) (own e)) ∙ append_assoc out (end_of e) (behind es) ∙ ap (λ ts. out ++ ts) (sym (behind_push es e))

-- ---- depths

deeper_push : (n : ℕ) (es : List Expr) (e : Expr) → NoDeeper n es → size-Expr e ≤ n → NoDeeper n (es ++ e ∷ [])
deeper_push n [] e h k = (k, tt)
deeper_push n (x ∷ es) e h k = (h.0, deeper_push n es e h.1 k)

deeper_before : (n : ℕ) (es : List Expr) (e : Expr) → NoDeeper n (es ++ e ∷ []) → NoDeeper n es
deeper_before n [] e h = tt
deeper_before n (x ∷ es) e h = (h.0, deeper_before n es e h.1)

deeper_last : (n : ℕ) (es : List Expr) (e : Expr) → NoDeeper n (es ++ e ∷ []) → size-Expr e ≤ n
deeper_last n [] e h = h.0
deeper_last n (x ∷ es) e h = deeper_last n es e h.1

-- ---- in the code the expressions are behind references

abbrev pub seen : List (Bor Expr) → List Expr
seen ps = map (λ p. p.now) ps

seen_push : (ps qs : List (Bor Expr)) (p : Bor Expr) → qs ≡ ps ++ p ∷ [] → seen qs ≡ seen ps ++ p.now ∷ []
seen_push ps qs p is = ap seen is ∙ map_push (λ x. x.now) ps p

-- one left side further down
pub went_down : (out new whole : List Lexeme) (ps qs : List (Bor Expr)) (p l : Bor Expr) (n : ℕ) → qs ≡ ps ++ p ∷ [] → left p.now ≡ Some (l.now, n)
    → new ≡ out ++ parenthesis token.OpenParen n (print_of l.now) → out ++ (expr_tokens p.now ++ behind (seen ps)) ≡ whole → new ++ (expr_tokens l.now ++ behind (seen qs)) ≡ whole
went_down out new whole ps qs p l n pushed is put before =
    ap (λ ts. ts ++ (expr_tokens l.now ++ behind (seen qs))) put
    ∙ ap (λ es. (out ++ parenthesis token.OpenParen n (print_of l.now)) ++ (expr_tokens l.now ++ behind es)) (seen_push ps qs p pushed)
    ∙ down out (seen ps) p.now l.now n is ∙ before

-- an expression that has no left side
pub came_down : (out whole : List Lexeme) (ps qs : List (Bor Expr)) (p : Bor Expr) → qs ≡ ps ++ p ∷ [] → left p.now ≡ None
    → out ++ (expr_tokens p.now ++ behind (seen ps)) ≡ whole → out ++ behind (seen qs) ≡ whole
came_down out whole ps qs p pushed is before = ap (λ es. out ++ behind es) (seen_push ps qs p pushed) ∙ lowest out (seen ps) p.now is ∙ before

-- one expression further up
pub went_up : (out mid new whole : List Lexeme) (ps qs : List (Bor Expr)) (p : Bor Expr) → qs ≡ ps ++ p ∷ [] → mid ≡ out ++ closing (left p.now)
    → new ≡ mid ++ own p.now → out ++ behind (seen qs) ≡ whole → new ++ behind (seen ps) ≡ whole
went_up out mid new whole ps qs p popped closed put before =
    ap (λ ts. ts ++ behind (seen ps)) (put ∙ ap (λ ts. ts ++ own p.now) closed) ∙ up out (seen ps) p.now ∙ ap (λ es. out ++ behind es) (sym (seen_push ps qs p popped)) ∙ before

pub within_push : (n : ℕ) (ps qs : List (Bor Expr)) (p : Bor Expr) → qs ≡ ps ++ p ∷ [] → NoDeeper n (seen ps) → size-Expr p.now ≤ n → NoDeeper n (seen qs)
within_push n ps qs p is h k = subst (NoDeeper n) (sym (seen_push ps qs p is)) (deeper_push n (seen ps) p.now h k)

pub within_before : (n : ℕ) (ps qs : List (Bor Expr)) (p : Bor Expr) → qs ≡ ps ++ p ∷ [] → NoDeeper n (seen qs) → NoDeeper n (seen ps)
within_before n ps qs p is h = deeper_before n (seen ps) p.now (subst (NoDeeper n) (seen_push ps qs p is) h)

pub within_last : (n : ℕ) (ps qs : List (Bor Expr)) (p : Bor Expr) → qs ≡ ps ++ p ∷ [] → NoDeeper n (seen qs) → size-Expr p.now ≤ n
within_last n ps qs p is h = deeper_last n (seen ps) p.now (subst (NoDeeper n) (seen_push ps qs p is) h)
