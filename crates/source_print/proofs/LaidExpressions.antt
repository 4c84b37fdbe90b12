-- What is printed of an expression is a row.
use Rattle.std.proofs.Common.{◌≡◌, refl, sym, subst, ℕ, ◌+◌, Bool, true, List, [], ◌∷◌, ◌++◌, map, flat_map}
use Rattle.py_syntax.specs.declared.lexeme.Lexeme.{Lexeme}
use Rattle.py_syntax.specs.declared.lexeme.Lexeme.TheVariants as token
use Rattle.py_syntax.specs.declared.expr.Expr.{Expr, roll-Expr, map-Expr}
use Rattle.py_syntax.specs.declared.expr.Expr.TheVariants as tree
use Rattle.py_syntax.specs.declared.expr.Expr.TheVariants.{rolls-Name, rolls-Number, rolls-Str, rolls-Nothing, rolls-True, rolls-False, rolls-Tuple, rolls-List, rolls-Attribute, rolls-Call, rolls-Subscript, rolls-Negative, rolls-Binary, rolls-Compare, rolls-Not, rolls-And, rolls-Or}
use Rattle.py_syntax.specs.declared.expr.Expr.TheOpen.{Expr-F}
use Rattle.py_syntax.specs.declared.expr.BinaryOp.TheVariants as op
use Rattle.py_syntax.specs.declared.expr.Comparison.{Comparison}
use Rattle.py_syntax.specs.declared.expr.Comparison.TheVariants as comparing
use Rattle.py_syntax.specs.declared.expr.Level.{Level}
use Rattle.py_syntax.specs.declared.expr.Spelled.{Spelled}
use Rattle.py_syntax.specs.Expressions as grammar
use Rattle.py_syntax.specs.Expressions.{IsOperator, IsComparator, IsChain, IsOperand, IsInversion, IsComparison, IsFactor, IsPrimary, IsItems}
use Rattle.source_print.specs.Expressions.{Printed, grouped, comparator, items, printed_at, print_of, expr_tokens}
use Rattle.source_print.proofs.Expressions.{layer}
use Rattle.source_print.specs.Lines as line
use Rattle.source_print.specs.Lines.{Held, Row, is_fixed}
use Rattle.source_print.proofs.LaidRows.{held_front, held_back, row_behind, sign_row, parens_row, brackets_row, operand_row}

none_fixed : is_fixed token.None ≡ true
unfolding is_fixed
none_fixed = refl

true_fixed : is_fixed token.True ≡ true
unfolding is_fixed
true_fixed = refl

false_fixed : is_fixed token.False ≡ true
unfolding is_fixed
false_fixed = refl

abbrev EachRow : (Lexeme → Type 0) → List Expr → Type 0
EachRow P [] = Unit {0}
EachRow P (e ∷ es) = Row P (expr_tokens e) × EachRow P es

module _ (P : Lexeme → Type 0) where
  -- one layer
  row_of : (d : Expr-F Expr) (e : Expr) → roll-Expr d ≡ e → Row P (printed_at (map-Expr Expr Printed print_of d)).tokens → Row P (expr_tokens e)
  row_of d e is h = subst (λ p. Row P p.tokens) (sym (layer d e is)) h

  grouped_row : (n : ℕ) (sign : Lexeme) (a b : Expr) → is_fixed sign ≡ true → Row P (expr_tokens a) → Row P (expr_tokens b) → Row P (grouped n sign (print_of a) (print_of b)).tokens
  grouped_row n sign a b f h k = row_behind (operand_row n (print_of a) h) (sign_row sign f (operand_row (n + 1) (print_of b) k))

  joined_row : {at : Level} {t : Lexeme} {f : Expr → Expr → Expr} (a b : Expr) → IsOperator at t f → Row P (expr_tokens a) → Row P (expr_tokens b) → Row P (expr_tokens (f a b))
  unfolding is_fixed
  joined_row a b grammar.disjunction h k = row_of (Expr-F.Or a b) (tree.Or a b) (rolls-Or a b) (grouped_row 1 token.Or a b refl h k)
  joined_row a b grammar.conjunction h k = row_of (Expr-F.And a b) (tree.And a b) (rolls-And a b) (grouped_row 2 token.And a b refl h k)
  joined_row a b grammar.add h k = row_of (Expr-F.Binary op.Add a b) (tree.Binary op.Add a b) (rolls-Binary op.Add a b) (grouped_row 5 token.Plus a b refl h k)
  joined_row a b grammar.subtract h k = row_of (Expr-F.Binary op.Sub a b) (tree.Binary op.Sub a b) (rolls-Binary op.Sub a b) (grouped_row 5 token.Minus a b refl h k)
  joined_row a b grammar.multiply h k = row_of (Expr-F.Binary op.Mul a b) (tree.Binary op.Mul a b) (rolls-Binary op.Mul a b) (grouped_row 6 token.Star a b refl h k)
  joined_row a b grammar.divide h k = row_of (Expr-F.Binary op.FloorDiv a b) (tree.Binary op.FloorDiv a b) (rolls-Binary op.FloorDiv a b) (grouped_row 6 token.SlashSlash a b refl h k)
  joined_row a b grammar.modulo h k = row_of (Expr-F.Binary op.Mod a b) (tree.Binary op.Mod a b) (rolls-Binary op.Mod a b) (grouped_row 6 token.Percent a b refl h k)

  comparator_row : (c : Comparison) → Row P (comparator c)
  unfolding is_fixed
  comparator_row comparing.Eq = sign_row token.EqEq refl line.nothing
  comparator_row comparing.Ne = sign_row token.NotEq refl line.nothing
  comparator_row comparing.Lt = sign_row token.Less refl line.nothing
  comparator_row comparing.Le = sign_row token.LessEq refl line.nothing
  comparator_row comparing.Gt = sign_row token.Greater refl line.nothing
  comparator_row comparing.Ge = sign_row token.GreaterEq refl line.nothing
  comparator_row comparing.In = sign_row token.In refl line.nothing
  comparator_row comparing.NotIn = sign_row token.Not refl (sign_row token.In refl line.nothing)
  comparator_row comparing.Is = sign_row token.Is refl line.nothing
  comparator_row comparing.IsNot = sign_row token.Is refl (sign_row token.Not refl line.nothing)

  others_row : (es : List Expr) → EachRow P es → Row P (flat_map (λ p. token.Comma ∷ p.tokens) (map print_of es))
  unfolding is_fixed
  others_row [] h = line.nothing
  others_row (e ∷ es) h = sign_row token.Comma refl (row_behind h.0 (others_row es h.1))

  items_row : (es : List Expr) → EachRow P es → Row P (items (map print_of es))
  items_row [] h = line.nothing
  items_row (e ∷ es) h = row_behind h.0 (others_row es h.1)

  -- each part of a tuple
  tuple_row : (e : Expr) (es : List Expr) → Row P (expr_tokens e) → EachRow P es → Row P (expr_tokens (tree.Tuple (e ∷ es)))
  unfolding is_fixed
  tuple_row e es h k = row_of (Expr-F.Tuple (e ∷ es)) (tree.Tuple (e ∷ es)) (rolls-Tuple (e ∷ es)) (parens_row (row_behind h (sign_row token.Comma refl (items_row es k))))

  attribute_row : (e : Expr) (n : List ℕ) → Row P (expr_tokens e) → P (token.Name n) → Row P (expr_tokens (tree.Attribute e n))
  unfolding is_fixed
  attribute_row e n h p = row_of (Expr-F.Attribute e n) (tree.Attribute e n) (rolls-Attribute e n) (row_behind (operand_row 8 (print_of e) h) (sign_row token.Dot refl (line.plain (line.name p) line.nothing)))

  negative_row : (e : Expr) → Row P (expr_tokens e) → Row P (expr_tokens (tree.Negative e))
  unfolding is_fixed
  negative_row e h = row_of (Expr-F.Negative e) (tree.Negative e) (rolls-Negative e) (sign_row token.Minus refl (operand_row 7 (print_of e) h))

  not_row : (e : Expr) → Row P (expr_tokens e) → Row P (expr_tokens (tree.Not e))
  unfolding is_fixed
  not_row e h = row_of (Expr-F.Not e) (tree.Not e) (rolls-Not e) (sign_row token.Not refl (operand_row 3 (print_of e) h))

  compare_row : (c : Comparison) (a b : Expr) → Row P (expr_tokens a) → Row P (expr_tokens b) → Row P (expr_tokens (tree.Compare c a b))
  compare_row c a b h k = row_of (Expr-F.Compare c a b) (tree.Compare c a b) (rolls-Compare c a b) (row_behind (operand_row 5 (print_of a) h) (row_behind (comparator_row c) (operand_row 5 (print_of b) k)))

  call_row : (e : Expr) (es : List Expr) → Row P (expr_tokens e) → EachRow P es → Row P (expr_tokens (tree.Call e es))
  call_row e es h k = row_of (Expr-F.Call e es) (tree.Call e es) (rolls-Call e es) (row_behind (operand_row 8 (print_of e) h) (parens_row (items_row es k)))

  subscript_row : (e x : Expr) → Row P (expr_tokens e) → Row P (expr_tokens x) → Row P (expr_tokens (tree.Subscript e x))
  subscript_row e x h k = row_of (Expr-F.Subscript e x) (tree.Subscript e x) (rolls-Subscript e x) (row_behind (operand_row 8 (print_of e) h) (brackets_row k))

  word_row : (d : Expr-F Expr) (e : Expr) (t : Lexeme) → roll-Expr d ≡ e → (printed_at (map-Expr Expr Printed print_of d)).tokens ≡ t ∷ [] → is_fixed t ≡ true → Row P (expr_tokens e)
  word_row d e t rolls is f = row_of d e rolls (subst (Row P) (sym is) (sign_row t f line.nothing))

  mutual
    pub chain_row : {at : Level} {room : ℕ} {ts : List Lexeme} {e : Spelled} → IsChain at room ts e → Held P ts → Row P (expr_tokens e.tree)
    chain_row (grammar.alone h) p = operand_is_row h p
    chain_row (grammar.joined {xs = xs} {ys = ys} {t = t} {a = a} {b = b} h o k) p = joined_row a.tree b.tree o (chain_row h (held_front P xs (t ∷ ys) p)) (operand_is_row k (held_back P xs (t ∷ ys) p).1)

    operand_is_row : {at : Level} {room : ℕ} {ts : List Lexeme} {e : Spelled} → IsOperand at room ts e → Held P ts → Row P (expr_tokens e.tree)
    operand_is_row (grammar.of_or h) p = chain_row h p
    operand_is_row (grammar.of_and h) p = inversion_row h p
    operand_is_row (grammar.of_sum h) p = chain_row h p
    operand_is_row (grammar.of_term h) p = factor_row h p

    inversion_row : {room : ℕ} {ts : List Lexeme} {e : Spelled} → IsInversion room ts e → Held P ts → Row P (expr_tokens e.tree)
    inversion_row (grammar.inverted {e = e} h) p = not_row e.tree (inversion_row h p.1)
    inversion_row (grammar.comparison h) p = comparison_row h p

    comparison_row : {room : ℕ} {ts : List Lexeme} {e : Spelled} → IsComparison room ts e → Held P ts → Row P (expr_tokens e.tree)
    comparison_row (grammar.sum h) p = chain_row h p
    comparison_row (grammar.compared {xs = xs} {os = os} {ys = ys} {c = c} {a = a} {b = b} h o k) p =
        compare_row c a.tree b.tree (chain_row h (held_front P xs (os ++ ys) p)) (chain_row k (held_back P os ys (held_back P xs (os ++ ys) p)))

    factor_row : {room : ℕ} {ts : List Lexeme} {e : Spelled} → IsFactor room ts e → Held P ts → Row P (expr_tokens e.tree)
    factor_row (grammar.negative {e = e} h) p = negative_row e.tree (factor_row h p.1)
    factor_row (grammar.primary h) p = primary_row h p

    pub primary_row : {room : ℕ} {ts : List Lexeme} {e : Spelled} → IsPrimary room ts e → Held P ts → Row P (expr_tokens e.tree)
    primary_row (grammar.name n) p = row_of (Expr-F.Name n) (tree.Name n) (rolls-Name n) (line.plain (line.name p.0) line.nothing)
    primary_row (grammar.number n) p = row_of (Expr-F.Number n) (tree.Number n) (rolls-Number n) (line.plain (line.number p.0) line.nothing)
    primary_row (grammar.string s) p = row_of (Expr-F.Str s) (tree.Str s) (rolls-Str s) (line.plain (line.string p.0) line.nothing)
    primary_row grammar.none p = word_row Expr-F.Nothing tree.Nothing token.None rolls-Nothing refl none_fixed
    primary_row grammar.yes p = word_row Expr-F.True tree.True token.True rolls-True refl true_fixed
    primary_row grammar.no p = word_row Expr-F.False tree.False token.False rolls-False refl false_fixed
    primary_row (grammar.parens {ts = ts} h) p = chain_row h (held_front P ts (token.CloseParen ∷ []) p.1)
    primary_row grammar.empty_tuple p = row_of (Expr-F.Tuple []) (tree.Tuple []) (rolls-Tuple []) (parens_row line.nothing)
    primary_row (grammar.tuple {ts = ts} {us = us} {e = e} {es = es} h k) p =
        let inside : Held P (ts ++ token.Comma ∷ us) = held_front P (ts ++ token.Comma ∷ us) (token.CloseParen ∷ []) p.1 in
        tuple_row e.tree es (chain_row h (held_front P ts (token.Comma ∷ us) inside)) (each_row k (held_back P ts (token.Comma ∷ us) inside).1)
    primary_row (grammar.display {ts = ts} {es = es} h) p = row_of (Expr-F.List es) (tree.List es) (rolls-List es) (brackets_row (items_row es (each_row h (held_front P ts (token.CloseBracket ∷ []) p.1))))
    primary_row (grammar.attribute {ts = ts} {e = e} n h) p =
        let behind : Held P (token.Dot ∷ token.Name n ∷ []) = held_back P ts (token.Dot ∷ token.Name n ∷ []) p in
        attribute_row e.tree n (primary_row h (held_front P ts (token.Dot ∷ token.Name n ∷ []) p)) behind.1.0
    primary_row (grammar.call {ts = ts} {us = us} {e = e} {es = es} h k) p =
        let behind : Held P (token.OpenParen ∷ (us ++ token.CloseParen ∷ [])) = held_back P ts (token.OpenParen ∷ (us ++ token.CloseParen ∷ [])) p in
        call_row e.tree es (primary_row h (held_front P ts (token.OpenParen ∷ (us ++ token.CloseParen ∷ [])) p)) (each_row k (held_front P us (token.CloseParen ∷ []) behind.1))
    primary_row (grammar.subscript {ts = ts} {us = us} {e = e} {x = x} h k) p =
        let behind : Held P (token.OpenBracket ∷ (us ++ token.CloseBracket ∷ [])) = held_back P ts (token.OpenBracket ∷ (us ++ token.CloseBracket ∷ [])) p in
        subscript_row e.tree x.tree (primary_row h (held_front P ts (token.OpenBracket ∷ (us ++ token.CloseBracket ∷ [])) p)) (chain_row k (held_front P us (token.CloseBracket ∷ []) behind.1))

    each_row : {room : ℕ} {ts : List Lexeme} {es : List Expr} {is_open : Bool} → IsItems room ts es is_open → Held P ts → EachRow P es
    each_row grammar.no_items p = tt
    each_row (grammar.last_item h) p = (chain_row h p, tt)
    each_row (grammar.next_item {ts = ts} {us = us} h k) p = (chain_row h (held_front P ts (token.Comma ∷ us) p), each_row k (held_back P ts (token.Comma ∷ us) p).1)
