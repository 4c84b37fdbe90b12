-- Each form of simple statement is read rightly.
use Rattle.std.proofs.Common.{◌≡◌, ℕ, zero, suc, ◌+◌, ◌<◌, ◌&&◌, not, Bool, true, false, List, [], ◌∷◌, ◌++◌, length, Option, Some, None, Result, Ok, Err, refl, sym, ap, subst, ◌∙◌, append_assoc, append-nil, arith, length-append}
use Rattle.std.specs.Prelude.{if◌then◌else◌}
use Rattle.source_combinators.specs.declared.fault.Fault.{Fault}
use Rattle.source_combinators.specs.declared.fault.Refusal.TheVariants.{TooDeep, Syntax}
use Rattle.source_combinators.specs.Reading.{Read, ◌>>=◌, given, refused, too_deep, head_of}
use Rattle.source_combinators.specs.Many.{rounds}
use Rattle.source_combinators.specs.Separated.{separated, listed, IsSeparated, one, more, IsListed, single, sep_last, several}
use Rattle.source_combinators.proofs.Right.{at_head, at_end, alike, Found, Goes_on, Stuck, Right, refuses, refuses_end, refuses_level, level, chosen, IsSequence, sequence}
use Rattle.source_combinators.proofs.Steps.{nothing, IsNothing, nothing_right, nothing_goes_on, IsToken, token_goes_on, token_there, token_missing, token_cut, none_read, none_at_end, one_read}
use Rattle.source_combinators.proofs.Many.{IsRounds, bind_pair, bind_pairs, right_many}
use Rattle.source_combinators.proofs.Forms.{Grows, AllRight, right_then, prefixed, enclosed, right_optional, as_named, widened}
use Rattle.source_combinators.proofs.Separated.{right_separated}
use Rattle.source_combinators.proofs.Listed.{IsOptional, there, left_out, right_listed}
use Rattle.py_syntax.specs.declared.lexeme.Lexeme.{Lexeme}
use Rattle.py_syntax.specs.declared.lexeme.Lexeme.TheVariants as token
use Rattle.py_syntax.specs.declared.expr.Expr.{Expr}
use Rattle.py_syntax.specs.declared.expr.Expr.TheVariants as exprs
use Rattle.py_syntax.specs.declared.expr.BinaryOp.{BinaryOp}
use Rattle.py_syntax.specs.declared.expr.BinaryOp.TheVariants as op
use Rattle.py_syntax.specs.declared.expr.Spelled.{Spelled}
use Rattle.py_syntax.specs.declared.stmt.Alias.{Alias}
use Rattle.py_syntax.specs.declared.stmt.ImportedNames.{ImportedNames}
use Rattle.py_syntax.specs.declared.stmt.ImportedNames.TheVariants.{All, Listed}
use Rattle.py_syntax.specs.declared.stmt.Stmt.{Stmt}
use Rattle.py_syntax.specs.declared.stmt.Stmt.TheVariants as tree
use Rattle.py_syntax.specs.declared.context.Context.{Context}
use Rattle.py_syntax.specs.Expressions as expressions
use Rattle.py_syntax.specs.Expressions.{target, other, IsExpr, IsPrimary}
use Rattle.py_syntax.specs.Simple as grammar
use Rattle.py_syntax.specs.Simple.{IsAugmented, IsName, IsDotted, IsBound, IsAlias, IsDots, IsSource, IsItem, IsNames, IsSimple, IsLine}
use Rattle.source_spec_lines.specs.Expressions.{starts, comma, close_paren, primary, inner_of, expr, name_of, form, Whole}
use Rattle.source_spec_lines.proofs.ExpressionFamilies.{grows_chain, grows_primary}
use Rattle.source_spec_lines.proofs.TokenForms.{right_close_paren, IsComma, comma_there, no_comma, right_comma}
use Rattle.source_spec_lines.proofs.ExpressionRight.{right_form, right_primary, a_name, the_name, name_primary, name_expr}
use Rattle.source_spec_lines.proofs.ExpressionComplete.{is_inner}
use Rattle.source_spec_lines.proofs.Targets.{chain_target, bare_name}
use Rattle.source_spec_lines.specs.Lines.{name, dot_ahead, comma_ahead, name_ahead, dotted, bound, alias_of, alias, item, imported, dots_ahead, more_dots, dots, with_dots, parts_after, source, import_word, names_in_parens, plain_names, names, source_import, imported_from, bare_by, bare, augmented_by, assigned_by, after_expr, expr_first, deleted_by, deleted, some_value, value, returned, raised, may_return, simple, semicolon, goes_on, line}
use Rattle.source_spec_lines.proofs.LineFamilies.{grows_separated, grows_listed, grows_name, grows_bound, grows_alias, grows_item, grows_dots, grows_source, grows_names, grows_simple, some_simple, some_item}

-- ---- names

a_name_goes_on : (room : ℕ) → Goes_on IsName room []
a_name_goes_on room = record { more = token.Name (97 ∷ []) ∷ []; value = 97 ∷ []; spelled = grammar.name (97 ∷ []) }

pub right_name : (room : ℕ) → AllRight name IsName room
unfolding name
right_name room [] = refuses_end name IsName room (a_name_goes_on room) refl
right_name room (token.Name n ∷ ts) = one_read name IsName room n (token.Name n) ts (grammar.name n) (λ tail. refl)
right_name room (t ∷ ts) = refuses name IsName room t ts (a_name_goes_on room) (λ tail. refl)

pub is_dot : (t : Lexeme) → dot_ahead (Some t) ≡ true → t ≡ token.Dot
unfolding dot_ahead
is_dot token.Dot e = refl
is_dot t e = absurd cc

pub no_dot : dot_ahead None ≡ false
unfolding dot_ahead
no_dot = refl

pub is_comma : (t : Lexeme) → comma_ahead (Some t) ≡ true → t ≡ token.Comma
unfolding comma_ahead
is_comma token.Comma e = refl
is_comma t e = absurd cc

pub no_comma_ahead : comma_ahead None ≡ false
unfolding comma_ahead
no_comma_ahead = refl

pub right_dotted : (room : ℕ) → AllRight dotted IsDotted room
right_dotted room = right_separated token.Dot IsName name dot_ahead room is_dot no_dot grows_name (right_name room)

bound_by : (room : ℕ) (xs : List Lexeme) (n : List ℕ) → IsName room xs n → IsBound room (token.As ∷ xs) (Some n)
bound_by room xs n (grammar.name m) = grammar.bound m

pub right_bound : (room : ℕ) → AllRight bound IsBound room
unfolding bound
right_bound room [] = none_at_end bound IsBound room None grammar.own_name refl
right_bound room (token.As ∷ ts) = prefixed (token.As ∷ []) name IsName (λ n. Some n) bound IsBound (λ us. refl) bound_by grows_name room ts (right_name room ts)
right_bound room (t ∷ ts) = none_read bound IsBound room None t ts grammar.own_name (λ tail. refl)

own_name_goes_on : (room : ℕ) → Goes_on IsBound room []
own_name_goes_on room = record { more = []; value = None; spelled = grammar.own_name }

pub right_alias : (room : ℕ) → AllRight alias IsAlias room
unfolding alias
right_alias room ts =
    sequence {p = []} {F = dotted} {IsA = IsDotted} {G = λ ns. bound} {IsB = λ ns. IsBound} {f = alias_of} {H = alias} {IsC = IsAlias} (record {
      computes = λ us. refl;
      builds = λ n xs ys ns b h k. grammar.alias h k;
      grows = grows_separated grows_name;
      finishes = λ n ns. own_name_goes_on n;
    }) room ts (right_dotted room ts) (λ ns rest k. right_bound room rest)

item_by : (room : ℕ) (xs ys : List Lexeme) (n : List ℕ) (b : Option (List ℕ)) → IsName room xs n → IsBound room ys b → IsItem room (xs ++ ys) (alias_of (n ∷ []) b)
item_by room xs ys n b (grammar.name m) k = grammar.item m k

pub right_item : (room : ℕ) → AllRight item IsItem room
unfolding item
right_item room ts =
    sequence {p = []} {F = name} {IsA = IsName} {G = λ n. bound} {IsB = λ n. IsBound} {f = λ n b. alias_of (n ∷ []) b} {H = item} {IsC = IsItem} (record {
      computes = λ us. refl;
      builds = item_by;
      grows = grows_name;
      finishes = λ n m. own_name_goes_on n;
    }) room ts (right_name room ts) (λ n rest k. right_bound room rest)

-- ---- dots

pub data IsMoreDots : ℕ → ℕ → List Lexeme → ℕ → Type 0 where
  a_dot : {n room : ℕ} → IsMoreDots n room (token.Dot ∷ []) (n + 1)
  an_ellipsis : {n room : ℕ} → IsMoreDots n room (token.Ellipsis ∷ []) (n + 3)

right_more_dots : (n room : ℕ) (ts : List Lexeme) → dots_ahead n (head_of ts) ≡ true → Right (more_dots n) (IsMoreDots n) room ts (more_dots n ts)
unfolding more_dots dots_ahead
right_more_dots n room [] e = absurd cc
right_more_dots n room (token.Dot ∷ ts) e = one_read (more_dots n) (IsMoreDots n) room (n + 1) token.Dot ts a_dot (λ tail. refl)
right_more_dots n room (token.Ellipsis ∷ ts) e = one_read (more_dots n) (IsMoreDots n) room (n + 3) token.Ellipsis ts an_ellipsis (λ tail. refl)
right_more_dots n room (t ∷ ts) e = absurd cc

-- dots behind those that are counted already
pub record IsCounted (n room : ℕ) (ts : List Lexeme) (all : ℕ) : Type 0 where
  pub others : ℕ
  pub whole : all ≡ n + others
  pub spelled : IsDots room ts others

count_on : (room n m all : ℕ) (xs ys : List Lexeme) → IsMoreDots n room xs m → IsCounted m room ys all → IsCounted n room (xs ++ ys) all
count_on room n m all xs ys a_dot k = record { others = k.others + 1; whole = let w = k.whole in omega (arith, w); spelled = grammar.dot k.spelled }
count_on room n m all xs ys an_ellipsis k = record { others = k.others + 3; whole = let w = k.whole in omega (arith, w); spelled = grammar.ellipsis k.spelled }

takes_dots : (room n m : ℕ) (ts : List Lexeme) → IsMoreDots n room ts m → 0 < length ts
takes_dots room n m ts a_dot = omega arith
takes_dots room n m ts an_ellipsis = omega arith

grows_more_dots : (room n m : ℕ) (ts : List Lexeme) → IsMoreDots n room ts m → IsMoreDots n (suc room) ts m
grows_more_dots room n m ts a_dot = a_dot
grows_more_dots room n m ts an_ellipsis = an_ellipsis

pub dots_rounds : (room : ℕ) → IsRounds dots_ahead more_dots IsMoreDots IsCounted room
dots_rounds room = record {
  right = λ n ts e. right_more_dots n room ts e;
  takes = takes_dots room;
  grows = grows_more_dots;
  none = λ k n. record { others = 0; whole = omega arith; spelled = grammar.no_dots };
  more = count_on;
}

counted_all : (room : ℕ) (ts : List Lexeme) (all : ℕ) → IsCounted 0 room ts all → IsDots room ts all
counted_all room ts all k = subst (λ (n : ℕ). IsDots room ts n) (let w = k.whole in omega (arith, w)) k.spelled

dots_as_rounds : (us : List Lexeme) → dots us ≡ rounds dots_ahead more_dots 0 us
unfolding dots
dots_as_rounds us = refl

pub right_dots : (room : ℕ) → AllRight dots IsDots room
right_dots room =
    as_named (rounds dots_ahead more_dots 0) dots IsDots room dots_as_rounds
    (widened (rounds dots_ahead more_dots 0) (IsCounted 0) IsDots room counted_all (λ ts. right_many (dots_rounds room) 0 ts))

-- ---- sources

-- what makes a source behind so many dots
pub data IsPartsAfter : ℕ → ℕ → List Lexeme → ℕ × List (List ℕ) → Type 0 where
  with_parts : {n room : ℕ} {ts : List Lexeme} {ns : List (List ℕ)} → IsDotted room ts ns → IsPartsAfter n room ts (n, ns)
  no_parts : {n room : ℕ} → 0 < n → IsPartsAfter n room [] (n, [])

right_with_dots : (n room : ℕ) → AllRight (with_dots n) (IsPartsAfter n) room
right_with_dots n room ts = prefixed [] dotted IsDotted (λ ns. (n, ns)) (with_dots n) (IsPartsAfter n) (λ us. refl) (λ k xs ns h. with_parts h) (grows_separated grows_name) room ts (right_dotted room ts)

right_parts_after : (n room : ℕ) → AllRight (parts_after n) (IsPartsAfter n) room
unfolding parts_after
right_parts_after zero room ts = as_named (with_dots zero) (parts_after zero) (IsPartsAfter zero) room (λ us. refl) (right_with_dots zero room) ts
right_parts_after (suc n) room ts = right_optional (with_dots (suc n)) (parts_after (suc n)) (IsPartsAfter (suc n)) name_ahead (suc n, []) room (λ us. refl) (no_parts (omega arith)) (λ us e. right_with_dots (suc n) room us) ts

source_by : (room : ℕ) (xs ys : List Lexeme) (n : ℕ) (s : ℕ × List (List ℕ)) → IsDots room xs n → IsPartsAfter n room ys s → IsSource room (xs ++ ys) s
source_by room xs ys n s h (with_parts k) = grammar.named h k
source_by room xs ys n s h (no_parts k) = subst (λ (l : List Lexeme). IsSource room l (n, [])) (sym (append-nil xs)) (grammar.only_dots h k)

parts_go_on : (room n : ℕ) → Goes_on (IsPartsAfter n) room []
parts_go_on room n = record { more = token.Name (97 ∷ []) ∷ []; value = (n, (97 ∷ []) ∷ []); spelled = with_parts (one (grammar.name (97 ∷ []))) }

pub right_source : (room : ℕ) → AllRight source IsSource room
unfolding source
right_source room = right_then dots IsDots parts_after IsPartsAfter source IsSource (λ us. refl) source_by grows_dots parts_go_on room (right_dots room) (λ n ts. right_parts_after n room ts)

pub right_import_word : (room : ℕ) → AllRight import_word (IsToken token.Import) room
unfolding import_word
right_import_word room [] = token_cut import_word token.Import room refl
right_import_word room (token.Import ∷ ts) = token_there import_word token.Import room ts (λ tail. refl)
right_import_word room (t ∷ ts) = token_missing import_word token.Import t room ts (λ tail. refl)

-- ---- names of `from`

comma_optional : (n : ℕ) (xs : List Lexeme) (b : Bool) → IsComma n xs b → IsOptional token.Comma n xs b
comma_optional n xs b comma_there = there
comma_optional n xs b no_comma = left_out

pub right_comma_optional : (room : ℕ) → AllRight comma (IsOptional token.Comma) room
right_comma_optional room = widened comma IsComma (IsOptional token.Comma) room comma_optional (right_comma room)

pub right_listed_items : (room : ℕ) → AllRight (listed name_ahead item comma) (IsListed token.Comma IsItem) room
right_listed_items room = right_listed token.Comma IsItem item comma name_ahead room grows_item some_item (right_item room) (right_comma_optional room)

right_in_parens : (c : Context) (room : ℕ) (ts : List Lexeme) → Right (names c (suc room)) (IsNames c) (suc room) (token.OpenParen ∷ ts) (names c (suc room) (token.OpenParen ∷ ts))
unfolding names names_in_parens
right_in_parens c room ts =
    level (names c (suc room)) (IsNames c) room (token.OpenParen ∷ ts) (names c (suc room) (token.OpenParen ∷ ts))
    (enclosed (token.OpenParen ∷ []) token.CloseParen (listed name_ahead item comma) (IsListed token.Comma IsItem) close_paren (λ a. Listed a.0) (names c (suc room)) (λ n. IsNames c (suc n)) (λ us. refl) (λ n xs a h. grammar.in_parens h) (grows_listed grows_item) room (right_close_paren room) ts (right_listed_items room ts))

right_plain_names : (c : Context) (room : ℕ) → AllRight plain_names (IsNames c) room
unfolding plain_names
right_plain_names c room ts = prefixed [] (separated comma_ahead item) (IsSeparated token.Comma IsItem) (λ a. Listed a) plain_names (IsNames c) (λ us. refl) (λ n xs a h. grammar.plain h) (grows_separated grows_item) room ts (right_separated token.Comma IsItem item comma_ahead room is_comma no_comma_ahead grows_item (right_item room) ts)

an_item_there : (room : ℕ) → IsItem room (token.Name (97 ∷ []) ∷ []) (alias_of ((97 ∷ []) ∷ []) None)
an_item_there room = grammar.item (97 ∷ []) grammar.own_name

names_go_on : (c : Context) (room : ℕ) → Goes_on (IsNames c) room []
names_go_on c room = record { more = token.Name (97 ∷ []) ∷ []; value = Listed (alias_of ((97 ∷ []) ∷ []) None ∷ []); spelled = grammar.plain (one (an_item_there room)) }

names_as_plain : (c : Context) (room : ℕ) (ts : List Lexeme) → ((us : List Lexeme) → head_of us ≡ head_of ts → names c room us ≡ plain_names us) → Right (names c room) (IsNames c) room ts (plain_names ts)
names_as_plain c room ts e = chosen plain_names (names c room) (IsNames c) (IsNames c) room ts (plain_names ts) e (λ n xs a h. h) (right_plain_names c room ts)

right_star : (c : Context) (room : ℕ) (ts : List Lexeme) (b : Bool) → c.in_function ≡ b → Right (names c room) (IsNames c) room (token.Star ∷ ts) (if b then refused (token.Star ∷ ts) else given All ts)
unfolding names
right_star c room ts true e = refuses (names c room) (IsNames c) room token.Star ts (names_go_on c room) (λ tail. rw e refl)
right_star c room ts false e = one_read (names c room) (IsNames c) room All token.Star ts (grammar.all_names e) (λ tail. rw e refl)

pub right_names : (c : Context) (room : ℕ) → AllRight (names c room) (IsNames c) room
unfolding names
right_names c room (token.Star ∷ ts) = right_star c room ts c.in_function refl
right_names c zero (token.OpenParen ∷ ts) = refuses_level (names c 0) (IsNames c) 0 token.OpenParen ts (names_go_on c 0) (record { more = token.Name (97 ∷ []) ∷ token.CloseParen ∷ []; value = Listed (alias_of ((97 ∷ []) ∷ []) None ∷ []); spelled = grammar.in_parens (single (an_item_there 0)) }) (λ tail. refl)
right_names c (suc room) (token.OpenParen ∷ ts) = right_in_parens c room ts
right_names c zero [] = names_as_plain c 0 [] (λ us e. at_end (λ l. names c 0 l ≡ plain_names l) us e refl)
right_names c (suc room) [] = names_as_plain c (suc room) [] (λ us e. at_end (λ l. names c (suc room) l ≡ plain_names l) us e refl)
right_names c zero (t ∷ ts) = names_as_plain c 0 (t ∷ ts) (λ us e. at_head (λ l. names c 0 l ≡ plain_names l) t us e (λ tail. refl))
right_names c (suc room) (t ∷ ts) = names_as_plain c (suc room) (t ∷ ts) (λ us e. at_head (λ l. names c (suc room) l ≡ plain_names l) t us e (λ tail. refl))

-- ---- imports

-- a source and the word behind it
pub data IsSourceImport : ℕ → List Lexeme → ℕ × List (List ℕ) → Type 0 where
  source_import_at : {room : ℕ} {ts : List Lexeme} {s : ℕ × List (List ℕ)} → IsSource room ts s → IsSourceImport room (ts ++ token.Import ∷ []) s

pub right_source_import : (room : ℕ) → AllRight source_import IsSourceImport room
unfolding source_import
right_source_import room ts = enclosed [] token.Import source IsSource import_word (λ s. s) source_import IsSourceImport (λ us. refl) (λ n xs s h. source_import_at h) grows_source room (right_import_word room) ts (right_source room ts)

grows_source_import : Grows IsSourceImport
grows_source_import n ts s (source_import_at {ts = us} h) = source_import_at (grows_source n us s h)

from_by : (c : Context) (room : ℕ) (xs ys : List Lexeme) (s : ℕ × List (List ℕ)) (names : ImportedNames) → IsSourceImport room xs s → IsNames c room ys names → IsSimple c room (token.From ∷ (xs ++ ys)) (tree.From s.0 s.1 names)
from_by c room xs ys s names (source_import_at {ts = us} h) k = subst (λ (l : List Lexeme). IsSimple c room (token.From ∷ l) (tree.From s.0 s.1 names)) (sym (append_assoc us (token.Import ∷ []) ys)) (grammar.import_from h k)

right_from : (c : Context) (room : ℕ) (ts : List Lexeme) → Right (simple c room) (IsSimple c) room (token.From ∷ ts) (simple c room (token.From ∷ ts))
unfolding simple imported_from
right_from c room ts =
    sequence {p = token.From ∷ []} {F = source_import} {IsA = IsSourceImport} {G = λ s. names c room} {IsB = λ s. IsNames c} {f = λ s n. tree.From s.0 s.1 n} {H = simple c room} {IsC = IsSimple c} (record {
      computes = λ us. refl;
      builds = from_by c;
      grows = grows_source_import;
      finishes = λ n s. names_go_on c n;
    }) room ts (right_source_import room ts) (λ s rest k. right_names c room rest)

right_import : (c : Context) (room : ℕ) (ts : List Lexeme) → Right (simple c room) (IsSimple c) room (token.Import ∷ ts) (simple c room (token.Import ∷ ts))
unfolding simple imported
right_import c room ts = prefixed (token.Import ∷ []) (separated comma_ahead alias) (IsSeparated token.Comma IsAlias) (λ a. tree.Import a) (simple c room) (IsSimple c) (λ us. refl) (λ n xs a h. grammar.import_modules h) (grows_separated grows_alias) room ts (right_separated token.Comma IsAlias alias comma_ahead room is_comma no_comma_ahead grows_alias (right_alias room) ts)

-- ---- expressions and assignments

-- what makes a statement of the expression before it
pub data IsAfterExpr : Spelled → ℕ → List Lexeme → Stmt → Type 0 where
  nothing_after : {e : Spelled} {room : ℕ} → IsAfterExpr e room [] (tree.Evaluate e.tree)
  assigns : {e x : Spelled} {room : ℕ} {ts : List Lexeme} → e.is_target ≡ true → IsExpr room ts x → IsAfterExpr e room (token.Assign ∷ ts) (tree.Assign e.tree x.tree)
  augments : {e x : Spelled} {room : ℕ} {ts : List Lexeme} {t : Lexeme} {o : BinaryOp} {n : List ℕ} → bare e ≡ Some n → IsAugmented t o → IsExpr room ts x → IsAfterExpr e room (t ∷ ts) (tree.Augment n o x.tree)

nothing_goes : (e : Spelled) (room : ℕ) → Goes_on (IsAfterExpr e) room []
nothing_goes e room = record { more = []; value = tree.Evaluate e.tree; spelled = nothing_after }

right_assigned : (e : Spelled) (room : ℕ) (ts : List Lexeme) (b : Bool) → e.is_target ≡ b → Right (after_expr room e) (IsAfterExpr e) room (token.Assign ∷ ts) (assigned_by room b e.tree ts)
unfolding after_expr assigned_by
right_assigned e room ts false b = refuses (after_expr room e) (IsAfterExpr e) room token.Assign ts (nothing_goes e room) (λ tail. rw b refl)
right_assigned e room ts true b =
    subst (Right (after_expr room e) (IsAfterExpr e) room (token.Assign ∷ ts)) (rw b refl)
    (prefixed (token.Assign ∷ []) (expr room) IsExpr (λ x. tree.Assign e.tree x.tree) (after_expr room e) (IsAfterExpr e) (λ us. rw b refl) (λ n xs x h. assigns b h) (λ n xs x h. grows_chain h) room ts (right_form room Whole ts))

right_augmented : (e : Spelled) (room : ℕ) (ts : List Lexeme) (t : Lexeme) (o : BinaryOp) (n : Option (List ℕ)) → bare e ≡ n → IsAugmented t o → ((us : List Lexeme) → after_expr room e (t ∷ us) ≡ augmented_by room (bare e) o t us) → Right (after_expr room e) (IsAfterExpr e) room (t ∷ ts) (augmented_by room n o t ts)
unfolding augmented_by
right_augmented e room ts t o None b a c = refuses (after_expr room e) (IsAfterExpr e) room t ts (nothing_goes e room) (λ us. c us ∙ ap (λ (m : Option (List ℕ)). augmented_by room m o t us) b)
right_augmented e room ts t o (Some n) b a c =
    let by : (us : List Lexeme) → after_expr room e (t ∷ us) ≡ augmented_by room (Some n) o t us = λ us. c us ∙ ap (λ (m : Option (List ℕ)). augmented_by room m o t us) b in
    subst (Right (after_expr room e) (IsAfterExpr e) room (t ∷ ts)) (by ts)
    (prefixed (t ∷ []) (expr room) IsExpr (λ x. tree.Augment n o x.tree) (after_expr room e) (IsAfterExpr e) by (λ k xs x h. augments b a h) (λ k xs x h. grows_chain h) room ts (right_form room Whole ts))

no_assignment : (e : Spelled) (room : ℕ) (t : Lexeme) (ts : List Lexeme) → ((us : List Lexeme) → after_expr room e (t ∷ us) ≡ given (tree.Evaluate e.tree) (t ∷ us)) → Found (after_expr room e) (IsAfterExpr e) room (t ∷ ts) (tree.Evaluate e.tree) (t ∷ ts)
no_assignment e room t ts f = none_read (after_expr room e) (IsAfterExpr e) room (tree.Evaluate e.tree) t ts nothing_after f

right_after_expr : (e : Spelled) (room : ℕ) → AllRight (after_expr room e) (IsAfterExpr e) room
unfolding after_expr
right_after_expr e room [] = none_at_end (after_expr room e) (IsAfterExpr e) room (tree.Evaluate e.tree) nothing_after refl
right_after_expr e room (token.Assign ∷ ts) = right_assigned e room ts e.is_target refl
right_after_expr e room (token.PlusEq ∷ ts) = right_augmented e room ts token.PlusEq op.Add (bare e) refl grammar.add (λ us. refl)
right_after_expr e room (token.MinusEq ∷ ts) = right_augmented e room ts token.MinusEq op.Sub (bare e) refl grammar.subtract (λ us. refl)
right_after_expr e room (token.StarEq ∷ ts) = right_augmented e room ts token.StarEq op.Mul (bare e) refl grammar.multiply (λ us. refl)
right_after_expr e room (token.SlashSlashEq ∷ ts) = right_augmented e room ts token.SlashSlashEq op.FloorDiv (bare e) refl grammar.divide (λ us. refl)
right_after_expr e room (token.PercentEq ∷ ts) = right_augmented e room ts token.PercentEq op.Mod (bare e) refl grammar.modulo (λ us. refl)
right_after_expr e room (t ∷ ts) = no_assignment e room t ts (λ us. refl)

bare_target : (b : Bool) (e : Expr) (n : List ℕ) → bare_by b e ≡ Some n → (b ≡ true) × (name_of e ≡ Some n)
bare_target true e n h = (refl, h)
bare_target false e n h = absurd cc

with_expr : (c : Context) (room : ℕ) (xs ys : List Lexeme) (e : Spelled) (s : Stmt) → IsExpr room xs e → IsAfterExpr e room ys s → IsSimple c room (xs ++ ys) s
with_expr c room xs ys e s h nothing_after = subst (λ (l : List Lexeme). IsSimple c room l (tree.Evaluate e.tree)) (sym (append-nil xs)) (grammar.evaluate h)
with_expr c room xs ys e s h (assigns t k) = grammar.assign (chain_target h t) t k
with_expr c room xs ys e s h (augments {x = x} {ts = ts} {t = t} {o = o} {n = n} b a k) =
    let bare_e = bare_target e.is_target e.tree n b in
    subst (λ (l : List Lexeme). IsSimple c room (l ++ t ∷ ts) (tree.Augment n o x.tree)) (sym (bare_name n (chain_target h bare_e.0) bare_e.0 bare_e.1)) (grammar.augment n a k)

pub right_expr_first : (c : Context) (room : ℕ) → AllRight (expr_first room) (IsSimple c) room
unfolding expr_first
right_expr_first c room = right_then (expr room) IsExpr (after_expr room) IsAfterExpr (expr_first room) (IsSimple c) (λ us. refl) (with_expr c) (λ n xs e h. grows_chain h) (λ n e. nothing_goes e n) room (right_form room Whole) (λ e ts. right_after_expr e room ts)

-- ---- `del`

-- what makes a statement of the primary behind `del`
abbrev IsDeleted : Context → Spelled → ℕ → List Lexeme → Stmt → Type 0
IsDeleted c e room ts s = (xs : List Lexeme) → IsPrimary room xs e → IsSimple c room (token.Del ∷ (xs ++ ts)) s

deleted_goes_on : (c : Context) (e : Spelled) (room : ℕ) → Goes_on (IsDeleted c e) room []
deleted_goes_on c e room = record { more = token.Dot ∷ token.Name (97 ∷ []) ∷ []; value = tree.Delete (exprs.Attribute e.tree (97 ∷ [])); spelled = λ xs h. grammar.delete (expressions.attribute (97 ∷ []) h) refl }

deleted_by_flag : (c : Context) (e : Spelled) (room : ℕ) (b : Bool) → e.is_target ≡ b → AllRight (deleted_by b e.tree) (IsDeleted c e) room
deleted_by_flag c e room true b ts = record {
  front = [];
  parts = refl;
  spelled = λ xs h. subst (λ (l : List Lexeme). IsSimple c room (token.Del ∷ l) (tree.Delete e.tree)) (sym (append-nil xs)) (grammar.delete h b);
  again = λ more q. refl;
}
deleted_by_flag c e room false b [] = refuses_end (deleted_by false e.tree) (IsDeleted c e) room (deleted_goes_on c e room) refl
deleted_by_flag c e room false b (t ∷ ts) = refuses (deleted_by false e.tree) (IsDeleted c e) room t ts (deleted_goes_on c e room) (λ tail. refl)

right_delete : (c : Context) (room : ℕ) (ts : List Lexeme) → Right (simple c room) (IsSimple c) room (token.Del ∷ ts) (simple c room (token.Del ∷ ts))
unfolding simple deleted
right_delete c room ts =
    sequence {p = token.Del ∷ []} {F = primary (inner_of room)} {IsA = IsPrimary} {G = λ e. deleted_by e.is_target e.tree} {IsB = IsDeleted c} {f = λ e s. s} {H = simple c room} {IsC = IsSimple c} (record {
      computes = λ us. bind_pairs (primary (inner_of room) us) (λ e. deleted_by e.0.is_target e.0.tree e.1);
      builds = λ n xs ys e s h k. k xs h;
      grows = λ n xs e h. grows_primary h;
      finishes = λ n e. deleted_goes_on c e n;
    }) room ts (right_primary (inner_of room) room (is_inner room) ts) (λ e rest k. deleted_by_flag c e room e.is_target refl rest)

-- ---- `return` and `raise`

-- [ expr ]
pub data IsValue : ℕ → List Lexeme → Option Expr → Type 0 where
  no_value : {room : ℕ} → IsValue room [] None
  a_value : {room : ℕ} {ts : List Lexeme} {e : Spelled} → IsExpr room ts e → IsValue room ts (Some e.tree)

right_some_value : (room : ℕ) → AllRight (some_value room) IsValue room
unfolding some_value
right_some_value room ts = prefixed [] (expr room) IsExpr (λ e. Some e.tree) (some_value room) IsValue (λ us. refl) (λ n xs e h. a_value h) (λ n xs e h. grows_chain h) room ts (right_form room Whole ts)

pub right_value : (room : ℕ) → AllRight (value room) IsValue room
unfolding value
right_value room ts = right_optional (some_value room) (value room) IsValue starts None room (λ us. refl) no_value (λ us e. right_some_value room us) ts

grows_value : Grows IsValue
grows_value n ts e no_value = no_value
grows_value n ts e (a_value h) = a_value (grows_chain h)

return_by : (c : Context) (room : ℕ) (xs : List Lexeme) (e : Option Expr) → c.in_function ≡ true → c.in_finally ≡ false → IsValue room xs e → IsSimple c room (token.Return ∷ xs) (tree.Return e)
return_by c room xs e f g no_value = grammar.return_none f g
return_by c room xs e f g (a_value h) = grammar.return_value f g h

raise_by : (c : Context) (room : ℕ) (xs : List Lexeme) (e : Option Expr) → IsValue room xs e → IsSimple c room (token.Raise ∷ xs) (tree.Raise e)
raise_by c room xs e no_value = grammar.raise_again
raise_by c room xs e (a_value h) = grammar.raise h

right_raise : (c : Context) (room : ℕ) (ts : List Lexeme) → Right (simple c room) (IsSimple c) room (token.Raise ∷ ts) (simple c room (token.Raise ∷ ts))
unfolding simple raised
right_raise c room ts = prefixed (token.Raise ∷ []) (value room) IsValue (λ e. tree.Raise e) (simple c room) (IsSimple c) (λ us. refl) (raise_by c) grows_value room ts (right_value room ts)

pass_goes_on : (c : Context) (room : ℕ) → Goes_on (IsSimple c) room []
pass_goes_on c room = record { more = token.Pass ∷ []; value = tree.Pass; spelled = grammar.pass }

returns_in : (f g : Bool) → (f && not g) ≡ true → (f ≡ true) × (g ≡ false)
returns_in true true e = absurd cc
returns_in true false e = (refl, refl)
returns_in false g e = absurd cc

right_return : (c : Context) (room : ℕ) (ts : List Lexeme) (b : Bool) → may_return c ≡ b → Right (simple c room) (IsSimple c) room (token.Return ∷ ts) (if b then returned room ts else refused (token.Return ∷ ts))
unfolding simple returned
right_return c room ts false b = refuses (simple c room) (IsSimple c) room token.Return ts (pass_goes_on c room) (λ tail. rw b refl)
right_return c room ts true b =
    let at = returns_in c.in_function c.in_finally b in
    subst (Right (simple c room) (IsSimple c) room (token.Return ∷ ts)) (rw b refl)
    (prefixed (token.Return ∷ []) (value room) IsValue (λ e. tree.Return e) (simple c room) (IsSimple c) (λ us. rw b refl) (λ n xs e h. return_by c n xs e at.0 at.1 h) grows_value room ts (right_value room ts))

-- ---- all simple statements

right_break : (c : Context) (room : ℕ) (ts : List Lexeme) (b : Bool) → c.in_loop ≡ b → Right (simple c room) (IsSimple c) room (token.Break ∷ ts) (if b then given tree.Break ts else refused (token.Break ∷ ts))
unfolding simple
right_break c room ts true b = one_read (simple c room) (IsSimple c) room tree.Break token.Break ts (grammar.break b) (λ tail. rw b refl)
right_break c room ts false b = refuses (simple c room) (IsSimple c) room token.Break ts (pass_goes_on c room) (λ tail. rw b refl)

right_continue : (c : Context) (room : ℕ) (ts : List Lexeme) (b : Bool) → c.in_loop ≡ b → Right (simple c room) (IsSimple c) room (token.Continue ∷ ts) (if b then given tree.Continue ts else refused (token.Continue ∷ ts))
unfolding simple
right_continue c room ts true b = one_read (simple c room) (IsSimple c) room tree.Continue token.Continue ts (grammar.continue b) (λ tail. rw b refl)
right_continue c room ts false b = refuses (simple c room) (IsSimple c) room token.Continue ts (pass_goes_on c room) (λ tail. rw b refl)

simple_as : (c : Context) (room : ℕ) (ts : List Lexeme) → ((us : List Lexeme) → head_of us ≡ head_of ts → simple c room us ≡ expr_first room us) → Right (simple c room) (IsSimple c) room ts (expr_first room ts)
simple_as c room ts e = chosen (expr_first room) (simple c room) (IsSimple c) (IsSimple c) room ts (expr_first room ts) e (λ n xs s h. h) (right_expr_first c room ts)

pub right_simple : (c : Context) (room : ℕ) → AllRight (simple c room) (IsSimple c) room
unfolding simple
right_simple c room [] = simple_as c room [] (λ us e. at_end (λ l. simple c room l ≡ expr_first room l) us e refl)
right_simple c room (token.Del ∷ ts) = right_delete c room ts
right_simple c room (token.Pass ∷ ts) = one_read (simple c room) (IsSimple c) room tree.Pass token.Pass ts grammar.pass (λ tail. refl)
right_simple c room (token.Break ∷ ts) = right_break c room ts c.in_loop refl
right_simple c room (token.Continue ∷ ts) = right_continue c room ts c.in_loop refl
right_simple c room (token.Return ∷ ts) = right_return c room ts (may_return c) refl
right_simple c room (token.Raise ∷ ts) = right_raise c room ts
right_simple c room (token.Import ∷ ts) = right_import c room ts
right_simple c room (token.From ∷ ts) = right_from c room ts
right_simple c room (t ∷ ts) = simple_as c room (t ∷ ts) (λ us e. at_head (λ l. simple c room l ≡ expr_first room l) t us e (λ tail. refl))

-- ---- lines

pub right_semicolon : (room : ℕ) → AllRight semicolon (IsOptional token.Semicolon) room
unfolding semicolon
right_semicolon room [] = none_at_end semicolon (IsOptional token.Semicolon) room false left_out refl
right_semicolon room (token.Semicolon ∷ ts) = one_read semicolon (IsOptional token.Semicolon) room true token.Semicolon ts there (λ tail. refl)
right_semicolon room (t ∷ ts) = none_read semicolon (IsOptional token.Semicolon) room false t ts left_out (λ tail. refl)

pub right_listed_simple : (c : Context) (room : ℕ) → AllRight (listed goes_on (simple c room) semicolon) (IsListed token.Semicolon (IsSimple c)) room
right_listed_simple c room = right_listed token.Semicolon (IsSimple c) (simple c room) semicolon goes_on room (grows_simple c) (some_simple c) (right_simple c room) (right_semicolon room)

pub right_line : (c : Context) (room : ℕ) → AllRight (line c room) (IsLine c) room
unfolding line
right_line c room ts = prefixed [] (listed goes_on (simple c room) semicolon) (IsListed token.Semicolon (IsSimple c)) (λ s. s.0) (line c room) (IsLine c) (λ us. refl) (λ n xs s h. grammar.line h) (grows_listed (grows_simple c)) room ts (right_listed_simple c room ts)
