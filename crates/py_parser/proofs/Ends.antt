-- END stands only last in what is spelled.
use Rattle.std.proofs.Common.{◌≡◌, ℕ, Bool, true, false, List, [], ◌∷◌, ◌++◌, Option, refl, subst}
use Rattle.source_combinators.specs.Separated as several
use Rattle.source_combinators.specs.Separated.{IsSeparated, IsListed}
use Rattle.py_syntax.specs.declared.lexeme.Lexeme.{Lexeme}
use Rattle.py_syntax.specs.declared.lexeme.Lexeme.TheVariants as token
use Rattle.py_syntax.specs.declared.expr.Expr.{Expr}
use Rattle.py_syntax.specs.declared.expr.Spelled.{Spelled}
use Rattle.py_syntax.specs.declared.expr.Level.{Level}
use Rattle.py_syntax.specs.declared.expr.Comparison.{Comparison}
use Rattle.py_syntax.specs.declared.expr.BinaryOp.{BinaryOp}
use Rattle.py_syntax.specs.declared.stmt.Alias.{Alias}
use Rattle.py_syntax.specs.declared.stmt.Branch.{Branch}
use Rattle.py_syntax.specs.declared.stmt.Handler.{Handler}
use Rattle.py_syntax.specs.declared.stmt.ImportedNames.{ImportedNames}
use Rattle.py_syntax.specs.declared.stmt.Script.{Script}
use Rattle.py_syntax.specs.declared.stmt.Stmt.{Stmt}
use Rattle.py_syntax.specs.declared.context.Context.{Context}
use Rattle.py_syntax.specs.Expressions as exprs
use Rattle.py_syntax.specs.Expressions.{IsOperator, IsComparator, IsChain, IsOperand, IsInversion, IsComparison, IsFactor, IsPrimary, IsItems}
use Rattle.py_syntax.specs.Simple as simple
use Rattle.py_syntax.specs.Simple.{IsAugmented, IsName, IsDotted, IsBound, IsAlias, IsDots, IsSource, IsItem, IsNames, IsSimple, IsLine}
use Rattle.py_syntax.specs.Statements as stmts
use Rattle.py_syntax.specs.Statements.{IsParameters, IsGlobal, IsGlobalLines, Body, IsStmt, IsStmts, IsBlock, IsBranch, IsElifs, IsElse, IsFinally, IsHandler, IsHandlers, IsBody}
use Rattle.py_syntax.specs.Grammar as grammar
use Rattle.py_syntax.specs.Grammar.{Spells}

abbrev is_end : Lexeme → Bool
is_end token.End = true
is_end t = false

-- none of the tokens is END
pub data NoEnd : List Lexeme → Type 0 where
  none : NoEnd []
  more : {t : Lexeme} {ts : List Lexeme} → is_end t ≡ false → NoEnd ts → NoEnd (t ∷ ts)

join : {xs ys : List Lexeme} → NoEnd xs → NoEnd ys → NoEnd (xs ++ ys)
join none k = k
join (more e h) k = more e (join h k)

single : {t : Lexeme} → is_end t ≡ false → NoEnd (t ∷ [])
single e = more e none

-- ---- separated forms

separated_none : {A : Type 0} {sep : Lexeme} {Is : ℕ → List Lexeme → A → Type 0} → is_end sep ≡ false → ((room : ℕ) (ts : List Lexeme) (a : A) → Is room ts a → NoEnd ts) → {room : ℕ} {ts : List Lexeme} {found : List A} → IsSeparated sep Is room ts found → NoEnd ts
separated_none e none_of (several.one h) = none_of _ _ _ h
separated_none e none_of (several.more h k) = join (none_of _ _ _ h) (more e (separated_none e none_of k))

listed_none : {A : Type 0} {sep : Lexeme} {Is : ℕ → List Lexeme → A → Type 0} → is_end sep ≡ false → ((room : ℕ) (ts : List Lexeme) (a : A) → Is room ts a → NoEnd ts) → {room : ℕ} {ts : List Lexeme} {found : List A × Bool} → IsListed sep Is room ts found → NoEnd ts
listed_none e none_of (several.single h) = none_of _ _ _ h
listed_none e none_of (several.sep_last h) = join (none_of _ _ _ h) (single e)
listed_none e none_of (several.several h k) = join (none_of _ _ _ h) (more e (listed_none e none_of k))

-- ---- expressions

operator_none : {level : Level} {t : Lexeme} {f : Expr → Expr → Expr} → IsOperator level t f → is_end t ≡ false
operator_none exprs.disjunction = refl
operator_none exprs.conjunction = refl
operator_none exprs.add = refl
operator_none exprs.subtract = refl
operator_none exprs.multiply = refl
operator_none exprs.divide = refl
operator_none exprs.modulo = refl

comparator_none : {os : List Lexeme} {c : Comparison} → IsComparator os c → NoEnd os
comparator_none exprs.equal = single refl
comparator_none exprs.unequal = single refl
comparator_none exprs.less = single refl
comparator_none exprs.less_equal = single refl
comparator_none exprs.greater = single refl
comparator_none exprs.greater_equal = single refl
comparator_none exprs.inside = single refl
comparator_none exprs.not_inside = more refl (single refl)
comparator_none exprs.same = single refl
comparator_none exprs.not_same = more refl (single refl)

mutual
  chain_none : {level : Level} {room : ℕ} {ts : List Lexeme} {e : Spelled} → IsChain level room ts e → NoEnd ts
  chain_none (exprs.alone h) = operand_none h
  chain_none (exprs.joined h o k) = join (chain_none h) (more (operator_none o) (operand_none k))

  operand_none : {level : Level} {room : ℕ} {ts : List Lexeme} {e : Spelled} → IsOperand level room ts e → NoEnd ts
  operand_none (exprs.of_or h) = chain_none h
  operand_none (exprs.of_and h) = inversion_none h
  operand_none (exprs.of_sum h) = chain_none h
  operand_none (exprs.of_term h) = factor_none h

  inversion_none : {room : ℕ} {ts : List Lexeme} {e : Spelled} → IsInversion room ts e → NoEnd ts
  inversion_none (exprs.inverted h) = more refl (inversion_none h)
  inversion_none (exprs.comparison h) = comparison_none h

  comparison_none : {room : ℕ} {ts : List Lexeme} {e : Spelled} → IsComparison room ts e → NoEnd ts
  comparison_none (exprs.sum h) = chain_none h
  comparison_none (exprs.compared h o k) = join (chain_none h) (join (comparator_none o) (chain_none k))

  factor_none : {room : ℕ} {ts : List Lexeme} {e : Spelled} → IsFactor room ts e → NoEnd ts
  factor_none (exprs.negative h) = more refl (factor_none h)
  factor_none (exprs.primary h) = primary_none h

  primary_none : {room : ℕ} {ts : List Lexeme} {e : Spelled} → IsPrimary room ts e → NoEnd ts
  primary_none (exprs.name n) = single refl
  primary_none (exprs.number n) = single refl
  primary_none (exprs.string s) = single refl
  primary_none exprs.none = single refl
  primary_none exprs.yes = single refl
  primary_none exprs.no = single refl
  primary_none (exprs.parens h) = more refl (join (chain_none h) (single refl))
  primary_none exprs.empty_tuple = more refl (single refl)
  primary_none (exprs.tuple h k) = more refl (join (join (chain_none h) (more refl (items_none k))) (single refl))
  primary_none (exprs.display h) = more refl (join (items_none h) (single refl))
  primary_none (exprs.attribute n h) = join (primary_none h) (more refl (single refl))
  primary_none (exprs.call h k) = join (primary_none h) (more refl (join (items_none k) (single refl)))
  primary_none (exprs.subscript h k) = join (primary_none h) (more refl (join (chain_none k) (single refl)))

  items_none : {room : ℕ} {ts : List Lexeme} {es : List Expr} {is_open : Bool} → IsItems room ts es is_open → NoEnd ts
  items_none exprs.no_items = none
  items_none (exprs.last_item h) = chain_none h
  items_none (exprs.next_item h k) = join (chain_none h) (more refl (items_none k))

-- ---- lines

augmented_none : {t : Lexeme} {o : BinaryOp} → IsAugmented t o → is_end t ≡ false
augmented_none simple.add = refl
augmented_none simple.subtract = refl
augmented_none simple.multiply = refl
augmented_none simple.divide = refl
augmented_none simple.modulo = refl

name_none : (room : ℕ) (ts : List Lexeme) (n : List ℕ) → IsName room ts n → NoEnd ts
name_none room ts n (simple.name m) = single refl

bound_none : {room : ℕ} {ts : List Lexeme} {n : Option (List ℕ)} → IsBound room ts n → NoEnd ts
bound_none simple.own_name = none
bound_none (simple.bound n) = more refl (single refl)

alias_none : (room : ℕ) (ts : List Lexeme) (a : Alias) → IsAlias room ts a → NoEnd ts
alias_none room ts a (simple.alias h k) = join (separated_none refl name_none h) (bound_none k)

dots_none : {room : ℕ} {ts : List Lexeme} {n : ℕ} → IsDots room ts n → NoEnd ts
dots_none simple.no_dots = none
dots_none (simple.dot h) = more refl (dots_none h)
dots_none (simple.ellipsis h) = more refl (dots_none h)

source_none : {room : ℕ} {ts : List Lexeme} {s : ℕ × List (List ℕ)} → IsSource room ts s → NoEnd ts
source_none (simple.named h k) = join (dots_none h) (separated_none refl name_none k)
source_none (simple.only_dots h some) = dots_none h

item_none : (room : ℕ) (ts : List Lexeme) (a : Alias) → IsItem room ts a → NoEnd ts
item_none room ts a (simple.item n h) = more refl (bound_none h)

names_none : {c : Context} {room : ℕ} {ts : List Lexeme} {names : ImportedNames} → IsNames c room ts names → NoEnd ts
names_none (simple.all_names e) = single refl
names_none (simple.plain h) = separated_none refl item_none h
names_none (simple.in_parens h) = more refl (join (listed_none refl item_none h) (single refl))

simple_none : (c : Context) (room : ℕ) (ts : List Lexeme) (s : Stmt) → IsSimple c room ts s → NoEnd ts
simple_none c room ts s (simple.evaluate h) = chain_none h
simple_none c room ts s (simple.assign h e k) = join (primary_none h) (more refl (chain_none k))
simple_none c room ts s (simple.augment n o h) = more refl (more (augmented_none o) (chain_none h))
simple_none c room ts s (simple.delete h e) = more refl (primary_none h)
simple_none c room ts s simple.pass = single refl
simple_none c room ts s (simple.break e) = single refl
simple_none c room ts s (simple.continue e) = single refl
simple_none c room ts s (simple.return_none e f) = single refl
simple_none c room ts s (simple.return_value e f h) = more refl (chain_none h)
simple_none c room ts s simple.raise_again = single refl
simple_none c room ts s (simple.raise h) = more refl (chain_none h)
simple_none c room ts s (simple.import_modules h) = more refl (separated_none refl alias_none h)
simple_none c room ts s (simple.import_from h k) = more refl (join (source_none h) (more refl (names_none k)))

line_none : {c : Context} {room : ℕ} {ts : List Lexeme} {ss : List Stmt} → IsLine c room ts ss → NoEnd ts
line_none {c = c} (simple.line h) = listed_none refl (simple_none c) h

-- ---- statements

parameters_none : {found : List (List ℕ)} {room : ℕ} {ts : List Lexeme} {all : List (List ℕ) × Bool} → IsParameters found room ts all → NoEnd ts
parameters_none stmts.no_parameters = none
parameters_none (stmts.last_parameter n e) = single refl
parameters_none (stmts.next_parameter n e h) = more refl (more refl (parameters_none h))

global_none : (parameters : List (List ℕ)) (room : ℕ) (ts : List Lexeme) (n : List ℕ) → IsGlobal parameters room ts n → NoEnd ts
global_none parameters room ts n (stmts.global m e) = single refl

globals_none : {parameters : List (List ℕ)} {room : ℕ} {ts : List Lexeme} {names : List (List ℕ)} → IsGlobalLines parameters room ts names → NoEnd ts
globals_none stmts.no_globals = none
globals_none {parameters = parameters} (stmts.global_line h k) = more refl (join (separated_none refl (global_none parameters) h) (more refl (globals_none k)))

mutual
  stmt_none : {c : Context} {n room : ℕ} {ts : List Lexeme} {s : List Stmt × ℕ} → IsStmt c n room ts s → NoEnd ts
  stmt_none (stmts.on_line h) = join (line_none h) (single refl)
  stmt_none (stmts.if_stmt h k l) = more refl (join (branch_none h) (join (elifs_none k) (else_none l)))
  stmt_none (stmts.while_stmt h) = more refl (branch_none h)
  stmt_none (stmts.try_finally h k) = more refl (more refl (join (block_none h) (more refl (more refl (block_none k)))))
  stmt_none (stmts.try_except h hs k l) = more refl (more refl (join (block_none h) (join (handlers_none hs) (join (else_none k) (finally_none l)))))
  stmt_none (stmts.def_stmt name e h k) = more refl (more refl (more refl (join (parameters_none h) (more refl (more refl (body_none k))))))

  stmts_none : {c : Context} {n room : ℕ} {ts : List Lexeme} {s : List Stmt × ℕ} → IsStmts c n room ts s → NoEnd ts
  stmts_none (stmts.last_stmt h) = stmt_none h
  stmts_none (stmts.more_stmts h k) = join (stmt_none h) (stmts_none k)

  block_none : {c : Context} {n room : ℕ} {ts : List Lexeme} {s : List Stmt × ℕ} → IsBlock c n room ts s → NoEnd ts
  block_none (stmts.line_block h) = join (line_none h) (single refl)
  block_none (stmts.indented h) = more refl (more refl (join (stmts_none h) (single refl)))

  branch_none : {c : Context} {n room : ℕ} {ts : List Lexeme} {b : Branch × ℕ} → IsBranch c n room ts b → NoEnd ts
  branch_none (stmts.branch h k) = join (chain_none h) (more refl (block_none k))

  elifs_none : {c : Context} {n room : ℕ} {ts : List Lexeme} {b : List Branch × ℕ} → IsElifs c n room ts b → NoEnd ts
  elifs_none stmts.no_elif = none
  elifs_none (stmts.elif h k) = more refl (join (branch_none h) (elifs_none k))

  else_none : {c : Context} {n room : ℕ} {ts : List Lexeme} {s : List Stmt × ℕ} → IsElse c n room ts s → NoEnd ts
  else_none stmts.no_else = none
  else_none (stmts.else_block h) = more refl (more refl (block_none h))

  finally_none : {c : Context} {n room : ℕ} {ts : List Lexeme} {s : List Stmt × ℕ} → IsFinally c n room ts s → NoEnd ts
  finally_none stmts.no_finally = none
  finally_none (stmts.finally_block h) = more refl (more refl (block_none h))

  handler_none : {c : Context} {n room : ℕ} {ts : List Lexeme} {h : Handler × ℕ} → IsHandler c n room ts h → NoEnd ts
  handler_none (stmts.handler h k l) = more refl (join (chain_none h) (join (bound_none k) (more refl (block_none l))))

  handlers_none : {c : Context} {n room : ℕ} {ts : List Lexeme} {h : List Handler × ℕ} → IsHandlers c n room ts h → NoEnd ts
  handlers_none (stmts.last_handler h) = handler_none h
  handlers_none (stmts.takes_all h) = more refl (more refl (block_none h))
  handlers_none (stmts.more_handlers h k) = join (handler_none h) (handlers_none k)

  body_none : {parameters : List (List ℕ)} {n room : ℕ} {ts : List Lexeme} {b : Body × ℕ} → IsBody parameters n room ts b → NoEnd ts
  body_none (stmts.line_body h) = join (line_none h) (single refl)
  body_none (stmts.indented_body h k) = more refl (more refl (join (globals_none h) (join (stmts_none k) (single refl))))

-- ---- scripts

not_empty : (us vs : List Lexeme) (t : Lexeme) → ¬ ([] ≡ us ++ t ∷ vs)
not_empty [] vs t e = absurd cc
not_empty (u ∷ us) vs t e = absurd cc

ends_once : (ts us vs : List Lexeme) → NoEnd ts → ts ++ token.End ∷ [] ≡ us ++ token.End ∷ vs → vs ≡ []
ends_once [] [] vs h e = cc
ends_once [] (u ∷ us) vs h e = let k : [] ≡ us ++ token.End ∷ vs = cc in absurd (not_empty us vs token.End k)
ends_once (t ∷ ts) [] vs (more e h) k = let p : t ≡ token.End = cc in let q : is_end token.End ≡ false = subst (λ (u : Lexeme). is_end u ≡ false) p e in absurd cc
ends_once (t ∷ ts) (u ∷ us) vs (more e h) k = ends_once ts us vs h cc

ended : (room : ℕ) (ts us vs : List Lexeme) (script : Script) → Spells room ts script → ts ≡ us ++ token.End ∷ vs → vs ≡ []
ended room ts us vs script grammar.no_statements e = ends_once [] us vs none e
ended room ts us vs script (grammar.statements {ts = ss} h) e = ends_once ss us vs (stmts_none h) e

-- nothing is spelled behind END
pub nothing_behind : (room : ℕ) (us vs : List Lexeme) (script : Script) → Spells room (us ++ token.End ∷ vs) script → vs ≡ []
nothing_behind room us vs script h = ended room (us ++ token.End ∷ vs) us vs script h refl
