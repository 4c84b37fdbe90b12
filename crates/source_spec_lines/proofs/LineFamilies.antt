-- What holds of every simple statement as it is spelled.
use Rattle.std.proofs.Common.{◌≡◌, ℕ, suc, ◌<◌, Bool, true, false, List, [], ◌∷◌, ◌++◌, length, Option, arith, length-append}
use Rattle.source_combinators.specs.Separated.{IsSeparated, one, more, IsListed, single, sep_last, several}
use Rattle.source_combinators.proofs.Forms.{Grows}
use Rattle.py_syntax.specs.declared.lexeme.Lexeme.{Lexeme}
use Rattle.py_syntax.specs.declared.lexeme.Lexeme.TheVariants as token
use Rattle.py_syntax.specs.declared.stmt.Alias.{Alias}
use Rattle.py_syntax.specs.declared.stmt.ImportedNames.{ImportedNames}
use Rattle.py_syntax.specs.declared.stmt.Stmt.{Stmt}
use Rattle.py_syntax.specs.declared.context.Context.{Context}
use Rattle.py_syntax.specs.Simple as grammar
use Rattle.py_syntax.specs.Simple.{IsName, IsDotted, IsBound, IsAlias, IsDots, IsSource, IsItem, IsNames, IsSimple, IsLine}
use Rattle.source_spec_lines.proofs.ExpressionFamilies.{grows_chain, grows_primary, some_chain}

-- ---- with more room

pub grows_separated : {T A : Type 0} {sep : T} {Is : ℕ → List T → A → Type 0} → Grows Is → Grows (IsSeparated sep Is)
grows_separated g n ts as_found (one {ts = us} {a = a} h) = one (g n us a h)
grows_separated g n ts as_found (more {xs = xs} {ys = ys} {a = a} {found = found} h k) = more (g n xs a h) (grows_separated g n ys found k)

pub grows_listed : {T A : Type 0} {sep : T} {Is : ℕ → List T → A → Type 0} → Grows Is → Grows (IsListed sep Is)
grows_listed g n ts s (single {ts = us} {a = a} h) = single (g n us a h)
grows_listed g n ts s (sep_last {ts = us} {a = a} h) = sep_last (g n us a h)
grows_listed g n ts s (several {xs = xs} {ys = ys} {a = a} {found = found} {b = b} h k) = several (g n xs a h) (grows_listed g n ys (found, b) k)

pub grows_name : Grows IsName
grows_name n ts m (grammar.name k) = grammar.name k

pub grows_bound : Grows IsBound
grows_bound n ts m grammar.own_name = grammar.own_name
grows_bound n ts m (grammar.bound k) = grammar.bound k

pub grows_alias : Grows IsAlias
grows_alias n ts a (grammar.alias {xs = xs} {ys = ys} {ns = ns} {as_name = as_name} h k) = grammar.alias (grows_separated grows_name n xs ns h) (grows_bound n ys as_name k)

pub grows_item : Grows IsItem
grows_item n ts a (grammar.item {ts = us} {as_name = as_name} m k) = grammar.item m (grows_bound n us as_name k)

pub grows_dots : Grows IsDots
grows_dots n ts m grammar.no_dots = grammar.no_dots
grows_dots n ts m (grammar.dot {ts = us} {n = k} h) = grammar.dot (grows_dots n us k h)
grows_dots n ts m (grammar.ellipsis {ts = us} {n = k} h) = grammar.ellipsis (grows_dots n us k h)

pub grows_source : Grows IsSource
grows_source n ts s (grammar.named {ts = xs} {us = ys} {n = k} {ns = ns} h q) = grammar.named (grows_dots n xs k h) (grows_separated grows_name n ys ns q)
grows_source n ts s (grammar.only_dots {ts = xs} {n = k} h q) = grammar.only_dots (grows_dots n xs k h) q

pub grows_names : (c : Context) → Grows (IsNames c)
grows_names c n ts s (grammar.all_names h) = grammar.all_names h
grows_names c n ts s (grammar.plain {ts = us} {items = items} h) = grammar.plain (grows_separated grows_item n us items h)
grows_names c n ts s (grammar.in_parens {room = room} {ts = us} {items = items} {comma = comma} h) = grammar.in_parens (grows_listed grows_item room us (items, comma) h)

pub grows_simple : (c : Context) → Grows (IsSimple c)
grows_simple c n ts s (grammar.evaluate h) = grammar.evaluate (grows_chain h)
grows_simple c n ts s (grammar.assign h t k) = grammar.assign (grows_primary h) t (grows_chain k)
grows_simple c n ts s (grammar.augment m o k) = grammar.augment m o (grows_chain k)
grows_simple c n ts s (grammar.delete h t) = grammar.delete (grows_primary h) t
grows_simple c n ts s grammar.pass = grammar.pass
grows_simple c n ts s (grammar.break h) = grammar.break h
grows_simple c n ts s (grammar.continue h) = grammar.continue h
grows_simple c n ts s (grammar.return_none h k) = grammar.return_none h k
grows_simple c n ts s (grammar.return_value h k q) = grammar.return_value h k (grows_chain q)
grows_simple c n ts s grammar.raise_again = grammar.raise_again
grows_simple c n ts s (grammar.raise h) = grammar.raise (grows_chain h)
grows_simple c n ts s (grammar.import_modules {ts = us} {aliases = aliases} h) = grammar.import_modules (grows_separated grows_alias n us aliases h)
grows_simple c n ts s (grammar.import_from {ts = xs} {us = ys} {dots = dots} {ns = ns} {names = names} h k) = grammar.import_from (grows_source n xs (dots, ns) h) (grows_names c n ys names k)

pub grows_line : (c : Context) → Grows (IsLine c)
grows_line c n ts ss (grammar.line {semicolon = b} h) = grammar.line (grows_listed (grows_simple c) n ts (ss, b) h)

-- ---- there are tokens

pub some_simple : (c : Context) (n : ℕ) (ts : List Lexeme) (s : Stmt) → IsSimple c n ts s → 0 < length ts
some_simple c n ts s (grammar.evaluate h) = some_chain h
some_simple c n ts s (grammar.assign {ts = xs} {us = ys} h t k) = omega (arith, length-append xs (token.Assign ∷ ys))
some_simple c n ts s (grammar.augment m o k) = omega arith
some_simple c n ts s (grammar.delete h t) = omega arith
some_simple c n ts s grammar.pass = omega arith
some_simple c n ts s (grammar.break h) = omega arith
some_simple c n ts s (grammar.continue h) = omega arith
some_simple c n ts s (grammar.return_none h k) = omega arith
some_simple c n ts s (grammar.return_value h k q) = omega arith
some_simple c n ts s grammar.raise_again = omega arith
some_simple c n ts s (grammar.raise h) = omega arith
some_simple c n ts s (grammar.import_modules h) = omega arith
some_simple c n ts s (grammar.import_from h k) = omega arith

pub some_item : (n : ℕ) (ts : List Lexeme) (a : Alias) → IsItem n ts a → 0 < length ts
some_item n ts a (grammar.item m k) = omega arith
