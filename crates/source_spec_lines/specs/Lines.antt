-- Reading simple statements by descent, a definition for each function of the code.
use Rattle.std.specs.Prelude.{ℕ, zero, suc, ◌+◌, ◌&&◌, not, Bool, true, false, if◌then◌else◌, List, [], ◌∷◌, ◌++◌, Option, Some, None, Ok, Err}
use Rattle.source_combinators.specs.Reading.{Read, ◌>>=◌, given, refused, too_deep, head_of}
use Rattle.source_combinators.specs.Many.{rounds}
use Rattle.source_combinators.specs.Separated.{separated, listed}
use Rattle.py_syntax.specs.declared.lexeme.Lexeme.{Lexeme}
use Rattle.py_syntax.specs.declared.lexeme.Lexeme.TheVariants as token
use Rattle.py_syntax.specs.declared.expr.Expr.{Expr}
use Rattle.py_syntax.specs.declared.expr.BinaryOp.{BinaryOp}
use Rattle.py_syntax.specs.declared.expr.BinaryOp.TheVariants as op
use Rattle.py_syntax.specs.declared.expr.Spelled.{Spelled}
use Rattle.py_syntax.specs.declared.stmt.Alias.{Alias}
use Rattle.py_syntax.specs.declared.stmt.ImportedNames.{ImportedNames}
use Rattle.py_syntax.specs.declared.stmt.ImportedNames.TheVariants.{All, Listed}
use Rattle.py_syntax.specs.declared.stmt.Stmt.{Stmt}
use Rattle.py_syntax.specs.declared.stmt.Stmt.TheVariants as tree
use Rattle.py_syntax.specs.declared.context.Context.{Context}
use Rattle.source_spec_lines.specs.Expressions.{starts, comma, close_paren, primary, inner_of, expr, name_of}

-- ---- names

-- NAME, with its text
unfoldable pub name : List Lexeme → Read Lexeme (List ℕ)
name (token.Name n ∷ ts) = given n ts
name ts = refused ts

-- another part of a dotted name follows
unfoldable pub dot_ahead : Option Lexeme → Bool
dot_ahead (Some token.Dot) = true
dot_ahead t = false

-- another one of a list follows
unfoldable pub comma_ahead : Option Lexeme → Bool
comma_ahead (Some token.Comma) = true
comma_ahead t = false

-- a name is ahead
unfoldable pub name_ahead : Option Lexeme → Bool
name_ahead (Some (token.Name n)) = true
name_ahead t = false

-- dotted := NAME { "." NAME }
abbrev pub dotted : List Lexeme → Read Lexeme (List (List ℕ))
dotted = separated dot_ahead name

-- [ "as" NAME ]
unfoldable pub bound : List Lexeme → Read Lexeme (Option (List ℕ))
bound (token.As ∷ ts) = name ts >>= λ n. given (Some n.0) n.1
bound ts = given None ts

-- what is imported, and the name that it is bound to where `as` gives one
abbrev pub alias_of : List (List ℕ) → Option (List ℕ) → Alias
alias_of parts bound = record { parts = parts; bound = bound }

-- alias := dotted [ "as" NAME ]
unfoldable pub alias : List Lexeme → Read Lexeme Alias
alias ts = dotted ts >>= λ ns. bound ns.1 >>= λ b. given (alias_of ns.0 b.0) b.1

-- item := NAME [ "as" NAME ]
unfoldable pub item : List Lexeme → Read Lexeme Alias
item ts = name ts >>= λ n. bound n.1 >>= λ b. given (alias_of (n.0 ∷ []) b.0) b.1

-- ---- imports

-- alias { "," alias }, behind "import"
unfoldable pub imported : List Lexeme → Read Lexeme Stmt
imported ts = separated comma_ahead alias ts >>= λ a. given (tree.Import a.0) a.1

-- "." or "..." is ahead, however many dots came before
unfoldable pub dots_ahead : ℕ → Option Lexeme → Bool
dots_ahead n (Some token.Dot) = true
dots_ahead n (Some token.Ellipsis) = true
dots_ahead n t = false

-- dots := "." | "...", which are one or three more
unfoldable pub more_dots : ℕ → List Lexeme → Read Lexeme ℕ
more_dots n (token.Dot ∷ ts) = given (n + 1) ts
more_dots n (token.Ellipsis ∷ ts) = given (n + 3) ts
more_dots n ts = refused ts

-- { dots }, and how many they are
unfoldable pub dots : List Lexeme → Read Lexeme ℕ
dots ts = rounds dots_ahead more_dots 0 ts

-- the dotted name behind so many dots
abbrev pub with_dots : ℕ → List Lexeme → Read Lexeme (ℕ × List (List ℕ))
with_dots n ts = dotted ts >>= λ ns. given (n, ns.0) ns.1

-- behind dots the parts may be left out
unfoldable pub parts_after : ℕ → List Lexeme → Read Lexeme (ℕ × List (List ℕ))
parts_after zero ts = with_dots zero ts
parts_after (suc n) ts = if name_ahead (head_of ts) then with_dots (suc n) ts else given (suc n, []) ts

-- source := { dots } dotted | dots { dots }
unfoldable pub source : List Lexeme → Read Lexeme (ℕ × List (List ℕ))
source ts = dots ts >>= λ n. parts_after n.0 n.1

-- "import"; any other token is refused
unfoldable pub import_word : List Lexeme → Read Lexeme (Unit {0})
import_word (token.Import ∷ ts) = given tt ts
import_word ts = refused ts

-- item { "," item } [ "," ] ")", behind the opening parenthesis
unfoldable pub names_in_parens : List Lexeme → Read Lexeme ImportedNames
names_in_parens ts = listed name_ahead item comma ts >>= λ a. close_paren a.1 >>= λ u. given (Listed a.0.0) u.1

-- item { "," item }
unfoldable pub plain_names : List Lexeme → Read Lexeme ImportedNames
plain_names ts = separated comma_ahead item ts >>= λ a. given (Listed a.0) a.1

-- names: in a function `*` is refused (Language Reference 7.11), and without a level left the bracket is too deep
unfoldable pub names : Context → ℕ → List Lexeme → Read Lexeme ImportedNames
names c room (token.Star ∷ ts) = if c.in_function then refused (token.Star ∷ ts) else given All ts
names c zero (token.OpenParen ∷ ts) = too_deep (token.OpenParen ∷ ts)
names c (suc room) (token.OpenParen ∷ ts) = names_in_parens ts
names c room ts = plain_names ts

-- source "import"
unfoldable pub source_import : List Lexeme → Read Lexeme (ℕ × List (List ℕ))
source_import ts = source ts >>= λ s. import_word s.1 >>= λ u. given s.0 u.1

-- source "import" names, behind "from"
unfoldable pub imported_from : Context → ℕ → List Lexeme → Read Lexeme Stmt
imported_from c room ts = source_import ts >>= λ s. names c room s.1 >>= λ n. given (tree.From s.0.0 s.0.1 n.0) n.1

-- ---- assignments

-- the name that an expression is, as it is spelled
abbrev pub bare_by : Bool → Expr → Option (List ℕ)
bare_by true e = name_of e
bare_by false e = None

-- what an augmented assignment may have on its left: a name without parentheses, which make it no target
abbrev pub bare : Spelled → Option (List ℕ)
bare e = bare_by e.is_target e.tree

-- the expression behind aug, which is t; where no name stands before, aug itself is refused
unfoldable pub augmented_by : ℕ → Option (List ℕ) → BinaryOp → Lexeme → List Lexeme → Read Lexeme Stmt
augmented_by room None o t ts = refused (t ∷ ts)
augmented_by room (Some n) o t ts = expr room ts >>= λ x. given (tree.Augment n o x.0.tree) x.1

-- the expression behind "="; where no target stands before, the "=" itself is refused
unfoldable pub assigned_by : ℕ → Bool → Expr → List Lexeme → Read Lexeme Stmt
assigned_by room false e ts = refused (token.Assign ∷ ts)
assigned_by room true e ts = expr room ts >>= λ x. given (tree.Assign e x.0.tree) x.1

-- what follows the expression that a line begins with
unfoldable pub after_expr : ℕ → Spelled → List Lexeme → Read Lexeme Stmt
after_expr room e (token.Assign ∷ ts) = assigned_by room e.is_target e.tree ts
after_expr room e (token.PlusEq ∷ ts) = augmented_by room (bare e) op.Add token.PlusEq ts
after_expr room e (token.MinusEq ∷ ts) = augmented_by room (bare e) op.Sub token.MinusEq ts
after_expr room e (token.StarEq ∷ ts) = augmented_by room (bare e) op.Mul token.StarEq ts
after_expr room e (token.SlashSlashEq ∷ ts) = augmented_by room (bare e) op.FloorDiv token.SlashSlashEq ts
after_expr room e (token.PercentEq ∷ ts) = augmented_by room (bare e) op.Mod token.PercentEq ts
after_expr room e ts = given (tree.Evaluate e.tree) ts

-- expr, target "=" expr, or NAME aug expr: what it is shows behind the first expression
unfoldable pub expr_first : ℕ → List Lexeme → Read Lexeme Stmt
expr_first room ts = expr room ts >>= λ e. after_expr room e.0 e.1

-- ---- the others

-- nothing follows a primary that is no target: the token behind it is refused
abbrev pub deleted_by : Bool → Expr → List Lexeme → Read Lexeme Stmt
deleted_by true e ts = given (tree.Delete e) ts
deleted_by false e ts = refused ts

-- target, behind "del"
unfoldable pub deleted : ℕ → List Lexeme → Read Lexeme Stmt
deleted room ts = primary (inner_of room) ts >>= λ e. deleted_by e.0.is_target e.0.tree e.1

-- an expression where one may be left out
unfoldable pub some_value : ℕ → List Lexeme → Read Lexeme (Option Expr)
some_value room ts = expr room ts >>= λ e. given (Some e.0.tree) e.1

-- [ expr ]
unfoldable pub value : ℕ → List Lexeme → Read Lexeme (Option Expr)
value room ts = if starts (head_of ts) then some_value room ts else given None ts

-- [ expr ], behind "return"
unfoldable pub returned : ℕ → List Lexeme → Read Lexeme Stmt
returned room ts = value room ts >>= λ e. given (tree.Return e.0) e.1

-- [ expr ], behind "raise"
unfoldable pub raised : ℕ → List Lexeme → Read Lexeme Stmt
raised room ts = value room ts >>= λ e. given (tree.Raise e.0) e.1

-- `return` stands only in a function (Language Reference 7.6), and here not in a `finally` block of it
abbrev pub may_return : Context → Bool
may_return c = c.in_function && not c.in_finally

-- simple: a jump that may not stand here is itself refused
unfoldable pub simple : Context → ℕ → List Lexeme → Read Lexeme Stmt
simple c room (token.Del ∷ ts) = deleted room ts
simple c room (token.Pass ∷ ts) = given tree.Pass ts
simple c room (token.Break ∷ ts) = if c.in_loop then given tree.Break ts else refused (token.Break ∷ ts)
simple c room (token.Continue ∷ ts) = if c.in_loop then given tree.Continue ts else refused (token.Continue ∷ ts)
simple c room (token.Return ∷ ts) = if may_return c then returned room ts else refused (token.Return ∷ ts)
simple c room (token.Raise ∷ ts) = raised room ts
simple c room (token.Import ∷ ts) = imported ts
simple c room (token.From ∷ ts) = imported_from c room ts
simple c room ts = expr_first room ts

-- ---- lines

-- a semicolon, if there is one
unfoldable pub semicolon : List Lexeme → Read Lexeme Bool
semicolon (token.Semicolon ∷ ts) = given true ts
semicolon ts = given false ts

-- a line goes on behind a semicolon unless it ends
unfoldable pub goes_on : Option Lexeme → Bool
goes_on (Some token.Newline) = false
goes_on t = true

-- line := simple { ";" simple } [ ";" ]
unfoldable pub line : Context → ℕ → List Lexeme → Read Lexeme (List Stmt)
line c room ts = listed goes_on (simple c room) semicolon ts >>= λ s. given s.0.0 s.1
