-- The grammar of simple statements (Language Reference chapter 7, a subset), a constructor for each production.
--
--   line    := simple { ";" simple } [ ";" ]
--   simple  := expr | target "=" expr | NAME aug expr | "del" target | "pass" | "break" | "continue"
--            | "return" [ expr ] | "raise" [ expr ] | "import" alias { "," alias } | "from" source "import" names
--   aug     := "+=" | "-=" | "*=" | "//=" | "%="
--   dotted  := NAME { "." NAME }
--   alias   := dotted [ "as" NAME ]
--   source  := { dots } dotted | dots { dots }          dots := "." | "..."
--   names   := "*" | item { "," item } | "(" item { "," item } [ "," ] ")"
--   item    := NAME [ "as" NAME ]
--
-- `return` stands only in a function and not in a `finally` block, `break` and `continue` only in a loop, and
-- `from .. import *` only outside functions. The bracket of `names` opens a level.
use Rattle.std.specs.Prelude.{◌≡◌, ℕ, suc, ◌+◌, ◌<◌, Bool, true, false, List, [], ◌∷◌, ◌++◌, Option, Some, None}
use Rattle.source_combinators.specs.Separated.{IsSeparated, IsListed}
use Rattle.py_syntax.specs.declared.lexeme.Lexeme.{Lexeme}
use Rattle.py_syntax.specs.declared.lexeme.Lexeme.TheVariants as token
use Rattle.py_syntax.specs.declared.expr.BinaryOp.{BinaryOp}
use Rattle.py_syntax.specs.declared.expr.BinaryOp.TheVariants as op
use Rattle.py_syntax.specs.declared.expr.Spelled.{Spelled}
use Rattle.py_syntax.specs.declared.stmt.Alias.{Alias}
use Rattle.py_syntax.specs.declared.stmt.ImportedNames.{ImportedNames}
use Rattle.py_syntax.specs.declared.stmt.ImportedNames.TheVariants.{All, Listed}
use Rattle.py_syntax.specs.declared.stmt.Stmt.{Stmt}
use Rattle.py_syntax.specs.declared.stmt.Stmt.TheVariants as tree
use Rattle.py_syntax.specs.declared.context.Context.{Context}
use Rattle.py_syntax.specs.Expressions.{IsExpr, IsPrimary}

-- aug
pub data IsAugmented : Lexeme → BinaryOp → Type 0 where
  add : IsAugmented token.PlusEq op.Add
  subtract : IsAugmented token.MinusEq op.Sub
  multiply : IsAugmented token.StarEq op.Mul
  divide : IsAugmented token.SlashSlashEq op.FloorDiv
  modulo : IsAugmented token.PercentEq op.Mod

-- NAME, with its text
pub data IsName : ℕ → List Lexeme → List ℕ → Type 0 where
  name : {room : ℕ} (n : List ℕ) → IsName room (token.Name n ∷ []) n

-- dotted := NAME { "." NAME }
abbrev pub IsDotted : ℕ → List Lexeme → List (List ℕ) → Type 0
IsDotted = IsSeparated token.Dot IsName

-- [ "as" NAME ]
pub data IsBound : ℕ → List Lexeme → Option (List ℕ) → Type 0 where
  own_name : {room : ℕ} → IsBound room [] None
  bound : {room : ℕ} (n : List ℕ) → IsBound room (token.As ∷ token.Name n ∷ []) (Some n)

-- alias := dotted [ "as" NAME ]
pub data IsAlias : ℕ → List Lexeme → Alias → Type 0 where
  alias : {room : ℕ} {xs ys : List Lexeme} {ns : List (List ℕ)} {as_name : Option (List ℕ)} → IsDotted room xs ns → IsBound room ys as_name → IsAlias room (xs ++ ys) (record { parts = ns; bound = as_name })

-- { dots }, and how many they are
pub data IsDots : ℕ → List Lexeme → ℕ → Type 0 where
  no_dots : {room : ℕ} → IsDots room [] 0
  dot : {room : ℕ} {ts : List Lexeme} {n : ℕ} → IsDots room ts n → IsDots room (token.Dot ∷ ts) (n + 1)
  ellipsis : {room : ℕ} {ts : List Lexeme} {n : ℕ} → IsDots room ts n → IsDots room (token.Ellipsis ∷ ts) (n + 3)

-- the dots and the parts of a source, which has one of the two at least
pub data IsSource : ℕ → List Lexeme → ℕ × List (List ℕ) → Type 0 where
  named : {room : ℕ} {ts us : List Lexeme} {n : ℕ} {ns : List (List ℕ)} → IsDots room ts n → IsDotted room us ns → IsSource room (ts ++ us) (n, ns)
  only_dots : {room : ℕ} {ts : List Lexeme} {n : ℕ} → IsDots room ts n → 0 < n → IsSource room ts (n, [])

-- item := NAME [ "as" NAME ], an alias whose dotted name has one part
pub data IsItem : ℕ → List Lexeme → Alias → Type 0 where
  item : {room : ℕ} {ts : List Lexeme} {as_name : Option (List ℕ)} (n : List ℕ) → IsBound room ts as_name → IsItem room (token.Name n ∷ ts) (record { parts = n ∷ []; bound = as_name })

-- names: `*` stands only outside functions (Language Reference 7.11), and the bracket opens a level
pub data IsNames : Context → ℕ → List Lexeme → ImportedNames → Type 0 where
  all_names : {c : Context} {room : ℕ} → c.in_function ≡ false → IsNames c room (token.Star ∷ []) All
  -- item { "," item }
  plain : {c : Context} {room : ℕ} {ts : List Lexeme} {items : List Alias} → IsSeparated token.Comma IsItem room ts items → IsNames c room ts (Listed items)
  -- "(" item { "," item } [ "," ] ")"
  in_parens : {c : Context} {room : ℕ} {ts : List Lexeme} {items : List Alias} {comma : Bool} → IsListed token.Comma IsItem room ts (items, comma) → IsNames c (suc room) (token.OpenParen ∷ (ts ++ token.CloseParen ∷ [])) (Listed items)

-- simple: where `return`, `break` and `continue` may stand (Language Reference 7.6, 7.9, 7.10) the context says
pub data IsSimple : Context → ℕ → List Lexeme → Stmt → Type 0 where
  evaluate : {c : Context} {room : ℕ} {ts : List Lexeme} {e : Spelled} → IsExpr room ts e → IsSimple c room ts (tree.Evaluate e.tree)
  -- target "=" expr
  assign : {c : Context} {room : ℕ} {ts us : List Lexeme} {e x : Spelled} → IsPrimary room ts e → e.is_target ≡ true → IsExpr room us x → IsSimple c room (ts ++ token.Assign ∷ us) (tree.Assign e.tree x.tree)
  augment : {c : Context} {room : ℕ} {ts : List Lexeme} {t : Lexeme} {o : BinaryOp} {x : Spelled} (n : List ℕ) → IsAugmented t o → IsExpr room ts x → IsSimple c room (token.Name n ∷ t ∷ ts) (tree.Augment n o x.tree)
  delete : {c : Context} {room : ℕ} {ts : List Lexeme} {e : Spelled} → IsPrimary room ts e → e.is_target ≡ true → IsSimple c room (token.Del ∷ ts) (tree.Delete e.tree)
  pass : {c : Context} {room : ℕ} → IsSimple c room (token.Pass ∷ []) tree.Pass
  break : {c : Context} {room : ℕ} → c.in_loop ≡ true → IsSimple c room (token.Break ∷ []) tree.Break
  continue : {c : Context} {room : ℕ} → c.in_loop ≡ true → IsSimple c room (token.Continue ∷ []) tree.Continue
  return_none : {c : Context} {room : ℕ} → c.in_function ≡ true → c.in_finally ≡ false → IsSimple c room (token.Return ∷ []) (tree.Return None)
  return_value : {c : Context} {room : ℕ} {ts : List Lexeme} {e : Spelled} → c.in_function ≡ true → c.in_finally ≡ false → IsExpr room ts e → IsSimple c room (token.Return ∷ ts) (tree.Return (Some e.tree))
  raise_again : {c : Context} {room : ℕ} → IsSimple c room (token.Raise ∷ []) (tree.Raise None)
  raise : {c : Context} {room : ℕ} {ts : List Lexeme} {e : Spelled} → IsExpr room ts e → IsSimple c room (token.Raise ∷ ts) (tree.Raise (Some e.tree))
  import_modules : {c : Context} {room : ℕ} {ts : List Lexeme} {aliases : List Alias} → IsSeparated token.Comma IsAlias room ts aliases → IsSimple c room (token.Import ∷ ts) (tree.Import aliases)
  import_from : {c : Context} {room : ℕ} {ts us : List Lexeme} {dots : ℕ} {ns : List (List ℕ)} {names : ImportedNames} → IsSource room ts (dots, ns) → IsNames c room us names → IsSimple c room (token.From ∷ (ts ++ token.Import ∷ us)) (tree.From dots ns names)

-- line := simple { ";" simple } [ ";" ]
pub data IsLine : Context → ℕ → List Lexeme → List Stmt → Type 0 where
  line : {c : Context} {room : ℕ} {ts : List Lexeme} {ss : List Stmt} {semicolon : Bool} → IsListed token.Semicolon (IsSimple c) room ts (ss, semicolon) → IsLine c room ts ss
