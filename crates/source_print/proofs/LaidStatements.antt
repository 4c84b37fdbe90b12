-- What is printed of a script stands on lines.
use Rattle.std.proofs.Common.{◌≡◌, ◌∙◌, refl, sym, ap, subst, ℕ, zero, suc, ◌<◌, Bool, true, List, [], ◌∷◌, ◌++◌, length, map, flat_map, Some, None, append_assoc, arith}
use Rattle.source_combinators.specs.Separated.{IsSeparated, one, more, IsListed, single, sep_last, several}
use Rattle.py_syntax.specs.declared.lexeme.Lexeme.{Lexeme}
use Rattle.py_syntax.specs.declared.lexeme.Lexeme.TheVariants as token
use Rattle.py_syntax.specs.declared.stmt.Branch.{Branch}
use Rattle.py_syntax.specs.declared.stmt.FuncDef.{FuncDef}
use Rattle.py_syntax.specs.declared.stmt.Handler.{Handler}
use Rattle.py_syntax.specs.declared.stmt.Script.{Script}
use Rattle.py_syntax.specs.declared.stmt.Stmt.{Stmt}
use Rattle.py_syntax.specs.declared.stmt.Stmt.TheVariants as tree
use Rattle.py_syntax.specs.declared.context.Context.{Context}
use Rattle.py_syntax.specs.Simple as simple
use Rattle.py_syntax.specs.Simple.{IsSimple, IsLine}
use Rattle.py_syntax.specs.Statements as grammar
use Rattle.py_syntax.specs.Statements.{Body, IsParameters, IsGlobal, IsGlobalLines, IsStmt, IsStmts, IsBlock, IsBranch, IsElifs, IsElse, IsFinally, IsHandler, IsHandlers, IsBody}
use Rattle.py_syntax.specs.Grammar as script
use Rattle.py_syntax.specs.Grammar.{Spells}
use Rattle.source_print.specs.Expressions.{expr_tokens}
use Rattle.source_print.specs.Statements.{name_tokens, names_with, bound_tokens, optional, in_order, block, clause, global_line, stmt_tokens, branch_tokens, handler_tokens, stmts_tokens, printed}
use Rattle.source_print.proofs.Statements.{branch_is, handler_is, function_is, if_is, while_is, try_is, def_is}
use Rattle.source_print.specs.Lines as line
use Rattle.source_print.specs.Lines.{Held, Row, Laid, Lined, is_fixed}
use Rattle.source_print.proofs.LaidRows.{held_front, held_back, row_behind, sign_row, Rows, separated_row}
use Rattle.source_print.proofs.LaidExpressions.{chain_row}
use Rattle.source_print.proofs.LaidSimple.{Placed, bound_row, placed_simple}

abbrev IsSome : {A : Type 0} → List A → Type 0
IsSome [] = ⊥
IsSome (x ∷ xs) = Unit {0}

some_behind : {A : Type 0} (xs ys : List A) → IsSome xs → IsSome (xs ++ ys)
some_behind [] ys h = absurd h
some_behind (x ∷ xs) ys h = tt

abbrev AllPlaced : (Lexeme → Type 0) → List Stmt → Type 0
AllPlaced P [] = Unit {0}
AllPlaced P (s ∷ ss) = Placed P s × AllPlaced P ss

abbrev Filled : (Lexeme → Type 0) → List Stmt → Type 0
Filled P ss = IsSome ss × AllPlaced P ss

-- a branch with a word before it
abbrev PlacedBranch : (Lexeme → Type 0) → Branch → Type 0
PlacedBranch P b = (word : Lexeme) → is_fixed word ≡ true → (depth : ℕ) (rest : List Lexeme) → Laid P depth rest → Lined P depth ((word ∷ branch_tokens b) ++ rest)

abbrev PlacedBranches : (Lexeme → Type 0) → List Branch → Type 0
PlacedBranches P [] = Unit {0}
PlacedBranches P (b ∷ bs) = PlacedBranch P b × PlacedBranches P bs

abbrev PlacedHandler : (Lexeme → Type 0) → Handler → Type 0
PlacedHandler P h = (depth : ℕ) (rest : List Lexeme) → Laid P depth rest → Lined P depth (handler_tokens h ++ rest)

abbrev PlacedHandlers : (Lexeme → Type 0) → List Handler → Type 0
PlacedHandlers P [] = Unit {0}
PlacedHandlers P (h ∷ hs) = PlacedHandler P h × PlacedHandlers P hs

abbrev EachName : (Lexeme → Type 0) → List (List ℕ) → Type 0
EachName P [] = Unit {0}
EachName P (n ∷ ns) = P (token.Name n) × EachName P ns

module _ (P : Lexeme → Type 0) where
  all_placed : (ss rs : List Stmt) → AllPlaced P ss → AllPlaced P rs → AllPlaced P (ss ++ rs)
  all_placed [] rs h k = k
  all_placed (s ∷ ss) rs h k = (h.0, all_placed ss rs h.1 k)

  -- ---- statements and blocks

  stmts_laid : (ss : List Stmt) → AllPlaced P ss → (depth : ℕ) (rest : List Lexeme) → Laid P depth rest → Laid P depth (stmts_tokens ss ++ rest)
  stmts_laid [] p depth rest l = l
  stmts_laid (s ∷ ss) p depth rest l = subst (Laid P depth) (sym (append_assoc (stmt_tokens s) (stmts_tokens ss) rest)) (line.here (p.0 depth (stmts_tokens ss ++ rest) (stmts_laid ss p.1 depth rest l)))

  stmts_lined : (ss : List Stmt) → Filled P ss → (depth : ℕ) (rest : List Lexeme) → Laid P depth rest → Lined P depth (stmts_tokens ss ++ rest)
  stmts_lined [] p depth rest l = absurd p.0
  stmts_lined (s ∷ ss) p depth rest l = subst (Lined P depth) (sym (append_assoc (stmt_tokens s) (stmts_tokens ss) rest)) (p.1.0 depth (stmts_tokens ss ++ rest) (stmts_laid ss p.1.1 depth rest l))

  block_lined : (row : List Lexeme) → Row P row → 0 < length row → (ss : List Stmt) → Filled P ss → (depth : ℕ) (rest : List Lexeme) → Laid P depth rest → Lined P depth (row ++ (block (map stmt_tokens ss) ++ rest))
  block_lined row r some ss p depth rest l =
      subst (λ ts. Lined P depth (row ++ token.Newline ∷ token.Indent ∷ ts)) (sym (append_assoc (stmts_tokens ss) (token.Dedent ∷ []) rest))
      (line.opens r some (stmts_lined ss p (suc depth) (token.Dedent ∷ rest) (line.back l)))

  clause_laid : (word : Lexeme) → is_fixed word ≡ true → (ss : List Stmt) → AllPlaced P ss → (depth : ℕ) (rest : List Lexeme) → Laid P depth rest → Laid P depth (clause word (map stmt_tokens ss) ++ rest)
  unfolding is_fixed
  clause_laid word f [] p depth rest l = l
  clause_laid word f (s ∷ ss) p depth rest l = line.here (block_lined (word ∷ token.Colon ∷ []) (sign_row word f (sign_row token.Colon refl line.nothing)) (omega arith) (s ∷ ss) (tt, p) depth rest l)

  -- ---- branches

  branch_parts : (word : Lexeme) (e b rest : List Lexeme) → (word ∷ (e ++ token.Colon ∷ b)) ++ rest ≡ (word ∷ (e ++ token.Colon ∷ [])) ++ (b ++ rest)
  branch_parts word e b rest = ap (λ ts. word ∷ ts) (append_assoc e (token.Colon ∷ b) rest ∙ sym (append_assoc e (token.Colon ∷ []) (b ++ rest)))

  placed_branch : (b : Branch) → Row P (expr_tokens b.test) → Filled P b.body → PlacedBranch P b
  unfolding is_fixed
  placed_branch b r p word f depth rest l =
      subst (Lined P depth) (sym (ap (λ ts. (word ∷ ts) ++ rest) (branch_is b) ∙ branch_parts word (expr_tokens b.test) (block (map stmt_tokens b.body)) rest))
      (block_lined (word ∷ (expr_tokens b.test ++ token.Colon ∷ [])) (sign_row word f (row_behind r (sign_row token.Colon refl line.nothing))) (omega arith) b.body p depth rest l)

  elifs_laid : (bs : List Branch) → PlacedBranches P bs → (depth : ℕ) (rest : List Lexeme) → Laid P depth rest → Laid P depth (flat_map (λ ts. token.Elif ∷ ts) (map branch_tokens bs) ++ rest)
  unfolding is_fixed
  elifs_laid [] p depth rest l = l
  elifs_laid (b ∷ bs) p depth rest l =
      subst (Laid P depth) (sym (append_assoc (token.Elif ∷ branch_tokens b) (flat_map (λ ts. token.Elif ∷ ts) (map branch_tokens bs)) rest))
      (line.here (p.0 token.Elif refl depth (flat_map (λ ts. token.Elif ∷ ts) (map branch_tokens bs) ++ rest) (elifs_laid bs p.1 depth rest l)))

  if_parts : (b e c rest : List Lexeme) → (token.If ∷ (b ++ (e ++ c))) ++ rest ≡ (token.If ∷ b) ++ (e ++ (c ++ rest))
  if_parts b e c rest = ap (λ ts. token.If ∷ ts) (append_assoc b (e ++ c) rest ∙ ap (λ ts. b ++ ts) (append_assoc e c rest))

  placed_if : (b : Branch) (bs : List Branch) (ss : List Stmt) → PlacedBranch P b → PlacedBranches P bs → AllPlaced P ss → Placed P (tree.If (b ∷ bs) ss)
  unfolding is_fixed
  placed_if b bs ss h k q depth rest l =
      let elifs : List Lexeme = flat_map (λ ts. token.Elif ∷ ts) (map branch_tokens bs) in
      let otherwise : List Lexeme = clause token.Else (map stmt_tokens ss) in
      subst (Lined P depth) (sym (ap (λ ts. ts ++ rest) (if_is b bs ss) ∙ if_parts (branch_tokens b) elifs otherwise rest))
      (h token.If refl depth (elifs ++ (otherwise ++ rest)) (elifs_laid bs k depth (otherwise ++ rest) (clause_laid token.Else refl ss q depth rest l)))

  placed_while : (b : Branch) → PlacedBranch P b → Placed P (tree.While b.test b.body)
  unfolding is_fixed
  placed_while b h depth rest l = subst (λ ts. Lined P depth (ts ++ rest)) (sym (while_is b)) (h token.While refl depth rest l)

  -- ---- handlers

  handler_parts : (e b c rest : List Lexeme) → (token.Except ∷ (e ++ (b ++ token.Colon ∷ c))) ++ rest ≡ (token.Except ∷ (e ++ (b ++ token.Colon ∷ []))) ++ (c ++ rest)
  handler_parts e b c rest = simp append_assoc

  placed_handler : (h : Handler) → Row P (optional h.kinds) → Row P (bound_tokens h.bound) → Filled P h.body → PlacedHandler P h
  unfolding is_fixed
  placed_handler h r q p depth rest l =
      subst (Lined P depth) (sym (ap (λ ts. ts ++ rest) (handler_is h) ∙ handler_parts (optional h.kinds) (bound_tokens h.bound) (block (map stmt_tokens h.body)) rest))
      (block_lined (token.Except ∷ (optional h.kinds ++ (bound_tokens h.bound ++ token.Colon ∷ []))) (sign_row token.Except refl (row_behind r (row_behind q (sign_row token.Colon refl line.nothing)))) (omega arith) h.body p depth rest l)

  handlers_laid : (hs : List Handler) → PlacedHandlers P hs → (depth : ℕ) (rest : List Lexeme) → Laid P depth rest → Laid P depth (in_order (map handler_tokens hs) ++ rest)
  handlers_laid [] p depth rest l = l
  handlers_laid (h ∷ hs) p depth rest l =
      subst (Laid P depth) (sym (append_assoc (handler_tokens h) (in_order (map handler_tokens hs)) rest))
      (line.here (p.0 depth (in_order (map handler_tokens hs) ++ rest) (handlers_laid hs p.1 depth rest l)))

  try_parts : (b h e f rest : List Lexeme) → (token.Try ∷ token.Colon ∷ (b ++ (h ++ (e ++ f)))) ++ rest ≡ (token.Try ∷ token.Colon ∷ []) ++ (b ++ (h ++ (e ++ (f ++ rest))))
  try_parts b h e f rest = simp append_assoc

  placed_try : (ss : List Stmt) (hs : List Handler) (es fs : List Stmt) → Filled P ss → PlacedHandlers P hs → AllPlaced P es → AllPlaced P fs → Placed P (tree.Try ss hs es fs)
  unfolding is_fixed
  placed_try ss hs es fs p h q r depth rest l =
      let handlers : List Lexeme = in_order (map handler_tokens hs) in
      let otherwise : List Lexeme = clause token.Else (map stmt_tokens es) in
      let finally : List Lexeme = clause token.Finally (map stmt_tokens fs) in
      subst (Lined P depth) (sym (ap (λ ts. ts ++ rest) (try_is ss hs es fs) ∙ try_parts (block (map stmt_tokens ss)) handlers otherwise finally rest))
      (block_lined (token.Try ∷ token.Colon ∷ []) (sign_row token.Try refl (sign_row token.Colon refl line.nothing)) (omega arith) ss p depth (handlers ++ (otherwise ++ (finally ++ rest)))
      (handlers_laid hs h depth (otherwise ++ (finally ++ rest)) (clause_laid token.Else refl es q depth (finally ++ rest) (clause_laid token.Finally refl fs r depth rest l))))

  -- ---- functions

  names_rows : (ns : List (List ℕ)) → EachName P ns → Rows P (map name_tokens ns)
  names_rows [] h = tt
  names_rows (n ∷ ns) h = (line.plain (line.name h.0) line.nothing, names_rows ns h.1)

  names_row : (ns : List (List ℕ)) → EachName P ns → Row P (names_with token.Comma ns)
  unfolding is_fixed
  names_row ns h = separated_row token.Comma refl (map name_tokens ns) (names_rows ns h)

  each_behind : (ns ms : List (List ℕ)) → EachName P ns → EachName P ms → EachName P (ns ++ ms)
  each_behind [] ms h k = k
  each_behind (n ∷ ns) ms h k = (h.0, each_behind ns ms h.1 k)

  parameters_held : (found : List (List ℕ)) (room : ℕ) (ts : List Lexeme) (all : List (List ℕ) × Bool) → EachName P found → IsParameters found room ts all → Held P ts → EachName P all.0
  parameters_held found room ts all q grammar.no_parameters p = q
  parameters_held found room ts all q (grammar.last_parameter n h) p = each_behind found (n ∷ []) q (p.0, tt)
  parameters_held found room ts all q (grammar.next_parameter {ts = us} {all = al} n h k) p = parameters_held (found ++ n ∷ []) room us al (each_behind found (n ∷ []) q (p.0, tt)) k p.1.1

  global_held : (parameters : List (List ℕ)) (room : ℕ) (ts : List Lexeme) (n : List ℕ) → IsGlobal parameters room ts n → Held P ts → P (token.Name n)
  global_held parameters room ts n (grammar.global m h) p = p.0

  line_held : (parameters : List (List ℕ)) (room : ℕ) (ts : List Lexeme) (ns : List (List ℕ)) → IsSeparated token.Comma (IsGlobal parameters) room ts ns → Held P ts → EachName P ns
  line_held parameters room ts ns (one {ts = us} {a = n} h) p = (global_held parameters room us n h p, tt)
  line_held parameters room ts ns (more {xs = xs} {ys = ys} {a = n} {found = ms} h k) p = (global_held parameters room xs n h (held_front P xs (token.Comma ∷ ys) p), line_held parameters room ys ms k (held_back P xs (token.Comma ∷ ys) p).1)

  globals_held : (parameters : List (List ℕ)) (room : ℕ) (ts : List Lexeme) (ns : List (List ℕ)) → IsGlobalLines parameters room ts ns → Held P ts → EachName P ns
  globals_held parameters room ts ns grammar.no_globals p = tt
  globals_held parameters room ts ns (grammar.global_line {ns = ms} {ms = others} {ts = us} {us = vs} h k) p =
      each_behind ms others (line_held parameters room us ms h (held_front P us (token.Newline ∷ vs) p.1)) (globals_held parameters room vs others k (held_back P us (token.Newline ∷ vs) p.1).1)

  globals_lined : (ns : List (List ℕ)) → EachName P ns → (depth : ℕ) (rest : List Lexeme) → Lined P depth rest → Lined P depth (global_line ns ++ rest)
  unfolding is_fixed
  globals_lined [] h depth rest l = l
  globals_lined (n ∷ ns) h depth rest l =
      subst (λ ts. Lined P depth (token.Global ∷ ts)) (sym (append_assoc (names_with token.Comma (n ∷ ns)) (token.Newline ∷ []) rest))
      (line.line (sign_row token.Global refl (names_row (n ∷ ns) h)) (omega arith) (line.here l))

  def_parts : (name : List ℕ) (ns gs ss rest : List Lexeme) →
      (token.Def ∷ token.Name name ∷ token.OpenParen ∷ (ns ++ token.CloseParen ∷ token.Colon ∷ token.Newline ∷ token.Indent ∷ (gs ++ (ss ++ token.Dedent ∷ [])))) ++ rest
      ≡ (token.Def ∷ token.Name name ∷ token.OpenParen ∷ (ns ++ token.CloseParen ∷ token.Colon ∷ [])) ++ token.Newline ∷ token.Indent ∷ (gs ++ (ss ++ token.Dedent ∷ rest))
  def_parts name ns gs ss rest = simp append_assoc

  placed_def : (f : FuncDef) → P (token.Name f.name) → EachName P f.parameters → EachName P f.globals → Filled P f.body → Placed P (tree.Def f)
  unfolding is_fixed
  placed_def f h q g p depth rest l =
      subst (Lined P depth) (sym (ap (λ ts. ts ++ rest) (def_is f ∙ function_is f) ∙ def_parts f.name (names_with token.Comma f.parameters) (global_line f.globals) (stmts_tokens f.body) rest))
      (line.opens (sign_row token.Def refl (line.plain (line.name h) (line.parens (names_row f.parameters q) (sign_row token.Colon refl line.nothing)))) (omega arith)
      (globals_lined f.globals g (suc depth) (stmts_tokens f.body ++ token.Dedent ∷ rest) (stmts_lined f.body p (suc depth) (token.Dedent ∷ rest) (line.back l))))

  -- ---- what is spelled stands on lines when it is printed

  line_placed : {c : Context} {room : ℕ} {ts : List Lexeme} {x : List Stmt × Bool} → IsListed token.Semicolon (IsSimple c) room ts x → Held P ts → Filled P x.0
  line_placed (single h) p = (tt, (placed_simple P h p, tt))
  line_placed (sep_last {ts = ts} h) p = (tt, (placed_simple P h (held_front P ts (token.Semicolon ∷ []) p), tt))
  line_placed (several {xs = xs} {ys = ys} h k) p = (tt, (placed_simple P h (held_front P xs (token.Semicolon ∷ ys) p), (line_placed k (held_back P xs (token.Semicolon ∷ ys) p).1).1))

  filled_line : {c : Context} {room : ℕ} {ts : List Lexeme} {ss : List Stmt} → IsLine c room ts ss → Held P (ts ++ token.Newline ∷ []) → Filled P ss
  filled_line (simple.line {ts = ts} h) p = line_placed h (held_front P ts (token.Newline ∷ []) p)

  alone : (s : Stmt) → Placed P s → Filled P (s ∷ [])
  alone s h = (tt, (h, tt))

  mutual
    filled_stmt : {c : Context} {n room : ℕ} {ts : List Lexeme} {x : List Stmt × ℕ} → IsStmt c n room ts x → Held P ts → Filled P x.0
    filled_stmt (grammar.on_line h) p = filled_line h p
    filled_stmt (grammar.if_stmt {xs = xs} {ys = ys} {zs = zs} {b = b} {bs = bs} {ss = ss} h k q) p =
        let others : Held P (ys ++ zs) = held_back P xs (ys ++ zs) p.1 in
        alone (tree.If (b ∷ bs) ss) (placed_if b bs ss (branch_placed h (held_front P xs (ys ++ zs) p.1)) (elifs_placed k (held_front P ys zs others)) (else_placed q (held_back P ys zs others)))
    filled_stmt (grammar.while_stmt {b = b} h) p = alone (tree.While b.test b.body) (placed_while b (branch_placed h p.1))
    filled_stmt (grammar.try_finally {xs = xs} {ys = ys} {ss = ss} {fs = fs} h k) p =
        alone (tree.Try ss [] [] fs) (placed_try ss [] [] fs (filled_block h (held_front P xs (token.Finally ∷ token.Colon ∷ ys) p.1.1)) tt tt (filled_block k (held_back P xs (token.Finally ∷ token.Colon ∷ ys) p.1.1).1.1).1)
    filled_stmt (grammar.try_except {xs = xs} {hs = hs} {ys = ys} {zs = zs} {ss = ss} {es = es} {fs = fs} {handlers = handlers} h k q r) p =
        let behind : Held P (hs ++ (ys ++ zs)) = held_back P xs (hs ++ (ys ++ zs)) p.1.1 in
        let others : Held P (ys ++ zs) = held_back P hs (ys ++ zs) behind in
        alone (tree.Try ss handlers es fs) (placed_try ss handlers es fs (filled_block h (held_front P xs (hs ++ (ys ++ zs)) p.1.1)) (handlers_placed k (held_front P hs (ys ++ zs) behind)) (else_placed q (held_front P ys zs others)) (finally_placed r (held_back P ys zs others)))
    filled_stmt (grammar.def_stmt {n = n} {room = room} {ts = ts} {us = us} {parameters = parameters} {is_open = is_open} {b = b} name h q k) p =
        let names : Held P ts = held_front P ts (token.CloseParen ∷ token.Colon ∷ us) p.1.1.1 in
        let held : EachName P b.globals × Filled P b.stmts = body_placed k (held_back P ts (token.CloseParen ∷ token.Colon ∷ us) p.1.1.1).1.1 in
        let f : FuncDef = record { number = n; name = name; parameters = parameters; globals = b.globals; body = b.stmts } in
        alone (tree.Def f) (placed_def f p.1.0 (parameters_held [] room ts (parameters, is_open) tt q names) held.0 held.1)

    filled_stmts : {c : Context} {n room : ℕ} {ts : List Lexeme} {x : List Stmt × ℕ} → IsStmts c n room ts x → Held P ts → Filled P x.0
    filled_stmts (grammar.last_stmt h) p = filled_stmt h p
    filled_stmts (grammar.more_stmts {xs = xs} {ys = ys} {ss = ss} {rs = rs} h k) p =
        let first : Filled P ss = filled_stmt h (held_front P xs ys p) in
        (some_behind ss rs first.0, all_placed ss rs first.1 (filled_stmts k (held_back P xs ys p)).1)

    filled_block : {c : Context} {n room : ℕ} {ts : List Lexeme} {x : List Stmt × ℕ} → IsBlock c n room ts x → Held P ts → Filled P x.0
    filled_block (grammar.line_block h) p = filled_line h p
    filled_block (grammar.indented {ts = ts} h) p = filled_stmts h (held_front P ts (token.Dedent ∷ []) p.1.1)

    branch_placed : {c : Context} {n room : ℕ} {ts : List Lexeme} {x : Branch × ℕ} → IsBranch c n room ts x → Held P ts → PlacedBranch P x.0
    branch_placed (grammar.branch {xs = xs} {ys = ys} {e = e} {ss = ss} h k) p =
        placed_branch (record { test = e.tree; body = ss }) (chain_row P h (held_front P xs (token.Colon ∷ ys) p)) (filled_block k (held_back P xs (token.Colon ∷ ys) p).1)

    elifs_placed : {c : Context} {n room : ℕ} {ts : List Lexeme} {x : List Branch × ℕ} → IsElifs c n room ts x → Held P ts → PlacedBranches P x.0
    elifs_placed grammar.no_elif p = tt
    elifs_placed (grammar.elif {xs = xs} {ys = ys} h k) p = (branch_placed h (held_front P xs ys p.1), elifs_placed k (held_back P xs ys p.1))

    else_placed : {c : Context} {n room : ℕ} {ts : List Lexeme} {x : List Stmt × ℕ} → IsElse c n room ts x → Held P ts → AllPlaced P x.0
    else_placed grammar.no_else p = tt
    else_placed (grammar.else_block h) p = (filled_block h p.1.1).1

    finally_placed : {c : Context} {n room : ℕ} {ts : List Lexeme} {x : List Stmt × ℕ} → IsFinally c n room ts x → Held P ts → AllPlaced P x.0
    finally_placed grammar.no_finally p = tt
    finally_placed (grammar.finally_block h) p = (filled_block h p.1.1).1

    handler_placed : {c : Context} {n room : ℕ} {ts : List Lexeme} {x : Handler × ℕ} → IsHandler c n room ts x → Held P ts → PlacedHandler P x.0
    handler_placed (grammar.handler {room = room} {xs = xs} {ys = ys} {zs = zs} {e = e} {as_name = as_name} {ss = ss} h k q) p =
        let behind : Held P (ys ++ token.Colon ∷ zs) = held_back P xs (ys ++ token.Colon ∷ zs) p.1 in
        placed_handler (record { kinds = Some e.tree; bound = as_name; body = ss }) (chain_row P h (held_front P xs (ys ++ token.Colon ∷ zs) p.1)) (bound_row P room ys as_name k (held_front P ys (token.Colon ∷ zs) behind)) (filled_block q (held_back P ys (token.Colon ∷ zs) behind).1)

    handlers_placed : {c : Context} {n room : ℕ} {ts : List Lexeme} {x : List Handler × ℕ} → IsHandlers c n room ts x → Held P ts → PlacedHandlers P x.0
    handlers_placed (grammar.last_handler h) p = (handler_placed h p, tt)
    handlers_placed (grammar.takes_all {ss = ss} h) p = (placed_handler (record { kinds = None; bound = None; body = ss }) line.nothing line.nothing (filled_block h p.1.1), tt)
    handlers_placed (grammar.more_handlers {xs = xs} {ys = ys} h k) p = (handler_placed h (held_front P xs ys p), handlers_placed k (held_back P xs ys p))

    body_placed : {parameters : List (List ℕ)} {n room : ℕ} {ts : List Lexeme} {x : Body × ℕ} → IsBody parameters n room ts x → Held P ts → EachName P x.0.globals × Filled P x.0.stmts
    body_placed (grammar.line_body h) p = (tt, filled_line h p)
    body_placed (grammar.indented_body {parameters = parameters} {globals = globals} {room = room} {xs = xs} {ys = ys} h k) p =
        (globals_held parameters room xs globals h (held_front P xs (ys ++ token.Dedent ∷ []) p.1.1), filled_stmts k (held_front P ys (token.Dedent ∷ []) (held_back P xs (ys ++ token.Dedent ∷ []) p.1.1)))

  pub script_laid : (room : ℕ) (ts : List Lexeme) (s : Script) → Spells room ts s → Held P ts → Laid P zero (printed s)
  script_laid room ts s script.no_statements p = line.finish
  script_laid room ts s (script.statements {ts = us} {ss = ss} h) p = stmts_laid ss (filled_stmts h (held_front P us (token.End ∷ []) p)).1 zero (token.End ∷ []) line.finish
