-- `try` and `def` are read rightly, where the statements one level further in are.
use Rattle.std.proofs.Common.{◌≡◌, ℕ, zero, suc, ◌<◌, ◌&&◌, Bool, true, false, List, [], ◌∷◌, ◌++◌, length, Option, Some, None, Result, Ok, Err, refl, sym, ap, subst, ◌∙◌, append_assoc, append-nil, arith, length-append}
use Rattle.source_combinators.specs.declared.fault.Fault.{Fault}
use Rattle.source_combinators.specs.Reading.{Read, ◌>>=◌, given, refused, too_deep, head_of}
use Rattle.source_combinators.specs.Many.{rounds}
use Rattle.source_combinators.proofs.Right.{at_head, at_end, Found, Goes_on, Stuck, Right, refuses, refuses_end, chosen, IsSequence, sequence}
use Rattle.source_combinators.proofs.Steps.{IsToken, none_read, none_at_end, one_read}
use Rattle.source_combinators.proofs.Many.{IsRounds, bind_pair, bind_pairs, right_many}
use Rattle.source_combinators.proofs.Forms.{Grows, AllRight, right_then, prefixed, enclosed, as_named, widened}
use Rattle.py_syntax.specs.declared.lexeme.Lexeme.{Lexeme}
use Rattle.py_syntax.specs.declared.lexeme.Lexeme.TheVariants as token
use Rattle.py_syntax.specs.declared.expr.Expr.{Expr}
use Rattle.py_syntax.specs.declared.expr.Spelled.{Spelled}
use Rattle.py_syntax.specs.declared.stmt.Stmt.{Stmt}
use Rattle.py_syntax.specs.declared.stmt.Stmt.TheVariants as tree
use Rattle.py_syntax.specs.declared.stmt.Handler.{Handler}
use Rattle.py_syntax.specs.declared.context.Context.{Context}
use Rattle.py_syntax.specs.Contexts.{within_finally}
use Rattle.py_syntax.specs.Expressions.{IsExpr}
use Rattle.py_syntax.specs.Simple as simple
use Rattle.py_syntax.specs.Simple.{IsBound}
use Rattle.py_syntax.specs.Statements as grammar
use Rattle.py_syntax.specs.Statements.{IsStmt, IsBlock, IsElse, IsFinally, IsHandler, IsHandlers}
use Rattle.source_spec_lines.specs.Expressions.{expr, form, Whole}
use Rattle.source_spec_lines.proofs.ExpressionFamilies.{grows_chain}
use Rattle.source_spec_lines.proofs.ExpressionRight.{right_form, a_name, the_name, name_expr}
use Rattle.source_spec_lines.specs.Lines.{bound}
use Rattle.source_spec_lines.proofs.LineFamilies.{grows_bound}
use Rattle.source_spec_lines.proofs.LineRight.{right_bound}
use Rattle.source_spec_statements.specs.Reading.{Stmts, Reader, block, colon_block, else_part, finally_part, Handlers, with_handler, except_ahead, begins_handler, caught, handler_rest, next_handler, handlers, try_ends, after_try, try_rest}
use Rattle.source_spec_statements.proofs.Families.{grows_block, grows_else, grows_finally, grows_handler, grows_handlers}
use Rattle.source_spec_statements.proofs.Right.{IsInner, IsColonBlock, colon_before, right_block, right_colon_block, colon_goes_on, grows_colon_block, block_goes_on, pass_block, right_else, right_finally}

abbrev pair : List Stmt → ℕ → Stmts
pair ss n = (ss, n)

-- ---- handlers

abbrev Caught : Type 0
Caught = Expr × Option (List ℕ)

pub data IsCaught : ℕ → List Lexeme → Caught → Type 0 where
  is_caught : {room : ℕ} {xs ys : List Lexeme} {e : Spelled} {b : Option (List ℕ)} → IsExpr room xs e → IsBound room ys b → IsCaught room (xs ++ ys) (e.tree, b)

right_caught : (room : ℕ) → AllRight (caught room) IsCaught room
unfolding caught
right_caught room ts =
    sequence {p = []} {F = expr room} {IsA = IsExpr} {G = λ e. bound} {IsB = λ e. IsBound} {f = λ e b. (e.tree, b)} {H = caught room} {IsC = IsCaught} (record {
      computes = λ us. refl;
      builds = λ k xs ys e b q r. is_caught q r;
      grows = λ k xs e q. grows_chain q;
      finishes = λ k e. record { more = []; value = None; spelled = simple.own_name };
    }) room ts (right_form room Whole ts) (λ e rest k. right_bound room rest)

abbrev handler_of : Option Expr → Option (List ℕ) → Stmts → Handler
handler_of kinds as_name b = record { kinds = kinds; bound = as_name; body = b.0 }

-- a handler behind others: one that names its kinds, or one that takes each error, after which none follows
pub data IsNextHandler : Context → Handlers → ℕ → List Lexeme → Handlers → Type 0 where
  kinds_named : {c : Context} {found : List Handler} {n room : ℕ} {h : Handler × ℕ} {ts : List Lexeme} → IsHandler c n room ts h → IsNextHandler c (record { found = found; next = n; is_open = true }) room ts (record { found = found ++ h.0 ∷ []; next = h.1; is_open = true })
  all_taken : {c : Context} {found : List Handler} {n room : ℕ} {b : Stmts} {ts : List Lexeme} → IsBlock c n room ts b → IsNextHandler c (record { found = found; next = n; is_open = true }) room (token.Except ∷ token.Colon ∷ ts) (record { found = found ++ handler_of None None b ∷ []; next = b.1; is_open = false })

abbrev some_handlers : List Handler → ℕ → Handlers
some_handlers found n = record { found = found; next = n; is_open = true }

-- what makes a handler of what stands behind `except`
abbrev IsHandlerRest : Context → Handlers → ℕ → List Lexeme → Handlers → Type 0
IsHandlerRest c s room ts t = IsNextHandler c s room (token.Except ∷ ts) t

handler_by : (c : Context) (n room : ℕ) (xs ys : List Lexeme) (k : Caught) (b : Stmts) → IsCaught room xs k → IsColonBlock c n room ys b → IsHandler c n room (token.Except ∷ (xs ++ ys)) (handler_of (Some k.0) k.1 b, b.1)
handler_by c n room xs ys k b (is_caught {xs = us} {ys = vs} {e = e} {b = as_name} h q) (colon_before {ts = ts} r) =
    subst (λ (l : List Lexeme). IsHandler c n room (token.Except ∷ l) (handler_of (Some e.tree) as_name b, b.1)) (sym (append_assoc us vs (token.Colon ∷ ts))) (grammar.handler h q r)

grows_caught : Grows IsCaught
grows_caught n ts k (is_caught {ys = ys} {b = b} h q) = is_caught (grows_chain h) (grows_bound n ys b q)

right_named : (inner : Reader) (room : ℕ) → IsInner inner room → (c : Context) (found : List Handler) (n : ℕ) → AllRight (λ ts. caught room ts >>= λ k. colon_block inner room c n k.1 >>= λ b. given (with_handler found (Some k.0.0) k.0.1 b.0 true) b.1) (IsHandlerRest c (some_handlers found n)) room
right_named inner room h c found n ts =
    sequence {p = []} {F = caught room} {IsA = IsCaught} {G = λ k. colon_block inner room c n} {IsB = λ k. IsColonBlock c n} {f = λ k b. with_handler found (Some k.0) k.1 b true} {H = λ us. caught room us >>= λ k. colon_block inner room c n k.1 >>= λ b. given (with_handler found (Some k.0.0) k.0.1 b.0 true) b.1} {IsC = IsHandlerRest c (some_handlers found n)} (record {
      computes = λ us. refl;
      builds = λ m xs ys k b q r. kinds_named (handler_by c n m xs ys k b q r);
      grows = grows_caught;
      finishes = λ m k. colon_goes_on c n m;
    }) room ts (right_caught room ts) (λ k rest q. right_colon_block inner room h c n rest)

right_all : (inner : Reader) (room : ℕ) → IsInner inner room → (c : Context) (found : List Handler) (n : ℕ) (ts : List Lexeme) → Right (handler_rest inner room c (some_handlers found n)) (IsHandlerRest c (some_handlers found n)) room (token.Colon ∷ ts) (handler_rest inner room c (some_handlers found n) (token.Colon ∷ ts))
unfolding handler_rest
right_all inner room h c found n ts = prefixed (token.Colon ∷ []) (block inner room c n) (IsBlock c n) (λ b. with_handler found None None b false) (handler_rest inner room c (some_handlers found n)) (IsHandlerRest c (some_handlers found n)) (λ us. refl) (λ k xs b q. all_taken q) (λ k xs b q. grows_block q) room ts (right_block inner room h c n ts)

abbrev named : Reader → ℕ → Context → List Handler → ℕ → List Lexeme → Read Lexeme Handlers
named inner room c found n ts = caught room ts >>= λ k. colon_block inner room c n k.1 >>= λ b. given (with_handler found (Some k.0.0) k.0.1 b.0 true) b.1

rest_as_named : (inner : Reader) (room : ℕ) → IsInner inner room → (c : Context) (found : List Handler) (n : ℕ) (ts : List Lexeme) → ((us : List Lexeme) → head_of us ≡ head_of ts → handler_rest inner room c (some_handlers found n) us ≡ named inner room c found n us) → Right (handler_rest inner room c (some_handlers found n)) (IsHandlerRest c (some_handlers found n)) room ts (named inner room c found n ts)
rest_as_named inner room h c found n ts e = chosen (named inner room c found n) (handler_rest inner room c (some_handlers found n)) (IsHandlerRest c (some_handlers found n)) (IsHandlerRest c (some_handlers found n)) room ts (named inner room c found n ts) e (λ k xs x q. q) (right_named inner room h c found n ts)

right_handler_rest : (inner : Reader) (room : ℕ) → IsInner inner room → (c : Context) (found : List Handler) (n : ℕ) → AllRight (handler_rest inner room c (some_handlers found n)) (IsHandlerRest c (some_handlers found n)) room
unfolding handler_rest
right_handler_rest inner room h c found n [] = rest_as_named inner room h c found n [] (λ us e. at_end (λ l. handler_rest inner room c (some_handlers found n) l ≡ named inner room c found n l) us e refl)
right_handler_rest inner room h c found n (token.Colon ∷ ts) = right_all inner room h c found n ts
right_handler_rest inner room h c found n (t ∷ ts) = rest_as_named inner room h c found n (t ∷ ts) (λ us e. at_head (λ l. handler_rest inner room c (some_handlers found n) l ≡ named inner room c found n l) t us e (λ tail. refl))

handlers_again : (r : Read Lexeme Handlers) → r ≡ (r >>= λ x. given x.0 x.1)
handlers_again (Ok x) = refl
handlers_again (Err fault) = refl

grows_next_handler : (c : Context) (n : ℕ) (s t : Handlers) (ts : List Lexeme) → IsNextHandler c s n ts t → IsNextHandler c s (suc n) ts t
grows_next_handler c n s t ts (kinds_named h) = kinds_named (grows_handler h)
grows_next_handler c n s t ts (all_taken h) = all_taken (grows_block h)

right_except : (inner : Reader) (room : ℕ) → IsInner inner room → (c : Context) (found : List Handler) (n : ℕ) (ts : List Lexeme) → Right (next_handler inner room c (some_handlers found n)) (IsNextHandler c (some_handlers found n)) room (token.Except ∷ ts) (next_handler inner room c (some_handlers found n) (token.Except ∷ ts))
unfolding next_handler
right_except inner room h c found n ts = prefixed (token.Except ∷ []) (handler_rest inner room c (some_handlers found n)) (IsHandlerRest c (some_handlers found n)) (λ x. x) (next_handler inner room c (some_handlers found n)) (IsNextHandler c (some_handlers found n)) (λ us. handlers_again (handler_rest inner room c (some_handlers found n) us)) (λ k xs x q. q) (λ k xs x q. grows_next_handler c k (some_handlers found n) x (token.Except ∷ xs) q) room ts (right_handler_rest inner room h c found n ts)

handler_goes_on : (c : Context) (found : List Handler) (n room : ℕ) → Goes_on (IsNextHandler c (some_handlers found n)) room []
handler_goes_on c found n room = record { more = token.Except ∷ token.Colon ∷ token.Pass ∷ token.Newline ∷ []; value = with_handler found None None (pair (tree.Pass ∷ []) n) false; spelled = all_taken (pass_block c n room) }

right_open_handler : (inner : Reader) (room : ℕ) → IsInner inner room → (c : Context) (found : List Handler) (n : ℕ) → AllRight (next_handler inner room c (some_handlers found n)) (IsNextHandler c (some_handlers found n)) room
unfolding next_handler
right_open_handler inner room h c found n [] = refuses_end (next_handler inner room c (some_handlers found n)) (IsNextHandler c (some_handlers found n)) room (handler_goes_on c found n room) refl
right_open_handler inner room h c found n (token.Except ∷ ts) = right_except inner room h c found n ts
right_open_handler inner room h c found n (t ∷ ts) = refuses (next_handler inner room c (some_handlers found n)) (IsNextHandler c (some_handlers found n)) room t ts (handler_goes_on c found n room) (λ tail. refl)

abbrev pub handlers_by : List Handler → ℕ → Bool → Handlers
handlers_by found n is_open = record { found = found; next = n; is_open = is_open }

right_next_handler : (inner : Reader) (room : ℕ) → IsInner inner room → (c : Context) (found : List Handler) (n : ℕ) (is_open : Bool) (ts : List Lexeme) → begins_handler (handlers_by found n is_open) (head_of ts) ≡ true → Right (next_handler inner room c (handlers_by found n is_open)) (IsNextHandler c (handlers_by found n is_open)) room ts (next_handler inner room c (handlers_by found n is_open) ts)
right_next_handler inner room h c found n true ts e = right_open_handler inner room h c found n ts
right_next_handler inner room h c found n false ts e = absurd cc

-- handlers behind those that are found already, with whether another one may follow
pub data IsMoreHandlers : Context → List Handler → ℕ → Bool → ℕ → List Lexeme → Handlers → Type 0 where
  no_handlers : {c : Context} {found : List Handler} {n room : ℕ} {o : Bool} → IsMoreHandlers c found n o room [] (handlers_by found n o)
  some_more : {c : Context} {found : List Handler} {n room : ℕ} {o : Bool} {ts : List Lexeme} {hs : List Handler × ℕ} → IsHandlers c n room ts hs → IsMoreHandlers c found n true room ts (handlers_by (found ++ hs.0) hs.1 o)

abbrev IsAllHandlers : Context → Handlers → ℕ → List Lexeme → Handlers → Type 0
IsAllHandlers c s room ts t = IsMoreHandlers c s.found s.next s.is_open room ts t

named_before : {c : Context} {found : List Handler} {n room : ℕ} {h : Handler × ℕ} {xs ys : List Lexeme} {u : Handlers} → IsHandler c n room xs h → IsMoreHandlers c (found ++ h.0 ∷ []) h.1 true room ys u → IsMoreHandlers c found n true room (xs ++ ys) u
named_before {c = c} {found = found} {n = n} {room = room} {h = h} {xs = xs} q no_handlers = subst (λ (l : List Lexeme). IsMoreHandlers c found n true room l (handlers_by (found ++ h.0 ∷ []) h.1 true)) (sym (append-nil xs)) (some_more (grammar.last_handler q))
named_before {c = c} {found = found} {n = n} {room = room} {h = h} {xs = xs} {ys = ys} q (some_more {o = o} {hs = hs} k) = subst (λ (l : List Handler). IsMoreHandlers c found n true room (xs ++ ys) (handlers_by l hs.1 o)) (sym (append_assoc found (h.0 ∷ []) hs.0)) (some_more (grammar.more_handlers q k))

taken_before : {c : Context} {found : List Handler} {n room : ℕ} {b : Stmts} {xs ys : List Lexeme} {u : Handlers} → IsBlock c n room xs b → IsMoreHandlers c (found ++ handler_of None None b ∷ []) b.1 false room ys u → IsMoreHandlers c found n true room ((token.Except ∷ token.Colon ∷ xs) ++ ys) u
taken_before {c = c} {found = found} {n = n} {room = room} {b = b} {xs = xs} q no_handlers = subst (λ (l : List Lexeme). IsMoreHandlers c found n true room (token.Except ∷ token.Colon ∷ l) (handlers_by (found ++ handler_of None None b ∷ []) b.1 false)) (sym (append-nil xs)) (some_more (grammar.takes_all q))

all_handlers : (c : Context) (n : ℕ) (s t u : Handlers) (xs ys : List Lexeme) → IsNextHandler c s n xs t → IsAllHandlers c t n ys u → IsAllHandlers c s n (xs ++ ys) u
all_handlers c n s t u xs ys (kinds_named h) k = named_before h k
all_handlers c n s t u xs ys (all_taken h) k = taken_before h k

takes_handler : (c : Context) (n : ℕ) (s t : Handlers) (ts : List Lexeme) → IsNextHandler c s n ts t → 0 < length ts
takes_handler c n s t ts (kinds_named (grammar.handler h k q)) = omega arith
takes_handler c n s t ts (all_taken h) = omega arith

pub handler_rounds : (inner : Reader) (room : ℕ) → IsInner inner room → (c : Context) → IsRounds begins_handler (next_handler inner room c) (IsNextHandler c) (IsAllHandlers c) room
handler_rounds inner room h c = record {
  right = λ s ts e. right_next_handler inner room h c s.found s.next s.is_open ts e;
  takes = takes_handler c room;
  grows = grows_next_handler c;
  none = λ n s. no_handlers;
  more = all_handlers c;
}

abbrev IsWhole : Context → ℕ → ℕ → List Lexeme → Handlers → Type 0
IsWhole c n room ts t = IsHandlers c n room ts (t.found, t.next)

abbrev handler_pair : List Handler → ℕ → List Handler × ℕ
handler_pair hs n = (hs, n)

whole_handlers : (c : Context) (n room : ℕ) (xs ys : List Lexeme) (s t : Handlers) → IsNextHandler c (some_handlers [] n) room xs s → IsAllHandlers c s room ys t → IsWhole c n room (xs ++ ys) t
whole_handlers c n room xs ys s t (kinds_named {h = hd} h) no_handlers = subst (λ (l : List Lexeme). IsHandlers c n room l (handler_pair (hd.0 ∷ []) hd.1)) (sym (append-nil xs)) (grammar.last_handler h)
whole_handlers c n room xs ys s t (kinds_named h) (some_more k) = grammar.more_handlers h k
whole_handlers c n room xs ys s t (all_taken {b = b} {ts = us} h) no_handlers = subst (λ (l : List Lexeme). IsHandlers c n room (token.Except ∷ token.Colon ∷ l) (handler_pair (handler_of None None b ∷ []) b.1)) (sym (append-nil us)) (grammar.takes_all h)

pub right_handlers : (inner : Reader) (room : ℕ) → IsInner inner room → (c : Context) (n : ℕ) → AllRight (handlers inner room c n) (IsWhole c n) room
unfolding handlers
right_handlers inner room h c n =
    right_then (next_handler inner room c (some_handlers [] n)) (IsNextHandler c (some_handlers [] n)) (λ s. rounds begins_handler (next_handler inner room c) s) (IsAllHandlers c) (handlers inner room c n) (IsWhole c n) (λ us. refl) (λ k xs ys s t q r. whole_handlers c n k xs ys s t q r) (λ k xs s q. grows_next_handler c k (some_handlers [] n) s xs q) (λ k s. record { more = []; value = s; spelled = no_handlers }) room (right_open_handler inner room h c [] n) (λ s ts. right_many (handler_rounds inner room h c) s ts)

-- ---- the ends of `try`

abbrev Ends : Type 0
Ends = List Stmt × List Stmt × ℕ

pub data IsEnds : Context → ℕ → ℕ → List Lexeme → Ends → Type 0 where
  is_ends : {c : Context} {n room : ℕ} {xs ys : List Lexeme} {es fs : Stmts} → IsElse c n room xs es → IsFinally c es.1 room ys fs → IsEnds c n room (xs ++ ys) (es.0, fs.0, fs.1)

right_ends : (inner : Reader) (room : ℕ) → IsInner inner room → (c : Context) (n : ℕ) → AllRight (try_ends inner room c n) (IsEnds c n) room
unfolding try_ends
right_ends inner room h c n ts =
    sequence {p = []} {F = else_part inner room c n} {IsA = IsElse c n} {G = λ es. finally_part inner room c es.1} {IsB = λ es. IsFinally c es.1} {f = λ es fs. (es.0, fs.0, fs.1)} {H = try_ends inner room c n} {IsC = IsEnds c n} (record {
      computes = λ us. refl;
      builds = λ k xs ys es fs q r. is_ends q r;
      grows = λ k xs es q. grows_else q;
      finishes = λ k es. record { more = []; value = pair [] es.1; spelled = grammar.no_finally };
    }) room ts (right_else inner room h c n ts) (λ es rest k. right_finally inner room h c es.1 rest)

-- what stands behind the block of `try`
pub data IsAfterTry : Context → Stmts → ℕ → List Lexeme → Stmts → Type 0 where
  only_finally : {c : Context} {b fs : Stmts} {room : ℕ} {ts : List Lexeme} → IsColonBlock (within_finally c) b.1 room ts fs → IsAfterTry c b room (token.Finally ∷ ts) (tree.Try b.0 [] [] fs.0 ∷ [], fs.1)
  with_handlers : {c : Context} {b : Stmts} {room : ℕ} {xs ys : List Lexeme} {hs : List Handler × ℕ} {e : Ends} → IsHandlers c b.1 room xs hs → IsEnds c hs.1 room ys e → IsAfterTry c b room (xs ++ ys) (tree.Try b.0 hs.0 e.0 e.1 ∷ [], e.2)

abbrev caught_try : Reader → ℕ → Context → Stmts → List Lexeme → Read Lexeme Stmts
caught_try inner room c b ts = handlers inner room c b.1 ts >>= λ h. try_ends inner room c h.0.next h.1 >>= λ e. given (tree.Try b.0 h.0.found e.0.0 e.0.1 ∷ [], e.0.2) e.1

right_caught_try : (inner : Reader) (room : ℕ) → IsInner inner room → (c : Context) (b : Stmts) → AllRight (caught_try inner room c b) (IsAfterTry c b) room
right_caught_try inner room h c b ts =
    sequence {p = []} {F = handlers inner room c b.1} {IsA = IsWhole c b.1} {G = λ hs. try_ends inner room c hs.next} {IsB = λ hs. IsEnds c hs.next} {f = λ hs e. (tree.Try b.0 hs.found e.0 e.1 ∷ [], e.2)} {H = caught_try inner room c b} {IsC = IsAfterTry c b} (record {
      computes = λ us. refl;
      builds = λ k xs ys hs e q r. with_handlers {hs = handler_pair hs.found hs.next} q r;
      grows = λ k xs hs q. grows_handlers q;
      finishes = λ k hs. record { more = []; value = ([], [], hs.next); spelled = is_ends grammar.no_else grammar.no_finally };
    }) room ts (right_handlers inner room h c b.1 ts) (λ hs rest k. right_ends inner room h c hs.next rest)

after_as : (inner : Reader) (room : ℕ) → IsInner inner room → (c : Context) (b : Stmts) (ts : List Lexeme) → ((us : List Lexeme) → head_of us ≡ head_of ts → after_try inner room c b us ≡ caught_try inner room c b us) → Right (after_try inner room c b) (IsAfterTry c b) room ts (caught_try inner room c b ts)
after_as inner room h c b ts e = chosen (caught_try inner room c b) (after_try inner room c b) (IsAfterTry c b) (IsAfterTry c b) room ts (caught_try inner room c b ts) e (λ k xs x q. q) (right_caught_try inner room h c b ts)

right_after_try : (inner : Reader) (room : ℕ) → IsInner inner room → (c : Context) (b : Stmts) → AllRight (after_try inner room c b) (IsAfterTry c b) room
unfolding after_try
right_after_try inner room h c b [] = after_as inner room h c b [] (λ us e. at_end (λ l. after_try inner room c b l ≡ caught_try inner room c b l) us e refl)
right_after_try inner room h c b (token.Finally ∷ ts) = prefixed (token.Finally ∷ []) (colon_block inner room (within_finally c) b.1) (IsColonBlock (within_finally c) b.1) (λ f. pair (tree.Try b.0 [] [] f.0 ∷ []) f.1) (after_try inner room c b) (IsAfterTry c b) (λ us. refl) (λ k xs f q. only_finally q) (grows_colon_block (within_finally c) b.1) room ts (right_colon_block inner room h (within_finally c) b.1 ts)
right_after_try inner room h c b (t ∷ ts) = after_as inner room h c b (t ∷ ts) (λ us e. at_head (λ l. after_try inner room c b l ≡ caught_try inner room c b l) t us e (λ tail. refl))

after_try_goes_on : (c : Context) (b : Stmts) (room : ℕ) → Goes_on (IsAfterTry c b) room []
after_try_goes_on c b room = record { more = token.Finally ∷ token.Colon ∷ token.Pass ∷ token.Newline ∷ []; value = pair (tree.Try b.0 [] [] (tree.Pass ∷ []) ∷ []) b.1; spelled = only_finally (colon_before (pass_block (within_finally c) b.1 room)) }

-- what stands behind `try`
pub data IsTry : Context → ℕ → ℕ → List Lexeme → Stmts → Type 0 where
  is_try : {c : Context} {n room : ℕ} {xs ys : List Lexeme} {b ss : Stmts} → IsColonBlock c n room xs b → IsAfterTry c b room ys ss → IsTry c n room (xs ++ ys) ss

pub right_try : (inner : Reader) (room : ℕ) → IsInner inner room → (c : Context) (n : ℕ) → AllRight (try_rest inner room c n) (IsTry c n) room
unfolding try_rest
right_try inner room h c n = right_then (colon_block inner room c n) (IsColonBlock c n) (after_try inner room c) (IsAfterTry c) (try_rest inner room c n) (IsTry c n) (λ us. refl) (λ k xs ys b ss q r. is_try q r) (grows_colon_block c n) (λ k b. after_try_goes_on c b k) room (right_colon_block inner room h c n) (λ b ts. right_after_try inner room h c b ts)

after_try_by : (c : Context) (n room : ℕ) (xs ys : List Lexeme) (b ss : Stmts) → IsBlock c n room xs b → IsAfterTry c b room ys ss → IsStmt c n (suc room) (token.Try ∷ token.Colon ∷ (xs ++ ys)) ss
after_try_by c n room xs ys b ss h (only_finally (colon_before k)) = grammar.try_finally h k
after_try_by c n room xs ys b ss h (with_handlers k (is_ends q r)) = grammar.try_except h k q r

pub try_by : (c : Context) (n room : ℕ) (ts : List Lexeme) (ss : Stmts) → IsTry c n room ts ss → IsStmt c n (suc room) (token.Try ∷ ts) ss
try_by c n room ts ss (is_try {ys = ys} {b = b} (colon_before {ts = xs} h) k) = after_try_by c n room xs ys b ss h k

grows_after_try : (c : Context) (b : Stmts) → Grows (IsAfterTry c b)
grows_after_try c b n ts ss (only_finally {fs = fs} {ts = us} k) = only_finally (grows_colon_block (within_finally c) b.1 n us fs k)
grows_after_try c b n ts ss (with_handlers k (is_ends q r)) = with_handlers (grows_handlers k) (is_ends (grows_else q) (grows_finally r))

pub grows_try : (c : Context) (n : ℕ) → Grows (IsTry c n)
grows_try c n room ts ss (is_try {xs = xs} {ys = ys} {b = b} h k) = is_try (grows_colon_block c n room xs b h) (grows_after_try c b room ys ss k)
