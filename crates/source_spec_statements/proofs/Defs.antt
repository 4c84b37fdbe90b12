-- `def` is read rightly, where the statements one level further in are.
use Rattle.std.proofs.Common.{◌≡◌, ℕ, zero, suc, ◌+◌, ◌<◌, ◌≤◌, ◌&&◌, ◌||◌, Bool, true, false, List, [], ◌∷◌, ◌++◌, length, Option, Some, None, Result, Ok, Err, refl, sym, ap, subst, ◌∙◌, append_assoc, append-nil, arith, length-append}
use Rattle.std.specs.Prelude.{nat_eq}
use Rattle.std.specs.Cmp.Lexicographic.{pointwise}
use Rattle.source_combinators.specs.declared.fault.Fault.{Fault}
use Rattle.source_combinators.specs.Reading.{Read, ◌>>=◌, given, refused, too_deep, head_of}
use Rattle.source_combinators.specs.Many.{rounds}
use Rattle.source_combinators.specs.Separated.{separated, IsSeparated, one, more}
use Rattle.source_combinators.proofs.Right.{at_head, at_end, Found, Goes_on, Stuck, Right, refuses, refuses_end, chosen, IsSequence, sequence}
use Rattle.source_combinators.proofs.Steps.{IsToken, token_goes_on, token_there, token_missing, token_cut, none_read, none_at_end, one_read}
use Rattle.source_combinators.proofs.Many.{IsRounds, bind_pair, bind_pairs, right_many}
use Rattle.source_combinators.proofs.Forms.{Grows, AllRight, right_then, prefixed, enclosed, as_named, widened}
use Rattle.source_combinators.proofs.Separated.{right_separated}
use Rattle.py_syntax.specs.declared.lexeme.Lexeme.{Lexeme}
use Rattle.py_syntax.specs.declared.lexeme.Lexeme.TheVariants as token
use Rattle.py_syntax.specs.declared.stmt.Stmt.{Stmt}
use Rattle.py_syntax.specs.declared.stmt.Stmt.TheVariants as tree
use Rattle.py_syntax.specs.declared.context.Context.{Context}
use Rattle.py_syntax.specs.Contexts.{within_function}
use Rattle.py_syntax.specs.Simple.{IsLine, IsName}
use Rattle.py_syntax.specs.Simple as simple
use Rattle.py_syntax.specs.Statements as grammar
use Rattle.py_syntax.specs.Statements.{is_among, IsParameters, IsGlobal, IsGlobalLines, Body, body, IsStmt, IsStmts, IsBlock, IsBody}
use Rattle.source_spec_lines.specs.Expressions.{comma, close_paren}
use Rattle.source_spec_lines.proofs.TokenForms.{right_close_paren, IsComma, comma_there, no_comma, right_comma}
use Rattle.source_spec_lines.specs.Lines.{name, name_ahead, comma_ahead, line}
use Rattle.source_spec_lines.proofs.LineFamilies.{grows_separated, grows_name, grows_line}
use Rattle.source_spec_lines.proofs.LineRight.{right_name, right_line, is_comma, no_comma_ahead}
use Rattle.source_spec_statements.specs.Reading.{Stmts, Reader, newline, colon, indent, open_paren, line_block, stmts_to_dedent, Names, fresh_by, fresh, parameter, begins_parameter, parameters, global_ahead, next_global, globals, indented_body, after_newline, function_body, parameter_list, signature, function, def_rest}
use Rattle.source_spec_statements.proofs.Families.{grows_parameters, grows_global, grows_global_lines, grows_stmts, grows_body}
use Rattle.source_spec_statements.proofs.Right.{IsInner, right_newline, right_colon, right_indent, IsToDedent, to_dedent, right_to_dedent, to_dedent_goes_on, pass_line}

-- ---- a name that none of these is

letters : ℕ → List ℕ
letters zero = []
letters (suc n) = 97 ∷ letters n

-- longer than all of them
longest : List (List ℕ) → ℕ
longest [] = 0
longest (m ∷ ms) = suc (length m) + longest ms

letters_length : (n : ℕ) → length (letters n) ≡ n
unfolding letters
letters_length zero = refl
letters_length (suc n) = let e = letters_length n in omega (arith, e)

-- texts of different lengths are no equals
unequal : (xs ys : List ℕ) → ¬ (length xs ≡ length ys) → pointwise nat_eq xs ys ≡ false
unequal [] [] h = absurd (h refl)
unequal [] (y ∷ ys) h = refl
unequal (x ∷ xs) [] h = refl
unequal (x ∷ xs) (y ∷ ys) h = both_false (nat_eq x y) (pointwise nat_eq xs ys) (unequal xs ys (λ e. h (let f : length (x ∷ xs) ≡ length (y ∷ ys) = omega (arith, e) in f)))
  where
    both_false : (a b : Bool) → b ≡ false → (a && b) ≡ false
    both_false true b e = e
    both_false false b e = refl

longer_is_fresh : (n : ℕ) (names : List (List ℕ)) → longest names < n → is_among (letters n) names ≡ false
unfolding longest
longer_is_fresh n [] h = refl
longer_is_fresh n (m ∷ ms) h =
    let l = letters_length n in
    rw (unequal (letters n) m (λ e. absurd (omega (arith, e, l, h)))) (longer_is_fresh n ms (omega (arith, h)))

fresh_name : List (List ℕ) → List ℕ
fresh_name names = letters (suc (longest names))

is_fresh : (names : List (List ℕ)) → is_among (fresh_name names) names ≡ false
unfolding fresh_name
is_fresh names = longer_is_fresh (suc (longest names)) names (omega arith)

fresh_goes_on : (names : List (List ℕ)) (room : ℕ) → Goes_on (IsGlobal names) room []
fresh_goes_on names room = record { more = token.Name (fresh_name names) ∷ []; value = fresh_name names; spelled = grammar.global (fresh_name names) (is_fresh names) }

right_fresh_by : (names : List (List ℕ)) (room : ℕ) (n : List ℕ) (ts : List Lexeme) (b : Bool) → is_among n names ≡ b → Right (fresh names) (IsGlobal names) room (token.Name n ∷ ts) (fresh_by b n ts)
unfolding fresh
right_fresh_by names room n ts true e = refuses (fresh names) (IsGlobal names) room (token.Name n) ts (fresh_goes_on names room) (λ tail. ap (λ (b : Bool). fresh_by b n tail) e)
right_fresh_by names room n ts false e = one_read (fresh names) (IsGlobal names) room n (token.Name n) ts (grammar.global n e) (λ tail. ap (λ (b : Bool). fresh_by b n tail) e)

pub right_fresh : (names : List (List ℕ)) (room : ℕ) → AllRight (fresh names) (IsGlobal names) room
unfolding fresh
right_fresh names room [] = refuses_end (fresh names) (IsGlobal names) room (fresh_goes_on names room) refl
right_fresh names room (token.Name n ∷ ts) = right_fresh_by names room n ts (is_among n names) refl
right_fresh names room (t ∷ ts) = refuses (fresh names) (IsGlobal names) room t ts (fresh_goes_on names room) (λ tail. refl)

-- ---- parameters

pub data IsParameter : Names → ℕ → List Lexeme → Names → Type 0 where
  a_parameter : {found : List (List ℕ)} {room : ℕ} {us : List Lexeme} {b : Bool} (n : List ℕ) → is_among n found ≡ false → IsComma room us b → IsParameter (found, true) room (token.Name n ∷ us) (found ++ n ∷ [], b)

abbrev names_by : List (List ℕ) → Bool → Names
names_by found is_open = (found, is_open)

parameter_by : (found : List (List ℕ)) (room : ℕ) (xs ys : List Lexeme) (n : List ℕ) (b : Bool) → IsGlobal found room xs n → IsComma room ys b → IsParameter (names_by found true) room (xs ++ ys) (names_by (found ++ n ∷ []) b)
parameter_by found room xs ys n b (grammar.global m e) k = a_parameter m e k

right_open_parameter : (found : List (List ℕ)) (room : ℕ) → AllRight (parameter (names_by found true)) (IsParameter (names_by found true)) room
unfolding parameter
right_open_parameter found room ts =
    sequence {p = []} {F = fresh found} {IsA = IsGlobal found} {G = λ n. comma} {IsB = λ n. IsComma} {f = λ n b. names_by (found ++ n ∷ []) b} {H = parameter (names_by found true)} {IsC = IsParameter (names_by found true)} (record {
      computes = λ us. refl;
      builds = parameter_by found;
      grows = grows_global found;
      finishes = λ k n. record { more = []; value = false; spelled = no_comma };
    }) room ts (right_fresh found room ts) (λ n rest k. right_comma room rest)

right_parameter : (found : List (List ℕ)) (is_open : Bool) (room : ℕ) (ts : List Lexeme) → begins_parameter (names_by found is_open) (head_of ts) ≡ true → Right (parameter (names_by found is_open)) (IsParameter (names_by found is_open)) room ts (parameter (names_by found is_open) ts)
right_parameter found true room ts e = right_open_parameter found room ts
right_parameter found false room ts e = absurd cc

pub data IsMoreParameters : List (List ℕ) → Bool → ℕ → List Lexeme → Names → Type 0 where
  those : {found : List (List ℕ)} {room : ℕ} {ts : List Lexeme} {all : Names} → IsParameters found room ts all → IsMoreParameters found true room ts all
  no_others : {found : List (List ℕ)} {room : ℕ} {o : Bool} → IsMoreParameters found o room [] (found, o)

abbrev IsAllParameters : Names → ℕ → List Lexeme → Names → Type 0
IsAllParameters s room ts t = IsMoreParameters s.0 s.1 room ts t

one_more : {found : List (List ℕ)} {room : ℕ} {us ys : List Lexeme} {b : Bool} {u : Names} (n : List ℕ) → is_among n found ≡ false → IsComma room us b → IsMoreParameters (found ++ n ∷ []) b room ys u → IsMoreParameters found true room ((token.Name n ∷ us) ++ ys) u
one_more n e comma_there (those k) = those (grammar.next_parameter n e k)
one_more n e comma_there no_others = those (grammar.next_parameter n e grammar.no_parameters)
one_more n e no_comma no_others = those (grammar.last_parameter n e)

more_parameters : (n : ℕ) (s t u : Names) (xs ys : List Lexeme) → IsParameter s n xs t → IsAllParameters t n ys u → IsAllParameters s n (xs ++ ys) u
more_parameters n s t u xs ys (a_parameter m e k) q = one_more m e k q

takes_parameter : (n : ℕ) (s t : Names) (ts : List Lexeme) → IsParameter s n ts t → 0 < length ts
takes_parameter n s t ts (a_parameter m e k) = omega arith

grows_comma : (n : ℕ) (ts : List Lexeme) (b : Bool) → IsComma n ts b → IsComma (suc n) ts b
grows_comma n ts b comma_there = comma_there
grows_comma n ts b no_comma = no_comma

grows_parameter : (n : ℕ) (s t : Names) (ts : List Lexeme) → IsParameter s n ts t → IsParameter s (suc n) ts t
grows_parameter n s t ts (a_parameter {us = us} {b = b} m e k) = a_parameter m e (grows_comma n us b k)

pub parameter_rounds : (room : ℕ) → IsRounds begins_parameter parameter IsParameter IsAllParameters room
parameter_rounds room = record {
  right = λ s ts e. right_parameter s.0 s.1 room ts e;
  takes = takes_parameter room;
  grows = grows_parameter;
  none = λ n s. no_others;
  more = more_parameters;
}

from_none : (n : ℕ) (ts : List Lexeme) (s : Names) → IsMoreParameters [] true n ts s → IsParameters [] n ts s
from_none n ts s (those k) = k
from_none n ts s no_others = grammar.no_parameters

parameters_as_rounds : (us : List Lexeme) → parameters us ≡ rounds begins_parameter parameter ([], true) us
unfolding parameters
parameters_as_rounds us = refl

pub right_parameters : (room : ℕ) → AllRight parameters (IsParameters []) room
right_parameters room =
    as_named (rounds begins_parameter parameter ([], true)) parameters (IsParameters []) room parameters_as_rounds
    (widened (rounds begins_parameter parameter ([], true)) (IsAllParameters ([], true)) (IsParameters []) room from_none (λ ts. right_many (parameter_rounds room) ([], true) ts))

-- ---- `global` lines

pub data IsNextGlobal : List (List ℕ) → List (List ℕ) → ℕ → List Lexeme → List (List ℕ) → Type 0 where
  a_global_line : {names found ns : List (List ℕ)} {room : ℕ} {ts : List Lexeme} → IsSeparated token.Comma (IsGlobal names) room ts ns → IsNextGlobal names found room (token.Global ∷ (ts ++ token.Newline ∷ [])) (found ++ ns)

pub data IsMoreGlobals : List (List ℕ) → List (List ℕ) → ℕ → List Lexeme → List (List ℕ) → Type 0 where
  more_lines : {names found ns : List (List ℕ)} {room : ℕ} {ts : List Lexeme} → IsGlobalLines names room ts ns → IsMoreGlobals names found room ts (found ++ ns)

right_next_global : (names found : List (List ℕ)) (room : ℕ) (ts : List Lexeme) → global_ahead found (head_of ts) ≡ true → Right (next_global names found) (IsNextGlobal names found) room ts (next_global names found ts)
unfolding next_global global_ahead
right_next_global names found room [] e = absurd cc
right_next_global names found room (token.Global ∷ ts) e = enclosed (token.Global ∷ []) token.Newline (separated comma_ahead (fresh names)) (IsSeparated token.Comma (IsGlobal names)) newline (λ ns. found ++ ns) (next_global names found) (IsNextGlobal names found) (λ us. refl) (λ n xs ns h. a_global_line h) (grows_separated (grows_global names)) room (right_newline room) ts (right_separated token.Comma (IsGlobal names) (fresh names) comma_ahead room is_comma no_comma_ahead (grows_global names) (right_fresh names room) ts)
right_next_global names found room (t ∷ ts) e = absurd cc

no_more_globals : (names : List (List ℕ)) (n : ℕ) (found : List (List ℕ)) → IsMoreGlobals names found n [] found
no_more_globals names n found = subst (λ (l : List (List ℕ)). IsMoreGlobals names found n [] l) (append-nil found) (more_lines grammar.no_globals)

more_globals : (names : List (List ℕ)) (n : ℕ) (s t u : List (List ℕ)) (xs ys : List Lexeme) → IsNextGlobal names s n xs t → IsMoreGlobals names t n ys u → IsMoreGlobals names s n (xs ++ ys) u
more_globals names n s t u xs ys (a_global_line {ns = ns} {ts = ts} h) (more_lines {ns = ms} k) =
    subst (λ (l : List Lexeme). IsMoreGlobals names s n (token.Global ∷ l) ((s ++ ns) ++ ms)) (sym (append_assoc ts (token.Newline ∷ []) ys))
    (subst (λ (l : List (List ℕ)). IsMoreGlobals names s n (token.Global ∷ (ts ++ token.Newline ∷ ys)) l) (sym (append_assoc s ns ms)) (more_lines (grammar.global_line h k)))

takes_global : (names : List (List ℕ)) (n : ℕ) (s t : List (List ℕ)) (ts : List Lexeme) → IsNextGlobal names s n ts t → 0 < length ts
takes_global names n s t ts (a_global_line {ts = us} h) = omega arith

grows_next_global : (names : List (List ℕ)) (n : ℕ) (s t : List (List ℕ)) (ts : List Lexeme) → IsNextGlobal names s n ts t → IsNextGlobal names s (suc n) ts t
grows_next_global names n s t ts (a_global_line {ns = ns} {ts = us} h) = a_global_line (grows_separated (grows_global names) n us ns h)

pub global_rounds : (names : List (List ℕ)) (room : ℕ) → IsRounds global_ahead (next_global names) (IsNextGlobal names) (IsMoreGlobals names) room
global_rounds names room = record {
  right = λ found ts e. right_next_global names found room ts e;
  takes = takes_global names room;
  grows = grows_next_global names;
  none = no_more_globals names;
  more = more_globals names;
}

globals_as_rounds : (names : List (List ℕ)) (us : List Lexeme) → globals names us ≡ rounds global_ahead (next_global names) [] us
unfolding globals
globals_as_rounds names us = refl

from_no_globals : (names : List (List ℕ)) (n : ℕ) (ts : List Lexeme) (ns : List (List ℕ)) → IsMoreGlobals names [] n ts ns → IsGlobalLines names n ts ns
from_no_globals names n ts ns (more_lines k) = k

pub right_globals : (names : List (List ℕ)) (room : ℕ) → AllRight (globals names) (IsGlobalLines names) room
right_globals names room =
    as_named (rounds global_ahead (next_global names) []) (globals names) (IsGlobalLines names) room (globals_as_rounds names)
    (widened (rounds global_ahead (next_global names) []) (IsMoreGlobals names []) (IsGlobalLines names) room (from_no_globals names) (λ ts. right_many (global_rounds names room) [] ts))

-- ---- bodies

abbrev body_of : List (List ℕ) → Stmts → Body × ℕ
body_of gs b = (body gs b.0, b.1)

-- what stands behind the indentation of a body
pub data IsIndentedBody : List (List ℕ) → ℕ → ℕ → List Lexeme → Body × ℕ → Type 0 where
  behind_indent : {names gs : List (List ℕ)} {n room : ℕ} {xs ys : List Lexeme} {b : Stmts} → IsGlobalLines names room xs gs → IsStmts within_function n room ys b → IsIndentedBody names n room (xs ++ (ys ++ token.Dedent ∷ [])) (body gs b.0, b.1)

indented_by : (names : List (List ℕ)) (n room : ℕ) (xs ys : List Lexeme) (gs : List (List ℕ)) (b : Stmts) → IsGlobalLines names room xs gs → IsToDedent within_function n room ys b → IsIndentedBody names n room (xs ++ ys) (body_of gs b)
indented_by names n room xs ys gs b h (to_dedent k) = behind_indent h k

right_indented_body : (inner : Reader) (room : ℕ) → IsInner inner room → (names : List (List ℕ)) (n : ℕ) → AllRight (indented_body inner names n) (IsIndentedBody names n) room
unfolding indented_body
right_indented_body inner room h names n ts =
    sequence {p = []} {F = globals names} {IsA = IsGlobalLines names} {G = λ gs. stmts_to_dedent inner within_function n} {IsB = λ gs. IsToDedent within_function n} {f = λ gs b. body_of gs b} {H = indented_body inner names n} {IsC = IsIndentedBody names n} (record {
      computes = λ us. refl;
      builds = λ k xs ys gs b q r. indented_by names n k xs ys gs b q r;
      grows = grows_global_lines names;
      finishes = λ k gs. to_dedent_goes_on within_function n k;
    }) room ts (right_globals names room ts) (λ gs rest k. right_to_dedent inner room h within_function n rest)

-- what stands behind the end of the line of a `def`
pub data IsAfterNewline : List (List ℕ) → ℕ → ℕ → List Lexeme → Body × ℕ → Type 0 where
  behind_newline : {names : List (List ℕ)} {n room : ℕ} {ts : List Lexeme} {b : Body × ℕ} → IsIndentedBody names n room ts b → IsAfterNewline names n room (token.Indent ∷ ts) b

newline_by : (names : List (List ℕ)) (n room : ℕ) (xs ys : List Lexeme) (b : Body × ℕ) → IsToken token.Indent room xs tt → IsIndentedBody names n room ys b → IsAfterNewline names n room (xs ++ ys) b
newline_by names n room xs ys b e h = subst (λ (l : List Lexeme). IsAfterNewline names n room (l ++ ys) b) (sym e) (behind_newline h)

indented_body_goes_on : (names : List (List ℕ)) (n room : ℕ) → Goes_on (IsIndentedBody names n) room []
indented_body_goes_on names n room = record { more = token.Pass ∷ token.Newline ∷ token.Dedent ∷ []; value = body_of [] (tree.Pass ∷ [], n); spelled = behind_indent grammar.no_globals (grammar.last_stmt (grammar.on_line (pass_line within_function room))) }

right_after_newline : (inner : Reader) (room : ℕ) → IsInner inner room → (names : List (List ℕ)) (n : ℕ) → AllRight (after_newline inner names n) (IsAfterNewline names n) room
unfolding after_newline
right_after_newline inner room h names n = right_then indent (IsToken token.Indent) (λ u. indented_body inner names n) (λ u. IsIndentedBody names n) (after_newline inner names n) (IsAfterNewline names n) (λ us. refl) (λ k xs ys u b e q. newline_by names n k xs ys b e q) (λ k xs u e. e) (λ k u. indented_body_goes_on names n k) room (right_indent room) (λ u. right_indented_body inner room h names n)

body_by : (names : List (List ℕ)) (n room : ℕ) (ts : List Lexeme) (b : Body × ℕ) → IsAfterNewline names n room ts b → IsBody names n room (token.Newline ∷ ts) b
body_by names n room ts b (behind_newline (behind_indent h k)) = grammar.indented_body h k

grows_after_newline : (names : List (List ℕ)) (n : ℕ) → Grows (IsAfterNewline names n)
grows_after_newline names n room ts b (behind_newline (behind_indent {gs = gs} {xs = xs} h k)) = behind_newline (behind_indent (grows_global_lines names room xs gs h) (grows_stmts k))

bodies_again : (r : Read Lexeme (Body × ℕ)) → r ≡ (r >>= λ x. given x.0 x.1)
bodies_again (Ok x) = refl
bodies_again (Err fault) = refl

abbrev line_body : ℕ → ℕ → List Lexeme → Read Lexeme (Body × ℕ)
line_body room n ts = line_block within_function n room ts >>= λ b. given (body [] b.0.0, b.0.1) b.1

pub data IsLineBlock : ℕ → ℕ → List Lexeme → Stmts → Type 0 where
  is_line : {n room : ℕ} {ts : List Lexeme} {ss : List Stmt} → IsLine within_function room ts ss → IsLineBlock n room (ts ++ token.Newline ∷ []) (ss, n)

right_line_block : (n room : ℕ) → AllRight (line_block within_function n room) (IsLineBlock n) room
unfolding line_block
right_line_block n room ts = enclosed [] token.Newline (line within_function room) (IsLine within_function) newline (λ ss. (ss, n)) (line_block within_function n room) (IsLineBlock n) (λ us. refl) (λ k xs ss h. is_line h) (grows_line within_function) room (right_newline room) ts (right_line within_function room ts)

grows_line_block : (n : ℕ) → Grows (IsLineBlock n)
grows_line_block n room ts b (is_line {ts = us} {ss = ss} h) = is_line (grows_line within_function room us ss h)

line_by : (names : List (List ℕ)) (n room : ℕ) (ts : List Lexeme) (b : Stmts) → IsLineBlock n room ts b → IsBody names n room ts (body_of [] b)
line_by names n room ts b (is_line h) = grammar.line_body h

right_line_body : (names : List (List ℕ)) (n room : ℕ) → AllRight (line_body room n) (IsBody names n) room
right_line_body names n room ts = prefixed [] (line_block within_function n room) (IsLineBlock n) (λ b. body_of [] b) (line_body room n) (IsBody names n) (λ us. refl) (λ k xs b h. line_by names n k xs b h) (grows_line_block n) room ts (right_line_block n room ts)

body_as : (inner : Reader) (names : List (List ℕ)) (n room : ℕ) (ts : List Lexeme) → ((us : List Lexeme) → head_of us ≡ head_of ts → function_body inner room names n us ≡ line_body room n us) → Right (function_body inner room names n) (IsBody names n) room ts (line_body room n ts)
body_as inner names n room ts e = chosen (line_body room n) (function_body inner room names n) (IsBody names n) (IsBody names n) room ts (line_body room n ts) e (λ k xs x q. q) (right_line_body names n room ts)

pub right_body : (inner : Reader) (room : ℕ) → IsInner inner room → (names : List (List ℕ)) (n : ℕ) → AllRight (function_body inner room names n) (IsBody names n) room
unfolding function_body
right_body inner room h names n [] = body_as inner names n room [] (λ us e. at_end (λ l. function_body inner room names n l ≡ line_body room n l) us e refl)
right_body inner room h names n (token.Newline ∷ ts) = prefixed (token.Newline ∷ []) (after_newline inner names n) (IsAfterNewline names n) (λ x. x) (function_body inner room names n) (IsBody names n) (λ us. bodies_again (after_newline inner names n us)) (λ k xs b q. body_by names n k xs b q) (grows_after_newline names n) room ts (right_after_newline inner room h names n ts)
right_body inner room h names n (t ∷ ts) = body_as inner names n room (t ∷ ts) (λ us e. at_head (λ l. function_body inner room names n l ≡ line_body room n l) t us e (λ tail. refl))

-- ---- the head of a function

pub right_open_paren : (room : ℕ) → AllRight open_paren (IsToken token.OpenParen) room
unfolding open_paren
right_open_paren room [] = token_cut open_paren token.OpenParen room refl
right_open_paren room (token.OpenParen ∷ ts) = token_there open_paren token.OpenParen room ts (λ tail. refl)
right_open_paren room (t ∷ ts) = token_missing open_paren token.OpenParen t room ts (λ tail. refl)

pub data IsParameterList : ℕ → List Lexeme → List (List ℕ) → Type 0 where
  to_paren : {room : ℕ} {ts : List Lexeme} {s : Names} → IsParameters [] room ts s → IsParameterList room (ts ++ token.CloseParen ∷ []) s.0

right_parameter_list : (room : ℕ) → AllRight parameter_list IsParameterList room
unfolding parameter_list
right_parameter_list room ts = enclosed [] token.CloseParen parameters (IsParameters []) close_paren (λ s. s.0) parameter_list IsParameterList (λ us. refl) (λ k xs s h. to_paren h) (grows_parameters []) room (right_close_paren room) ts (right_parameters room ts)

-- `(` and the parameters
abbrev after_name : List Lexeme → Read Lexeme (List (List ℕ))
after_name ts = open_paren ts >>= λ u. parameter_list u.1

pub data IsAfterName : ℕ → List Lexeme → List (List ℕ) → Type 0 where
  in_brackets : {room : ℕ} {ts : List Lexeme} {ps : List (List ℕ)} → IsParameterList room ts ps → IsAfterName room (token.OpenParen ∷ ts) ps

after_name_by : (room : ℕ) (xs ys : List Lexeme) (ps : List (List ℕ)) → IsToken token.OpenParen room xs tt → IsParameterList room ys ps → IsAfterName room (xs ++ ys) ps
after_name_by room xs ys ps e h = subst (λ (l : List Lexeme). IsAfterName room (l ++ ys) ps) (sym e) (in_brackets h)

parameter_list_goes_on : (room : ℕ) → Goes_on IsParameterList room []
parameter_list_goes_on room = record { more = token.CloseParen ∷ []; value = []; spelled = to_paren grammar.no_parameters }

right_after_name : (room : ℕ) → AllRight after_name IsAfterName room
right_after_name room = right_then open_paren (IsToken token.OpenParen) (λ u. parameter_list) (λ u. IsParameterList) after_name IsAfterName (λ us. refl) (λ k xs ys u ps e q. after_name_by k xs ys ps e q) (λ k xs u e. e) (λ k u. parameter_list_goes_on k) room (right_open_paren room) (λ u. right_parameter_list room)

abbrev Signature : Type 0
Signature = List ℕ × List (List ℕ)

pub data IsSignature : ℕ → List Lexeme → Signature → Type 0 where
  is_signature : {room : ℕ} {ts : List Lexeme} {ps : List (List ℕ)} (n : List ℕ) → IsAfterName room ts ps → IsSignature room (token.Name n ∷ ts) (n, ps)

signature_by : (room : ℕ) (xs ys : List Lexeme) (n : List ℕ) (ps : List (List ℕ)) → IsName room xs n → IsAfterName room ys ps → IsSignature room (xs ++ ys) (n, ps)
signature_by room xs ys n ps (simple.name m) h = is_signature m h

signature_again : (f : List ℕ) (r : Result (Unit {0} × List Lexeme) Fault) → (r >>= λ u. parameter_list u.1 >>= λ ps. given {A = Signature} (f, ps.0) ps.1) ≡ ((r >>= λ u. parameter_list u.1) >>= λ ps. given {A = Signature} (f, ps.0) ps.1)
signature_again f (Ok u) = refl
signature_again f (Err fault) = refl

signature_computes : (r : Read Lexeme (List ℕ)) → (r >>= λ f. open_paren f.1 >>= λ u. parameter_list u.1 >>= λ ps. given {A = Signature} (f.0, ps.0) ps.1) ≡ (r >>= λ f. after_name f.1 >>= λ ps. given {A = Signature} (f.0, ps.0) ps.1)
signature_computes (Ok f) = signature_again f.0 (open_paren f.1)
signature_computes (Err fault) = refl

pub right_signature : (room : ℕ) → AllRight signature IsSignature room
unfolding signature
right_signature room ts =
    sequence {p = []} {F = name} {IsA = IsName} {G = λ f. after_name} {IsB = λ f. IsAfterName} {f = λ f ps. (f, ps)} {H = signature} {IsC = IsSignature} (record {
      computes = λ us. signature_computes (name us);
      builds = λ k xs ys f ps q r. signature_by k xs ys f ps q r;
      grows = grows_name;
      finishes = λ k f. record { more = token.OpenParen ∷ token.CloseParen ∷ []; value = []; spelled = in_brackets (to_paren grammar.no_parameters) };
    }) room ts (right_name room ts) (λ f rest k. right_after_name room rest)

grows_signature : Grows IsSignature
grows_signature n ts s (is_signature m (in_brackets (to_paren {ts = us} {s = ps} h))) = is_signature m (in_brackets (to_paren (grows_parameters [] n us ps h)))

-- a colon and the body
abbrev colon_body : Reader → ℕ → List (List ℕ) → ℕ → List Lexeme → Read Lexeme (Body × ℕ)
colon_body inner room names n ts = colon ts >>= λ u. function_body inner room names n u.1

pub data IsColonBody : List (List ℕ) → ℕ → ℕ → List Lexeme → Body × ℕ → Type 0 where
  colon_then : {names : List (List ℕ)} {n room : ℕ} {ts : List Lexeme} {b : Body × ℕ} → IsBody names n room ts b → IsColonBody names n room (token.Colon ∷ ts) b

colon_by : (names : List (List ℕ)) (n room : ℕ) (xs ys : List Lexeme) (b : Body × ℕ) → IsToken token.Colon room xs tt → IsBody names n room ys b → IsColonBody names n room (xs ++ ys) b
colon_by names n room xs ys b e h = subst (λ (l : List Lexeme). IsColonBody names n room (l ++ ys) b) (sym e) (colon_then h)

body_goes_on : (names : List (List ℕ)) (n room : ℕ) → Goes_on (IsBody names n) room []
body_goes_on names n room = record { more = token.Pass ∷ token.Newline ∷ []; value = body_of [] (tree.Pass ∷ [], n); spelled = grammar.line_body (pass_line within_function room) }

right_colon_body : (inner : Reader) (room : ℕ) → IsInner inner room → (names : List (List ℕ)) (n : ℕ) → AllRight (colon_body inner room names n) (IsColonBody names n) room
right_colon_body inner room h names n = right_then colon (IsToken token.Colon) (λ u. function_body inner room names n) (λ u. IsBody names n) (colon_body inner room names n) (IsColonBody names n) (λ us. refl) (λ k xs ys u b e q. colon_by names n k xs ys b e q) (λ k xs u e. e) (λ k u. body_goes_on names n k) room (right_colon room) (λ u. right_body inner room h names n)

colon_body_goes_on : (names : List (List ℕ)) (n room : ℕ) → Goes_on (IsColonBody names n) room []
colon_body_goes_on names n room = record { more = token.Colon ∷ token.Pass ∷ token.Newline ∷ []; value = body_of [] (tree.Pass ∷ [], n); spelled = colon_then (grammar.line_body (pass_line within_function room)) }

-- what stands behind `def`
pub data IsDef : ℕ → ℕ → List Lexeme → Stmts → Type 0 where
  is_def : {n room : ℕ} {xs ys : List Lexeme} {f : Signature} {b : Body × ℕ} → IsSignature room xs f → IsColonBody f.1 (suc n) room ys b → IsDef n room (xs ++ ys) (function n f b)

def_again : (inner : Reader) (room n : ℕ) (f : Signature) (r : Result (Unit {0} × List Lexeme) Fault) → (r >>= λ u. function_body inner room f.1 (suc n) u.1 >>= λ b. given (function n f b.0) b.1) ≡ ((r >>= λ u. function_body inner room f.1 (suc n) u.1) >>= λ b. given (function n f b.0) b.1)
def_again inner room n f (Ok u) = refl
def_again inner room n f (Err fault) = refl

def_computes : (inner : Reader) (room n : ℕ) (r : Read Lexeme Signature) → (r >>= λ f. colon f.1 >>= λ u. function_body inner room f.0.1 (suc n) u.1 >>= λ b. given (function n f.0 b.0) b.1) ≡ (r >>= λ f. colon_body inner room f.0.1 (suc n) f.1 >>= λ b. given (function n f.0 b.0) b.1)
def_computes inner room n (Ok f) = def_again inner room n f.0 (colon f.1)
def_computes inner room n (Err fault) = refl

pub right_def : (inner : Reader) (room : ℕ) → IsInner inner room → (n : ℕ) → AllRight (def_rest inner room n) (IsDef n) room
unfolding def_rest
right_def inner room h n ts =
    sequence {p = []} {F = signature} {IsA = IsSignature} {G = λ f. colon_body inner room f.1 (suc n)} {IsB = λ f. IsColonBody f.1 (suc n)} {f = λ f b. function n f b} {H = def_rest inner room n} {IsC = IsDef n} (record {
      computes = λ us. def_computes inner room n (signature us);
      builds = λ k xs ys f b q r. is_def q r;
      grows = grows_signature;
      finishes = λ k f. colon_body_goes_on f.1 (suc n) k;
    }) room ts (right_signature room ts) (λ f rest k. right_colon_body inner room h f.1 (suc n) rest)

pub def_by : (c : Context) (n room : ℕ) (ts : List Lexeme) (ss : Stmts) → c.in_function ≡ false → IsDef n room ts ss → IsStmt c n (suc room) (token.Def ∷ ts) ss
def_by c n room ts ss f (is_def (is_signature m (in_brackets (to_paren {ts = us} {s = ps} h))) (colon_then {ts = vs} {b = b} k)) =
    subst (λ (l : List Lexeme). IsStmt c n (suc room) (token.Def ∷ token.Name m ∷ token.OpenParen ∷ l) (function n (m, ps.0) b)) (sym (append_assoc us (token.CloseParen ∷ []) (token.Colon ∷ vs))) (grammar.def_stmt m f h k)

grows_colon_body : (names : List (List ℕ)) (n : ℕ) → Grows (IsColonBody names n)
grows_colon_body names n room ts b (colon_then h) = colon_then (grows_body h)

pub grows_def : (n : ℕ) → Grows (IsDef n)
grows_def n room ts ss (is_def {xs = xs} {ys = ys} {f = f} {b = b} h k) = is_def (grows_signature room xs f h) (grows_colon_body f.1 (suc n) room ys b k)
