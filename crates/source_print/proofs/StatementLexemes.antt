-- What is put of a statement, part by part.
use Rattle.std.proofs.Common.{◌≡◌, ◌∙◌, refl, sym, ap, List, [], ◌∷◌, ◌++◌, append_assoc, map, Result, Ok, Err, OnOk, Bool, true, false, IsTrue}
use Rattle.py_syntax.specs.declared.lexeme.Lexeme.{Lexeme}
use Rattle.py_syntax.specs.declared.lexeme.Lexeme.TheVariants as token
use Rattle.py_syntax.specs.declared.stmt.Branch.{Branch}
use Rattle.py_syntax.specs.declared.stmt.Handler.{Handler}
use Rattle.py_syntax.specs.declared.stmt.Stmt.{Stmt}
use Rattle.py_syntax.specs.declared.stmt.Stmt.TheVariants as tree
use Rattle.py_syntax.specs.declared.stmt.Stmt.TheVariants.{rolls-If, rolls-Try}
use Rattle.py_syntax.specs.declared.stmt.Stmt.TheOpen.{Stmt-F}
use Rattle.source_print.specs.Statements.{branches, clause, block, in_order, stmt_tokens, branch_tokens, handler_tokens}
use Rattle.source_print.proofs.Simple.{stmt_layer}

-- what follows where a call succeeded
pub on_ok : {A E : Type 0} (r : Result A E) {P Q : Type 0} → (P → Q) → OnOk r P → OnOk r Q
on_ok (Ok a) f h = f h
on_ok (Err e) f h = tt

pub not_both : (b : Bool) → IsTrue b → b ≡ false → ⊥
not_both true h e = absurd cc
not_both false h e = absurd cc

pub if_put : (out : List Lexeme) (bs : List Branch) (ss : List Stmt) → (out ++ branches (map branch_tokens bs)) ++ clause token.Else (map stmt_tokens ss) ≡ out ++ stmt_tokens (tree.If bs ss)
if_put out bs ss =
    append_assoc out (branches (map branch_tokens bs)) (clause token.Else (map stmt_tokens ss))
    ∙ ap (λ ts. out ++ ts) (sym (stmt_layer (Stmt-F.If bs ss) (tree.If bs ss) (rolls-If bs ss)))

four : (out a b c d : List Lexeme) → (((out ++ a) ++ b) ++ c) ++ d ≡ out ++ (a ++ (b ++ (c ++ d)))
four out a b c d = simp append_assoc

pub try_put : (out : List Lexeme) (ss : List Stmt) (hs : List Handler) (es fs : List Stmt) →
    (((out ++ token.Try ∷ token.Colon ∷ block (map stmt_tokens ss)) ++ in_order (map handler_tokens hs)) ++ clause token.Else (map stmt_tokens es)) ++ clause token.Finally (map stmt_tokens fs) ≡ out ++ stmt_tokens (tree.Try ss hs es fs)
try_put out ss hs es fs =
    four out (token.Try ∷ token.Colon ∷ block (map stmt_tokens ss)) (in_order (map handler_tokens hs)) (clause token.Else (map stmt_tokens es)) (clause token.Finally (map stmt_tokens fs))
    ∙ ap (λ ts. out ++ ts) (sym (stmt_layer (Stmt-F.Try ss hs es fs) (tree.Try ss hs es fs) (rolls-Try ss hs es fs)))

pub clause_put : (out : List Lexeme) (word : Lexeme) (ss : List Stmt) → (ss ≡ [] → ⊥) → ((out ++ word ∷ []) ++ token.Colon ∷ []) ++ block (map stmt_tokens ss) ≡ out ++ clause word (map stmt_tokens ss)
clause_put out word [] h = absurd (h refl)
clause_put out word (s ∷ ss) h = ap (λ ts. ts ++ block (map stmt_tokens (s ∷ ss))) (append_assoc out (word ∷ []) (token.Colon ∷ [])) ∙ append_assoc out (word ∷ token.Colon ∷ []) (block (map stmt_tokens (s ∷ ss)))
