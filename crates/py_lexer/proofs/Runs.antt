-- Runs of characters, and line ends.
use Rattle.std.proofs.Common.{◌≡◌, ℕ, suc, ◌+◌, ◌<◌, ◌==◌, not, Bool, true, false, cond, List, [], ◌∷◌, ◌++◌, length, take, drop, refl, sym, ap, subst, ◌⊎◌, inl, inr, arith}
use Rattle.std.specs.Prelude.{if◌then◌else◌, IsTrue, IsFalse}
use Rattle.std.specs.List.{prefix_len, AllByRecursion}
use Rattle.std.proofs.lemmas.Bool.Decides.{nat_tests}
use Rattle.std.proofs.Math.Seq.{take-append_seam, drop-append_seam}
use Rattle.py_lexer.specs.declared.columns.Columns.{Columns}
use Rattle.py_lexer.specs.Chars.{is_white, is_end, head_passes, IsRun, IsLineEnd, lf, crlf, cr}
use Rattle.py_lexer.specs.Columns.{leading, columns_after, advanced}
use Rattle.py_lexer.specs.Reading.{after_end, after_comment}

pub eqb_eq : (c d : ℕ) → (c == d) ≡ true → c ≡ d
eqb_eq c d e = grind (arith, nat_tests)

pub not_false : (b : Bool) → not b ≡ false → b ≡ true
not_false true e = refl
not_false false e = absurd cc

pub not_true : (b : Bool) → not b ≡ true → b ≡ false
not_true true e = absurd cc
not_true false e = refl

run_len_of : (p : ℕ → Bool) (run after : List ℕ) → AllByRecursion (λ c. IsTrue (p c)) run → IsFalse (head_passes p after) → prefix_len p (run ++ after) ≡ length run
run_len_of p [] [] a l = refl
run_len_of p [] (c ∷ cs) a l = rw l refl
run_len_of p (c ∷ run) after a l = rw (a.0, run_len_of p run after a.1 l) (omega arith)

pub run_len : (p : ℕ → Bool) {run after : List ℕ} → IsRun p run after → prefix_len p (run ++ after) ≡ length run
run_len p {run} {after} r = run_len_of p run after r.all r.longest

pub run_front : (p : ℕ → Bool) {run after : List ℕ} → IsRun p run after → take (prefix_len p (run ++ after)) (run ++ after) ≡ run
run_front p {run} {after} r = rw (run_len p r) (take-append_seam run after)

pub run_rest : (p : ℕ → Bool) {run after : List ℕ} → IsRun p run after → drop (prefix_len p (run ++ after)) (run ++ after) ≡ after
run_rest p {run} {after} r = rw (run_len p r) (drop-append_seam run after)

run_more : (p : ℕ → Bool) (c : ℕ) (cs : List ℕ) (b : Bool) → p c ≡ b → IsRun p (take (prefix_len p cs) cs) (drop (prefix_len p cs) cs) → IsRun p (take (cond b (1 + prefix_len p cs) 0) (c ∷ cs)) (drop (cond b (1 + prefix_len p cs) 0) (c ∷ cs))
run_more p c cs true e r = let one : 1 + prefix_len p cs ≡ suc (prefix_len p cs) = omega arith in rw one (record { all = (e, r.all); longest = r.longest })
run_more p c cs false e r = record { all = tt; longest = e }

pub is_run : (p : ℕ → Bool) (cs : List ℕ) → IsRun p (take (prefix_len p cs) cs) (drop (prefix_len p cs) cs)
is_run p [] = record { all = tt; longest = refl }
is_run p (c ∷ cs) = run_more p c cs (p c) refl (is_run p cs)

-- the columns of a run of white space
pub leading_run : (at : Columns) (white after : List ℕ) → AllByRecursion (λ c. IsTrue (is_white c)) white → IsFalse (head_passes is_white after) → leading at (white ++ after) ≡ (columns_after at white, after)
unfolding leading
leading_run at [] [] a l = refl
leading_run at [] (c ∷ cs) a l = rw l refl
leading_run at (c ∷ white) after a l = rw a.0 (leading_run (advanced at c) white after a.1 l)

pub record Leads (at : Columns) (cs : List ℕ) (l : Columns × List ℕ) : Type 0 where
  pub white : List ℕ
  pub parts : cs ≡ white ++ l.1
  pub run : IsRun is_white white l.1
  pub columns : l.0 ≡ columns_after at white

leads_by : (at : Columns) (c : ℕ) (cs : List ℕ) (b : Bool) → is_white c ≡ b → Leads (advanced at c) cs (leading (advanced at c) cs) → Leads at (c ∷ cs) (if b then leading (advanced at c) cs else (at, c ∷ cs))
leads_by at c cs true e h = record { white = c ∷ h.white; parts = ap (λ (l : List ℕ). c ∷ l) h.parts; run = record { all = (e, h.run.all); longest = h.run.longest }; columns = h.columns }
leads_by at c cs false e h = record { white = []; parts = refl; run = record { all = tt; longest = e }; columns = refl }

pub leads : (at : Columns) (cs : List ℕ) → Leads at cs (leading at cs)
unfolding leading
leads at [] = record { white = []; parts = refl; run = record { all = tt; longest = refl }; columns = refl }
leads at (c ∷ cs) = leads_by at c cs (is_white c) refl (leads (advanced at c) cs)

-- a comment is a run
pub comment_run : (run after : List ℕ) → AllByRecursion (λ c. IsTrue (not (is_end c))) run → IsFalse (head_passes (λ c. not (is_end c)) after) → after_comment (run ++ after) ≡ after
unfolding after_comment
comment_run [] [] a l = refl
comment_run [] (c ∷ cs) a l = let e : is_end c ≡ true = not_false (is_end c) l in rw e refl
comment_run (c ∷ run) after a l = let e : is_end c ≡ false = not_true (is_end c) a.0 in rw e (comment_run run after a.1 l)

pub record Comments (cs after : List ℕ) : Type 0 where
  pub run : List ℕ
  pub parts : cs ≡ run ++ after
  pub is : IsRun (λ c. not (is_end c)) run after

comments_by : (c : ℕ) (cs : List ℕ) (b : Bool) → is_end c ≡ b → Comments cs (after_comment cs) → Comments (c ∷ cs) (if b then c ∷ cs else after_comment cs)
comments_by c cs true e h = record { run = []; parts = refl; is = record { all = tt; longest = rw e refl } }
comments_by c cs false e h = record { run = c ∷ h.run; parts = ap (λ (l : List ℕ). c ∷ l) h.parts; is = record { all = (rw e refl, h.is.all); longest = h.is.longest } }

pub comments : (cs : List ℕ) → Comments cs (after_comment cs)
unfolding after_comment
comments [] = record { run = []; parts = refl; is = record { all = tt; longest = refl } }
comments (c ∷ cs) = comments_by c cs (is_end c) refl (comments cs)

-- a line end, taken apart
pub record Ends (text after : List ℕ) : Type 0 where
  pub first : ℕ
  pub rest : List ℕ
  pub parts : text ≡ first ∷ rest
  pub ends : is_end first ≡ true
  pub behind : after_end first rest ≡ after

lone : (after : List ℕ) → IsFalse (head_passes (λ c. c == 10) after) → after_end 13 after ≡ after
unfolding after_end
lone [] l = refl
lone (c ∷ cs) l = rw l refl

lf_rest : (after : List ℕ) → after_end 10 after ≡ after
unfolding after_end
lf_rest [] = refl
lf_rest (c ∷ cs) = refl

pub ends_so : {end after : List ℕ} → IsLineEnd end after → Ends (end ++ after) after
unfolding after_end
ends_so {after = after} lf = record { first = 10; rest = after; parts = refl; ends = refl; behind = lf_rest after }
ends_so {after = after} crlf = record { first = 13; rest = 10 ∷ after; parts = refl; ends = refl; behind = refl }
ends_so {after = after} (cr l) = record { first = 13; rest = after; parts = refl; ends = refl; behind = lone after l }

pub record Is_end (c : ℕ) (cs : List ℕ) : Type 0 where
  pub end : List ℕ
  pub parts : c ∷ cs ≡ end ++ after_end c cs
  pub is : IsLineEnd end (after_end c cs)

cr_by : (d : ℕ) (ds : List ℕ) (b : Bool) → (d == 10) ≡ b → Is_end 13 (d ∷ ds)
unfolding after_end
cr_by d ds true e = let same : d ≡ 10 = eqb_eq d 10 e in record { end = 13 ∷ 10 ∷ []; parts = rw (e, same) refl; is = rw e crlf }
cr_by d ds false e = record { end = 13 ∷ []; parts = rw e refl; is = rw e (cr e) }

cr_end : (cs : List ℕ) → Is_end 13 cs
unfolding after_end
cr_end [] = record { end = 13 ∷ []; parts = refl; is = cr refl }
cr_end (d ∷ ds) = cr_by d ds (d == 10) refl

lf_end : (cs : List ℕ) → Is_end 10 cs
lf_end cs = record { end = 10 ∷ []; parts = ap (λ (l : List ℕ). 10 ∷ l) (sym (lf_rest cs)); is = lf }

end_cases : (c : ℕ) (b : Bool) → (c == 10) ≡ b → is_end c ≡ true → (c ≡ 10) ⊎ (c ≡ 13)
end_cases c true e h = inl (eqb_eq c 10 e)
end_cases c false e h = inr (eqb_eq c 13 (rw e at h))

end_by : (c : ℕ) (cs : List ℕ) → (c ≡ 10) ⊎ (c ≡ 13) → Is_end c cs
end_by c cs (inl e) = subst (λ (d : ℕ). Is_end d cs) (sym e) (lf_end cs)
end_by c cs (inr e) = subst (λ (d : ℕ). Is_end d cs) (sym e) (cr_end cs)

pub is_line_end : (c : ℕ) (cs : List ℕ) → is_end c ≡ true → Is_end c cs
is_line_end c cs e = end_by c cs (end_cases c (c == 10) refl e)

pub end_shorter : {end after : List ℕ} → IsLineEnd end after → length after < length (end ++ after)
end_shorter lf = omega arith
end_shorter crlf = omega arith
end_shorter (cr l) = omega arith
