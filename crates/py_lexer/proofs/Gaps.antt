-- What stands between tokens is read so, and only that.
use Rattle.std.proofs.Common.{◌≡◌, ℕ, ◌<◌, not, Bool, true, false, Option, Some, None, List, [], ◌∷◌, ◌++◌, length, refl, sym, subst, arith, length-append}
use Rattle.std.specs.Prelude.{IsTrue}
use Rattle.py_lexer.specs.declared.chars.Class.{Class}
use Rattle.py_lexer.specs.declared.chars.Class.TheVariants.{White, Hash, LineEnd, Backslash, Digit, Quote, Letter, Other}
use Rattle.py_lexer.specs.declared.gap.Gap.{Gap}
use Rattle.py_lexer.specs.declared.gap.Gap.TheVariants.{Blank, Joined, Ended}
use Rattle.py_lexer.specs.Chars.{class_of, is_end}
use Rattle.py_lexer.specs.Gaps as tokens
use Rattle.py_lexer.specs.Gaps.{Stands}
use Rattle.py_lexer.specs.Words.{begins, begins_token}
use Rattle.py_lexer.specs.Reading.{after_end, after_comment, after_join, gap, gap_of}
use Rattle.py_lexer.proofs.Cases.{choice}
use Rattle.py_lexer.proofs.Classes.{end_class, class_end}
use Rattle.py_lexer.proofs.Runs.{comment_run, comments, ends_so, is_line_end, end_shorter}

ended : (text after : List ℕ) (c : ℕ) (cs : List ℕ) → text ≡ c ∷ cs → is_end c ≡ true → after_end c cs ≡ after → gap text ≡ Some (Ended, after)
unfolding gap
ended text after c cs p e h = rw (p, end_class c e, h) refl

joined : (text after : List ℕ) (c : ℕ) (cs : List ℕ) → text ≡ c ∷ cs → is_end c ≡ true → after_end c cs ≡ after → after_join text ≡ Some (Joined, after)
unfolding after_join
joined text after c cs p e h = rw (p, e, h) refl

pub gap_complete : {text : List ℕ} {g : Gap} {after : List ℕ} → Stands text g after → gap text ≡ Some (g, after)
unfolding gap
gap_complete (tokens.white w) = rw w refl
gap_complete (tokens.comment {run = run} {after = after} h r) = rw (h, comment_run run after r.all r.longest) refl
gap_complete (tokens.joined {end = end} {after = after} b l) = let e = ends_so l in rw b (joined (end ++ after) after e.first e.rest e.parts e.ends e.behind)
gap_complete (tokens.line_end {end = end} {after = after} l) = let e = ends_so l in ended (end ++ after) after e.first e.rest e.parts e.ends e.behind

abbrev pub Gap_right : List ℕ → Option (Gap × List ℕ) → Type 0
Gap_right text (Some x) = Stands text x.0 x.1
Gap_right [] None = Unit {0}
Gap_right (c ∷ cs) None = IsTrue (begins_token (c ∷ cs))

join_right : (c : ℕ) (cs : List ℕ) → class_of c ≡ Backslash → Gap_right (c ∷ cs) (after_join cs)
unfolding after_join
join_right c [] k = rw k refl
join_right c (d ∷ ds) k = choice (Gap_right (c ∷ d ∷ ds)) (Some (Joined, after_end d ds)) None (is_end d)
    (λ e. let l = is_line_end d ds e in subst (λ (t : List ℕ). Stands (c ∷ t) Joined (after_end d ds)) (sym l.parts) (tokens.joined k l.is))
    (λ e. rw (k, e) refl)

gap_right_by : (k : Class) (c : ℕ) (cs : List ℕ) → class_of c ≡ k → Gap_right (c ∷ cs) (gap_of k c cs)
gap_right_by White c cs k = tokens.white k
gap_right_by Hash c cs k = let r = comments cs in subst (λ (t : List ℕ). Stands (c ∷ t) Blank (after_comment cs)) (sym r.parts) (tokens.comment k r.is)
gap_right_by LineEnd c cs k = let l = is_line_end c cs (class_end c k) in subst (λ (t : List ℕ). Stands t Ended (after_end c cs)) (sym l.parts) (tokens.line_end l.is)
gap_right_by Backslash c cs k = join_right c cs k
gap_right_by Digit c cs k = rw k refl
gap_right_by Quote c cs k = rw k refl
gap_right_by Letter c cs k = rw k refl
gap_right_by Other c cs k = rw k refl

pub gap_right : (text : List ℕ) → Gap_right text (gap text)
unfolding gap
gap_right [] = tt
gap_right (c ∷ cs) = gap_right_by (class_of c) c cs refl

join_none : (d : ℕ) (ds : List ℕ) (b : Bool) → is_end d ≡ b → not b ≡ true → after_join (d ∷ ds) ≡ None
unfolding after_join
join_none d ds true e h = absurd cc
join_none d ds false e h = rw e refl

none_by : (k : Class) (c : ℕ) (cs : List ℕ) → IsTrue (begins k cs) → gap_of k c cs ≡ None
unfolding after_join
none_by White c cs b = absurd cc
none_by Hash c cs b = absurd cc
none_by LineEnd c cs b = absurd cc
none_by Backslash c [] b = refl
none_by Backslash c (d ∷ ds) b = join_none d ds (is_end d) refl b
none_by Digit c cs b = refl
none_by Quote c cs b = refl
none_by Letter c cs b = refl
none_by Other c cs b = refl

pub gap_none : (text : List ℕ) → IsTrue (begins_token text) → gap text ≡ None
unfolding gap
gap_none [] b = refl
gap_none (c ∷ cs) b = none_by (class_of c) c cs b

pub gap_shorter : {text : List ℕ} {g : Gap} {after : List ℕ} → Stands text g after → length after < length text
gap_shorter (tokens.white w) = omega arith
gap_shorter (tokens.comment {run = run} {after = after} h r) = omega (arith, length-append run after)
gap_shorter (tokens.joined b l) = let h = end_shorter l in omega (arith, h)
gap_shorter (tokens.line_end l) = end_shorter l
