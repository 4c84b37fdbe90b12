-- The lines of a report, one after another.
use Rattle.std.proofs.Common.{◌≡◌, ◌∙◌, refl, sym, ap, subst, ℕ, Bool, true, false, ◌&&◌, List, [], ◌∷◌, ◌++◌, append_assoc, append-nil, Option, Some, None, MatchOption}
use Rattle.std.specs.Option.{ForSome}
use Rattle.std.specs.List.{list_all}
use Rattle.std.proofs.lemmas.Grind.{flat_map-append}
use Rattle.std.proofs.lemmas.List.Folds.{list_all-append}
use Rattle.tree_files.specs.Count.{Rose}
use Rattle.tree_files.specs.Files.{Files}
use Rattle.import_report.specs.declared.line.Line.{Line}
use Rattle.machine_desk.specs.Outgo.{Appends, AppendsPart}
use Rattle.machine_desk.specs.declared.outlet.Flow.{Flow}
use Rattle.machine_desk.specs.declared.outlet.Flow.TheVariants.{Open, Failed, Short}
use Rattle.machine_desk.proofs.Keeping.{appends_then, part_then}
use Rattle.program_run.specs.Sinks.{At, Gets}
use Rattle.program_run.proofs.Leaving.{gets_none, gets_nothing}
use Rattle.program_commands.specs.Telling.{line_text, text_of, are_found, Tells}
use Rattle.program_commands.specs.declared.telling.Told.{Told}
use Rattle.program_commands.specs.declared.telling.Told.TheVariants as told

-- ---- what a sink gets

-- one text after another
gets_on : (a m b : At) (x y : List ℕ) (flow : Flow) → Gets a x m Open → Gets m y b flow → Gets a (x ++ y) b flow
gets_on a m b x y Open p q = (appends_then a.written m.written b.written x y p.0 q.0, q.1 ∙ p.1)
gets_on a m b x y Failed p q = (part_then a.written m.written b.written x y p.0 q.0, subst (λ (n : ℕ). Rose n b.faults) p.1 q.1)
gets_on a m b x y Short p q = (part_then a.written m.written b.written x y p.0 q.0, q.1 ∙ p.1)

-- the whole of a text is a beginning of it
gets_short : (a b : At) (x : List ℕ) → Gets a x b Open → Gets a x b Short
gets_short a b x p = (record { part = x; rest = []; whole = append-nil x; gained = p.0 }, p.1)

-- the text with one more line
text_more : (lines : List Line) (line : Line) → text_of (lines ++ line ∷ []) ≡ text_of lines ++ line_text line
text_more lines line = flat_map-append line_text lines (line ∷ []) ∙ ap (λ (t : List ℕ). text_of lines ++ t) (append-nil (line_text line))

and_true : (b : Bool) → (b && true) ≡ b
and_true true = refl
and_true false = refl

found_more : (lines : List Line) (line : Line) → are_found (lines ++ line ∷ []) ≡ (are_found lines && line.found)
found_more lines line = list_all-append (λ l. l.found) lines (line ∷ []) ∙ ap (λ b. are_found lines && b) (and_true line.found)

-- ---- telling

-- so far: these lines are told, with which the report begins, and the rest is still to be told
pub record Telling (files : Option Files) (report rest : Files → List Line) (old new : At) (found : Bool) : Type 0 where
  pub lines : List Line
  pub first : ForSome files (λ f. lines ++ rest f ≡ report f)
  pub gets : Gets old (text_of lines) new Open
  pub are : found ≡ are_found lines

-- a line is the next one
abbrev pub IsNext : Option Files → (Files → List Line) → (Files → List Line) → Line → Type 0
IsNext files rest rest' line = ForSome files (λ f. rest f ≡ line ∷ rest' f)

pub begin : (files : Option Files) (report : Files → List Line) (at : At) → Telling files report report at at true
begin files report at = record { lines = []; first = λ f there. refl; gets = gets_none at; are = refl }

module _ (files : Option Files) (report rest : Files → List Line) (old mid : At) (found : Bool) (so_far : Telling files report rest old mid found) where
  -- with one more line a report begins too
  first_more : (rest' : Files → List Line) (line : Line) → IsNext files rest rest' line → ForSome files (λ f. (so_far.lines ++ line ∷ []) ++ rest' f ≡ report f)
  first_more rest' line next = λ f there. append_assoc so_far.lines (line ∷ []) (rest' f) ∙ ap (λ (l : List Line). so_far.lines ++ l) (sym (next f there)) ∙ so_far.first f there

  gets_more : (new : At) (line : Line) (flow : Flow) → Gets mid (line_text line) new flow → Gets old (text_of (so_far.lines ++ line ∷ [])) new flow
  gets_more new line flow got = subst (λ (t : List ℕ). Gets old t new flow) (sym (text_more so_far.lines line)) (gets_on old mid new (text_of so_far.lines) (line_text line) flow so_far.gets got)

  -- a line is told
  pub tell_more : (rest' : Files → List Line) (new : At) (line : Line) → IsNext files rest rest' line → Gets mid (line_text line) new Open → Telling files report rest' old new (found && line.found)
  tell_more rest' new line next got = record {
    lines = so_far.lines ++ line ∷ [];
    first = first_more rest' line next;
    gets = gets_more new line Open got;
    are = ap (λ b. b && line.found) so_far.are ∙ sym (found_more so_far.lines line);
  }

  -- all is told
  pub all_told : (faults faults' : ℕ) → ForSome files (λ f. rest f ≡ []) → Tells files report faults faults' old mid (told.All found)
  all_told faults faults' over = (so_far.lines, λ f there. sym (append-nil so_far.lines) ∙ ap (λ (l : List Line). so_far.lines ++ l) (sym (over f there)) ∙ so_far.first f there, so_far.gets, so_far.are)

  -- a call of the tree failed
  pub unread_told : (faults faults' : ℕ) → Rose faults faults' → Tells files report faults faults' old mid told.Unread
  unread_told faults faults' rose = (so_far.lines, λ f there. (rest f, so_far.first f there), so_far.gets, rose)

  -- memory was wanted for the next line
  pub short_told : (faults faults' : ℕ) → Tells files report faults faults' old mid told.Short
  short_told faults faults' = (so_far.lines, λ f there. (rest f, so_far.first f there), gets_short old mid (text_of so_far.lines) so_far.gets)

  -- a line was written in part
  pub cut_told : (faults faults' : ℕ) (rest' : Files → List Line) (new : At) (line : Line) → IsNext files rest rest' line → Gets mid (line_text line) new Failed → Tells files report faults faults' old new told.Cut
  cut_told faults faults' rest' new line next got = (so_far.lines ++ line ∷ [], λ f there. (rest' f, first_more rest' line next f there), gets_more new line Failed got)

  pub short_line_told : (faults faults' : ℕ) (rest' : Files → List Line) (new : At) (line : Line) → IsNext files rest rest' line → Gets mid (line_text line) new Short → Tells files report faults faults' old new told.Short
  short_line_told faults faults' rest' new line next got = (so_far.lines ++ line ∷ [], λ f there. (rest' f, first_more rest' line next f there), gets_more new line Short got)

-- ---- the same report

-- what is told of one report is told of the same one by another name
pub tells_same : (files : Option Files) (report report' : Files → List Line) (faults faults' : ℕ) (old new : At) (it : Told) → ((f : Files) → report f ≡ report' f) → Tells files report faults faults' old new it → Tells files report' faults faults' old new it
tells_same files report report' faults faults' old new (told.All found) same h = (h.0, λ f there. h.1 f there ∙ same f, h.2, h.3)
tells_same files report report' faults faults' old new told.Unread same h = (h.0, λ f there. ((h.1 f there).0, (h.1 f there).1 ∙ same f), h.2, h.3)
tells_same files report report' faults faults' old new told.Cut same h = (h.0, λ f there. ((h.1 f there).0, (h.1 f there).1 ∙ same f), h.2)
tells_same files report report' faults faults' old new told.Short same h = (h.0, λ f there. ((h.1 f there).0, (h.1 f there).1 ∙ same f), h.2)

-- nothing is told for want of memory
pub nothing_told : (files : Option Files) (report : Files → List Line) (faults faults' : ℕ) (at : At) → Tells files report faults faults' at at told.Short
nothing_told files report faults faults' at = ([], λ f there. (report f, refl), gets_nothing at [])

-- ---- what a walk tells next

pub next_line : (files : Option Files) (rest rest' : Files → List Line) (o : Option Line) (line : Line) → o ≡ Some line → ForSome files (λ f. MatchOption o (rest f ≡ []) (λ it. rest f ≡ it ∷ rest' f)) → IsNext files rest rest' line
next_line files rest rest' o line is told = subst (λ (x : Option Line). ForSome files (λ f. MatchOption x (rest f ≡ []) (λ it. rest f ≡ it ∷ rest' f))) is told

pub no_line : (files : Option Files) (rest rest' : Files → List Line) (o : Option Line) → o ≡ None → ForSome files (λ f. MatchOption o (rest f ≡ []) (λ it. rest f ≡ it ∷ rest' f)) → ForSome files (λ f. rest f ≡ [])
no_line files rest rest' o is told = subst (λ (x : Option Line). ForSome files (λ f. MatchOption x (rest f ≡ []) (λ it. rest f ≡ it ∷ rest' f))) is told
