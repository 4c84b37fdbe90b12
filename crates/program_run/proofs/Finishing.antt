-- What is said when all scripts are over.
use Rattle.std.proofs.Common.{◌≡◌, ◌⊎◌, inl, inr, ℕ, max, List, [], ◌∷◌, ◌++◌, length, Result, Ok, Err, IfOk, OnOk, OnErr, refl, sym, ◌∙◌, ap, arith}
use Rattle.std.proofs.lemmas.List.{append-nil, append_assoc}
use Rattle.base_types.specs.declared.no_memory.NoMemory.{NoMemory}
use Rattle.machine_events.specs.declared.event.Entry.{Entry}
use Rattle.machine_desk.specs.declared.outlet.Flow.{Flow}
use Rattle.machine_desk.specs.declared.outlet.Flow.TheVariants.{Open, Failed, Short}
use Rattle.drive_account.specs.declared.end.Ending.{Ending}
use Rattle.program_run.specs.Statuses.{sink_fault, want_of_memory}
use Rattle.program_run.specs.Ends.{err_text, status_of}
use Rattle.program_run.specs.Sinks.{At, Gets, status_by}
use Rattle.program_run.specs.Results.{Came, line_by, number_by, lines_by, worst_by, AreWhole, AllEnded}
use Rattle.program_run.proofs.Endings.{lines_are, worst_is}

pub short_is : (good bad good' bad' : ℕ) (out : Flow) → status_by good bad out Short ≡ status_by good' bad' out Short
short_is good bad good' bad' Open = refl
short_is good bad good' bad' Failed = refl
short_is good bad good' bad' Short = refl

pub six : (good bad : ℕ) (out : Flow) → status_by good bad out Short ≡ want_of_memory
six good bad Open = refl
six good bad Failed = refl
six good bad Short = refl

module _ {L : Type 0} (items : L → List ℕ) (scripts : List (List ℕ)) (results : List Came) (lines : Result L NoMemory) (a b : At) (out said : Flow) (status : ℕ)
    (is : status ≡ status_by (worst_by results) sink_fault out said) (whole : OnOk lines (AreWhole results)) (short : OnErr lines (said ≡ Short)) where
  -- it is the want of memory, or each script has an end
  pub whole_or_six : (status ≡ want_of_memory) ⊎ AreWhole results
  whole_or_six = by lines whole short
    where
      by : (r : Result L NoMemory) → OnOk r (AreWhole results) → OnErr r (said ≡ Short) → (status ≡ want_of_memory) ⊎ AreWhole results
      by (Ok l) w s = inr w
      by (Err e) w s = inl (is ∙ (ap (status_by (worst_by results) sink_fault out) s ∙ six (worst_by results) sink_fault out))

  -- the lines are those of the history, and the status too
  pub said_of : length results ≡ length scripts → IfOk lines (λ l. items l ≡ lines_by scripts results) → ((text : List ℕ) → IfOk lines (λ l. items l ≡ text) → Gets a text b said)
      → (h : List Entry) → AllEnded 0 results h → (flow : Flow) × Gets a (err_text scripts h) b flow × (status ≡ status_by (status_of (length scripts) h) sink_fault out flow)
  said_of many are gets h ended = by lines whole short are gets
    where
      by : (r : Result L NoMemory) → OnOk r (AreWhole results) → OnErr r (said ≡ Short) → IfOk r (λ l. items l ≡ lines_by scripts results) → ((text : List ℕ) → IfOk r (λ l. items l ≡ text) → Gets a text b said)
          → (flow : Flow) × Gets a (err_text scripts h) b flow × (status ≡ status_by (status_of (length scripts) h) sink_fault out flow)
      by (Ok l) w s l_is g = (said, g (err_text scripts h) (l_is ∙ lines_are 0 scripts results h many w ended), is ∙ ap (λ (n : ℕ). status_by n sink_fault out said) (worst_is (length scripts) results h many w ended))
      by (Err e) w s l_is g = (said, g (err_text scripts h) tt, is ∙ (ap (status_by (worst_by results) sink_fault out) s ∙ (short_is (worst_by results) sink_fault (status_of (length scripts) h) sink_fault out ∙ ap (status_by (status_of (length scripts) h) sink_fault out) (sym s))))

-- one result more
pub worst_more : (results : List Came) (result : Came) → worst_by (results ++ result ∷ []) ≡ max (number_by result) (worst_by results)
worst_more [] result = refl
worst_more (first ∷ results) result = let rest = worst_more results result in omega (arith, rest)

pub lines_more : (scripts : List (List ℕ)) (results : List Came) (script : List ℕ) (result : Came) → length results ≡ length scripts
    → lines_by (scripts ++ script ∷ []) (results ++ result ∷ []) ≡ lines_by scripts results ++ line_by script result
lines_more [] [] script result many = append-nil (line_by script result)
lines_more [] (r ∷ results) script result many = absurd (omega (arith, many))
lines_more (s ∷ scripts) [] script result many = absurd (omega (arith, many))
lines_more (s ∷ scripts) (r ∷ results) script result many =
    ap (λ (ls : List ℕ). line_by s r ++ ls) (lines_more scripts results script result (omega (arith, many))) ∙ sym (append_assoc (line_by s r) (lines_by scripts results) (line_by script result))

pub whole_more : (results : List Came) (it : Ending) → AreWhole results → AreWhole (results ++ Ok it ∷ [])
whole_more [] it w = tt
whole_more (Ok first ∷ results) it w = whole_more results it w
whole_more (Err e ∷ results) it w = absurd w
