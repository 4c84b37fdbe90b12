-- How scripts ended, by their pairs, and what is said of it.
use Rattle.std.proofs.Common.{◌≡◌, ℕ, suc, ◌+◌, max, List, [], ◌∷◌, ◌++◌, length, Option, Some, None, Ok, Err, IfOk, refl, sym, ◌∙◌, ap, arith}
use Rattle.std.specs.Option.{option_or}
use Rattle.std.proofs.lemmas.Result.{IfOk-weaker}
use Rattle.machine_events.specs.declared.event.Event.{Event}
use Rattle.machine_events.specs.declared.event.Event.TheVariants as e
use Rattle.machine_events.specs.declared.event.Reply.{Reply}
use Rattle.machine_events.specs.declared.event.Reply.TheVariants.{Done}
use Rattle.machine_events.specs.declared.event.Entry.{Entry}
use Rattle.machine_events.specs.declared.event.Outcome.{Outcome}
use Rattle.machine_shown.specs.Own.{own}
use Rattle.meaning_runs.specs.Lists.{ends, ends_in}
use Rattle.tree_files.specs.Files.{Files}
use Rattle.meaning_runs.specs.Runs.{Run}
use Rattle.drive_account.specs.Ending.{Ended, IsMeant, outcome}
use Rattle.drive_account.proofs.Meant.{ended_of}
use Rattle.program_run.specs.Ends.{end_in, end_of, line_of, line_at, lines_from, number_of, number_at, status_of}
use Rattle.program_run.specs.Results.{Came, lines_by, worst_by, AreWhole, AllEnded}

end_last : (before : List (Event × Reply)) (how : Outcome) (k : ℕ) → end_of (before ++ (e.End how k, Done) ∷ []) ≡ Some how
end_last [] how k = refl
end_last (pair ∷ before) how k = rw (end_last before how k) refl

-- the End is the one that the ending tells
pub end_is : (mine : List (Event × Reply)) (how : Outcome) → Ended mine how → end_of mine ≡ Some how
end_is mine how ended = ap end_of ended.whole ∙ end_last ended.before how ended.paid

-- what is meant ends with its End
pub if_ended : (tree : Option Files) (t : ℕ) (run : Run) (fuel : ℕ) (mine : List (Event × Reply)) (came : Came) → IfOk came (λ it. IsMeant tree t run fuel mine (outcome it)) → IfOk came (λ it. Ended mine (outcome it))
if_ended tree t run fuel mine came meant = IfOk-weaker came _ _ (λ it m. ended_of m) meant

no_end_here : (event : Event) → ends event ≡ 0 → end_in event ≡ None
no_end_here (e.Ask n) none = refl
no_end_here (e.Take n) none = refl
no_end_here e.Wake none = refl
no_end_here (e.Add spec text) none = refl
no_end_here (e.Finish load good) none = refl
no_end_here (e.Release n) none = refl
no_end_here (e.GetVar mid x raw) none = refl
no_end_here (e.SetVar raw mid x v) none = refl
no_end_here (e.DelVar mid x raw) none = refl
no_end_here (e.Names mid) none = refl
no_end_here (e.Source load) none = refl
no_end_here (e.Print text) none = refl
no_end_here e.PathGet none = refl
no_end_here (e.PathAdd at v) none = refl
no_end_here (e.DirGet dir part) none = refl
no_end_here (e.DirSet dir listing) none = refl
no_end_here e.Invalidate none = refl
no_end_here (e.NsGet mid) none = refl
no_end_here (e.NsSet mid state) none = refl
no_end_here (e.TabGet n) none = refl
no_end_here (e.TabSet n slot) none = refl
no_end_here (e.TabDel n) none = refl
no_end_here (e.ReloadBegin mid raw) none = refl
no_end_here (e.ReloadTake mid spec text) none = refl
no_end_here (e.ReloadEnd mid load) none = refl
no_end_here (e.AddLazy spec text) none = refl
no_end_here (e.Rouse mid) none = refl
no_end_here (e.Main spec text) none = refl
no_end_here (e.End how k) none = absurd (omega (arith, none))

-- pairs without an End tell none
pub no_end : (mine : List (Event × Reply)) → ends_in mine ≡ 0 → end_of mine ≡ None
no_end [] none = refl
no_end (pair ∷ pairs) none =
    ap (λ (o : Option Outcome). option_or o (end_in pair.0)) (no_end pairs (omega (arith, none))) ∙ no_end_here pair.0 (omega (arith, none))

-- the lines of scripts that all have their End in the history
pub lines_are : (t : ℕ) (scripts : List (List ℕ)) (results : List Came) (h : List Entry) → length results ≡ length scripts → AreWhole results → AllEnded t results h
    → lines_by scripts results ≡ lines_from t scripts h
lines_are t [] results h many whole ended = refl
lines_are t (script ∷ scripts) [] h many whole ended = absurd (omega (arith, many))
lines_are t (script ∷ scripts) (Ok it ∷ results) h many whole ended =
    let rest = lines_are (suc t) scripts results h (omega (arith, many)) whole ended.1 in
    let here = end_is (own t h) (outcome it) ended.0 in
    ap (λ (ls : List ℕ). line_of script (outcome it) ++ ls) rest ∙ ap (λ (o : Option Outcome). line_at script o ++ lines_from (suc t) scripts h) (sym here)
lines_are t (script ∷ scripts) (Err error ∷ results) h many whole ended = absurd whole

-- the number of the worst of them, behind the first t scripts
pub worst_from : (t : ℕ) (results : List Came) (h : List Entry) → AreWhole results → AllEnded t results h → status_of (t + length results) h ≡ max (status_of t h) (worst_by results)
worst_from t [] h whole ended = let same : t + 0 ≡ t = omega arith in let is : status_of (t + 0) h ≡ status_of t h = ap (λ (n : ℕ). status_of n h) same in omega (arith, is)
worst_from t (Ok it ∷ results) h whole ended =
    let rest = worst_from (suc t) results h whole ended.1 in
    let here : number_at (end_of (own t h)) ≡ number_of (outcome it) = ap number_at (end_is (own t h) (outcome it) ended.0) in
    let behind : t + suc (length results) ≡ suc t + length results = omega arith in
    let is : status_of (t + suc (length results)) h ≡ status_of (suc t + length results) h = ap (λ (n : ℕ). status_of n h) behind in
    omega (arith, rest, here, is)
worst_from t (Err error ∷ results) h whole ended = absurd whole

pub worst_is : (scripts : ℕ) (results : List Came) (h : List Entry) → length results ≡ scripts → AreWhole results → AllEnded 0 results h → worst_by results ≡ status_of scripts h
worst_is scripts results h many whole ended =
    let all = worst_from 0 results h whole ended in
    let same : 0 + length results ≡ scripts = omega (arith, many) in
    let is : status_of (0 + length results) h ≡ status_of scripts h = ap (λ (n : ℕ). status_of n h) same in
    omega (arith, all, is)
