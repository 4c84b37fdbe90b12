-- A safe run makes no End of its own, so a script has one End.
use Rattle.std.proofs.Common.{◌≡◌, ℕ, ◌+◌, List, [], ◌∷◌, ◌++◌, Option, refl, ◌∙◌, arith}
use Rattle.machine_events.specs.declared.event.Event.{Event}
use Rattle.machine_events.specs.declared.event.Event.TheVariants as e
use Rattle.machine_events.specs.declared.event.Reply.{Reply}
use Rattle.machine_events.specs.declared.event.Reply.TheVariants.{Done}
use Rattle.machine_events.specs.declared.event.Outcome.{Outcome}
use Rattle.tree_files.specs.Files.{Files}
use Rattle.machine_shown.specs.Shown.{Shown, Running, Waiting, Over as Ended, shown, shown_first, shown_more}
use Rattle.meaning_runs.specs.Runs.{Run, Over, Pays, Looks, Makes, StampOf, TextOf, NamesOf, Reaches, starts, pays, looks, makes, Safe}
use Rattle.meaning_runs.specs.Lists.{ends, ends_in}
use Rattle.meaning_runs.proofs.Spends.{safe_reaches}

not_running : (s : Shown) → s.doing ≡ Ended → s.doing ≡ Running → ⊥
not_running s ended runs = cc

not_waiting : (s : Shown) → s.doing ≡ Ended → s.doing ≡ Waiting → ⊥
not_waiting s ended waits = cc

-- a thread that has ended makes nothing
no_more : (run : Run) (s : Shown) → s.doing ≡ Ended → Safe s run → ⊥
no_more (Over how) s ended safe = not_running s ended safe.1.0
no_more (Pays of_tree n next) s ended safe = not_running s ended safe.0
no_more (Looks (StampOf path) next) s ended safe = not_running s ended safe.0
no_more (Looks (TextOf path) next) s ended safe = not_running s ended safe.0
no_more (Looks (NamesOf path) next) s ended safe = not_running s ended safe.0
no_more (Makes e.Wake next) s ended safe = not_waiting s ended safe.0
no_more (Makes (e.Ask n) next) s ended safe = not_running s ended safe.0.0
no_more (Makes (e.Take n) next) s ended safe = not_running s ended safe.0.0
no_more (Makes (e.Add spec text) next) s ended safe = not_running s ended safe.0.0
no_more (Makes (e.Finish load good) next) s ended safe = not_running s ended safe.0.0
no_more (Makes (e.Release n) next) s ended safe = not_running s ended safe.0.0
no_more (Makes (e.GetVar mid x raw) next) s ended safe = not_running s ended safe.0.0
no_more (Makes (e.SetVar raw mid x v) next) s ended safe = not_running s ended safe.0.0
no_more (Makes (e.DelVar mid x raw) next) s ended safe = not_running s ended safe.0.0
no_more (Makes (e.Names mid) next) s ended safe = not_running s ended safe.0.0
no_more (Makes (e.Source load) next) s ended safe = not_running s ended safe.0.0
no_more (Makes (e.Print text) next) s ended safe = not_running s ended safe.0.0
no_more (Makes e.PathGet next) s ended safe = not_running s ended safe.0.0
no_more (Makes (e.PathAdd at v) next) s ended safe = not_running s ended safe.0.0
no_more (Makes (e.DirGet dir part) next) s ended safe = not_running s ended safe.0.0
no_more (Makes (e.DirSet dir listing) next) s ended safe = not_running s ended safe.0.0
no_more (Makes e.Invalidate next) s ended safe = not_running s ended safe.0.0
no_more (Makes (e.NsGet mid) next) s ended safe = not_running s ended safe.0.0
no_more (Makes (e.NsSet mid state) next) s ended safe = not_running s ended safe.0.0
no_more (Makes (e.TabGet n) next) s ended safe = not_running s ended safe.0.0
no_more (Makes (e.TabSet n slot) next) s ended safe = not_running s ended safe.0.0
no_more (Makes (e.TabDel n) next) s ended safe = not_running s ended safe.0.0
no_more (Makes (e.ReloadBegin mid raw) next) s ended safe = not_running s ended safe.0.0
no_more (Makes (e.ReloadTake mid spec text) next) s ended safe = not_running s ended safe.0.0
no_more (Makes (e.ReloadEnd mid load) next) s ended safe = not_running s ended safe.0.0
no_more (Makes (e.AddLazy spec text) next) s ended safe = not_running s ended safe.0.0
no_more (Makes (e.Rouse mid) next) s ended safe = not_running s ended safe.0.0
no_more (Makes (e.Main spec text) next) s ended safe = not_running s ended safe.0.0
no_more (Makes (e.End outcome spent) next) s ended safe = not_running s ended safe.0.0

-- so no event of a safe run is an End
pub no_end_made : (event : Event) (next : Reply → Run) (s : Shown) → Safe s (Makes event next) → ends event ≡ 0
no_end_made e.Wake next s safe = refl
no_end_made (e.Ask n) next s safe = refl
no_end_made (e.Take n) next s safe = refl
no_end_made (e.Add spec text) next s safe = refl
no_end_made (e.Finish load good) next s safe = refl
no_end_made (e.Release n) next s safe = refl
no_end_made (e.GetVar mid x raw) next s safe = refl
no_end_made (e.SetVar raw mid x v) next s safe = refl
no_end_made (e.DelVar mid x raw) next s safe = refl
no_end_made (e.Names mid) next s safe = refl
no_end_made (e.Source load) next s safe = refl
no_end_made (e.Print text) next s safe = refl
no_end_made e.PathGet next s safe = refl
no_end_made (e.PathAdd at v) next s safe = refl
no_end_made (e.DirGet dir part) next s safe = refl
no_end_made (e.DirSet dir listing) next s safe = refl
no_end_made e.Invalidate next s safe = refl
no_end_made (e.NsGet mid) next s safe = refl
no_end_made (e.NsSet mid state) next s safe = refl
no_end_made (e.TabGet n) next s safe = refl
no_end_made (e.TabSet n slot) next s safe = refl
no_end_made (e.TabDel n) next s safe = refl
no_end_made (e.ReloadBegin mid raw) next s safe = refl
no_end_made (e.ReloadTake mid spec text) next s safe = refl
no_end_made (e.ReloadEnd mid load) next s safe = refl
no_end_made (e.AddLazy spec text) next s safe = refl
no_end_made (e.Rouse mid) next s safe = refl
no_end_made (e.Main spec text) next s safe = refl
no_end_made (e.End outcome spent) next s safe = absurd (no_more (next Done) (shown_more s (e.End outcome spent, Done)) refl (safe.1 Done))

one_more : (pairs : List (Event × Reply)) (p : Event × Reply) → ends_in (pairs ++ p ∷ []) ≡ ends_in pairs + ends p.0
one_more [] p = omega arith
one_more (q ∷ pairs) p = let rest = one_more pairs p in omega arith

pub no_end : (t : ℕ) {files : Option Files} {whole : Run} {paid : ℕ} {pairs : List (Event × Reply)} {rest : Run} → Reaches files whole paid pairs rest → Safe (shown_first t) whole → ends_in pairs ≡ 0
no_end t starts safe = refl
no_end t (pays paid n pairs of_tree next at) safe = no_end t at safe
no_end t (looks paid pairs q a next h at) safe = no_end t at safe
no_end t (makes paid pairs event r next at) safe =
    let before = no_end t at safe in
    let here = no_end_made event next (shown t pairs) (safe_reaches t at safe) in
    one_more pairs (event, r) ∙ omega (arith, before, here)

pub once_at_end : (before : List (Event × Reply)) (outcome : Outcome) (paid : ℕ) (r : Reply) → ends_in before ≡ 0 → ends_in (before ++ (e.End outcome paid, r) ∷ []) ≡ 1
once_at_end before outcome paid r none = one_more before (e.End outcome paid, r) ∙ omega (arith, none)
