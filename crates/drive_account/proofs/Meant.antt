-- What a script's own events are of its meaning, whatever its tree tells.
use Rattle.std.proofs.Common.{◌≡◌, ℕ, List, [], Option, Some, None, Result, Ok, Err, IfOk, OnErr, refl, subst}
use Rattle.base_types.specs.declared.no_memory.NoMemory.{NoMemory}
use Rattle.tree_files.specs.Files.{Files}
use Rattle.tree_files.specs.Count.{Rose}
use Rattle.machine_events.specs.declared.event.Event.{Event}
use Rattle.machine_events.specs.declared.event.Reply.{Reply}
use Rattle.machine_events.specs.declared.event.Outcome.{Outcome}
use Rattle.machine_events.specs.declared.event.Outcome.TheVariants as o
use Rattle.machine_shown.specs.Shown.{shown, shown_first}
use Rattle.meaning_runs.specs.Runs.{Run, Reaches, starts, pays, looks, makes, StandsIn, Safe, spend}
use Rattle.meaning_runs.specs.Follows.{Follows}
use Rattle.meaning_runs.proofs.Spends.{spend_reaches}
use Rattle.meaning_runs.proofs.Stand.{whole_of}
use Rattle.drive_account.specs.Ending.{Ended, IsMeant, Broken, in_run, at_read, IsRead, outcome}
use Rattle.drive_account.specs.declared.end.Ending.{Ending}
use Rattle.drive_account.specs.declared.end.Ending.TheVariants as ending

-- they end with its End
pub ended_of : {told : Option Files} {t : ℕ} {run : Run} {fuel : ℕ} {mine : List (Event × Reply)} {how : Outcome} → IsMeant told t run fuel mine how → Ended mine how
ended_of meant = record { before = meant.before; paid = meant.paid; whole = meant.whole }

-- over a tree that tells its files they are those of the whole run on their replies
pub follows_of : {f : Files} {t : ℕ} {run : Run} {fuel : ℕ} {mine : List (Event × Reply)} {how : Outcome} → IsMeant (Some f) t run fuel mine how → Safe (shown_first t) run → Follows f t run fuel mine how
follows_of {f} {t} meant safe = whole_of f t meant.paid meant.whole refl meant.reaches meant.ends safe

-- a script that stands somewhere has come there with its whole fuel
pub broken_in : {told : Option Files} {t : ℕ} {run : Run} {fuel : ℕ} {mine : List (Event × Reply)} (old new : ℕ) → StandsIn told run fuel mine → Broken told t run fuel mine old new
broken_in {told} {t} {run} {fuel} {mine} old new s =
    let rest : Run = spend s.budget (shown t mine) s.rest in
    in_run rest (subst (λ (n : ℕ). Reaches told (spend n (shown_first t) run) 0 mine rest) s.stands.sum (spend_reaches t s.stands.reaches s.budget))

-- a script that made no event yet
pub broken_first : {told : Option Files} {t : ℕ} {run : Run} {fuel : ℕ} {mine : List (Event × Reply)} (old new : ℕ) → mine ≡ [] → Broken told t run fuel mine old new
broken_first {t = t} {run} {fuel} old new none = rw none (in_run (spend fuel (shown_first t) run) starts)

-- what tells its files does no more than what tells nothing may do
pub reaches_none : {told : Option Files} {whole : Run} {paid : ℕ} {pairs : List (Event × Reply)} {rest : Run} → Reaches told whole paid pairs rest → Reaches None whole paid pairs rest
reaches_none starts = starts
reaches_none (pays paid n pairs of_tree next reached) = pays paid n pairs of_tree next (reaches_none reached)
reaches_none (looks paid pairs q a next is reached) = looks paid pairs q a next tt (reaches_none reached)
reaches_none (makes paid pairs event r next reached) = makes paid pairs event r next (reaches_none reached)

pub meant_none : {told : Option Files} {t : ℕ} {run : Run} {fuel : ℕ} {mine : List (Event × Reply)} {how : Outcome} → IsMeant told t run fuel mine how → IsMeant None t run fuel mine how
meant_none meant = record { before = meant.before; paid = meant.paid; how = meant.how; whole = meant.whole; reaches = reaches_none meant.reaches; ends = meant.ends }

pub broken_none : {told : Option Files} {t : ℕ} {run : Run} {fuel : ℕ} {mine : List (Event × Reply)} {old new : ℕ} → Broken told t run fuel mine old new → Broken None t run fuel mine old new
broken_none (in_run rest reaches) = in_run rest (reaches_none reaches)
broken_none (at_read k fits rose given) = at_read k fits rose (reaches_none given)

-- the same of what came of a thread
pub if_meant_none : (told : Option Files) (t : ℕ) (run : Run) (fuel : ℕ) (mine : List (Event × Reply)) (came : Result Ending NoMemory) → IfOk came (λ it. IsMeant told t run fuel mine (outcome it)) → IfOk came (λ it. IsMeant None t run fuel mine (outcome it))
if_meant_none told t run fuel mine (Ok it) meant = meant_none meant
if_meant_none told t run fuel mine (Err e) meant = tt

pub if_broken_none : (told : Option Files) (t : ℕ) (run : Run) (fuel : ℕ) (mine : List (Event × Reply)) (old new : ℕ) (came : Result Ending NoMemory) → OnErr came (Broken told t run fuel mine old new) → OnErr came (Broken None t run fuel mine old new)
if_broken_none told t run fuel mine old new (Ok it) broken = tt
if_broken_none told t run fuel mine old new (Err e) broken = broken_none broken

-- the same where the count of faults is another that rose too
pub broken_by : {told : Option Files} {t : ℕ} {run : Run} {fuel : ℕ} {mine : List (Event × Reply)} {a b old new : ℕ} → (Rose a b → Rose old new) → Broken told t run fuel mine a b → Broken told t run fuel mine old new
broken_by up (in_run rest reaches) = in_run rest reaches
broken_by up (at_read k fits rose given) = at_read k fits (up rose) given

-- the outcome of the End tells that a call of the tree failed
pub is_read : (it : Ending) → outcome it ≡ o.Read → IsRead it
is_read ending.Normal is = absurd (cc is)
is_read (ending.Raised error) is = absurd (cc is)
is_read ending.Fuel is = absurd (cc is)
is_read ending.Read is = tt
