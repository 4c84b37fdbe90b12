-- What texts are read as, and the entries of submodules whose names are dotted ones.
use Rattle.std.proofs.Common.{◌≡◌, ℕ, List, Bool, true, false, Option, Some, None, MatchOption, refl, subst}
use Rattle.spec_core.specs.Identifiers.{is_dotted}
use Rattle.spec_core.specs.Names.{joined}
use Rattle.py_value.specs.declared.value.ModRef.{ModRef}
use Rattle.machine_events.specs.declared.event.Event.TheVariants as e
use Rattle.meaning_state.specs.declared.fault.Fault.TheVariants as fault
use Rattle.meaning_state.specs.declared.thread.State.{State}
use Rattle.meaning_script.specs.Pieces.{Onward, calls, fails}
use Rattle.meaning_script.specs.Operators.{Around}
use Rattle.meaning_script.specs.ImportStatements.{looks_up, submodule_entry, tried_submodule, tries_submodule}

-- what a text is read as
pub none_is : {T : Type 0} (P : Type 0) (Q : T → Type 0) (o : Option T) → MatchOption o P Q → o ≡ None → P
none_is P Q None h is = h
none_is P Q (Some x) h is = absurd cc

pub some_is : {T : Type 0} (P : Type 0) (Q : T → Type 0) (o : Option T) (x : T) → MatchOption o P Q → o ≡ Some x → Q x
some_is P Q None x h is = absurd cc
some_is P Q (Some y) x h is =
    let same : y ≡ x = cc in
    subst Q same h

-- ---- a submodule's entry, where its name is a dotted one

pub looks_none : (m : ModRef) (x full : List ℕ) (init : Bool) (s : State) (k : Onward) → full ≡ joined m.name x → is_dotted full ≡ false
    → fails fault.NotInProfile s k ≡ looks_up m x init s k
looks_none m x full init s k is other = rw (← is, other) refl

pub looks_some : (m : ModRef) (x full entry : List ℕ) (init : Bool) (s : State) (k : Onward) → full ≡ joined m.name x → is_dotted full ≡ true → entry ≡ full
    → calls (e.TabGet entry) (λ reply. submodule_entry m x init reply s k) ≡ looks_up m x init s k
looks_some m x full entry init s k is dotted same = rw (same, ← is, dotted) refl

pub tries_none : (a : Around) (n full : List ℕ) (s : State) (k : Onward) → full ≡ n → is_dotted full ≡ false → fails fault.NotInProfile s k ≡ tries_submodule a n s k
tries_none a n full s k is other = rw (← is, other) refl

pub tries_some : (a : Around) (n full entry : List ℕ) (s : State) (k : Onward) → full ≡ n → is_dotted full ≡ true → entry ≡ full
    → a.imported full s (λ flow s. tried_submodule entry flow s k) ≡ tries_submodule a n s k
tries_some a n full entry s k is dotted same = rw (same, ← is, dotted) refl
