use Rattle.std.proofs.Common.{◌≡◌, ◌∙◌, sym, ap, ℕ, List, Option, Some, None}
use Rattle.std.specs.FinMap as maps
use Rattle.std.specs.Option.{option_map}
use Rattle.meaning_state.specs.declared.thread.Source.{Source}
use Rattle.meaning_state.specs.declared.thread.State.{State}
use Rattle.meaning_script.specs.Meaning.{around_at}
use Rattle.meaning_script.specs.Names.{Access, replaces, replaces_own}
use Rattle.meaning_script.specs.Pieces.{Onward}
use Rattle.py_frames.proofs.Lifts.{lifted_at}
use Rattle.step_simple.proofs.paths.replace_own.Goals as goal

own_is : (access : Access) (o : Option Source) (n x : List ℕ) (s : State) (k : Onward)
    → option_map (λ (source : Source). source.name) o ≡ Some n → replaces access s.scope.mid n x s k ≡ replaces_own access o x s k
own_is access None n x s k h = cc
own_is access (Some source) n x s k h =
    let same : n ≡ source.name = cc in
    ap (λ (m : List ℕ). replaces access s.scope.mid m x s k) same

pub returns-in-Some : goal.returns-in-Some
returns-in-Some c =
    let th = c.args.thread.now in
    let own = maps.get th.state.kept th.state.scope.load in
    let told = sym c.in_ok-own_name.ensures ∙ c.in-Some.is in
    lifted_at th (λ w d. replaces (around_at w d).access th.state.scope.mid c.in-Some.«module» c.args.name.now)
    (λ w d. replaces_own (around_at w d).access own c.args.name.now) c.replace.result
    (λ w d k. own_is (around_at w d).access own c.in-Some.«module» c.args.name.now th.state k told) c.replace.ensures
