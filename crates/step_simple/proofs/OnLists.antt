-- Statements in which a list comes in place of an operand.
use Rattle.std.proofs.Common.{◌≡◌, ◌∙◌, refl, sym, ap, subst, ℕ, List, [], ◌∷◌, slice_get, slice_set, Option, Some, None, Bool, true, false, if◌then◌else◌}
use Rattle.std.proofs.lemmas.Bool.{false≢true}
use Rattle.py_value.specs.declared.value.Value.{Value, out-Value, out-roll-Value}
use Rattle.py_value.specs.declared.value.Value.TheVariants as values
use Rattle.py_value.specs.declared.value.Value.TheVariants.{rolls-List}
use Rattle.py_value.specs.declared.value.Value.TheOpen.{Value-F}
use Rattle.py_syntax.specs.declared.expr.Expr.{Expr, out-Expr}
use Rattle.py_syntax.specs.declared.expr.Expr.TheOpen.{Expr-F}
use Rattle.py_syntax.specs.declared.stmt.Branch.{Branch}
use Rattle.py_syntax.specs.declared.stmt.FuncDef.{FuncDef}
use Rattle.py_syntax.specs.declared.stmt.Handler.{Handler}
use Rattle.py_syntax.specs.declared.stmt.Stmt.{Stmt, out-Stmt}
use Rattle.py_syntax.specs.declared.stmt.Stmt.TheOpen.{Stmt-F}
use Rattle.meaning_script.specs.Pieces.{listed, with_two, with_three}
use Rattle.meaning_script.specs.Names.{Access}
use Rattle.meaning_script.specs.Operators.{Around}
use Rattle.meaning_script.specs.Statements.{refuses_item, sets_item_at, sets_item, deletes_item_at, deletes_item, assigns_at, removes_at, raises_at, raises_value, raises, performs_at}
use Rattle.py_frames.specs.Listing.{is_listed_at, is_listed}
use Rattle.py_frames.specs.Does.{performs}
use Rattle.step_simple.specs.Known.{is_path_at, is_path, place_behind, place_before, place_of_one, place_assigned, place_removed, place_at, place_some}
use Rattle.py_frames.proofs.Operands.{list_is_itself, listed_same}

list_out : (items : List Value) → out-Value (values.List items) ≡ Value-F.List items
list_out items = ap out-Value (sym (rolls-List items)) ∙ out-roll-Value (Value-F.List items)

path_at : (x : Value-F Value) → is_path_at x ≡ true → is_listed_at x ≡ true
path_at Value-F.SysPath h = refl
path_at x h = absurd (false≢true h)

path_listed : (v : Value) → is_path v ≡ true → is_listed v ≡ true
path_listed v h = path_at (out-Value v) h

a_place : (b : Bool) (n at : ℕ) → (if b then Some n else None) ≡ Some at → (b ≡ true) × (n ≡ at)
a_place true n at h =
    let place = λ (o : Option ℕ). elim o as (λ _. ℕ) [ None ↦ 0 | Some m ↦ m ] in
    (refl, ap place h)
a_place false n at h = cc

abbrev or_value : Option Value → Value → Value
or_value None v = v
or_value (Some u) v = u

value_same : {v w : Value} → Some v ≡ Some w → v ≡ w
value_same {v} {w} h = let is : or_value (Some v) v ≡ or_value (Some w) v = ap (λ o. or_value o v) h in is

sets_path : (x : Value-F Value) (o i v : Value) → is_path_at x ≡ true → listed o refuses_item ≡ sets_item_at x o i v
sets_path Value-F.SysPath o i v h = refl
sets_path x o i v h = absurd (false≢true h)

sets_listed : (o i v : Value) → is_path o ≡ true → listed o (λ u. sets_item u i v) ≡ sets_item o i v
sets_listed o i v h =
    listed_same o (λ u. sets_item u i v) refuses_item (path_listed o h) (λ items. ap (λ x. sets_item_at x (values.List items) i v) (list_out items) ∙ list_is_itself items refuses_item)
    ∙ sets_path (out-Value o) o i v h

deletes_path : (x : Value-F Value) (o i : Value) → is_path_at x ≡ true → listed o refuses_item ≡ deletes_item_at x o i
deletes_path Value-F.SysPath o i h = refl
deletes_path x o i h = absurd (false≢true h)

deletes_listed : (o i : Value) → is_path o ≡ true → listed o (λ u. deletes_item u i) ≡ deletes_item o i
deletes_listed o i h =
    listed_same o (λ u. deletes_item u i) refuses_item (path_listed o h) (λ items. ap (λ x. deletes_item_at x (values.List items) i) (list_out items) ∙ list_is_itself items refuses_item)
    ∙ deletes_path (out-Value o) o i h

behind_first : (v o i w : Value) → is_path o ≡ true → slice_get (v ∷ o ∷ i ∷ []) 1 ≡ Some w
    → listed w (λ u. with_three (slice_set (v ∷ o ∷ i ∷ []) 1 u) (λ v o i. sets_item o i v)) ≡ sets_item o i v
behind_first v o i w h is = ap (λ y. listed y (λ u. sets_item u i v)) (sym (value_same is)) ∙ sets_listed o i v h

before_first : (o i w : Value) → is_path o ≡ true → slice_get (o ∷ i ∷ []) 0 ≡ Some w
    → listed w (λ u. with_two (slice_set (o ∷ i ∷ []) 0 u) (λ o i. deletes_item o i)) ≡ deletes_item o i
before_first o i w h is = ap (λ y. listed y (λ u. deletes_item u i)) (sym (value_same is)) ∙ deletes_listed o i h

raises_first : (v w : Value) → is_listed v ≡ true → slice_get (v ∷ []) 0 ≡ Some w → listed w (λ u. raises (slice_set (v ∷ []) 0 u)) ≡ raises_value v
raises_first v w h is =
    ap (λ y. listed y raises_value) (sym (value_same is))
    ∙ listed_same v raises_value (λ u. raises_at (out-Value u)) h (λ items. list_is_itself items (λ u. raises_at (out-Value u)))

behind_listed : (vs : List Value) (at : ℕ) (w : Value) → place_behind vs ≡ Some at → slice_get vs at ≡ Some w
    → (is_listed w ≡ true) × (listed w (λ u. with_three (slice_set vs at u) (λ v o i. sets_item o i v)) ≡ with_three vs (λ v o i. sets_item o i v))
behind_listed [] at w h is = cc
behind_listed (a ∷ []) at w h is = cc
behind_listed (a ∷ b ∷ []) at w h is = cc
behind_listed (v ∷ o ∷ i ∷ []) at w h is =
    let place = a_place (is_path o) 1 at h in
    let found = subst (λ n. slice_get (v ∷ o ∷ i ∷ []) n ≡ Some w) (sym place.1) is in
    (ap is_listed (sym (value_same found)) ∙ path_listed o place.0, subst (λ n. listed w (λ u. with_three (slice_set (v ∷ o ∷ i ∷ []) n u) (λ v o i. sets_item o i v)) ≡ sets_item o i v) place.1 (behind_first v o i w place.0 found))
behind_listed (a ∷ b ∷ c ∷ d ∷ vs) at w h is = cc

before_listed : (vs : List Value) (at : ℕ) (w : Value) → place_before vs ≡ Some at → slice_get vs at ≡ Some w
    → (is_listed w ≡ true) × (listed w (λ u. with_two (slice_set vs at u) (λ o i. deletes_item o i)) ≡ with_two vs (λ o i. deletes_item o i))
before_listed [] at w h is = cc
before_listed (a ∷ []) at w h is = cc
before_listed (o ∷ i ∷ []) at w h is =
    let place = a_place (is_path o) 0 at h in
    let found = subst (λ n. slice_get (o ∷ i ∷ []) n ≡ Some w) (sym place.1) is in
    (ap is_listed (sym (value_same found)) ∙ path_listed o place.0, subst (λ n. listed w (λ u. with_two (slice_set (o ∷ i ∷ []) n u) (λ o i. deletes_item o i)) ≡ deletes_item o i) place.1 (before_first o i w place.0 found))
before_listed (a ∷ b ∷ c ∷ vs) at w h is = cc

raises_listed : (vs : List Value) (at : ℕ) (w : Value) → place_of_one vs ≡ Some at → slice_get vs at ≡ Some w
    → (is_listed w ≡ true) × (listed w (λ u. raises (slice_set vs at u)) ≡ raises vs)
raises_listed [] at w h is = cc
raises_listed (v ∷ []) at w h is =
    let place = a_place (is_listed v) 0 at h in
    let found = subst (λ n. slice_get (v ∷ []) n ≡ Some w) (sym place.1) is in
    (ap is_listed (sym (value_same found)) ∙ place.0, subst (λ n. listed w (λ u. raises (slice_set (v ∷ []) n u)) ≡ raises_value v) place.1 (raises_first v w place.0 found))
raises_listed (a ∷ b ∷ vs) at w h is = cc

assigns_listed : (access : Access) (target : Expr-F Expr) (vs : List Value) (at : ℕ) (w : Value) → place_assigned target vs ≡ Some at → slice_get vs at ≡ Some w
    → (is_listed w ≡ true) × (listed w (λ u. assigns_at access target (slice_set vs at u)) ≡ assigns_at access target vs)
assigns_listed access (Expr-F.Subscript a b) vs at w h is = behind_listed vs at w h is
assigns_listed access target vs at w h is = cc

removes_listed : (access : Access) (target : Expr-F Expr) (vs : List Value) (at : ℕ) (w : Value) → place_removed target vs ≡ Some at → slice_get vs at ≡ Some w
    → (is_listed w ≡ true) × (listed w (λ u. removes_at access target (slice_set vs at u)) ≡ removes_at access target vs)
removes_listed access (Expr-F.Subscript a b) vs at w h is = before_listed vs at w h is
removes_listed access target vs at w h is = cc

performs_listed : (access : Access) (stmt : Stmt-F Stmt Branch FuncDef Handler) (vs : List Value) (at : ℕ) (w : Value) → place_at stmt vs ≡ Some at → slice_get vs at ≡ Some w
    → (is_listed w ≡ true) × (listed w (λ u. performs_at access stmt (slice_set vs at u)) ≡ performs_at access stmt vs)
performs_listed access (Stmt-F.Assign target e) vs at w h is = assigns_listed access (out-Expr target) vs at w h is
performs_listed access (Stmt-F.Delete target) vs at w h is = removes_listed access (out-Expr target) vs at w h is
performs_listed access (Stmt-F.Raise e) vs at w h is = raises_listed vs at w h is
performs_listed access stmt vs at w h is = cc

-- the list comes in place of the operand at this place, and then the statement is done
pub some_listed : (around : Around) (o : Option Stmt) (vs : List Value) (at : ℕ) (w : Value) → place_some o vs ≡ Some at → slice_get vs at ≡ Some w
    → (is_listed w ≡ true) × (listed w (λ u. performs around o (slice_set vs at u)) ≡ performs around o vs)
some_listed around None vs at w h is = cc
some_listed around (Some s) vs at w h is = performs_listed around.access (out-Stmt s) vs at w h is
