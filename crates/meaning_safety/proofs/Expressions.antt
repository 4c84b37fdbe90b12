-- Expressions are safe.
use Rattle.std.proofs.Common.{ℕ, Bool, true, false, not, if◌then◌else◌, List, [], ◌∷◌, map, Option, Some, None, refl, sym, subst}
use Rattle.py_value.specs.Measures.{is_true}
use Rattle.py_value.specs.declared.value.Value.{Value, out-Value}
use Rattle.py_value.specs.declared.value.Value.TheVariants as values
use Rattle.py_value.specs.declared.value.Value.TheOpen.{Value-F}
use Rattle.py_value.specs.declared.operator.Applied.{Applied}
use Rattle.py_value.specs.declared.operator.Applied.TheVariants as applied
use Rattle.py_value.specs.declared.operator.CmpOp.TheVariants as cmp
use Rattle.value_operators.specs.Outcomes.{limited, truth_value}
use Rattle.value_operators.specs.Arithmetic.{binary, negated}
use Rattle.value_operators.specs.Comparison.{identical}
use Rattle.value_operators.specs.Items.{contains, subscript}
use Rattle.machine_shown.specs.Shown.{Shown}
use Rattle.meaning_safety.specs.Laws.{KnowsApplied, KnowsGiven}
use Rattle.meaning_safety.proofs.Parts.{plain}
use Rattle.meaning_safety.proofs.Operators.{operators}
use Rattle.py_syntax.specs.declared.expr.Comparison.{Comparison}
use Rattle.py_syntax.specs.declared.expr.Comparison.TheVariants as comparing
use Rattle.py_syntax.specs.declared.expr.Expr.{Expr, roll-Expr, map-Expr}
use Rattle.py_syntax.specs.declared.expr.Expr.TheOpen.{Expr-F}
use Rattle.py_syntax.specs.declared.expr.Expr.TheFolds.{fold-Expr, fold-roll-Expr, ind-Expr}
use Rattle.meaning_state.specs.declared.fault.Fault.TheVariants as fault
use Rattle.meaning_state.specs.declared.flow.Flow.TheVariants.{Went}
use Rattle.meaning_script.specs.Pieces.{Piece, on_value, pay, fails, gives, sized, atom, gathers, applied_on, operates, listed, with_two}
use Rattle.meaning_script.specs.Names.{Access, reads, member}
use Rattle.meaning_script.specs.Methods.{has_method, calls_method}
use Rattle.meaning_script.specs.Operators.{Around, AttributePart, Part, operator_of, inverted, compared, displayed, operands_at, calls_first, gives_item, subscripts_at, subscripts, compares_values, compares_in, compares, applies_at, atom_at, conjoins, disjoins, calls_member, calls_part, does_of, expr_at, attribute_at, part_at, eval}
use Rattle.meaning_safety.specs.Known.{KnowsValue}
use Rattle.meaning_safety.proofs.Pieces.{SafeAt, Always, Each, AllSafe, SafeOf, goes_safe, fails_safe, pick_safe, pick_run, pay_safe, behind, sized_safe, sized_goes, atom_safe, gathers_safe, applied_safe, operates_safe, listed_safe, all_listed_safe, with_one_safe, with_two_safe}
use Rattle.meaning_safety.proofs.Values.{nothing_known, gives_safe, list_known, tuple_known}
use Rattle.meaning_safety.proofs.Names.{SafeAccess, value_or_safe, reads_safe, member_safe}
use Rattle.meaning_safety.proofs.Entries.{reads_entry_safe, has_entry_safe}
use Rattle.meaning_safety.proofs.Methods.{calls_method_safe}

-- the calls of known values, the imports of names and what accesses of modules go into are safe
pub record SafeAround (around : Around) : Type 0 where
  pub called : (s : Shown) (f : Value) (vs : List Value) → KnowsValue s f → Each s vs → SafeAt s (around.called f vs)
  pub imported : (n : List ℕ) → Always (around.imported n)
  pub access : SafeAccess around.access

inverted_known : (s : Shown) (a : Applied) → KnowsApplied s (inverted a)
inverted_known s (applied.Value v) = ((plain s).bool (not (is_true v)), refl)
inverted_known s (applied.Raised error) = tt

compared_known : (s : Shown) (c : Comparison) (a b : Value) → KnowsApplied s (compared c a b)
compared_known s comparing.Eq a b = (operators s).compare cmp.Eq a b
compared_known s comparing.Ne a b = (operators s).compare cmp.Ne a b
compared_known s comparing.Lt a b = (operators s).compare cmp.Lt a b
compared_known s comparing.Le a b = (operators s).compare cmp.Le a b
compared_known s comparing.Gt a b = (operators s).compare cmp.Gt a b
compared_known s comparing.Ge a b = (operators s).compare cmp.Ge a b
compared_known s comparing.In a b = (operators s).contains b a
compared_known s comparing.NotIn a b = inverted_known s (contains b a)
compared_known s comparing.Is a b = (operators s).identical a b
compared_known s comparing.IsNot a b = inverted_known s (identical a b)

item_safe : (s : Shown) (a : Applied) → KnowsGiven s a → SafeAt s (gives_item a)
item_safe s (applied.Value v) h = value_or_safe s v (fails fault.NotInProfile) h (λ is. fails_safe fault.NotInProfile s)
item_safe s (applied.Raised error) h = gives_safe s (applied.Raised error) tt

atom_at_safe : {X : Type 0} (access : Access) → SafeAccess access → (form : Expr-F X) → Always (atom_at access form)
atom_at_safe access safe (Expr-F.Name x) s = reads_safe access safe x s
atom_at_safe access safe (Expr-F.Number n) s = goes_safe s (Went (values.Int n)) ((plain s).number n, refl)
atom_at_safe access safe (Expr-F.Str text) s = gives_safe s (limited (values.Text text)) ((operators s).limited (values.Text text) ((plain s).text text) refl)
atom_at_safe access safe Expr-F.Nothing s = goes_safe s (Went values.Nothing) (nothing_known s)
atom_at_safe access safe Expr-F.True s = goes_safe s (Went (values.Bool true)) ((plain s).bool true, refl)
atom_at_safe access safe Expr-F.False s = goes_safe s (Went (values.Bool false)) ((plain s).bool false, refl)
atom_at_safe access safe form s = fails_safe fault.NotInProfile s

conjoins_safe : (b : Piece) → Always b → (s : Shown) (v : Value) → KnowsValue s v → SafeAt s (conjoins b v)
conjoins_safe b safe s v known =
    listed_safe s v known (λ u st k. if is_true u then b st (sized k) else sized k (Went u) st)
    (λ s' g u known' run st knows k on. pick_run s' (is_true u) (b st (sized k)) (sized k (Went u) st) (sized_safe s' b (safe s') run st knows k on) (sized_goes s' u known' run st knows k on))

disjoins_safe : (b : Piece) → Always b → (s : Shown) (v : Value) → KnowsValue s v → SafeAt s (disjoins b v)
disjoins_safe b safe s v known =
    listed_safe s v known (λ u st k. if is_true u then sized k (Went u) st else b st (sized k))
    (λ s' g u known' run st knows k on. pick_run s' (is_true u) (sized k (Went u) st) (b st (sized k)) (sized_goes s' u known' run st knows k on) (sized_safe s' b (safe s') run st knows k on))

-- ---- items and comparisons

subscripts_safe : (s : Shown) (v i : Value) → KnowsValue s v → KnowsValue s i → SafeAt s (subscripts v i)
subscripts_safe s v i hv hi = at (out-Value v)
  where
    at : (layer : Value-F Value) → SafeAt s (subscripts_at layer v i)
    at Value-F.SysModules = reads_entry_safe s i None hi tt
    at layer =
        all_listed_safe s (v ∷ i ∷ []) (hv, (hi, tt)) (λ vs. with_two vs (λ a b. gives_item (subscript a b)))
        (λ s' g us h. with_two_safe s' us h (λ a b. gives_item (subscript a b)) (λ a b ha hb. item_safe s' (subscript a b) ((operators s').subscript a b ha.0)))

compares_values_safe : (c : Comparison) (s : Shown) (a b : Value) → KnowsValue s a → KnowsValue s b → SafeAt s (compares_values c a b)
compares_values_safe c s a b ha hb =
    all_listed_safe s (a ∷ b ∷ []) (ha, (hb, tt)) (λ vs. with_two vs (λ x y. gives (compared c x y)))
    (λ s' g us h. with_two_safe s' us h (λ x y. gives (compared c x y)) (λ x y hx hy. gives_safe s' (compared c x y) (compared_known s' c x y)))

compares_in_safe : (c : Comparison) (is_negated : Bool) (s : Shown) (a b : Value) → KnowsValue s a → KnowsValue s b → SafeAt s (compares_in c is_negated (out-Value b) a b)
compares_in_safe c is_negated s a b ha hb = at (out-Value b)
  where
    at : (layer : Value-F Value) → SafeAt s (compares_in c is_negated layer a b)
    at Value-F.SysModules = has_entry_safe s is_negated a ha
    at layer = compares_values_safe c s a b ha hb

compares_safe : (c : Comparison) (s : Shown) (a b : Value) → KnowsValue s a → KnowsValue s b → SafeAt s (compares c a b)
compares_safe comparing.In s a b ha hb = compares_in_safe comparing.In false s a b ha hb
compares_safe comparing.NotIn s a b ha hb = compares_in_safe comparing.NotIn true s a b ha hb
compares_safe comparing.Eq s a b ha hb = compares_values_safe comparing.Eq s a b ha hb
compares_safe comparing.Ne s a b ha hb = compares_values_safe comparing.Ne s a b ha hb
compares_safe comparing.Lt s a b ha hb = compares_values_safe comparing.Lt s a b ha hb
compares_safe comparing.Le s a b ha hb = compares_values_safe comparing.Le s a b ha hb
compares_safe comparing.Gt s a b ha hb = compares_values_safe comparing.Gt s a b ha hb
compares_safe comparing.Ge s a b ha hb = compares_values_safe comparing.Ge s a b ha hb
compares_safe comparing.Is s a b ha hb = compares_values_safe comparing.Is s a b ha hb
compares_safe comparing.IsNot s a b ha hb = compares_values_safe comparing.IsNot s a b ha hb

-- ---- forms

-- what an attribute that is called does is safe, where it is one
abbrev SafeAttribute : Option AttributePart → Type 0
SafeAttribute None = Unit {0}
SafeAttribute (Some a) = Always a.object

record SafePart (p : Part) : Type 0 where
  does : Always p.does
  attribute : SafeAttribute p.attribute

module _ (around : Around) (safe_around : SafeAround around) where
  calls_first_safe : SafeOf (calls_first around)
  calls_first_safe s [] h = fails_safe fault.NotInProfile s
  calls_first_safe s (f ∷ vs) h = safe_around.called s f vs h.0 h.1

  applies_safe : {X : Type 0} (form : Expr-F X) → SafeOf (applies_at around form)
  applies_safe (Expr-F.Tuple es) s vs h = gives_safe s (displayed values.Tuple vs) (tuple_known s vs h)
  applies_safe (Expr-F.List es) s vs h = gives_safe s (displayed values.List vs) (list_known s vs h)
  applies_safe (Expr-F.Attribute object x) s vs h = with_one_safe s vs h (λ v. member around.access v x) (λ v known. member_safe around.access safe_around.access s v x known)
  applies_safe (Expr-F.Call callee es) s vs h = calls_first_safe s vs h
  applies_safe (Expr-F.Subscript object index) s vs h = with_two_safe s vs h (λ v i. subscripts v i) (λ v i hv hi. subscripts_safe s v i hv hi)
  applies_safe (Expr-F.Negative a) s vs h =
      with_one_safe s vs h (λ v. listed v (λ u. gives (negated u)))
      (λ v hv. listed_safe s v hv (λ u. gives (negated u)) (λ s' g u hu. gives_safe s' (negated u) ((operators s').negated u)))
  applies_safe (Expr-F.Binary o a b) s vs h =
      all_listed_safe s vs h (λ us. with_two us (λ x y. gives (binary (operator_of o) x y)))
      (λ s' g us all. with_two_safe s' us all (λ x y. gives (binary (operator_of o) x y)) (λ x y hx hy. gives_safe s' (binary (operator_of o) x y) ((operators s').binary (operator_of o) x y hx.0 hy.0)))
  applies_safe (Expr-F.Compare c a b) s vs h = with_two_safe s vs h (λ x y. compares c x y) (λ x y hx hy. compares_safe c s x y hx hy)
  applies_safe (Expr-F.Not a) s vs h =
      with_one_safe s vs h (λ v. listed v (λ u. gives (truth_value (not (is_true u)))))
      (λ v hv. listed_safe s v hv (λ u. gives (truth_value (not (is_true u)))) (λ s' g u hu. goes_safe s' (Went (values.Bool (not (is_true u)))) ((plain s').bool (not (is_true u)), refl)))
  applies_safe form s vs h = fails_safe fault.NotInProfile s

  -- ---- calls

  calls_member_safe : (x : List ℕ) (ps : List Piece) → AllSafe ps → (s : Shown) (object : Value) → KnowsValue s object → SafeAt s (calls_member around x ps object)
  calls_member_safe x ps all s object known =
      let arguments : List Value → Piece = applied_on (calls_first around) in
      pick_safe s (has_method object x) (operates ps (calls_method object x)) (λ st k. member around.access object x st (sized (on_value k (λ f st'. gathers ps (f ∷ []) arguments st' k))))
      (operates_safe ps all (calls_method object x) (calls_method_safe object x) s)
      (behind s (λ st k. member around.access object x st (sized k)) (λ f. gathers ps (f ∷ []) arguments)
      (sized_safe s (member around.access object x) (member_safe around.access safe_around.access s object x known))
      (λ s' g f hf. gathers_safe ps all arguments (applied_safe (calls_first around) calls_first_safe) s' (f ∷ []) (hf, tt)))

  calls_part_safe : (attribute : Option AttributePart) → SafeAttribute attribute → (callee : Piece) → Always callee → (ps : List Piece) → AllSafe ps → Always (calls_part around attribute callee ps)
  calls_part_safe None safe_object callee safe ps all s = operates_safe (callee ∷ ps) (safe, all) (calls_first around) calls_first_safe s
  calls_part_safe (Some a) safe_object callee safe ps all s =
      behind s a.object (λ object st k. pay 1 (calls_member around a.name ps object st k)) (safe_object s)
      (λ s' g object known. pay_safe s' 1 (calls_member around a.name ps object) (calls_member_safe a.name ps all s' object known))

  -- ---- all expressions

  abbrev part : Expr → Part
  part = fold-Expr Part (part_at around)

  abbrev SafeExpr : Expr → Type 0
  SafeExpr e = SafePart (part e)

  abbrev Told : Type 0
  Told = Expr-F ((e : Expr) × SafeExpr e)

  abbrev forms : Told → Expr-F Expr
  forms y = map-Expr ((e : Expr) × SafeExpr e) Expr (λ e. e.0) y

  abbrev parts : List ((e : Expr) × SafeExpr e) → List Part
  parts es = map part (map (λ e. e.0) es)

  each_safe : (es : List ((e : Expr) × SafeExpr e)) → AllSafe (does_of (parts es))
  each_safe [] = tt
  each_safe (e ∷ es) = (e.1.does, each_safe es)

  form_safe : (form : Expr-F Part) → AllSafe (does_of (operands_at form)) → Always (operates (does_of (operands_at form)) (applies_at around form))
  form_safe form all = operates_safe (does_of (operands_at form)) all (applies_at around form) (applies_safe form)

  pure_safe : (form : Expr-F Part) (s : Shown) → SafeAt s (atom (atom_at around.access form))
  pure_safe form s = atom_safe s (atom_at around.access form) (atom_at_safe around.access safe_around.access form s)

  does_safe : (y : Told) → Always (expr_at around (map-Expr Expr Part part (forms y)))
  does_safe (Expr-F.And a b) s =
      behind s (part a.0).does (λ v st k. pay 1 (conjoins (part b.0).does v st k)) (a.1.does s)
      (λ s' g v known. pay_safe s' 1 (conjoins (part b.0).does v) (conjoins_safe (part b.0).does b.1.does s' v known))
  does_safe (Expr-F.Or a b) s =
      behind s (part a.0).does (λ v st k. pay 1 (disjoins (part b.0).does v st k)) (a.1.does s)
      (λ s' g v known. pay_safe s' 1 (disjoins (part b.0).does v) (disjoins_safe (part b.0).does b.1.does s' v known))
  does_safe (Expr-F.Name x) s = atom_safe s (reads around.access x) (reads_safe around.access safe_around.access x s)
  does_safe (Expr-F.Number n) s = pure_safe (Expr-F.Number n) s
  does_safe (Expr-F.Str text) s = pure_safe (Expr-F.Str text) s
  does_safe Expr-F.Nothing s = pure_safe Expr-F.Nothing s
  does_safe Expr-F.True s = pure_safe Expr-F.True s
  does_safe Expr-F.False s = pure_safe Expr-F.False s
  does_safe (Expr-F.Tuple es) s = form_safe (Expr-F.Tuple (parts es)) (each_safe es) s
  does_safe (Expr-F.List es) s = form_safe (Expr-F.List (parts es)) (each_safe es) s
  does_safe (Expr-F.Attribute a x) s = form_safe (Expr-F.Attribute (part a.0) x) (a.1.does, tt) s
  does_safe (Expr-F.Call a es) s = calls_part_safe (part a.0).attribute a.1.attribute (part a.0).does a.1.does (does_of (parts es)) (each_safe es) s
  does_safe (Expr-F.Subscript a b) s = form_safe (Expr-F.Subscript (part a.0) (part b.0)) (a.1.does, (b.1.does, tt)) s
  does_safe (Expr-F.Negative a) s = form_safe (Expr-F.Negative (part a.0)) (a.1.does, tt) s
  does_safe (Expr-F.Binary o a b) s = form_safe (Expr-F.Binary o (part a.0) (part b.0)) (a.1.does, (b.1.does, tt)) s
  does_safe (Expr-F.Compare c a b) s = form_safe (Expr-F.Compare c (part a.0) (part b.0)) (a.1.does, (b.1.does, tt)) s
  does_safe (Expr-F.Not a) s = form_safe (Expr-F.Not (part a.0)) (a.1.does, tt) s

  attribute_safe : (y : Told) → SafeAttribute (attribute_at (map-Expr Expr Part part (forms y)))
  attribute_safe (Expr-F.Attribute a x) = a.1.does
  attribute_safe y = tt

  layer_safe : (y : Told) → SafePart (part_at around (map-Expr Expr Part part (forms y)))
  layer_safe y = record { does = does_safe y; attribute = attribute_safe y }

  part_safe : (e : Expr) → SafeExpr e
  part_safe = ind-Expr SafeExpr (λ x y is. subst (λ z. SafeExpr (roll-Expr z)) is (subst SafePart (sym (fold-roll-Expr Part (part_at around) (forms y))) (layer_safe y)))

  pub eval_safe : (e : Expr) → Always (eval around e)
  eval_safe e = (part_safe e).does
