-- An expression does what its outermost form says.
use Rattle.std.proofs.Common.{◌≡◌, ◌∙◌, refl, sym, ap, ℕ, List, [], ◌∷◌, map, drop, Some, None, false}
use Rattle.std.proofs.lemmas.Bool.{false≢true}
use Rattle.py_value.specs.declared.value.Value.{Value}
use Rattle.py_value.specs.declared.value.Value.TheVariants as values
use Rattle.py_syntax.specs.declared.expr.Expr.{Expr, out-Expr, map-Expr}
use Rattle.py_syntax.specs.declared.expr.Expr.TheOpen.{Expr-F}
use Rattle.py_syntax.specs.declared.expr.Expr.TheFolds.{fold-Expr, fold_out-Expr}
use Rattle.meaning_state.specs.declared.thread.State.{State}
use Rattle.meaning_script.specs.Pieces.{Piece, Onward, pay, on_value, gives, sized, gathers, applied_on, operates}
use Rattle.meaning_script.specs.Names.{member}
use Rattle.meaning_script.specs.Operators.{Around, Part, expr_at, part_at, attribute_at, does_of, calls_part, eval, displayed, applies_at, operands_at, calls_first}
use Rattle.py_frames.proofs.Options.{some_same}
use Rattle.step_expressions.specs.Forms.{eval_at, eval_call, left_of, object_of, callee_object, attribute_in, arguments_in, is_atom}

abbrev part : Around → Expr → Part
part around = fold-Expr Part (part_at around)

evals : (around : Around) (es : List Expr) → does_of (map (part around) es) ≡ map (eval around) es
evals around [] = refl
evals around (e ∷ es) = ap (λ ps. eval around e ∷ ps) (evals around es)

calls_at : (around : Around) (callee : Expr) (form : Expr-F Expr) (es : List Expr)
    → calls_part around (attribute_at (map-Expr Expr Part (part around) form)) (eval around callee) (map (eval around) es) ≡ eval_call around callee form es
calls_at around callee (Expr-F.Attribute object x) es = refl
calls_at around callee form es = refl

attribute_is : (around : Around) (callee : Expr) → (part around callee).attribute ≡ attribute_at (map-Expr Expr Part (part around) (out-Expr callee))
attribute_is around callee = ap (λ (p : Part). p.attribute) (fold_out-Expr Part (part_at around) callee)

by_layer : (around : Around) (d : Expr-F Expr) → expr_at around (map-Expr Expr Part (part around) d) ≡ eval_at around d
by_layer around (Expr-F.Name x) = refl
by_layer around (Expr-F.Number n) = refl
by_layer around (Expr-F.Str text) = refl
by_layer around Expr-F.Nothing = refl
by_layer around Expr-F.True = refl
by_layer around Expr-F.False = refl
by_layer around (Expr-F.Tuple es) = ap (λ ps. operates ps (λ vs. gives (displayed values.Tuple vs))) (evals around es)
by_layer around (Expr-F.List es) = ap (λ ps. operates ps (λ vs. gives (displayed values.List vs))) (evals around es)
by_layer around (Expr-F.Attribute a x) = refl
by_layer around (Expr-F.Call f es) =
    ap (λ ps. calls_part around (part around f).attribute (eval around f) ps) (evals around es)
    ∙ ap (λ o. calls_part around o (eval around f) (map (eval around) es)) (attribute_is around f)
    ∙ calls_at around f (out-Expr f) es
by_layer around (Expr-F.Subscript a b) = refl
by_layer around (Expr-F.Negative a) = refl
by_layer around (Expr-F.Binary o a b) = refl
by_layer around (Expr-F.Compare c a b) = refl
by_layer around (Expr-F.Not a) = refl
by_layer around (Expr-F.And a b) = refl
by_layer around (Expr-F.Or a b) = refl

pub eval_is : (around : Around) (e : Expr) → eval around e ≡ eval_at around (out-Expr e)
eval_is around e = ap (λ (p : Part). p.does) (fold_out-Expr Part (part_at around) e) ∙ by_layer around (out-Expr e)

call_plain : (around : Around) (callee : Expr) (form : Expr-F Expr) (es : List Expr) → object_of form ≡ None
    → operates (eval around callee ∷ map (eval around) es) (calls_first around) ≡ eval_call around callee form es
call_plain around callee (Expr-F.Attribute object x) es h = cc
call_plain around callee form es h = refl

pub operator_is : (around : Around) (d : Expr-F Expr) (s : State) (k : Onward) → left_of d ≡ None → is_atom d ≡ false → callee_object d ≡ None
    → gathers (map (eval around) (operands_at d)) [] (λ vs s k. pay 1 (applies_at around d vs s (sized k))) s k ≡ eval_at around d s k
operator_is around (Expr-F.Name x) s k h g c = absurd (false≢true (sym g))
operator_is around (Expr-F.Number n) s k h g c = absurd (false≢true (sym g))
operator_is around (Expr-F.Str text) s k h g c = absurd (false≢true (sym g))
operator_is around Expr-F.Nothing s k h g c = absurd (false≢true (sym g))
operator_is around Expr-F.True s k h g c = absurd (false≢true (sym g))
operator_is around Expr-F.False s k h g c = absurd (false≢true (sym g))
operator_is around (Expr-F.Tuple es) s k h g c = refl
operator_is around (Expr-F.List es) s k h g c = refl
operator_is around (Expr-F.Attribute a x) s k h g c = refl
operator_is around (Expr-F.Call f es) s k h g c = ap (λ (p : Piece). p s k) (call_plain around f (out-Expr f) es c)
operator_is around (Expr-F.Subscript a b) s k h g c = refl
operator_is around (Expr-F.Negative a) s k h g c = refl
operator_is around (Expr-F.Binary o a b) s k h g c = refl
operator_is around (Expr-F.Compare o a b) s k h g c = refl
operator_is around (Expr-F.Not a) s k h g c = refl
operator_is around (Expr-F.And a b) s k h g c = cc
operator_is around (Expr-F.Or a b) s k h g c = cc

-- the attribute that a call names is read, and then called
pub reads_it : (around : Around) (callee call : Expr-F Expr) (x : List ℕ) (es : List Expr) (object : Value) (s : State) (k : Onward) → attribute_in callee ≡ Some x → arguments_in call ≡ Some es
    → applies_at around callee (object ∷ []) s
    (sized (on_value k (λ f s. gathers (map (eval around) (drop 1 (operands_at call))) (f ∷ []) (applied_on (applies_at around call)) s k)))
    ≡ member around.access object x s (sized (on_value k (λ f s. gathers (map (eval around) es) (f ∷ []) (applied_on (calls_first around)) s k)))
reads_it around (Expr-F.Attribute a y) (Expr-F.Call f fs) x es object s k h g =
    ap (λ z. member around.access object z s (sized (on_value k (λ f s. gathers (map (eval around) fs) (f ∷ []) (applied_on (calls_first around)) s k)))) (some_same h)
    ∙ ap (λ gs. member around.access object x s (sized (on_value k (λ f s. gathers (map (eval around) gs) (f ∷ []) (applied_on (calls_first around)) s k)))) (some_same g)
reads_it around (Expr-F.Attribute a y) call x es object s k h g = cc
reads_it around callee call x es object s k h g = cc
