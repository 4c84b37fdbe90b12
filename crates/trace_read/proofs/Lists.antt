-- Lists of values and of texts, specs, states and tree paths are read back.
use Rattle.std.proofs.Common.{◌≡◌, ◌∙◌, refl, sym, ap, subst, ℕ, ◌^◌, ◌<◌, ◌≤◌, List, [], ◌∷◌, ◌++◌, append_assoc, map, Bool, true, false, ltb, ◌&&◌, Option, Some, None, arith, inl, inr, ◌⊎◌, codes, if◌then◌else◌}
use Rattle.std.proofs.lemmas.Bool.{cases_Bool, and_parts, and_from, ltb-true, lt-ltb, cond-true, cond-false}
use Rattle.std.proofs.lemmas.Option.{option_and_then_some}
use Rattle.std.specs.List.{list_all, flat_map, AllByRecursion}
use Rattle.std.specs.Option.{option_map, option_and_then, option_or}
use Rattle.std.specs.Fmt.{decimal}
use Rattle.std.specs.Str.{is_utf8}
use Rattle.spec_core.specs.declared.spec.SpecKind.{SpecKind}
use Rattle.spec_core.specs.declared.spec.SpecKind.TheVariants as kinds
use Rattle.py_value.specs.declared.value.NsState.{NsState}
use Rattle.py_value.specs.declared.value.Value.{Value}
use Rattle.base_spelling.specs.Numbers.{number_in}
use Rattle.base_spelling.proofs.Spelled.{number_takes, number_again}
use Rattle.base_spelling.specs.Spelling.{quoted}
use Rattle.base_spelling.specs.Read.{text_in}
use Rattle.trace_text.specs.Values.{texts_text, value_text, values_text, spec_text, state_text}
use Rattle.trace_fields.specs.Splitting.{joined}
use Rattle.trace_fields.proofs.Closed.{Closed, Inner, closed_both, inner_both, inner_comma, inner_closed, ordinary_closed, in_brackets_closed, in_parentheses_closed}
use Rattle.trace_fields.proofs.Quoting.{quoted_closed}
use Rattle.trace_fields.specs.Parts.{between, two_in, three_in}
use Rattle.trace_fields.specs.Values.{value_in, values_in, texts_in, source_kind_in, package_of, package_kind_in, namespace_kind_in, spec_kind_in, state_of, state_in}
use Rattle.trace_read.proofs.Held.{some_is}
use Rattle.trace_read.specs.FieldsFit.{value_fits, values_fit, texts_fit, spec_kind_fits, state_fits}
use Rattle.trace_read.proofs.Between.{between_again, between_takes, two_again, two_takes, three_again, three_takes}
use Rattle.trace_read.proofs.Listed.{IsItem, listed_again, listed_takes, mapped_some}
use Rattle.trace_read.proofs.Modules.{text_read, text_told, number_closed, called_closed}
use Rattle.trace_read.proofs.Nested.{value_item, value_read, joined_inner, one_closed}
use Rattle.trace_read.proofs.Told.{value_told, either}

-- ---- values in brackets

value_items : (vs : List Value) → values_fit vs ≡ true → AllByRecursion IsItem (map value_text vs)
value_items [] h = tt
value_items (v ∷ vs) h = let both = and_parts (value_fits v) (values_fit vs) h in (value_item v both.0, value_items vs both.1)

value_reads : (vs : List Value) → values_fit vs ≡ true → AllByRecursion (λ v. value_in 64 (value_text v) ≡ Some v) vs
value_reads [] h = tt
value_reads (v ∷ vs) h = let both = and_parts (value_fits v) (values_fit vs) h in (value_read v both.0, value_reads vs both.1)

pub values_read : (vs : List Value) → values_fit vs ≡ true → values_in (values_text vs) ≡ Some vs
values_read vs h = listed_again (codes "[") 93 (value_in 64) value_text vs (value_items vs h) (value_reads vs h)

pub values_told : (field : List ℕ) (vs : List Value) → values_in field ≡ Some vs → (field ≡ values_text vs) × (values_fit vs ≡ true)
values_told field vs h = listed_takes (codes "[") 93 (value_in 64) value_text value_fits field vs value_told h

pub values_closed : (vs : List Value) → values_fit vs ≡ true → Closed (values_text vs)
values_closed vs h = in_brackets_closed (joined 44 (map value_text vs)) (joined_inner (map value_text vs) (value_items vs h))

-- ---- texts in brackets

text_items : (texts : List (List ℕ)) → AllByRecursion IsItem (map quoted texts)
text_items [] = tt
text_items (t ∷ ts) = ((quoted_closed t, tt), text_items ts)

text_reads : (texts : List (List ℕ)) → texts_fit texts ≡ true → AllByRecursion (λ t. text_in (quoted t) ≡ Some t) texts
text_reads [] h = tt
text_reads (t ∷ ts) h = let both = and_parts (is_utf8 t) (texts_fit ts) h in (text_read t both.0, text_reads ts both.1)

pub texts_read : (texts : List (List ℕ)) → texts_fit texts ≡ true → texts_in (texts_text texts) ≡ Some texts
texts_read texts h = listed_again (codes "[") 93 text_in quoted texts (text_items texts) (text_reads texts h)

pub texts_told : (field : List ℕ) (texts : List (List ℕ)) → texts_in field ≡ Some texts → (field ≡ texts_text texts) × (texts_fit texts ≡ true)
texts_told field texts h = listed_takes (codes "[") 93 text_in quoted is_utf8 field texts text_told h

pub texts_closed : (texts : List (List ℕ)) → Closed (texts_text texts)
texts_closed texts = in_brackets_closed (joined 44 (map quoted texts)) (joined_inner (map quoted texts) (text_items texts))

-- ---- specs

source_not_package : (file rest : List ℕ) → source_kind_in (codes "package(" ++ file ++ codes "," ++ rest ++ codes ")") ≡ None
unfolding between
source_not_package file rest = refl

source_not_namespace : (rest : List ℕ) → source_kind_in (codes "namespace(" ++ rest ++ codes ")") ≡ None
unfolding between
source_not_namespace rest = refl

package_not_namespace : (rest : List ℕ) → package_kind_in (codes "namespace(" ++ rest ++ codes ")") ≡ None
unfolding between
package_not_namespace rest = refl

source_read : (file : List ℕ) → is_utf8 file ≡ true → source_kind_in (codes "file(" ++ quoted file ++ codes ")") ≡ Some (kinds.Source file)
source_read file h = ap (λ o. option_map kinds.Source (option_and_then text_in o)) (between_again (codes "file(") (quoted file) 41) ∙ ap (option_map kinds.Source) (text_read file h)

package_read : (file : List ℕ) (path : List (List ℕ)) → is_utf8 file ≡ true → texts_fit path ≡ true → package_kind_in (codes "package(" ++ quoted file ++ codes "," ++ texts_text path ++ codes ")") ≡ Some (kinds.Package file path)
package_read file path h k =
    ap (option_and_then package_of) (two_again (codes "package(") (quoted file) (texts_text path) (quoted_closed file) (texts_closed path))
    ∙ ap (option_and_then (λ f. option_map (λ p. kinds.Package f p) (texts_in (texts_text path)))) (text_read file h)
    ∙ ap (option_map (λ p. kinds.Package file p)) (texts_read path k)

namespace_read : (path : List (List ℕ)) → texts_fit path ≡ true → namespace_kind_in (codes "namespace(" ++ texts_text path ++ codes ")") ≡ Some (kinds.Namespace path)
namespace_read path k = ap (λ o. option_map kinds.Namespace (option_and_then texts_in o)) (between_again (codes "namespace(") (texts_text path) 41) ∙ ap (option_map kinds.Namespace) (texts_read path k)

pub spec_read : (kind : SpecKind) → spec_kind_fits kind ≡ true → spec_kind_in (spec_text kind) ≡ Some kind
unfolding spec_kind_in
spec_read kinds.Builtin h = cc
spec_read (kinds.Source file) h = ap (λ o. option_or o (option_or (package_kind_in (spec_text (kinds.Source file))) (namespace_kind_in (spec_text (kinds.Source file))))) (source_read file h)
spec_read (kinds.Package file path) h =
    let both = and_parts (is_utf8 file) (texts_fit path) h in
    let text = spec_text (kinds.Package file path) in
    ap (λ o. option_or o (option_or (package_kind_in text) (namespace_kind_in text))) (source_not_package (quoted file) (texts_text path))
    ∙ ap (λ o. option_or o (namespace_kind_in text)) (package_read file path both.0 both.1)
spec_read (kinds.Namespace path) h =
    let text = spec_text (kinds.Namespace path) in
    ap (λ o. option_or o (option_or (package_kind_in text) (namespace_kind_in text))) (source_not_namespace (texts_text path))
    ∙ ap (λ o. option_or o (namespace_kind_in text)) (package_not_namespace (texts_text path))
    ∙ namespace_read path h

abbrev Spelled : List ℕ → SpecKind → Type 0
Spelled field kind = (field ≡ spec_text kind) × (spec_kind_fits kind ≡ true)

source_told : (field : List ℕ) (kind : SpecKind) → source_kind_in field ≡ Some kind → Spelled field kind
source_told field kind h =
    mapped_some kinds.Source (option_and_then text_in (between (codes "file(") 41 field)) kind h (λ file held same.
    option_and_then_some text_in (between (codes "file(") 41 field) file held (λ inside is found.
    let t = text_told inside file found in
    subst (Spelled field) same (between_takes (codes "file(") 41 field inside is ∙ ap (λ x. codes "file(" ++ x ++ codes ")") t.0, t.1)))

package_told : (field : List ℕ) (kind : SpecKind) → package_kind_in field ≡ Some kind → Spelled field kind
package_told field kind h =
    option_and_then_some package_of (two_in (codes "package(") field) kind h (λ p parts held.
    option_and_then_some (λ file. option_map (λ path. kinds.Package file path) (texts_in p.1)) (text_in p.0) kind held (λ file is_file last.
    mapped_some (λ path. kinds.Package file path) (texts_in p.1) kind last (λ path is_path same.
    let t0 = text_told p.0 file is_file in
    let t1 = texts_told p.1 path is_path in
    let whole : field ≡ codes "package(" ++ quoted file ++ codes "," ++ texts_text path ++ codes ")" =
    two_takes (codes "package(") field p.0 p.1 parts ∙ (λ k. codes "package(" ++ t0.0 k ++ codes "," ++ t1.0 k ++ codes ")")
    in
    subst (Spelled field) same (whole, and_from _ _ t0.1 t1.1))))

namespace_told : (field : List ℕ) (kind : SpecKind) → namespace_kind_in field ≡ Some kind → Spelled field kind
namespace_told field kind h =
    mapped_some kinds.Namespace (option_and_then texts_in (between (codes "namespace(") 41 field)) kind h (λ path held same.
    option_and_then_some texts_in (between (codes "namespace(") 41 field) path held (λ inside is found.
    let t = texts_told inside path found in
    subst (Spelled field) same (between_takes (codes "namespace(") 41 field inside is ∙ ap (λ x. codes "namespace(" ++ x ++ codes ")") t.0, t.1)))

pub spec_told : (field : List ℕ) (kind : SpecKind) → spec_kind_in field ≡ Some kind → Spelled field kind
unfolding spec_kind_in
spec_told field kind h = elim (either (source_kind_in field) _ kind h) [
  | inl w ↦ source_told field kind w
  | inr w ↦ elim (either (package_kind_in field) _ kind w) [
    | inl x ↦ package_told field kind x
    | inr x ↦ namespace_told field kind x
  ]
]

two_closed : (word a b : List ℕ) → Closed word → Closed a → Closed b → Closed ((word ++ codes "(") ++ a ++ codes "," ++ b ++ codes ")")
two_closed word a b w ca cb =
    let inner : Inner (a ++ codes "," ++ b) = inner_both (a ++ codes ",") b (inner_both a (codes ",") (inner_closed a ca) inner_comma) (inner_closed b cb) in
    let regrouped : word ++ ((codes "(" ++ (a ++ codes "," ++ b)) ++ codes ")") ≡ (word ++ codes "(") ++ a ++ codes "," ++ b ++ codes ")" = simp append_assoc in
    subst Closed regrouped (closed_both word ((codes "(" ++ (a ++ codes "," ++ b)) ++ codes ")") w (in_parentheses_closed (a ++ codes "," ++ b) inner))

pub spec_closed : (kind : SpecKind) → Closed (spec_text kind)
spec_closed kinds.Builtin = ordinary_closed (codes "builtin") refl
spec_closed (kinds.Source file) = one_closed (codes "file") (quoted file) (ordinary_closed (codes "file") refl) (quoted_closed file)
spec_closed (kinds.Package file path) = two_closed (codes "package") (quoted file) (texts_text path) (ordinary_closed (codes "package") refl) (quoted_closed file) (texts_closed path)
spec_closed (kinds.Namespace path) = one_closed (codes "namespace") (texts_text path) (ordinary_closed (codes "namespace") refl) (texts_closed path)

-- ---- states of namespaces

pub state_read : (state : NsState) → state_fits state ≡ true → state_in (state_text state) ≡ Some state
unfolding state_in
state_read state h =
    let a = and_parts (values_fit state.parent_path) _ h in
    let b = and_parts (ltb state.epoch (2 ^ 64)) (texts_fit state.portions) a.1 in
    let small = ltb-true state.epoch (2 ^ 64) b.0 in
    ap (option_and_then state_of) (three_again (codes "ns(") (values_text state.parent_path) (decimal state.epoch) (texts_text state.portions) (values_closed state.parent_path a.0) (number_closed state.epoch small) (texts_closed state.portions))
    ∙ ap (option_and_then (λ parent. option_and_then (λ epoch. option_map (λ portions. record { parent_path = parent; epoch = epoch; portions = portions }) (texts_in (texts_text state.portions))) (number_in (decimal state.epoch)))) (values_read state.parent_path a.0)
    ∙ ap (option_and_then (λ epoch. option_map (λ portions. record { parent_path = state.parent_path; epoch = epoch; portions = portions }) (texts_in (texts_text state.portions)))) (number_again state.epoch small)
    ∙ ap (option_map (λ portions. record { parent_path = state.parent_path; epoch = state.epoch; portions = portions })) (texts_read state.portions b.1)

pub state_told : (field : List ℕ) (state : NsState) → state_in field ≡ Some state → (field ≡ state_text state) × (state_fits state ≡ true)
unfolding state_in
state_told field state h =
    option_and_then_some state_of (three_in (codes "ns(") field) state h (λ p parts held.
    option_and_then_some (λ parent. option_and_then (λ epoch. option_map (λ portions. record { parent_path = parent; epoch = epoch; portions = portions }) (texts_in p.2)) (number_in p.1)) (values_in p.0) state held (λ parent is_parent more.
    option_and_then_some (λ epoch. option_map (λ portions. record { parent_path = parent; epoch = epoch; portions = portions }) (texts_in p.2)) (number_in p.1) state more (λ epoch is_epoch last.
    mapped_some (λ portions. record { parent_path = parent; epoch = epoch; portions = portions }) (texts_in p.2) state last (λ portions is_portions same.
    let t0 = values_told p.0 parent is_parent in
    let t1 = number_takes p.1 epoch is_epoch in
    let t2 = texts_told p.2 portions is_portions in
    let whole : field ≡ codes "ns(" ++ values_text parent ++ codes "," ++ decimal epoch ++ codes "," ++ texts_text portions ++ codes ")" =
    three_takes (codes "ns(") field p.0 p.1 p.2 parts ∙ (λ k. codes "ns(" ++ t0.0 k ++ codes "," ++ t1.0 k ++ codes "," ++ t2.0 k ++ codes ")")
    in
    subst (λ s. (field ≡ state_text s) × (state_fits s ≡ true)) same (whole, and_from _ _ t0.1 (and_from _ _ (lt-ltb epoch (2 ^ 64) t1.1) t2.1))))))

pub state_closed : (state : NsState) → state_fits state ≡ true → Closed (state_text state)
state_closed state h =
    let a = and_parts (values_fit state.parent_path) _ h in
    let b = and_parts (ltb state.epoch (2 ^ 64)) (texts_fit state.portions) a.1 in
    called_closed (codes "ns") (values_text state.parent_path) (decimal state.epoch) (texts_text state.portions) (ordinary_closed (codes "ns") refl) (values_closed state.parent_path a.0) (number_closed state.epoch (ltb-true state.epoch (2 ^ 64) b.0)) (texts_closed state.portions)
