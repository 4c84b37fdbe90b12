-- Names in sets, and the names that are local in a function.
use Rattle.std.proofs.Common.{◌≡◌, ◌∙◌, refl, sym, ap, ℕ, zero, suc, ◌+◌, ◌<◌, Bool, true, false, not, ◌&&◌, ◌||◌, if◌then◌else◌, nat_eq, List, [], ◌∷◌, ◌++◌, length, take, get_or}
use Rattle.std.proofs.lemmas.Bool.{false≢true}
use Rattle.std.specs.List.{list_any}
use Rattle.std.specs.Cmp.Lexicographic.{pointwise, nat_list_eq_equiv}
use Rattle.std.proofs.lemmas.List.{take_more}
use Rattle.std.proofs.Math.Bool.{or-true}
use Rattle.indexmap.specs.IndexSet.{insert_key}
use Rattle.py_syntax.specs.declared.stmt.FuncDef.{FuncDef}
use Rattle.py_syntax.specs.Statements.{is_among}
use Rattle.source_functions.specs.Binding.{Names, bound_names, is_local, LocalsKept}

pub any_is_among : (n : List ℕ) (ms : Names) → list_any (pointwise nat_eq n) ms ≡ is_among n ms
any_is_among n [] = refl
any_is_among n (m ∷ ms) = ap (λ (b : Bool). pointwise nat_eq n m || b) (any_is_among n ms)

or_assoc : (a b c : Bool) → a || (b || c) ≡ (a || b) || c
or_assoc true b c = refl
or_assoc false b c = refl

or_false : (b : Bool) → b || false ≡ b
or_false true = refl
or_false false = refl

among_push : (n k : List ℕ) (ms : Names) → is_among n (ms ++ k ∷ []) ≡ is_among n ms || pointwise nat_eq n k
among_push n k [] = or_false (pointwise nat_eq n k)
among_push n k (m ∷ ms) = ap (λ (b : Bool). pointwise nat_eq n m || b) (among_push n k ms) ∙ or_assoc (pointwise nat_eq n m) (is_among n ms) (pointwise nat_eq n k)

-- what equals one of the names is one of them
equal_among : (n k : List ℕ) (ms : Names) → pointwise nat_eq n k ≡ true → is_among n ms ≡ is_among k ms
equal_among n k [] e = refl
equal_among n k (m ∷ ms) e = ap (λ (b : Bool). b || is_among n ms) (nat_list_eq_equiv.congr n k m e) ∙ ap (λ (b : Bool). pointwise nat_eq k m || b) (equal_among n k ms e)

there_by : (n k : List ℕ) (ms : Names) → is_among k ms ≡ true → (b : Bool) → pointwise nat_eq n k ≡ b → is_among n ms ≡ is_among n ms || b
there_by n k ms h true e = equal_among n k ms e ∙ h ∙ sym (or-true (is_among n ms))
there_by n k ms h false e = sym (or_false (is_among n ms))

inserted_by : (n k : List ℕ) (ks : Names) (b : Bool) → is_among k ks ≡ b → is_among n (if b then ks else ks ++ k ∷ []) ≡ is_among n ks || pointwise nat_eq n k
inserted_by n k ks true h = there_by n k ks h (pointwise nat_eq n k) refl
inserted_by n k ks false h = among_push n k ks

inserted : (n k : List ℕ) (ks : Names) → is_among n (insert_key (pointwise nat_eq) ks k) ≡ is_among n ks || pointwise nat_eq n k
inserted n k ks = inserted_by n k ks (list_any (pointwise nat_eq k) ks) (sym (any_is_among k ks))

-- one more of the names was looked at
pub taken : (all : Names) (i : ℕ) (k n : List ℕ) → i < length all → k ≡ get_or all i k → is_among n (take i all) || pointwise nat_eq n k ≡ is_among n (take (i + 1) all)
taken all i k n below is = sym (among_push n k (take i all)) ∙ ap (λ (m : List ℕ). is_among n (take i all ++ m ∷ [])) is ∙ sym (ap (is_among n) (take_more all i k below))

-- one more of the names is put into the set
pub one_more : (all ks new : Names) (i : ℕ) (k n : List ℕ) → i < length all → k ≡ get_or all i k → new ≡ insert_key (pointwise nat_eq) ks k → is_among n ks ≡ is_among n (take i all) → is_among n new ≡ is_among n (take (i + 1) all)
one_more all ks new i k n below is put so = ap (is_among n) put ∙ inserted n k ks ∙ ap (λ (b : Bool). b || pointwise nat_eq n k) so ∙ taken all i k n below is

or_on : (a b c : Bool) → (b ≡ true → c ≡ true) → a || b ≡ true → a || c ≡ true
or_on true b c on h = refl
or_on false b c on h = on h

-- what is one of the first names is one of them
still_among : (n : List ℕ) (ms : Names) (j : ℕ) → is_among n (take j ms) ≡ true → is_among n ms ≡ true
still_among n [] zero h = h
still_among n [] (suc j) h = h
still_among n (m ∷ ms) zero h = absurd (false≢true h)
still_among n (m ∷ ms) (suc j) h = or_on (pointwise nat_eq n m) (is_among n (take j ms)) (is_among n ms) (still_among n ms j) h

-- the name that was looked at is the one that was sought, or none was so far
pub found_among : (all : Names) (i : ℕ) (k n : List ℕ) → i < length all → k ≡ get_or all i k → is_among n (take i all) ≡ false → pointwise nat_eq n k ≡ true → is_among n all ≡ true
found_among all i k n below is none same = still_among n all (i + 1) (sym (taken all i k n below is) ∙ ap (λ (b : Bool). b || pointwise nat_eq n k) none ∙ same)

pub none_so_far : (all : Names) (i : ℕ) (k n : List ℕ) → i < length all → k ≡ get_or all i k → is_among n (take i all) ≡ false → pointwise nat_eq n k ≡ false → is_among n (take (i + 1) all) ≡ false
none_so_far all i k n below is none other = sym (taken all i k n below is) ∙ ap (λ (b : Bool). b || pointwise nat_eq n k) none ∙ other

pub told_local : (f g : FuncDef) (n : List ℕ) (bound globals : Names) (b c : Bool) → LocalsKept f bound globals → f ≡ g → b ≡ is_among n bound → c ≡ is_among n globals → b && not c ≡ is_local g n
unfolding is_local
told_local f g n bound globals b c kept same bs cs =
    ap (λ (d : Bool). d && not c) (bs ∙ kept.binds n) ∙ ap (λ (d : Bool). is_among n (bound_names f) && not d) (cs ∙ kept.declares n)
    ∙ ap (λ (h : FuncDef). is_among n (bound_names h) && not (is_among n h.globals)) same
