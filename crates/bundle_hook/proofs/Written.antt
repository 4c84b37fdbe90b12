-- What is written is what is spelled.
use Rattle.std.proofs.Common.{◌≡◌, ◌∙◌, sym, ap, subst, ℕ, ◌≤◌, List, [], ◌∷◌, ◌++◌, length, Some, None, append-nil, append_assoc}
use Rattle.std.specs.Prelude.{◌↔◌}
use Rattle.std.specs.Fmt.{decimal}
use Rattle.base_types.specs.Path.{joined}
use Rattle.bundle_hook.specs.declared.entry.Entry.{Entry}
use Rattle.bundle_hook.specs.Spelling.{most_front, line_of, front_of}
use Rattle.bundle_hook.specs.Bundle.{CanBegin, AreEntries}
use Rattle.bundle_hook.specs.Reading.{front_in}
use Rattle.bundle_hook.proofs.Fronts.{Front, front_found, front_taken, same_entries, not_both}

-- one line from its pieces
pub line_is : (out number path : List ℕ) (e : Entry) → number ≡ decimal e.size → path ≡ joined e.path → (((out ++ number) ++ 32 ∷ []) ++ path) ++ 10 ∷ [] ≡ out ++ (line_of e ++ 10 ∷ [])
line_is out number path e n p =
    append_assoc ((out ++ number) ++ 32 ∷ []) path (10 ∷ []) ∙ append_assoc (out ++ number) (32 ∷ []) (path ++ 10 ∷ []) ∙ append_assoc out number (32 ∷ (path ++ 10 ∷ []))
    ∙ ap (λ t. out ++ (t ++ 32 ∷ (path ++ 10 ∷ []))) n ∙ ap (λ t. out ++ (decimal e.size ++ 32 ∷ (t ++ 10 ∷ []))) p
    ∙ ap (λ t. out ++ t) (sym (append_assoc (decimal e.size) (32 ∷ joined e.path) (10 ∷ [])))

-- a front is read again exactly where a bundle can begin with it

found_again : (es : List Entry) (front : List ℕ) → front ≡ front_of es → AreEntries es → front_in front ≡ Some (es, 0)
found_again es front is are = ap front_in (is ∙ sym (append-nil (front_of es))) ∙ front_found es [] are

pub same_again : (es again : List Entry) (left : ℕ) (front : List ℕ) → front ≡ front_of es → length front ≤ most_front → Some (again, left) ≡ front_in front → (again ≡ es) ↔ CanBegin es
same_again es again left front is low read = (there, back)
  where
    there : again ≡ es → CanBegin es
    there same =
        let t : Front front again left = front_taken front again left (sym read) in
        (subst AreEntries same t.are, subst (λ t. length t ≤ most_front) is low)

    back : CanBegin es → again ≡ es
    back can = same_entries (front_in front) again es left 0 (sym read) (found_again es front is can.0)

pub not_again : (es : List Entry) (front : List ℕ) → front ≡ front_of es → None ≡ front_in front → CanBegin es → ⊥
not_again es front is read can = not_both (front_in front) (es, 0) (sym read) (found_again es front is can.0)
