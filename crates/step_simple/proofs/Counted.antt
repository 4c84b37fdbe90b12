-- Lists of exactly so many values.
use Rattle.std.proofs.Common.{◌≡◌, sym, ap, List, [], ◌∷◌, Option, Some, None}
use Rattle.py_value.specs.declared.value.Value.{Value}
use Rattle.meaning_script.specs.Pieces.{Piece, with_two, with_three}
use Rattle.py_frames.specs.Few.{pair, triple}

abbrev by_pair : (Value → Value → Piece) → Piece → Option (Value × Value) → Piece
by_pair go other None = other
by_pair go other (Some p) = go p.0 p.1

pub pair_is : (vs : List Value) (a b : Value) (go : Value → Value → Piece) → pair vs ≡ Some (a, b) → go a b ≡ with_two vs go
pair_is [] a b go h = cc
pair_is (x ∷ []) a b go h = cc
pair_is (x ∷ y ∷ []) a b go h = sym (ap (by_pair go (go a b)) h)
pair_is (x ∷ y ∷ z ∷ vs) a b go h = cc

abbrev by_triple : (Value → Value → Value → Piece) → Piece → Option (Value × Value × Value) → Piece
by_triple go other None = other
by_triple go other (Some p) = go p.0 p.1 p.2

pub triple_is : (vs : List Value) (a b c : Value) (go : Value → Value → Value → Piece) → triple vs ≡ Some (a, b, c) → go a b c ≡ with_three vs go
triple_is [] a b c go h = cc
triple_is (x ∷ []) a b c go h = cc
triple_is (x ∷ y ∷ []) a b c go h = cc
triple_is (x ∷ y ∷ z ∷ []) a b c go h = sym (ap (by_triple go (go a b c)) h)
triple_is (x ∷ y ∷ z ∷ u ∷ vs) a b c go h = cc
