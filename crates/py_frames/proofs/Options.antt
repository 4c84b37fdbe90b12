-- Two optional values that are there and equal hold equal values.
use Rattle.std.proofs.Common.{◌≡◌, ap, Option, Some, None}

abbrev or_else : {X : Type 0} → Option X → X → X
or_else None x = x
or_else (Some y) x = y

pub some_same : {X : Type 0} {x y : X} → Some x ≡ Some y → x ≡ y
some_same {X} {x} {y} h = let is : or_else (Some x) x ≡ or_else (Some y) x = ap (λ o. or_else o x) h in is
