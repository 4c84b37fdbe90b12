-- What holds of a result that is an error.
use Rattle.std.proofs.Common.{Result, Ok, Err, OnErr}

pub on_err_then : {T E : Type 0} {P Q : Type 0} (r : Result T E) → OnErr r P → (P → Q) → OnErr r Q
on_err_then (Ok x) p f = tt
on_err_then (Err e) p f = f p
