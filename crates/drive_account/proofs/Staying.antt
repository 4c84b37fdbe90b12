-- What stays over calls of a port, over none and over two.
use Rattle.std.proofs.Common.{refl, ◌∙◌}
use Rattle.drive_account.specs.View.{View, Stays}

pub stays_refl : {S : Type 0} (a : View S) → Stays a a
stays_refl a = record { number = refl; ready = λ r. r; later = λ s l. l }

pub stays_trans : {S : Type 0} (a b c : View S) → Stays a b → Stays b c → Stays a c
stays_trans a b c p q = record { number = q.number ∙ p.number; ready = λ r. q.ready (p.ready r); later = λ s l. p.later s (q.later s l) }
