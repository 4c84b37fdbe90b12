-- Who waits for which name: a queue for each name that is waited for.
use Rattle.std.specs.Prelude.{◌≡◌, ℕ, ◌==◌, not, List, [], length, Option, Some, None, filter, if◌then◌else◌}
use Rattle.std.specs.Option.{unwrap_or}
use Rattle.std.specs.Ordering.{nat_cmp}
use Rattle.std.specs.Cmp.Lexicographic.{slice_cmp}
use Rattle.std.specs.FinMap.{FinMap, get, insert, remove, entries}
use Rattle.module_lock.specs.Table.{waiters_in}

-- a name without a queue has nobody in it
abbrev pub queue_of : FinMap (slice_cmp nat_cmp) (List ℕ) → List ℕ → List ℕ
queue_of queues n = unwrap_or (get queues n) []

-- the others keep their order
abbrev pub without : ℕ → List ℕ → List ℕ
without t threads = filter (λ u. not (u == t)) threads

-- the thread leaves the queue that was found; a name without one stays without
abbrev pub shortened_by : FinMap (slice_cmp nat_cmp) (List ℕ) → List ℕ → ℕ → Option (List ℕ) → FinMap (slice_cmp nat_cmp) (List ℕ)
shortened_by queues n t None = queues
shortened_by queues n t (Some threads) = insert queues n (without t threads)

-- the thread stands in the queue of the name no longer
abbrev pub shortened : FinMap (slice_cmp nat_cmp) (List ℕ) → List ℕ → ℕ → FinMap (slice_cmp nat_cmp) (List ℕ)
shortened queues n t = shortened_by queues n t (get queues n)

-- an empty queue is taken away
abbrev pub tidied : FinMap (slice_cmp nat_cmp) (List ℕ) → List ℕ → FinMap (slice_cmp nat_cmp) (List ℕ)
tidied queues n = if length (queue_of queues n) == 0 then remove queues n else queues

-- the queue of each name holds the threads that wait for it, ascending
pub record AreQueued (queues : FinMap (slice_cmp nat_cmp) (List ℕ)) (waits : FinMap nat_cmp (List ℕ)) : Type 0 where
  pub each : (n : List ℕ) → queue_of queues n ≡ waiters_in (entries waits) n
