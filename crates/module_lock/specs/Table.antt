-- The locks and the waits as two finite maps, and what each call does to them.
use Rattle.std.specs.Prelude.{ℕ, ◌+◌, ◌-◌, ◌==◌, nat_le, Bool, true, false, List, Option, Some, None, zero, suc, if◌then◌else◌, option_and_then, map, filter, nat_eq}
use Rattle.std.specs.Option.{option_map}
use Rattle.std.specs.Ordering.{nat_cmp}
use Rattle.std.specs.Cmp.Lexicographic.{slice_cmp, pointwise}
use Rattle.std.specs.FinMap.{FinMap, get, insert, remove, len, values, entries}
use Rattle.std.specs.List.{list_any}
use Rattle.module_lock.specs.declared.locks.Lock.{Lock}
use Rattle.module_lock.specs.declared.locks.Took.{Took}
use Rattle.module_lock.specs.declared.locks.Took.TheVariants.{Got, Waits, Closes}

-- who owns each lock how often, and who waits for which (`_ModuleLock` and `_blocking_on` of `importlib._bootstrap`)
pub record Table : Type 0 where
  pub locks : FinMap (slice_cmp nat_cmp) Lock
  pub waits : FinMap nat_cmp (List ℕ)

-- a lock is in the map only while somebody owns it
abbrev pub lock_of : Table → List ℕ → Option Lock
lock_of s n = get s.locks n

-- the thread that owns the lock, of which there is at most one
abbrev pub owner_of : Table → List ℕ → Option ℕ
owner_of s n = option_map (λ lock. lock.owner) (lock_of s n)

-- the owner of the lock that a thread waits for
abbrev pub next : Table → ℕ → Option ℕ
next s u = option_and_then (owner_of s) (get s.waits u)

-- whether the owners that follow one another lead to t, after at most so many more look-ups
abbrev pub leads_to : Table → ℕ → ℕ → Option ℕ → Bool
leads_to s t n None = false
leads_to s t zero (Some u) = u == t
leads_to s t (suc n) (Some u) = if u == t then true else leads_to s t n (next s u)

-- whether waiting for n would close a cycle
unfoldable pub closes : Table → ℕ → List ℕ → Bool
closes s t n = leads_to s t (len s.waits) (owner_of s n)

-- a lock is free for t where nobody or t owns it
abbrev pub is_free_for : ℕ → Option Lock → Bool
is_free_for t None = true
is_free_for t (Some lock) = lock.owner == t

-- the same, of the lock of this name
abbrev pub is_free : Table → ℕ → List ℕ → Bool
is_free s t n = is_free_for t (lock_of s n)

-- a lock that nobody owns is free for t, but not owned by it
abbrev pub owns_by : ℕ → Option Lock → Bool
owns_by t None = false
owns_by t (Some lock) = lock.owner == t

-- t owns the lock of this name
abbrev pub owns : Table → ℕ → List ℕ → Bool
owns s t n = owns_by t (lock_of s n)

-- how often a lock is taken: one that nobody owns, not once
abbrev pub taken_count : Option Lock → ℕ
taken_count None = 0
taken_count (Some lock) = lock.count

-- t owns lock n, once more than before
abbrev pub got : Table → ℕ → List ℕ → Table
got s t n = record s { locks = insert s.locks n (record { owner = t; count = taken_count (lock_of s n) + 1 }) }

-- t waits for lock n, and for no other
abbrev pub waiting : Table → ℕ → List ℕ → Table
waiting s t n = record s { waits = insert s.waits t n }

-- t waits for no lock
abbrev pub woken : Table → ℕ → Table
woken s t = record s { waits = remove s.waits t }

-- the count of a lock of t falls by one, and at 0 nobody owns it
abbrev pub lowered : FinMap (slice_cmp nat_cmp) Lock → ℕ → List ℕ → Option Lock → FinMap (slice_cmp nat_cmp) Lock
lowered locks t n None = locks
lowered locks t n (Some lock) =
    if lock.owner == t
    then (if nat_le lock.count 1 then remove locks n else insert locks n (record { owner = lock.owner; count = lock.count - 1 }))
    else locks

-- t gives lock n back once (`_ModuleLock.release` of `importlib._bootstrap`); a lock of another stays as it is
abbrev pub given : Table → ℕ → List ℕ → Table
given s t n = record s { locks = lowered s.locks t n (lock_of s n) }

-- t owns a lock
abbrev pub holds : Table → ℕ → Bool
holds s t = list_any (λ lock. lock.owner == t) (values s.locks)

-- a lock is taken where it is free, and else waited for, unless that would close a cycle (`_ModuleLock.acquire`)
abbrev pub took_of : Table → ℕ → List ℕ → Took
took_of s t n = if is_free s t n then Got else (if closes s t n then Closes else Waits)

-- what that makes of the table: where it would close a cycle, nothing changes
abbrev pub after_take : Table → ℕ → List ℕ → Table
after_take s t n = if is_free s t n then got s t n else (if closes s t n then s else waiting s t n)

-- nobody else owns the lock that is awaited
abbrev pub can_wake_for : Table → ℕ → Option (List ℕ) → Bool
can_wake_for s t None = false
can_wake_for s t (Some n) = is_free s t n

-- t may wake where the lock that it waits for is free for it; who waits for nothing cannot
abbrev pub can_wake : Table → ℕ → Bool
can_wake s t = can_wake_for s t (get s.waits t)

-- the threads whose awaited name is n, ascending as the keys of the map are
abbrev pub waiters_in : List (ℕ × List ℕ) → List ℕ → List ℕ
waiters_in waits n = map (λ e. e.0) (filter (λ e. pointwise nat_eq e.1 n) waits)

-- all threads that wait for this lock, ascending
abbrev pub waiters : Table → List ℕ → List ℕ
waiters s n = waiters_in (entries s.waits) n
