-- PathGet, PathAdd, DirGet, DirSet, Invalidate, NsGet and NsSet: what is kept for the search.
use Rattle.std.specs.Prelude.{ℕ, ℤ, codes, List, ◌++◌, Option, Some, None, length, slice_get, nat_lt, ◌+◌, if◌then◌else◌}
use Rattle.std.specs.FinMap.{get, insert, empty}
use Rattle.module_table.specs.Names.{has_part}
use Rattle.base_types.specs.declared.path.Listing.{Listing}
use Rattle.py_value.specs.declared.value.NsState.{NsState}
use Rattle.py_value.specs.declared.value.Value.{Value}
use Rattle.machine_events.specs.declared.event.Reply.{Reply}
use Rattle.machine_events.specs.declared.event.Reply.TheVariants as replies
use Rattle.module_table.specs.Tables.{with_ns, path_added}
use Rattle.module_table.specs.declared.module.Object.{Object}
use Rattle.machine_spec.specs.declared.state.State.{State}

-- `sys.path` is read, and nothing changes
abbrev pub path_get : State → Reply × State
path_get s = (replies.Path s.table.path, s)

-- a path of 4,096 items takes no more
abbrev pub path_add : State → Option ℤ → Value → Reply × State
path_add s at v = (
  (if nat_lt (length s.table.path) 4096 then replies.Done else replies.Full),
  record s { table = path_added s.table at v },
)

-- the time of the listing, whether the part is in it, and whether the part with `.py` is
abbrev pub listing_reply : List ℕ → Option Listing → Reply
listing_reply part None = replies.NoListing
listing_reply part (Some l) = replies.Listing l.time (has_part l.names part) (has_part l.names (part ++ codes ".py"))

-- what the kept listing tells of one part of the directory; nothing is listed here, and nothing changes
abbrev pub dir_get : State → List (List ℕ) → List ℕ → Reply × State
dir_get s dir part = (listing_reply part (get s.listings dir), s)

-- the listing takes the place of the one that was kept of the directory
abbrev pub dir_set : State → List (List ℕ) → Listing → Reply × State
dir_set s dir listing = (replies.Done, record s { listings = insert s.listings dir listing })

-- the epoch rises, and all listings are dropped
abbrev pub invalidate : State → Reply × State
invalidate s = (replies.Done, record s { table = record s.table { epoch = s.table.epoch + 1 }; listings = empty })

-- the state goes with the epoch of the machine, by which an older one is known; what is no namespace has none
abbrev pub ns_of : Option NsState → ℕ → Reply
ns_of None epoch = replies.Done
ns_of (Some state) epoch = replies.Ns state epoch

-- the same, of a module
abbrev pub ns_reply : Option Object → ℕ → Reply
ns_reply None epoch = replies.Done
ns_reply (Some o) epoch = ns_of o.ns epoch

-- what is kept of a namespace's search is read, and nothing changes
abbrev pub ns_get : State → ℕ → Reply × State
ns_get s mid = (ns_reply (slice_get s.table.objects mid) s.table.epoch, s)

-- what was found of a namespace now takes the place of what was kept (PEP 420, "Dynamic path computation")
abbrev pub ns_set : State → ℕ → NsState → Reply × State
ns_set s mid state = (replies.Done, record s { table = with_ns s.table mid state })
