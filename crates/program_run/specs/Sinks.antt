-- What a call leaves in its two sinks, and its status.
use Rattle.std.specs.Prelude.{◌≡◌, ◌≤◌, ℕ, List, Option}
use Rattle.tree_files.specs.Files.{Files}
use Rattle.tree_files.specs.Count.{Rose}
use Rattle.tree_files.specs.declared.tree.Tree.{Ghosts as TreeMeanings}
use Rattle.tree_files.specs.declared.sink.Sink.{Ghosts as SinkMeanings}
use Rattle.machine_desk.specs.Outgo.{Outgo, Appends, AppendsPart}
use Rattle.machine_desk.specs.declared.outlet.Flow.{Flow}
use Rattle.machine_desk.specs.declared.outlet.Flow.TheVariants.{Open, Failed, Short}
use Rattle.program_run.specs.Statuses.{want_of_memory}

-- a sink at one moment: the bytes that it has got, where it tells them, and its count of faults
pub record At : Type 0 where
  pub written : Option (List ℕ)
  pub faults : ℕ

-- a sink at this moment, by what is told of its bytes and by its count of faults
abbrev pub at : {K : Type 0} → SinkMeanings K → K → At
at meanings sink = record { written = meanings.written sink; faults = meanings.faults sink }

-- the sink that an outlet was lent
abbrev pub outgo_at : Outgo → At
outgo_at outgo = record { written = outgo.written; faults = outgo.faults }

-- what a call works on, at one moment: the files that the tree tells,
-- its count of failed calls and that of its lists, and both sinks
pub record Moment : Type 0 where
  pub files : Option Files
  pub faults : ℕ
  pub lists : ℕ
  pub out : At
  pub err : At

-- a tree and both sinks at this moment: the tree by what is told of its files and by its two counts
abbrev pub moment : {T O K : Type 0} → TreeMeanings T → SinkMeanings O → SinkMeanings K → T → O → K → Moment
moment meanings of_out of_err tree out err = record {
  files = meanings.files tree;
  faults = meanings.faults tree;
  lists = meanings.lists tree;
  out = at of_out out;
  err = at of_err err;
}

-- from one moment to a later one the files are as they were, and no
-- count of faults has fallen, neither the tree's nor one of a sink
pub record Passes (old new : Moment) : Type 0 where
  pub files : new.files ≡ old.files
  pub tree_faults : old.faults ≤ new.faults
  pub out_faults : old.out.faults ≤ new.out.faults
  pub err_faults : old.err.faults ≤ new.err.faults

-- between these moments no call of the tree failed, and nothing has changed
pub record IsSince (first now : Moment) : Type 0 where
  pub files : now.files ≡ first.files
  pub faults : now.faults ≡ first.faults
  pub lists : now.lists ≡ first.lists
  pub out : now.out ≡ first.out
  pub err : now.err ≡ first.err

-- between these moments memory was wanted before a history was begun: nothing was written, and no folder was listed. A
-- call of the tree that wants memory may count that among the failed ones, and a count of lists that stands past the
-- greatest u64 may be cut to that
pub record IsShort (old new : Moment) : Type 0 where
  pub faults : old.faults ≤ new.faults
  pub lists : new.lists ≤ old.lists
  pub out : new.out ≡ old.out
  pub err : new.err ≡ old.err

-- a sink was to get a text. It has got the whole of it; or a write failed, which it has counted, and it has got a
-- beginning; or memory was wanting, and it has got a beginning. It has counted nothing but a write that failed
abbrev pub Gets : At → List ℕ → At → Flow → Type 0
Gets old text new Open = Appends old.written new.written text × (new.faults ≡ old.faults)
Gets old text new Failed = AppendsPart old.written new.written text × Rose old.faults new.faults
Gets old text new Short = AppendsPart old.written new.written text × (new.faults ≡ old.faults)

-- the status, by what became of both sinks: `good` where both have all, `bad` where one failed, or want of memory
abbrev pub status_by : ℕ → ℕ → Flow → Flow → ℕ
status_by good bad Short err = want_of_memory
status_by good bad Open Short = want_of_memory
status_by good bad Failed Short = want_of_memory
status_by good bad Open Open = good
status_by good bad Open Failed = bad
status_by good bad Failed Open = bad
status_by good bad Failed Failed = bad

-- what stands in both sinks after a call that was to write these texts, and its status, by what became of both
pub record Leaves (by : Flow → Flow → ℕ) (out err : List ℕ) (old new : Moment) (status : ℕ) : Type 0 where
  pub out_flow : Flow
  pub err_flow : Flow
  pub out_gets : Gets old.out out new.out out_flow
  pub err_gets : Gets old.err err new.err err_flow
  pub is : status ≡ by out_flow err_flow
