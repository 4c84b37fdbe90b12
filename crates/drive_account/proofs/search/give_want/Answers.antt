use Rattle.std.proofs.Common.{refl, arith}
use Rattle.path_finder.specs.declared.words.LookWant.TheVariants as wanted
use Rattle.machine_shown.specs.Shown.{shown}
use Rattle.drive_account.proofs.Searching.{given_at, may_at}
use Rattle.drive_account.proofs.Staying.{stays_refl}
use Rattle.drive_account.proofs.search.give_want.Goals as goal

pub ask-requires-clause-runs : goal.ask-requires-clause-runs
ask-requires-clause-runs g c = may_at (shown (g.P.Port.view c.args.port.now).number (g.P.Port.view c.args.port.now).mine) c.args.want (wanted.DirGet c.in-DirGet.dir c.in-DirGet.part) c.in-DirGet.is c.requires.may

pub keep-requires-clause-runs : goal.keep-requires-clause-runs
keep-requires-clause-runs g c = may_at (shown (g.P.Port.view c.args.port.now).number (g.P.Port.view c.args.port.now).mine) c.args.want (wanted.DirSet c.in-DirSet.dir c.in-DirSet.listing) c.in-DirSet.is c.requires.may

pub returns-in-Pay : goal.returns-in-Pay
returns-in-Pay g c =
    let old = g.P.Port.view c.args.port.now in
    record {
      stays = stays_refl _;
      given = given_at old.number old.mine old.mine c.args.budget.now _ c.args.want (wanted.Pay c.in-Pay.tree) c.pay_unit.result c.in-Pay.is (c.pay_unit.ensures old.number old.mine);
      holds = λ held known. known;
      part = tt;
      refused = λ is. absurd (cc is);
    }

pub returns-in-DirGet : goal.returns-in-DirGet
returns-in-DirGet g c = rw c.in-DirGet.is c.ask.ensures

pub returns-in-DirSet : goal.returns-in-DirSet
returns-in-DirSet g c = rw c.in-DirSet.is c.keep.ensures

pub returns-in-Done : goal.returns-in-Done
returns-in-Done g c = rw c.in-Done.is (record {
  stays = stays_refl _;
  given = record {
    moves = λ files go k whole fuel a. a;
    safe = λ go k h. tt;
    fits = tt;
    counts = λ faults. refl;
    kept = omega arith;
  };
  holds = λ held known. known;
  part = tt;
  refused = λ is. absurd (cc is);
})
