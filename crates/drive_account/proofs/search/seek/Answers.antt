use Rattle.std.proofs.Common.{refl, sym, subst}
use Rattle.path_finder.specs.Steps.{Search}
use Rattle.machine_shown.specs.Shown.{shown}
use Rattle.drive_account.specs.Searching.{IsSafe}
use Rattle.drive_account.proofs.Asking.{asked_refl}
use Rattle.drive_account.proofs.Making.{in_at}
use Rattle.drive_account.proofs.Staying.{stays_refl}
use Rattle.drive_account.proofs.search.seek.Goals as goal

pub returns-in_default : goal.returns-in_default
returns-in_default g c = record {
  stays = stays_refl _;
  searched = tt;
  kept = tt;
  holds = tt;
  part = λ k whole fuel a. in_at (g.P.Port.view c.args.port.now).mine _ _ _ refl a;
  refused = λ is. absurd (cc is);
  asked = asked_refl _ _;
}

pub search-over-requires-clause-safe : goal.search-over-requires-clause-safe
search-over-requires-clause-safe g c = subst (λ (it : Search). IsSafe (shown (g.P.Port.view c.args.port.now).number (g.P.Port.view c.args.port.now).mine) it) (sym c.in-Ok.ensures.means) c.requires.safe

pub returns : goal.returns
returns g c = rw (← c.in-Ok.ensures.means) c.search-over.ensures
