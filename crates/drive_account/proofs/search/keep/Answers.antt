use Rattle.std.proofs.Common.{◌≡◌, ◌++◌, ◌∷◌, [], Err, refl, ap}
use Rattle.machine_events.specs.declared.event.Event.TheVariants as e
use Rattle.meaning_runs.specs.Costs.{pay, texts_units}
use Rattle.path_finder.specs.declared.words.LookIn.TheVariants as given
use Rattle.meaning_script.specs.Searches.{searches_in}
use Rattle.machine_shown.specs.Shown.{shown}
use Rattle.drive_account.specs.declared.port.Halt.TheVariants.{Refused}
use Rattle.drive_account.proofs.Holding.{holds_made}
use Rattle.drive_account.proofs.Making.{at_made, in_at, refused_here}
use Rattle.drive_account.proofs.Searching.{safe_made, lists_made, owed_names}
use Rattle.drive_account.proofs.Staying.{stays_refl}
use Rattle.drive_account.proofs.search.keep.Goals as goal

pub call-requires-clause-knows : goal.call-requires-clause-knows
call-requires-clause-knows g c = rw c.in-Ok.ensures (c.requires.runs, tt)

pub returns-in-Ok-call : goal.returns-in-Ok-call
returns-in-Ok-call g c =
    let old = g.P.Port.view c.args.port.now in
    let new = g.P.Port.view c.call.new.self in
    let event = e.DirSet c.args.dir c.args.listing in
    let made : new.mine ≡ old.mine ++ (event, c.in-Ok-call.reply) ∷ [] = rw (← c.in-Ok.ensures) c.in-Ok-call.ensures.ok.mine in
    record {
      stays = c.call.ensures.stays;
      given = record {
        moves = λ files go k whole fuel a.
            c.kept.ensures.moves files go k whole fuel new.mine (owed_names c.texts_size-units.result _ _ c.texts_size-units.ensures (at_made old.mine new.mine c.args.budget.now event c.in-Ok-call.reply _ made a));
        safe = λ go k h. c.kept.ensures.safe (shown old.number new.mine) go k (safe_made old.number old.mine new.mine event c.in-Ok-call.reply (λ reply. pay (texts_units c.args.listing.names) (searches_in (go given.Kept) k)) made h);
        fits = c.kept.ensures.fits;
        counts = c.kept.ensures.counts;
        kept = lists_made old.mine new.mine event c.in-Ok-call.reply made;
      };
      holds = λ held known. holds_made old new c.in-Ok.event c.in-Ok-call.reply held held c.call.ensures.stays c.in-Ok-call.ensures.ok known (rw c.in-Ok.ensures refl);
      part = tt;
      refused = λ is. absurd (cc is);
    }

pub returns-in-Err : goal.returns-in-Err
returns-in-Err g c = record {
  stays = stays_refl _;
  given = tt;
  holds = tt;
  part = λ files go k whole fuel a. in_at (g.P.Port.view c.args.port.now).mine _ _ _ refl a;
  refused = λ is. absurd (cc is);
}

pub returns-in-Err-call : goal.returns-in-Err-call
returns-in-Err-call g c = record {
  stays = c.call.ensures.stays;
  given = tt;
  holds = tt;
  part = λ files go k whole fuel a. in_at (g.P.Port.view c.args.port.now).mine _ _ _ c.in-Err-call.ensures.err a;
  refused = λ is files go k whole fuel a.
      let same : c.in-Err-call.halt ≡ Refused = cc in
      refused_here (g.P.Port.view c.call.new.self) files whole fuel (g.P.Port.view c.args.port.now).mine c.args.budget.now (e.DirSet c.args.dir c.args.listing) _ (rw (← c.in-Ok.ensures) (c.in-Err-call.ensures.refused (ap Err same))) c.in-Err-call.ensures.err a;
}
