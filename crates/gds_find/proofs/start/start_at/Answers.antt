use Rattle.std.proofs.Common.{rules}
use Rattle.gds_search.specs.Place.{IsPlace}
use Rattle.gds_find.proofs.StartLemmas.{start_from}
use Rattle.gds_find.proofs.start.start_at.Goals as goal

pub returns : goal.returns
returns c height es is_key packed =
    let place : IsPlace es c.args.key.now c.in_ok-place.place = search rules in
    start_from es c.args.key.now c.in_ok-place.place place
