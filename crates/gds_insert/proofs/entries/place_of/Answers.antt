use Rattle.std.proofs.Common.{sym, ◌∙◌}
use Rattle.gds_insert.proofs.EntryLemmas.{place_there}
use Rattle.gds_insert.proofs.entries.place_of.Goals as goal

pub returns-clause-front : goal.returns-clause-front
returns-clause-front c = λ front back is size.
    place_there c.args.entries.now c.args.offset front size back c.place_at.result is c.place_at.ensures.found
    c.place_at.ensures.none ∙ sym c.unwrap_or.ensures
