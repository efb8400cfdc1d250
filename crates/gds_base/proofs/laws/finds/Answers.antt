use Rattle.gds_base.proofs.FindsLemmas.{finds_one_of_two, finds_still, finds_stored, finds_the_same}
use Rattle.gds_base.proofs.laws.finds.Goals as goal

pub returns : goal.returns
returns g c =
    let h = g.H.Host in
    let old = c.args.old.now in
    let new = c.args.new.now in
    record {
      still = finds_still h.moment h.left_since old new;
      one_of_two = finds_one_of_two h.moment h.left_since old new;
      the_same = finds_the_same h.moment h.left_since old new;
      stored = finds_stored h.moment h.left_since old new;
    }
