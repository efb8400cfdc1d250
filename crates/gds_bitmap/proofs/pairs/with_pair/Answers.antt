use Rattle.std.proofs.Common.{arith, refl, ◌∙◌}
use Rattle.std.proofs.lemmas.Bool.{eq-eqb, ne_eqb}
use Rattle.gds_bitmap.proofs.PairLemmas.{pair_in-replaced}
use Rattle.gds_bitmap.proofs.pairs.with_pair.Goals as goal

pub returns-clause-set : goal.returns-clause-set
returns-clause-set c =
    let place = c.args.place in
    pair_in-replaced place c.args.pair c.args.byte place c.requires.placed c.requires.in_range (omega arith)
    c.requires.placed
    ∙ rw (eq-eqb place place refl) refl

pub returns-clause-others : goal.returns-clause-others
returns-clause-others c = λ j within other.
    pair_in-replaced c.args.place c.args.pair c.args.byte j c.requires.placed c.requires.in_range (omega arith) within
    ∙ rw (ne_eqb j c.args.place other) refl
