use Rattle.std.proofs.Common.{arith, refl}
use Rattle.std.proofs.lemmas.Bool.{false≢true}
use Rattle.gds_splice.proofs.PackableLemmas.{not_whole, whole_if}
use Rattle.gds_remove.proofs.in_place.is_whole.Goals as goal

pub returns-in_default : goal.returns-in_default
returns-in_default c = (
  λ e. absurd (false≢true e),
  λ k. absurd (not_whole c.args.key.now c.end_within.result (omega arith) (c.end_within.ensures.key refl)
      c.in_default.is k),
)

pub returns : goal.returns
returns c =
    whole_if c.args.key.now c.end_within.result c.in-Some.len (omega arith) (c.end_within.ensures.key refl) c.in-Some.is
