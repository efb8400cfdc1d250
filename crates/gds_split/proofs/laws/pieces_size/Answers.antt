use Rattle.std.proofs.Common.{arith, ap, append_assoc}
use Rattle.gds_pack.specs.Packed.{packed_size}
use Rattle.gds_split.specs.Pieces.{pieces_above}
use Rattle.gds_split.proofs.AboveLemmas.{parted}
use Rattle.gds_split.proofs.SizeLemmas.{few_between, few_entries}
use Rattle.gds_split.proofs.laws.pieces_size.Goals as goal

pub returns-clause-above : goal.returns-clause-above
returns-clause-above c = λ h v w level a e b es pieces limits l at below g.
    omega (
      arith,
      (parted h v level e b limits w a es pieces l at below g).size,
      ap packed_size (append_assoc a (pieces_above level pieces e.key) b),
    )

pub returns-clause-between : goal.returns-clause-between
returns-clause-between c = few_between

pub returns-clause-alone : goal.returns-clause-alone
returns-clause-alone c = few_entries
