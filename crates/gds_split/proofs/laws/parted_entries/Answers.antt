use Rattle.std.proofs.Common.{sym, subst, append_assoc, suc}
use Rattle.gds_tree.specs.Lawful.{IsLawful}
use Rattle.gds_split.specs.Pieces.{pieces_above}
use Rattle.gds_split.proofs.AboveLemmas.{parted, last_key, above_count}
use Rattle.gds_split.proofs.laws.parted_entries.Goals as goal

pub returns-clause-lawful : goal.returns-clause-lawful
returns-clause-lawful c = λ h v w level a e b es pieces limits l at below g.
    subst (IsLawful h v (suc level)) (sym (append_assoc a (pieces_above level pieces e.key) b))
    (parted h v level e b limits w a es pieces l at below g).lawful

pub returns-clause-last : goal.returns-clause-last
returns-clause-last c = last_key

pub returns-clause-count : goal.returns-clause-count
returns-clause-count c = above_count
