use Rattle.gds_tree.proofs.SplitLemmas.{split_block}
use Rattle.gds_tree.proofs.change_laws.split_block.Goals as goal

pub returns : goal.returns
returns c = λ old new v level a m f b t left right i j sizes more has h kept parts first last.
    split_block old new v level a m f b t i j sizes more has h kept left right parts first last
