use Rattle.gds_tree.proofs.SplitLemmas.{split_root}
use Rattle.gds_tree.proofs.change_laws.split_root.Goals as goal

pub returns : goal.returns
returns c = λ old new v level a m f b t p q i j sizes more has h kept now key first last.
    split_root old new v level a m f b t i j sizes more has h kept p q key now first last
