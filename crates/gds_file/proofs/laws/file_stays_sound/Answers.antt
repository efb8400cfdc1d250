use Rattle.gds_file.proofs.FileLemmas.{no_tree_changes, global_changes, directory_changes, entry_comes, entry_goes}
use Rattle.gds_file.proofs.laws.file_stays_sound.Goals as goal

pub returns-clause-growing : goal.returns-clause-growing
returns-clause-growing c = no_tree_changes

pub returns-clause-global : goal.returns-clause-global
returns-clause-global c = global_changes

pub returns-clause-directory : goal.returns-clause-directory
returns-clause-directory c = directory_changes

pub returns-clause-comes : goal.returns-clause-comes
returns-clause-comes c = entry_comes

pub returns-clause-goes : goal.returns-clause-goes
returns-clause-goes c = entry_goes
