use Rattle.gds_header.specs.Fields.{fields_of}
use Rattle.gds_tree.proofs.KeepLemmas.{same_limits, lawful_kept}
use Rattle.gds_tree.proofs.entry_laws.other_header.Goals as goal

pub returns : goal.returns
returns c = λ old new v level es a b sizes more l.
    lawful_kept (fields_of old) (fields_of new) v level es (same_limits old new a b sizes) more l
