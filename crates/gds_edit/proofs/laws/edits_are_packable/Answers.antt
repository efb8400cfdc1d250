use Rattle.gds_edit.proofs.PackableLemmas.{ArePackable-with, ArePackable-without, ArePackable-more}
use Rattle.gds_edit.proofs.laws.edits_are_packable.Goals as goal

pub returns-clause-inserted : goal.returns-clause-inserted
returns-clause-inserted c =
    λ height es a b key rest place h spot unequal is_key four.
    ArePackable-more key rest is_key height es a b place h spot unequal four

pub returns-clause-replaced : goal.returns-clause-replaced
returns-clause-replaced c = ArePackable-with

pub returns-clause-removed : goal.returns-clause-removed
returns-clause-removed c = ArePackable-without
