use Rattle.gds_ancestors.proofs.ContentLemmas.{whole_items, whole_blocks, whole_has, whole_distinct}
use Rattle.gds_ancestors.proofs.laws.whole_content.Goals as goal

pub returns-clause-items : goal.returns-clause-items
returns-clause-items c = whole_items

pub returns-clause-blocks : goal.returns-clause-blocks
returns-clause-blocks c = whole_blocks

pub returns-clause-has : goal.returns-clause-has
returns-clause-has c = whole_has

pub returns-clause-distinct : goal.returns-clause-distinct
returns-clause-distinct c = whole_distinct
