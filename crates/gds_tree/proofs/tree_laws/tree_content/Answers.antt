use Rattle.std.proofs.lemmas.List.Elements.{All-from_recursion}
use Rattle.gds_header.specs.Fields.{fields_of}
use Rattle.gds_tree.specs.Lawful.{IsTreeNumber}
use Rattle.gds_tree.proofs.PartLemmas.{numbered}
use Rattle.gds_tree.proofs.ItemLemmas.{lawful_items}
use Rattle.gds_tree.proofs.tree_laws.tree_content.Goals as goal

pub returns-clause-blocks : goal.returns-clause-blocks
returns-clause-blocks c = λ image v level t i n h.
    All-from_recursion (IsTreeNumber (fields_of image).total) t.blocks (numbered image i level v t n h)

pub returns-clause-items : goal.returns-clause-items
returns-clause-items c = λ image v level t i low h. lawful_items image i v level t low h
