use Rattle.std.proofs.Common.{string_bytes, ◌∙◌, rules, tests}
use Rattle.std.proofs.lemmas.Iterator.{YieldsList-from_slice}
use Rattle.std.proofs.lemmas.Iterator.Search.{any_from_yields_List}
use Rattle.gds_words.specs.Create.{gives}
use Rattle.gds_words.proofs.CreateLemmas.{any-map}
use Rattle.gds_words.proofs.create.is_among.Goals as goal

pub returns : goal.returns
returns c =
    any_from_yields_List (λ s. gives c.args.qualifier (string_bytes s)) _ _ c.any.result c.any.ensures.ran
    (YieldsList-from_slice c.args.words.now cc) (λ x b q k. search (rules, tests))
    ∙ any-map (gives c.args.qualifier) string_bytes c.args.words.now
