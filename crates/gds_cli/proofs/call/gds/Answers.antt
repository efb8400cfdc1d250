use Rattle.std.proofs.Common.{◌∙◌}
use Rattle.gds_cli.proofs.call.gds.Goals as goal

pub returns-clause-one_map : goal.returns-clause-one_map
returns-clause-one_map g c is done = c.answer-status.ensures.one_map (c.read_words.ensures.command ∙ is) done
