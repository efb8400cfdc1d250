use Rattle.integ_block.proofs.KeyLemmas.{is_text_of}
use Rattle.integ_block.proofs.key.is_text.Goals as goal

pub returns : goal.returns
returns c = is_text_of c.is_escaped_text.result c.args.bytes.now c.is_escaped_text.ensures
