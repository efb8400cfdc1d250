use Rattle.integ_block.proofs.KeyLemmas.{is_number_of}
use Rattle.integ_block.proofs.key.is_number.Goals as goal

pub returns : goal.returns
returns c = is_number_of c.is_encoded.result c.args.bytes.now c.is_encoded.ensures
