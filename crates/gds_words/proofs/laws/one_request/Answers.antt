use Rattle.gds_words.proofs.ScriptLemmas.{one_request_lem}
use Rattle.gds_words.proofs.laws.one_request.Goals as goal

pub returns : goal.returns
returns c =
    one_request_lem c.one_reference.ensures c.one_value.ensures c.one_null_reference.ensures.one
    c.one_null_reference.ensures.apart
