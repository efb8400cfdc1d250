use Rattle.gds_words.proofs.ScriptLemmas.{form_written}
use Rattle.gds_words.proofs.laws.written_request.Goals as goal

pub returns : goal.returns
returns c = λ request right len. record {
  len = len;
  form = form_written c.written_reference.ensures c.written_value.ensures c.written_null_reference.ensures request
      right;
}
