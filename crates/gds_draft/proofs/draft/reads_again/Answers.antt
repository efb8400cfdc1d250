use Rattle.std.proofs.Common.{arith, rules}
use Rattle.gds_header.proofs.WritingLemmas.{fields_of-header_bytes}
use Rattle.gds_draft.proofs.draft.reads_again.Goals as goal

pub returns : goal.returns
returns c = fields_of-header_bytes c.args.header (record {
  block_size = omega arith;
  total = omega arith;
  free = omega arith;
  extension = omega arith;
  limit = omega arith;
  key_max = omega arith;
  value_max = omega arith;
  tn = omega arith;
  master = search rules;
})
