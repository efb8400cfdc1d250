use Rattle.std.proofs.Common.{◌≡◌, ◌∙◌, arith, rules, ap}
use Rattle.gds_header.specs.Fields.{zeros, header_bytes, fields_of}
use Rattle.gds_header.proofs.WritingLemmas.{written, fields_of-header_bytes, readable-header_bytes, zeros-replicate}
use Rattle.gds_header.specs.Kinds.{unreadable}
use Rattle.gds_header.proofs.header.Header.write.Goals as goal

filled : (c : goal.After-slice_known-12-1) → c.fill.new.self ≡ zeros 8192
filled c = zeros-replicate _ _ _ (c.fill.ensures.after (λ y same. same)) c.requires

as_bytes : goal.returns-clause-bytes
as_bytes c =
    written c.args.self.now _ _ _ _ _ _ _ _ _ _ _ (search rules) (filled c) c.put_bytes.ensures c.put_u32.ensures
    c.put_u32-2.ensures c.put_u32-3.ensures c.put_u32-4.ensures c.put_u32-5.ensures c.put_u32-6.ensures
    c.put_u32-7.ensures c.put_u64.ensures c.put_bytes-2.ensures

again : (c : goal.After-slice_known-12-1) → fields_of (header_bytes c.args.self.now) ≡ c.args.self.now
again c = fields_of-header_bytes c.args.self.now (record {
  block_size = omega arith;
  total = omega arith;
  free = omega arith;
  extension = omega arith;
  limit = omega arith;
  key_max = omega arith;
  value_max = omega arith;
  tn = omega arith;
  master = search rules;
})

pub returns-clause-bytes : goal.returns-clause-bytes
returns-clause-bytes = as_bytes

pub returns-clause-again : goal.returns-clause-again
returns-clause-again c = ap fields_of (as_bytes c) ∙ again c

pub returns-clause-readable : goal.returns-clause-readable
returns-clause-readable c limits = ap unreadable (as_bytes c) ∙ readable-header_bytes c.args.self.now (again c) limits
