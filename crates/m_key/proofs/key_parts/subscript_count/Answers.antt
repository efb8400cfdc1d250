use Rattle.std.proofs.Common.{length, ap, inl, arith}
use Rattle.m_key.proofs.KeyPartLemmas.{count_bound}
use Rattle.m_key.proofs.key_parts.subscript_count.Goals as goal

pub count-requires-clause-fits : goal.count-requires-clause-fits
count-requires-clause-fits c = inl (omega (arith, ap length c.subscript_parts.ensures, count_bound c.args.key.now))
