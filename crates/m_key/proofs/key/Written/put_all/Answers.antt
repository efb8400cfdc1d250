use Rattle.std.proofs.lemmas.List.{take_more}
use Rattle.m_key.proofs.FillLemmas.{appends_none, appends_more}
use Rattle.m_key.proofs.key.Written.put_all.Goals as goal

pub loop-byte-init : goal.loop-byte-init
loop-byte-init c = appends_none c.args.self.now

pub loop-byte-preserved : goal.loop-byte-preserved
loop-byte-preserved c =
    appends_more _ _ _ _ _ _ c.loop-byte.invariant c.put.ensures
    (take_more c.args.bytes.now c.loop-byte.byte-index 0 c.loop-byte-test.true)
