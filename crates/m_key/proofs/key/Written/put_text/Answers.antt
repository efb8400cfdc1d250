use Rattle.m_key.specs.Key.{escaped}
use Rattle.m_key.proofs.FillLemmas.{appends_none, appends_more, flat_map_take}
use Rattle.m_key.proofs.key.Written.put_text.Goals as goal

pub loop-byte-init : goal.loop-byte-init
loop-byte-init c = appends_none c.args.self.now

pub loop-byte-preserved : goal.loop-byte-preserved
loop-byte-preserved c =
    appends_more _ _ _ _ _ _ c.loop-byte.invariant c.put_escaped.ensures
    (flat_map_take escaped c.args.text.now c.loop-byte.byte-index 0 c.loop-byte-test.true)
