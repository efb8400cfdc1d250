use Rattle.std.proofs.Common.{◌≤◌, ◌∙◌, arith, length, take_all}
use Rattle.m_key.specs.Key.{key_bytes}
use Rattle.m_key.specs.Reference.{node_of}
use Rattle.m_key.proofs.keys.key_of.Goals as goal

pub returns-clause-ok : goal.returns-clause-ok
returns-clause-ok c =
    let bytes = key_bytes (node_of c.args.reference.now) in
    let fits : length bytes ≤ 255 = omega (arith, c.of-written.ensures.len, c.if-written-gt255.false) in
    c.of-written.ensures.front ∙ take_all 255 bytes fits
