use Rattle.std.proofs.Common.{refl, ap, map}
use Rattle.m_key.specs.Reference.{node_subscript_of, node_of}
use Rattle.m_key.proofs.FillLemmas.{key_written}
use Rattle.m_key.proofs.key.Written.of.Goals as goal

pub returns-clause-front : goal.returns-clause-front
returns-clause-front c =
    (key_written _ _ _ _ _ (node_of c.args.reference.now) _ _ c.new.ensures refl c.bytes.ensures
    (ap (map node_subscript_of) c.as_slice.ensures.items)
    c.put_all.ensures c.put.ensures c.put_subscripts.ensures c.put-2.ensures).0

pub returns-clause-len : goal.returns-clause-len
returns-clause-len c =
    (key_written _ _ _ _ _ (node_of c.args.reference.now) _ _ c.new.ensures refl c.bytes.ensures
    (ap (map node_subscript_of) c.as_slice.ensures.items)
    c.put_all.ensures c.put.ensures c.put_subscripts.ensures c.put-2.ensures).1
