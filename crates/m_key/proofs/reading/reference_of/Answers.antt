use Rattle.std.proofs.Common.{subst, map}
use Rattle.std.proofs.lemmas.Bool.{false≢true}
use Rattle.m_key.specs.Node.{IsName}
use Rattle.m_key.specs.Reference.{name_bytes, node_subscript_of, subscript_list}
use Rattle.m_key.proofs.ReadingLemmas.{name_front, key_made}
use Rattle.m_key.proofs.reading.reference_of.Goals as goal

pub returns-in_default-of-clause-none : goal.returns-in_default-of-clause-none
returns-in_default-of-clause-none c n p e =
    let f = name_front n c.args.key.now c.in-Some.name.now c.in-Some.rest.now p e c.in-Some.ensures.some
    c.in-Some.ensures.first in
    false≢true (c.in_default-of.ensures.variant.1 (subst IsName f.0 p.name))

pub returns-in-Some-2-clause-some : goal.returns-in-Some-2-clause-some
returns-in-Some-2-clause-some c =
    key_made (name_bytes c.in-Some-of.name) c.in-Some.name.now
    (map node_subscript_of (subscript_list c.in-Some-2.subscripts)) c.args.key.now c.in-Some.rest.now
    c.in-Some.ensures.some c.in-Some-of.ensures.value
    (rw c.in-Some-2.is at c.in_ok-subscripts.ensures.some)

pub returns-in-None-clause-none : goal.returns-in-None-clause-none
returns-in-None-clause-none c n p e =
    let f = name_front n c.args.key.now c.in-Some.name.now c.in-Some.rest.now p e c.in-Some.ensures.some
    c.in-Some.ensures.first in
    (rw c.in-None.is at c.in_ok-subscripts.ensures.none) n.subscripts p.count p.subscripts f.1
