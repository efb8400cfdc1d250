use Rattle.std.proofs.Common.{◌≡◌, length, arith, map}
use Rattle.std.proofs.lemmas.Bool.{iff_false}
use Rattle.std.proofs.lemmas.List.{length-map}
use Rattle.m_key.specs.Reference.{node_subscript_of}
use Rattle.m_key.proofs.ReadingLemmas.{left, none_ended, none_past_31, none_read}
use Rattle.m_key.proofs.reading.read_all.Goals as goal

pub returns-in_default-clause-none : goal.returns-in_default-clause-none
returns-in_default-clause-none c ss few all e =
    none_ended _ _ _ (left c.loop-rest.items.items ss c.loop-rest.rest.now c.args.bytes.now c.loop-rest.invariant.read
    all e) c.in_default.ensures.none

pub returns-then-len-eq-SUBSCRIPT_LIMIT-clause-none : goal.returns-then-len-eq-SUBSCRIPT_LIMIT-clause-none
returns-then-len-eq-SUBSCRIPT_LIMIT-clause-none c ss few all e =
    let items = c.loop-rest.items.items in
    let full : length (map node_subscript_of items) ≡ 31 =
    omega (
      arith,
      length-map items node_subscript_of,
      c.len.ensures,
      c.if-len-eq-SUBSCRIPT_LIMIT.true,
      c.loop-rest.items.ok.0,
    ) in
    none_past_31 _ _ _ (left items ss c.loop-rest.rest.now c.args.bytes.now c.loop-rest.invariant.read all e)
    (iff_false c.is_end.ensures c.loop-rest-test.true) full few

pub returns-in_default-2-clause-none : goal.returns-in_default-2-clause-none
returns-in_default-2-clause-none c ss few all e =
    none_read _ _ _ c.in-Some.part.now c.in-Some.more.now
    (left c.loop-rest.items.items ss c.loop-rest.rest.now c.args.bytes.now c.loop-rest.invariant.read all e)
    (iff_false c.is_end.ensures c.loop-rest-test.true) c.in-Some.ensures.some c.in-Some.ensures.first
    (rw c.in_default-2.is at c.in_ok-subscript.ensures.none)
