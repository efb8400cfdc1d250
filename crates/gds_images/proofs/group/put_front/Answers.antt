use Rattle.std.proofs.Common.{◌-◌, ◌++◌, length, take, drop, sym, arith}
use Rattle.gds_images.proofs.BufferLemmas.{first_front, later_front}
use Rattle.gds_images.proofs.group.put_front.Goals as goal

pub returns-then-gate-eq-FIRST_GATE-clause-front : goal.returns-then-gate-eq-FIRST_GATE-clause-front
returns-then-gate-eq-FIRST_GATE-clause-front c =
    let same = c.args.buffer.now.ok.0 in
    let len = c.len.ensures in
    (first_front c.args.buffer.now.items c.deref_mut.result.now c.put_u64.new.out
    c.deref_mut-then-gate-eq-FIRST_GATE.result.now c.put_u64-then-gate-eq-FIRST_GATE.new.out
    (take c.args.buffer.now.len (c.put_u64.new.out ++ drop (length c.put_u64.new.out) c.args.buffer.now.items))
    c.args.buffer.now.len (c.len.result - 16 - 1) c.args.epoch_length c.args.gate (sym same) c.requires (omega arith)
    c.if-gate-eq-FIRST_GATE.true c.deref_mut.ensures.value c.put_u64.ensures
    c.deref_mut-then-gate-eq-FIRST_GATE.ensures.value c.put_u64-then-gate-eq-FIRST_GATE.ensures).0

pub returns-then-gate-eq-FIRST_GATE-clause-kept : goal.returns-then-gate-eq-FIRST_GATE-clause-kept
returns-then-gate-eq-FIRST_GATE-clause-kept c =
    let same = c.args.buffer.now.ok.0 in
    let len = c.len.ensures in
    (first_front c.args.buffer.now.items c.deref_mut.result.now c.put_u64.new.out
    c.deref_mut-then-gate-eq-FIRST_GATE.result.now c.put_u64-then-gate-eq-FIRST_GATE.new.out
    (take c.args.buffer.now.len (c.put_u64.new.out ++ drop (length c.put_u64.new.out) c.args.buffer.now.items))
    c.args.buffer.now.len (c.len.result - 16 - 1) c.args.epoch_length c.args.gate (sym same) c.requires (omega arith)
    c.if-gate-eq-FIRST_GATE.true c.deref_mut.ensures.value c.put_u64.ensures
    c.deref_mut-then-gate-eq-FIRST_GATE.ensures.value c.put_u64-then-gate-eq-FIRST_GATE.ensures).1

pub returns-clause-front : goal.returns-clause-front
returns-clause-front c =
    let same = c.args.buffer.now.ok.0 in
    let len = c.len.ensures in
    (later_front c.args.buffer.now.items c.deref_mut-2.result.now c.put_u64-2.new.out c.args.buffer.now.len
    (c.len.result - 16 - 1) c.args.epoch_length c.args.gate (sym same) c.requires (omega arith)
    c.if-gate-eq-FIRST_GATE.false c.deref_mut-2.ensures.value c.put_u64-2.ensures).0

pub returns-clause-kept : goal.returns-clause-kept
returns-clause-kept c =
    let same = c.args.buffer.now.ok.0 in
    let len = c.len.ensures in
    (later_front c.args.buffer.now.items c.deref_mut-2.result.now c.put_u64-2.new.out c.args.buffer.now.len
    (c.len.result - 16 - 1) c.args.epoch_length c.args.gate (sym same) c.requires (omega arith)
    c.if-gate-eq-FIRST_GATE.false c.deref_mut-2.ensures.value c.put_u64-2.ensures).1
