use Rattle.std.proofs.Common.{◌+◌, ◌≤◌, length, take, None, Some, subst, arith}
use Rattle.integ_block.specs.Entry.{seen}
use Rattle.integ_block.specs.BlockReading.{reading}
use Rattle.integ_block.proofs.EntryLemmas.{kinds_of-long, kinds_of-end}
use Rattle.integ_block.proofs.KeyEndLemmas.{Says, IsKeyPart-found, key_end-none, too_long, not_too_long, without_end}
use Rattle.integ_block.proofs.record.Record.key_part.Goals as goal
use Rattle.integ_block.proofs.record.Record.key_part.Goals.{In-None, In-None-2}

pub returns-in-Some-clause-ok : goal.returns-in-Some-clause-ok
returns-in-Some-clause-ok c =
    let s = seen c.args.self.now in
    let b = reading c.args.self.now.reading in
    let n = c.in-Some.len in
    IsKeyPart-found b s c.requires.count c.requires.fronts n
    (subst (λ xs. Says b s xs (Some n)) c.as_slice.ensures.value c.in-Some.ensures.key)
    c.in-Some.ensures.within
    (subst (λ xs. length (take s.record_.count xs) + n ≤ b.header.key_max) c.as_slice.ensures.value
    c.in-Some.ensures.short)

pub returns-in-None-clause-err : goal.returns-in-None-clause-err
returns-in-None-clause-err c =
    let s = seen c.args.self.now in
    let b = reading c.args.self.now.reading in
    let says = subst (λ xs. Says b s xs None) c.as_slice.ensures.value c.in-None.ensures.key in
    kinds_of-long b s c.requires.not_last c.requires.count.first_count c.requires.count.later_count
    (too_long b s c.requires.count c.requires.fronts (key_end-none b s c.requires.count c.requires.fronts says)
    (omega arith))

pub returns-in-None-2-clause-err : goal.returns-in-None-2-clause-err
returns-in-None-2-clause-err c =
    let s = seen c.args.self.now in
    let b = reading c.args.self.now.reading in
    let says = subst (λ xs. Says b s xs None) c.as_slice.ensures.value c.in-None-2.ensures.key in
    kinds_of-end b s c.requires.not_last c.requires.count.first_count c.requires.count.later_count
    (not_too_long b s c.requires.count c.requires.fronts (omega arith))
    (without_end b s c.requires.count c.requires.fronts (key_end-none b s c.requires.count c.requires.fronts says)
    (omega arith))
