use Rattle.std.proofs.Common.{◌<◌, ◌∙◌, length, arith, ap, sym}
use Rattle.host_mem.specs.Entries.{step_of}
use Rattle.host_mem.specs.History.{State, apply}
use Rattle.host_mem.specs.Replay.{state_seen}
use Rattle.host_mem.proofs.ReplayLemmas.{replayed_more}
use Rattle.host_mem.proofs.replay.replay.Goals as goal

pub loop-entry-preserved : goal.loop-entry-preserved
loop-entry-preserved c =
    let lt : c.loop-entry.entry-index < length c.args.entries.now = omega arith in
    c.in_ok-step.ensures ∙ ap (λ (s : State). apply (step_of c.entry-item.result) s) c.loop-entry.invariant
    ∙ sym (replayed_more (state_seen c.args.disks.now) c.args.entries.now c.loop-entry.entry-index
    c.entry-item.result lt c.entry-item.is)
