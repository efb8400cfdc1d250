use Rattle.std.proofs.Common.{ℕ, List, [], ◌∷◌, ◌++◌, ◌∙◌, ap, sym}
use Rattle.host_mem.specs.Drive.{Drive, scribbled}
use Rattle.host_mem.specs.Replay.{drive_seen}
use Rattle.host_mem.proofs.CrashLemmas.{scribbled_more}
use Rattle.host_mem.proofs.replay.scribble.Goals as goal

pub loop-at-preserved : goal.loop-at-preserved
loop-at-preserved c =
    let drive : Drive = drive_seen c.args.disk.now in
    c.in_ok-push.ensures.items ∙ ap (λ (s : List ℕ). s ++ c.scribbled_byte.result ∷ []) c.loop-at.invariant
    ∙ ap (λ (b : ℕ). scribbled drive c.loop-at.at ++ b ∷ []) c.scribbled_byte.ensures
    ∙ sym (scribbled_more drive c.loop-at.at)
