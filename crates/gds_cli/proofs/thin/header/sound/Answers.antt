use Rattle.std.proofs.Common.{sym, ◌∙◌}
use Rattle.gds_cli.proofs.SoundHeaderLemmas as header
use Rattle.gds_cli.proofs.thin.header.sound.Goals as goal

pub returns-in-Ok-clause-some : goal.returns-in-Ok-clause-some
returns-in-Ok-clause-some c d begins long =
    header.sound_header c.in-Ok.header d c.args.bytes.now c.args.size begins long c.in-Ok.ensures.fields
    (c.in-Ok.ensures.file_ok d begins) c.in-Ok.ensures.limits (sym c.is_faultless.ensures ∙ c.if-is_faultless.true)

pub returns-in-Ok-2-clause-none : goal.returns-in-Ok-2-clause-none
returns-in-Ok-2-clause-none c d begins long none =
    header.not_sound c.in-Ok.header d c.args.bytes.now c.args.size begins long c.in-Ok.ensures.fields
    (c.in-Ok.ensures.file_ok d begins) (sym c.is_faultless.ensures ∙ c.if-is_faultless.false) none

pub returns-in-Err-clause-none : goal.returns-in-Err-clause-none
returns-in-Err-clause-none c d begins long none = header.no_ending d _ (c.in-Err.ensures.file_err d begins) none
