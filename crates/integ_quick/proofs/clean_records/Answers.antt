use Rattle.std.proofs.Common.{◌∙◌, ap, take, drop}
use Rattle.std.proofs.lemmas.List.{take_rest}
use Rattle.integ_quick.proofs.clean_records.Goals as goal

pub returns-then-used-bytes-clause-records : goal.returns-then-used-bytes-clause-records
returns-then-used-bytes-clause-records c =
    take_rest (take c.u32_at-used.result c.args.bytes.now) 16
    ∙ ap (λ n. drop 16 (take n c.args.bytes.now)) c.u32_at-used.ensures
