use Rattle.std.proofs.Common.{ap, length, min, take, ◌∙◌}
use Rattle.gds_lines.proofs.PartLemmas.{take-given_len}
use Rattle.gds_lines.proofs.scan.given_len.Goals as goal

pub returns-clause-given : goal.returns-clause-given
returns-clause-given c =
    ap (λ n. take n c.args.bytes.now) (c.min.ensures ∙ ap (λ l. min (length l) 1048577) c.without_return.ensures)
    ∙ take-given_len 1048577 c.args.bytes.now
