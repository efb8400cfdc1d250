use Rattle.std.proofs.Common.{◌<◌, ◌∙◌, arith}
use Rattle.std.proofs.lemmas.Result.{err_from_is_err_and}
use Rattle.gds_cli.proofs.BlockLemmas.{child_within, leads}
use Rattle.gds_cli.proofs.thin.blocks.read_below.Goals as goal

pub returns-in_err-read_block-2-clause-changed : goal.returns-in_err-read_block-2-clause-changed
returns-in_err-read_block-2-clause-changed g c =
    let star = c.in-Some.ensures in
    let below : c.in-Some.child < c.args.header.now.total =
    omega (arith, star.1, child_within c.args.header.now c.read_block.new.block star.0) in
    let p =
    err_from_is_err_and c.from_residual-in_err-read_block-2.result c.from_residual-in_err-read_block-2.ensures.1 in
    rw (p.1, p.2)
    (λ is x tells head within. c.in_err-read_block-2.ensures.changed is x
    (c.in_ok-read_block.ensures.host.read.told ∙ tells) head below)

pub returns-clause-some : goal.returns-clause-some
returns-clause-some g c x tells head within =
    let star = c.in-Some.ensures in
    let below : c.in-Some.child < c.args.header.now.total =
    omega (arith, star.1, child_within c.args.header.now c.read_block.new.block star.0) in
    leads c.args.header.now x.db c.args.number c.in-Some.child c.read_block.new.block c.read_block-2.new.block
    (c.in_ok-read_block.ensures.bytes x tells head within) star.0 star.1
    (c.in_ok-read_block-2.ensures.bytes x (c.in_ok-read_block.ensures.host.read.told ∙ tells) head below)
