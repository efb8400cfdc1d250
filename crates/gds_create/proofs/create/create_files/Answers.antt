use Rattle.std.proofs.Common.{◌∙◌}
use Rattle.host_model.proofs.ChainLemmas.{come_then}
use Rattle.gds_create.proofs.MakingLemmas.{unwritten_come}
use Rattle.gds_create.proofs.create.create_files.Goals as goal

pub returns-in_err-are_empty-clause-any_moment : goal.returns-in_err-are_empty-clause-any_moment
returns-in_err-are_empty-clause-any_moment g c x tells each =
    let laws = g.met.H.Host in
    unwritten_come laws.longer c.args.header.now x c.are_empty.ensures.unwritten each
    (λ y left. laws.said_stays c.args.host.now x y tells left)

pub returns-then-not-branch-clause-any_moment : goal.returns-then-not-branch-clause-any_moment
returns-then-not-branch-clause-any_moment g c x tells each =
    let laws = g.met.H.Host in
    unwritten_come laws.longer c.args.header.now x c.are_empty.ensures.unwritten each
    (λ y left. laws.said_stays c.args.host.now x y tells left)

pub returns-in_err-room-clause-any_moment : goal.returns-in_err-room-clause-any_moment
returns-in_err-room-clause-any_moment g c x tells each =
    let laws = g.met.H.Host in
    unwritten_come laws.longer c.args.header.now x c.are_empty.ensures.unwritten each
    (λ y left. laws.said_stays c.args.host.now x y tells left)

pub returns-in_err-make_files-clause-any_moment : goal.returns-in_err-make_files-clause-any_moment
returns-in_err-make_files-clause-any_moment g c x tells each =
    let laws = g.met.H.Host in
    let unwritten = c.are_empty.ensures.unwritten in
    come_then (unwritten_come laws.longer c.args.header.now x unwritten each
    (λ y left. laws.said_stays c.args.host.now x y tells left))
    (c.make_files.ensures.any_moment x (unwritten.told ∙ tells) (λ y left. each y (unwritten.crash.stays y left)))

pub returns-clause-any_moment : goal.returns-clause-any_moment
returns-clause-any_moment g c x tells each =
    let laws = g.met.H.Host in
    let unwritten = c.are_empty.ensures.unwritten in
    come_then (unwritten_come laws.longer c.args.header.now x unwritten each
    (λ y left. laws.said_stays c.args.host.now x y tells left))
    (c.make_files.ensures.any_moment x (unwritten.told ∙ tells) (λ y left. each y (unwritten.crash.stays y left)))
