use Rattle.std.proofs.Common.{◌≡◌, [], take, Ok, Err, ◌∙◌}
use Rattle.std.specs.Option.{ForSome}
use Rattle.std.proofs.lemmas.Result.{IfOk-weaker, MatchResult-weaker}
use Rattle.gds_images.specs.Chain.{chain_of}
use Rattle.gds_images.specs.Reading.{read_on}
use Rattle.gds_images.proofs.ReadingLemmas.{OnlyRead-then, cause_then, only_read, start_closed, start_opened}
use Rattle.gds_images.proofs.reading.read_chain.Goals as goal

pub returns-in_default-clause-chain : goal.returns-in_default-clause-chain
returns-in_default-clause-chain g c =
    start_closed (g.H.Host.told c.args.host.now) (g.H.Host.told c.len.new.self) c.args.db_length
    (take c.in_ok-count.count c.read_front.new.out) c.in_ok-file_length.ensures.kept.told c.in_ok-count.ensures.bytes
    c.in_ok-start.field-0 c.in_ok-start.ensures.start c.new-places.result c.in_default.is c.new-places.ensures

pub returns-clause-chain : goal.returns-clause-chain
returns-clause-chain g c =
    let told = g.H.Host.told in
    let start = c.in-Some.start in
    let opened = start_opened (told c.args.host.now) (told c.len.new.self) c.args.db_length
    (take c.in_ok-count.count c.read_front.new.out) c.in_ok-file_length.ensures.kept.told c.in_ok-count.ensures.bytes
    c.in_ok-start.field-0 c.in_ok-start.ensures.start start c.in-Some.is in
    IfOk-weaker c.read_groups.result
    (λ chain. ForSome (told c.read_front.new.host)
    (λ x. read_on x.images start.epoch_length [] 25 start.size ≡ Ok chain))
    (λ chain. ForSome (told c.args.host.now) (λ x. chain_of x.images c.args.db_length ≡ Ok chain))
    (λ chain ok x tells. opened x tells
    ∙ ok x (c.in_ok-count.ensures.host.read.told ∙ c.in_ok-file_length.ensures.kept.told ∙ tells))
    c.read_groups.ensures.chain

pub returns-clause-cause : goal.returns-clause-cause
returns-clause-cause g c =
    let h = g.H.Host in
    let start = c.in-Some.start in
    let opened = start_opened (h.told c.args.host.now) (h.told c.len.new.self) c.args.db_length
    (take c.in_ok-count.count c.read_front.new.out) c.in_ok-file_length.ensures.kept.told c.in_ok-count.ensures.bytes
    c.in_ok-start.field-0 c.in_ok-start.ensures.start start c.in-Some.is in
    let read = OnlyRead-then h.told h.moment h.failures h.left_since c.args.host.now c.len.new.self
    c.read_front.new.host
    (only_read h.told h.moment h.failures h.left_since c.args.host.now c.len.new.self
    (g.met.H.Host.longer c.args.host.now) c.in_ok-file_length.ensures.kept)
    c.in_ok-count.ensures.host in
    MatchResult-weaker c.read_groups.result c.read_groups.ensures.cause (λ chain ok. ok)
    (λ error cause. cause_then h.told h.moment h.failures h.left_since c.args.host.now c.read_front.new.host
    c.read_groups.new.host error
    (λ x at. read_on x.images start.epoch_length [] 25 start.size ≡ Err at)
    (λ x at. chain_of x.images c.args.db_length ≡ Err at) read
    (λ x at tells bad. opened x tells ∙ bad) cause)
