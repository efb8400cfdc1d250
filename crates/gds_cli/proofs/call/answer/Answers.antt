use Rattle.std.proofs.Common.{◌≡◌, Ok, Err}
use Rattle.gds_words.specs.declared.words.Command.TheVariants.{Version}
use Rattle.gds_cli.specs.Answer.{bad_words, version}
use Rattle.gds_cli.proofs.DueLemmas.{goes_reply}
use Rattle.gds_cli.proofs.EndsLemmas.{all_left, create_ends, create_leaves, extract_ends, header_limits}
use Rattle.gds_cli.proofs.EndsLemmas.{known_leaves, quietly}
use Rattle.gds_cli.proofs.RunLemmas.{run_ends, run_leaves}
use Rattle.gds_cli.proofs.call.answer.Goals as goal

pub returns-in-Ok-Run-clause-host : goal.returns-in-Ok-Run-clause-host
returns-in-Ok-Run-clause-host g c text given =
    run_ends c.args.command (cc) (g.I.Source.left c.args.input) text given _ _ c.run.result.0 c.run.ensures.host

pub returns-in-Ok-Run-clause-crash : goal.returns-in-Ok-Run-clause-crash
returns-in-Ok-Run-clause-crash g c text given =
    run_leaves c.args.command (cc) (g.I.Source.left c.args.input) text given _ _ _ (g.H.Host.told c.args.host)
    c.run.ensures.crash

pub returns-in-Ok-Version-clause-host : goal.returns-in-Ok-Version-clause-host
returns-in-Ok-Version-clause-host g c text given =
    quietly _ _ c.args.command (Ok Version) (λ x r. r ≡ version) c.say-status.result (cc) (λ i b a e. e)
    (goes_reply _ _ version c.say-status.result c.say-status.ensures.host.told) text

pub returns-in-Ok-Version-clause-crash : goal.returns-in-Ok-Version-clause-crash
returns-in-Ok-Version-clause-crash g c text given x tells =
    known_leaves _ _ _ _ _ c.args.command (Ok Version) text x (cc) c.say-status.ensures.any_moment

pub returns-in-Ok-Extract-clause-host : goal.returns-in-Ok-Extract-clause-host
returns-in-Ok-Extract-clause-host g c text given =
    extract_ends _ _ c.args.command c.in-Ok-Extract.stamp c.deref.result.now c.extract-status.result (cc) (cc)
    c.extract-status.ensures.host.told text

pub create-status-requires : goal.create-status-requires
create-status-requires g c =
    let made = c.in-Ok-Create in
    header_limits c.args.command made.block made.key made.value made.total made.ext made.limit (cc)
    c.header_with-header.result c.header_with-header.ensures c.requires

pub returns-in-Ok-Create-clause-host : goal.returns-in-Ok-Create-clause-host
returns-in-Ok-Create-clause-host g c text given =
    let made = c.in-Ok-Create in
    create_ends c.args.command made.block made.key made.value made.total made.ext made.limit (cc)
    c.header_with-header.result c.header_with-header.ensures _ _ c.create-status.result
    c.create-status.ensures.host.told text

pub returns-in-Ok-Create-clause-crash : goal.returns-in-Ok-Create-clause-crash
returns-in-Ok-Create-clause-crash g c text given =
    let made = c.in-Ok-Create in
    create_leaves c.args.command made.block made.key made.value made.total made.ext made.limit (cc)
    c.header_with-header.result c.header_with-header.ensures _ _ _ (g.H.Host.told c.args.host) text
    c.create-status.ensures.crash

pub returns-in-Ok-Create-clause-rest : goal.returns-in-Ok-Create-clause-rest
returns-in-Ok-Create-clause-rest g c = all_left (g.I.Source.left c.args.input)

pub returns-in-Err-clause-host : goal.returns-in-Err-clause-host
returns-in-Err-clause-host g c text given =
    let place = c.in-Err.field-0.place in
    quietly _ _ c.args.command (Err (record { place = place })) (λ x r. r ≡ bad_words place)
    c.say_number-status.result (cc) (λ i b a e. e)
    (goes_reply _ _ (bad_words place) c.say_number-status.result c.say_number-status.ensures.host.told) text

pub returns-in-Err-clause-crash : goal.returns-in-Err-clause-crash
returns-in-Err-clause-crash g c text given x tells =
    let place = c.in-Err.field-0.place in
    known_leaves _ _ _ _ _ c.args.command (Err (record { place = place })) text x (cc)
    c.say_number-status.ensures.any_moment
