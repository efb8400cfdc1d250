use Rattle.std.proofs.Common.{take, sym, ap, subst, ◌∙◌, arith}
use Rattle.std.proofs.lemmas.Option.{same_Some}
use Rattle.host_model.specs.declared.host.FileNo.TheVariants.{Db}
use Rattle.host_model.specs.Disk.{Changes, Cut}
use Rattle.host_model.specs.Files.{Contents, with_file}
use Rattle.gds_recovery.specs.Found.{IsOpened}
use Rattle.gds_recovery.proofs.StayLemmas.{stable_changed, stays_by, stays_none}
use Rattle.gds_recovery.proofs.TrimLemmas.{trim_found, trim_opened, trimmed_already, whole_opened}
use Rattle.gds_recovery.proofs.trimming.trim_to.Goals as goal

pub returns-in_err-cut_to-clause-stays : goal.returns-in_err-cut_to-clause-stays
returns-in_err-cut_to-clause-stays g c =
    let l = g.met.H.Host in
    let n = c.file_length-length.result in
    stays_by {contents = g.H.Host.told} l.longer l.now_left (Changes Db (Cut n)) c.requires.stable
    c.cut_to.ensures.changed
    (λ x d tells step.
    trim_found c.args.header.now x (c.requires.closed x tells) (c.requires.readable x tells) d
    (subst (λ k. Changes Db (Cut k) x d) c.file_length-length.ensures step))

pub returns-in_ok-cut_to-clause-stays : goal.returns-in_ok-cut_to-clause-stays
returns-in_ok-cut_to-clause-stays g c =
    let l = g.met.H.Host in
    let n = c.file_length-length.result in
    stays_by {contents = g.H.Host.told} l.longer l.now_left (Changes Db (Cut n)) c.requires.stable
    c.cut_to.ensures.changed
    (λ x d tells step.
    trim_found c.args.header.now x (c.requires.closed x tells) (c.requires.readable x tells) d
    (subst (λ k. Changes Db (Cut k) x d) c.file_length-length.ensures step))

pub returns-in_ok-cut_to-clause-opened : goal.returns-in_ok-cut_to-clause-opened
returns-in_ok-cut_to-clause-opened g c x tells y now =
    let cut = same_Some (with_file Db (take c.file_length-length.result x.db) x) y
    (sym (c.in_ok-cut_to.ensures.is_cut x tells) ∙ now) in
    let same = ap (λ k. with_file Db (take k x.db) x) c.file_length-length.ensures in
    subst (λ (z : Contents). IsOpened x c.args.header.now z) (sym same ∙ cut)
    (trim_opened c.args.header.now x (c.requires.closed x tells) (c.requires.readable x tells))

pub returns-in_ok-cut_to-clause-stable : goal.returns-in_ok-cut_to-clause-stable
returns-in_ok-cut_to-clause-stable g c =
    let l = g.met.H.Host in
    let n = c.file_length-length.result in
    stable_changed {contents = g.H.Host.told} l.longer l.now_left Db (Cut n) (λ x. take n x.db) c.requires.stable
    c.in_ok-cut_to.ensures.changed c.in_ok-cut_to.ensures.is_cut c.in_ok-cut_to.ensures.settled

pub returns-else-length-db_length-clause-stays : goal.returns-else-length-db_length-clause-stays
returns-else-length-db_length-clause-stays g c = stays_none c.requires.stable

pub returns-else-length-db_length-clause-opened : goal.returns-else-length-db_length-clause-opened
returns-else-length-db_length-clause-opened g c x tells y now =
    let same = same_Some x y (sym tells ∙ now) in
    let test = c.if-length-db_length.false in
    let length = c.file_length-length.ensures in
    let long = c.requires.db_length x tells in
    subst (λ (z : Contents). IsOpened x c.args.header.now z) same
    (whole_opened c.args.header.now x (c.requires.closed x tells) (c.requires.readable x tells) (omega arith))

pub returns-in_err-cut_to-clause-nothing_to_do : goal.returns-in_err-cut_to-clause-nothing_to_do
returns-in_err-cut_to-clause-nothing_to_do g c x tells found =
    let short = trimmed_already c.args.header.now x (c.requires.closed x tells) (c.requires.readable x tells) found in
    let test = c.if-length-db_length.true in
    let length = c.file_length-length.ensures in
    let long = c.requires.db_length x tells in
    absurd (omega arith)

pub returns-in_ok-cut_to-clause-nothing_to_do : goal.returns-in_ok-cut_to-clause-nothing_to_do
returns-in_ok-cut_to-clause-nothing_to_do g c x tells found =
    let short = trimmed_already c.args.header.now x (c.requires.closed x tells) (c.requires.readable x tells) found in
    let test = c.if-length-db_length.true in
    let length = c.file_length-length.ensures in
    let long = c.requires.db_length x tells in
    absurd (omega arith)
