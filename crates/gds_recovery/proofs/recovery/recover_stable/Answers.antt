use Rattle.std.proofs.Common.{◌≡◌, Ok, Err, refl, sym, ap, subst, ◌∙◌}
use Rattle.std.proofs.lemmas.Result.{err_from_is_err_and}
use Rattle.host_model.proofs.FrameLemmas.{TellsOn-some}
use Rattle.gds_images.specs.Chain.{chain_of}
use Rattle.gds_recovery.specs.Errors.{HasCause}
use Rattle.gds_recovery.specs.declared.error.RecoveryError.{RecoveryError}
use Rattle.gds_recovery.specs.Found.{FindsSame, IsUnwritten}
use Rattle.gds_recovery.proofs.CauseLemmas.{IsChainCause, chain_cause, error_cause}
use Rattle.gds_recovery.proofs.FoundLemmas.{ends_before, nothing_to_do, opened_before}
use Rattle.gds_recovery.proofs.StayLemmas.{stays_read, stays_reads, stays_then, unwritten_reads, unwritten_then}
use Rattle.gds_recovery.proofs.WorkLemmas.{was_told}
use Rattle.gds_recovery.proofs.recovery.recover_stable.Goals as goal

pub returns-in_err-length-clause-stays : goal.returns-in_err-length-clause-stays
returns-in_err-length-clause-stays g c = stays_read c.db_length.ensures.read c.db_length.ensures.crash c.requires

pub returns-in_err-chain-clause-stays : goal.returns-in_err-chain-clause-stays
returns-in_err-chain-clause-stays g c =
    stays_reads c.db_length.ensures.read c.db_length.ensures.crash c.open_chain.ensures.read
    c.open_chain.ensures.crash c.requires

pub returns-in_err-chain-clause-cause : goal.returns-in_err-chain-clause-cause
returns-in_err-chain-clause-cause g c =
    let h = g.H.Host in
    let r = c.from_residual-in_err-chain.result in
    let e = c.in_err-chain.field-0.0 in
    let same = c.db_length.ensures.read.told in
    let before = h.failures c.db_length.new.host in
    let now = h.failures c.open_chain.new.host in
    let exit = err_from_is_err_and r c.from_residual-in_err-chain.ensures.1 in
    let P : RecoveryError → Type 0 = HasCause (h.told c.args.host.now) (h.failures c.args.host.now) now in
    let cause : IsChainCause c.in_ok-length.length (h.told c.args.host.now) before now e = record {
      bad = λ at is x tells. c.in_err-chain.ensures.bad at (ap Err is) x (same ∙ tells);
      changed = λ unit is. sym same ∙ c.in_err-chain.ensures.changed unit (ap Err is);
      failed = λ is. c.in_err-chain.ensures.failed (ap Err is);
    } in
    error_cause r P exit.0 exit.1 (subst P (sym exit.2)
    (chain_cause c.in_ok-length.length (h.told c.args.host.now) (h.failures c.args.host.now) before now e
    c.in_ok-length.ensures.length c.db_length.ensures.read.failures cause))

pub returns-in_err-length-2-clause-stays : goal.returns-in_err-length-2-clause-stays
returns-in_err-length-2-clause-stays g c =
    stays_then (stays_reads c.db_length.ensures.read c.db_length.ensures.crash c.open_chain.ensures.read
    c.open_chain.ensures.crash c.requires) c.return_to_epoch.ensures.stays

pub trim-requires-clause-closed : goal.trim-requires-clause-closed
trim-requires-clause-closed g c y now =
    let h = g.H.Host in
    let was = was_told (h.told c.open_chain.new.host) (h.told c.return_to_epoch.new.host) y
    c.in_ok-length-2.ensures.stays.untold now in
    (c.in_ok-length-2.ensures.at_epoch was.0 was.1 y now).closed

pub returns-in_err-header-clause-stays : goal.returns-in_err-header-clause-stays
returns-in_err-header-clause-stays g c =
    stays_then (stays_then (stays_reads c.db_length.ensures.read c.db_length.ensures.crash c.open_chain.ensures.read
    c.open_chain.ensures.crash c.requires) c.return_to_epoch.ensures.stays)
    c.trim.ensures.stays

pub returns-in-Some-clause-stays : goal.returns-in-Some-clause-stays
returns-in-Some-clause-stays g c =
    stays_then (stays_then (stays_reads c.db_length.ensures.read c.db_length.ensures.crash c.open_chain.ensures.read
    c.open_chain.ensures.crash c.requires) c.return_to_epoch.ensures.stays)
    c.trim.ensures.stays

pub returns-clause-stays : goal.returns-clause-stays
returns-clause-stays g c =
    stays_then (stays_then (stays_reads c.db_length.ensures.read c.db_length.ensures.crash c.open_chain.ensures.read
    c.open_chain.ensures.crash c.requires) c.return_to_epoch.ensures.stays)
    c.trim.ensures.stays

pub returns-in-Some-clause-opened : goal.returns-in-Some-clause-opened
returns-in-Some-clause-opened g c x tells y now =
    let h = g.H.Host in
    let read = c.open_chain.ensures.read.told ∙ c.db_length.ensures.read.told ∙ tells in
    let mid = TellsOn-some (h.told c.open_chain.new.host) (h.told c.return_to_epoch.new.host) FindsSame x read
    c.return_to_epoch.ensures.stays.told in
    let opened = rw c.in-Some.is at c.in_ok-header.ensures.opened in
    let epoch = c.in_ok-length-2.ensures.at_epoch x read mid.0 mid.1 in
    opened_before x mid.0 c.in-Some.header y mid.2 epoch.images (opened mid.0 mid.1 y now)

pub returns-clause-cause : goal.returns-clause-cause
returns-clause-cause g c = (
  refl,
  λ x tells.
      let h = g.H.Host in
      let read = c.open_chain.ensures.read.told ∙ c.db_length.ensures.read.told ∙ tells in
      let mid = TellsOn-some (h.told c.open_chain.new.host) (h.told c.return_to_epoch.new.host) FindsSame x read
      c.return_to_epoch.ensures.stays.told in
      let unsound = rw c.in-None.is at c.in_ok-header.ensures.unsound in
      ends_before x mid.0 mid.2 (unsound mid.0 mid.1),
)

pub returns-in_err-length-2-clause-nothing_to_do : goal.returns-in_err-length-2-clause-nothing_to_do
returns-in_err-length-2-clause-nothing_to_do g c x tells nothing =
    let h = g.H.Host in
    let chain = c.in_ok-chain.chain in
    let told_length = c.db_length.ensures.read.told ∙ tells in
    let ok = subst (λ n. chain_of x.images n ≡ Ok chain) (c.in_ok-length.ensures.length x tells)
    (c.in_ok-chain.ensures.chain x told_length) in
    let idle = nothing_to_do x chain ok nothing in
    let same = c.return_to_epoch.ensures.closed idle.0 in
    subst (λ host. IsUnwritten h.told h.moment h.left_since c.args.host.now host) (sym same)
    (unwritten_reads c.db_length.ensures.read c.db_length.ensures.crash c.open_chain.ensures.read
    c.open_chain.ensures.crash)

pub returns-in_err-header-clause-nothing_to_do : goal.returns-in_err-header-clause-nothing_to_do
returns-in_err-header-clause-nothing_to_do g c x tells nothing =
    let h = g.H.Host in
    let chain = c.in_ok-chain.chain in
    let told_length = c.db_length.ensures.read.told ∙ tells in
    let ok = subst (λ n. chain_of x.images n ≡ Ok chain) (c.in_ok-length.ensures.length x tells)
    (c.in_ok-chain.ensures.chain x told_length) in
    let idle = nothing_to_do x chain ok nothing in
    let same = c.return_to_epoch.ensures.closed idle.0 in
    let read = unwritten_reads c.db_length.ensures.read c.db_length.ensures.crash c.open_chain.ensures.read
    c.open_chain.ensures.crash in
    let epoch = subst (λ host. IsUnwritten h.told h.moment h.left_since c.args.host.now host) (sym same) read in
    unwritten_then epoch (c.trim.ensures.nothing_to_do x (epoch.told ∙ tells) idle.1)

pub returns-in-Some-clause-nothing_to_do : goal.returns-in-Some-clause-nothing_to_do
returns-in-Some-clause-nothing_to_do g c x tells nothing =
    let h = g.H.Host in
    let chain = c.in_ok-chain.chain in
    let told_length = c.db_length.ensures.read.told ∙ tells in
    let ok = subst (λ n. chain_of x.images n ≡ Ok chain) (c.in_ok-length.ensures.length x tells)
    (c.in_ok-chain.ensures.chain x told_length) in
    let idle = nothing_to_do x chain ok nothing in
    let same = c.return_to_epoch.ensures.closed idle.0 in
    let read = unwritten_reads c.db_length.ensures.read c.db_length.ensures.crash c.open_chain.ensures.read
    c.open_chain.ensures.crash in
    let epoch = subst (λ host. IsUnwritten h.told h.moment h.left_since c.args.host.now host) (sym same) read in
    unwritten_then epoch (c.trim.ensures.nothing_to_do x (epoch.told ∙ tells) idle.1)

pub returns-clause-nothing_to_do : goal.returns-clause-nothing_to_do
returns-clause-nothing_to_do g c x tells nothing =
    let h = g.H.Host in
    let chain = c.in_ok-chain.chain in
    let told_length = c.db_length.ensures.read.told ∙ tells in
    let ok = subst (λ n. chain_of x.images n ≡ Ok chain) (c.in_ok-length.ensures.length x tells)
    (c.in_ok-chain.ensures.chain x told_length) in
    let idle = nothing_to_do x chain ok nothing in
    let same = c.return_to_epoch.ensures.closed idle.0 in
    let read = unwritten_reads c.db_length.ensures.read c.db_length.ensures.crash c.open_chain.ensures.read
    c.open_chain.ensures.crash in
    let epoch = subst (λ host. IsUnwritten h.told h.moment h.left_since c.args.host.now host) (sym same) read in
    unwritten_then epoch (c.trim.ensures.nothing_to_do x (epoch.told ∙ tells) idle.1)
