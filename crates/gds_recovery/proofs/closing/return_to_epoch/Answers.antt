use Rattle.std.proofs.Common.{length, refl, sym, ap, subst, ◌∙◌}
use Rattle.std.proofs.lemmas.Option.{same_Some}
use Rattle.host_model.specs.Files.{Contents}
use Rattle.gds_recovery.specs.Steps.{IsAtEpoch}
use Rattle.gds_recovery.proofs.EpochLemmas.{epoch_low, length-laid_back}
use Rattle.gds_recovery.proofs.FoundLemmas.{epoch_at_rest}
use Rattle.gds_recovery.proofs.StayLemmas.{stays_none}
use Rattle.gds_recovery.proofs.WorkLemmas.{was_told}
use Rattle.gds_recovery.proofs.closing.return_to_epoch.Goals as goal

pub returns-then-chain-eq-FIRST_GATE-clause-stays : goal.returns-then-chain-eq-FIRST_GATE-clause-stays
returns-then-chain-eq-FIRST_GATE-clause-stays g c = stays_none c.requires.stable

pub returns-then-chain-eq-FIRST_GATE-clause-at_epoch : goal.returns-then-chain-eq-FIRST_GATE-clause-at_epoch
returns-then-chain-eq-FIRST_GATE-clause-at_epoch g c x tells y now =
    let same = same_Some x y (sym tells ∙ now) in
    subst (λ (z : Contents). IsAtEpoch c.args.chain.now x z) same
    (epoch_at_rest x (length x.db) c.args.chain.now (c.requires.chain x tells) c.if-chain-eq-FIRST_GATE.true)

pub returns-clause-db_length : goal.returns-clause-db_length
returns-clause-db_length g c y now =
    let h = g.H.Host in
    let chain = c.args.chain.now in
    let was = was_told (h.told c.args.host.now) (h.told c.lay_back.new.host) y
    c.in_ok-lay_back.ensures.stays.untold now in
    let x = was.0 in
    let ok = c.requires.chain x was.1 in
    let is = c.in_ok-lay_back.ensures.at_epoch x was.1 y now in
    let low = epoch_low x.images (length x.db) chain ok c.if-chain-eq-FIRST_GATE.false in
    sym (ap length is.db ∙ length-laid_back x.images (length x.db) chain ok c.if-chain-eq-FIRST_GATE.false x.images x.db
    refl low)
