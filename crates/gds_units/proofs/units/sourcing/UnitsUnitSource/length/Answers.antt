use Rattle.std.proofs.Common.{◌≡◌, ◌<◌, length}
use Rattle.std.specs.Prelude.{All}
use Rattle.gds_units.proofs.ReadingLemmas.{after_reading}
use Rattle.gds_units.proofs.SourcingLemmas.{image_bytes, image_long, of_state}
use Rattle.gds_units.proofs.units.sourcing.UnitsUnitSource.length.Goals as goal

pub invariant_of-self : goal.invariant_of-self
invariant_of-self g c =
    let s = c.self.inside in
    after_reading s.host c.len.new.self s.header s.waiting.units s.before s.epoch_length s.extent s.is_stopped
    c.self.invariant c.len.ensures.kept.told c.len.ensures.kept.crash

pub invariant_of-self-2 : goal.invariant_of-self-2
invariant_of-self-2 g c =
    let s = c.self.inside in
    after_reading s.host c.len.new.self s.header s.waiting.units s.before s.epoch_length s.extent s.is_stopped
    c.self.invariant c.len.ensures.kept.told c.len.ensures.kept.crash

pub returns-in_err-len-clause-bytes : goal.returns-in_err-len-clause-bytes
returns-in_err-len-clause-bytes g c =
    let s = c.self.inside in
    of_state (λ file. All (λ b. b < 256) file) _ c.args.self.now c.self.view_is
    (image_bytes (g.H.Host.told s.host) s.header.block_size s.waiting.units c.len.ensures.bytes c.hold_bytes.ensures)

pub returns-clause-bytes : goal.returns-clause-bytes
returns-clause-bytes g c =
    let s = c.self.inside in
    of_state (λ file. All (λ b. b < 256) file) _ c.args.self.now c.self.view_is
    (image_bytes (g.H.Host.told s.host) s.header.block_size s.waiting.units c.len.ensures.bytes c.hold_bytes.ensures)

pub returns-clause-length : goal.returns-clause-length
returns-clause-length g c =
    let s = c.self.inside in
    of_state (λ file. c.file_length.result ≡ length file) _ c.args.self.now c.self.view_is
    (image_long (g.H.Host.told s.host) s.header s.waiting.units s.before s.epoch_length s.extent c.file_length.result
    c.file_length.ensures c.self.invariant.places c.self.invariant.held)
