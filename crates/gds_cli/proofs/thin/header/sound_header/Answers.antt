use Rattle.std.proofs.Common.{◌≡◌, ℕ, List, [], length, take, refl, sym, arith}
use Rattle.std.specs.Option.{ForSome}
use Rattle.gds_header.specs.Kinds.{header_faults}
use Rattle.gds_cli.specs.SoundHeader.{IsHeaderOf}
use Rattle.gds_cli.proofs.HeaderReadingLemmas.{begins_told}
use Rattle.integ.proofs.MapLemmas.{some_at}
use Rattle.m_key.proofs.ReadingLemmas.{none_weaker}
use Rattle.gds_cli.proofs.SoundHeaderLemmas.{some_weaker, short_header}
use Rattle.gds_cli.proofs.thin.header.sound_header.Goals as goal

pub returns-then-length-clause-none : goal.returns-then-length-clause-none
returns-then-length-clause-none g c x tells =
    let is = some_at (g.H.Host.told c.args.host.now) _ x tells c.in_ok-length.ensures.length in
    short_header x.db (omega (arith, is, c.if-length.true))

pub returns-clause-some : goal.returns-clause-some
returns-clause-some g c =
    let begun =
    begins_told (g.H.Host.told c.args.host.now)
    (g.H.Host.told c.len.new.self) c.in_ok-length.length c.in_ok-read.field-0 _ c.read.new.out
    c.in_ok-length.ensures.length c.in_ok-length.ensures.kept.told refl c.read.auto.out
    c.if-branch-lt-HEADER_LENGTH.false c.in_ok-read.ensures.bytes in
    some_weaker c.sound.result
    (λ h. (d : List ℕ) → take 8192 d ≡ c.read.new.out → length d ≡ c.in_ok-length.length → IsHeaderOf h d)
    (λ h. ForSome (g.H.Host.told c.args.host.now) (λ x. IsHeaderOf h x.db))
    (λ h known x tells. let b =
    some_at (g.H.Host.told c.args.host.now) _ x tells begun in known x.db b.front (sym b.count))
    c.sound.ensures.some

pub returns-clause-none : goal.returns-clause-none
returns-clause-none g c =
    let begun =
    begins_told (g.H.Host.told c.args.host.now)
    (g.H.Host.told c.len.new.self) c.in_ok-length.length c.in_ok-read.field-0 _ c.read.new.out
    c.in_ok-length.ensures.length c.in_ok-length.ensures.kept.told refl c.read.auto.out
    c.if-branch-lt-HEADER_LENGTH.false c.in_ok-read.ensures.bytes in
    none_weaker c.sound.result
    ((d : List ℕ) → take 8192 d ≡ c.read.new.out → length d ≡ c.in_ok-length.length → header_faults d ≡ [] → ⊥)
    (ForSome (g.H.Host.told c.args.host.now) (λ x. header_faults x.db ≡ [] → ⊥))
    (λ known x tells. let b =
    some_at (g.H.Host.told c.args.host.now) _ x tells begun in known x.db b.front (sym b.count))
    c.sound.ensures.none
