use Rattle.std.proofs.Common.{◌≡◌, [], ◌∷◌, length, take, Some, refl, sym, ap, subst, ◌∙◌, arith}
use Rattle.std.proofs.lemmas.Option.{same_Some}
use Rattle.host_model.specs.declared.host.FileNo.TheVariants.{Db, Images}
use Rattle.host_model.specs.Disk.{Changes, Writes, written}
use Rattle.host_model.specs.Files.{Contents, with_file}
use Rattle.host_model.proofs.OutcomeLemmas.{is_changed, told_written}
use Rattle.gds_images.specs.Chain.{first_gate}
use Rattle.gds_images.specs.Recovered.{laid}
use Rattle.gds_recovery.specs.Steps.{IsAtEpoch}
use Rattle.gds_recovery.proofs.EpochLemmas.{all_within, epoch_low, laid_back_is, laid_long, open_beside}
use Rattle.gds_recovery.proofs.FoundLemmas.{written_closed, written_gate}
use Rattle.gds_recovery.proofs.LayBackLemmas.{at_epoch, come_back, come_closed, come_cut_back, come_laid, stays_closed}
use Rattle.gds_recovery.proofs.LayLemmas.{was_laid}
use Rattle.gds_recovery.proofs.StayLemmas.{stays}
use Rattle.gds_recovery.proofs.WorkLemmas.{changed_then, was_told}
use Rattle.gds_recovery.proofs.closing.lay_back.Goals as goal

pub lay_images-requires-clause-within : goal.lay_images-requires-clause-within
lay_images-requires-clause-within g c x tells =
    all_within x.images (length x.db) c.args.chain.now (c.requires.chain x tells) c.requires.open x refl refl

pub cut_to-requires : goal.cut_to-requires
cut_to-requires g c x tells =
    let h = g.H.Host in
    let chain = c.args.chain.now in
    let was = was_laid (h.told c.args.host.now) (h.told c.lay_images.new.host) (λ c. laid c.images chain.images c.db) x
    c.in_ok-lay_images.ensures.changed.untold c.in_ok-lay_images.ensures.laid tells in
    let ok = c.requires.chain was.0 was.1 in
    let low = epoch_low was.0.images (length was.0.db) chain ok c.requires.open in
    let long = laid_long was.0.images (length was.0.db) chain ok c.requires.open was.0.db low in
    let same : length x.db ≡ length (laid was.0.images chain.images was.0.db) =
    ap (λ (c : Contents). length c.db) was.2 in
    omega arith

pub close_gate-requires : goal.close_gate-requires
close_gate-requires g c x tells =
    let h = g.H.Host in
    let chain = c.args.chain.now in
    let was = was_laid (h.told c.args.host.now) (h.told c.cut_to.new.host)
    (λ c. take chain.epoch_length (laid c.images chain.images c.db)) x
    (λ none. c.in_ok-cut_to.ensures.changed.untold (c.in_ok-lay_images.ensures.changed.untold none))
    (λ y is. c.in_ok-cut_to.ensures.is_cut (with_file Db (laid y.images chain.images y.db) y)
    (c.in_ok-lay_images.ensures.laid y is)) tells in
    let ok = c.requires.chain was.0 was.1 in
    let low = epoch_low was.0.images (length was.0.db) chain ok c.requires.open in
    let beside = open_beside was.0.images (length was.0.db) chain ok c.requires.open (length was.0.db) low in
    let gate = beside.begins.gate in
    let same : length x.images ≡ length was.0.images = ap (λ (c : Contents). length c.images) was.2 in
    omega arith

pub returns-in_err-lay_images-clause-stays : goal.returns-in_err-lay_images-clause-stays
returns-in_err-lay_images-clause-stays g c =
    let h = g.H.Host in
    let l = g.met.H.Host in
    let chain = c.args.chain.now in
    stays {contents = h.told} l.longer l.now_left c.lay_images.ensures.changed
    (λ x tells. (come_laid l.longer x chain (c.requires.chain x tells) c.requires.open (c.requires.stable x tells)
    c.lay_images.ensures.changed.crash).only)

pub returns-in_err-cut_to-clause-stays : goal.returns-in_err-cut_to-clause-stays
returns-in_err-cut_to-clause-stays g c =
    let h = g.H.Host in
    let l = g.met.H.Host in
    let chain = c.args.chain.now in
    stays {contents = h.told} l.longer l.now_left
    (changed_then l.longer (λ _ _. Unit {0}) c.lay_images.ensures.changed c.cut_to.ensures.changed (λ x y r. tt)
    (λ x y z r s. tt))
    (λ x tells.
    let ok = c.requires.chain x tells in
    let first = come_laid l.longer x chain ok c.requires.open (c.requires.stable x tells)
    c.lay_images.ensures.changed.crash in
    (come_cut_back l.longer x chain ok c.requires.open first c.cut_to.ensures.changed.crash).only)

pub returns-in_err-close_gate-clause-stays : goal.returns-in_err-close_gate-clause-stays
returns-in_err-close_gate-clause-stays g c =
    let h = g.H.Host in
    let l = g.met.H.Host in
    stays_closed {contents = h.told} l.longer l.now_left c.args.chain.now c.requires.open
    (Changes Images (Writes first_gate (0 ∷ []) c.close_gate.result)) c.requires.chain c.requires.stable
    c.in_ok-lay_images.ensures.changed c.in_ok-lay_images.ensures.laid c.in_ok-cut_to.ensures.changed
    c.in_ok-cut_to.ensures.settled c.close_gate.ensures.told c.close_gate.ensures.untold
    c.close_gate.ensures.any_moment c.close_gate.ensures.failures

pub returns-clause-stays : goal.returns-clause-stays
returns-clause-stays g c =
    let h = g.H.Host in
    let l = g.met.H.Host in
    stays_closed {contents = h.told} l.longer l.now_left c.args.chain.now c.requires.open
    (Changes Images (Writes first_gate (0 ∷ []) c.close_gate.result)) c.requires.chain c.requires.stable
    c.in_ok-lay_images.ensures.changed c.in_ok-lay_images.ensures.laid c.in_ok-cut_to.ensures.changed
    c.in_ok-cut_to.ensures.settled c.close_gate.ensures.told c.close_gate.ensures.untold
    c.close_gate.ensures.any_moment c.close_gate.ensures.failures

pub returns-clause-at_epoch : goal.returns-clause-at_epoch
returns-clause-at_epoch g c x tells y now =
    let h = g.H.Host in
    let chain = c.args.chain.now in
    let ok = c.requires.chain x tells in
    let low = epoch_low x.images (length x.db) chain ok c.requires.open in
    let beside = open_beside x.images (length x.db) chain ok c.requires.open (length x.db) low in
    let back : h.told c.cut_to.new.host ≡ Some (at_epoch x chain) =
    c.in_ok-cut_to.ensures.is_cut (with_file Db (laid x.images chain.images x.db) x)
    (c.in_ok-lay_images.ensures.laid x tells) in
    let closed = told_written Images first_gate (0 ∷ []) (h.told c.cut_to.new.host) (h.told c.close_gate.new.host)
    (at_epoch x chain) back c.in_ok-close_gate.ensures.told in
    let end = with_file Images (written first_gate (0 ∷ []) x.images) (at_epoch x chain) in
    let is = same_Some end y (sym closed ∙ now) in
    subst (λ (z : Contents). IsAtEpoch chain x z) is
    (record {
      db = sym (laid_back_is x.images (length x.db) chain ok c.requires.open x.images x.db);
      images = written_gate x.images beside.begins.gate;
      closed = written_closed x.images beside.begins;
    })

pub returns-clause-stable : goal.returns-clause-stable
returns-clause-stable g c y now d left =
    let h = g.H.Host in
    let l = g.met.H.Host in
    let chain = c.args.chain.now in
    let was = was_told (h.told c.args.host.now) (h.told c.close_gate.new.host) y
    (λ none. c.in_ok-close_gate.ensures.untold
    (c.in_ok-cut_to.ensures.changed.untold (c.in_ok-lay_images.ensures.changed.untold none))) now in
    let x = was.0 in
    let ok = c.requires.chain x was.1 in
    let laid_told = c.in_ok-lay_images.ensures.laid x was.1 in
    let mid = with_file Db (laid x.images chain.images x.db) x in
    let back : h.told c.cut_to.new.host ≡ Some (at_epoch x chain) = c.in_ok-cut_to.ensures.is_cut mid laid_told in
    let closed = told_written Images first_gate (0 ∷ []) (h.told c.cut_to.new.host) (h.told c.close_gate.new.host)
    (at_epoch x chain) back c.in_ok-close_gate.ensures.told in
    let end = with_file Images (written first_gate (0 ∷ []) x.images) (at_epoch x chain) in
    let is = same_Some end y (sym closed ∙ now) in
    let first = come_laid l.longer x chain ok c.requires.open (c.requires.stable x was.1)
    c.in_ok-lay_images.ensures.changed.crash in
    let second = come_cut_back l.longer x chain ok c.requires.open first c.in_ok-cut_to.ensures.changed.crash in
    let third = come_back l.longer x chain ok c.requires.open second (c.in_ok-cut_to.ensures.settled mid laid_told) in
    let last = come_closed l.longer x chain ok c.requires.open third c.in_ok-close_gate.ensures.any_moment in
    is_changed Images (written first_gate (0 ∷ []) x.images) (at_epoch x chain) d (last.each d left)
    (c.in_ok-close_gate.ensures.settled (at_epoch x chain) back d left) ∙ is
