use Rattle.std.proofs.Common.{ℕ, ◌≡◌, ◌+◌, Some, length, take, drop, arith, ◌∙◌}
use Rattle.std.proofs.Common.{ap, length-append, length-drop, length-take}
use Rattle.host_model.specs.declared.host.FileNo.TheVariants.{Db}
use Rattle.host_model.specs.Disk.{written}
use Rattle.host_model.specs.Files.{Contents, with_file}
use Rattle.gds_recovery.proofs.LayLemmas.{laid_piece, was_laid}
use Rattle.gds_recovery.proofs.PieceLemmas.{piece-then}
use Rattle.gds_recovery.proofs.laying.lay_image.Goals as goal

pub lay_piece-requires-clause-images : goal.lay_piece-requires-clause-images
lay_piece-requires-clause-images g c x tells =
    let h = g.H.Host in
    let place = c.args.place.now in
    let done = c.loop-done.done in
    let was = was_laid (h.told c.args.host.now) (h.told c.loop-done.host)
    (λ c. written place.at (take done (drop place.from c.images)) c.db) x c.loop-done.invariant.changed.untold
    c.loop-done.invariant.laid tells in
    let whole = (c.requires.within was.0 was.1).images in
    let same : length x.images ≡ length was.0.images = ap (λ (c : Contents). length c.images) was.2 in
    let size = length-take c.min-size.result c.loop-done.buffer in
    let from = c.from.ensures in
    let is = c.min-size.ensures in
    let test = c.loop-done-test.true in
    omega arith

pub returns-in_err-lay_piece-clause-changed : goal.returns-in_err-lay_piece-clause-changed
returns-in_err-lay_piece-clause-changed g c =
    let size = length-take c.min-size.result c.loop-done.buffer in
    let at = c.from-in-loop-done.ensures in
    let is = c.min-size.ensures in
    let test = c.loop-done-test.true in
    laid_piece g.met.H.Host.longer c.args.place.now (c.args.place.now.at + c.from-in-loop-done.result)
    (length (take c.min-size.result c.loop-done.buffer)) (omega arith) (omega arith) c.loop-done.invariant.changed
    c.in_err-lay_piece.ensures.changed

pub loop-done-preserved : goal.loop-done-preserved
loop-done-preserved g c =
    let h = g.H.Host in
    let place = c.args.place.now in
    let done = c.loop-done.done in
    let size = length-take c.min-size.result c.loop-done.buffer in
    let from = c.from.ensures in
    let at = c.from-in-loop-done.ensures in
    let is = c.min-size.ensures in
    let test = c.loop-done-test.true in
    let room = c.loop-done.invariant.buffer in
    record {
      within = omega arith;
      buffer = simp (length-append, length-drop) (omega (arith, c.lay_piece.auto.piece));
      changed = laid_piece g.met.H.Host.longer place (place.at + c.from-in-loop-done.result)
          (length (take c.min-size.result c.loop-done.buffer)) (omega arith) (omega arith)
          c.loop-done.invariant.changed c.in_ok-lay_piece.ensures.changed;
      laid = λ x tells.
          let y = with_file Db (written place.at (take done (drop place.from x.images)) x.db) x in
          let whole = c.requires.within x tells in
          let k = length (take c.min-size.result c.loop-done.buffer) in
          let n : k ≡ c.min-size.result = omega arith in
          let full = whole.images in
          let low = whole.db in
          let there : (at from n : ℕ) → Contents = λ at from n.
          with_file Db (written (place.at + at) (take n (drop (place.from + from) x.images)) y.db) x in
          c.in_ok-lay_piece.ensures.laid y (c.loop-done.invariant.laid x tells)
          ∙ ap (λ i. Some (there i c.from.result k)) at ∙ ap (λ i. Some (there done c.from.result i)) n
          ∙ ap (λ i. Some (there done i c.min-size.result)) from
          ∙ ap (λ bytes. Some (with_file Db bytes x))
          (piece-then place.at place.from done c.min-size.result x.images x.db (omega arith) (omega arith));
    }
