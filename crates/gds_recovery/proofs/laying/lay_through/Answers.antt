use Rattle.std.proofs.Common.{◌-◌, Some, drop, get_or, arith, ap, subst, sym, ◌∙◌}
use Rattle.host_model.specs.declared.host.FileNo.TheVariants.{Db}
use Rattle.host_model.specs.Files.{Contents, with_file}
use Rattle.gds_images.specs.declared.chain.Place.{Place}
use Rattle.gds_images.specs.Recovered.{laid}
use Rattle.gds_recovery.specs.Steps.{IsWithin}
use Rattle.gds_recovery.proofs.LayLemmas.{laid_image, laid_one_more, was_laid, within_laid}
use Rattle.gds_recovery.proofs.laying.lay_through.Goals as goal

nowhere : Place
nowhere = record { at = 0; len = 0; from = 0 }

pub lay_image-requires-clause-within : goal.lay_image-requires-clause-within
unfolding nowhere
lay_image-requires-clause-within g c x tells =
    let h = g.H.Host in
    let places = c.args.places.now in
    let n = c.loop-i.i in
    let test = c.loop-i-test.true in
    let within = c.loop-i.auto.i in
    let was = was_laid (h.told c.args.host.now) (h.told c.loop-i.host) (λ c. laid c.images (drop n places) c.db) x
    c.loop-i.invariant.changed.untold c.loop-i.invariant.laid tells in
    let all = c.requires.within was.0 was.1 in
    let place = get_or places (n - 1) nowhere in
    subst (λ (c : Contents). IsWithin c place) (sym was.2)
    (within_laid was.0 places n place all (all (n - 1) nowhere (omega arith)))

pub returns-in_err-lay_image-clause-changed : goal.returns-in_err-lay_image-clause-changed
unfolding nowhere
returns-in_err-lay_image-clause-changed g c =
    let test = c.loop-i-test.true in
    let within = c.loop-i.auto.i in
    laid_image g.met.H.Host.longer c.args.places.now (c.loop-i.i - 1) nowhere (omega arith) c.loop-i.invariant.changed
    c.in_err-lay_image.ensures.changed

pub loop-i-preserved : goal.loop-i-preserved
unfolding nowhere
loop-i-preserved g c =
    let places = c.args.places.now in
    let n = c.loop-i.i in
    let test = c.loop-i-test.true in
    let within = c.loop-i.auto.i in
    let room = c.loop-i.invariant.buffer in
    let kept = c.lay_image.auto.buffer in
    record {
      buffer = omega arith;
      changed = laid_image g.met.H.Host.longer places (n - 1) nowhere (omega arith) c.loop-i.invariant.changed
          c.in_ok-lay_image.ensures.changed;
      laid = λ x tells.
          c.in_ok-lay_image.ensures.laid (with_file Db (laid x.images (drop n places) x.db) x)
          (c.loop-i.invariant.laid x tells)
          ∙ ap (λ bytes. Some (with_file Db bytes x))
          (laid_one_more x.images x.db places n nowhere (omega arith) (omega arith));
    }
