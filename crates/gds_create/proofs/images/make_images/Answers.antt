use Rattle.std.proofs.Common.{ℕ, List, replicate, subst}
use Rattle.std.proofs.lemmas.Result.{on_ok_weaker}
use Rattle.host_model.specs.declared.host.FileNo.TheVariants.{Images}
use Rattle.host_model.specs.Disk.{Changes, Settles, Writes, written}
use Rattle.host_model.specs.Files.{with_file}
use Rattle.host_model.specs.Told.{TellsOn}
use Rattle.host_model.proofs.OutcomeLemmas.{told_written, when_ok}
use Rattle.gds_images.specs.Chain.{label}
use Rattle.gds_create.proofs.StageLemmas.{any_more, changed_store, images_done, images_told}
use Rattle.gds_create.proofs.images.make_images.Goals as goal

pub returns-clause-changed : goal.returns-clause-changed
returns-clause-changed g c =
    any_more g.met.H.Host.longer Images
    (changed_store Images 0 (replicate 9 0) c.store.result c.store.ensures.any_moment c.store.ensures.told
    c.store.ensures.untold c.store.ensures.failures)
    (changed_store Images 0 label c.store-2.result c.store-2.ensures.any_moment c.store-2.ensures.told
    c.store-2.ensures.untold c.store-2.ensures.failures)

pub returns-clause-written : goal.returns-clause-written
returns-clause-written g c =
    let h = g.H.Host in
    let mid = h.told c.store.new.host in
    let new = h.told c.store-2.new.host in
    when_ok (λ r. TellsOn mid new (Changes Images (Writes 0 label r))) c.store-2.result c.store-2.ensures.told
    (λ done told x tells.
    images_told (h.told c.args.host.now) mid new x tells (c.requires x tells) c.in_ok-store.ensures.told told)

pub returns-clause-settled : goal.returns-clause-settled
returns-clause-settled g c =
    let h = g.H.Host in
    on_ok_weaker c.store-2.result
    (λ settled x tells.
    let zeros : List ℕ = written 0 (replicate 9 0) x.images in
    subst (λ xs. Settles Images xs (h.left_since c.store-2.new.host (h.moment c.store-2.new.host)))
    (images_done x.images (c.requires x tells))
    (settled (with_file Images zeros x)
    (told_written Images 0 (replicate 9 0) (h.told c.args.host.now) (h.told c.store.new.host) x tells
    c.in_ok-store.ensures.told)))
    c.store-2.ensures.settled
