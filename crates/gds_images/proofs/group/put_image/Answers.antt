use Rattle.gds_images.proofs.BufferLemmas.{image_put}
use Rattle.gds_images.proofs.group.put_image.Goals as goal

pub returns : goal.returns
returns c =
    image_put c.args.out.now c.put_u64.new.out c.put_u32.new.out c.put_bytes.new.out
    (record { at = c.args.at; bytes = c.args.bytes.now }) c.requires.fits c.put_u64.ensures c.put_u32.ensures
    c.put_bytes.ensures
