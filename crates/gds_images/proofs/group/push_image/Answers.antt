use Rattle.std.proofs.Common.{length, refl, sym}
use Rattle.std.specs.Prelude.{vec_len}
use Rattle.gds_images.proofs.BufferLemmas.{image_pushed}
use Rattle.gds_images.proofs.group.push_image.Goals as goal

pub returns-clause-ok : goal.returns-clause-ok
returns-clause-ok c front is =
    image_pushed front c.args.buffer.now.items c.resize.new.self.items c.deref_mut.result.now c.put_image.new.out
    (record { at = c.args.at; bytes = c.args.bytes.now }) (vec_len c.args.buffer.now) c.len-end.result
    (length c.args.bytes.now) c.resize.new.self.len is (sym c.args.buffer.now.ok.0) c.len-end.ensures refl
    c.in_ok-resize.ensures.len c.in_ok-resize.ensures.items c.deref_mut.ensures.value c.put_image.ensures
