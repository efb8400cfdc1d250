use Rattle.std.proofs.Common.{◌∙◌}
use Rattle.gds_images.proofs.FirstLemmas.{cut_made}
use Rattle.gds_images.proofs.group.cut_images.Goals as goal

pub returns : goal.returns
returns c =
    c.truncate.ensures.items
    ∙ cut_made c.args.count c.args.buffer.now.items c.deref.result.now c.images_length-end.result c.requires
    c.deref.ensures.value c.images_length-end.ensures
