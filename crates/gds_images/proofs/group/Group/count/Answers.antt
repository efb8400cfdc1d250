use Rattle.std.proofs.Common.{length, sym, ap, ◌∙◌}
use Rattle.gds_images.proofs.BufferLemmas.{buffer_count}
use Rattle.gds_images.proofs.group.Group.count.Goals as goal

pub returns : goal.returns
returns c = sym (buffer_count c.self.inside.count c.self.inside.bytes.items) ∙ ap length c.self.view_is
