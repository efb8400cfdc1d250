use Rattle.std.proofs.Common.{length, take, sym, ap, ◌∙◌, arith}
use Rattle.std.proofs.lemmas.List.{take_all}
use Rattle.gds_images.proofs.BufferLemmas.{buffer_count}
use Rattle.gds_images.proofs.FirstLemmas.{buffer_cut, first_images}
use Rattle.gds_images.proofs.group.Group.truncate.Goals as goal

pub cut_images-requires : goal.cut_images-requires
cut_images-requires c =
    let few = c.if-count-self.true in
    (first_images c.args.count c.self.inside.count c.self.inside.bytes.items c.self.invariant (omega arith)).1

pub invariant_of-self : goal.invariant_of-self
invariant_of-self c =
    let few = c.if-count-self.true in
    (buffer_cut c.args.count c.self.inside.count c.self.inside.bytes.items c.cut_images.new.buffer.items
    c.self.invariant (omega arith) c.cut_images.ensures).1

pub returns-then-count-self : goal.returns-then-count-self
returns-then-count-self c =
    let few = c.if-count-self.true in
    (buffer_cut c.args.count c.self.inside.count c.self.inside.bytes.items c.cut_images.new.buffer.items
    c.self.invariant (omega arith) c.cut_images.ensures).0
    ∙ ap (take c.args.count) c.self.view_is

pub returns-else-count-self : goal.returns-else-count-self
returns-else-count-self c =
    let all = c.if-count-self.false in
    let many = buffer_count c.self.inside.count c.self.inside.bytes.items in
    sym (take_all c.args.count c.args.self.now (omega (arith, ap length c.self.view_is)))
