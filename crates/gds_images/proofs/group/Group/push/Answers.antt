use Rattle.std.proofs.Common.{◌+◌, ◌^◌, ◌≤◌, ◌∷◌, [], ◌++◌, length, ap, ◌∙◌, arith}
use Rattle.gds_images.proofs.BufferLemmas.{buffer_count, buffer_length, buffer_pushed, few_images}
use Rattle.gds_images.specs.Group.{Image, images_in}
use Rattle.std.proofs.Common.{drop}
use Rattle.gds_images.proofs.group.Group.push.Goals as goal

pub overflow_add-self : goal.overflow_add-self
overflow_add-self c =
    let count = c.self.inside.count in
    let bytes = c.self.inside.bytes in
    let many = buffer_count count bytes.items in
    let few = few_images (images_in count (drop 16 bytes.items)) in
    let long = buffer_length count bytes.items c.self.invariant in
    let small = bytes.small in
    let same = bytes.ok.0 in
    omega arith

pub invariant_of-self-2 : goal.invariant_of-self-2
invariant_of-self-2 c =
    let fits = c.if-len-bytes-gt-MAX_BUFFER.false in
    let same = c.self.inside.bytes.ok.0 in
    let small : length c.self.inside.bytes.items + 12 + length c.args.bytes.now ≤ 2 ^ 62 = omega arith in
    (buffer_pushed c.self.inside.count c.self.inside.bytes.items c.push_image.new.buffer.items
    (record { at = c.args.at; bytes = c.args.bytes.now }) c.self.invariant
    (record { at = c.ranges.at.fits; short = c.requires }) small c.in_ok-push_image.ensures.ok).1

pub returns-clause-ok : goal.returns-clause-ok
returns-clause-ok c =
    let fits = c.if-len-bytes-gt-MAX_BUFFER.false in
    let same = c.self.inside.bytes.ok.0 in
    let small : length c.self.inside.bytes.items + 12 + length c.args.bytes.now ≤ 2 ^ 62 = omega arith in
    let image : Image = record { at = c.args.at; bytes = c.args.bytes.now } in
    (buffer_pushed c.self.inside.count c.self.inside.bytes.items c.push_image.new.buffer.items image c.self.invariant
    (record { at = c.ranges.at.fits; short = c.requires }) small c.in_ok-push_image.ensures.ok).0
    ∙ ap (λ xs. xs ++ image ∷ []) c.self.view_is
