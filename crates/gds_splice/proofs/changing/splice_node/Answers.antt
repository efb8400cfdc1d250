use Rattle.std.proofs.Common.{◌∙◌, List, length, take, ap, sym, subst, arith, refl}
use Rattle.std.proofs.lemmas.Bool.{false≢true}
use Rattle.gds_pack.specs.Entry.{items}
use Rattle.gds_pack.specs.Packable.{ArePackable}
use Rattle.gds_pack.specs.Packed.{packed_size}
use Rattle.gds_pack.specs.declared.entry.Entry.{Entry}
use Rattle.gds_splice.proofs.ChangingLemmas.{enough, no_place, spliced_is}
use Rattle.gds_splice.proofs.changing.splice_node.Goals as goal

pub returns-in_default-clause-none : goal.returns-in_default-clause-none
returns-in_default-clause-none c front gone back is g index packable =
    no_place (items c.args.node.entries.items) c.args.offset c.args.taken
    (λ a e b same. c.in_default.ensures.none a e b (ap items c.deref.ensures.value ∙ same)) front gone back is g

pub returns-then-taken-len-clause-none : goal.returns-then-taken-len-clause-none
returns-then-taken-len-clause-none c front gone back is g index packable =
    let list : List Entry = c.args.node.entries.items in
    let found = c.in-Some.ensures.found in
    let whole = c.deref.ensures.value in
    absurd (omega (
      arith,
      enough list c.in-Some.place c.args.taken c.args.offset (omega (arith, found.0, ap length whole))
          (ap (λ (xs : List Entry). packed_size (items (take c.in-Some.place xs))) (sym whole) ∙ found.1) front gone
          back is g,
      c.if-taken-len.true,
      c.len.ensures,
    ))

pub returns-then-not-is_packable-clause-none : goal.returns-then-not-is_packable-clause-none
returns-then-not-is_packable-clause-none c front gone back is g index packable =
    let list : List Entry = c.args.node.entries.items in
    let found = c.in-Some.ensures.found in
    let whole = c.deref.ensures.value in
    let spliced = spliced_is list c.in-Some.place c.args.taken c.args.offset (omega (arith, found.0, ap length whole))
    (ap (λ (xs : List Entry). packed_size (items (take c.in-Some.place xs))) (sym whole) ∙ found.1)
    (items c.args.put.items) c.put_between.new.entries.items c.in_ok-put_between.ensures front gone back is g in
    absurd (false≢true (sym c.if-not-is_packable.true ∙ c.is_packable.ensures.1
    (subst (ArePackable c.args.node.level) (sym (ap items c.deref-2.ensures.value ∙ spliced)) packable)))

pub returns-clause-some : goal.returns-clause-some
returns-clause-some c =
    let list : List Entry = c.args.node.entries.items in
    let found = c.in-Some.ensures.found in
    let whole = c.deref.ensures.value in record {
      level = refl;
      index = omega arith;
      packable = subst (ArePackable c.args.node.level) (ap items c.deref-2.ensures.value)
          (c.is_packable.ensures.0 c.if-not-is_packable.false);
      spliced = spliced_is list c.in-Some.place c.args.taken c.args.offset (omega (arith, found.0, ap length whole))
          (ap (λ (xs : List Entry). packed_size (items (take c.in-Some.place xs))) (sym whole) ∙ found.1)
          (items c.args.put.items) c.put_between.new.entries.items c.in_ok-put_between.ensures;
    }
