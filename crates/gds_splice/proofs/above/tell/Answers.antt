use Rattle.std.proofs.Common.{◌∙◌, List, length, take, ap, sym, subst, arith, refl}
use Rattle.std.proofs.lemmas.Bool.{false≢true}
use Rattle.gds_pack.specs.Entry.{items}
use Rattle.gds_pack.specs.Packable.{ArePackable}
use Rattle.gds_pack.specs.Packed.{packed_size}
use Rattle.gds_pack.specs.declared.entry.Entry.{Entry}
use Rattle.gds_splice.proofs.AboveLemmas.{told_is}
use Rattle.gds_splice.proofs.above.tell.Goals as goal

pub returns-then-not-is_packable-clause-none : goal.returns-then-not-is_packable-clause-none
returns-then-not-is_packable-clause-none c front e back is size index packable =
    let list : List Entry = c.args.node.entries.items in
    let found = c.in-Some.ensures.found in
    let whole = c.deref.ensures.value in
    let told = told_is c.args.parts.now list c.put_above.new.entries.items c.in-Some.place c.args.offset
    (omega (arith, found.0, ap length whole))
    (ap (λ (xs : List Entry). packed_size (items (take c.in-Some.place xs))) (sym whole) ∙ found.1)
    c.in_ok-put_above.ensures front e back is size in
    absurd (false≢true (sym c.if-not-is_packable.true ∙ c.is_packable.ensures.1
    (subst (ArePackable c.args.node.level) (sym (ap items c.deref-2.ensures.value ∙ told)) packable)))

pub returns-clause-some : goal.returns-clause-some
returns-clause-some c =
    let list : List Entry = c.args.node.entries.items in
    let found = c.in-Some.ensures.found in
    let whole = c.deref.ensures.value in record {
      level = refl;
      index = omega arith;
      packable = subst (ArePackable c.args.node.level) (ap items c.deref-2.ensures.value)
          (c.is_packable.ensures.0 c.if-not-is_packable.false);
      told = told_is c.args.parts.now list c.put_above.new.entries.items c.in-Some.place c.args.offset
          (omega (arith, found.0, ap length whole))
          (ap (λ (xs : List Entry). packed_size (items (take c.in-Some.place xs))) (sym whole) ∙ found.1)
          c.in_ok-put_above.ensures;
    }
