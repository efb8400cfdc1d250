use Rattle.std.proofs.Common.{◌≡◌, inl, inr, take, arith, ap, sym, ◌∙◌}
use Rattle.std.proofs.lemmas.Bool.{cases_lt}
use Rattle.gds_pack.specs.Entry.{item, items}
use Rattle.gds_pack.specs.Packed.{packed_size, record_size}
use Rattle.gds_pack.proofs.ListLemmas.{records_size-take, key_behind-take}
use Rattle.gds_splice.proofs.RunLemmas.{none_there}
use Rattle.gds_splice.proofs.sizes.place_at.Goals as goal

pub loop-i-preserved : goal.loop-i-preserved
loop-i-preserved c =
    let e = c.index-entries-i.result in
    let list = c.args.entries.now in
    let more = records_size-take list c.loop-i.i e (omega arith) c.index-entries-i.is in
    let same = ap (λ p. record_size p (item e)) c.loop-i.invariant.previous in record {
      size = omega (arith, more, same, c.loop-i.invariant.size);
      previous = c.as_slice-previous.ensures.value ∙ sym (key_behind-take list c.loop-i.i e (omega arith)
          c.index-entries-i.is);
      none = λ k low. elim (cases_lt k c.loop-i.i) [
        | inl h ↦ c.loop-i.invariant.none k h
        | inr h ↦ λ is.
            let same : k ≡ c.loop-i.i = omega arith in
            c.if-size-from.false
            (omega (arith, c.loop-i.invariant.size, is, ap (λ n. packed_size (items (take n list))) same))
      ];
    }

pub returns-clause-none : goal.returns-clause-none
returns-clause-none c = λ front e back is size.
    none_there c.args.entries.now c.args.offset front back e is size
    (λ k low. c.loop-i.invariant.none k (omega arith))
