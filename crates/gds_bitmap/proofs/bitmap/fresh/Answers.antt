use Rattle.std.proofs.Common.{length, take, drop, length-take, length-drop, ◌≡◌, ◌<◌, ◌+◌, ◌/◌, ◌∙◌, ap, sym, min}
use Rattle.std.proofs.Common.{arith, lit<}
use Rattle.gds_bitmap.specs.declared.state.State.TheVariants.{New}
use Rattle.gds_bitmap.specs.Bitmap.{fresh_state}
use Rattle.gds_bitmap.proofs.FreshLemmas.{take-Marks, drop-Marks, states-more, state_at-zero, zero_at, fresh_state-none}
use borrow.Rule.Slice.PartMut.{put_mid, post_of}
use Rattle.std.proofs.lemmas.List.{drop-drop}
use Rattle.gds_block.proofs.HeadLemmas.{take-head_bytes, drop-head_bytes, HasHead-front}
use Rattle.std.proofs.lemmas.Slice.{take-put_mid_below, drop-put_mid}
use Rattle.gds_bitmap.proofs.bitmap.fresh.Goals as goal

pub loop-k-init : goal.loop-k-init
loop-k-init c =
    let headed = c.write_head.new.out in
    let old = c.args.out.now in
    let zeros = c.fill.new.self in
    let room : length headed ≡ length old = omega arith in
    let all_zero = c.fill.ensures.after (λ y same. same) in
    let count : length zeros ≡ 128 = omega (
      arith,
      c.fill.ensures.len,
      length-take 128 (drop 16 headed),
      length-drop 16 headed,
    ) in
    record {
      head =
          take-put_mid_below 16 128 headed zeros 16 (omega arith) (omega arith)
          ∙ ap (take 16) c.write_head.ensures.written ∙ take-head_bytes 255 144 c.args.tn (drop 16 old);
      states = λ j within.
          let here : j / 4 < length (take 128 (drop 16 headed)) = omega (arith, c.fill.ensures.len) in
          let front : length (take 16 headed) ≡ 16 = omega (arith, length-take 16 headed) in
          state_at-zero (put_mid 16 128 headed zeros) j
          (zero_at (take 16 headed) zeros (post_of 16 128 headed) _ (j / 4) front all_zero here)
          ∙ sym (fresh_state-none (min 1 c.args.present) j (omega arith));
      behind =
          drop-put_mid 16 128 headed zeros 144 (omega arith) (omega arith) count ∙ sym (drop-drop 128 16 headed)
          ∙ ap (drop 128) (ap (drop 16) c.write_head.ensures.written ∙ drop-head_bytes 255 144 c.args.tn (drop 16 old))
          ∙ drop-drop 128 16 old;
    }

pub loop-k-preserved : goal.loop-k-preserved
loop-k-preserved c =
    let old = c.loop-k.out in
    let new = c.mark.new.map in
    let k = c.loop-k.k in
    let kept = c.loop-k.invariant in
    let before : min k c.args.present ≡ k = omega arith in
    let after : min (k + 1) c.args.present ≡ k + 1 = omega arith in
    record {
      head = take-Marks old new k New c.mark.ensures (omega arith) ∙ kept.head;
      states =
          rw after (states-more old new k (omega arith) c.mark.ensures
          (λ j within. kept.states j within ∙ ap (λ n. fresh_state n j) before));
      behind = drop-Marks old new k New c.mark.ensures (omega arith) ∙ kept.behind;
    }

pub returns-clause-reads_back : goal.returns-clause-reads_back
returns-clause-reads_back c =
    HasHead-front c.loop-k.out 255 144 c.args.tn c.loop-k.invariant.head (lit< tt) (omega arith)
