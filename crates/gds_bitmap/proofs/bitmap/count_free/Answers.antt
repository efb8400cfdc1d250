use Rattle.std.proofs.Common.{◌≡◌, ◌+◌, ◌-◌, ◌*◌, ◌/◌, ◌%◌, ◌<◌, ◌∙◌, refl, ap, drop, arith, length-take, length-drop}
use Rattle.gds_bitmap.specs.Pairs.{count_below}
use Rattle.gds_bitmap.specs.Bitmap.{is_free_at}
use Rattle.gds_bitmap.proofs.CountLemmas.{part_byte, count_step, count_below_le}
use Rattle.gds_bitmap.proofs.bitmap.count_free.Goals as goal

-- after one more byte its blocks are counted too
counted : (c : goal.After-count_free_in-count)
    → c.loop-byte.count + c.count_free_in-count.result
    ≡ count_below (is_free_at c.args.map.now) (4 * c.loop-byte.byte-index + 4)
counted c =
    let i = c.loop-byte.byte-index in
    let bytes = 16 + c.args.present / 4 - 16 in
    let map = c.args.map.now in
    let here : i < bytes = omega (arith, length-take bytes (drop 16 map)) in
    count_step map _ i 4 c.loop-byte.count c.count_free_in-count.result (part_byte map bytes i here) (omega arith)
    c.loop-byte.invariant c.count_free_in-count.ensures

-- and after the rest of the blocks all are counted
all_counted : (c : goal.After-count_free_in-count-then-present-ne0)
    → c.loop-byte.count + c.count_free_in-count-then-present-ne0.result
    ≡ count_below (is_free_at c.args.map.now) c.args.present
all_counted c =
    let present = c.args.present in
    let bytes = 16 + present / 4 - 16 in
    let map = c.args.map.now in
    let ended : c.loop-byte.byte-index ≡ present / 4 =
    omega (arith, length-take bytes (drop 16 map), length-drop 16 map) in
    let total : 4 * (present / 4) + present % 4 ≡ present = omega arith in
    let before : c.loop-byte.count ≡ count_below (is_free_at map) (4 * (present / 4)) =
    c.loop-byte.invariant ∙ ap (λ i. count_below (is_free_at map) (4 * i)) ended in
    count_step map _ (present / 4) (present % 4) c.loop-byte.count c.count_free_in-count-then-present-ne0.result refl
    (omega arith) before c.count_free_in-count-then-present-ne0.ensures
    ∙ ap (count_below (is_free_at map)) total

pub overflow_add-count : goal.overflow_add-count
overflow_add-count c =
    let i = c.loop-byte.byte-index in
    let bytes = 16 + c.args.present / 4 - 16 in
    omega (
      arith,
      counted c,
      count_below_le (is_free_at c.args.map.now) (4 * i + 4),
      length-take bytes (drop 16 c.args.map.now),
    )

pub loop-byte-preserved : goal.loop-byte-preserved
loop-byte-preserved c =
    let i = c.loop-byte.byte-index in
    let more : 4 * i + 4 ≡ 4 * (i + 1) = omega arith in
    counted c ∙ ap (count_below (is_free_at c.args.map.now)) more

pub overflow_add-count-then-present-ne0 : goal.overflow_add-count-then-present-ne0
overflow_add-count-then-present-ne0 c =
    omega (arith, all_counted c, count_below_le (is_free_at c.args.map.now) c.args.present)

pub returns-then-present-ne0 : goal.returns-then-present-ne0
returns-then-present-ne0 c = all_counted c
