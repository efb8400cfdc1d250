use Rattle.std.proofs.Common.{ℕ, ltb, ◌+◌, ◌-◌, ◌*◌, ◌<◌, take, drop, get_or, arith, length-take}
use Rattle.std.proofs.lemmas.Bool.{ltb-false}
use Rattle.gds_bitmap.specs.Bitmap.{IsFirstFree, NoneFree}
use Rattle.gds_bitmap.proofs.CountLemmas.{part_byte, NoneFree-step, NoneFree-less, IsFirstFree-step, IfSome-then_some}
use Rattle.gds_bitmap.proofs.CountLemmas.{IfNone-then_some}
use Rattle.gds_bitmap.proofs.bitmap.first_free.Goals as goal

abbrev place_of : goal.After-then_some → ℕ
place_of c = 4 * c.loop-place.place + c.in-Some.pair

first : (c : goal.After-then_some) → IsFirstFree c.args.map.now (place_of c)
first c =
    let i = c.loop-place.place in
    let bytes = 16 + c.div_ceil-bytes.result - 16 in
    let map = c.args.map.now in
    let here : i < bytes = omega (arith, length-take bytes (drop 16 map)) in
    IsFirstFree-step map (get_or (take bytes (drop 16 map)) i 0) i c.in-Some.pair (part_byte map bytes i here)
    c.loop-place.invariant c.in-Some.ensures.found

pub returns-in-Some-clause-found : goal.returns-in-Some-clause-found
returns-in-Some-clause-found c =
    rw c.then_some.ensures (IfSome-then_some (ltb (place_of c) c.args.present) (place_of c) (IsFirstFree c.args.map.now)
    (first c))

pub returns-in-Some-clause-none : goal.returns-in-Some-clause-none
returns-in-Some-clause-none c =
    rw c.then_some.ensures (IfNone-then_some (ltb (place_of c) c.args.present) (place_of c)
    (NoneFree c.args.map.now c.args.present) (λ past. NoneFree-less c.args.map.now c.args.present (place_of c)
    (ltb-false _ _ past) (first c).first))

pub loop-place-preserved : goal.loop-place-preserved
loop-place-preserved c =
    let i = c.loop-place.place in
    let bytes = 16 + c.div_ceil-bytes.result - 16 in
    let map = c.args.map.now in
    let here : i < bytes = omega (arith, length-take bytes (drop 16 map)) in
    NoneFree-step map (get_or (take bytes (drop 16 map)) i 0) i (part_byte map bytes i here) c.loop-place.invariant
    c.in_default.ensures.none
