-- Entries that are cut in two.
use Rattle.std.proofs.Common.{◌≡◌, ◌≤◌, ◌<◌, ℕ, List, [], ◌∷◌, length, take, drop, arith, sym, subst, length-drop}
use Rattle.std.proofs.lemmas.List.{take-map, drop-map, length-map, length-take-le}
use Rattle.gds_block.specs.Item.{Item}
use Rattle.gds_pack.specs.Entry.{item, items}
use Rattle.gds_pack.specs.Packed.{packed_size}
use Rattle.gds_pack.specs.declared.entry.Entry.{Entry}
use Rattle.gds_splice.specs.Parts.{FitInRuns}
use Rattle.gds_splice.proofs.RunLemmas.{some_of}

-- where both parts are some and fit
pub in_two : (limit n : ℕ) (list : List Entry) → 0 < n → n < length list → packed_size (items (take n list)) ≤ limit
    → packed_size (items (drop n list)) ≤ limit → FitInRuns limit (n ∷ []) (items list)
in_two limit n list some more front back =
    let long : length (items list) ≡ length list = length-map list item in (
      some_of (take n (items list)) (omega (arith, long, length-take-le n (items list) (omega (arith, long)))),
      subst (λ (xs : List Item). packed_size xs ≤ limit) (sym (take-map item n list)) front,
      (
        some_of (drop n (items list)) (omega (arith, long, length-drop n (items list))),
        subst (λ (xs : List Item). packed_size xs ≤ limit) (sym (drop-map item n list)) back,
      ),
    )
