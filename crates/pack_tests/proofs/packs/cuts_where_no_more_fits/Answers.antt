use Rattle.std.proofs.Common.{ℕ, ◌≤◌, List, [], ◌∷◌, refl, sym, subst, arith}
use Rattle.gds_block.specs.Item.{Item}
use Rattle.gds_pack.specs.Cut.{CanBeCut}
use Rattle.pack_tests.proofs.packs.cuts_where_no_more_fits.Goals as goal

abbrev list : List Item
list = record { key = 65 ∷ 0 ∷ 0 ∷ []; rest = 120 ∷ [] }
    ∷ record { key = 65 ∷ 0 ∷ 191 ∷ 17 ∷ 0 ∷ 0 ∷ []; rest = 121 ∷ [] } ∷ []

-- a run for each entry
singly : (limit : ℕ) → 27 ≤ limit → CanBeCut 3 limit list
singly limit h = (1, omega arith, (1, omega arith, (0, omega arith, refl)))

pub cut_to_fit-places-requires : goal.cut_to_fit-places-requires
cut_to_fit-places-requires g c = subst (CanBeCut 3 c.loop-limit.limit-counter) (sym c.in_ok-list.ensures)
    (singly c.loop-limit.limit-counter (omega arith))
