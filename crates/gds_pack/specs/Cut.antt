-- Lists of items that are cut into runs, each for a block.
use Rattle.std.specs.Prelude.{ℕ, zero, suc, ◌≡◌, ◌≤◌, ◌<◌, ◌-◌, List, [], ◌∷◌, ◌++◌, take, drop}
use Rattle.gds_block.specs.Item.{Item}
use Rattle.gds_pack.specs.Packed.{packed_size}

-- the runs of a list that is cut at these places, where the list itself begins at a place
abbrev pub runs_from : ℕ → List ℕ → List Item → List (List Item)
runs_from from [] items = items ∷ []
runs_from from (at ∷ places) items = take (at - from) items ∷ runs_from at places (drop (at - from) items)

abbrev pub runs : List ℕ → List Item → List (List Item)
runs places items = runs_from 0 places items

-- Each run fits in so many bytes, and each but the last wouldn't with one more item.
abbrev pub AreFullRuns : ℕ → List (List Item) → Type 0
AreFullRuns limit [] = ⊥
AreFullRuns limit (run ∷ []) = packed_size run ≤ limit
AreFullRuns limit (run ∷ next ∷ rest) =
    (packed_size run ≤ limit) × (limit < packed_size (run ++ take 1 next)) × AreFullRuns limit (next ∷ rest)

-- The list can be cut somehow into at most so many runs that each fit in so many bytes.
abbrev pub CanBeCut : ℕ → ℕ → List Item → Type 0
CanBeCut zero limit items = items ≡ []
CanBeCut (suc n) limit items = (at : ℕ) × (packed_size (take at items) ≤ limit) × CanBeCut n limit (drop at items)
