-- What a file without faults stands for.
use Rattle.std.specs.Prelude.{◌≡◌, ◌↔◌, ℕ, List, [], ◌∷◌, flat_map, Contains, Some, if◌then◌else◌}
use Rattle.std.specs.Option.{option_map_or}
use Rattle.std.specs.FinMap.{get}
use Rattle.m_key.specs.Key.{key_bytes}
use Rattle.m_key.specs.Globals.{Globals, Place}
use Rattle.gds_block.specs.Record.{Record, records_of}
use Rattle.gds_header.specs.Fields.{fields_of, block_of}
use Rattle.gds_block.specs.Item.{Item}
use Rattle.gds_law.specs.BlockReading.{BlockReading, PlacedRecord, reading_of, key_of, rest_of, points}
use Rattle.gds_law.specs.Record.{is_ended}
use Rattle.gds_law.specs.Path.{Steps, visit_at, AreKept}
use Rattle.gds_law.specs.Faults.{AreFaults}

-- key and rest of each record, one after another behind a key, up to the first that ends the reading
abbrev pub items_from : BlockReading → List ℕ → List Record → List Item
items_from b previous [] = []
items_from b previous (r ∷ rs) =
    let s : PlacedRecord = record { previous = previous; record_ = r } in
    if is_ended b s then [] else record { key = key_of b s; rest = rest_of b s } ∷ items_from b (key_of b s) rs

abbrev pub items_of : BlockReading → List ℕ → List Item
items_of b bytes = items_from b [] (records_of bytes)

-- the keys and values in the block of a visit, if it is a level-0 block of a global
abbrev pub values_of : BlockReading → List ℕ → List Item
values_of b bytes = if points b then [] else items_of b bytes

abbrev pub values_at : List ℕ → Steps → List Item
values_at image path =
    option_map_or (λ v. values_of (reading_of (fields_of image) v (block_of image v.block)) (block_of image v.block))
    (visit_at image path) []

-- The file has no fault, and the map's pairs are those of the level-0 blocks of globals in which kept paths end,
-- however
-- the blocks share them out.
pub record StandsFor (image : List ℕ) (m : Globals) : Type 0 where
  pub faultless : AreFaults image []
  pub kept : List Steps
  pub are_kept : AreKept image kept
  pub pairs : (p : Place) (value : List ℕ) →
      (get m p ≡ Some value) ↔ Contains (flat_map (values_at image) kept) (record {
        key = key_bytes p.node;
        rest =
            value;
      })
