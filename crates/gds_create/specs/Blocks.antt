-- Neighbouring blocks of a new database.
use Rattle.std.specs.Prelude.{ℕ, List, flat_map}
use Rattle.std.specs.List.{range_with_len}
use Rattle.gds_header.specs.declared.header.Header.{Header}
use Rattle.gds_new.specs.NewDatabase.{new_block}

-- so many of them, one behind the other, from a block on
unfoldable pub new_blocks : Header → ℕ → ℕ → List ℕ
new_blocks h first count = flat_map (new_block h) (range_with_len first count)
