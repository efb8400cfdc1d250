-- The database file of a host as a source of units.
use Rattle.std.specs.Prelude.{ℕ, ◌+◌, ◌-◌, ◌*◌, ◌==◌, List, Option, option_map, if◌then◌else◌}
use Rattle.host_model.specs.Files.{Contents}

-- the bytes of the database file, where the host tells them
abbrev pub database_of : Option Contents → Option (List ℕ)
database_of told = option_map (λ c. c.db) told

-- where a unit begins in a file whose blocks have so many bytes
abbrev pub place : ℕ → ℕ → ℕ
place unit block_size = if unit == 0 then 0 else 8192 + (unit - 1) * block_size
