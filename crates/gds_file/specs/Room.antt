-- How many blocks would be free if a file grew.
use Rattle.std.specs.Prelude.{ℕ, ◌+◌, ◌-◌, ◌/◌, min}
use Rattle.gds_header.specs.declared.header.Header.{Header}

-- the groups of so many blocks, and how many maps come where a file grows: each group has one
abbrev pub groups_in : ℕ → ℕ
groups_in total = (total + 511) / 512

abbrev pub new_maps : ℕ → ℕ → ℕ
new_maps old new = groups_in new - groups_in old

-- how many blocks are free once a file has grown to a total: all that come are, but for the maps
abbrev pub grown_free : Header → ℕ → ℕ
grown_free h total = h.free + (total - h.total) - new_maps h.total total

-- how many would be if it grew to its limit
abbrev pub room_of : Header → ℕ
room_of h = grown_free h h.limit

-- the total of a file that grows by its extension, or up to its limit
abbrev pub extended : Header → ℕ
extended h = min (h.total + h.extension) h.limit
