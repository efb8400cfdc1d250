-- How much room a file has.
use Rattle.std.specs.Prelude.{ℕ, ◌+◌, ◌-◌, ◌%◌, ◌==◌, List, length, filter}
use Rattle.std.specs.List.{range_with_len}
use Rattle.gds_header.specs.Fields.{fields_of}

-- how many blocks could still be taken if the file grew to its limit, new maps left out
unfoldable pub room : List ℕ → ℕ
room image =
    let h = fields_of image in
    h.free + (h.limit - h.total) - length (filter (λ n. n % 512 == 0) (range_with_len h.total (h.limit - h.total)))
