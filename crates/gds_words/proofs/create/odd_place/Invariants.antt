use Rattle.std.proofs.Common.{◌≡◌, ℕ, ◌<◌, true, [], map, take, slice_index_or, string_bytes}
use Rattle.gds_words.specs.Create.{goes_on}
use Rattle.gds_words.proofs.create.odd_place.Given as goal

abbrev pub invariant-loop-place : goal.invariant-loop-place
invariant-loop-place l =
    (k : ℕ) → k < l.place
    → goes_on (take k (map string_bytes l.words)) (slice_index_or (map string_bytes l.words) k []) ≡ true
