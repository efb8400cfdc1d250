use Rattle.std.proofs.Common.{◌≡◌, map, drop, string_bytes}
use Rattle.std.specs.List.{find}
use Rattle.gds_words.specs.Create.{gives}
use Rattle.gds_words.proofs.create.number_in.Given as goal

abbrev pub invariant-loop-word : goal.invariant-loop-word
invariant-loop-word l =
    find (gives l.qualifier) (map string_bytes (drop l.word-index l.words))
    ≡ find (gives l.qualifier) (map string_bytes l.words)
