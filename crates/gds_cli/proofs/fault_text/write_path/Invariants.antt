use Rattle.std.proofs.Common.{◌≡◌, ◌++◌, ◌∷◌, flat_map, take}
use Rattle.std.specs.String.{string_bytes}
use Rattle.gds_law.specs.Line.{place_text}
use Rattle.gds_cli.proofs.fault_text.write_path.Given as goal

-- the records so far
abbrev pub invariant-loop-block : goal.invariant-loop-block
invariant-loop-block l =
    string_bytes l.text ≡ string_bytes l.fn.text ++ flat_map (λ place. 32 ∷ place_text place)
    (take l.block-index l.steps)
