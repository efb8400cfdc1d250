-- A file in which blocks of trees are written anew.
use Rattle.std.specs.Prelude.{◌≡◌, ℕ, IsTrue, List, ◌++◌}
use Rattle.gds_header.specs.Fields.{fields_of}
use Rattle.gds_file.specs.FileLaws.{IsLawful}
use Rattle.gds_file.specs.Maps.{has_block}
use Rattle.gds_file.specs.Reshape.{Reshapes}
use Rattle.gds_file.specs.Rewrite.{Rewrites, AreNoMaps, AreAllBusy}

-- Its header stays.
abbrev pub RewriteKeepsHeader : Type 0
RewriteKeepsHeader = (before after blocks : List ℕ) → Rewrites before after blocks → fields_of after ≡ fields_of before

-- Its header and its maps stay as lawful as they were.
abbrev pub RewriteStaysLawful : Type 0
RewriteStaysLawful =
    (before after blocks : List ℕ) → IsLawful before → Rewrites before after blocks → AreNoMaps blocks → IsLawful after

-- It is a change of busy blocks to themselves, among which those are.
abbrev pub RewriteReshapes : Type 0
RewriteReshapes =
    (before after blocks all : List ℕ) → Rewrites before after blocks → AreNoMaps blocks
    → ((n : ℕ) → IsTrue (has_block blocks n) → IsTrue (has_block all n)) → AreAllBusy before all
    → Reshapes before after all all

-- Blocks that are written anew after others are written anew.
abbrev pub RewritesCompose : Type 0
RewritesCompose =
    (a b c : List ℕ) (first second : List ℕ) → Rewrites a b first → Rewrites b c second
    → Rewrites a c (first ++ second)
