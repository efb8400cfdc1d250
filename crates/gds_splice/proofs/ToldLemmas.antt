-- An index block that is read and told of parts.
use Rattle.std.proofs.Common.{◌<◌, ℕ, suc, List, ◌∷◌, ◌++◌, sym, ap, ◌∙◌, arith, subst}
use Rattle.gds_block.specs.Block.{IsBlock}
use Rattle.gds_block.specs.Item.{Item}
use Rattle.gds_header.specs.Fields.{block_of, fields_of}
use Rattle.gds_law.specs.Visit.{Visit}
use Rattle.gds_pack.specs.Unpacked.{entries_of}
use Rattle.gds_tree.specs.Below.{HasEntries}
use Rattle.gds_tree.specs.Keeps.{IsImage}
use Rattle.gds_tree.proofs.ImageLemmas.{block_long}
use Rattle.gds_splice.specs.Told.{CannotTell}
use Rattle.gds_splice.specs.Writing.{CannotRead}
use Rattle.gds_splice.specs.declared.parts.Parts.{Parts}
use Rattle.gds_find.specs.declared.trail.Step.{Step}

-- A block with entries can be read as one.
pub is_block_at : (file : List ℕ) (v : Visit) (level : ℕ) (es : List Item) → IsImage file → HasEntries file v level es
    → IsBlock (block_of file v.block)
is_block_at file v level es i has =
    let long = block_long file v.block i has.there in
    let head = has.right.head in record {
      head = omega (arith, long, i.limits.block_from);
      covered = omega (arith, head.used);
      within = omega (arith, head.used, head.fits, long);
    }

-- A step's block can be read.
pub can_read : (file : List ℕ) (step : Step) (parts : Parts)
    → (step.block < (fields_of file).total → CannotRead file step.block) → CannotTell step parts file
can_read file step parts cannot v level front e back to packable =
    cannot (subst (λ n. n < (fields_of file).total) to.block to.has.there) (front ++ e ∷ back)
    (subst (λ n. IsBlock (block_of file n)) to.block
    (is_block_at file v (suc level) (front ++ e ∷ back) to.image to.has))
    (ap (λ n. entries_of (block_of file n)) (sym to.block) ∙ to.has.right.found)
