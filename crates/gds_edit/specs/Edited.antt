-- What an edit leaves.
use Rattle.std.specs.Prelude.{ℕ, ◌≡◌, ◌<◌, ◌≤◌, ◌+◌, ◌-◌, List, length, take, drop, OnOk, IfErr}
use Rattle.std.specs.declared.result.Result.{Result}
use Rattle.gds_block.specs.Block.{version_of, reserved_of, used_of, tn_of}
use Rattle.gds_block.specs.Item.{Item}
use Rattle.gds_pack.specs.Packed.{packed_size}
use Rattle.gds_search.specs.PackedBlock.{IsPackedBlock}
use Rattle.gds_edit.specs.declared.error.EditError.{EditError}
use Rattle.gds_edit.specs.declared.error.EditError.TheVariants.{NoRoom}

-- The block has these entries now, and its head is as before but for the used count.
pub record IsEdited (old new : List ℕ) (height : ℕ) (es : List Item) : Type 0 where
  pub packed : IsPackedBlock new height es
  pub version : version_of new ≡ version_of old
  pub reserved : reserved_of new ≡ reserved_of old
  pub tn : tn_of new ≡ tn_of old

-- What an edit that gives a block these entries answers: either it was made, or they don't fit.
pub record IsEdit {T : Type 0} (old new : List ℕ) (height : ℕ) (es : List Item) (answer : Result T EditError)
    : Type 0 where
  pub done : OnOk answer (IsEdited old new height es)
  pub full : IfErr answer (λ e. (e ≡ NoRoom) × (length old < packed_size es))

-- The used bytes from a place on were moved so that they begin at another, and the used count says where they end.
pub record IsMoved (old new : List ℕ) (from to used : ℕ) : Type 0 where
  pub fits : to + (used - from) ≤ length old
  pub len : length new ≡ length old
  pub ends : used_of new ≡ to + (used - from)
  pub first : take 4 new ≡ take 4 old
  pub front : drop 8 (take to new) ≡ drop 8 (take to old)
  pub moved : drop to (take (to + (used - from)) new) ≡ drop from (take used old)
