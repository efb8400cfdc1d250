-- A scan of the items of a tree.
use Rattle.std.specs.Prelude.{◌≡◌, ◌<◌, ℕ, Bool, true, false, List, [], ◌∷◌, ◌++◌}
use Rattle.std.specs.declared.ops.Bound.{Bound}
use Rattle.std.specs.declared.ops.Bound.TheVariants.{Excluded, Unbounded}
use Rattle.gds_block.specs.Item.{Item}
use Rattle.gds_pack.specs.Entry.{item}
use Rattle.gds_pack.specs.Packed.{packed_size}
use Rattle.gds_search.specs.PackedBlock.{IsPackedBlock}
use Rattle.gds_find.specs.Fork.{BeginsWith, LeafPlace}
use Rattle.gds_find.specs.declared.scan.Cursor.{Cursor}
use Rattle.gds_find.specs.declared.scan.Scan.{Scan}

-- the root of the tree that is scanned, and the entry that the last call found
abbrev pub scanned_root : Scan → ℕ
scanned_root scan = scan.root

abbrev pub last_item : Scan → Item
last_item scan = item scan.cursor.entry

-- Where a scan has begun its last item is this one.
abbrev pub EndsWith : Bool → List Item → Item → Type 0
EndsWith false passed last = passed ≡ []
EndsWith true passed last = (front : List Item) × (passed ≡ front ++ last ∷ [])

-- what is to be found behind a key, or from the first on where a scan hasn't begun
abbrev pub behind_key : Bool → List ℕ → Bound (List ℕ)
behind_key false key = Unbounded
behind_key true key = Excluded key

-- The leaf that a scan keeps goes on with the first of the items that are left.
pub record IsAhead (cursor : Cursor) (left : List Item) : Type 0 where
  pub begun : cursor.begun ≡ true
  pub before : List Item
  pub behind : List Item
  pub later : List Item
  pub packed : IsPackedBlock cursor.leaf.items 0 (before ++ behind)
  pub used_is : cursor.used ≡ packed_size (before ++ behind)
  pub end_is : packed_size before ≡ cursor.end
  pub begins : BeginsWith cursor.entry.key.items before behind
  pub left_is : left ≡ behind ++ later

-- A scan of these items has given the first of them, these. Where it keeps a leaf that goes on, that goes on with those
-- that are left.
pub record IsCursorOf (items : List Item) (cursor : Cursor) (passed : List Item) : Type 0 where
  pub left : List Item
  pub parts : items ≡ passed ++ left
  pub last : EndsWith cursor.begun passed (item cursor.entry)
  pub ahead : cursor.end < cursor.used → IsAhead cursor left

-- It has given one more, or all were given.
abbrev pub CursorGoesTo : List Item → List Item → Cursor → Bool → Type 0
CursorGoesTo items passed cursor true = IsCursorOf items cursor (passed ++ item cursor.entry ∷ [])
CursorGoesTo items passed cursor false = items ≡ passed

-- the same of a scan
abbrev pub IsScanOf : List Item → Scan → List Item → Type 0
IsScanOf items scan passed = IsCursorOf items scan.cursor passed

abbrev pub GoesTo : List Item → List Item → Scan → Bool → Type 0
GoesTo items passed scan found = CursorGoesTo items passed scan.cursor found

-- It has just taken an entry and its leaf.
pub record HasTaken (cursor : Cursor) (place : LeafPlace) (e : Item) : Type 0 where
  pub begun : cursor.begun ≡ true
  pub entry : item cursor.entry ≡ e
  pub leaf : cursor.leaf.items ≡ place.bytes
  pub used : cursor.used ≡ place.used
  pub end : cursor.end ≡ place.end
