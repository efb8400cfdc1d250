-- What a block of the image with a draft says of a key, and the trail that follows.
use Rattle.std.proofs.Common.{◌≡◌, ℕ, zero, suc, ◌<◌, ◌≤◌, List, length}
use Rattle.std.proofs.Common.{Option, None, Some, Result, sym, ap, subst, ◌∙◌, arith}
use Rattle.std.specs.Prelude.{All, IfOk, IsSomeAnd}
use Rattle.std.specs.Option.{ForSome, ok_or}
use Rattle.host_model.specs.Failures.{Failures}
use Rattle.gds_base.specs.Ending.{EndsReading}
use Rattle.gds_base.specs.declared.error.BaseError.{BaseError}
use Rattle.gds_base.specs.declared.error.BaseError.TheVariants.{Changed}
use Rattle.gds_block.specs.Block.{level_of}
use Rattle.gds_block.specs.Item.{Item}
use Rattle.gds_draft.specs.Draft.{DraftState}
use Rattle.gds_draft.specs.Drafted.{drafted}
use Rattle.gds_draft.specs.Laws.{IsDraftOf}
use Rattle.gds_draft.proofs.DraftLemmas.{drafted_read}
use Rattle.gds_header.specs.Fields.{block_of, fields_of, file_length_of, image_length}
use Rattle.gds_header.specs.Kinds.{IsWithinLimits}
use Rattle.gds_header.specs.declared.header.Header.{Header}
use Rattle.gds_law.specs.Visit.{Visit}
use Rattle.gds_search.specs.PackedBlock.{IsPackedBlock}
use Rattle.gds_sound.specs.Sound.{Tree, sound_tree}
use Rattle.gds_tree.specs.Below.{HasEntries, trees_below}
use Rattle.gds_tree.specs.Keeps.{IsImage}
use Rattle.gds_tree.specs.RightBlock.{IsDueLevel}
use Rattle.gds_tree.proofs.ImageLemmas.{tree_entries}
use Rattle.gds_tree.proofs.TreeByLemmas.{by_index}
use Rattle.m_key.specs.KeyEnd.{IsKey}
use Rattle.gds_find.specs.Trail.{HoldsKey, HasTreeFor}
use Rattle.gds_find.specs.Turn.{IsTurn, TurnsAt}
use Rattle.gds_find.specs.declared.turning.Turn.{Turn}
use Rattle.gds_find.specs.declared.turning.Turn.TheVariants.{Down, Here}
use Rattle.gds_find.proofs.WayLemmas.{goes_on, packed_at, tree_within}

-- A whole file with a header within the limits, which is as long as that says.
pub record IsExact (file : List ℕ) : Type 0 where
  pub image : IsImage file
  pub long : length file ≡ image_length file

pub drafted_exact : (image : List ℕ) (draft : DraftState) → IsDraftOf image draft → IsExact (drafted draft image)
drafted_exact image draft is =
    let r = drafted_read image draft is in
    let long : length (drafted draft image) ≡ image_length (drafted draft image) =
    r.len ∙ sym (ap file_length_of r.fields) in
    record {
      image = record {
        limits = subst IsWithinLimits (sym r.fields) is.draft_is.limits;
        whole = omega (arith, long);
      };
      long = long;
    }

-- A block of it is one of the draft.
pub within_draft : (image : List ℕ) (draft : DraftState) → IsDraftOf image draft → (n : ℕ)
    → n < (fields_of (drafted draft image)).total → n < draft.header.total
within_draft image draft is n low =
    omega (arith, low, ap (λ (h : Header). h.total) (drafted_read image draft is).fields)

-- what is said of bytes where a level may be due
abbrev pub SaysTurn : List ℕ → Option ℕ → List ℕ → Option Turn → Type 0
SaysTurn bytes due key o =
    (height : ℕ) (es : List Item) → IsKey key → IsDueLevel due height → IsPackedBlock bytes height es
    → IsSomeAnd o (IsTurn height es key)

module _ (file : List ℕ) (v : Visit) (key : List ℕ) (image : IsImage file) (there : v.block < (fields_of file).total)
    (bytes : All (λ b. b < 256) (block_of file v.block)) (holds : HoldsKey v key) (is_key : IsKey key) (o : Option Turn)
    (says : SaysTurn (block_of file v.block) v.level key o) where
  by_level : (level : ℕ) (t : Tree) → sound_tree file level v ≡ Some t
      → IsSomeAnd o (TurnsAt file v key)
  by_level zero t sound =
      let x = tree_entries file v 0 t image there sound in
      let due = subst (IsDueLevel v.level) x.1.level x.1.right.head.level in
      leaf x.0 x.1 o (says 0 x.0 is_key due (packed_at file v 0 x.0 image x.1 bytes))
    where
      leaf : (es : List Item) → HasEntries file v 0 es → (o : Option Turn) → IsSomeAnd o (IsTurn 0 es key)
          → IsSomeAnd o (TurnsAt file v key)
      leaf es has None is = is
      leaf es has (Some (Down level offset block)) is = absurd (omega (arith, is.1))
      leaf es has (Some (Here offset place)) is =
          record { offset_is = is.1; entries = es; has = has; place_is = is.2 }
  by_level (suc level) t sound =
      let x = by_index file v level t image there sound in
      let due = subst (IsDueLevel v.level) x.has.level x.has.right.head.level in
      index x.es x.has x.below x.trees o
      (says (suc level) x.es is_key due (packed_at file v (suc level) x.es image x.has bytes))
    where
      index : (es : List Item) → HasEntries file v (suc level) es → (below : Tree)
          → trees_below file v level v.low es ≡ Some below → (o : Option Turn) → IsSomeAnd o (IsTurn (suc level) es key)
          → IsSomeAnd o (TurnsAt file v key)
      index es has below trees None is = is
      index es has below trees (Some (Here offset place)) is = absurd (omega (arith, is.0))
      index es has below trees (Some (Down height offset block)) is =
          goes_on file v level below es key (record { offset = offset; block = block }) image has trees holds is_key
          is.2 height is.0

-- The block of a visit with a sound tree says where the way of the key goes on.
pub turned : (file : List ℕ) (v : Visit) (block : ℕ) (due : Option ℕ) (key bytes : List ℕ) (o : Option Turn)
    → IsExact file → HasTreeFor file v block due key → bytes ≡ block_of file block → All (λ b. b < 256) bytes
    → SaysTurn bytes due key o → IsSomeAnd o (TurnsAt file v key)
turned file v block due key bytes o exact tree is all says =
    let own : bytes ≡ block_of file v.block = is ∙ ap (block_of file) (sym tree.block_is) in
    let said : SaysTurn (block_of file v.block) v.level key o =
    subst (λ d. SaysTurn (block_of file v.block) d key o) (sym tree.level_is)
    (subst (λ xs. SaysTurn xs due key o) own says) in
    by_level file v key exact.image (tree_within file v tree.tree exact.long tree.sound)
    (subst (All (λ b. b < 256)) own all) tree.holds tree.is_key o said (level_of (block_of file v.block)) tree.tree
    tree.sound

-- ---- what is answered, where the image is told

module _ (told : Option (List ℕ)) (draft : DraftState) (block : ℕ) (due : Option ℕ) (key : List ℕ) where
  -- A block behind the last of the file is no root of a sound tree.
  pub none_there : ForSome told (λ image. IsDraftOf image draft) → draft.header.total ≤ block
      → ForSome told (λ image. (v : Visit) → HasTreeFor (drafted draft image) v block due key → ⊥)
  none_there is past image told v tree =
      let exact = drafted_exact image draft (is image told) in
      let fields = (drafted_read image draft (is image told)).fields in
      let low = tree_within (drafted draft image) v tree.tree exact.long tree.sound in
      omega (arith, low, past, tree.block_is, ap (λ (h : Header). h.total) fields)

  -- For each visit with a sound tree there the block says something.
  abbrev pub AlwaysTurns : Option Turn → Type 0
  AlwaysTurns o =
      ForSome told (λ image. (v : Visit) → HasTreeFor (drafted draft image) v block due key
      → IsSomeAnd o (TurnsAt (drafted draft image) v key))

  pub always_turns : (bytes : List ℕ) (o : Option Turn) → ForSome told (λ image. IsDraftOf image draft)
      → ForSome told (λ image. bytes ≡ block_of (drafted draft image) block) → All (λ b. b < 256) bytes
      → SaysTurn bytes due key o → AlwaysTurns o
  always_turns bytes o is reads all says image told v tree =
      turned (drafted draft image) v block due key bytes o (drafted_exact image draft (is image told)) tree
      (reads image told) all says

  abbrev pub TurnsThere : Turn → Type 0
  TurnsThere turn =
      ForSome told (λ image. (v : Visit) → HasTreeFor (drafted draft image) v block due key
      → TurnsAt (drafted draft image) v key turn)

  abbrev pub HasNone : Type 0
  HasNone = ForSome told (λ image. (v : Visit) → HasTreeFor (drafted draft image) v block due key → ⊥)

  pub turn_answered : (o : Option Turn) (e : BaseError) (r : Result Turn BaseError) → r ≡ ok_or o e → AlwaysTurns o
      → IfOk r TurnsThere
  turn_answered None e r is turns = subst (λ x. IfOk x TurnsThere) (sym is) tt
  turn_answered (Some turn) e r is turns = subst (λ x. IfOk x TurnsThere) (sym is) turns

  pub turn_ends : (o : Option Turn) (unit : ℕ) (r : Result Turn BaseError) (before now : Failures)
      → r ≡ ok_or o (Changed unit) → AlwaysTurns o → EndsReading before now HasNone r
  turn_ends None unit r before now is turns = subst (EndsReading before now HasNone) (sym is) turns
  turn_ends (Some turn) unit r before now is turns = subst (EndsReading before now HasNone) (sym is) tt
