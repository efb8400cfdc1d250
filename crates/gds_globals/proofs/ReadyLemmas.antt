-- A draft of a SET that is made ready for a commit.
use Rattle.std.proofs.Common.{◌≡◌, ℕ, ◌+◌, ◌≤◌, ◌<◌, ◌^◌, List, Option, None, Some, refl, sym, ap, subst, ◌∙◌}
use Rattle.std.proofs.Common.{arith, ⊎_elim}
use Rattle.std.specs.Prelude.{All}
use Rattle.std.specs.Option.{ForSome}
use Rattle.host_model.specs.Told.{TellsOn}
use Rattle.gds_base.specs.Faultless.{IsFaultless}
use Rattle.gds_base.specs.Reserve.{Reserves}
use Rattle.gds_draft.specs.Committed.{IsCommitted}
use Rattle.gds_draft.specs.Draft.{DraftState, HoldsBytes}
use Rattle.gds_draft.specs.Drafted.{drafted}
use Rattle.gds_draft.specs.Laws.{IsDraftOf}
use Rattle.gds_draft.proofs.BytesLemmas.{committed_is_bytes}
use Rattle.gds_draft.proofs.CommitLemmas.{committed_is_stamped}
use Rattle.gds_draft.proofs.DraftLemmas.{drafted_read}
use Rattle.gds_draft.proofs.HeaderLemmas.{nothing_changed}
use Rattle.gds_file.specs.Change.{item_at}
use Rattle.gds_file.specs.FileLaws.{IsLawful}
use Rattle.gds_file.specs.Grow.{Grows}
use Rattle.gds_file.specs.Room.{new_maps, room_of}
use Rattle.gds_file.proofs.FileLemmas.{no_tree_changes}
use Rattle.gds_file.proofs.GrowLemmas.{grow_reshapes}
use Rattle.gds_file.proofs.StampLemmas.{stamp_keeps_trees}
use Rattle.gds_file.proofs.UseLemmas.{in_has, proper_block}
use Rattle.gds_header.specs.Fields.{block_of, fields_of}
use Rattle.gds_header.specs.declared.header.Header.{Header}
use Rattle.gds_shape.specs.Depth.{IsDeep}
use Rattle.gds_sound.specs.Sound.{IsSound, Tree}
use Rattle.gds_sound.proofs.SoundLemmas.{blocks_of}
use Rattle.m_key.specs.Globals.{Place}
use Rattle.gds_globals.specs.Deep.{IsDeepForNode}
use Rattle.gds_globals.specs.Ready.{IsAfterSet, LeadsToSet}
use Rattle.gds_globals.specs.SetLaws.{IsSoundWith}
use Rattle.gds_globals.proofs.AskLemmas.{IsEmptyOf}
use Rattle.gds_globals.proofs.DeepLemmas.{HasSameTrees, deep_in_image}
use Rattle.gds_globals.proofs.DifferLemmas.{reserved_room, taken_room}
use Rattle.gds_globals.proofs.DraftingLemmas.{none_from}
use Rattle.gds_globals.proofs.NewGlobalLemmas.{lawful_file}
use Rattle.gds_globals.proofs.SetLemmas.{set_is_in_map}

-- The image with an empty draft is the image.
pub same_empty : (image : List ℕ) (d : DraftState) → IsEmptyOf image d → All (λ b. b < 256) image → IsFaultless image
    → drafted d image ≡ image
same_empty image d is bytes faultless =
    ap (λ (x : DraftState). drafted x image) (λ i. record { header = is.header i; units = is.none i })
    ∙ nothing_changed image bytes faultless.sound.header

-- A sound file stays so where 32 blocks are reserved.
reserved_sound : (old new : DraftState) (before after : List ℕ) (d : Tree) (globals : List Tree)
    → (new ≡ old → after ≡ before) → IsSound before d globals → Reserves old new before after
    → IsSound after d globals
reserved_sound old new before after d globals same s reserves = ⊎_elim
    (λ (e : new ≡ old). subst (λ f. IsSound f d globals) (sym (same e)) s)
    (λ (g : Grows before after new.header.total).
    no_tree_changes before after d globals s (grow_reshapes before after new.header.total g) reserves.lawful)
    reserves.grows

-- What is reserved leaves the blocks of trees, and the limits on them.
reserved_trees : (old new : DraftState) (before after : List ℕ) (d : Tree) (globals : List Tree)
    → (new ≡ old → after ≡ before) → IsSound before d globals → Reserves old new before after
    → HasSameTrees before d globals after
reserved_trees old new before after d globals same s reserves = ⊎_elim
    (λ (e : new ≡ old). record {
      block_size = ap (λ f. (fields_of f).block_size) (same e);
      key_max = ap (λ f. (fields_of f).key_max) (same e);
      kept = λ n there. ap (λ f. block_of f n) (same e);
    })
    (λ (g : Grows before after new.header.total). record {
      block_size = ap (λ (h : Header). h.block_size) g.fields;
      key_max = ap (λ (h : Header). h.key_max) g.fields;
      kept = λ n there.
          let proper = proper_block before d globals s n (in_has (blocks_of d globals) n there) in
          g.others n proper.within proper.no_map;
    })
    reserves.grows

module _ (told : Option (List ℕ)) (empty mid : DraftState) (p : Place)
    (empties : ForSome told (λ image. IsEmptyOf image empty)) (faultless : ForSome told IsFaultless)
    (bytes : ForSome told (All (λ b. b < 256)))
    (reserves : ForSome told (λ image.
    IsLawful (drafted empty image) → Reserves empty mid (drafted empty image) (drafted mid image))) where
  module _ (image : List ℕ) (is : told ≡ Some image) (d : Tree) (globals : List Tree) (s : IsSound image d globals)
    where
      same : drafted empty image ≡ image
      same = same_empty image empty (empties image is) (bytes image is) (faultless image is)

      first : IsSound (drafted empty image) d globals
      first = subst (λ f. IsSound f d globals) (sym same) s

      reserved : Reserves empty mid (drafted empty image) (drafted mid image)
      reserved = reserves image is (lawful_file (drafted empty image) d globals first)

      mid_sound : IsSound (drafted mid image) d globals
      mid_sound =
          reserved_sound empty mid (drafted empty image) (drafted mid image) d globals
          (λ e. ap (λ (x : DraftState). drafted x image) e) first reserved

      mid_trees : HasSameTrees image d globals (drafted mid image)
      mid_trees =
          subst (λ f. HasSameTrees f d globals (drafted mid image)) same
          (reserved_trees empty mid (drafted empty image) (drafted mid image) d globals
          (λ e. ap (λ (x : DraftState). drafted x image) e) first reserved)

  -- A call that finds fault with the file of the reserved draft does so only where nothing is told.
  pub never_changed : 32 ≤ mid.header.free
      → ForSome told (λ image. (d : Tree) (globals : List Tree) → IsSound (drafted mid image) d globals
      → 17 ≤ mid.header.free → ⊥) → told ≡ None
  never_changed enough cannot =
      none_from told (λ image is.
      let f = faultless image is in
      cannot image is f.directory f.globals (mid_sound image is f.directory f.globals f.sound)
      (omega (arith, enough)))

  -- Where that file is deep for the node, the image is.
  pub deep_then : ForSome told (λ image. (d : Tree) (globals : List Tree) → IsSound (drafted mid image) d globals
      → IsDeepForNode (drafted mid image) d p.node)
      → ForSome told (λ image. IsDeep image p.node)
  deep_then deep image is =
      let f = faultless image is in
      deep_in_image image (bytes image is) f.directory f.globals f.sound p (drafted mid image)
      (mid_trees image is f.directory f.globals f.sound)
      (deep image is f.directory f.globals (mid_sound image is f.directory f.globals f.sound))

  -- And it has as much room.
  pub used_then : ForSome told (λ image. IsDraftOf image mid) → (h : Header) → empty.header ≡ h
      → (last : DraftState)
      → last.header ≡ record mid.header { free = last.header.free; master = last.header.master }
      → mid.header.free ≤ last.header.free + 19
      → ForSome told (λ image. room_of h ≤ room_of last.header + 32)
  used_then drafts h header last fields few image is =
      let f = faultless image is in
      let e = empties image is in
      let s = f.sound in
      let kept = reserved_room empty mid (drafted empty image) (drafted mid image)
      (drafted_read image empty e.is_draft).fields (drafted_read image mid (drafts image is)).fields
      (drafts image is).draft_is.limits.total_to (reserved image is f.directory f.globals s) in
      omega (arith, kept, ap room_of header, taken_room mid.header last.header 19 fields few)

  module _ (last : DraftState) (value : List ℕ)
      (sets : ForSome told (λ image. (d : Tree) (globals : List Tree) → IsSound (drafted mid image) d globals
      → IsSoundWith (drafted last image) globals (item_at p.node value))) where
    sound_with : (image : List ℕ) → told ≡ Some image → (d : Tree) (globals : List Tree) → IsSound image d globals
        → IsSoundWith (drafted last image) globals (item_at p.node value)
    sound_with image is d globals s = sets image is d globals (mid_sound image is d globals s)

    pub faultless_then : ForSome told (λ image. IsFaultless (drafted last image))
    faultless_then image is =
        let f = faultless image is in
        let with_item = sound_with image is f.directory f.globals f.sound in
        record { directory = with_item.directory; globals = with_item.globals; sound = with_item.sound }

    pub leads_then : ForSome told (λ image. IsDraftOf image last) → HoldsBytes last → last.header.tn < 2 ^ 63
        → ForSome told (LeadsToSet last p value)
    leads_then drafts holds few image is file made m stands =
        let f = faultless image is in
        let with_item = sound_with image is f.directory f.globals f.sound in
        let fields = (drafted_read image last (drafts image is)).fields in
        let sound = stamp_keeps_trees (drafted last image) file with_item.directory with_item.globals with_item.sound
        (committed_is_stamped image last file (drafts image is) few made)
        (omega (arith, few, ap (λ (h : Header). h.tn) fields)) in
        set_is_in_map image file f.directory f.globals m p value f.sound stands
        (committed_is_bytes image last file (drafts image is) few holds (bytes image is) made) (record {
          directory = with_item.directory;
          globals = with_item.globals;
          sound = sound;
          sets = with_item.sets;
        })

-- What is told behind a commit stands for the map after the SET.
told_after_same : (old new : Option (List ℕ)) (draft : DraftState) (p : Place) (value : List ℕ)
    → ForSome old (LeadsToSet draft p value) → TellsOn old new (IsCommitted draft)
    → TellsOn old new (IsAfterSet p value)
told_after_same None new draft p value leads made = tt
told_after_same (Some image) None draft p value leads made = absurd made
told_after_same (Some image) (Some file) draft p value leads made = leads image refl file made

pub told_after : (old mid new : Option (List ℕ)) (draft : DraftState) (p : Place) (value : List ℕ) → mid ≡ old
    → ForSome old (LeadsToSet draft p value) → TellsOn mid new (IsCommitted draft)
    → TellsOn old new (IsAfterSet p value)
told_after old mid new draft p value same leads made =
    told_after_same old new draft p value leads (subst (λ o. TellsOn o new (IsCommitted draft)) same made)

-- How many blocks a draft has, that grew and was changed.
pub few_units : (none mid last : ℕ) (a b x y : ℕ) (most : ℕ) → none ≡ 0 → mid ≤ none + (1 + new_maps a x)
    → last ≤ mid + most → a ≡ b → y ≡ x → last ≤ (1 + most) + new_maps b y
few_units none mid last a b x y most zero first second from to =
    omega (arith, zero, first, second, ap (λ n. new_maps n x) from, ap (new_maps b) to)
