-- Where gate 0 is open before a group of the epoch's images, an opening finds the epoch's database.
use Rattle.std.proofs.Common.{◌≡◌, ◌≢◌, ℕ, zero, suc, ◌+◌, ◌^◌, ◌<◌, ◌≤◌, false, List, [], ◌∷◌}
use Rattle.std.proofs.Common.{◌++◌, length, take, drop, slice_index, slice_set, Some, Ok, refl, sym, ap, subst, ◌∙◌}
use Rattle.std.proofs.Common.{inl, inr, arith, eqb, append_assoc, length-append, length-drop, drop-drop, get_or}
use Rattle.std.specs.Prelude.{All}
use Rattle.std.proofs.lemmas.Bool.{ne_eqb}
use Rattle.std.proofs.lemmas.List.{drop_at, take_at, take_all, take-append-drop, take_more_set}
use Rattle.std.proofs.lemmas.List.{drop-set-lt, set-set, set-get_or}
use Rattle.std.proofs.lemmas.List.Elements.{All-cons, All-head, All-nil, All-tail, All-weaker}
use Rattle.gds_block.specs.Fields.{u32_bytes, u64_bytes}
use Rattle.gds_block.proofs.FieldLemmas.{length-u32_bytes, length-u64_bytes}
use Rattle.gds_images.specs.declared.chain.Chain.{Chain}
use Rattle.gds_images.specs.declared.chain.Place.{Place}
use Rattle.gds_images.specs.Chain.{bytes_of, chain_of}
use Rattle.gds_images.specs.Group.{Image, gate_behind, group_bytes, image_bytes, images_bytes, places_from}
use Rattle.gds_images.specs.Laws.{FitsEpoch, IsCovered}
use Rattle.gds_images.specs.Outcome.{IsClosed, IsWhole}
use Rattle.gds_images.specs.Recovered.{laid, laid_back, recovered, recovered_by, trimmed}
use Rattle.gds_images.proofs.GroupLemmas.{first_group_is, image_behind, opens}
use Rattle.gds_images.proofs.LaidLemmas.{laid_back_itself, laid_over_outside}
use Rattle.gds_images.proofs.RestLemmas.{closed_chain, trimmed_front}
use Rattle.gds_epoch.specs.Epoch.{IsImageOf}
use Rattle.gds_epoch.specs.State.{HasGroup, IsImaged, IsOutside}

-- A place has bytes of the epoch's database, those that stand there.
record IsPlaceOf (epoch file : List ℕ) (place : Place) : Type 0 where
  pub within : place.at + place.len ≤ length epoch
  pub whole : length (bytes_of file place) ≡ place.len
  pub bytes : bytes_of file place ≡ take place.len (drop place.at epoch)

-- the bytes of an image that stands at a place of the file
image_read : (file : List ℕ) (at : ℕ) (image : Image) (rest : List ℕ) → drop at file ≡ image_bytes image ++ rest
    → take (length image.bytes) (drop (at + 12) file) ≡ image.bytes
image_read file at image rest here =
    let head : List ℕ = u64_bytes image.at ++ u32_bytes (length image.bytes) in
    let size : length head ≡ 12 = simp (length-append, length-u64_bytes, length-u32_bytes) in
    ap (take (length image.bytes))
    (sym (drop-drop 12 at file) ∙ ap (drop 12) (here ∙ append_assoc head image.bytes rest)
    ∙ drop_at head (image.bytes ++ rest) 12 size)
    ∙ take_at image.bytes rest (length image.bytes) refl

-- So are the places of images that stand one after another.
places_of : (epoch file : List ℕ) (images : List Image) (from : ℕ) (rest : List ℕ)
    → All (IsImageOf epoch) images → drop from file ≡ images_bytes images ++ rest
    → All (IsPlaceOf epoch file) (places_from from images)
places_of epoch file [] from rest old here = All-nil (IsPlaceOf epoch file)
places_of epoch file (image ∷ images) from rest old here =
    let first = All-head (IsImageOf epoch) image images old in
    let this : drop from file ≡ image_bytes image ++ (images_bytes images ++ rest) =
    here ∙ append_assoc (image_bytes image) (images_bytes images) rest in
    let read = image_read file from image (images_bytes images ++ rest) this in
    All-cons (IsPlaceOf epoch file) (record { at = image.at; len = length image.bytes; from = from + 12 })
    (places_from (from + 12 + length image.bytes) images)
    (record { within = first.fits.within; whole = ap length read; bytes = read ∙ first.old })
    (places_of epoch file images (from + 12 + length image.bytes) rest (All-tail (IsImageOf epoch) image images old)
    (image_behind file from image (images_bytes images ++ rest) this))

-- A byte in the range of an image is covered by its place.
covered_at : (images : List Image) (from i k : ℕ) (image : Image) → k < length images → get_or images k image ≡ image
    → image.at ≤ i → i < image.at + length image.bytes → IsCovered (places_from from images) i
covered_at [] from i k image within is after before = absurd (omega arith)
covered_at (x ∷ images) from i zero image within is after before =
    inl (subst (λ (y : Image). (y.at ≤ i) × (i < y.at + length y.bytes)) (sym is) (after, before))
covered_at (x ∷ images) from i (suc k) image within is after before =
    inr (covered_at images (from + 12 + length x.bytes) i k image (omega arith) is after before)

imaged_covered : (images : List Image) (from i : ℕ) → IsImaged images i → IsCovered (places_from from images) i
imaged_covered images from i some = covered_at images from i some.0 some.1 some.2 some.3 some.4.0 some.4.1

-- a file with a group behind gate 0
module _ (epoch : List ℕ) (images : List Image) (file : List ℕ) (has : HasGroup (length epoch) images file) where
  abbrev group : List ℕ
  group = group_bytes 8 (length epoch) images

  abbrev behind : List ℕ
  behind = drop (length group) (drop 9 file)

  group_here : drop 9 file ≡ group ++ behind
  group_here =
      sym (take-append-drop (length group) (drop 9 file)) ∙ ap (λ xs. xs ++ behind) has.group

  images_here : drop 25 file ≡ images_bytes images ++ (0 ∷ behind)
  images_here =
      let n = u64_bytes (length (images_bytes images)) in
      let e = u64_bytes (length epoch) in
      let size : length (n ++ e) ≡ 16 = simp (length-append, length-u64_bytes) in
      let parts : group ++ behind ≡ (n ++ e) ++ (images_bytes images ++ (0 ∷ behind)) =
      ap (λ xs. xs ++ behind) (first_group_is 8 (length epoch) images refl) ∙ simp append_assoc in
      sym (drop-drop 16 9 file) ∙ ap (drop 16) (group_here ∙ parts)
      ∙ drop_at (n ++ e) (images_bytes images ++ (0 ∷ behind)) 16 size

  pub group_long : 26 ≤ length file
  group_long =
      omega (arith, length-drop 25 file, ap length images_here, length-append (images_bytes images) (0 ∷ behind))

  -- with the gate closed it is a closed file
  abbrev closed : List ℕ
  closed = slice_set file 8 0

  pub is_closed : IsClosed closed
  is_closed = take_more_set file 8 0 (let long = group_long in omega arith) ∙ ap (λ xs. xs ++ 0 ∷ []) has.begins

  closed_again : slice_set closed 8 (slice_index file 8) ≡ file
  closed_again = set-set file 8 0 (slice_index file 8) ∙ set-get_or file 8 0

  -- opened, its images are the group's
  module _ (old : All (IsImageOf epoch) images) (short : length epoch < 2 ^ 63) (ends : gate_behind 8 images < 2 ^ 63)
      (opened : slice_index file 8 ≢ 0) where
    fits : All (FitsEpoch (length epoch)) images
    fits = All-weaker (IsImageOf epoch) (FitsEpoch (length epoch)) (λ image is. is.fits) images old

    abbrev places : List Place
    places = places_from 25 images

    places_are : All (IsPlaceOf epoch file) places
    places_are = places_of epoch file images 25 (0 ∷ behind) old images_here

    abbrev chain : Chain
    chain = record { epoch_length = length epoch; images = places; next_gate = gate_behind 8 images }

    chain_is : (n : ℕ) → length epoch ≤ n → chain_of file n ≡ Ok chain
    chain_is n long =
        let here : take (length group) (drop 9 closed) ≡ group =
        ap (take (length group)) (drop-set-lt 9 file 8 0 (omega arith)) ∙ has.group in
        ap (λ f. chain_of f n) (sym closed_again)
        ∙ opens closed (slice_index file 8) n (length epoch) (record { epoch_length = 0; images = []; next_gate = 8 })
        images (closed_chain closed n is_closed) long short (λ no. absurd (no refl)) fits ends here opened

    -- and laying them back over a file that differs in their ranges alone gives the epoch's database
    module _ (db : List ℕ) (outside : IsOutside epoch images db) where
      laid_is : take (length epoch) (laid file places db) ≡ epoch
      laid_is =
          let within = All-weaker (IsPlaceOf epoch file) (λ place. place.at + place.len ≤ length epoch)
          (λ place is. is.within) places places_are in
          laid_over_outside file db epoch (length epoch) places within
          (All-weaker (IsPlaceOf epoch file) (λ place. length (bytes_of file place) ≡ place.len)
          (λ place is. is.whole) places places_are)
          outside.long (omega arith)
          (λ i below none. outside.same i below (λ some. none (imaged_covered images 25 i some)))
          ∙ ap (take (length epoch)) (laid_back_itself file epoch places within
          (All-weaker (IsPlaceOf epoch file) (λ place. bytes_of file place ≡ take place.len (drop place.at epoch))
          (λ place is. is.bytes) places places_are))
          ∙ take_all (length epoch) epoch (omega arith)

      later_gate : eqb (gate_behind 8 images) 8 ≡ false
      later_gate = ne_eqb (gate_behind 8 images) 8 (λ same. omega arith)

      pub recovered_back : IsWhole epoch → recovered db file ≡ Some epoch
      unfolding recovered
      recovered_back whole =
          let back : laid_back file chain db ≡ epoch = rw later_gate laid_is in
          ap (recovered_by db file) (chain_is (length db) outside.long)
          ∙ ap (λ f. Some (trimmed f)) back
          ∙ ap Some (trimmed_front epoch whole epoch (take_all (length epoch) epoch (omega arith)))
