-- A group of images as it is written, and that it is read again.
use Rattle.std.proofs.Common.{◌≡◌, ◌≢◌, ℕ, zero, suc, ◌+◌, ◌-◌, ◌^◌, ◌<◌, ◌≤◌, true, false, List, [], ◌∷◌}
use Rattle.std.proofs.Common.{◌++◌, length, take, drop, slice_index, slice_set, Ok, refl, sym, ap, subst, ◌∙◌}
use Rattle.std.proofs.Common.{⊎_elim, arith, eqb, append_assoc, length-append, length-drop, drop-drop}
use Rattle.std.specs.Prelude.{All}
use Rattle.std.proofs.lemmas.Bool.{eq-eqb, ne_eqb}
use Rattle.std.proofs.lemmas.List.{drop_at, drop-set-lt, get_or-set_same, get_or_at, length-set, take-append-drop}
use Rattle.std.proofs.lemmas.List.{take-set}
use Rattle.std.proofs.lemmas.List.{get_or-drop}
use Rattle.std.proofs.lemmas.List.Elements.{All-head, All-tail}
use Rattle.gds_block.specs.Fields.{u32_at, u64_at, u32_bytes, u64_bytes}
use Rattle.gds_block.proofs.FieldLemmas.{length-u32_bytes, length-u64_bytes, u32_at-here, u64_at-here}
use Rattle.gds_images.specs.declared.chain.Chain.{Chain}
use Rattle.gds_images.specs.Chain.{and_then, chain_behind, chain_of, images_from, images_up_to, with_first}
use Rattle.gds_images.specs.Group.{Image, gate_behind, group_bytes, image_bytes, images_bytes, images_place}
use Rattle.gds_images.specs.Group.{places_from}
use Rattle.gds_images.specs.Laws.{FitsEpoch, OpensToGroup}
use Rattle.gds_images.proofs.AgreeLemmas.{Agree-from}
use Rattle.gds_images.proofs.ImagesLemmas.{IsGood, images_step}
use Rattle.gds_images.proofs.ChainLemmas.{Begins, IsClosedChain, IsOpenChain, begins_agrees, behind_first}
use Rattle.gds_images.proofs.ChainLemmas.{chain_ends, chain_of_cases, chain_opened, first_group, opened_upto}
use Rattle.gds_images.proofs.GateLemmas.{IsGroup, chain_closes, chain_more, chain_step, ended}

pub length-image_bytes : (image : Image) → length (image_bytes image) ≡ 12 + length image.bytes
length-image_bytes image =
    let at = length-u64_bytes image.at in
    let len = length-u32_bytes (length image.bytes) in
    simp (length-append, length-u64_bytes, length-u32_bytes)

pub length-images_bytes : (image : Image) (images : List Image)
    → length (images_bytes (image ∷ images)) ≡ 12 + length image.bytes + length (images_bytes images)
length-images_bytes image images =
    length-append (image_bytes image) (images_bytes images)
    ∙ ap (λ n. n + length (images_bytes images)) (length-image_bytes image)

-- the fields of an image that stands at a place
module _ (file : List ℕ) (at : ℕ) (image : Image) (rest : List ℕ) (here : drop at file ≡ image_bytes image ++ rest)
  where
    pub image_fields : drop at file ≡ u64_bytes image.at ++ (u32_bytes (length image.bytes) ++ (image.bytes ++ rest))
    image_fields = here ∙ simp append_assoc

    pub image_at_is : image.at < 2 ^ 64 → u64_at file at ≡ image.at
    image_at_is fits = u64_at-here file (u32_bytes (length image.bytes) ++ (image.bytes ++ rest)) at image.at fits
        image_fields

    pub image_length_is : length image.bytes < 2 ^ 32 → u32_at file (at + 8) ≡ length image.bytes
    image_length_is fits =
        let next : drop (at + 8) file ≡ u32_bytes (length image.bytes) ++ (image.bytes ++ rest) =
        sym (drop-drop 8 at file) ∙ ap (drop 8) image_fields
        ∙ drop_at (u64_bytes image.at) (u32_bytes (length image.bytes) ++ (image.bytes ++ rest)) 8
        (length-u64_bytes image.at) in
        u32_at-here file (image.bytes ++ rest) (at + 8) (length image.bytes) fits next

    pub image_behind : drop (at + 12 + length image.bytes) file ≡ rest
    image_behind =
        let n = 12 + length image.bytes in
        let place : at + 12 + length image.bytes ≡ at + n = omega arith in
        ap (λ k. drop k file) place ∙ sym (drop-drop n at file) ∙ ap (drop n) here
        ∙ drop_at (image_bytes image) rest n (length-image_bytes image)

-- Images that stand at a place are read there.
pub images_read : (images : List Image) (n : ℕ) (file : List ℕ) (epoch at : ℕ) (rest : List ℕ) → epoch < 2 ^ 64
    → All (FitsEpoch epoch) images → drop at file ≡ images_bytes images ++ rest
    → at + length (images_bytes images) ≤ length file → length (images_bytes images) ≤ n
    → images_up_to n file epoch at (length (images_bytes images)) ≡ Ok (places_from at images)
images_read [] n file epoch at rest small fit here long enough = none n
  where
    none : (n : ℕ) → images_up_to n file epoch at 0 ≡ Ok []
    none zero = refl
    none (suc n) = refl
images_read (image ∷ images) zero file epoch at rest small fit here long enough =
    absurd (omega (arith, length-images_bytes image images))
images_read (image ∷ images) (suc n) file epoch at rest small fit here long enough =
    let first = All-head (FitsEpoch epoch) image images fit in
    let size = length-images_bytes image images in
    let left = length (images_bytes (image ∷ images)) in
    let len = length image.bytes in
    let within = first.within in
    let some = first.some in
    let behind = images_bytes images ++ rest in
    let this : drop at file ≡ image_bytes image ++ behind =
    here ∙ append_assoc (image_bytes image) (images_bytes images) rest in
    let is_at = image_at_is file at image behind this (omega arith) in
    let is_len = image_length_is file at image behind this first.short in
    let good : IsGood file epoch at left len =
    record { some = some; fills = omega arith; whole = omega arith; low = omega arith } in
    let next = at + 12 + len in
    let fewer : left - (12 + len) ≡ length (images_bytes images) = omega arith in
    images_step n file epoch at left len image.at is_at is_len good
    ∙ ap (λ k. and_then (images_up_to n file epoch next k)
    (with_first (record { at = image.at; len = len; from = at + 12 }))) fewer
    ∙ ap (λ r. and_then r (with_first (record { at = image.at; len = len; from = at + 12 })))
    (images_read images n file epoch next rest small (All-tail (FitsEpoch epoch) image images fit)
    (image_behind file at image behind this) (omega arith) (omega arith))

-- ---- The two forms of a group.

pub first_group_is : (gate epoch : ℕ) (images : List Image) → gate ≡ 8
    → group_bytes gate epoch images
    ≡ u64_bytes (length (images_bytes images)) ++ (u64_bytes epoch ++ (images_bytes images ++ 0 ∷ []))
unfolding group_bytes
first_group_is gate epoch images is = let t : eqb gate 8 ≡ true = eq-eqb gate 8 is in rw t (simp append_assoc)

pub later_group_is : (gate epoch : ℕ) (images : List Image) → gate ≢ 8
    → group_bytes gate epoch images ≡ u64_bytes (length (images_bytes images)) ++ (images_bytes images ++ 0 ∷ [])
unfolding group_bytes
later_group_is gate epoch images isnt = let t : eqb gate 8 ≡ false = ne_eqb gate 8 isnt in rw t (simp append_assoc)

pub first_place : (gate : ℕ) → gate ≡ 8 → images_place gate ≡ gate + 17
first_place gate is = let t : eqb gate 8 ≡ true = eq-eqb gate 8 is in rw t (omega arith)

pub later_place : (gate : ℕ) → gate ≢ 8 → images_place gate ≡ gate + 9
later_place gate isnt = let t : eqb gate 8 ≡ false = ne_eqb gate 8 isnt in rw t (omega arith)

-- ---- A group in a file.

-- Images and a closed gate behind them, from a place on.
module _ (file : List ℕ) (epoch at : ℕ) (images : List Image) (rest : List ℕ) (small : epoch < 2 ^ 64)
    (fit : All (FitsEpoch epoch) images) (here : drop at file ≡ images_bytes images ++ 0 ∷ rest) where
  gate_within : at + length (images_bytes images) < length file
  gate_within =
      let all = length-append (images_bytes images) (0 ∷ rest) in
      omega (arith, length-drop at file, ap length here)

  gate_closed : slice_index file (at + length (images_bytes images)) ≡ 0
  gate_closed =
      let n = length (images_bytes images) in
      sym (get_or-drop at file n 0) ∙ ap (λ xs. slice_index xs n) here ∙ get_or_at (images_bytes images) 0 rest 0 n refl

  images_there : images_from file epoch at (length (images_bytes images)) ≡ Ok (places_from at images)
  images_there =
      let within = gate_within in
      images_read images (length file) file epoch at (0 ∷ rest) small fit here (omega arith) (omega arith)

-- what stands behind a gate that was opened
opened_file : (file : List ℕ) (byte gate : ℕ) (group : List ℕ) → take (length group) (drop (gate + 1) file) ≡ group
    → drop (gate + 1) (slice_set file gate byte) ≡ group ++ drop (length group) (drop (gate + 1) file)
opened_file file byte gate group stands =
    drop-set-lt (gate + 1) file gate byte (omega arith)
    ∙ sym (take-append-drop (length group) (drop (gate + 1) file))
    ∙ ap (λ xs. xs ++ drop (length group) (drop (gate + 1) file)) stands

-- A number and what stands behind it, from a place on.
next_field : (file : List ℕ) (at end n : ℕ) (rest : List ℕ) → drop at file ≡ u64_bytes n ++ rest → end ≡ at + 8
    → drop end file ≡ rest
next_field file at end n rest here is =
    ap (λ k. drop k file) is ∙ sym (drop-drop 8 at file) ∙ ap (drop 8) here
    ∙ drop_at (u64_bytes n) rest 8 (length-u64_bytes n)

module _ (file : List ℕ) (byte n epoch : ℕ) (images : List Image) (small : epoch < 2 ^ 63)
    (fit : All (FitsEpoch epoch) images) (some : byte ≢ 0) where
  abbrev size : ℕ
  size = length (images_bytes images)

  -- behind gate 0
  opens_first : Begins file → epoch ≤ n → size < 2 ^ 63
      → take (length (group_bytes 8 epoch images)) (drop 9 file) ≡ group_bytes 8 epoch images
      → chain_of (slice_set file 8 byte) n ≡ Ok (ended epoch (places_from 25 images) (25 + size))
  opens_first begins low short stands =
      let b = slice_set file 8 byte in
      let rest = drop (length (group_bytes 8 epoch images)) (drop 9 file) in
      let all : drop 9 b ≡ u64_bytes size ++ (u64_bytes epoch ++ (images_bytes images ++ 0 ∷ rest)) =
      opened_file file byte 8 (group_bytes 8 epoch images) stands
      ∙ ap (λ xs. xs ++ rest) (first_group_is 8 epoch images refl) ∙ simp append_assoc in
      let second : drop 17 b ≡ u64_bytes epoch ++ (images_bytes images ++ 0 ∷ rest) =
      next_field b 9 17 size (u64_bytes epoch ++ (images_bytes images ++ 0 ∷ rest)) all refl in
      let third : drop 25 b ≡ images_bytes images ++ 0 ∷ rest =
      next_field b 17 25 epoch (images_bytes images ++ 0 ∷ rest) second refl in
      let is_size : u64_at b 9 ≡ size = u64_at-here b _ 9 size (omega arith) all in
      let is_epoch : u64_at b 17 ≡ epoch = u64_at-here b _ 17 epoch (omega arith) second in
      let long = length-set file 8 byte in
      let gate = begins.gate in
      let open_byte : slice_index b 8 ≡ byte = get_or-set_same file 8 byte 0 (omega arith) in
      let again : Begins b = begins_agrees 8 file b (omega arith) (omega arith)
      (Agree-from 8 file b (omega arith) (take-set file 8 byte)) begins in
      let within = gate_within b epoch 25 images rest (omega arith) fit third in
      let first : first_group b ≡ Ok (places_from 25 images) =
      ap (λ e. images_from b e 25 (u64_at b 9)) is_epoch ∙ ap (images_from b epoch 25) is_size
      ∙ images_there b epoch 25 images rest (omega arith) fit third in
      chain_opened b n again (λ e. some (sym open_byte ∙ e)) (omega arith) (omega arith)
      ∙ ap (λ r. and_then r (behind_first b)) first
      ∙ ap (λ e. chain_behind (length b) b e (places_from 25 images) (25 + u64_at b 9)) is_epoch
      ∙ ap (λ k. chain_behind (length b) b epoch (places_from 25 images) (25 + k)) is_size
      ∙ chain_ends b (ended epoch (places_from 25 images) (25 + size)) (omega arith) within
      (gate_closed b epoch 25 images rest (omega arith) fit third)

  -- behind a later gate
  opens_later : (chain : Chain) → IsOpenChain file n chain → chain.next_gate ≢ 8 → chain.epoch_length ≡ epoch
      → size < 2 ^ 63
      → take (length (group_bytes chain.next_gate epoch images)) (drop (chain.next_gate + 1) file)
      ≡ group_bytes chain.next_gate epoch images
      → chain_of (slice_set file chain.next_gate byte) n
      ≡ Ok (ended epoch (chain.images ++ places_from (chain.next_gate + 9) images) (chain.next_gate + 9 + size))
  opens_later chain opened later same short stands =
      let gate = chain.next_gate in
      let b = slice_set file gate byte in
      let g = group_bytes gate epoch images in
      let rest = drop (length g) (drop (gate + 1) file) in
      let places = places_from (gate + 9) images in
      let all : drop (gate + 1) b ≡ u64_bytes size ++ (images_bytes images ++ 0 ∷ rest) =
      opened_file file byte gate g stands
      ∙ ap (λ xs. xs ++ rest) (later_group_is gate epoch images later) ∙ simp append_assoc in
      let second : drop (gate + 9) b ≡ images_bytes images ++ 0 ∷ rest =
      next_field b (gate + 1) (gate + 9) size (images_bytes images ++ 0 ∷ rest) all (omega arith) in
      let is_size : u64_at b (gate + 1) ≡ size = u64_at-here b _ (gate + 1) size (omega arith) all in
      let long = length-set file gate byte in
      let closes = chain_closes (length file) file (u64_at file 17) opened.places (25 + u64_at file 9) chain
      opened.behind in
      let short_enough = closes.within in
      let from = closes.later in
      let open_byte : slice_index b gate ≡ byte = get_or-set_same file gate byte 0 short_enough in
      let within = gate_within b epoch (gate + 9) images rest (omega arith) fit second in
      let group : IsGroup b epoch gate places = record {
        opened = λ e. some (sym open_byte ∙ e);
        whole = omega arith;
        images = ap (images_from b epoch (gate + 9)) is_size
            ∙ images_there b epoch (gate + 9) images rest (omega arith) fit second;
      } in
      opened_upto file b n chain opened (Agree-from gate file b (omega arith) (take-set file gate byte))
      ∙ ap (λ e. chain_behind (length b) b e chain.images gate) same
      ∙ chain_more b epoch chain.images gate (omega arith) (omega arith)
      ∙ chain_step (length b) b epoch chain.images gate places group
      ∙ ap (λ k. chain_behind (length b) b epoch (chain.images ++ places) (gate + 9 + k)) is_size
      ∙ chain_ends b (ended epoch (chain.images ++ places) (gate + 9 + size)) (omega arith) within
      (gate_closed b epoch (gate + 9) images rest (omega arith) fit second)

pub opens : OpensToGroup
opens file byte n epoch chain images ok low small same fit short stands some = ⊎_elim
    (λ (shut : IsClosedChain file chain).
    subst (λ (c : Chain). gate_behind c.next_gate images < 2 ^ 63
    → take (length (group_bytes c.next_gate epoch images)) (drop (c.next_gate + 1) file)
    ≡ group_bytes c.next_gate epoch images
    → chain_of (slice_set file c.next_gate byte) n ≡ Ok (ended epoch
    (c.images ++ places_from (images_place c.next_gate) images) (gate_behind c.next_gate images)))
    (sym shut.is)
    (λ few there. opens_first file byte n epoch images small fit some shut.begins low (omega arith) there)
    short stands)
    (λ (opened : IsOpenChain file n chain).
    let gate = chain.next_gate in
    let from = (chain_closes (length file) file (u64_at file 17) opened.places (25 + u64_at file 9) chain
    opened.behind).later in
    let later : gate ≢ 8 = λ e. omega arith in
    let place = later_place gate later in
    opens_later file byte n epoch images small fit some chain opened later (same later) (omega arith) stands
    ∙ ap (λ p. Ok (ended epoch (chain.images ++ places_from p images) (p + length (images_bytes images)))) (sym place))
    (chain_of_cases file n chain ok)
