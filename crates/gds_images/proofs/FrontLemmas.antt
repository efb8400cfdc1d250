-- What the first bytes from a place on say of a file of images.
use Rattle.std.proofs.Common.{◌≡◌, ◌≢◌, ◌⊎◌, ℕ, suc, ◌+◌, ◌-◌, ◌<◌, ◌≤◌, min, true, false, List, []}
use Rattle.std.proofs.Common.{◌∷◌, ◌++◌, length, take, drop, slice_index, None, Some, Result, Ok, Err, refl, sym}
use Rattle.std.proofs.Common.{ap, ◌∙◌, ⊎_elim, arith, ltb, leb, eqb, length-take, length-drop, get_or-take}
use Rattle.std.proofs.Common.{get_or-drop, append_assoc, append-nil, add-zero, drop-drop}
use Rattle.std.specs.Prelude.{not, ◌||◌, nat_eq}
use Rattle.std.specs.Int.{w32, w64, from_le_bytes}
use Rattle.std.specs.List.{starts_with}
use Rattle.std.specs.Cmp.Lexicographic.{pointwise}
use Rattle.std.proofs.lemmas.Bool.{eq-eqb, le-leb, le-ltb, lt-leb, lt-ltb, ne_eqb, or_left, or_right}
use Rattle.std.proofs.lemmas.List.{take-take}
use Rattle.gds_block.specs.Fields.{u32_at, u64_at}
use Rattle.gds_block.proofs.FieldLemmas.{u32_at-front, u64_at-front}
use Rattle.gds_images.specs.declared.chain.Chain.{Chain}
use Rattle.gds_images.specs.declared.chain.Place.{Place}
use Rattle.gds_images.specs.Chain.{and_then, bad_field, chain_behind, chain_of, image_at, image_length, images_from}
use Rattle.gds_images.specs.Chain.{images_up_to, label, with_first}
use Rattle.gds_images.specs.Reading.{read_gate, read_on}
use Rattle.gds_images.proofs.ChainLemmas.{Begins, chain_closed, chain_opened}
use Rattle.gds_images.proofs.GateLemmas.{chain_end, chain_more, ended, images_more, then_same}
use Rattle.gds_images.proofs.ImagesLemmas.{IsGood, good_field, images_end, images_step, no_bad_field}

-- ---- The bytes of a front are those of the file.

u32_behind : (file : List ℕ) (at i : ℕ) → u32_at (drop at file) i ≡ u32_at file (at + i)
unfolding u32_at
u32_behind file at i = ap (from_le_bytes w32) (drop-drop i at file)

u64_behind : (file : List ℕ) (at i : ℕ) → u64_at (drop at file) i ≡ u64_at file (at + i)
unfolding u64_at
u64_behind file at i = ap (from_le_bytes w64) (drop-drop i at file)

module _ (n at : ℕ) (file front : List ℕ) (is : front ≡ take n (drop at file)) where
  pub front_length : length front ≡ min n (length file - at)
  front_length = ap length is ∙ length-take n (drop at file) ∙ ap (min n) (length-drop at file)

  pub front_byte : (i : ℕ) → i < n → slice_index front i ≡ slice_index file (at + i)
  front_byte i lt = ap (λ xs. slice_index xs i) is ∙ get_or-take n (drop at file) i 0 lt ∙ get_or-drop at file i 0

  pub front_u32 : (i : ℕ) → i + 4 ≤ n → u32_at front i ≡ u32_at file (at + i)
  front_u32 i fits = ap (λ xs. u32_at xs i) is ∙ u32_at-front n (drop at file) i fits ∙ u32_behind file at i

  pub front_u64 : (i : ℕ) → i + 8 ≤ n → u64_at front i ≡ u64_at file (at + i)
  front_u64 i fits = ap (λ xs. u64_at xs i) is ∙ u64_at-front n (drop at file) i fits ∙ u64_behind file at i

-- ---- The beginning of the file.

module _ (file front : List ℕ) (n : ℕ) (is : front ≡ take 25 file) where
  start_label : starts_with nat_eq file label ≡ starts_with nat_eq front label
  start_label = ap (pointwise nat_eq label) (sym (ap (take 8) is ∙ take-take 8 25 file (omega arith)))

  pub start_length : length front ≡ min 25 (length file)
  start_length = ap length is ∙ length-take 25 file

  start_byte : slice_index file 8 ≡ slice_index front 8
  start_byte = sym (ap (λ xs. slice_index xs 8) is ∙ get_or-take 25 file 8 0 (omega arith))

  pub bad_label : starts_with nat_eq front label ≡ false → chain_of file n ≡ Err 0
  unfolding chain_of
  bad_label wrong = let e = start_label ∙ wrong in rw e

  pub no_gate : starts_with nat_eq front label ≡ true → length front ≤ 8 → chain_of file n ≡ Err 8
  unfolding chain_of
  no_gate starts short =
      let e = start_label ∙ starts in
      let long = start_length in
      let gate : leb 9 (length file) ≡ false = lt-leb _ _ (omega arith) in
      rw (e, gate)

  start_begins : starts_with nat_eq front label ≡ true → 8 < length front → Begins file
  start_begins starts long =
      record { label = start_label ∙ starts; gate = omega (arith, start_length) }

  pub closed_start : starts_with nat_eq front label ≡ true → 8 < length front → slice_index front 8 ≡ 0
      → chain_of file n ≡ Ok (ended 0 [] 8)
  closed_start starts long closed = chain_closed file n (start_begins starts long) (start_byte ∙ closed)

  pub no_size : starts_with nat_eq front label ≡ true → slice_index front 8 ≢ 0 → 8 < length front
      → length front < 17 → chain_of file n ≡ Err 9
  unfolding chain_of
  no_size starts opened long short =
      let e = start_label ∙ starts in
      let same = start_length in
      let gate : leb 9 (length file) ≡ true = le-leb _ _ (omega arith) in
      let byte : eqb (slice_index file 8) 0 ≡ false = ne_eqb _ _ (λ z. opened (sym start_byte ∙ z)) in
      let size : leb 17 (length file) ≡ false = lt-leb _ _ (omega arith) in
      rw (e, gate, byte, size)

  pub no_epoch : starts_with nat_eq front label ≡ true → slice_index front 8 ≢ 0 → 17 ≤ length front
      → length front < 25 → chain_of file n ≡ Err 17
  unfolding chain_of
  no_epoch starts opened long short =
      let e = start_label ∙ starts in
      let same = start_length in
      let gate : leb 9 (length file) ≡ true = le-leb _ _ (omega arith) in
      let byte : eqb (slice_index file 8) 0 ≡ false = ne_eqb _ _ (λ z. opened (sym start_byte ∙ z)) in
      let size : leb 17 (length file) ≡ true = le-leb _ _ (omega arith) in
      let epoch : leb 25 (length file) ≡ false = lt-leb _ _ (omega arith) in
      rw (e, gate, byte, size, epoch)

  start_u64 : (i : ℕ) → i + 8 ≤ 25 → u64_at front i ≡ u64_at file i
  start_u64 i fits = ap (λ xs. u64_at xs i) is ∙ u64_at-front 25 file i fits

  pub long_epoch : starts_with nat_eq front label ≡ true → slice_index front 8 ≢ 0 → 25 ≤ length front
      → n < u64_at front 17 → chain_of file n ≡ Err 17
  unfolding chain_of
  long_epoch starts opened long above =
      let e = start_label ∙ starts in
      let same = start_length in
      let number = start_u64 17 (omega arith) in
      let gate : leb 9 (length file) ≡ true = le-leb _ _ (omega arith) in
      let byte : eqb (slice_index file 8) 0 ≡ false = ne_eqb _ _ (λ z. opened (sym start_byte ∙ z)) in
      let size : leb 17 (length file) ≡ true = le-leb _ _ (omega arith) in
      let there : leb 25 (length file) ≡ true = le-leb _ _ (omega arith) in
      let epoch : ltb n (u64_at file 17) ≡ true = lt-ltb _ _ (omega arith) in
      rw (e, gate, byte, size, there, epoch)

  pub open_start : starts_with nat_eq front label ≡ true → slice_index front 8 ≢ 0 → 25 ≤ length front
      → u64_at front 17 ≤ n → chain_of file n ≡ read_on file (u64_at front 17) [] 25 (u64_at front 9)
  open_start starts opened long low =
      let same = start_length in
      let epoch = start_u64 17 (omega arith) in
      let size = start_u64 9 (omega arith) in
      chain_opened file n (start_begins starts (omega arith)) (λ z. opened (sym start_byte ∙ z)) (omega arith)
      (omega arith)
      ∙ ap (λ e. read_on file e [] 25 (u64_at file 9)) (sym epoch)
      ∙ ap (read_on file (u64_at front 17) [] 25) (sym size)

-- ---- A gate.

module _ (file front : List ℕ) (gate epoch : ℕ) (images : List Place) (some : 0 < gate) (within : gate ≤ length file)
    (is : front ≡ take 9 (drop gate file)) where
  gate_length : length front ≡ min 9 (length file - gate)
  gate_length = front_length 9 gate file front is

  gate_byte : slice_index file gate ≡ slice_index front 0
  gate_byte = ap (slice_index file) (let e : gate ≡ gate + 0 = omega arith in e)
      ∙ sym (front_byte 9 gate file front is 0 (omega arith))

  pub gate_missing : length front ≡ 0 → read_gate file epoch images gate ≡ Err gate
  gate_missing none =
      let same = gate_length in
      let t : leb (gate + 1) (length file) ≡ false = lt-leb _ _ (omega arith) in
      chain_more file epoch images gate some within ∙ rw t

  pub gate_shut : 0 < length front → slice_index front 0 ≡ 0
      → read_gate file epoch images gate ≡ Ok (ended epoch images gate)
  gate_shut there closed =
      chain_more file epoch images gate some within
      ∙ chain_end (length file) file epoch images gate (omega (arith, gate_length)) (gate_byte ∙ closed)

  pub gate_size_missing : 0 < length front → slice_index front 0 ≢ 0 → length front < 9
      → read_gate file epoch images gate ≡ Err (gate + 1)
  gate_size_missing there opened short =
      let same = gate_length in
      let t : leb (gate + 1) (length file) ≡ true = le-leb _ _ (omega arith) in
      let byte : eqb (slice_index file gate) 0 ≡ false = ne_eqb _ _ (λ z. opened (sym gate_byte ∙ z)) in
      let size : leb (gate + 1 + 8) (length file) ≡ false = lt-leb _ _ (omega arith) in
      chain_more file epoch images gate some within ∙ rw (t, byte, size)

  pub gate_opened : slice_index front 0 ≢ 0 → 9 ≤ length front
      → read_gate file epoch images gate ≡ read_on file epoch images (gate + 9) (u64_at front 1)
  gate_opened opened long =
      let same = gate_length in
      let t : leb (gate + 1) (length file) ≡ true = le-leb _ _ (omega arith) in
      let byte : eqb (slice_index file gate) 0 ≡ false = ne_eqb _ _ (λ z. opened (sym gate_byte ∙ z)) in
      let there : leb (gate + 1 + 8) (length file) ≡ true = le-leb _ _ (omega arith) in
      let size = front_u64 9 gate file front is 1 (omega arith) in
      chain_more file epoch images gate some within ∙ (rw (t, byte, there))
      ∙ ap (read_on file epoch images (gate + 9)) (sym size)

-- ---- An image.

then_then : (r : Result (List Place) ℕ) (place : Place) (next : List Place → Result Chain ℕ)
    → and_then (and_then r (with_first place)) next ≡ and_then r (λ more. next (place ∷ more))
then_then (Ok more) place next = refl
then_then (Err at) place next = refl

module _ (file : List ℕ) (epoch : ℕ) (images : List Place) (at left : ℕ) where
  -- what is read behind the images from there on, where these come before them
  abbrev next : List Place → Result Chain ℕ
  next more = chain_behind (length file) file epoch (images ++ more) (at + left)

  -- Where no bytes are left the next gate follows.
  pub read_end : left ≡ 0 → read_on file epoch images at left ≡ read_gate file epoch images at
  read_end none =
      ap (read_on file epoch images at) none
      ∙ ap (λ r. and_then r (λ more. chain_behind (length file) file epoch (images ++ more) (at + 0)))
      (images_end (length file) file epoch at)
      ∙ ap (λ xs. chain_behind (length file) file epoch xs (at + 0)) (append-nil images)
      ∙ ap (chain_behind (length file) file epoch images) (add-zero at)

  module _ (some : 0 < at) (within : at ≤ length file) where
    read_once : images_from file epoch at left ≡ images_up_to (suc (length file)) file epoch at left
    read_once = images_more file epoch at left (suc (length file)) some within (omega arith)

    -- an image without a bad field
    pub read_image : bad_field file epoch at left ≡ None
        → read_on file epoch images at left
        ≡ read_on file epoch (images ++ image_at file at ∷ []) (at + (12 + image_length file at))
        (left - (12 + image_length file at))
    read_image none =
        let len = image_length file at in
        let image = image_at file at in
        let good = good_field file epoch at left none in
        let fills = good.fills in
        let rest = images_up_to (length file) file epoch (at + 12 + len) (left - (12 + len)) in
        let end : at + left ≡ at + (12 + len) + (left - (12 + len)) = omega arith in
        let place : at + 12 + len ≡ at + (12 + len) = omega arith in
        ap (λ r. and_then r next) (read_once ∙ images_step (length file) file epoch at left len (u64_at file at) refl
        refl good)
        ∙ then_then rest image next
        ∙ then_same rest (λ more. next (image ∷ more))
        (λ more. chain_behind (length file) file epoch (images ++ image ∷ [] ++ more)
        (at + (12 + len) + (left - (12 + len))))
        (λ more ok.
        ap (λ xs. chain_behind (length file) file epoch xs (at + left)) (sym (append_assoc images (image ∷ []) more))
        ∙ ap (chain_behind (length file) file epoch (images ++ image ∷ [] ++ more)) end)
        ∙ ap (λ k. and_then (images_up_to (length file) file epoch k (left - (12 + len)))
        (λ more. chain_behind (length file) file epoch (images ++ image ∷ [] ++ more)
        (at + (12 + len) + (left - (12 + len))))) place

    -- and one that has one
    pub read_bad : (bad : ℕ) → 0 < left → bad_field file epoch at left ≡ Some bad
        → read_on file epoch images at left ≡ Err bad
    read_bad bad more is =
        let some_left : eqb left 0 ≡ false = ne_eqb left 0 (λ e. omega arith) in
        let read : images_up_to (suc (length file)) file epoch at left ≡ Err bad = rw (some_left, is) in
        ap (λ r. and_then r next) (read_once ∙ read)

-- ---- The bad field of an image.

module _ (file front : List ℕ) (epoch at left : ℕ) (within : at ≤ length file) (is : front ≡ take 12 (drop at file))
  where
    image_front : length front ≡ min 12 (length file - at)
    image_front = front_length 12 at file front is

    len_is : u32_at front 8 ≡ image_length file at
    len_is = front_u32 12 at file front is 8 (omega arith)

    at_is : u64_at front 0 ≡ u64_at file at
    at_is = front_u64 12 at file front is 0 (omega arith) ∙ ap (u64_at file) (add-zero at)

    pub bad_place : length front < 8 → bad_field file epoch at left ≡ Some at
    unfolding bad_field
    bad_place short =
        let same = image_front in
        let t : leb (at + 8) (length file) ≡ false = lt-leb _ _ (omega arith) in
        rw t

    pub bad_room : left < 12 → bad_field file epoch at left ≡ Some at
    unfolding bad_field
    bad_room few =
        let t : ltb left 12 ≡ true = lt-ltb _ _ few in
        let e = or_right (not (leb (at + 8) (length file))) (ltb left 12) t in
        rw e

    module _ (long : 8 ≤ length front) (room : 12 ≤ left) where
      first_there : (not (leb (at + 8) (length file)) || ltb left 12) ≡ false
      first_there =
          let same = image_front in
          let t : leb (at + 8) (length file) ≡ true = le-leb _ _ (omega arith) in
          let u : ltb left 12 ≡ false = le-ltb _ _ room in
          rw (t, u)

      pub bad_length : length front < 12 → bad_field file epoch at left ≡ Some (at + 8)
      unfolding bad_field
      bad_length short =
          let same = image_front in
          let first = first_there in
          let t : leb (at + 8 + 4) (length file) ≡ false = lt-leb _ _ (omega arith) in
          rw (first, t)

      module _ (whole : 12 ≤ length front) where
        second_there : leb (at + 8 + 4) (length file) ≡ true
        second_there = le-leb _ _ (omega (arith, image_front))

        pub bad_end : left < 12 + u32_at front 8 → bad_field file epoch at left ≡ Some at
        unfolding bad_field
        bad_end past =
            let same = len_is in
            let first = first_there in
            let second = second_there in
            let t : ltb left (12 + image_length file at) ≡ true = lt-ltb _ _ (omega arith) in
            rw (first, second, t)

        module _ (fills : 12 + u32_at front 8 ≤ left) where
          third_there : ltb left (12 + image_length file at) ≡ false
          third_there = le-ltb _ _ (omega (arith, len_is))

          pub bad_rule : (u32_at front 8 ≡ 0) ⊎ (epoch < u64_at front 0 + u32_at front 8)
              → bad_field file epoch at left ≡ Some (at + 8)
          unfolding bad_field
          bad_rule broken =
              let same_len = len_is in
              let same_at = at_is in
              let first = first_there in
              let second = second_there in
              let third = third_there in
              let len = image_length file at in
              let rule : (eqb len 0 || ltb epoch (u64_at file at + len)) ≡ true = ⊎_elim
              (λ (none : u32_at front 8 ≡ 0). or_left (eqb len 0) _ (eq-eqb len 0 (omega arith)))
              (λ (high : epoch < u64_at front 0 + u32_at front 8).
              or_right (eqb len 0) (ltb epoch (u64_at file at + len)) (lt-ltb _ _ (omega arith))) broken in
              rw (first, second, third, rule)

          module _ (some : 0 < u32_at front 8) (low : u64_at front 0 + u32_at front 8 ≤ epoch) where
            pub bad_bytes : length file < at + 12 + u32_at front 8 → bad_field file epoch at left ≡ Some (at + 12)
            unfolding bad_field
            bad_bytes short =
                let same_len = len_is in
                let same_at = at_is in
                let first = first_there in
                let second = second_there in
                let third = third_there in
                let len = image_length file at in
                let a : eqb len 0 ≡ false = ne_eqb len 0 (λ e. omega arith) in
                let b : ltb epoch (u64_at file at + len) ≡ false = le-ltb _ _ (omega arith) in
                let t : leb (at + 12 + len) (length file) ≡ false = lt-leb _ _ (omega arith) in
                rw (first, second, third, a, b, t)

            pub good_image : at + 12 + u32_at front 8 ≤ length file
                → (bad_field file epoch at left ≡ None)
                × (record { at = u64_at front 0; len = u32_at front 8; from = at + 12 } ≡ image_at file at)
            good_image there =
                let same_len = len_is in
                let same_at = at_is in
                let good : IsGood file epoch at left (image_length file at) =
                record { some = omega arith; fills = omega arith; whole = omega arith; low = omega arith } in
                (no_bad_field file epoch at left good, λ i. record { at = at_is i; len = len_is i; from = at + 12 })
