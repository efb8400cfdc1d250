-- Images of a group in memory, in their buffer.
use Rattle.std.proofs.Common.{◌≡◌, ℕ, zero, suc, ◌+◌, ◌-◌, ◌*◌, ◌^◌, ◌≤◌, List, [], ◌∷◌, ◌++◌, length, take, drop}
use Rattle.std.proofs.Common.{replicate, refl, sym, ap, subst, ◌∙◌, arith, append_assoc, append-nil, length-append}
use Rattle.std.proofs.Common.{length-take, length-drop}
use Rattle.std.proofs.Common.{Bool, true, false, cond, eqb}
use Rattle.std.specs.Prelude.{All}
use Rattle.std.proofs.lemmas.Bool.{eq-eqb, ne_eqb}
use Rattle.std.proofs.lemmas.List.{drop_at, take_at, take-append-drop, drop-replicate, length-replicate, take_all}
use Rattle.std.proofs.lemmas.List.{take-append-le, take_rest}
use borrow.Rule.Slice.PartMut.{post_of, put_mid}
use Rattle.std.proofs.lemmas.Slice.{drop-append-drop, take-put_mid}
use Rattle.std.proofs.lemmas.List.Concat.{flat_map-append}
use Rattle.std.proofs.lemmas.List.Elements.{All-head, All-push, All-tail}
use Rattle.gds_block.specs.Fields.{u32_at, u64_at, u32_bytes, u64_bytes, with_bytes}
use Rattle.gds_block.proofs.FieldLemmas.{length-u32_bytes, length-u64_bytes, length-with_bytes, put_behind}
use Rattle.gds_images.specs.Group.{HasFields, Image, IsBuffer, front_bytes, front_room, group_bytes, image_bytes}
use Rattle.gds_images.specs.Group.{images_bytes, images_in, gate_behind}
use Rattle.gds_images.proofs.GroupLemmas.{image_at_is, image_behind, image_length_is, length-image_bytes}
use Rattle.gds_images.proofs.GroupLemmas.{length-images_bytes}

-- What was put behind one another is found again.
first_bytes : (image : Image) (rest : List ℕ) → take (length image.bytes) (drop 12 (image_bytes image ++ rest))
    ≡ image.bytes
first_bytes image rest =
    let head = u64_bytes image.at ++ u32_bytes (length image.bytes) in
    let long : length head ≡ 12 = simp (length-append, length-u64_bytes, length-u32_bytes) in
    let parts : image_bytes image ++ rest ≡ head ++ (image.bytes ++ rest) = simp append_assoc in
    ap (λ xs. take (length image.bytes) (drop 12 xs)) parts
    ∙ ap (take (length image.bytes)) (drop_at head (image.bytes ++ rest) 12 long)
    ∙ take_at image.bytes rest (length image.bytes) refl

pub images_found : (images : List Image) (rest : List ℕ) → All HasFields images
    → images_in (length images) (images_bytes images ++ rest) ≡ images
images_found [] rest fields = refl
images_found (image ∷ images) rest fields =
    let first = All-head HasFields image images fields in
    let behind = images_bytes images ++ rest in
    let all = image_bytes image ++ behind in
    let whole : images_bytes (image ∷ images) ++ rest ≡ all =
    append_assoc (image_bytes image) (images_bytes images) rest in
    let is_at = image_at_is all 0 image behind refl first.at in
    let is_len = image_length_is all 0 image behind refl first.short in
    let next : drop (12 + u32_at all 8) all ≡ behind =
    ap (λ n. drop (12 + n) all) is_len ∙ image_behind all 0 image behind refl in
    let bytes : take (u32_at all 8) (drop 12 all) ≡ image.bytes =
    ap (λ n. take n (drop 12 all)) is_len ∙ first_bytes image behind in
    let head : record { at = u64_at all 0; bytes = take (u32_at all 8) (drop 12 all) } ≡ image =
    λ i. record { at = is_at i; bytes = bytes i } in
    let rest_is = ap (images_in (length images)) next
    ∙ images_found images rest (All-tail HasFields image images fields) in
    ap (images_in (suc (length images))) whole ∙ (λ i. head i ∷ rest_is i)

length-images_in : (n : ℕ) (bytes : List ℕ) → length (images_in n bytes) ≡ n
length-images_in zero bytes = refl
length-images_in (suc n) bytes = ap suc (length-images_in n (drop (12 + u32_at bytes 8) bytes))

-- Each image takes 12 bytes at least.
pub few_images : (images : List Image) → 12 * length images ≤ length (images_bytes images)
few_images [] = omega arith
few_images (image ∷ images) = omega (arith, few_images images, length-images_bytes image images)

-- A buffer has as many images as it says.
pub buffer_count : (count : ℕ) (bytes : List ℕ) → length (images_in count (drop front_room bytes)) ≡ count
buffer_count count bytes = length-images_in count (drop front_room bytes)

-- A buffer of these images.
pub buffer_of : (images : List Image) (count : ℕ) (bytes : List ℕ) → length images ≡ count → All HasFields images
    → drop front_room bytes ≡ images_bytes images ++ 0 ∷ [] → length bytes ≤ 2 ^ 62
    → (images_in count (drop front_room bytes) ≡ images) × IsBuffer count bytes
buffer_of images count bytes many fields behind short =
    let found : images_in count (drop front_room bytes) ≡ images =
    ap (images_in count) behind ∙ ap (λ n. images_in n (images_bytes images ++ 0 ∷ [])) (sym many)
    ∙ images_found images (0 ∷ []) fields in (
      found,
      record {
        images = behind ∙ ap (λ xs. images_bytes xs ++ 0 ∷ []) (sym found);
        fields = subst (λ xs. All HasFields xs) (sym found) fields;
        short = short;
      },
    )

-- How long it is.
pub buffer_length : (count : ℕ) (bytes : List ℕ) → IsBuffer count bytes
    → length bytes ≡ 17 + length (images_bytes (images_in count (drop front_room bytes)))
buffer_length count bytes is =
    let images = images_bytes (images_in count (drop front_room bytes)) in
    omega (arith, length-drop front_room bytes, length-append images (0 ∷ []), ap length is.images)

-- It is the front, the images, and the closed gate.
pub buffer_split : (count : ℕ) (bytes : List ℕ) → IsBuffer count bytes
    → bytes ≡ take front_room bytes ++ images_bytes (images_in count (drop front_room bytes)) ++ 0 ∷ []
buffer_split count bytes is =
    let images = images_bytes (images_in count (drop front_room bytes)) in
    sym (take-append-drop front_room bytes) ∙ ap (λ xs. take front_room bytes ++ xs) is.images
    ∙ sym (append_assoc (take front_room bytes) images (0 ∷ []))

-- One image more.
pub buffer_pushed : (count : ℕ) (old new : List ℕ) (image : Image) → IsBuffer count old → HasFields image
    → length old + 12 + length image.bytes ≤ 2 ^ 62
    → ((front : List ℕ) → old ≡ front ++ 0 ∷ [] → new ≡ front ++ image_bytes image ++ 0 ∷ [])
    → (images_in (count + 1) (drop front_room new) ≡ images_in count (drop front_room old) ++ image ∷ [])
    × IsBuffer (count + 1) new
buffer_pushed count old new image is fields short pushed =
    let images = images_in count (drop front_room old) in
    let front = take front_room old in
    let long = buffer_length count old is in
    let all = pushed (front ++ images_bytes images) (buffer_split count old is) in
    let full : length front ≡ front_room = omega (arith, length-take front_room old) in
    let more : images_bytes images ++ image_bytes image ≡ images_bytes (images ++ image ∷ []) =
    ap (λ xs. images_bytes images ++ xs) (sym (append-nil (image_bytes image)))
    ∙ sym (flat_map-append image_bytes images (image ∷ [])) in
    let behind : drop front_room new ≡ images_bytes (images ++ image ∷ []) ++ 0 ∷ [] =
    ap (drop front_room) (all ∙ ap (λ xs. xs ++ 0 ∷ []) (append_assoc front (images_bytes images) (image_bytes image))
    ∙ append_assoc front (images_bytes images ++ image_bytes image) (0 ∷ []))
    ∙ drop_at front (images_bytes images ++ image_bytes image ++ 0 ∷ []) front_room full
    ∙ ap (λ xs. xs ++ 0 ∷ []) more in
    buffer_of (images ++ image ∷ []) (count + 1) new
    (length-append images (image ∷ []) ∙ ap (λ n. n + 1) (buffer_count count old))
    (All-push HasFields images image is.fields fields) behind (omega (
      arith,
      length-drop front_room new,
      length-append (images_bytes (images ++ image ∷ [])) (0 ∷ []),
      ap length behind,
      ap length (sym more),
      length-append (images_bytes images) (image_bytes image),
      length-image_bytes image,
    ))

-- ---- An image in a slice.

-- What stands behind bytes that were put stays.
put_before : (old new piece : List ℕ) (at end : ℕ) → new ≡ with_bytes old at piece → at ≤ length old
    → at + length piece ≤ end → drop end new ≡ drop end old
put_before old new piece at end put within before =
    let front = take at old ++ piece in
    let long : length front ≡ at + length piece = simp (length-append, length-take) (omega arith) in
    ap (drop end) (put ∙ sym (append_assoc (take at old) piece (drop (at + length piece) old)))
    ∙ drop-append-drop (at + length piece) old front end before long

-- The parts of an image, each put behind the one before.
pub image_put : (old a b c : List ℕ) (image : Image) → 12 + length image.bytes ≤ length old
    → a ≡ with_bytes old 0 (u64_bytes image.at) → b ≡ with_bytes a 8 (u32_bytes (length image.bytes))
    → c ≡ with_bytes b 12 image.bytes → c ≡ image_bytes image ++ drop (12 + length image.bytes) old
image_put old a b c image fits is_a is_b is_c =
    let n = 12 + length image.bytes in
    let at = length-u64_bytes image.at in
    let len = length-u32_bytes (length image.bytes) in
    let long_a : length a ≡ length old = ap length is_a ∙ length-with_bytes old (u64_bytes image.at) 0 (omega arith) in
    let long_b : length b ≡ length a =
    ap length is_b ∙ length-with_bytes a (u32_bytes (length image.bytes)) 8 (omega arith) in
    let one : take 8 a ≡ u64_bytes image.at =
    put_behind old a [] (u64_bytes image.at) 0 8 refl is_a (omega arith) (omega arith) in
    let two : take 12 b ≡ u64_bytes image.at ++ u32_bytes (length image.bytes) =
    put_behind a b (u64_bytes image.at) (u32_bytes (length image.bytes)) 8 12 one is_b (omega arith) (omega arith) in
    let three : take n c ≡ image_bytes image =
    put_behind b c (u64_bytes image.at ++ u32_bytes (length image.bytes)) image.bytes 12 n two is_c (omega arith)
    (omega arith) in
    let behind : drop n c ≡ drop n old =
    put_before b c image.bytes 12 n is_c (omega arith) (omega arith)
    ∙ put_before a b (u32_bytes (length image.bytes)) 8 n is_b (omega arith) (omega arith)
    ∙ put_before old a (u64_bytes image.at) 0 n is_a (omega arith) (omega arith) in
    sym (take-append-drop n c) ∙ (λ i. three i ++ behind i)

length-put_mid_front : (a k : ℕ) (xs ys : List ℕ) → a ≤ length xs → a + length ys ≤ length (put_mid a k xs ys)
length-put_mid_front a k xs ys within =
    omega (arith, length-append (take a xs) (ys ++ post_of a k xs), length-append ys (post_of a k xs), length-take a xs)

last_zero : (n : ℕ) → drop (12 + n) (replicate {A = ℕ} (13 + n) 0) ≡ 0 ∷ []
last_zero n =
    let one : 13 + n - (12 + n) ≡ 1 = omega arith in
    drop-replicate (12 + n) (13 + n) 0 ∙ ap (λ m. replicate m 0) one

more_zeros : (front : List ℕ) (n : ℕ) → front ++ 0 ∷ [] ++ replicate (12 + n) 0 ≡ front ++ replicate (13 + n) 0
more_zeros front n =
    let one : suc (12 + n) ≡ 13 + n = omega arith in
    append_assoc front (0 ∷ []) (replicate (12 + n) 0) ∙ ap (λ m. front ++ replicate m 0) one

-- A buffer that ends in a 0, lengthened by zeros, with an image put over that end.
pub image_pushed : (front old new view out : List ℕ) (image : Image) (was end n len : ℕ) → old ≡ front ++ 0 ∷ []
    → length old ≡ was → end ≡ was → n ≡ length image.bytes → len ≡ end + 12 + n
    → new ≡ take (end + 12 + n) old ++ replicate (end + 12 + n - was) 0 → view ≡ new
    → out ≡ image_bytes image ++ drop (12 + n) (take (length view - (end - 1)) (drop (end - 1) view))
    → take len (put_mid (end - 1) (length view - (end - 1)) view out
    ++ drop (length (put_mid (end - 1) (length view - (end - 1)) view out)) new)
    ≡ front ++ image_bytes image ++ 0 ∷ []
image_pushed front old new view out image was end n len is_old is_was is_end is_n is_len is_new is_view is_out =
    let a = end - 1 in
    let ends : end ≡ length front + 1 = omega (arith, length-append front (0 ∷ []), ap length is_old) in
    let room : end + 12 + n - was ≡ 12 + n = omega arith in
    let kept : take (end + 12 + n) old ≡ front ++ 0 ∷ [] = take_all (end + 12 + n) old (omega arith) ∙ is_old in
    let zeros : view ≡ front ++ replicate (13 + n) 0 =
    is_view ∙ is_new ∙ (λ i. kept i ++ replicate (room i) 0) ∙ more_zeros front n in
    let place : a ≡ length front = omega arith in
    let before : take a view ≡ front =
    ap (λ xs. take a xs) zeros ∙ take_at front (replicate (13 + n) 0) a (sym place) in
    let behind : drop a view ≡ replicate (13 + n) 0 =
    ap (λ xs. drop a xs) zeros ∙ drop_at front (replicate (13 + n) 0) a (sym place) in
    let long : length view ≡ length front + (13 + n) =
    ap length zeros ∙ length-append front (replicate (13 + n) 0)
    ∙ ap (λ m. length front + m) (length-replicate (13 + n) 0) in
    let left : length view - a ≡ 13 + n = omega arith in
    let last : drop (12 + n) (take (length view - a) (drop a view)) ≡ 0 ∷ [] =
    (λ i. drop (12 + n) (take (left i) (behind i)))
    ∙ ap (drop (12 + n)) (take_all (13 + n) (replicate (13 + n) 0) (omega (arith, length-replicate {A = ℕ} (13 + n) 0)))
    ∙ last_zero n in
    let written : out ≡ image_bytes image ++ 0 ∷ [] = is_out ∙ ap (λ xs. image_bytes image ++ xs) last in
    let size : length out ≡ 13 + n =
    omega (arith, ap length written, length-append (image_bytes image) (0 ∷ []), length-image_bytes image) in
    let whole = put_mid a (length view - a) view out in
    let fits : len ≤ length whole = omega (arith, length-put_mid_front a (length view - a) view out (omega arith)) in
    take-append-le len whole (drop (length whole) new) fits
    ∙ take-put_mid a (length view - a) view out len (omega arith) (omega arith)
    ∙ (λ i. before i ++ written i) ∙ sym (append_assoc front (image_bytes image) (0 ∷ []))

-- ---- The front of a group.

-- What is written over the whole of a buffer is all that it has.
written_whole : (old new : List ℕ) (len : ℕ) → length new ≡ len → take len (new ++ drop (length new) old) ≡ new
written_whole old new len long = take_at new (drop (length new) old) len long

-- behind gate 0
pub first_front : (old view a between b under : List ℕ) (len size epoch gate : ℕ) → length old ≡ len → 17 ≤ length old
    → size ≡ length old - 17 → gate ≡ 8 → view ≡ old → a ≡ with_bytes view 0 (u64_bytes size)
    → between ≡ take len (a ++ drop (length a) old) → b ≡ with_bytes between 8 (u64_bytes epoch)
    → (take len (b ++ drop (length b) under) ≡ front_bytes gate epoch (length old - 17) ++ drop 16 old)
    × (drop 16 (take len (b ++ drop (length b) under)) ≡ drop 16 old)
first_front old view a between b under len size epoch gate is_len long is_size is_gate is_view is_a is_between is_b =
    let one = length-u64_bytes size in
    let two = length-u64_bytes epoch in
    let put_a : a ≡ with_bytes old 0 (u64_bytes size) = is_a ∙ ap (λ xs. with_bytes xs 0 (u64_bytes size)) is_view in
    let long_a : length a ≡ length old =
    ap length put_a ∙ length-with_bytes old (u64_bytes size) 0 (omega arith) in
    let same_a : between ≡ a = is_between ∙ written_whole old a len (long_a ∙ is_len) in
    let put_b : b ≡ with_bytes a 8 (u64_bytes epoch) = is_b ∙ ap (λ xs. with_bytes xs 8 (u64_bytes epoch)) same_a in
    let long_b : length b ≡ length a = ap length put_b ∙ length-with_bytes a (u64_bytes epoch) 8 (omega arith) in
    let same_b = written_whole under b len (long_b ∙ long_a ∙ is_len) in
    let front : take 16 b ≡ u64_bytes size ++ u64_bytes epoch =
    put_behind a b (u64_bytes size) (u64_bytes epoch) 8 16
    (put_behind old a [] (u64_bytes size) 0 8 refl put_a (omega arith) (omega arith)) put_b (omega arith)
    (omega arith) in
    let behind : drop 16 b ≡ drop 16 old =
    put_before a b (u64_bytes epoch) 8 16 put_b (omega arith) (omega arith)
    ∙ put_before old a (u64_bytes size) 0 16 put_a (omega arith) (omega arith) in
    let t : eqb gate 8 ≡ true = eq-eqb gate 8 is_gate in
    let whole : u64_bytes size ++ u64_bytes epoch ≡ front_bytes gate epoch (length old - 17) =
    rw t (ap (λ n. u64_bytes n ++ u64_bytes epoch) is_size) in
    (same_b ∙ sym (take-append-drop 16 b) ∙ (λ i. (front ∙ whole) i ++ behind i), ap (drop 16) same_b ∙ behind)

-- behind a later gate
pub later_front : (old view b : List ℕ) (len size epoch gate : ℕ) → length old ≡ len → 17 ≤ length old
    → size ≡ length old - 17 → (gate ≡ 8 → ⊥) → view ≡ old → b ≡ with_bytes view 8 (u64_bytes size)
    → (drop 8 (take len (b ++ drop (length b) old)) ≡ front_bytes gate epoch (length old - 17) ++ drop 16 old)
    × (drop 16 (take len (b ++ drop (length b) old)) ≡ drop 16 old)
later_front old view b len size epoch gate is_len long is_size isnt_gate is_view is_b =
    let one = length-u64_bytes size in
    let put_b : b ≡ with_bytes old 8 (u64_bytes size) = is_b ∙ ap (λ xs. with_bytes xs 8 (u64_bytes size)) is_view in
    let long_b : length b ≡ length old =
    ap length put_b ∙ length-with_bytes old (u64_bytes size) 8 (omega arith) in
    let same_b = written_whole old b len (long_b ∙ is_len) in
    let first = take 8 old in
    let first_long : length first ≡ 8 = omega (arith, length-take 8 old) in
    let front : take 16 b ≡ first ++ u64_bytes size =
    put_behind old b first (u64_bytes size) 8 16 refl put_b (omega arith) (omega arith) in
    let behind : drop 16 b ≡ drop 16 old = put_before old b (u64_bytes size) 8 16 put_b (omega arith) (omega arith) in
    let all : b ≡ first ++ (u64_bytes size ++ drop 16 old) =
    sym (take-append-drop 16 b) ∙ (λ i. front i ++ behind i) ∙ append_assoc first (u64_bytes size) (drop 16 old) in
    let t : eqb gate 8 ≡ false = ne_eqb gate 8 isnt_gate in
    let whole : u64_bytes size ≡ front_bytes gate epoch (length old - 17) =
    rw t (ap u64_bytes is_size ∙ sym (append-nil (u64_bytes (length old - 17)))) in (
      ap (drop 8) (same_b ∙ all) ∙ drop_at first (u64_bytes size ++ drop 16 old) 8 first_long
          ∙ ap (λ xs. xs ++ drop 16 old) whole,
      ap (drop 16) same_b ∙ behind,
    )

-- The slice that is written is the group.
pub group_slice : (count gate epoch start : ℕ) (old new view : List ℕ) (images : List Image) → IsBuffer count old
    → images_in count (drop front_room old) ≡ images
    → drop start new ≡ front_bytes gate epoch (length old - 17) ++ drop 16 old → view ≡ new
    → take (length view - start) (drop start view) ≡ group_bytes gate epoch images
unfolding group_bytes
group_slice count gate epoch start old new view images is found front is_view =
    let size = length (images_bytes images) in
    let long : length old - 17 ≡ size =
    omega (arith, buffer_length count old is, ap (λ xs. length (images_bytes xs)) found) in
    let rest : drop 16 old ≡ images_bytes images ++ 0 ∷ [] = is.images ∙ ap (λ xs. images_bytes xs ++ 0 ∷ []) found in
    take_rest view start ∙ ap (drop start) is_view ∙ front
    ∙ (λ i. front_bytes gate epoch (long i) ++ rest i)
    ∙ sym (append_assoc (front_bytes gate epoch size) (images_bytes images) (0 ∷ []))

-- A buffer whose front was changed has the same images.
pub buffer_kept : (count : ℕ) (old new : List ℕ) → IsBuffer count old → drop 16 new ≡ drop 16 old
    → (images_in count (drop front_room new) ≡ images_in count (drop front_room old)) × IsBuffer count new
buffer_kept count old new is kept =
    let size = buffer_length count old is in
    let same : length new ≡ length old =
    omega (arith, length-drop 16 new, length-drop 16 old, ap length kept) in
    buffer_of (images_in count (drop front_room old)) count new (buffer_count count old) is.fields
    (kept ∙ is.images) (omega (arith, is.short, same))

-- How long a group is, and where its next gate stands.
front_length : (t : Bool) (n epoch : ℕ) → length (u64_bytes n ++ cond t (u64_bytes epoch) []) ≡ 8 + cond t 8 0
front_length true n epoch =
    omega (arith, length-append (u64_bytes n) (u64_bytes epoch), length-u64_bytes n, length-u64_bytes epoch)
front_length false n epoch = omega (arith, length-append (u64_bytes n) [], length-u64_bytes n)

pub next_gate : (gate epoch : ℕ) (images : List Image)
    → gate + length (group_bytes gate epoch images) ≡ gate_behind gate images
unfolding group_bytes
next_gate gate epoch images =
    let size = length (images_bytes images) in
    let front = front_bytes gate epoch size in
    let first = front_length (eqb gate 8) size epoch in
    let all = length-append (front ++ images_bytes images) (0 ∷ []) in
    let some = length-append front (images_bytes images) in
    omega arith
