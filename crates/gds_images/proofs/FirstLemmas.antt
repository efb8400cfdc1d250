-- The first images of a buffer, and what is left of it where it is cut behind them.
use Rattle.std.proofs.Common.{◌≡◌, ℕ, zero, suc, ◌+◌, ◌-◌, ◌<◌, ◌≤◌, List, [], ◌∷◌, ◌++◌, length, take, drop, slice_set}
use Rattle.std.proofs.Common.{refl, sym, ap, subst, ◌∙◌, arith, append_assoc, length-append, length-take, length-drop}
use Rattle.std.proofs.lemmas.List.{drop_at, take_at, take-append-drop, take_more_set, take_rest}
use Rattle.std.proofs.lemmas.List.Concat.{flat_map-append}
use Rattle.std.proofs.lemmas.List.Elements.{All-head, All-tail, All-take}
use Rattle.std.proofs.Math.Seq.{take-add}
use Rattle.gds_block.specs.Fields.{u32_at, u64_at}
use Rattle.gds_images.specs.Group.{BeginsWith, HasFields, Image, IsBuffer, front_room, image_bytes, images_bytes}
use Rattle.gds_images.specs.Group.{images_in}
use Rattle.gds_images.proofs.BufferLemmas.{buffer_count, buffer_length, buffer_of}
use Rattle.gds_images.proofs.GroupLemmas.{image_behind, image_length_is, length-images_bytes}

-- The first image that stands here, and the others behind it.
pub images_behind : (n : ℕ) (bytes : List ℕ) → BeginsWith (images_in (suc n) bytes) bytes
    → BeginsWith (images_in n (drop (12 + u32_at bytes 8) bytes)) (drop (12 + u32_at bytes 8) bytes)
    × (12 + u32_at bytes 8 + length (images_bytes (images_in n (drop (12 + u32_at bytes 8) bytes)))
    ≡ length (images_bytes (images_in (suc n) bytes)))
images_behind n bytes has =
    let len = u32_at bytes 8 in
    let image : Image = record { at = u64_at bytes 0; bytes = take len (drop 12 bytes) } in
    let images = images_in n (drop (12 + len) bytes) in
    let size = length (images_bytes (image ∷ images)) in
    let rest = drop size bytes in
    let first = All-head HasFields image images has.fields in
    let whole : bytes ≡ image_bytes image ++ (images_bytes images ++ rest) =
    sym (take-append-drop size bytes) ∙ ap (λ xs. xs ++ rest) has.front
    ∙ append_assoc (image_bytes image) (images_bytes images) rest in
    let is_len : len ≡ length image.bytes =
    image_length_is bytes 0 image (images_bytes images ++ rest) whole first.short in
    let behind : drop (12 + len) bytes ≡ images_bytes images ++ rest =
    ap (λ k. drop (12 + k) bytes) is_len ∙ image_behind bytes 0 image (images_bytes images ++ rest) whole in
    let all = length-images_bytes image images in (
      record {
        front = ap (take (length (images_bytes images))) behind
            ∙ take_at (images_bytes images) rest (length (images_bytes images)) refl;
        fields = All-tail HasFields image images has.fields;
        more = omega (arith, length-drop (12 + len) bytes, has.more, all, is_len);
      },
      omega (arith, all, is_len),
    )

-- Images that are gone past one after another: what is left begins with the others, and their lengths are known.
pub record IsPast (count i : ℕ) (bytes rest : List ℕ) : Type 0 where
  pub others : BeginsWith (images_in (count - i) rest) rest
  pub lengths : length rest + length (images_bytes (images_in count bytes))
      ≡ length bytes + length (images_bytes (images_in (count - i) rest))

pub none_past : (count : ℕ) (bytes : List ℕ) → BeginsWith (images_in count bytes) bytes → IsPast count 0 bytes bytes
none_past count bytes begins =
    let all : count ≡ count - 0 = omega arith in
    record {
      others = subst (λ n. BeginsWith (images_in n bytes) bytes) all begins;
      lengths = ap (λ n. length bytes + length (images_bytes (images_in n bytes))) all;
    }

pub all_past : (count i : ℕ) (bytes rest : List ℕ) → IsPast count i bytes rest → count ≤ i
    → length bytes - length rest ≡ length (images_bytes (images_in count bytes))
all_past count i bytes rest past all =
    let none : count - i ≡ 0 = omega arith in
    omega (arith, past.lengths, ap (λ n. length (images_bytes (images_in n rest))) none)

module _ (count i len : ℕ) (bytes rest : List ℕ) (past : IsPast count i bytes rest) (left : i < count)
    (is_len : len ≡ u32_at rest 8) where
  one_left : count - i ≡ suc (count - (i + 1))
  one_left = omega arith

  these : BeginsWith (images_in (suc (count - (i + 1))) rest) rest
  these = subst (λ n. BeginsWith (images_in n rest) rest) one_left past.others

  pub image_within : 12 + len ≤ length rest
  image_within = omega (arith, (images_behind (count - (i + 1)) rest these).1, these.more, is_len)

  pub one_more_past : IsPast count (i + 1) bytes (take (length rest - (12 + len)) (drop (12 + len) rest))
  one_more_past =
      let more = images_behind (count - (i + 1)) rest these in
      let same : drop (12 + u32_at rest 8) rest ≡ take (length rest - (12 + len)) (drop (12 + len) rest) =
      ap (λ k. drop (12 + k) rest) (sym is_len) ∙ sym (take_rest rest (12 + len)) in
      subst (λ xs. IsPast count (i + 1) bytes xs) same (record {
        others = more.0;
        lengths = omega (
          arith,
          past.lengths,
          ap (λ k. length (images_bytes (images_in k rest))) one_left,
          more.1,
          is_len,
          image_within,
          length-drop (12 + u32_at rest 8) rest,
        );
      })

-- so many of the first ones
take-images_in : (m n : ℕ) (bytes : List ℕ) → m ≤ n → images_in m bytes ≡ take m (images_in n bytes)
take-images_in zero n bytes few = refl
take-images_in (suc m) zero bytes few = absurd (omega arith)
take-images_in (suc m) (suc n) bytes few =
    let len = u32_at bytes 8 in
    let image : Image = record { at = u64_at bytes 0; bytes = take len (drop 12 bytes) } in
    ap (λ xs. image ∷ xs) (take-images_in m n (drop (12 + len) bytes) (omega arith))

pub first_images : (m n : ℕ) (bytes : List ℕ) → IsBuffer n bytes → m ≤ n
    → (images_in m (drop front_room bytes) ≡ take m (images_in n (drop front_room bytes)))
    × BeginsWith (images_in m (drop front_room bytes)) (drop front_room bytes)
first_images m n bytes is few =
    let behind = drop front_room bytes in
    let all = images_in n behind in
    let first : images_in m behind ≡ take m all = take-images_in m n behind few in
    let some = images_bytes (take m all) in
    let others = images_bytes (drop m all) in
    let parts : images_bytes all ≡ some ++ others =
    ap images_bytes (sym (take-append-drop m all)) ∙ flat_map-append image_bytes (take m all) (drop m all) in
    let whole : behind ≡ some ++ (others ++ 0 ∷ []) =
    is.images ∙ ap (λ xs. xs ++ 0 ∷ []) parts ∙ append_assoc some others (0 ∷ []) in
    let begins = subst (λ xs. BeginsWith xs behind) (sym first) (record {
      front = ap (take (length some)) whole ∙ take_at some (others ++ 0 ∷ []) (length some) refl;
      fields = All-take HasFields m all is.fields;
      more = omega (arith, ap length whole, length-append some (others ++ 0 ∷ []), length-append others (0 ∷ []));
    }) in
    (first, begins)

-- A buffer of which the first images are kept.
pub buffer_cut : (m n : ℕ) (old new : List ℕ) → IsBuffer n old → m ≤ n
    → new ≡ take front_room old ++ images_bytes (images_in m (drop front_room old)) ++ 0 ∷ []
    → (images_in m (drop front_room new) ≡ take m (images_in n (drop front_room old))) × IsBuffer m new
buffer_cut m n old new is few cut =
    let first = first_images m n old is few in
    let images = images_in m (drop front_room old) in
    let front = take front_room old in
    let long = buffer_length n old is in
    let full : length front ≡ front_room = omega (arith, length-take front_room old) in
    let whole : new ≡ front ++ (images_bytes images ++ 0 ∷ []) =
    cut ∙ append_assoc front (images_bytes images) (0 ∷ []) in
    let behind : drop front_room new ≡ images_bytes images ++ 0 ∷ [] =
    ap (drop front_room) whole ∙ drop_at front (images_bytes images ++ 0 ∷ []) front_room full in
    let has = first.1 in
    let made = buffer_of images m new (buffer_count m old) has.fields behind (omega (
      arith,
      ap length whole,
      length-append front (images_bytes images ++ 0 ∷ []),
      length-append (images_bytes images) (0 ∷ []),
      has.more,
      length-drop front_room old,
      is.short,
    )) in
    (made.0 ∙ first.0, made.1)

-- The closed gate is put behind them, and what follows is cut off.
pub cut_made : (count : ℕ) (old view : List ℕ) (n : ℕ)
    → BeginsWith (images_in count (drop front_room old)) (drop front_room old) → view ≡ old
    → n ≡ length (images_bytes (images_in count (take (length view - 16) (drop 16 view))))
    → take (16 + n + 1) (slice_set old (16 + n) 0)
    ≡ take front_room old ++ images_bytes (images_in count (drop front_room old)) ++ 0 ∷ []
cut_made count old view n begins is_view is_n =
    let images = images_bytes (images_in count (drop front_room old)) in
    let len : n ≡ length images =
    is_n ∙ ap (λ xs. length (images_bytes (images_in count xs))) (take_rest view 16 ∙ ap (drop 16) is_view) in
    let front : take (16 + n) old ≡ take 16 old ++ images =
    take-add 16 n old ∙ ap (λ xs. take 16 old ++ xs) (ap (λ k. take k (drop 16 old)) len ∙ begins.front) in
    take_more_set old (16 + n) 0 (omega (arith, begins.more, length-drop 16 old, len))
    ∙ ap (λ xs. xs ++ 0 ∷ []) front
