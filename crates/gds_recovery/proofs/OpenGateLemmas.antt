-- Files of images that differ in the byte of an open gate 0 alone.
use Rattle.std.proofs.Common.{◌≡◌, ◌≢◌, ℕ, zero, suc, ◌+◌, ◌-◌, ◌≤◌, cond, List, [], ◌∷◌, ◌++◌, length, take, drop}
use Rattle.std.proofs.Common.{slice_index, Result, Ok, Err, refl, sym, ap, subst, ◌∙◌, ⊎_elim, arith, leb, eqb}
use Rattle.std.proofs.Common.{get_or-drop}
use Rattle.std.specs.Prelude.{All, nat_eq, not}
use Rattle.std.specs.Cmp.Lexicographic.{pointwise}
use Rattle.std.specs.Int.{w32, w64, from_le_bytes}
use Rattle.std.proofs.lemmas.List.{drop-drop}
use Rattle.std.proofs.lemmas.List.Elements.{All-append, All-cons, All-head, All-nil, All-tail}
use Rattle.gds_block.specs.Fields.{u32_at, u64_at}
use Rattle.host_model.specs.Disk.{written}
use Rattle.gds_images.specs.declared.chain.Chain.{Chain}
use Rattle.gds_images.specs.declared.chain.Place.{Place}
use Rattle.gds_images.specs.Chain.{and_then, bad_field, bytes_of, chain_behind, chain_of, image_at, image_length}
use Rattle.gds_images.specs.Chain.{images_from}
use Rattle.gds_images.specs.Chain.{images_up_to, label, unless, with_first}
use Rattle.gds_images.specs.Recovered.{laid}
use Rattle.gds_images.proofs.ChainLemmas.{IsOpenChain, open_chain_of}
use Rattle.gds_images.proofs.GateLemmas.{Continues, Ends, chain_cases}
use Rattle.gds_images.proofs.ImagesLemmas.{Reads, images_cases}

-- The files have one length, and the same bytes but for that gate's, which is open in both.
pub record IsOpenIn (a b : List ℕ) : Type 0 where
  pub label : take 8 b ≡ take 8 a
  pub behind : drop 9 b ≡ drop 9 a
  pub len : length b ≡ length a
  pub opened : slice_index b 8 ≢ 0

-- ---- Both are read alike.

module _ (a b : List ℕ) (both : IsOpenIn a b) where
  drop_behind : (at : ℕ) → 9 ≤ at → drop at b ≡ drop at a
  drop_behind at behind =
      let is : 9 + (at - 9) ≡ at = omega arith in
      ap (λ n. drop n b) (sym is) ∙ sym (drop-drop (at - 9) 9 b) ∙ ap (drop (at - 9)) both.behind
      ∙ drop-drop (at - 9) 9 a ∙ ap (λ n. drop n a) is

  u32_behind : (at : ℕ) → 9 ≤ at → u32_at b at ≡ u32_at a at
  unfolding u32_at
  u32_behind at behind = ap (from_le_bytes w32) (drop_behind at behind)

  u64_behind : (at : ℕ) → 9 ≤ at → u64_at b at ≡ u64_at a at
  unfolding u64_at
  u64_behind at behind = ap (from_le_bytes w64) (drop_behind at behind)

  index_behind : (at : ℕ) → 9 ≤ at → slice_index b at ≡ slice_index a at
  index_behind at behind =
      let is : 9 + (at - 9) ≡ at = omega arith in
      ap (slice_index b) (sym is) ∙ sym (get_or-drop 9 b (at - 9) 0) ∙ ap (λ xs. slice_index xs (at - 9)) both.behind
      ∙ get_or-drop 9 a (at - 9) 0 ∙ ap (slice_index a) is

  field_behind : (epoch at left : ℕ) → 9 ≤ at → bad_field b epoch at left ≡ bad_field a epoch at left
  unfolding bad_field
  field_behind epoch at left behind =
      let place = u64_behind at behind in
      let len = u32_behind (at + 8) (omega arith) in
      let all = both.len in
      rw (place, len, all)

  image_behind : (at : ℕ) → 9 ≤ at → image_at b at ≡ image_at a at
  image_behind at behind =
      let place = u64_behind at behind in
      let len = u32_behind (at + 8) (omega arith) in
      rw (place, len)

  images_behind : (n epoch at left : ℕ) → 9 ≤ at → images_up_to n b epoch at left ≡ images_up_to n a epoch at left
  images_behind zero epoch at left behind = refl
  images_behind (suc n) epoch at left behind =
      let len = u32_behind (at + 8) (omega arith) in
      let next : ℕ → Result (List Place) ℕ = λ k. images_up_to n b epoch (at + 12 + k) (left - (12 + k)) in
      let rest : next (image_length b at) ≡ images_up_to n a epoch (at + 12 + image_length a at)
      (left - (12 + image_length a at)) =
      ap next len
      ∙ images_behind n epoch (at + 12 + image_length a at) (left - (12 + image_length a at)) (omega arith) in
      ap (λ r. cond (eqb left 0) (Ok [])
      (unless (bad_field b epoch at left) (and_then r (with_first (image_at b at))))) rest
      ∙ ap (λ r. cond (eqb left 0) (Ok []) (unless r (and_then (images_up_to n a epoch (at + 12 + image_length a at)
      (left - (12 + image_length a at))) (with_first (image_at b at))))) (field_behind epoch at left behind)
      ∙ ap (λ r. cond (eqb left 0) (Ok []) (unless (bad_field a epoch at left) (and_then (images_up_to n a epoch
      (at + 12 + image_length a at) (left - (12 + image_length a at))) (with_first r)))) (image_behind at behind)

  group_behind : (epoch at left : ℕ) → 9 ≤ at → images_from b epoch at left ≡ images_from a epoch at left
  group_behind epoch at left behind =
      ap (λ n. images_up_to n b epoch at left) both.len ∙ images_behind (length a) epoch at left behind

  gates_behind : (n epoch : ℕ) (images : List Place) (gate : ℕ) → 9 ≤ gate
      → chain_behind n b epoch images gate ≡ chain_behind n a epoch images gate
  gates_behind zero epoch images gate behind = refl
  gates_behind (suc n) epoch images gate behind =
      let size = u64_behind (gate + 1) (omega arith) in
      let byte = index_behind gate behind in
      let end : Chain = record { epoch_length = epoch; images = images; next_gate = gate } in
      let next : ℕ → List Place → Result Chain ℕ = λ k more. chain_behind n b epoch (images ++ more) (gate + 9 + k) in
      let next_same : next (u64_at a (gate + 1))
      ≡ (λ more. chain_behind n a epoch (images ++ more) (gate + 9 + u64_at a (gate + 1))) =
      λ i more. gates_behind n epoch (images ++ more) (gate + 9 + u64_at a (gate + 1)) (omega arith) i in
      let read : and_then (images_from b epoch (gate + 9) (u64_at b (gate + 1))) (next (u64_at b (gate + 1)))
      ≡ and_then (images_from a epoch (gate + 9) (u64_at a (gate + 1)))
      (λ more. chain_behind n a epoch (images ++ more) (gate + 9 + u64_at a (gate + 1))) =
      ap (λ k. and_then (images_from b epoch (gate + 9) k) (next k)) size
      ∙ ap (λ r. and_then r (next (u64_at a (gate + 1))))
      (group_behind epoch (gate + 9) (u64_at a (gate + 1)) (omega arith))
      ∙ ap (and_then (images_from a epoch (gate + 9) (u64_at a (gate + 1)))) next_same in
      ap (λ r. cond (not (leb (gate + 1) (length b))) (Err gate) (cond (eqb (slice_index b gate) 0) (Ok end)
      (cond (not (leb (gate + 1 + 8) (length b))) (Err (gate + 1)) r))) read
      ∙ ap (λ k. cond (not (leb (gate + 1) k)) (Err gate) (cond (eqb (slice_index b gate) 0) (Ok end)
      (cond (not (leb (gate + 1 + 8) k)) (Err (gate + 1))
      (and_then (images_from a epoch (gate + 9) (u64_at a (gate + 1)))
      (λ more. chain_behind n a epoch (images ++ more) (gate + 9 + u64_at a (gate + 1))))))) both.len
      ∙ ap (λ k. cond (not (leb (gate + 1) (length a))) (Err gate) (cond (eqb k 0) (Ok end)
      (cond (not (leb (gate + 1 + 8) (length a))) (Err (gate + 1))
      (and_then (images_from a epoch (gate + 9) (u64_at a (gate + 1)))
      (λ more. chain_behind n a epoch (images ++ more) (gate + 9 + u64_at a (gate + 1))))))) byte

  pub opened_alike : (n : ℕ) (chain : Chain) → IsOpenChain a n chain → chain_of b n ≡ Ok chain
  opened_alike n chain is =
      let gate = is.begins.gate in
      let len = both.len in
      let whole = is.whole in
      let size = u64_behind 9 (omega arith) in
      let epoch = u64_behind 17 (omega arith) in
      let low = is.epoch in
      open_chain_of b n chain (record {
        begins = record { label = ap (pointwise nat_eq label) both.label ∙ is.begins.label; gate = omega arith };
        opened = both.opened;
        whole = omega arith;
        epoch = omega arith;
        places = is.places;
        images = ap (λ k. images_from b k 25 (u64_at b 9)) epoch ∙ ap (images_from b (u64_at a 17) 25) size
            ∙ group_behind (u64_at a 17) 25 (u64_at a 9) (omega arith) ∙ is.images;
        behind = ap (λ k. chain_behind k b (u64_at b 17) is.places (25 + u64_at b 9)) len
            ∙ ap (λ k. chain_behind (length a) b k is.places (25 + u64_at b 9)) epoch
            ∙ ap (λ k. chain_behind (length a) b (u64_at a 17) is.places (25 + k)) size
            ∙ gates_behind (length a) (u64_at a 17) is.places (25 + u64_at a 9) (omega arith) ∙ is.behind;
      })

  -- The bytes of images behind the gate are the same.
  pub laid_alike : (places : List Place) (db : List ℕ) → All (λ p. 9 ≤ p.from) places
      → laid b places db ≡ laid a places db
  laid_alike [] db behind = refl
  laid_alike (place ∷ places) db behind =
      let P : Place → Type 0 = λ p. 9 ≤ p.from in
      let first : bytes_of b place ≡ bytes_of a place =
      ap (take place.len) (drop_behind place.from (All-head P place places behind)) in
      ap (λ bytes. written place.at bytes (laid b places db)) first
      ∙ ap (λ xs. written place.at (bytes_of a place) xs) (laid_alike places db (All-tail P place places behind))

-- ---- The images of a chain stand behind gate 0.

StandsBehind : Place → Type 0
StandsBehind p = 9 ≤ p.from

images_stand : (n : ℕ) (file : List ℕ) (epoch at left : ℕ) (places : List Place) → 9 ≤ at
    → images_up_to n file epoch at left ≡ Ok places → All StandsBehind places
unfolding StandsBehind
images_stand zero file epoch at left places behind ok =
    let none : [] ≡ places = cc in subst (λ xs. All StandsBehind xs) none (All-nil StandsBehind)
images_stand (suc n) file epoch at left places behind ok = ⊎_elim
    (λ ended. subst (λ xs. All StandsBehind xs) (sym ended.1) (All-nil StandsBehind))
    (λ (read : Reads n file epoch at left places).
    let len = image_length file at in
    let rest = images_stand n file epoch (at + 12 + len) (left - (12 + len)) read.more (omega arith) read.behind in
    subst (λ xs. All StandsBehind xs) (sym read.all)
    (All-cons StandsBehind (image_at file at) read.more (omega arith) rest))
    (images_cases n file epoch at left places ok)

chain_stands : (n : ℕ) (file : List ℕ) (epoch : ℕ) (images : List Place) (gate : ℕ) (chain : Chain) → 9 ≤ gate
    → All StandsBehind images → chain_behind n file epoch images gate ≡ Ok chain → All StandsBehind chain.images
chain_stands zero file epoch images gate chain behind all ok = cc
chain_stands (suc n) file epoch images gate chain behind all ok = ⊎_elim
    (λ (end : Ends file epoch images gate chain).
    subst (λ xs. All StandsBehind xs) (ap (λ (c : Chain). c.images) (sym end.is)) all)
    (λ (more : Continues n file epoch images gate chain).
    let size = u64_at file (gate + 1) in
    chain_stands n file epoch (images ++ more.places) (gate + 9 + size) chain (omega arith)
    (All-append StandsBehind images more.places all
    (images_stand (length file) file epoch (gate + 9) size more.places (omega arith) more.group.images)) more.behind)
    (chain_cases n file epoch images gate chain ok)

pub opened_stand : (file : List ℕ) (n : ℕ) (chain : Chain) → IsOpenChain file n chain
    → All (λ p. 9 ≤ p.from) chain.images
unfolding StandsBehind
opened_stand file n chain is =
    chain_stands (length file) file (u64_at file 17) is.places (25 + u64_at file 9) chain (omega arith)
    (images_stand (length file) file (u64_at file 17) 25 (u64_at file 9) is.places (omega arith) is.images) is.behind
