-- The entries above that lead to parts, one after another.
use Rattle.std.proofs.Common.{◌≡◌, ◌<◌, ◌≤◌, ◌+◌, ℕ, suc, List, [], ◌∷◌, ◌++◌, length, take, drop, get_or, w32, refl}
use Rattle.std.proofs.Common.{sym, ap, ◌∙◌, arith}
use Rattle.std.proofs.Common.{slice_index_or}
use Rattle.std.specs.Prelude.{map}
use Rattle.std.specs.Int.{to_le_bytes}
use Rattle.std.proofs.lemmas.List.{length-map, length-take-le, map-append, take-append-drop, take-map, take_all}
use Rattle.std.proofs.lemmas.List.{take_more}
use Rattle.std.proofs.Math.Seq.{drop-cons}
use Rattle.gds_pack.specs.Packed.{packed_size}
use Rattle.gds_splice.proofs.RunLemmas.{place_is}
use Rattle.gds_block.specs.Fields.{u32_bytes}
use Rattle.gds_block.specs.Item.{Item}
use Rattle.gds_pack.specs.Entry.{item, items}
use Rattle.gds_pack.specs.declared.entry.Entry.{Entry}
use Rattle.gds_split.specs.Pieces.{entry_to}
use Rattle.gds_splice.specs.Parts.{above_parts, part_entry, told_entries}
use Rattle.gds_splice.specs.declared.parts.Part.{Part}
use Rattle.gds_splice.specs.declared.parts.Parts.{Parts}

pub number_bytes : (n : ℕ) → to_le_bytes w32 n ≡ u32_bytes n
unfolding u32_bytes
number_bytes n = refl

pub parts_one_more : (parts : List Part) (i : ℕ) (p : Part) (entries : List Entry) (e : Entry) → i < length parts
    → p ≡ get_or parts i p → items entries ≡ map part_entry (take i parts) → item e ≡ part_entry p
    → items (entries ++ e ∷ []) ≡ map part_entry (take (i + 1) parts)
parts_one_more parts i p entries e within is so_far one =
    map-append item entries (e ∷ []) ∙ (λ k. so_far k ++ one k ∷ [])
    ∙ sym (ap (map part_entry) (take_more parts i p within ∙ ap (λ x. take i parts ++ x ∷ []) (sym is))
    ∙ map-append part_entry (take i parts) (p ∷ []))

pub parts_done : (parts : Parts) (n : ℕ) (entries : List Entry) (e : Entry) (key : List ℕ)
    → length parts.parted.items ≤ n → items entries ≡ map part_entry (take n parts.parted.items)
    → item e ≡ entry_to parts.last key → items (entries ++ e ∷ []) ≡ above_parts parts key
parts_done parts n entries e key all so_far last =
    map-append item entries (e ∷ [])
    ∙ (λ k. (so_far ∙ ap (map part_entry) (take_all n parts.parted.items all)) k ++ last k ∷ [])

-- ---- an entry in its place

-- a list around one of its elements
around_place : {A : Type 0} (xs : List A) (i : ℕ) (d : A) → i < length xs
    → xs ≡ take i xs ++ slice_index_or xs i d ∷ drop (i + 1) xs
around_place xs i d low =
    let next : suc i ≡ i + 1 = omega arith in
    sym (take-append-drop i xs)
    ∙ ap (λ ys. take i xs ++ ys) (drop-cons xs i d low ∙ ap (λ n. slice_index_or xs i d ∷ drop n xs) next)

items_around_place : (xs : List Entry) (i : ℕ) (d : Entry) → i < length xs
    → items xs ≡ items (take i xs) ++ item (slice_index_or xs i d) ∷ items (drop (i + 1) xs)
items_around_place xs i d low =
    ap items (around_place xs i d low) ∙ map-append item (take i xs) (slice_index_or xs i d ∷ drop (i + 1) xs)

pub record AreSame {A : Type 0} (a : List A) (x : A) (b c : List A) (y : A) (d : List A) : Type 0 where
  pub front : a ≡ c
  pub one : x ≡ y
  pub back : b ≡ d

pub same_parts : {A : Type 0} (a : List A) (x : A) (b c : List A) (y : A) (d : List A) → length a ≡ length c
    → a ++ x ∷ b ≡ c ++ y ∷ d → AreSame a x b c y d
same_parts [] x b [] y d long same = record { front = refl; one = cc; back = cc }
same_parts [] x b (z ∷ c) y d long same = absurd (omega arith)
same_parts (z ∷ a) x b [] y d long same = absurd (omega arith)
same_parts (z ∷ a) x b (w ∷ c) y d long same =
    let rest = same_parts a x b c y d (omega arith) (let e : a ++ x ∷ b ≡ c ++ y ∷ d = cc in e) in
    let first : z ≡ w = cc in
    record { front = (λ i. first i ∷ rest.front i); one = rest.one; back = rest.back }

-- What an index block has where the entries above are put in the place of one.
told_at : (parts : Parts) (list new : List Entry) (place offset : ℕ) (d : Entry) → place < length list
    → packed_size (items (take place list)) ≡ offset
    → items new ≡ items (take place list) ++ above_parts parts (slice_index_or list place d).key.items
    ++ items (drop (place + 1) list)
    → (front : List Item) (e : Item) (back : List Item) → items list ≡ front ++ e ∷ back → packed_size front ≡ offset
    → items new ≡ told_entries parts front e back
told_at parts list new place offset d low size put front e back is size' =
    let split = items_around_place list place d low in
    let long : length front ≡ place =
    place_is (items list) front back e place offset is size' (omega (arith, length-map list item))
    (ap packed_size (take-map item place list) ∙ size) in
    let same = same_parts (items (take place list)) (item (slice_index_or list place d)) (items (drop (place + 1) list))
    front e back (length-map (take place list) item ∙ length-take-le place list (omega (arith, low)) ∙ sym long)
    (sym split ∙ is) in
    put ∙ (λ i. same.front i ++ above_parts parts (same.one i).key ++ same.back i)

pub told_is : (parts : Parts) (list new : List Entry) (place offset : ℕ) → place < length list
    → packed_size (items (take place list)) ≡ offset
    → ((d : Entry) → items new ≡ items (take place list) ++ above_parts parts (slice_index_or list place d).key.items
    ++ items (drop (place + 1) list))
    → (front : List Item) (e : Item) (back : List Item) → items list ≡ front ++ e ∷ back → packed_size front ≡ offset
    → items new ≡ told_entries parts front e back
told_is parts [] new place offset low size put front e back is size' = absurd (omega arith)
told_is parts (x ∷ list) new place offset low size put front e back is size' =
    told_at parts (x ∷ list) new place offset x low size (put x) front e back is size'
