-- A file with images laid over it, byte by byte.
use Rattle.std.proofs.Common.{◌≡◌, ℕ, ◌+◌, ◌<◌, ◌≤◌, List, [], ◌∷◌, length, take, drop, slice_index}
use Rattle.std.proofs.Common.{refl, sym, ap, ◌∙◌, ⊎_elim, arith, length-take, get_or-take}
use Rattle.std.specs.Prelude.{All}
use Rattle.std.proofs.lemmas.Bool.{cases_lt}
use Rattle.std.proofs.lemmas.List.{ext_get_or}
use Rattle.std.proofs.lemmas.List.Elements.{All-head, All-tail}
use Rattle.host_model.specs.Disk.{written}
use Rattle.gds_images.specs.declared.chain.Place.{Place}
use Rattle.gds_images.specs.Chain.{bytes_of}
use Rattle.gds_images.specs.Laws.{IsCovered, LaysBackItself, LaysOverOutside}
use Rattle.gds_images.specs.Recovered.{laid}
use Rattle.host_model.proofs.FileLemmas.{written-before}
use Rattle.gds_images.proofs.WrittenLemmas.{length-written_within, written_behind, written_itself}
use Rattle.gds_images.proofs.WrittenLemmas.{written_within}

-- An image has no more bytes than its place says.
length-bytes_of : (images : List ℕ) (place : Place) → length (bytes_of images place) ≤ place.len
length-bytes_of images place = omega (arith, length-take place.len (drop place.from images))

-- Where each image lies within the file it keeps its length.
pub length-laid : (images : List ℕ) (places : List Place) (file : List ℕ)
    → All (λ place. place.at + place.len ≤ length file) places → length (laid images places file) ≡ length file
length-laid images [] file within = refl
length-laid images (place ∷ places) file within =
    let P : Place → Type 0 = λ p. p.at + p.len ≤ length file in
    let first = All-head P place places within in
    let rest = length-laid images places file (All-tail P place places within) in
    let short = length-bytes_of images place in
    length-written_within place.at (bytes_of images place) (laid images places file) (omega arith) ∙ rest

abbrev LiesWithin : ℕ → Place → Type 0
LiesWithin epoch place = place.at + place.len ≤ epoch

abbrev IsFull : List ℕ → Place → Type 0
IsFull images place = length (bytes_of images place) ≡ place.len

within_longer : (epoch n : ℕ) (places : List Place) → epoch ≤ n → All (LiesWithin epoch) places
    → All (LiesWithin n) places
within_longer epoch n places le within k d lt = omega (arith, within k d lt)

-- Where two files have equal bytes at a place, or an image lies over it, they have them with the images laid over.
laid_byte : (images a b : List ℕ) (epoch i : ℕ) → epoch ≤ length a → epoch ≤ length b → i < epoch
    → (places : List Place) → All (LiesWithin epoch) places → All (IsFull images) places
    → ((IsCovered places i → ⊥) → slice_index a i ≡ slice_index b i)
    → slice_index (laid images places a) i ≡ slice_index (laid images places b) i
laid_byte images a b epoch i long_a long_b low [] within full same = same (λ no. no)
laid_byte images a b epoch i long_a long_b low (place ∷ places) within full same =
    let bytes = bytes_of images place in
    let rest_within = All-tail (LiesWithin epoch) place places within in
    let rest_full = All-tail (IsFull images) place places full in
    let first = All-head (LiesWithin epoch) place places within in
    let whole = All-head (IsFull images) place places full in
    let as_long = length-laid images places a (within_longer epoch (length a) places long_a rest_within) in
    let bs_long = length-laid images places b (within_longer epoch (length b) places long_b rest_within) in
    let over_a = laid images places a in
    let over_b = laid images places b in
    let rest : ((place.at ≤ i) × (i < place.at + place.len) → ⊥) → slice_index over_a i ≡ slice_index over_b i =
    λ outside. laid_byte images a b epoch i long_a long_b low places rest_within rest_full
    (λ bare. same (λ covered. ⊎_elim outside bare covered)) in
    ⊎_elim
    (λ (before : i < place.at).
    written-before place.at bytes over_a i (omega arith) before ∙ rest (λ c. omega (arith, c.0))
    ∙ sym (written-before place.at bytes over_b i (omega arith) before))
    (λ (from : place.at ≤ i). ⊎_elim
    (λ (to : i < place.at + place.len).
    written_within place.at bytes over_a i (omega arith) from (omega arith)
    ∙ sym (written_within place.at bytes over_b i (omega arith) from (omega arith)))
    (λ (behind : place.at + place.len ≤ i).
    written_behind place.at bytes over_a i (omega arith) (omega arith) ∙ rest (λ c. omega (arith, c.1))
    ∙ sym (written_behind place.at bytes over_b i (omega arith) (omega arith)))
    (cases_lt i (place.at + place.len)))
    (cases_lt i place.at)

pub laid_over_outside : LaysOverOutside
laid_over_outside images a b epoch places within full long_a long_b same =
    let over_a = laid images places a in
    let over_b = laid images places b in
    let as_long = length-laid images places a (within_longer epoch (length a) places long_a within) in
    let bs_long = length-laid images places b (within_longer epoch (length b) places long_b within) in
    let a_front : length (take epoch over_a) ≡ epoch = omega (arith, length-take epoch over_a) in
    let b_front : length (take epoch over_b) ≡ epoch = omega (arith, length-take epoch over_b) in
    ext_get_or 0 (take epoch over_a) (take epoch over_b) (a_front ∙ sym b_front)
    (λ i lt.
    let low : i < epoch = omega arith in
    get_or-take epoch over_a i 0 low
    ∙ laid_byte images a b epoch i long_a long_b low places within full (same i low)
    ∙ sym (get_or-take epoch over_b i 0 low))

pub laid_back_itself : LaysBackItself
laid_back_itself images file [] within own = refl
laid_back_itself images file (place ∷ places) within own =
    let P : Place → Type 0 = λ p. p.at + p.len ≤ length file in
    let Q : Place → Type 0 = λ p. bytes_of images p ≡ take p.len (drop p.at file) in
    let rest = laid_back_itself images file places (All-tail P place places within) (All-tail Q place places own) in
    ap (λ xs. written place.at (bytes_of images place) xs) rest
    ∙ ap (λ bytes. written place.at bytes file) (All-head Q place places own)
    ∙ written_itself place.at place.len file (All-head P place places within)
