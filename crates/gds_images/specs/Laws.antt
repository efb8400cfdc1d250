-- What holds of chains, of what is laid back, and of files that are the same.
use Rattle.std.specs.Prelude.{◌≡◌, ◌≢◌, ◌⊎◌, ℕ, ◌+◌, ◌<◌, ◌≤◌, ◌^◌, List, [], ◌∷◌, ◌++◌, length, take, drop, All}
use Rattle.std.specs.Prelude.{slice_index, slice_set, Some, Ok}
use Rattle.host_model.specs.Files.{Contents}
use Rattle.gds_images.specs.declared.chain.Chain.{Chain}
use Rattle.gds_images.specs.declared.chain.Place.{Place}
use Rattle.gds_images.specs.Chain.{bytes_of, chain_of, first_gate}
use Rattle.gds_images.specs.Group.{Image, gate_behind, group_bytes, images_place, places_from}
use Rattle.gds_images.specs.Recovered.{laid, recovered}
use Rattle.gds_images.specs.Same.{IsSame}
use Rattle.gds_images.specs.Outcome.{IsAtRest}

-- What stands behind the closed gate doesn't matter.
abbrev pub EndsAtItsGate : Type 0
EndsAtItsGate = (a b : List ℕ) (n : ℕ) (chain : Chain) → chain_of a n ≡ Ok chain
    → take (chain.next_gate + 1) b ≡ take (chain.next_gate + 1) a → chain_of b n ≡ Ok chain

-- A good chain is the same beside each database that is as long as the epoch's.
abbrev pub NeedsItsEpoch : Type 0
NeedsItsEpoch = (images : List ℕ) (n m : ℕ) (chain : Chain) → chain_of images n ≡ Ok chain → chain.epoch_length ≤ m
    → chain_of images m ≡ Ok chain

-- images that a group may have: none is empty, and each lies within the database of the epoch
pub record FitsEpoch (epoch : ℕ) (image : Image) : Type 0 where
  pub some : 0 < length image.bytes
  pub short : length image.bytes < 2 ^ 32
  pub within : image.at + length image.bytes ≤ epoch
  pub bytes : All (λ b. b < 256) image.bytes

-- Where a group stands behind the closed gate, opening the gate appends its images.
abbrev pub OpensToGroup : Type 0
OpensToGroup = (file : List ℕ) (gate_byte n epoch : ℕ) (chain : Chain) (images : List Image)
    → chain_of file n ≡ Ok chain
    → epoch ≤ n → epoch < 2 ^ 63 → (chain.next_gate ≢ first_gate → chain.epoch_length ≡ epoch)
    → All (FitsEpoch epoch) images
    → gate_behind chain.next_gate images < 2 ^ 63
    → take (length (group_bytes chain.next_gate epoch images)) (drop (chain.next_gate + 1) file)
    ≡ group_bytes chain.next_gate epoch images
    → gate_byte ≢ 0
    → chain_of (slice_set file chain.next_gate gate_byte) n ≡ Ok (record {
      epoch_length = epoch;
      images = chain.images ++ places_from (images_place chain.next_gate) images;
      next_gate = gate_behind chain.next_gate images;
    })

-- A place in the database file lies in the range of an image.
abbrev pub IsCovered : List Place → ℕ → Type 0
IsCovered [] i = ⊥
IsCovered (place ∷ places) i = ((place.at ≤ i) × (i < place.at + place.len)) ⊎ IsCovered places i

-- What is laid back depends on the bytes outside the images' ranges alone.
abbrev pub LaysOverOutside : Type 0
LaysOverOutside = (images a b : List ℕ) (epoch : ℕ) (places : List Place)
    → All (λ place. place.at + place.len ≤ epoch) places
    → All (λ place. length (bytes_of images place) ≡ place.len) places
    → epoch ≤ length a → epoch ≤ length b
    → ((i : ℕ) → i < epoch → (IsCovered places i → ⊥) → slice_index a i ≡ slice_index b i)
    → take epoch (laid images places a) ≡ take epoch (laid images places b)

-- Images of the bytes that a file has change nothing.
abbrev pub LaysBackItself : Type 0
LaysBackItself = (images file : List ℕ) (places : List Place)
    → All (λ place. place.at + place.len ≤ length file) places
    → All (λ place. bytes_of images place ≡ take place.len (drop place.at file)) places
    → laid images places file ≡ file

-- What is recovered of files at rest is the database, and it stays so whatever stands behind it.
abbrev pub RestIsFound : Type 0
RestIsFound = (image : List ℕ) (c : Contents) → IsAtRest image c → recovered c.db c.images ≡ Some image

-- To be the same is an equivalence.
pub record IsEquivalence (R : List ℕ → List ℕ → Type 0) : Type 0 where
  pub reflexive : (a : List ℕ) → R a a
  pub symmetric : (a b : List ℕ) → R a b → R b a
  pub transitive : (a b c : List ℕ) → R a b → R b c → R a c

abbrev pub SameIsEquivalence : Type 0
SameIsEquivalence = IsEquivalence IsSame
