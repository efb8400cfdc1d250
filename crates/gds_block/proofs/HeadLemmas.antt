-- A head that was written reads as what was written.
use Rattle.std.proofs.Common.{ℕ, ◌^◌, ◌<◌, ◌≡◌, List, ◌++◌, length, take, drop, refl, sym, ap, subst, ◌∙◌}
use Rattle.std.proofs.lemmas.Nat.{from_le_bytes-to_le_bytes_4, from_le_bytes-to_le_bytes_8}
use Rattle.std.proofs.lemmas.List.{take-append-drop, take_at, drop_at}
use Rattle.gds_block.specs.Fields.{u16_at, u32_at, u64_at, u16_bytes, u32_bytes, u64_bytes}
use Rattle.gds_block.specs.Block.{head_bytes, HasHead}

pub HasHead-head_bytes : (level used tn : ℕ) (rest : List ℕ) → used < 2 ^ 32 → tn < 2 ^ 64
    → HasHead (head_bytes level used tn ++ rest) level used tn
unfolding u16_at u32_at u64_at u16_bytes u32_bytes u64_bytes
HasHead-head_bytes level used tn rest h k = record {
  version = refl;
  reserved = refl;
  level = refl;
  used = from_le_bytes-to_le_bytes_4 used h;
  tn = from_le_bytes-to_le_bytes_8 tn k;
}

pub length-head_bytes : (level used tn : ℕ) → length (head_bytes level used tn) ≡ 16
unfolding u16_bytes u32_bytes u64_bytes
length-head_bytes level used tn = refl

-- A head and what stands behind it.
pub take-head_bytes : (level used tn : ℕ) (rest : List ℕ)
    → take 16 (head_bytes level used tn ++ rest) ≡ head_bytes level used tn
take-head_bytes level used tn rest = take_at (head_bytes level used tn) rest 16 (length-head_bytes level used tn)

pub drop-head_bytes : (level used tn : ℕ) (rest : List ℕ) → drop 16 (head_bytes level used tn ++ rest) ≡ rest
drop-head_bytes level used tn rest = drop_at (head_bytes level used tn) rest 16 (length-head_bytes level used tn)

-- A block that begins with a head has it.
pub HasHead-front : (block : List ℕ) (level used tn : ℕ) → take 16 block ≡ head_bytes level used tn → used < 2 ^ 32
    → tn < 2 ^ 64 → HasHead block level used tn
HasHead-front block level used tn front h k =
    let parts : head_bytes level used tn ++ drop 16 block ≡ block =
    ap (λ xs. xs ++ drop 16 block) (sym front) ∙ take-append-drop 16 block in
    subst (λ (xs : List ℕ). HasHead xs level used tn) parts (HasHead-head_bytes level used tn (drop 16 block) h k)
