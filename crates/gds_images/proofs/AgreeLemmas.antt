-- Two files that have the same bytes up to a place.
use Rattle.std.proofs.Common.{◌≡◌, ℕ, ◌+◌, ◌<◌, ◌≤◌, List, length, take, slice_index, sym, ap, ◌∙◌, arith, length-take}
use Rattle.std.proofs.Common.{get_or-take}
use Rattle.std.proofs.lemmas.List.{take-take}
use Rattle.gds_block.specs.Fields.{u32_at, u64_at}
use Rattle.gds_block.proofs.FieldLemmas.{u32_at-front, u64_at-front}

-- Both have so many bytes, and these are the same.
pub record Agree (end : ℕ) (a b : List ℕ) : Type 0 where
  pub front : take end b ≡ take end a
  pub first_long : end ≤ length a
  pub second_long : end ≤ length b

pub Agree-from : (end : ℕ) (a b : List ℕ) → end ≤ length a → take end b ≡ take end a → Agree end a b
Agree-from end a b long same = record {
  front = same;
  first_long = long;
  second_long = omega (arith, length-take end b, length-take end a, ap length same);
}

-- up to an earlier place too
pub Agree-shorter : (end earlier : ℕ) (a b : List ℕ) → earlier ≤ end → Agree end a b → Agree earlier a b
Agree-shorter end earlier a b le agree = record {
  front = sym (take-take earlier end b le) ∙ ap (take earlier) agree.front ∙ take-take earlier end a le;
  first_long = omega (arith, agree.first_long);
  second_long = omega (arith, agree.second_long);
}

-- They have the same bytes and numbers there.
module _ (end : ℕ) (a b : List ℕ) (agree : Agree end a b) (at : ℕ) where
  pub byte_agrees : at < end → slice_index b at ≡ slice_index a at
  byte_agrees lt =
      sym (get_or-take end b at 0 lt) ∙ ap (λ xs. slice_index xs at) agree.front ∙ get_or-take end a at 0 lt

  pub u32_agrees : at + 4 ≤ end → u32_at b at ≡ u32_at a at
  u32_agrees fits =
      sym (u32_at-front end b at fits) ∙ ap (λ xs. u32_at xs at) agree.front ∙ u32_at-front end a at fits

  pub u64_agrees : at + 8 ≤ end → u64_at b at ≡ u64_at a at
  u64_agrees fits =
      sym (u64_at-front end b at fits) ∙ ap (λ xs. u64_at xs at) agree.front ∙ u64_at-front end a at fits
