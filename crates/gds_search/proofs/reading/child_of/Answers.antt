use Rattle.std.proofs.Common.{ℕ, List, ◌≡◌, ◌++◌, Some, length, ◌∙◌, ap, arith, length-append}
use Rattle.std.proofs.lemmas.List.{drop_at}
use Rattle.std.specs.Int.{w32, from_le_bytes}
use Rattle.gds_block.specs.Fields.{u32_at}
use Rattle.gds_search.proofs.reading.child_of.Goals as goal

-- the number at the end of bytes
u32_at-end : (front pointer : List ℕ) (n : ℕ) → length front ≡ n → u32_at (front ++ pointer) n ≡ u32_at pointer 0
unfolding u32_at
u32_at-end front pointer n is = ap (from_le_bytes w32) (drop_at front pointer n is)

pub returns : goal.returns
returns c front pointer is four =
    let start : length front ≡ c.in_ok-start.start =
    omega (arith, c.in_ok-start.ensures.1, ap length is, length-append front pointer, four) in
    let number : c.u32_at.result ≡ u32_at pointer 0 =
    c.u32_at.ensures ∙ ap (λ xs. u32_at xs c.in_ok-start.start) is ∙ u32_at-end front pointer _ start in
    λ k. Some (record { offset = c.args.offset; block = number k })
