-- Numbers in bytes: what is read of a front, of what was written, and how long the bytes of a number are.
use Rattle.std.proofs.Common.{ℕ, ◌≡◌, ◌+◌, ◌≤◌, ◌<◌, ◌^◌, List, ◌++◌, length, get_or, take, drop, refl, sym, ap, ◌∙◌}
use Rattle.std.proofs.Common.{lit<, arith, length-append, length-take, length-drop}
use Rattle.std.specs.Int.{w16, w32, w64, from_le_bytes}
use Rattle.std.proofs.lemmas.List.{get_or-drop, get_or-take, append_assoc, take_at}
use Rattle.std.proofs.lemmas.Nat.{from_le_bytes-to_le_bytes_2, from_le_bytes-to_le_bytes_4, from_le_bytes-to_le_bytes_8}
use Rattle.gds_block.specs.Fields.{u16_at, u32_at, u64_at, u16_bytes, u32_bytes, u64_bytes, with_bytes}

pub length-u16_bytes : (n : ℕ) → length (u16_bytes n) ≡ 2
unfolding u16_bytes
length-u16_bytes n = refl

pub length-u32_bytes : (n : ℕ) → length (u32_bytes n) ≡ 4
unfolding u32_bytes
length-u32_bytes n = refl

pub length-u64_bytes : (n : ℕ) → length (u64_bytes n) ≡ 8
unfolding u64_bytes
length-u64_bytes n = refl

-- a number that was written is read
pub u16_at-here : (whole rest : List ℕ) (at n : ℕ) → n < 2 ^ 16 → drop at whole ≡ u16_bytes n ++ rest
    → u16_at whole at ≡ n
unfolding u16_at u16_bytes
u16_at-here whole rest at n fits here = ap (from_le_bytes w16) here ∙ from_le_bytes-to_le_bytes_2 n fits

pub u32_at-here : (whole rest : List ℕ) (at n : ℕ) → n < 2 ^ 32 → drop at whole ≡ u32_bytes n ++ rest
    → u32_at whole at ≡ n
unfolding u32_at u32_bytes
u32_at-here whole rest at n fits here = ap (from_le_bytes w32) here ∙ from_le_bytes-to_le_bytes_4 n fits

pub u64_at-here : (whole rest : List ℕ) (at n : ℕ) → n < 2 ^ 64 → drop at whole ≡ u64_bytes n ++ rest
    → u64_at whole at ≡ n
unfolding u64_at u64_bytes
u64_at-here whole rest at n fits here = ap (from_le_bytes w64) here ∙ from_le_bytes-to_le_bytes_8 n fits

-- Lists that have the same bytes from two places on have the same numbers there.
pub u16_at-same : (some others : List ℕ) (at place : ℕ)
    → ((i : ℕ) → i < 2 → get_or (drop at some) i 0 ≡ get_or (drop place others) i 0)
    → u16_at some at ≡ u16_at others place
unfolding u16_at
u16_at-same some others at place same =
    cc (same 0 (lit< tt), same 1 (lit< tt))

pub u32_at-same : (some others : List ℕ) (at place : ℕ)
    → ((i : ℕ) → i < 4 → get_or (drop at some) i 0 ≡ get_or (drop place others) i 0)
    → u32_at some at ≡ u32_at others place
unfolding u32_at
u32_at-same some others at place same =
    cc (same 0 (lit< tt), same 1 (lit< tt), same 2 (lit< tt), same 3 (lit< tt))

pub u64_at-same : (some others : List ℕ) (at place : ℕ)
    → ((i : ℕ) → i < 8 → get_or (drop at some) i 0 ≡ get_or (drop place others) i 0)
    → u64_at some at ≡ u64_at others place
unfolding u64_at
u64_at-same some others at place same =
    cc (
      same 0 (lit< tt),
      same 1 (lit< tt),
      same 2 (lit< tt),
      same 3 (lit< tt),
      same 4 (lit< tt),
      same 5 (lit< tt),
      same 6 (lit< tt),
      same 7 (lit< tt),
    )

-- A front has the numbers of the whole.
byte-front : (k : ℕ) (whole : List ℕ) (at i : ℕ) → at + i < k
    → get_or (drop at (take k whole)) i 0 ≡ get_or (drop at whole) i 0
byte-front k whole at i within =
    get_or-drop at (take k whole) i 0 ∙ get_or-take k whole (at + i) 0 within ∙ sym (get_or-drop at whole i 0)

pub u16_at-front : (k : ℕ) (whole : List ℕ) (at : ℕ) → at + 2 ≤ k → u16_at (take k whole) at ≡ u16_at whole at
u16_at-front k whole at fits = u16_at-same (take k whole) whole at at (λ i below. byte-front k whole at i (omega arith))

pub u32_at-front : (k : ℕ) (whole : List ℕ) (at : ℕ) → at + 4 ≤ k → u32_at (take k whole) at ≡ u32_at whole at
u32_at-front k whole at fits = u32_at-same (take k whole) whole at at (λ i below. byte-front k whole at i (omega arith))

pub u64_at-front : (k : ℕ) (whole : List ℕ) (at : ℕ) → at + 8 ≤ k → u64_at (take k whole) at ≡ u64_at whole at
u64_at-front k whole at fits = u64_at-same (take k whole) whole at at (λ i below. byte-front k whole at i (omega arith))

-- What is put at a place stands behind what stood before it.
pub put_behind : (old new front piece : List ℕ) (at end : ℕ) → take at old ≡ front → new ≡ with_bytes old at piece
    → at + length piece ≤ length old → end ≡ at + length piece → take end new ≡ front ++ piece
put_behind old new front piece at end before put fits ends =
    let long : length (take at old ++ piece) ≡ end =
    omega (arith, length-append (take at old) piece, length-take at old) in
    ap (take end) (put ∙ sym (append_assoc (take at old) piece (drop (at + length piece) old)))
    ∙ take_at (take at old ++ piece) (drop (at + length piece) old) end long
    ∙ ap (λ xs. xs ++ piece) before

pub length-with_bytes : (old piece : List ℕ) (at : ℕ) → at + length piece ≤ length old
    → length (with_bytes old at piece) ≡ length old
length-with_bytes old piece at fits = simp (length-append, length-take, length-drop) (omega arith)
