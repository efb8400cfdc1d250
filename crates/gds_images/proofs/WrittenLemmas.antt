-- A file with some bytes written over it, byte by byte.
use Rattle.std.proofs.Common.{◌≡◌, ℕ, ◌+◌, ◌-◌, ◌<◌, ◌≤◌, List, ◌++◌, length, take, drop, slice_index, arith, sym}
use Rattle.std.proofs.Common.{ap, ◌∙◌}
use Rattle.std.proofs.Common.{length-take, length-drop, length-append, get_or-drop, append_assoc}
use Rattle.std.proofs.lemmas.List.{get_or-append_right, get_or_append_left, drop-drop, take-append-drop}
use Rattle.host_model.specs.Disk.{written}

-- Where they don't pass the end of the file it keeps its length.
pub length-written_within : (at : ℕ) (bytes file : List ℕ) → at + length bytes ≤ length file
    → length (written at bytes file) ≡ length file
length-written_within at bytes file fits = simp (length-append, length-take, length-drop) (omega arith)

-- The bytes in their range are theirs, and those behind them stay.
pub written_within : (at : ℕ) (bytes file : List ℕ) (i : ℕ) → at ≤ length file → at ≤ i → i < at + length bytes
    → slice_index (written at bytes file) i ≡ slice_index bytes (i - at)
written_within at bytes file i fits from to =
    let front : length (take at file) ≡ at = simp length-take (omega arith) in
    let longer : i < length (take at file ++ bytes) = simp (length-append, length-take) (omega arith) in
    get_or_append_left (take at file ++ bytes) (drop (at + length bytes) file) 0 i longer
    ∙ get_or-append_right (take at file) bytes at i 0 front from

pub written_behind : (at : ℕ) (bytes file : List ℕ) (i : ℕ) → at + length bytes ≤ length file
    → at + length bytes ≤ i → slice_index (written at bytes file) i ≡ slice_index file i
written_behind at bytes file i fits le =
    let front : length (take at file ++ bytes) ≡ at + length bytes = simp (length-append, length-take) (omega arith) in
    let same : at + length bytes + (i - (at + length bytes)) ≡ i = omega arith in
    get_or-append_right (take at file ++ bytes) (drop (at + length bytes) file) (at + length bytes) i 0 front le
    ∙ get_or-drop (at + length bytes) file (i - (at + length bytes)) 0 ∙ ap (λ k. slice_index file k) same

-- A file's own bytes change nothing.
pub written_itself : (at n : ℕ) (file : List ℕ) → at + n ≤ length file
    → written at (take n (drop at file)) file ≡ file
written_itself at n file fits =
    let here = drop at file in
    let long : length (take n here) ≡ n = simp (length-take, length-drop) (omega arith) in
    let rest : drop (at + length (take n here)) file ≡ drop n here =
    ap (λ k. drop (at + k) file) long ∙ sym (drop-drop n at file) in
    ap (λ xs. take at file ++ take n here ++ xs) rest ∙ append_assoc (take at file) (take n here) (drop n here)
    ∙ ap (λ xs. take at file ++ xs) (take-append-drop n here) ∙ take-append-drop at file
