-- An image laid back piece by piece.
use Rattle.std.proofs.Common.{◌≡◌, ℕ, ◌+◌, ◌≤◌, List, ◌++◌, length, take, drop, sym, ap, ◌∙◌, arith}
use Rattle.std.proofs.Common.{append_assoc, length-append, length-take, length-drop}
use Rattle.std.proofs.Math.Seq.{take-append_seam, drop-append-add, take-add}
use Rattle.std.proofs.lemmas.List.{drop-drop}
use Rattle.host_model.specs.Disk.{written}

-- A second piece goes on where the first ended.
pub written-then : (at : ℕ) (first second file : List ℕ) → at ≤ length file
    → written (at + length first) second (written at first file) ≡ written at (first ++ second) file
written-then at first second file within =
    let front = take at file ++ first in
    let rest = drop (at + length first) file in
    let k : length front ≡ at + length first = simp (length-append, length-take) (omega arith) in
    let more : at + length first + length second ≡ length front + length second = omega arith in
    let whole : length (first ++ second) ≡ length first + length second = length-append first second in
    let begins : take (at + length first) (front ++ rest) ≡ front =
    ap (λ n. take n (front ++ rest)) (sym k) ∙ take-append_seam front rest in
    let ends : drop (at + length first + length second) (front ++ rest) ≡ drop (length second) rest =
    ap (λ n. drop n (front ++ rest)) more ∙ drop-append-add front rest (length second) in
    let same : at + length first + length second ≡ at + length (first ++ second) = omega arith in
    let after : drop (length second) rest ≡ drop (at + length (first ++ second)) file =
    drop-drop (length second) (at + length first) file ∙ ap (λ n. drop n file) same in
    ap (λ xs. xs ++ second ++ drop (at + length first + length second) (front ++ rest)) begins
    ∙ ap (λ xs. front ++ second ++ xs) (ends ∙ after)
    ∙ ap (λ xs. xs ++ drop (at + length (first ++ second)) file) (append_assoc (take at file) first second)

-- The next piece of an image, behind those that were laid back.
pub piece-then : (at from done n : ℕ) (images file : List ℕ) → at ≤ length file → from + (done + n) ≤ length images
    → written (at + done) (take n (drop (from + done) images)) (written at (take done (drop from images)) file)
    ≡ written at (take (done + n) (drop from images)) file
piece-then at from done n images file within whole =
    let image = drop from images in
    let first = take done image in
    let long : length first ≡ done = simp (length-take, length-drop) (omega arith) in
    let second : take n (drop (from + done) images) ≡ take n (drop done image) =
    ap (take n) (sym (drop-drop done from images)) in
    ap (λ piece. written (at + done) piece (written at first file)) second
    ∙ ap (λ k. written (at + k) (take n (drop done image)) (written at first file)) (sym long)
    ∙ written-then at first (take n (drop done image)) file within
    ∙ ap (λ bytes. written at bytes file) (sym (take-add done n image))
