-- Reading blocks of a file whose header is known.
use Rattle.std.proofs.Common.{◌≡◌, ℕ, ◌+◌, ◌*◌, ◌<◌, ◌≤◌, List, length, Option, Some, IfSome, IsTrue, ap, subst, ◌∙◌}
use Rattle.std.proofs.Common.{arith}
use Rattle.std.proofs.Math.Nat.{mul-le-mul_right}
use Rattle.std.proofs.lemmas.Bool.Decides.{nat_tests}
use Rattle.host_model.specs.Files.{Contents, Reads, file_of}
use Rattle.host_model.specs.declared.host.FileNo.TheVariants.{Db}
use Rattle.gds_header.specs.declared.header.Header.{Header}
use Rattle.gds_header.specs.Fields.{block_of}
use Rattle.gds_cli.specs.Thin.{is_star_block, star_child}
use Rattle.gds_cli.specs.SoundHeader.{IsHeaderOf}
use Rattle.gds_cli.specs.Directory.{LeadsTo}

-- what was read of a file that is told
read_told : (told : Option Contents) (at n : ℕ) (old new : List ℕ) (c : Contents) → told ≡ Some c
    → IfSome told (λ x. Reads (file_of x Db) at old new n) → Reads c.db at old new n
read_told told at n old new c tells given =
    let P : Option Contents → Type 0 = λ o. IfSome o (λ x. Reads (file_of x Db) at old new n) in
    subst P tells given

-- a block of the file is whole
pub read_whole : (h : Header) (told : Option Contents) (at number n : ℕ) (old new : List ℕ) (c : Contents)
    → told ≡ Some c → IfSome told (λ x. Reads (file_of x Db) at old new n) → at ≡ 8192 + number * h.block_size
    → length old ≡ h.block_size → IsHeaderOf h c.db → number < h.total → n < length old → ⊥
read_whole h told at number n old new c tells given place size head within short =
    let read = read_told told at n old new c tells given in
    let room : (number + 1) * h.block_size ≤ h.total * h.block_size = mul-le-mul_right h.block_size (omega arith) in
    absurd (omega (arith, read.count, head.whole, room))

pub child_within : (h : Header) (block : List ℕ) → IsTrue (is_star_block h block) → star_child block < h.total
child_within h block star = grind (arith, nat_tests)

pub leads : (h : Header) (d : List ℕ) (number child : ℕ) (first second : List ℕ) → first ≡ block_of d number
    → IsTrue (is_star_block h first) → child ≡ star_child first → second ≡ block_of d child
    → LeadsTo h d number child second
leads h d number child first second bytes star is bytes_below = record {
  star = subst (λ b. IsTrue (is_star_block h b)) bytes star;
  number_is = is ∙ ap star_child bytes;
  bytes = bytes_below;
}
