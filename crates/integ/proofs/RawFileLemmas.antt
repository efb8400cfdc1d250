-- A unit read from the database file of a host, where the host tells it.
use Rattle.std.proofs.Common.{ℕ, ◌≡◌, ◌+◌, ◌-◌, ◌*◌, ◌^◌, ◌<◌, ◌≤◌, Bool, true, false, cond, eqb, List, length}
use Rattle.std.proofs.Common.{take, drop, Option, Some, None, IfSome, refl, sym, ap, ◌∙◌, arith}
use Rattle.std.specs.Option.{ForSome}
use Rattle.std.proofs.lemmas.List.{take_all}
use Rattle.host_model.specs.Files.{Contents, Reads}
use Rattle.host_model.specs.Units.{IsUnit, block_length, unit_length, unit_place, unit_bytes}
use Rattle.integ.specs.RawFile.{database_of, place}

pub untold : (told : Option Contents) → ((c : Contents) → told ≡ Some c → ⊥) → database_of told ≡ None
untold None none = refl
untold (Some c) none = absurd (none c refl)

-- A unit of the file begins where it is read.
same_place : (b : Bool) (n size k : ℕ) → n ≡ cond b 8192 size → cond b 0 (8192 + k * n) ≡ cond b 0 (8192 + k * size)
same_place true n size k is = refl
same_place false n size k is = ap (λ m. 8192 + k * m) is

pub place_is : (file : List ℕ) (unit n : ℕ) → IsUnit file unit n → place unit n ≡ unit_place file unit
place_is file unit n is = same_place (eqb unit 0) n (block_length file) (unit - 1) is.length_is

-- What was read into the whole of the buffer is the unit.
pub unit_read : (told : Option Contents) (unit at count : ℕ) (old new : List ℕ)
    → ForSome (database_of told) (λ file. IsUnit file unit (length old)) → at ≡ place unit (length old)
    → IfSome told (λ c. Reads c.db at old new count) → length old ≤ count → count ≤ length old → length new ≡ length old
    → IfSome (database_of told) (λ file. new ≡ unit_bytes file unit)
unit_read None unit at count old new is placed reads whole within same = tt
unit_read (Some c) unit at count old new is placed reads whole within same =
    let u = is c.db refl in
    let n : count ≡ unit_length c.db unit = omega (arith, u.length_is) in
    sym (take_all count new (omega arith))
    ∙ reads.bytes
    ∙ ap (λ m. take m (drop at c.db)) n
    ∙ ap (λ m. take (unit_length c.db unit) (drop m c.db)) (placed ∙ place_is c.db unit (length old) u)

-- A read gives the whole unit.
pub read_whole : (told : Option Contents) (unit at count : ℕ) (old new : List ℕ)
    → ForSome (database_of told) (λ file. IsUnit file unit (length old)) → at ≡ place unit (length old)
    → IfSome told (λ c. Reads c.db at old new count) → count < length old → database_of told ≡ None
read_whole None unit at count old new is placed reads short = refl
read_whole (Some c) unit at count old new is placed reads short =
    let u = is c.db refl in
    absurd (omega (arith, reads.count, u.within, place_is c.db unit (length old) u))

-- It begins within 2^64 bytes, as many as a length can say.
pub place_small : (told : Option Contents) (unit n size : ℕ)
    → ForSome (database_of told) (λ file. IsUnit file unit n)
    → IfSome (database_of told) (λ file. size ≡ length file) → size < 2 ^ 64
    → (place unit n < 2 ^ 64 → ⊥) → database_of told ≡ None
place_small None unit n size is long fits past = refl
place_small (Some c) unit n size is long fits past =
    let u = is c.db refl in
    absurd (past (omega (arith, long, u.within, place_is c.db unit n u)))
