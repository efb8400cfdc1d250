-- What a told host's file is, from its length and the read of its first bytes.
use Rattle.std.proofs.Common.{◌≡◌, ℕ, ◌≤◌, List, length, take, Option, None, Some, IfSome, sym, subst, ◌∙◌, ap, arith}
use Rattle.std.proofs.lemmas.List.{take_all}
use Rattle.host_model.specs.Files.{Contents, Reads, file_of}
use Rattle.host_model.specs.declared.host.FileNo.TheVariants.{Db}

-- the bytes at the front of the file, and its length
pub record Begins (bytes : List ℕ) (n : ℕ) (file : List ℕ) : Type 0 where
  pub front : take 8192 file ≡ bytes
  pub count : n ≡ length file

begins : (n count : ℕ) (old bytes file : List ℕ) → n ≡ length file → length old ≡ 8192 → length bytes ≡ 8192
    → 8192 ≤ count → Reads file 0 old bytes count → Begins bytes n file
begins n count old bytes file long room size whole given =
    let all : count ≡ 8192 = omega (arith, given.count) in
    record {
      front = sym (sym (take_all count bytes (omega arith)) ∙ given.bytes ∙ ap (λ k. take k file) all);
      count = long;
    }

pub begins_told : (told read : Option Contents) (n count : ℕ) (old bytes : List ℕ)
    → IfSome told (λ c. n ≡ length (file_of c Db)) → read ≡ told → length old ≡ 8192 → length bytes ≡ 8192
    → 8192 ≤ count → IfSome read (λ c. Reads (file_of c Db) 0 old bytes count) → IfSome told (λ c. Begins bytes n c.db)
begins_told None read n count old bytes long same room size whole given = tt
begins_told (Some c) read n count old bytes long same room size whole given =
    begins n count old bytes c.db long room size whole
    (let P : Option Contents
    → Type 0 = λ r. IfSome r (λ d. Reads (file_of d Db) 0 old bytes count) in subst P same given)
