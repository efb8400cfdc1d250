-- What stands in a key behind its name and the 0 that ends the name.
use Rattle.std.specs.Prelude.{ℕ, ◌≡◌, ◌-◌, ◌⊎◌, ◌==◌, ◌||◌, Bool, List, [], ◌∷◌, ◌++◌, slice_index, None}
use Rattle.std.specs.Char.{is_ascii_digit}
use Rattle.std.specs.List.{AllByRecursion}
use Rattle.m_key.proofs.ZeroLemmas.{NoZero}
use Rattle.gds_law.specs.Key.{subscript_fault}

-- a subscript that is right: no byte of it is 0, and nothing is wrong with it
pub record IsRight (part : List ℕ) : Type 0 where
  pub no_zero : NoZero part
  pub faultless : subscript_fault part ≡ None

-- subscripts, each ended by 0, and then other bytes
abbrev pub ended_before : List (List ℕ) → List ℕ → List ℕ
ended_before [] rest = rest
ended_before (part ∷ parts) rest = part ++ 0 ∷ ended_before parts rest

-- The bytes are right subscripts, each ended by 0, and one more 0.
pub record AreSubscripts (bytes : List ℕ) : Type 0 where
  pub parts : List (List ℕ)
  pub right : AllByRecursion IsRight parts
  pub whole : bytes ≡ ended_before parts (0 ∷ [])

-- The bytes are this name, a 0, and right subscripts as above.
pub record IsKeyOf (name key : List ℕ) : Type 0 where
  pub rest : List ℕ
  pub whole : key ≡ name ++ 0 ∷ rest
  pub subscripts : AreSubscripts rest

-- The place is the front of the bytes, or stands behind a 0.
abbrev pub IsStart : List ℕ → ℕ → Type 0
IsStart bytes n = (n ≡ 0) ⊎ (slice_index bytes (n - 1) ≡ 0)

-- a sign, a point or a digit, as a number's text begins
abbrev pub begins_number : ℕ → Bool
begins_number b = b == 45 || b == 46 || is_ascii_digit b
