-- The ends of keys, and what neighbouring keys share.
use Rattle.std.specs.Prelude.{ℕ, suc, ◌+◌, ◌≡◌, ◌≤◌, ◌<◌, Bool, false, ◌==◌, ◌&&◌, nat_eq, nat_le, if◌then◌else◌}
use Rattle.std.specs.Prelude.{List, [], ◌∷◌, length, take, Option, Some, None, option_map, option_and_then}
use Rattle.std.specs.List.{common_prefix_len}

-- how many bytes there are up to the first two neighbouring zero bytes, both included, where there are two
abbrev pub key_len : List ℕ → Option ℕ
key_len [] = None
key_len (b ∷ []) = None
key_len (b ∷ c ∷ bytes) = if (b == 0) && (c == 0) then Some 2 else option_map suc (key_len (c ∷ bytes))

-- how many of these bytes are the key at their front, where one of no more bytes than the limit stands there
abbrev pub key_within : ℕ → List ℕ → Option ℕ
key_within limit bytes = key_len (take limit bytes)

-- These bytes end with their first two neighbouring zero bytes, and there are at most 255 of them.
pub record IsKey (bytes : List ℕ) : Type 0 where
  pub whole : key_len bytes ≡ Some (length bytes)
  pub short : length bytes ≤ 255

-- No front of these bytes but the whole has two neighbouring zero bytes. So it is with a key, and with none.
abbrev pub HasOpenFronts : List ℕ → Type 0
HasOpenFronts bytes = (n : ℕ) → n < length bytes → key_len (take n bytes) ≡ None

-- the same as key_len, of bytes that stand behind a zero byte or behind none
abbrev pub end_in : Bool → List ℕ → Option ℕ
end_in after_zero [] = None
end_in after_zero (b ∷ bytes) = if after_zero && (b == 0) then Some 1 else option_map suc (end_in (b == 0) bytes)

-- whether a zero byte stands before what follows these bytes
abbrev pub zero_after : Bool → List ℕ → Bool
zero_after before [] = before
zero_after before (b ∷ bytes) = zero_after (b == 0) bytes

-- how many bytes of a body end the key that begins with these bytes, where that key has no more bytes than the limit
abbrev pub end_within : ℕ → List ℕ → List ℕ → Option ℕ
end_within limit front body =
    option_and_then (λ n. if nat_le (length front + n) limit then Some n else None)
    (end_in (zero_after false front) body)

-- how many leading bytes two keys share
abbrev pub shared : List ℕ → List ℕ → ℕ
shared a b = common_prefix_len nat_eq a b
