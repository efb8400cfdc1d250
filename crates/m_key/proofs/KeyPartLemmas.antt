-- The parts of a key: its name up to the first 0, the pieces between zeros, and the two zeros that end it.
use Rattle.std.proofs.Common.{◌≡◌, ℕ, suc, ◌+◌, ◌-◌, ◌<◌, ◌≤◌, Bool, true, false, cond, List, [], ◌∷◌, ◌++◌}
use Rattle.std.proofs.Common.{length, get_or, take, drop, map, refl, sym, ap, ◌∙◌, ap₂, arith, append_assoc, one-add}
use Rattle.std.proofs.Common.{flat_map, length-append, length-take, length-drop, Option, None, Some}
use Rattle.std.specs.Prelude.{All, ◌==◌, ◌&&◌, not, nat_le, option_map}
use Rattle.std.specs.List.{AllByRecursion, onto_first, join_with_byte, prefix_len}
use Rattle.std.proofs.lemmas.Bool.{and_parts, and_from, eqb-true, ne_eqb, le-leb, leb-true}
use Rattle.std.proofs.lemmas.List.{take_at}
use Rattle.std.proofs.lemmas.List.Elements.{recursion_from_All, All-from_recursion}
use Rattle.std.proofs.lemmas.List.Splits.{slice_split_none, slice_split_at, length-slice_split}
use Rattle.std.proofs.lemmas.List.Sums.{take_while-cons, count_by-le-length}
use Rattle.m_key.specs.Node.{NodeSubscript, is_word, is_name, IsName}
use Rattle.m_key.specs.Key.{subscript_bytes, ended}
use Rattle.m_key.specs.KeyEnd.{key_len}
use Rattle.m_key.specs.KeyParts.{name_part, pieces, subscript_parts}
use Rattle.m_key.proofs.ZeroLemmas.{NoZero}
use Rattle.m_key.proofs.KeyLemmas.{ended-more}

-- ---- names

pub is_name-Decides : (name : List ℕ) → (is_name name ≡ true → IsName name) × (IsName name → is_name name ≡ true)
is_name-Decides name = (
  λ t. let p = and_parts (is_word name) (nat_le (length name) 31) t in
      record { word = p.0; count = leb-true (length name) 31 p.1 },
  λ h. and_from (is_word name) (nat_le (length name) 31) h.word (le-leb (length name) 31 h.count),
)

-- ---- the pieces between zeros

split_step : (b : ℕ) (rest : List ℕ) (more : List (List ℕ)) (t : Bool) (n : ℕ) → more ≡ take n rest ∷ drop 1 more
    → cond t ([] ∷ more) (onto_first b more)
    ≡ take (cond (not t) (1 + n) 0) (b ∷ rest) ∷ drop 1 (cond t ([] ∷ more) (onto_first b more))
split_step b rest [] t n e = absurd (cc)
split_step b rest (piece ∷ more) true n e = refl
split_step b rest (piece ∷ more) false n e =
    let same : piece ≡ take n rest = cc in
    ap (λ xs. (b ∷ xs) ∷ more) same ∙ ap (λ k. take k (b ∷ rest) ∷ more) (sym (one-add n))

-- the first piece is the name
pub first_piece : (bytes : List ℕ) → pieces bytes ≡ name_part bytes ∷ drop 1 (pieces bytes)
first_piece [] = refl
first_piece (b ∷ bytes) =
    split_step b bytes (pieces bytes) (b == 0) (prefix_len (λ b. not (b == 0)) bytes) (first_piece bytes)

-- a name goes no further than a zero
pub name_part-append : (front rest : List ℕ) → name_part (front ++ 0 ∷ rest) ≡ name_part front
name_part-append [] rest = refl
name_part-append (b ∷ front) rest =
    take_while-cons (λ b. not (b == 0)) b (front ++ 0 ∷ rest)
    ∙ ap (λ xs. cond (not (b == 0)) (b ∷ xs) []) (name_part-append front rest)
    ∙ sym (take_while-cons (λ b. not (b == 0)) b front)

nonzero : (xs : List ℕ) → All (λ b. 0 < b) xs → All (λ b. (b == 0) ≡ false) xs
nonzero xs h k d less = ne_eqb (get_or xs k d) 0 (λ e. omega (arith, h k d less, e))

-- bytes without zeros are one piece
pub pieces-alone : (xs : List ℕ) → All (λ b. 0 < b) xs → pieces xs ≡ xs ∷ []
pieces-alone xs h = slice_split_none (λ b. b == 0) xs (nonzero xs h)

-- and a zero ends a piece
pub pieces-ended : (xs ys : List ℕ) → All (λ b. 0 < b) xs → pieces (xs ++ 0 ∷ ys) ≡ xs ∷ pieces ys
pieces-ended xs ys h = slice_split_at (λ b. b == 0) xs 0 ys (nonzero xs h) refl

pub pieces-joined : (xs : List ℕ) (more : List (List ℕ)) → NoZero xs → AllByRecursion NoZero more
    → pieces (join_with_byte 0 (xs ∷ more)) ≡ xs ∷ more
pieces-joined xs [] h k = pieces-alone xs (All-from_recursion (λ b. 0 < b) xs h)
pieces-joined xs (ys ∷ more) h k =
    pieces-ended xs (join_with_byte 0 (ys ∷ more)) (All-from_recursion (λ b. 0 < b) xs h)
    ∙ ap (λ l. xs ∷ l) (pieces-joined ys more k.0 k.1)

-- ---- the bytes of pieces

-- the bytes of pieces are those of the whole
abbrev pub Bytes : List ℕ → Type 0
Bytes xs = AllByRecursion (λ b. b < 256) xs

bytes_step : (b : ℕ) (more : List (List ℕ)) (t : Bool) → b < 256 → AllByRecursion Bytes more
    → AllByRecursion Bytes (cond t ([] ∷ more) (onto_first b more))
bytes_step b more true h k = (tt, k)
bytes_step b [] false h k = ((h, tt), tt)
bytes_step b (piece ∷ more) false h k = ((h, k.0), k.1)

pub bytes_pieces : (bytes : List ℕ) → Bytes bytes → AllByRecursion Bytes (pieces bytes)
bytes_pieces [] h = (tt, tt)
bytes_pieces (b ∷ bytes) h = bytes_step b (pieces bytes) (b == 0) h.0 (bytes_pieces bytes h.1)

pub bytes_rest : (all : List (List ℕ)) → AllByRecursion Bytes all → AllByRecursion Bytes (drop 1 all)
bytes_rest [] h = h
bytes_rest (piece ∷ all) h = h.1

pub bytes_front : (xs ys : List ℕ) → Bytes (xs ++ ys) → Bytes xs
bytes_front [] ys h = tt
bytes_front (x ∷ xs) ys h = (h.0, bytes_front xs ys h.1)

-- ---- the end of a key

end_by : (b c : ℕ) (bytes : List ℕ) (t : Bool) → ((b == 0) && (c == 0)) ≡ t
    → (key_len (c ∷ bytes) ≡ Some (length (c ∷ bytes)) → (front : List ℕ) × (c ∷ bytes ≡ front ++ 0 ∷ 0 ∷ []))
    → cond t (Some 2) (option_map suc (key_len (c ∷ bytes))) ≡ Some (length (b ∷ c ∷ bytes))
    → (front : List ℕ) × (b ∷ c ∷ bytes ≡ front ++ 0 ∷ 0 ∷ [])
end_by b c [] true t more h =
    let p = and_parts (b == 0) (c == 0) t in
    let e = eqb-true b 0 p.0 in
    let f = eqb-true c 0 p.1 in
    ([], cc)
end_by b c (d ∷ bytes) true t more h =
    let same : 2 ≡ length (b ∷ c ∷ d ∷ bytes) = cc in
    absurd (omega arith)
end_by b c bytes false t more h =
    let r = more (one_less (key_len (c ∷ bytes)) (length (c ∷ bytes)) h) in
    (b ∷ r.0, ap (λ xs. b ∷ xs) r.1)
  where
    one_less : (o : Option ℕ) (n : ℕ) → option_map suc o ≡ Some (suc n) → o ≡ Some n
    one_less None n e = absurd (cc)
    one_less (Some m) n e = let same : suc m ≡ suc n = cc in ap Some (omega arith)

-- a key ends with two zeros
pub two_zeros : (key : List ℕ) → key_len key ≡ Some (length key) → (front : List ℕ) × (key ≡ front ++ 0 ∷ 0 ∷ [])
two_zeros [] h = absurd (cc)
two_zeros (b ∷ []) h = absurd (cc)
two_zeros (b ∷ c ∷ bytes) h = end_by b c bytes ((b == 0) && (c == 0)) refl (two_zeros (c ∷ bytes)) h

without_two : (front : List ℕ) → take (length (front ++ 0 ∷ 0 ∷ []) - 2) (front ++ 0 ∷ 0 ∷ []) ≡ front
without_two front =
    take_at front (0 ∷ 0 ∷ []) _ (let e : length front ≡ length (front ++ 0 ∷ 0 ∷ []) - 2 =
    omega (arith, length-append front (0 ∷ 0 ∷ [])) in e)

-- a node's key, by its pieces
pub joined_key : (name : List ℕ) (ss : List NodeSubscript)
    → join_with_byte 0 (name ∷ map subscript_bytes ss) ++ 0 ∷ 0 ∷ [] ≡ name ++ 0 ∷ (flat_map ended ss ++ 0 ∷ [])
joined_key name [] = refl
joined_key name (s ∷ ss) =
    append_assoc name (0 ∷ join_with_byte 0 (subscript_bytes s ∷ map subscript_bytes ss)) (0 ∷ 0 ∷ [])
    ∙ ap (λ xs. name ++ 0 ∷ xs) (joined_key (subscript_bytes s) ss ∙ sym (ended-more s ss (0 ∷ [])))

-- the pieces of a key that ends with two zeros
pub subscript_parts-is : (front : List ℕ) → subscript_parts (front ++ 0 ∷ 0 ∷ []) ≡ drop 1 (pieces front)
subscript_parts-is front = ap (λ xs. drop 1 (pieces xs)) (without_two front)

pub whole_pieces : (front : List ℕ)
    → pieces front ≡ name_part (front ++ 0 ∷ 0 ∷ []) ∷ subscript_parts (front ++ 0 ∷ 0 ∷ [])
whole_pieces front = first_piece front
    ∙ ap₂ (λ (n : List ℕ) (ps : List (List ℕ)). n ∷ ps) (sym (name_part-append front (0 ∷ [])))
    (sym (subscript_parts-is front))

-- ---- a front without zeros, as it is split off

name_part-alone : (xs : List ℕ) → NoZero xs → name_part xs ≡ xs
name_part-alone [] h = refl
name_part-alone (x ∷ xs) h =
    take_while-cons (λ b. not (b == 0)) x xs
    ∙ ap (λ t. cond (not t) (x ∷ name_part xs) []) (ne_eqb x 0 (λ e. omega (arith, h.0)))
    ∙ ap (λ l. x ∷ l) (name_part-alone xs h.1)

-- The name that a zero ends is the name of the whole.
pub name_part-ended : (name rest : List ℕ) → NoZero name → name_part (name ++ 0 ∷ rest) ≡ name
name_part-ended name rest h = name_part-append name rest ∙ name_part-alone name h

pub name_part-none : (bytes : List ℕ) → All (λ b. 0 < b) bytes → bytes ≡ name_part bytes
name_part-none bytes h = sym (name_part-alone bytes (recursion_from_All (λ b. 0 < b) bytes h))

pub name_part-split : (bytes front more : List ℕ) → front ++ 0 ∷ more ≡ bytes → All (λ b. 0 < b) front
    → front ≡ name_part bytes
name_part-split bytes front more e h = name_part-none front h ∙ sym (name_part-append front more) ∙ ap name_part e

pub pieces-split : (bytes front more : List ℕ) → front ++ 0 ∷ more ≡ bytes → All (λ b. 0 < b) front
    → pieces bytes ≡ front ∷ pieces more
pieces-split bytes front more e h = ap pieces (sym e) ∙ pieces-ended front more h

-- a key has no more subscripts than bytes
pub count_bound : (key : List ℕ) → length (subscript_parts key) ≤ length key
count_bound key =
    let front : List ℕ = take (length key - 2) key in
    omega (
      arith,
      length-drop 1 (pieces front),
      length-slice_split (λ b. b == 0) front,
      count_by-le-length (λ b. b == 0) front,
      length-take (length key - 2) key,
    )
