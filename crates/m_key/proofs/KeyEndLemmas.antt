-- Laws of the ends of keys, and of the leading bytes that keys share.
use Rattle.std.proofs.Common.{ℕ, zero, suc, ◌≡◌, ◌+◌, ◌≤◌, ◌<◌, Bool, true, false, cond, List, [], ◌∷◌, ◌++◌, length}
use Rattle.std.proofs.Common.{get_or, take, drop, Option, Some, None, ◌⊎◌, inl, inr, refl, sym, ◌∙◌, ap, subst, arith}
use Rattle.std.proofs.Common.{length-take}
use Rattle.std.specs.Prelude.{◌&&◌, ◌==◌, nat_eq, nat_le, option_map, option_and_then, slice_get}
use Rattle.std.specs.Ordering.{nat_cmp}
use Rattle.std.specs.Cmp.Lexicographic.{slice_cmp}
use Rattle.std.specs.declared.cmp.Ordering.TheVariants.{Less}
use Rattle.std.proofs.Math.Numerals.{one-add}
use Rattle.std.proofs.lemmas.Bool.{eqb-true, ne_eqb, cases_lt, leb-true, leb-false}
use Rattle.std.proofs.lemmas.Cmp.{nat_list_cmp_total, tied_itself}
use Rattle.std.proofs.lemmas.List.{drop_all, take_all, take-append-drop, take-take, length-take-le}
use Rattle.std.proofs.lemmas.List.Sums.{common_prefix_len-le, common_prefix_len-drop_no}
use Rattle.m_key.specs.KeyEnd.{key_len, key_within, end_in, end_within, zero_after, IsKey, HasOpenFronts, shared}

-- ---- the shared bytes

pub shared-nil : (a : List ℕ) → shared a [] ≡ 0
shared-nil [] = refl
shared-nil (x ∷ a) = refl

pub shared-past : (a b : List ℕ) (i : ℕ) → length b ≤ i → shared (drop i a) (drop i b) ≡ 0
shared-past a b i h = rw (drop_all i b h) (shared-nil (drop i a))

pub shared-apart : (a b : List ℕ) (i : ℕ) → i < length a → i < length b → (get_or a i 0 ≡ get_or b i 0 → ⊥)
    → shared (drop i a) (drop i b) ≡ 0
shared-apart a b i h k ne = common_prefix_len-drop_no nat_eq a b i 0 0 h k (ne_eqb _ _ ne)

pub shared-le : (a b : List ℕ) → (shared a b ≤ length a) × (shared a b ≤ length b)
shared-le a b = common_prefix_len-le nat_eq a b

take_step : (t : Bool) (s x y : ℕ) (a b : List ℕ) → (t ≡ true → x ≡ y) → take s a ≡ take s b
    → take (cond t (1 + s) 0) (x ∷ a) ≡ take (cond t (1 + s) 0) (y ∷ b)
take_step true s x y a b h k =
    let e = h refl in
    rw one-add (cc)
take_step false s x y a b h k = refl

-- The shared bytes are those of both keys.
pub take-shared : (a b : List ℕ) → take (shared a b) a ≡ take (shared a b) b
take-shared [] b = refl
take-shared (x ∷ a) [] = refl
take-shared (x ∷ a) (y ∷ b) = take_step (nat_eq x y) (shared a b) x y a b (eqb-true x y) (take-shared a b)

-- ---- the ends

cond_suc : (t : Bool) (n : ℕ) (o p : Option ℕ) → o ≡ p
    → cond t (Some (suc n)) (option_map suc o) ≡ option_map suc (cond t (Some n) p)
cond_suc true n o p e = refl
cond_suc false n o p e = ap (option_map suc) e

pub key_len-cons : (b : ℕ) (bytes : List ℕ) → key_len (b ∷ bytes) ≡ option_map suc (end_in (b == 0) bytes)
key_len-cons b [] = refl
key_len-cons b (c ∷ bytes) = cond_suc ((b == 0) && (c == 0)) 1 _ _ (key_len-cons c bytes)

pub key_len-end_in : (bytes : List ℕ) → key_len bytes ≡ end_in false bytes
key_len-end_in [] = refl
key_len-end_in (b ∷ bytes) = key_len-cons b bytes

none_step : (t : Bool) (o : Option ℕ) → cond t (Some 1) (option_map suc o) ≡ None → (t ≡ false) × (o ≡ None)
none_step true o h = absurd (cc)
none_step false None h = (refl, refl)
none_step false (Some n) h = absurd (cc)

record Steps (t : Bool) (o : Option ℕ) (n : ℕ) : Type 0 where
  open_still : t ≡ false
  tail : ℕ
  found : o ≡ Some tail
  more : n ≡ suc tail

some_step : (t : Bool) (o : Option ℕ) (n : ℕ) → cond t (Some 1) (option_map suc o) ≡ Some n
    → ((t ≡ true) × (n ≡ 1)) ⊎ Steps t o n
some_step true o n h = inl (refl, cc)
some_step false None n h = absurd (cc)
some_step false (Some k) n h = inr (record { open_still = refl; tail = k; found = refl; more = cc })

option_map-zero : (o : Option ℕ) → option_map (λ n. 0 + n) o ≡ o
option_map-zero None = refl
option_map-zero (Some n) = ap Some (omega arith)

option_map-suc : (k : ℕ) (o : Option ℕ) → option_map suc (option_map (λ n. k + n) o) ≡ option_map (λ n. suc k + n) o
option_map-suc k None = refl
option_map-suc k (Some n) = ap Some (omega arith)

still_open : (t : Bool) (o p : Option ℕ) → t ≡ false → o ≡ p → cond t (Some 1) (option_map suc o) ≡ option_map suc p
still_open true o p h e = absurd (cc)
still_open false o p h e = ap (option_map suc) e

-- Bytes with no end among them leave the end to what follows.
pub end_in-append_open : (front body : List ℕ) (z : Bool) → end_in z front ≡ None
    → end_in z (front ++ body) ≡ option_map (λ n. length front + n) (end_in (zero_after z front) body)
end_in-append_open [] body z h = sym (option_map-zero (end_in z body))
end_in-append_open (b ∷ front) body z h =
    let e = none_step (z && (b == 0)) (end_in (b == 0) front) h in
    still_open (z && (b == 0)) _ _ e.0 (end_in-append_open front body (b == 0) e.1)
    ∙ option_map-suc (length front) (end_in (zero_after (b == 0) front) body)

-- An end among bytes stays one whatever follows.
pub end_in-append_found : (front body : List ℕ) (z : Bool) (n : ℕ) → end_in z front ≡ Some n
    → end_in z (front ++ body) ≡ Some n
end_in-append_found [] body z n h = absurd (cc)
end_in-append_found (b ∷ front) body z n h =
    elim (some_step (z && (b == 0)) (end_in (b == 0) front) n h) [
      | inl e ↦ rw e.0 (ap Some (sym e.1))
      | inr e ↦ still_open (z && (b == 0)) _ _ e.open_still (end_in-append_found front body (b == 0) e.tail e.found)
          ∙ ap Some (sym e.more)
    ]

pub end_in-within : (bytes : List ℕ) (z : Bool) (n : ℕ) → end_in z bytes ≡ Some n → n ≤ length bytes
end_in-within [] z n h = absurd (cc)
end_in-within (b ∷ bytes) z n h =
    elim (some_step (z && (b == 0)) (end_in (b == 0) bytes) n h) [
      | inl e ↦ omega (arith, e.1)
      | inr e ↦ omega (arith, e.more, end_in-within bytes (b == 0) e.tail e.found)
    ]

pub end_in-some : (bytes : List ℕ) (z : Bool) (n : ℕ) → end_in z bytes ≡ Some n → 1 ≤ n
end_in-some [] z n h = absurd (cc)
end_in-some (b ∷ bytes) z n h =
    elim (some_step (z && (b == 0)) (end_in (b == 0) bytes) n h) [
      | inl e ↦ omega (arith, e.1)
      | inr e ↦ omega (arith, e.more)
    ]

-- No shorter front has an end, and the front up to the end has it.
pub end_in-take_less : (bytes : List ℕ) (z : Bool) (n m : ℕ) → end_in z bytes ≡ Some n → m < n
    → end_in z (take m bytes) ≡ None
end_in-take_less [] z n m h k = absurd (cc)
end_in-take_less (b ∷ bytes) z n zero h k = refl
end_in-take_less (b ∷ bytes) z n (suc m) h k =
    elim (some_step (z && (b == 0)) (end_in (b == 0) bytes) n h) [
      | inl e ↦ absurd (omega (arith, e.1))
      | inr e ↦ still_open (z && (b == 0)) _ None e.open_still
          (end_in-take_less bytes (b == 0) e.tail m e.found (omega (arith, e.more)))
    ]

pub end_in-take_same : (bytes : List ℕ) (z : Bool) (n : ℕ) → end_in z bytes ≡ Some n → end_in z (take n bytes) ≡ Some n
end_in-take_same [] z n h = absurd (cc)
end_in-take_same (b ∷ bytes) z n h =
    elim (some_step (z && (b == 0)) (end_in (b == 0) bytes) n h) [
      | inl e ↦ rw (e.1, e.0) refl
      | inr e ↦ rw e.more
          (still_open (z && (b == 0)) _ (Some e.tail) e.open_still (end_in-take_same bytes (b == 0) e.tail e.found))
    ]

-- ---- keys

pub key_len-append : (key rest : List ℕ) (n : ℕ) → key_len key ≡ Some n → key_len (key ++ rest) ≡ Some n
key_len-append key rest n h = key_len-end_in (key ++ rest)
    ∙ end_in-append_found key rest false n (sym (key_len-end_in key) ∙ h)

pub key_len-within : (bytes : List ℕ) (n : ℕ) → key_len bytes ≡ Some n → n ≤ length bytes
key_len-within bytes n h = end_in-within bytes false n (sym (key_len-end_in bytes) ∙ h)

-- ---- the ends in a front of bytes

take_none : (bytes : List ℕ) (m : ℕ) (o : Option ℕ) → key_len (take m bytes) ≡ o → key_len bytes ≡ None → o ≡ None
take_none bytes m None e h = refl
take_none bytes m (Some n) e h =
    let more : key_len bytes ≡ Some n = ap key_len (sym (take-append-drop m bytes))
    ∙ key_len-append (take m bytes) (drop m bytes) n e in
    absurd (cc)

-- no end
pub key_len-take_none : (bytes : List ℕ) (m : ℕ) → key_len bytes ≡ None → key_len (take m bytes) ≡ None
key_len-take_none bytes m h = take_none bytes m (key_len (take m bytes)) refl h

-- an end behind the front
pub key_len-take_less : (bytes : List ℕ) (m n : ℕ) → key_len bytes ≡ Some n → m < n → key_len (take m bytes) ≡ None
key_len-take_less bytes m n h less = key_len-end_in (take m bytes)
    ∙ end_in-take_less bytes false n m (sym (key_len-end_in bytes) ∙ h) less

-- an end in the front
pub key_len-take_more : (bytes : List ℕ) (m n : ℕ) → key_len bytes ≡ Some n → n ≤ m → key_len (take m bytes) ≡ Some n
key_len-take_more bytes m n h le =
    let same : key_len (take n bytes) ≡ Some n = key_len-end_in (take n bytes)
    ∙ end_in-take_same bytes false n (sym (key_len-end_in bytes) ∙ h) in
    let front : take n (take m bytes) ≡ take n bytes = take-take n m bytes le in
    ap key_len (sym (take-append-drop n (take m bytes)) ∙ ap (λ xs. xs ++ drop n (take m bytes)) front)
    ∙ key_len-append (take n bytes) _ n same

-- ---- the end of a key that begins with a front and ends in a body

module _ (limit : ℕ) (front body : List ℕ) where
  abbrev at : ℕ → ℕ
  at n = length front + n

  -- the end that was found, if the key is no longer than the limit
  abbrev pub kept : Option ℕ → Option ℕ
  kept o = option_and_then (λ n. cond (nat_le (at n) limit) (Some n) None) o

  by_length : (n : ℕ) (t : Bool) → nat_le (at n) limit ≡ t → key_len (front ++ body) ≡ Some (at n)
      → key_len (take limit (front ++ body)) ≡ option_map at (cond t (Some n) None)
  by_length n true e h = key_len-take_more (front ++ body) limit (at n) h (leb-true (at n) limit e)
  by_length n false e h = key_len-take_less (front ++ body) limit (at n) h (leb-false (at n) limit e)

  by_end : (o : Option ℕ) → key_len (front ++ body) ≡ option_map at o
      → key_len (take limit (front ++ body)) ≡ option_map at (kept o)
  by_end None h = key_len-take_none (front ++ body) limit h
  by_end (Some n) h = by_length n (nat_le (at n) limit) refl h

  -- Where no key ends in the front, the key that ends in the body is the first of both.
  pub key_len-end_within : (o : Option ℕ) → o ≡ end_in (zero_after false front) body → key_len front ≡ None
      → key_len (take limit (front ++ body)) ≡ option_map at (kept o)
  key_len-end_within o e h =
      by_end o
      (key_len-end_in (front ++ body) ∙ end_in-append_open front body false (sym (key_len-end_in front) ∙ h)
      ∙ ap (option_map at) (sym e))

  pub key_within-end_within : key_len front ≡ None
      → key_within limit (front ++ body) ≡ option_map at (end_within limit front body)
  key_within-end_within h = key_len-end_within (end_in (zero_after false front) body) refl h

  by_test : (m n : ℕ) (t : Bool) → cond t (Some m) None ≡ Some n → Some m ≡ Some n
  by_test m n true e = e
  by_test m n false e = absurd (cc)

  found_in : (o : Option ℕ) (n : ℕ) → kept o ≡ Some n → o ≡ Some n
  found_in None n e = absurd (cc)
  found_in (Some m) n e = by_test m n (nat_le (at m) limit) e

  -- An end has a byte.
  pub end_within-some : (n : ℕ) → Some n ≡ end_within limit front body → 1 ≤ n
  end_within-some n e =
      end_in-some body (zero_after false front) n (found_in (end_in (zero_after false front) body) n (sym e))

-- the first bytes of a key, fewer than all
pub open_front : (previous : List ℕ) (count : ℕ) → HasOpenFronts previous → (count ≡ 0) ⊎ (count < length previous)
    → key_len (take count previous) ≡ None
open_front previous count fronts h =
    elim h [
      | inl e ↦ ap (λ n. key_len (take n previous)) e
      | inr less ↦ fronts count less
    ]

pub HasOpenFronts-nil : HasOpenFronts []
HasOpenFronts-nil n h = absurd (omega arith)

-- The bytes up to the end of a key are a key, and no shorter front of them is.
pub HasOpenFronts-take : (bytes : List ℕ) (n : ℕ) → key_len bytes ≡ Some n → HasOpenFronts (take n bytes)
HasOpenFronts-take bytes n h m k =
    let found : end_in false bytes ≡ Some n = sym (key_len-end_in bytes) ∙ h in
    let same : end_in false (take n bytes) ≡ Some n = end_in-take_same bytes false n found in
    let less : m < n = omega (arith, length-take n bytes) in
    key_len-end_in (take m (take n bytes)) ∙ end_in-take_less (take n bytes) false n m same less

-- a key of at most so many bytes
pub key_within-le : (limit : ℕ) (bytes : List ℕ) (n : ℕ) → key_within limit bytes ≡ Some n → n ≤ limit
key_within-le limit bytes n h = omega (arith, key_len-within (take limit bytes) n h, length-take limit bytes)

pub HasOpenFronts-key_within : (limit : ℕ) (bytes : List ℕ) (n : ℕ) → key_within limit bytes ≡ Some n
    → HasOpenFronts (take n bytes)
HasOpenFronts-key_within limit bytes n h =
    subst HasOpenFronts (take-take n limit bytes (key_within-le limit bytes n h))
    (HasOpenFronts-take (take limit bytes) n h)

pub key_within-whole : (limit : ℕ) (bytes : List ℕ) (n : ℕ) → key_within limit bytes ≡ Some n
    → key_len (take n bytes) ≡ Some (length (take n bytes))
key_within-whole limit bytes n h =
    let front = take limit bytes in
    let same : take n front ≡ take n bytes = take-take n limit bytes (key_within-le limit bytes n h) in
    let size : length (take n bytes) ≡ n =
    ap length (sym same) ∙ length-take-le n front (key_len-within front n h) in
    ap key_len (sym same) ∙ key_len-take_more front n n h (omega arith) ∙ ap (λ k. Some k) (sym size)

-- a key with a key as its front is that key
pub front_key : (a b : List ℕ) → IsKey a → IsKey b → (n : ℕ) → n ≡ length a → take n b ≡ a → a ≡ b
front_key a b p q n long e =
    let whole : a ++ drop n b ≡ b = ap (λ xs. xs ++ drop n b) (sym e) ∙ take-append-drop n b in
    let ends : key_len b ≡ Some (length a) = ap key_len (sym whole) ∙ key_len-append a (drop n b) (length a) p.whole in
    let same : Some (length a) ≡ Some (length b) = sym ends ∙ q.whole in
    let lengths : length a ≡ length b = cc in
    sym e ∙ take_all n b (omega arith)

not_less : (a b : List ℕ) → a ≡ b → slice_cmp nat_cmp a b ≡ Less → ⊥
not_less a b e h =
    let tied = tied_itself nat_list_cmp_total a in
    let below : slice_cmp nat_cmp a a ≡ Less = subst (λ (x : List ℕ). slice_cmp nat_cmp a x ≡ Less) (sym e) h in
    absurd (cc)

-- Keys that rise share fewer bytes than either has.
pub shared-below : (a b : List ℕ) → IsKey a → IsKey b → slice_cmp nat_cmp a b ≡ Less
    → (shared a b < length a) × (shared a b < length b)
shared-below a b p q less =
    let le = shared-le a b in
    let t = take-shared a b in (
      elim (cases_lt (shared a b) (length a)) [
        | inl h ↦ h
        | inr h ↦ absurd (not_less a b (front_key a b p q (shared a b) (omega arith) (sym t
            ∙ take_all (shared a b) a h)) less)
      ],
      elim (cases_lt (shared a b) (length b)) [
        | inl h ↦ h
        | inr h ↦ absurd (not_less a b (sym (front_key b a q p (shared a b) (omega arith) (t
            ∙ take_all (shared a b) b h))) less)
      ],
    )

pub length-key : (key : List ℕ) → IsKey key → 0 < length key
length-key [] p =
    let whole = p.whole in
    absurd (cc)
length-key (b ∷ key) p = omega arith

pub zero_after-last : (bytes : List ℕ) (before : Bool) (n b : ℕ) → n + 1 ≡ length bytes → slice_get bytes n ≡ Some b
    → zero_after before bytes ≡ (b == 0)
zero_after-last [] before n b h k = absurd (omega arith)
zero_after-last (x ∷ []) before zero b h k =
    let same : x ≡ b = cc in
    ap (λ y. y == 0) same
zero_after-last (x ∷ []) before (suc n) b h k = absurd (omega arith)
zero_after-last (x ∷ y ∷ bytes) before zero b h k = absurd (omega arith)
zero_after-last (x ∷ y ∷ bytes) before (suc n) b h k = zero_after-last (y ∷ bytes) (x == 0) n b (omega arith) k
