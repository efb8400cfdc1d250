-- A key in the making takes no more than fits, and counts the rest.
use Rattle.std.proofs.Common.{◌≡◌, ℕ, zero, suc, ◌+◌, ◌-◌, ◌^◌, ◌<◌, ◌≤◌, List, [], ◌∷◌, ◌++◌, length, take, get_or}
use Rattle.std.proofs.Common.{map, min, flat_map, refl, sym, ap, ap₂, ◌∙◌, arith, append_assoc, append-nil, take_all}
use Rattle.std.proofs.Common.{take_at, length-append}
use Rattle.std.proofs.lemmas.Bool.Decides.{nat_tests}
use Rattle.std.proofs.lemmas.List.{take_more}
use Rattle.std.proofs.lemmas.List.Concat.{flat_map-append}
use Rattle.m_key.specs.declared.key.Written.{Written}
use Rattle.m_key.specs.Node.{Node, NodeSubscript}
use Rattle.m_key.specs.Key.{escaped, ended, lead_bytes, key_bytes}
use Rattle.m_key.specs.Written.{Appends}

-- what didn't fit stays out
take-front : (n : ℕ) (xs ys : List ℕ) → take n (take n xs ++ ys) ≡ take n (xs ++ ys)
take-front zero xs ys = refl
take-front (suc n) [] ys = refl
take-front (suc n) (x ∷ xs) ys = ap (λ l. x ∷ l) (take-front n xs ys)

pub room : (xs : List ℕ) (b : ℕ) → length xs < 255 → xs ++ b ∷ [] ≡ take 255 (xs ++ b ∷ [])
room xs b h = sym (take_all 255 (xs ++ b ∷ []) (omega (arith, length-append xs (b ∷ []))))

pub full : (xs : List ℕ) (b : ℕ) → length xs ≡ 255 → xs ≡ take 255 (xs ++ b ∷ [])
full xs b h = sym (take_at xs (b ∷ []) 255 h)

pub appends_none : (w : Written) → Appends w w []
appends_none w = record {
  front = sym (ap (take 255) (append-nil w.front.items) ∙ take_all 255 w.front.items w.fits);
  len = omega (arith, w.counted);
}

-- one piece behind another
pub appends_more : (a b c : Written) (xs ys zs : List ℕ) → Appends a b xs → Appends b c ys → zs ≡ xs ++ ys
    → Appends a c zs
appends_more a b c xs ys zs p q e = record {
  front =
      q.front ∙ ap (λ l. take 255 (l ++ ys)) p.front ∙ take-front 255 (a.front.items ++ xs) ys
      ∙ ap (take 255) (append_assoc a.front.items xs ys ∙ ap (λ l. a.front.items ++ l) (sym e));
  len = let l : length zs ≡ length xs + length ys = ap length e ∙ length-append xs ys in omega (arith, p.len, q.len, l);
}

pub appends_same : (a b : Written) (xs ys : List ℕ) → Appends a b xs → ys ≡ xs → Appends a b ys
appends_same a b xs ys p e = record {
  front = p.front ∙ ap (λ l. take 255 (a.front.items ++ l)) (sym e);
  len = p.len ∙ ap (λ l. min (a.len + length l) (2 ^ 64 - 1)) (sym e);
}

-- the pieces of one element more
pub flat_map_take : {X : Type 0} (f : X → List ℕ) (xs : List X) (i : ℕ) (d : X) → i < length xs
    → flat_map f (take (i + 1) xs) ≡ flat_map f (take i xs) ++ f (get_or xs i d)
flat_map_take f xs i d h =
    ap (flat_map f) (take_more xs i d h) ∙ flat_map-append f (take i xs) (get_or xs i d ∷ [])
    ∙ ap (λ l. flat_map f (take i xs) ++ l) (append-nil (f (get_or xs i d)))

pub flat_map_map : {X Y : Type 0} (f : Y → List ℕ) (g : X → Y) (xs : List X)
    → flat_map f (map g xs) ≡ flat_map (λ x. f (g x)) xs
flat_map_map f g [] = refl
flat_map_map f g (x ∷ xs) = ap (λ l. f (g x) ++ l) (flat_map_map f g xs)

pub escaped-low : (b : ℕ) → b < 2 → escaped b ≡ 1 ∷ (b + 1) ∷ []
escaped-low zero h = refl
escaped-low (suc zero) h = refl
escaped-low (suc (suc b)) h = absurd (omega arith)

pub escaped-high : (b : ℕ) → 2 ≤ b → escaped b ≡ b ∷ []
escaped-high b h = grind (arith, nat_tests)

lead_parts : (n : Node) (name : List ℕ) (ss : List NodeSubscript) → name ≡ n.name → ss ≡ n.subscripts
    → lead_bytes n ≡ (name ++ 0 ∷ []) ++ flat_map ended ss
unfolding lead_bytes
lead_parts n name ss f g = ap₂ (λ l m. l ++ 0 ∷ flat_map ended m) (sym f) (sym g)
    ∙ sym (append_assoc name (0 ∷ []) (flat_map ended ss))

-- the parts of a key, one behind another
pub key_written : (a b c d e : Written) (n : Node) (name : List ℕ) (ss : List NodeSubscript) → a.front.items ≡ []
    → a.len ≡ 0 → name ≡ n.name → ss ≡ n.subscripts → Appends a b name → Appends b c (0 ∷ [])
    → Appends c d (flat_map ended ss) → Appends d e (0 ∷ [])
    → (e.front.items ≡ take 255 (key_bytes n)) × (e.len ≡ min (length (key_bytes n)) (2 ^ 64 - 1))
key_written a b c d e n name ss new none f g p q r s =
    let lead =
    appends_more a c d (name ++ 0 ∷ []) (flat_map ended ss) (lead_bytes n)
    (appends_more a b c name (0 ∷ []) (name ++ 0 ∷ []) p q refl) r (lead_parts n name ss f g) in
    let all = appends_more a d e (lead_bytes n) (0 ∷ []) (key_bytes n) lead s refl in
    (all.front ∙ ap (λ l. take 255 (l ++ key_bytes n)) new, omega (arith, all.len, none))
