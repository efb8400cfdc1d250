-- Packable lists of entries, in parts.
use Rattle.std.proofs.Common.{◌≡◌, ℕ, List, [], ◌∷◌, ◌++◌, length, Less, refl}
use Rattle.std.specs.List.{AllByRecursion}
use Rattle.gds_block.specs.Item.{Item}
use Rattle.m_key.specs.Key.{Below}
use Rattle.m_key.specs.KeyEnd.{IsKey}
use Rattle.gds_pack.specs.Packed.{key_behind}
use Rattle.gds_pack.specs.Packable.{IsNext, AreLeaves, AreIndex}
use Rattle.gds_sound.proofs.OrderLemmas.{cmp, cmp_total}
use Rattle.gds_tree.proofs.TestLemmas.{less_from, less_below}
use Rattle.gds_tree.proofs.FineLemmas.{some_key}

abbrev pub Keys : (List ℕ → Type 0) → List Item → Type 0
Keys P es = AllByRecursion (λ (e : Item). P e.key) es

-- ---- behind nothing

pub nothing_less : (key : List ℕ) → IsKey key → cmp [] key ≡ Less
nothing_less [] k = absurd (some_key [] k refl)
nothing_less (b ∷ key) k = refl

pub next_first : (p : List ℕ) (e : Item) → IsNext p e → IsNext [] e
next_first p e n = record { is_key = n.is_key; above = nothing_less e.key n.is_key }

pub leaves_first : (p : List ℕ) (es : List Item) → AreLeaves p es → AreLeaves [] es
leaves_first p [] h = tt
leaves_first p (e ∷ es) h = (next_first p e h.0, h.1)

pub index_first : (p : List ℕ) (es : List Item) → AreIndex p es → AreIndex [] es
index_first p [] h = absurd h
index_first p (e ∷ []) h = h
index_first p (e ∷ f ∷ es) h = (next_first p e h.0, h.1, h.2)

-- ---- two lists

pub leaves_left : (p : List ℕ) (a b : List Item) → AreLeaves p (a ++ b) → AreLeaves p a
leaves_left p [] b h = tt
leaves_left p (e ∷ a) b h = (h.0, leaves_left e.key a b h.1)

pub leaves_right : (p : List ℕ) (a b : List Item) → AreLeaves p (a ++ b) → AreLeaves (key_behind p a) b
leaves_right p [] b h = h
leaves_right p (e ∷ a) b h = leaves_right e.key a b h.1

pub leaves_join : (p : List ℕ) (a b : List Item) → AreLeaves p a → AreLeaves (key_behind p a) b → AreLeaves p (a ++ b)
leaves_join p [] b h k = k
leaves_join p (e ∷ a) b h k = (h.0, leaves_join e.key a b h.1 k)

-- An index block's entries before some: those of a leaf, each with a pointer.
abbrev pub Fours : List Item → Type 0
Fours es = AllByRecursion (λ (e : Item). length e.rest ≡ 4) es

pub record IsFront (p : List ℕ) (a b : List Item) : Type 0 where
  pub leaves : AreLeaves p a
  pub fours : Fours a
  pub rest : AreIndex (key_behind p a) b

pub index_front : (p : List ℕ) (a : List Item) (f : Item) (b : List Item) → AreIndex p (a ++ f ∷ b)
    → IsFront p a (f ∷ b)
index_front p [] f b h = record { leaves = tt; fours = tt; rest = h }
index_front p (e ∷ []) f b h = record { leaves = (h.0, tt); fours = (h.1, tt); rest = h.2 }
index_front p (e ∷ g ∷ a) f b h =
    let r = index_front e.key (g ∷ a) f b h.2 in
    record { leaves = (h.0, r.leaves); fours = (h.1, r.fours); rest = r.rest }

pub index_cons : (p : List ℕ) (e : Item) (es : List Item) → IsNext p e → length e.rest ≡ 4 → AreIndex e.key es
    → AreIndex p (e ∷ es)
index_cons p e [] n four h = absurd h
index_cons p e (f ∷ es) n four h = (n, four, h)

pub index_join : (p : List ℕ) (a b : List Item) → AreLeaves p a → Fours a → AreIndex (key_behind p a) b
    → AreIndex p (a ++ b)
index_join p [] b h fours k = k
index_join p (e ∷ a) b h fours k = index_cons p e (a ++ b) h.0 fours.0 (index_join e.key a b h.1 fours.1 k)

-- ---- keys below and above one

pub leaves_less : (p : List ℕ) (a : List Item) (f : Item) (b : List Item) → AreLeaves p (a ++ f ∷ b)
    → cmp p f.key ≡ Less
leaves_less p [] f b h = h.0.above
leaves_less p (e ∷ a) f b h = cmp_total.trans p e.key f.key h.0.above (leaves_less e.key a f b h.1)

pub keys_below : (p : List ℕ) (a : List Item) (f : Item) (b : List Item) → AreLeaves p (a ++ f ∷ b)
    → Keys (λ key. Below key f.key) a
keys_below p [] f b h = tt
keys_below p (e ∷ a) f b h = (less_below e.key f.key (leaves_less e.key a f b h.1), keys_below e.key a f b h.1)

keys_above_both : (p q : List ℕ) (es : List Item) → cmp p q ≡ Less → Keys (Below q) es → Keys (Below p) es
keys_above_both p q [] l h = tt
keys_above_both p q (e ∷ es) l h =
    (less_below p e.key (cmp_total.trans p q e.key l (less_from (cmp q e.key) h.0)), keys_above_both p q es l h.1)

pub keys_above : (p : List ℕ) (es : List Item) → AreLeaves p es → Keys (Below p) es
keys_above p [] h = tt
keys_above p (e ∷ es) h =
    (less_below p e.key h.0.above, keys_above_both p e.key es h.0.above (keys_above e.key es h.1))

-- the same of an index block, whose star has no key
abbrev pub KeyedAbove : List ℕ → List Item → Type 0
KeyedAbove p es = AllByRecursion (λ (e : Item). (e.key ≡ [] → ⊥) → Below p e.key) es

keyed_above_both : (p q : List ℕ) (es : List Item) → cmp p q ≡ Less → KeyedAbove q es → KeyedAbove p es
keyed_above_both p q [] l h = tt
keyed_above_both p q (e ∷ es) l h = (
  λ some. less_below p e.key (cmp_total.trans p q e.key l (less_from (cmp q e.key) (h.0 some))),
  keyed_above_both p q es l h.1,
)

pub keyed_above : (p : List ℕ) (es : List Item) → AreIndex p es → KeyedAbove p es
keyed_above p [] h = absurd h
keyed_above p (e ∷ []) h = (λ some. absurd (some h.0), tt)
keyed_above p (e ∷ f ∷ es) h = (
  λ some. less_below p e.key h.0.above,
  keyed_above_both p e.key (f ∷ es) h.0.above (keyed_above e.key (f ∷ es) h.2),
)
