-- Lawful lists of entries that are joined and changed.
use Rattle.std.proofs.Common.{◌≡◌, ℕ, suc, List, [], ◌∷◌, ◌++◌, length, Option, None, Some, Less, inl, refl, sym}
use Rattle.std.proofs.Common.{subst, ◌∙◌, append_assoc}
use Rattle.std.specs.Prelude.{All, ◌≢◌}
use Rattle.std.specs.List.{AllByRecursion}
use Rattle.std.proofs.lemmas.List.Elements.{All-from_recursion, recursion_from_All}
use Rattle.gds_block.specs.Item.{Item}
use Rattle.gds_header.specs.declared.header.Header.{Header}
use Rattle.gds_law.specs.Visit.{TreeRole, directory, global, Visit}
use Rattle.gds_sound.proofs.BlockLemmas.{nil_parts}
use Rattle.gds_sound.proofs.OrderLemmas.{cmp}
use Rattle.m_key.specs.Key.{AtMost, Below}
use Rattle.m_key.specs.KeyEnd.{IsKey}
use Rattle.gds_pack.specs.Packed.{key_behind}
use Rattle.gds_pack.specs.Packable.{IsNext, AreLeaves, AreIndex}
use Rattle.gds_tree.specs.Lawful.{IsPointer, IsAboveLow, IsBelowHigh, IsLawfulRest, IsLawfulKey, IsLawfulEntry}
use Rattle.gds_tree.specs.Lawful.{MayBeEmpty, IsLawful}
use Rattle.gds_tree.specs.Below.{below_key, from_key, with_key}
use Rattle.gds_tree.proofs.TestLemmas.{below_less, most_from, below_most}
use Rattle.gds_tree.proofs.FineLemmas.{some_key}
use Rattle.gds_tree.proofs.BelowLemmas.{all_left, all_right, all_both, all_weaker}
use Rattle.gds_tree.proofs.KeepLemmas.{pointers}
use Rattle.gds_tree.proofs.ItemLemmas.{keys_lawful, leaves_both, below_to_high, above_key}
use Rattle.gds_tree.proofs.ListLemmas.{Keys, Fours, leaves_left, leaves_right, leaves_join, leaves_less, index_front}
use Rattle.gds_tree.proofs.ListLemmas.{index_cons, index_join, nothing_less}
use Rattle.gds_tree.proofs.LawfulLemmas.{moved, each}

not_empty : (xs : List Item) (x : Item) (ys : List Item) → xs ++ x ∷ ys ≡ [] → ⊥
not_empty [] x ys e = cc
not_empty (y ∷ xs) x ys e = cc

-- ---- two leaves

all_moved : (h : Header) (c d : Visit) (level : ℕ) (es : List Item) → c.role ≡ d.role
    → ((key : List ℕ) → IsLawfulKey h c level key → IsAboveLow level d.low key × IsBelowHigh d.high key)
    → AllByRecursion (IsLawfulEntry h c level) es → AllByRecursion (IsLawfulEntry h d level) es
all_moved h c d level es role bounds l =
    all_weaker (IsLawfulEntry h c level) (IsLawfulEntry h d level) es
    (λ e k. moved h c d level e role (λ some. bounds e.key) k) l

pub leaf_join : (h : Header) (v : Visit) (k : List ℕ) (a b : List Item) → IsLawful h (below_key v k) 0 a
    → IsLawful h (from_key v k) 0 b → IsAboveLow 1 v.low k → IsBelowHigh v.high k → IsLawful h v 0 (a ++ b)
leaf_join h v k a b l r above below =
    let c : Visit = below_key v k in
    let d : Visit = from_key v k in
    let first = all_weaker (λ (x : Item). IsLawfulKey h c 0 x.key) (λ (x : Item). Below x.key k) a
    (λ x q. q.below) (keys_lawful h c [] a l.packable (each h c 0 a l)) in
    let second = all_weaker (λ (y : Item). IsLawfulKey h d 0 y.key) (λ (y : Item). AtMost k y.key) b
    (λ y q. q.above) (keys_lawful h d [] b r.packable (each h d 0 b r)) in
    record {
      packable = leaves_both k a b l.packable r.packable first second;
      each = All-from_recursion (IsLawfulEntry h v 0) (a ++ b) (all_both (IsLawfulEntry h v 0) a b
          (all_moved h c v 0 a refl (λ key q. (q.above, below_to_high v.high k key below q.below)) (each h c 0 a l))
          (all_moved h d v 0 b refl (λ key q. (above_key 0 v.low k key above q.above, q.below)) (each h d 0 b r)));
      none = λ e. absurd (some_high (l.none (nil_parts a b e).0).high);
    }
  where
    some_high : Some k ≡ None → ⊥
    some_high e = cc

-- ---- two index blocks

behind_below : (p k : List ℕ) (a : List Item) → cmp p k ≡ Less → Keys (λ key. Below key k) a
    → cmp (key_behind p a) k ≡ Less
behind_below p k [] low h = low
behind_below p k (e ∷ a) low h = behind_below e.key k a (below_less e.key k h.0) h.1

index_behind : (k : List ℕ) (b : List Item) → AreIndex [] b
    → AllByRecursion (λ (e : Item). (e.key ≡ [] → ⊥) → Below k e.key) b → AreIndex k b
index_behind k [] h above = absurd h
index_behind k (e ∷ []) h above = h
index_behind k (e ∷ f ∷ b) h above = (
  record { is_key = h.0.is_key; above = below_less k e.key (above.0 (some_key e.key h.0.is_key)) },
  h.1,
  h.2,
)

above_on : (level : ℕ) (low : Option (List ℕ)) (k key : List ℕ) → IsAboveLow (suc level) low k → Below k key
    → IsAboveLow (suc level) low key
above_on level None k key h b = tt
above_on level (Some low) k key h b = below_most low k key h (most_from k key (inl (below_less k key b)))

keyed_all : (h : Header) (v : Visit) (level : ℕ) (P : List ℕ → Type 0) (es : List Item)
    → ((key : List ℕ) → IsLawfulKey h v level key → P key) → AllByRecursion (IsLawfulEntry h v level) es
    → AllByRecursion (λ (e : Item). (e.key ≡ [] → ⊥) → P e.key) es
keyed_all h v level P es f l =
    all_weaker (IsLawfulEntry h v level) (λ (e : Item). (e.key ≡ [] → ⊥) → P e.key) es
    (λ e q some. f e.key (q.key some)) l

-- keys that leaves have
with_keys : (P : List ℕ → Type 0) (p : List ℕ) (a : List Item) → AreLeaves p a
    → AllByRecursion (λ (e : Item). (e.key ≡ [] → ⊥) → P e.key) a → Keys P a
with_keys P p [] h l = tt
with_keys P p (e ∷ a) h l = (l.0 (some_key e.key h.0.is_key), with_keys P e.key a h.1 l.1)

pub index_joined : (h : Header) (v : Visit) (level : ℕ) (k : List ℕ) (a : List Item) (m : Item) (b : List Item)
    → IsLawful h (below_key v k) (suc level) (a ++ m ∷ []) → IsLawful h (from_key v k) (suc level) b
    → IsKey k → IsLawfulKey h v (suc level) k → IsLawful h v (suc level) (a ++ with_key k m ∷ b)
index_joined h v level k a m b l r is_key lawful =
    let c : Visit = below_key v k in
    let d : Visit = from_key v k in
    let front = index_front [] a m [] l.packable in
    let lefts = each h c (suc level) (a ++ m ∷ []) l in
    let first = all_left (IsLawfulEntry h c (suc level)) a (m ∷ []) lefts in
    let star = (all_right (IsLawfulEntry h c (suc level)) a (m ∷ []) lefts).0 in
    let second = each h d (suc level) b r in
    let low = with_keys (λ key. Below key k) [] a front.leaves
    (keyed_all h c (suc level) (λ key. Below key k) a (λ key q. q.below) first) in
    let next : IsNext (key_behind [] a) (with_key k m) =
    record { is_key = is_key; above = behind_below [] k a (nothing_less k is_key) low } in
    let back = index_behind k b r.packable (keyed_all h d (suc level) (Below k) b (λ key q. q.above) second) in
    record {
      packable = index_join [] a (with_key k m ∷ b) front.leaves front.fours
          (index_cons (key_behind [] a) (with_key k m) b next front.rest.1 back);
      each = All-from_recursion (IsLawfulEntry h v (suc level)) (a ++ with_key k m ∷ b)
          (all_both (IsLawfulEntry h v (suc level)) a (with_key k m ∷ b)
          (all_moved h c v (suc level) a refl
          (λ key q. (q.above, below_to_high v.high k key lawful.below q.below)) first) (
            record { key = λ some. lawful; rest = star.rest },
            all_moved h d v (suc level) b refl (λ key q. (above_on level v.low k key lawful.above q.above, q.below))
                second,
          ));
      none = λ e. absurd (not_empty a (with_key k m) b e);
    }

-- ---- one leaf that is changed

next_same : (p : List ℕ) (e f : Item) → e.key ≡ f.key → IsNext p e → IsNext p f
next_same p e f same n =
    record { is_key = subst IsKey same n.is_key; above = subst (λ k. cmp p k ≡ Less) same n.above }

-- Another value stands behind a key.
pub value_changed : (h : Header) (v : Visit) (a : List Item) (e : Item) (b : List Item) (rest : List ℕ)
    → IsLawful h v 0 (a ++ e ∷ b) → IsLawfulRest h v.role 0 rest
    → IsLawful h v 0 (a ++ record { key = e.key; rest = rest } ∷ b)
value_changed h v a e b rest l right =
    let f : Item = record { key = e.key; rest = rest } in
    let back : AreLeaves (key_behind [] a) (e ∷ b) = leaves_right [] a (e ∷ b) l.packable in
    let all = each h v 0 (a ++ e ∷ b) l in
    let here = all_right (IsLawfulEntry h v 0) a (e ∷ b) all in
    record {
      packable = leaves_join [] a (f ∷ b) (leaves_left [] a (e ∷ b) l.packable)
          (next_same (key_behind [] a) e f refl back.0, back.1);
      each = All-from_recursion (IsLawfulEntry h v 0) (a ++ f ∷ b) (all_both (IsLawfulEntry h v 0) a (f ∷ b)
          (all_left (IsLawfulEntry h v 0) a (e ∷ b) all)
          (record { key = here.0.key; rest = right }, here.1));
      none = λ e. absurd (not_empty a f b e);
    }

-- An entry more stands between the others.
pub entry_put : (h : Header) (v : Visit) (a b : List Item) (e : Item) → IsLawful h v 0 (a ++ b)
    → AreLeaves (key_behind [] a) (e ∷ b) → IsLawfulEntry h v 0 e → IsLawful h v 0 (a ++ e ∷ b)
entry_put h v a b e l leaves lawful =
    let all = each h v 0 (a ++ b) l in
    record {
      packable = leaves_join [] a (e ∷ b) (leaves_left [] a b l.packable) leaves;
      each = All-from_recursion (IsLawfulEntry h v 0) (a ++ e ∷ b) (all_both (IsLawfulEntry h v 0) a (e ∷ b)
          (all_left (IsLawfulEntry h v 0) a b all) (lawful, all_right (IsLawfulEntry h v 0) a b all));
      none = λ e'. absurd (not_empty a e b e');
    }

-- Entries are taken out.
leaves_without : (p : List ℕ) (c b : List Item) → AreLeaves p (c ++ b) → AreLeaves p b
leaves_without p c [] h = tt
leaves_without p c (f ∷ b) h =
    let back : AreLeaves (key_behind p c) (f ∷ b) = leaves_right p c (f ∷ b) h in
    (record { is_key = back.0.is_key; above = leaves_less p c f b h }, back.1)

pub entries_taken : (h : Header) (v : Visit) (a c b : List Item) → IsLawful h v 0 (a ++ c ++ b)
    → (a ++ b ≡ [] → MayBeEmpty v 0) → IsLawful h v 0 (a ++ b)
entries_taken h v a c b l empty =
    let leaves : AreLeaves [] (a ++ (c ++ b)) = subst (AreLeaves []) (append_assoc a c b) l.packable in
    let all = each h v 0 (a ++ c ++ b) l in
    record {
      packable = leaves_join [] a b (leaves_left [] a (c ++ b) leaves)
          (leaves_without (key_behind [] a) c b (leaves_right [] a (c ++ b) leaves));
      each = All-from_recursion (IsLawfulEntry h v 0) (a ++ b) (all_both (IsLawfulEntry h v 0) a b
          (all_left (IsLawfulEntry h v 0) a c (all_left (IsLawfulEntry h v 0) (a ++ c) b all))
          (all_right (IsLawfulEntry h v 0) (a ++ c) b all));
      none = empty;
    }

-- ---- one index block that is changed

four_of : (h : Header) (v : Visit) (level : ℕ) (es : List Item) → AllByRecursion (IsLawfulEntry h v (suc level)) es
    → Fours es
four_of h v level es l =
    all_weaker (IsLawfulEntry h v (suc level)) (λ (e : Item). length e.rest ≡ 4) es
    (λ e q. (pointers h v v.role level e.rest q.rest).size) l

-- Others stand between the entries before and the rest, whose first is above the last of them if it has a key.
pub index_changed : (h : Header) (v : Visit) (level : ℕ) (a taken put : List Item) (f : Item) (b : List Item)
    → IsLawful h v (suc level) (a ++ taken ++ f ∷ b) → AreLeaves (key_behind [] a) put
    → (f.key ≢ [] → Below (key_behind (key_behind [] a) put) f.key) → All (IsLawfulEntry h v (suc level)) put
    → IsLawful h v (suc level) (a ++ put ++ f ∷ b)
index_changed h v level a taken put f b l leaves above lawful =
    let front = index_front [] (a ++ taken) f b l.packable in
    let all = each h v (suc level) (a ++ taken ++ f ∷ b) l in
    let firsts = all_left (IsLawfulEntry h v (suc level)) a taken
    (all_left (IsLawfulEntry h v (suc level)) (a ++ taken) (f ∷ b) all) in
    let puts = recursion_from_All (IsLawfulEntry h v (suc level)) put lawful in
    let lasts = all_right (IsLawfulEntry h v (suc level)) (a ++ taken) (f ∷ b) all in
    let back =
    next_index (key_behind [] (a ++ taken)) (key_behind (key_behind [] a) put) f b front.rest above in
    record {
      packable = subst (AreIndex []) (sym (append_assoc a put (f ∷ b)))
          (index_join [] a (put ++ f ∷ b) (leaves_left [] a taken front.leaves) (four_of h v level a firsts)
          (index_join (key_behind [] a) put (f ∷ b) leaves (four_of h v level put puts) back));
      each = All-from_recursion (IsLawfulEntry h v (suc level)) (a ++ put ++ f ∷ b)
          (all_both (IsLawfulEntry h v (suc level)) (a ++ put) (f ∷ b)
          (all_both (IsLawfulEntry h v (suc level)) a put firsts puts) lasts);
      none = λ e. absurd (not_empty (a ++ put) f b e);
    }
  where
    next_index : (p q : List ℕ) (f : Item) (b : List Item) → AreIndex p (f ∷ b)
        → (f.key ≢ [] → Below q f.key) → AreIndex q (f ∷ b)
    next_index p q f [] h above = h
    next_index p q f (g ∷ b) h above = (
      record { is_key = h.0.is_key; above = below_less q f.key (above (some_key f.key h.0.is_key)) },
      h.1,
      h.2,
    )

-- Others stand at the end, the star among them.
pub index_ended : (h : Header) (v : Visit) (level : ℕ) (a : List Item) (f : Item) (taken put : List Item)
    → IsLawful h v (suc level) (a ++ f ∷ taken) → AreIndex (key_behind [] a) put
    → All (IsLawfulEntry h v (suc level)) put → IsLawful h v (suc level) (a ++ put)
index_ended h v level a f taken put l index lawful =
    let front = index_front [] a f taken l.packable in
    let firsts = all_left (IsLawfulEntry h v (suc level)) a (f ∷ taken) (each h v (suc level) (a ++ f ∷ taken) l) in
    record {
      packable = index_join [] a put front.leaves front.fours index;
      each = All-from_recursion (IsLawfulEntry h v (suc level)) (a ++ put)
          (all_both (IsLawfulEntry h v (suc level)) a put firsts
          (recursion_from_All (IsLawfulEntry h v (suc level)) put lawful));
      none = λ e. absurd (subst (AreIndex (key_behind [] a)) (nil_parts a put e).1 index);
    }

-- ---- another visit with the same role and bounds

pub elsewhere : (h : Header) (v w : Visit) (level : ℕ) (es : List Item) → IsLawful h v level es → w.role ≡ v.role
    → w.low ≡ v.low → w.high ≡ v.high → IsLawful h w level es
elsewhere h v w level es l role low high = record {
  packable = l.packable;
  each = All-from_recursion (IsLawfulEntry h w level) es (all_moved h v w level es (sym role)
      (λ key q. (
        subst (λ bound. IsAboveLow level bound key) (sym low) q.above,
        subst (λ bound. IsBelowHigh bound key) (sym high) q.below,
      )) (each h v level es l));
  none = λ e.
      let m = l.none e in
      record { leaf = m.leaf; role = role ∙ m.role; low = low ∙ m.low; high = high ∙ m.high };
}

-- ---- an entry of an index block that becomes two

lawful_pointer : (h : Header) (role : TreeRole) (level : ℕ) (rest : List ℕ) → IsPointer h rest
    → IsLawfulRest h role (suc level) rest
lawful_pointer h directory level rest q = q
lawful_pointer h (global name) level rest q = q

second_index : (previous key : List ℕ) (e : Item) (right : List ℕ) (b : List Item) → length right ≡ 4
    → AreIndex previous (e ∷ b) → (e.key ≢ [] → Below key e.key)
    → AreIndex key (record { key = e.key; rest = right } ∷ b)
second_index previous key e right [] size index above = (index.0, size)
second_index previous key e right (g ∷ b) size index above = (
  record { is_key = index.0.is_key; above = below_less key e.key (above (some_key e.key index.0.is_key)) },
  size,
  index.2,
)

pub entry_parted : (h : Header) (v : Visit) (level : ℕ) (a : List Item) (e : Item) (b : List Item)
    (key left right : List ℕ)
    → IsLawful h v (suc level) (a ++ e ∷ b) → IsKey key → IsLawfulKey h v (suc level) key → Below (key_behind [] a) key
    → (e.key ≢ [] → Below key e.key) → IsPointer h left → IsPointer h right
    → IsLawful h v (suc level) (a ++ record { key = key; rest = left } ∷ record { key = e.key; rest = right } ∷ b)
entry_parted h v level a e b key left right l is_key lawful above below first second =
    let p : Item = record { key = key; rest = left } in
    let q : Item = record { key = e.key; rest = right } in
    let front = index_front [] a e b l.packable in
    let all = each h v (suc level) (a ++ e ∷ b) l in
    let here = all_right (IsLawfulEntry h v (suc level)) a (e ∷ b) all in
    let next : IsNext (key_behind [] a) p =
    record { is_key = is_key; above = below_less (key_behind [] a) key above } in
    record {
      packable = index_join [] a (p ∷ q ∷ b) front.leaves front.fours
          (next, first.size, second_index (key_behind [] a) key e right b second.size front.rest below);
      each = All-from_recursion (IsLawfulEntry h v (suc level)) (a ++ p ∷ q ∷ b)
          (all_both (IsLawfulEntry h v (suc level)) a (p ∷ q ∷ b)
          (all_left (IsLawfulEntry h v (suc level)) a (e ∷ b) all) (
            record { key = λ some. lawful; rest = lawful_pointer h v.role level left first },
            (record { key = here.0.key; rest = lawful_pointer h v.role level right second }, here.1),
          ));
      none = λ none. absurd (not_empty a p (q ∷ b) none);
    }
