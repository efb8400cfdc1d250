-- The entries that lead to pieces are lawful in the block above, and how much room they take there.
use Rattle.std.proofs.Common.{◌≡◌, ◌≢◌, ℕ, suc, ◌+◌, ◌*◌, ◌-◌, ◌<◌, ◌≤◌, List, [], ◌∷◌, ◌++◌, length, Option, None}
use Rattle.std.proofs.Common.{Some, inl, refl, sym, ap, subst, ◌∙◌, arith, append_assoc}
use Rattle.std.specs.Prelude.{◌^◌}
use Rattle.std.specs.List.{AllByRecursion}
use Rattle.std.proofs.lemmas.List.Elements.{All-from_recursion, recursion_from_All}
use Rattle.std.proofs.Math.Nat.{suc-mul}
use Rattle.gds_block.specs.Fields.{u32_at, u32_bytes}
use Rattle.gds_block.specs.Item.{Item}
use Rattle.gds_block.proofs.FieldLemmas.{length-u32_bytes}
use Rattle.gds_header.specs.Kinds.{IsWithinLimits}
use Rattle.gds_header.specs.declared.header.Header.{Header}
use Rattle.gds_law.specs.Visit.{TreeRole, directory, global, Visit}
use Rattle.gds_pack.specs.Packable.{AreLeaves, AreIndex}
use Rattle.gds_pack.specs.Packed.{packed_size, key_behind}
use Rattle.gds_pack.proofs.BoundLemmas.{packed_size-added_rising}
use Rattle.gds_pack.proofs.SizeLemmas.{records_size-append}
use Rattle.gds_sound.proofs.BlockLemmas.{nil_parts}
use Rattle.m_key.specs.Key.{Below}
use Rattle.m_key.specs.KeyEnd.{IsKey}
use Rattle.gds_tree.specs.Below.{high_below, low_behind, from_key}
use Rattle.gds_tree.specs.Lawful.{IsTreeNumber, IsPointer, IsOfRole, IsAboveLow, IsBelowHigh, IsLawfulRest}
use Rattle.gds_tree.specs.Lawful.{IsLawfulKey, IsLawfulEntry, IsLawful}
use Rattle.gds_tree.proofs.BelowLemmas.{all_left, all_right, all_both, low_append}
use Rattle.gds_tree.proofs.FineLemmas.{some_key}
use Rattle.gds_tree.proofs.ItemLemmas.{below_to_high}
use Rattle.gds_tree.proofs.JoinLemmas.{entry_parted}
use Rattle.gds_tree.proofs.KeepLemmas.{pointers}
use Rattle.gds_tree.proofs.LawfulLemmas.{each}
use Rattle.gds_tree.proofs.ListLemmas.{index_front, index_join, nothing_less}
use Rattle.gds_tree.proofs.RenumberLemmas.{pointer_read}
use Rattle.gds_tree.proofs.RootLemmas.{high_key}
use Rattle.gds_tree.proofs.TestLemmas.{below_less, less_below, below_most, most_from}
use Rattle.gds_split.specs.Pieces.{Piece, GoInto, entries_in, parting_key, entry_to, pieces_above, IsVisitBelow}
use Rattle.gds_split.proofs.CutLemmas.{cut}
use Rattle.gds_split.proofs.LawfulLemmas.{AreSome, more_behind, below_left}

-- ---- pointers to pieces

small : (h : Header) (n : ℕ) → IsWithinLimits h → IsTreeNumber h.total n → n < 2 ^ 32
small h n limits k =
    let a = k.within in
    let b = limits.total_to in
    let c = limits.limit_to in
    omega arith

pub leads : (h : Header) (n : ℕ) → IsWithinLimits h → IsTreeNumber h.total n → u32_at (u32_bytes n) 0 ≡ n
leads h n limits k = pointer_read n (small h n limits k)

pub pointer_to : (h : Header) (n : ℕ) → IsWithinLimits h → IsTreeNumber h.total n → IsPointer h (u32_bytes n)
pointer_to h n limits k = record {
  size = length-u32_bytes n;
  leads = subst (IsTreeNumber h.total) (sym (leads h n limits k)) k;
}

pub index_rest : (h : Header) (role : TreeRole) (level : ℕ) (rest : List ℕ) → IsPointer h rest
    → IsLawfulRest h role (suc level) rest
index_rest h directory level rest q = q
index_rest h (global name) level rest q = q

-- An entry may lead to another block.
same_index : (previous : List ℕ) (e : Item) (rest : List ℕ) (b : List Item) → length rest ≡ 4
    → AreIndex previous (e ∷ b) → AreIndex previous (record { key = e.key; rest = rest } ∷ b)
same_index previous e rest [] four index = (index.0, four)
same_index previous e rest (g ∷ b) four index =
    (record { is_key = index.0.is_key; above = index.0.above }, four, index.2)

pointer_changed : (h : Header) (v : Visit) (level : ℕ) (a : List Item) (e : Item) (b : List Item) (rest : List ℕ)
    → IsLawful h v (suc level) (a ++ e ∷ b) → IsPointer h rest
    → IsLawful h v (suc level) (a ++ record { key = e.key; rest = rest } ∷ b)
pointer_changed h v level a e b rest l pointer =
    let f : Item = record { key = e.key; rest = rest } in
    let front = index_front [] a e b l.packable in
    let all = each h v (suc level) (a ++ e ∷ b) l in
    let here = all_right (IsLawfulEntry h v (suc level)) a (e ∷ b) all in
    record {
      packable = index_join [] a (f ∷ b) front.leaves front.fours
          (same_index (key_behind [] a) e rest b pointer.size front.rest);
      each = All-from_recursion (IsLawfulEntry h v (suc level)) (a ++ f ∷ b)
          (all_both (IsLawfulEntry h v (suc level)) a (f ∷ b)
          (all_left (IsLawfulEntry h v (suc level)) a (e ∷ b) all)
          (record { key = here.0.key; rest = index_rest h v.role level rest pointer }, here.1));
      none = λ none. let some = (nil_parts a (f ∷ b) none).1 in absurd (cc);
    }

-- ---- the key that parts, in the block above

above_on : (level : ℕ) (low : Option (List ℕ)) (k key : List ℕ) → IsAboveLow (suc level) low k → Below k key
    → IsAboveLow (suc level) low key
above_on level None k key h b = tt
above_on level (Some low) k key h b = below_most low k key h (most_from k key (inl (below_less k key b)))

at_level : (level : ℕ) (low : Option (List ℕ)) (key : List ℕ) → IsAboveLow 1 low key → IsAboveLow (suc level) low key
at_level level None key h = tt
at_level level (Some low) key h = h

pub low_is : (key : List ℕ) (front : List Item) → low_behind (Some key) front ≡ Some (key_behind key front)
low_is key [] = refl
low_is key (e ∷ front) = low_is e.key front

behind_lawful : (h : Header) (v : Visit) (level : ℕ) (previous : List ℕ) (a : List Item) → AreLeaves previous a
    → AllByRecursion (IsLawfulEntry h v (suc level)) a → IsLawfulKey h v (suc level) previous
    → IsLawfulKey h v (suc level) (key_behind previous a)
behind_lawful h v level previous [] leaves all l = l
behind_lawful h v level previous (e ∷ a) leaves all l =
    behind_lawful h v level e.key a leaves.1 all.1 (all.0.key (some_key e.key leaves.0.is_key))

-- A key above the bound behind some entries is above the key of the last of them, and above the block's own bound.
between : (h : Header) (v : Visit) (level : ℕ) (a : List Item) (k : List ℕ) → AreLeaves [] a
    → AllByRecursion (IsLawfulEntry h v (suc level)) a → IsKey k → IsAboveLow 1 (low_behind v.low a) k
    → Below (key_behind [] a) k × IsAboveLow (suc level) v.low k
between h v level [] k leaves all is_key above =
    (less_below [] k (nothing_less k is_key), at_level level v.low k above)
between h v level (e ∷ a) k leaves all is_key above =
    let last = behind_lawful h v level e.key a leaves.1 all.1 (all.0.key (some_key e.key leaves.0.is_key)) in
    let higher : Below (key_behind e.key a) k = subst (λ low. IsAboveLow 1 low k) (low_is e.key a) above in
    (higher, above_on level v.low (key_behind e.key a) k last.above higher)

-- A key below the bound that an entry makes is below the block's own bound.
upper : (high : Option (List ℕ)) (key k : List ℕ) → (key ≢ [] → IsBelowHigh high key)
    → IsBelowHigh (high_below high key) k → IsBelowHigh high k
upper high [] k own below = below
upper high (b ∷ key) k own below = below_to_high high (b ∷ key) k (own (λ none. absurd (cc))) below

-- room for one piece more
more_room : (n c : ℕ) → (suc (suc n) - 1) * c ≡ (suc n - 1) * c + c
more_room n c =
    let less : suc n - 1 ≡ n = omega arith in
    let more : suc (suc n) - 1 ≡ suc n = omega arith in
    ap (λ m. m * c) more ∙ suc-mul n c ∙ sym (ap (λ m. m * c + c) less)

module _ (h : Header) (v : Visit) (level : ℕ) (e : Item) (b : List Item) (limits : IsWithinLimits h) where
  -- A lawful key of the block below parts the entry in two.
  one_more : (a : List Item) (w : Visit) (k : List ℕ) (n : ℕ) → IsLawful h v (suc level) (a ++ e ∷ b)
      → IsVisitBelow v (low_behind v.low a) e.key w → IsKey k → IsLawfulKey h w 1 k → IsTreeNumber h.total n
      → IsLawful h v (suc level) (a ++ entry_to n k ∷ e ∷ b)
  one_more a w k n l at is_key key number =
      let front = index_front [] a e b l.packable in
      let all = each h v (suc level) (a ++ e ∷ b) l in
      let here = (all_right (IsLawfulEntry h v (suc level)) a (e ∷ b) all).0 in
      let below = subst (λ high. IsBelowHigh high k) at.upper key.below in
      let place = between h v level a k front.leaves (all_left (IsLawfulEntry h v (suc level)) a (e ∷ b) all) is_key
      (subst (λ low. IsAboveLow 1 low k) at.lower key.above) in
      entry_parted h v level a e b k (u32_bytes n) e.rest l is_key (record {
        short = key.short;
        right = key.right;
        role = subst (λ role. IsOfRole role k) at.same_role key.role;
        above = place.1;
        below = upper v.high e.key k (λ some. (here.key some).below) below;
      }) place.0 (λ some. subst (λ high. IsBelowHigh high k) (high_key v.high e.key some) below)
      (pointer_to h n limits number) (pointers h v v.role level e.rest here.rest)

  -- The entries that lead to pieces stand in the place of the entry.
  pub record ArePut (a : List Item) (pieces : List Piece) : Type 0 where
    pub lawful : IsLawful h v (suc level) (a ++ (pieces_above level pieces e.key ++ b))
    pub size : packed_size (a ++ (pieces_above level pieces e.key ++ b))
        ≤ packed_size (a ++ e ∷ b) + (length pieces - 1) * (8 + h.key_max)

  one_put : (a : List Item) (p : Piece) → IsLawful h v (suc level) (a ++ e ∷ b) → IsTreeNumber h.total p.number
      → ArePut a (p ∷ [])
  one_put a p l number =
      let all = each h v (suc level) (a ++ e ∷ b) l in
      let here = (all_right (IsLawfulEntry h v (suc level)) a (e ∷ b) all).0 in
      let pointer = pointer_to h p.number limits number in
      let four = (pointers h v v.role level e.rest here.rest).size in
      record {
        lawful = pointer_changed h v level a e b (u32_bytes p.number) l pointer;
        size = omega (
          arith,
          four,
          pointer.size,
          records_size-append [] a (e ∷ b),
          records_size-append [] a (entry_to p.number e.key ∷ b),
        );
      }

  more_put : (a : List Item) (p q : Piece) (pieces : List Piece) (k : List ℕ)
      → k ≡ parting_key level p.entries (entries_in (q ∷ pieces)) → length k ≤ h.key_max
      → IsLawful h v (suc level) (a ++ entry_to p.number k ∷ e ∷ b)
      → ArePut (a ++ entry_to p.number k ∷ []) (q ∷ pieces) → ArePut a (p ∷ q ∷ pieces)
  more_put a p q pieces k same short l rest =
      let x : Item = entry_to p.number k in
      let ys : List Item = pieces_above level (q ∷ pieces) e.key ++ b in
      let now : (a ++ x ∷ []) ++ ys ≡ a ++ (pieces_above level (p ∷ q ∷ pieces) e.key ++ b) =
      append_assoc a (x ∷ []) ys ∙ ap (λ key. a ++ (entry_to p.number key ∷ ys)) same in
      record {
        lawful = subst (IsLawful h v (suc level)) now rest.lawful;
        size = omega (
          arith,
          rest.size,
          ap packed_size now,
          ap packed_size (append_assoc a (x ∷ []) (e ∷ b)),
          packed_size-added_rising (suc level) a (e ∷ b) x l.packable,
          length-u32_bytes p.number,
          short,
          more_room (length pieces) (8 + h.key_max),
        );
      }

  pub put : (a : List Item) (w : Visit) (pieces : List Piece) → pieces ≢ [] → IsLawful h v (suc level) (a ++ e ∷ b)
      → IsVisitBelow v (low_behind v.low a) e.key w → AreSome pieces
      → AllByRecursion (λ (p : Piece). IsTreeNumber h.total p.number) pieces → IsLawful h w level (entries_in pieces)
      → ArePut a pieces
  put a w [] any l at some numbered below = absurd (any refl)
  put a w (p ∷ []) any l at some numbered below = one_put a p l numbered.0
  put a w (p ∷ q ∷ pieces) any l at some numbered below =
      let behind : List Item = entries_in (q ∷ pieces) in
      let k : List ℕ = parting_key level p.entries behind in
      let x : Item = entry_to p.number k in
      let c = cut h w level p.entries behind below some.0 (more_behind q pieces some.1) in
      let more = one_more a w k p.number l at c.is_key c.lawful numbered.0 in
      let left = below_left v w (low_behind v.low a) e.key k at in
      more_put a p q pieces k refl c.lawful.short more
      (put (a ++ x ∷ []) (from_key w k) (q ∷ pieces) (λ none. absurd (cc))
      (subst (IsLawful h v (suc level)) (sym (append_assoc a (x ∷ []) (e ∷ b))) more)
      (record { same_role = left.same_role; lower = sym (low_append v.low a (x ∷ [])); upper = left.upper })
      some.1 numbered.1 c.back)

  pub parted : (w : Visit) (a es : List Item) (pieces : List Piece) → IsLawful h v (suc level) (a ++ e ∷ b)
      → IsVisitBelow v (low_behind v.low a) e.key w → IsLawful h w level es → GoInto h.total es pieces
      → ArePut a pieces
  parted w a es pieces l at below g =
      put a w pieces g.any l at (recursion_from_All (λ (p : Piece). p.entries ≡ [] → ⊥) pieces g.some)
      (recursion_from_All (λ (p : Piece). IsTreeNumber h.total p.number) pieces g.numbered)
      (subst (IsLawful h w level) (sym g.whole) below)

-- ---- the entries alone

last_behind : (level : ℕ) (previous : List ℕ) (pieces : List Piece) (key : List ℕ) → (pieces ≡ [] → ⊥)
    → key_behind previous (pieces_above level pieces key) ≡ key
last_behind level previous [] key any = absurd (any refl)
last_behind level previous (p ∷ []) key any = refl
last_behind level previous (p ∷ q ∷ pieces) key any =
    last_behind level (parting_key level p.entries (entries_in (q ∷ pieces))) (q ∷ pieces) key
    (λ none. absurd (cc))

pub last_key : (total level : ℕ) (es : List Item) (pieces : List Piece) (key : List ℕ) → GoInto total es pieces
    → key_behind [] (pieces_above level pieces key) ≡ key
last_key total level es pieces key g = last_behind level [] pieces key g.any

pub above_count : (level : ℕ) (pieces : List Piece) (key : List ℕ)
    → length (pieces_above level pieces key) ≡ length pieces
above_count level [] key = refl
above_count level (p ∷ pieces) key = ap suc (above_count level pieces key)
