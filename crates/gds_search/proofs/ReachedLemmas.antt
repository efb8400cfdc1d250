-- How far a search has come among the records of a block.
use Rattle.std.proofs.Common.{ℕ, zero, suc, ◌≡◌, ◌+◌, ◌≤◌, ◌<◌, List, [], ◌∷◌, ◌++◌, length, get_or, take, drop}
use Rattle.std.proofs.Common.{Bool, ◌⊎◌, inl, inr}
use Rattle.std.proofs.Common.{true, false, refl, sym, ◌∙◌, ap, subst, arith, append_assoc}
use Rattle.std.specs.Prelude.{All}
use Rattle.std.proofs.lemmas.Bool.{cases_lt}
use Rattle.std.proofs.lemmas.List.{append-nil}
use Rattle.std.proofs.lemmas.List.Elements.{All-nil, All-cons, All-append, All-head, All-same}
use Rattle.std.specs.Ordering.{nat_cmp, is_lt}
use Rattle.std.specs.Cmp.Lexicographic.{slice_cmp}
use Rattle.std.specs.declared.cmp.Ordering.TheVariants.{Less}
use Rattle.gds_block.specs.Record.{Record, StandsIn, records_of}
use Rattle.gds_block.specs.Item.{Item}
use Rattle.m_key.specs.KeyEnd.{IsKey, shared}
use Rattle.m_key.proofs.KeyEndLemmas.{shared-nil, take-shared, shared-le, length-key}
use Rattle.gds_pack.specs.Packed.{record_size, packed_size, packed_record, packed_records, key_behind, first_key}
use Rattle.gds_pack.specs.Packable.{IsNext, AreLeaves, AreIndex, ArePackable}
use Rattle.gds_pack.proofs.SizeLemmas.{records_size-append, key_behind-append}
use Rattle.gds_pack.proofs.ReadLemmas.{IsBefore, neighbours, length-body}
use Rattle.gds_search.specs.PackedBlock.{IsPackedBlock}
use Rattle.gds_search.specs.Place.{IsBelow, IsPlace, IsWithin, BeginsAt, BeginsAbove}
use Rattle.gds_search.specs.declared.place.Place.{Place}
use Rattle.gds_search.proofs.PackedLemmas.{records_of-packed}
use Rattle.gds_search.proofs.OrderLemmas.{Stands, stands-above, stands-below, shared-stops, shared-itself}
use Rattle.gds_search.proofs.BodyLemmas.{found, no_end, parted_above, parted_below}

-- the entries that a block of a level may have behind a key
abbrev pub MayFollow : ℕ → List ℕ → List Item → Type 0
MayFollow zero previous is = AreLeaves previous is
MayFollow (suc level) previous is = AreIndex previous is

-- The entries before a place are below the key, and the records left are those of the entries behind it.
pub record IsReached (es : List Item) (key : List ℕ) (height m : ℕ) (left : List Record) : Type 0 where
  pub before : List Item
  pub behind : List Item
  pub parts : es ≡ before ++ behind
  pub passed : All (IsBelow key) before
  pub rising : slice_cmp nat_cmp (key_behind [] before) key ≡ Less
  pub whole : IsBefore (key_behind [] before)
  pub follows : MayFollow height (key_behind [] before) behind
  pub records : left ≡ packed_records (packed_size before) (key_behind [] before) behind
  pub shares : m ≡ shared (key_behind [] before) key

-- ---- the start

pub above-none : (key : List ℕ) → IsKey key → slice_cmp nat_cmp [] key ≡ Less
above-none [] p = absurd (omega (arith, length-key [] p))
above-none (b ∷ key) p = refl

may_follow : (height : ℕ) (es : List Item) → ArePackable height es → MayFollow height [] es
may_follow zero es h = h
may_follow (suc level) es h = h

pub IsReached-start : (block key : List ℕ) (height : ℕ) (es : List Item) → IsKey key → IsPackedBlock block height es
    → IsReached es key height 0 (records_of block)
IsReached-start block key height es q p = record {
  before = [];
  behind = es;
  parts = refl;
  passed = All-nil (IsBelow key);
  rising = above-none key q;
  whole = inl refl;
  follows = may_follow height es p.packable;
  records = records_of-packed block height es p;
  shares = refl;
}

-- ---- any bytes

-- the place at a record that stands in the block
pub IsWithin-at : (block key : List ℕ) (left : List Record) (r : Record) (rs : List Record) (place : Place)
    (m s : ℕ) (e : Bool)
    → All (StandsIn block) left → left ≡ r ∷ rs
    → place ≡ record { offset = r.offset; is_equal = e; shared = m; next_shared = s }
    → m ≤ length key → s ≤ length key → IsWithin block key place
IsWithin-at block key left r rs place m s e placed same is shared next =
    let P = StandsIn block in
    let stands = All-head P r rs (All-same P (r ∷ rs) left (sym same) placed) in
    record {
      behind_head = omega (arith, stands.behind_head, ap (λ p. p.offset) is);
      used = omega (arith, stands.within, ap (λ p. p.offset) is);
      shares = omega (arith, shared, ap (λ p. p.shared) is);
      next_shares = omega (arith, next, ap (λ p. p.next_shared) is);
    }

-- ---- the next entry

-- the star
record IsStar (height : ℕ) (i : Item) (is : List Item) : Type 0 where
  index : height ≡ 0 → ⊥
  no_key : i.key ≡ []
  last : is ≡ []
  pointer : length i.rest ≡ 4

-- an entry with a key
record IsKeyed (height : ℕ) (previous : List ℕ) (i : Item) (is : List Item) : Type 0 where
  next : IsNext previous i
  more : MayFollow height i.key is
  pointer : (height ≡ 0 → ⊥) → length i.rest ≡ 4

kind_of : (height : ℕ) (previous : List ℕ) (i : Item) (is : List Item) → MayFollow height previous (i ∷ is)
    → IsStar height i is ⊎ IsKeyed height previous i is
kind_of zero previous i is (next, more) =
    inr (record { next = next; more = more; pointer = λ e. absurd (e refl) })
kind_of (suc level) previous i [] (nokey, four) =
    inl (record { index = λ e. omega (arith, e); no_key = nokey; last = refl; pointer = four })
kind_of (suc level) previous i (j ∷ is) (next, four, more) =
    inr (record { next = next; more = more; pointer = λ e. four })

none_behind : (offset : ℕ) (previous : List ℕ) (is : List Item) → packed_records offset previous is ≡ [] → is ≡ []
none_behind offset previous [] e = refl
none_behind offset previous (i ∷ is) e = absurd (cc)

module _ (es : List Item) (key : List ℕ) (height m : ℕ) (left : List Record) (at : IsReached es key height m left) where
  abbrev previous : List ℕ
  previous = key_behind [] at.before

  abbrev start : ℕ
  start = packed_size at.before

  -- where all entries are below the key
  pub IsPlace-end : left ≡ [] → (used : ℕ) → used ≡ packed_size es
      → IsPlace es key (record { offset = used; is_equal = false; shared = m; next_shared = 0 })
  IsPlace-end none used size =
      let last = none_behind start previous at.behind (sym at.records ∙ none) in
      let whole : es ≡ at.before = at.parts ∙ ap (λ is. at.before ++ is) last ∙ append-nil at.before in (
        at.before,
        at.behind,
        record {
          parts = at.parts;
          offset = size ∙ ap packed_size whole;
          below = at.passed;
          equal = tt;
          above = subst (BeginsAbove key) (sym last) tt;
          shares = at.shares;
          next_shares = sym (ap (λ is. shared (first_key is) key) last);
        },
      )

  -- the next entry and its record
  record HasNext (r : Record) (rs : List Record) : Type 0 where
    entry : Item
    others : List Item
    split : at.behind ≡ entry ∷ others
    is : r ≡ packed_record start previous entry
    more : rs ≡ packed_records (start + record_size previous entry) entry.key others
    kind : IsStar height entry others ⊎ IsKeyed height previous entry others

  has_next : (r : Record) (rs : List Record) → r ∷ rs ≡ left → HasNext r rs
  has_next r rs same = by at.behind refl
    where
      by : (b : List Item) → at.behind ≡ b → HasNext r rs
      by [] e =
          let whole : r ∷ rs ≡ [] = same ∙ at.records ∙ ap (packed_records start previous) e in
          absurd (cc)
      by (i ∷ is) e =
          let whole : r ∷ rs
          ≡ packed_record start previous i ∷ packed_records (start + record_size previous i) i.key is =
          same ∙ at.records ∙ ap (packed_records start previous) e in
          record {
            entry = i;
            others = is;
            split = e;
            is = cc;
            more = cc;
            kind = kind_of height previous i is (subst (MayFollow height previous) e at.follows);
          }

  module _ (r : Record) (rs : List Record) (same : r ∷ rs ≡ left) where
    abbrev n : HasNext r rs
    n = has_next r rs same

    counted : r.count ≡ shared previous n.entry.key
    counted = ap (λ x. x.count) n.is

    star_shares : IsStar height n.entry n.others → (shared previous n.entry.key ≡ 0) × (shared n.entry.key key ≡ 0)
    star_shares star = (
      ap (shared previous) star.no_key ∙ shared-nil previous,
      ap (λ k. shared k key) star.no_key,
    )

    stop_above : (s : ℕ) → BeginsAbove key (n.entry ∷ n.others) → s ≡ shared n.entry.key key
        → IsPlace es key (record { offset = r.offset; is_equal = false; shared = m; next_shared = s })
    stop_above s above shares = (
      at.before,
      at.behind,
      record {
        parts = at.parts;
        offset = ap (λ x. x.offset) n.is;
        below = at.passed;
        equal = tt;
        above = subst (BeginsAbove key) (sym n.split) above;
        shares = at.shares;
        next_shares = shares ∙ sym (ap (λ is. shared (first_key is) key) n.split);
      },
    )

    stop_equal : n.entry.key ≡ key
        → IsPlace es key (record { offset = r.offset; is_equal = true; shared = m; next_shared = length key })
    stop_equal found = (
      at.before,
      at.behind,
      record {
        parts = at.parts;
        offset = ap (λ x. x.offset) n.is;
        below = at.passed;
        equal = subst (BeginsAt key) (sym n.split) found;
        above = tt;
        shares = at.shares;
        next_shares =
            sym (ap (λ is. shared (first_key is) key) n.split ∙ ap (λ k. shared k key) found ∙ shared-itself key);
      },
    )

    goes_on : IsKeyed height previous n.entry n.others → (s : ℕ) → Stands n.entry.key key s
        → IsReached es key height s rs
    goes_on keyed s stands =
        let P = IsBelow key in
        let has_key : n.entry.key ≡ [] → ⊥ =
        λ e. omega (arith, length-key n.entry.key keyed.next.is_key, ap length e) in
        let last : key_behind [] (at.before ++ n.entry ∷ []) ≡ n.entry.key =
        key_behind-append [] at.before (n.entry ∷ []) in
        let size : packed_size (at.before ++ n.entry ∷ []) ≡ start + record_size previous n.entry =
        omega (arith, records_size-append [] at.before (n.entry ∷ [])) in
        record {
          before = at.before ++ n.entry ∷ [];
          behind = n.others;
          parts = at.parts ∙ ap (λ is. at.before ++ is) n.split
              ∙ sym (append_assoc at.before (n.entry ∷ []) n.others);
          passed = All-append P at.before (n.entry ∷ []) at.passed
              (All-cons P n.entry [] (has_key, ap is_lt stands.below) (All-nil P));
          rising = ap (λ k. slice_cmp nat_cmp k key) last ∙ stands.below;
          whole = subst IsBefore (sym last) (inr keyed.next.is_key);
          follows = subst (λ k. MayFollow height k n.others) (sym last) keyed.more;
          records = n.more ∙ sym (λ k. packed_records (size k) (last k) n.others);
          shares = sym (ap (λ k. shared k key) last ∙ stands.shares);
        }

    -- a count above what is shared
    pub IsReached-skipped : m < r.count → IsReached es key height m rs
    IsReached-skipped less =
        elim n.kind [
          | inl star ↦ absurd (omega (arith, less, counted, star_shares star))
          | inr keyed ↦
              let s = stands-above previous n.entry.key key keyed.next.above at.rising
              (omega (arith, less, counted, at.shares)) in
              subst (λ k. IsReached es key height k rs) (sym at.shares) (goes_on keyed _ s)
        ]

    -- a count below it
    pub IsPlace-past : r.count < m
        → IsPlace es key (record { offset = r.offset; is_equal = false; shared = m; next_shared = r.count })
    IsPlace-past less =
        elim n.kind [
          | inl star ↦ stop_above r.count (inl star.no_key) (omega (arith, counted, star_shares star))
          | inr keyed ↦
              let s = stands-below previous n.entry.key key keyed.next.above
              (omega (arith, less, counted, at.shares)) in
              stop_above r.count (inr (ap is_lt s.below)) (counted ∙ sym s.shared_by)
        ]

    body_size : length r.body + 4 ≡ record_size previous n.entry
    body_size = ap (λ x. length x.body + 4) n.is ∙ length-body start previous n.entry

    -- the star
    pub IsPlace-star : (height ≡ 0 → ⊥) → length r.body ≡ 4
        → IsPlace es key (record { offset = r.offset; is_equal = false; shared = m; next_shared = 0 })
    IsPlace-star index four =
        elim n.kind [
          | inl star ↦ stop_above 0 (inl star.no_key) (omega (arith, star_shares star))
          | inr keyed ↦
              let near = neighbours previous n.entry at.whole keyed.next in
              absurd (omega (arith, four, body_size, keyed.pointer index, near.below))
        ]

    -- an entry with a key, which shares as much with the key before as the key that is looked for
    module _ (no_star : (height ≡ 0 → ⊥) → length r.body ≡ 4 → ⊥) (tied : r.count ≡ m) (q : IsKey key) where
      keyed : IsKeyed height previous n.entry n.others
      keyed =
          elim n.kind [
            | inl star ↦
                absurd (no_star star.index (omega
                (arith, body_size, star.pointer, ap length star.no_key)))
            | inr k ↦ k
          ]

      at_count : shared previous n.entry.key ≡ m
      at_count = sym counted ∙ tied

      agree : take m n.entry.key ≡ take m key
      agree =
          ap (λ k. take k n.entry.key) (sym at_count)
          ∙ sym (take-shared previous n.entry.key)
          ∙ ap (λ k. take k previous) (at_count ∙ at.shares)
          ∙ take-shared previous key
          ∙ ap (λ k. take k key) (sym at.shares)

      body_is : r.body ≡ drop m n.entry.key ++ n.entry.rest
      body_is = ap (λ x. x.body) n.is ∙ ap (λ k. drop k n.entry.key ++ n.entry.rest) at_count

      in_own : m ≤ length n.entry.key
      in_own = omega (arith, at_count, shared-le previous n.entry.key)

      in_key : m ≤ length key
      in_key = omega (arith, at.shares, shared-le previous key)

      -- so many bytes of the body are those of the rest of the key that is looked for
      module _ (rest : List ℕ) (tail : rest ≡ drop m key) (s : ℕ) (is : s ≡ shared r.body rest) where
        here : s ≡ shared (drop m n.entry.key ++ n.entry.rest) (drop m key)
        here = is ∙ (λ k. shared (body_is k) (tail k))

        pub IsPlace-equal : s ≡ length rest
            → IsPlace es key (record { offset = r.offset; is_equal = true; shared = m; next_shared = length key })
        IsPlace-equal all =
            stop_equal (found n.entry.key n.entry.rest key m agree in_own in_key keyed.next.is_key q s here
            (all ∙ ap length tail))

        pub no_end_within : s ≡ length r.body → (s ≡ length rest → ⊥) → ⊥
        no_end_within all ne =
            no_end n.entry.key n.entry.rest key m agree in_own in_key keyed.next.is_key q s here
            (all ∙ ap length body_is) (λ e. ne (e ∙ sym (ap length tail)))

        module _ (inside : s < length r.body) (short : s < length rest) where
          inside_own : s < length (drop m n.entry.key ++ n.entry.rest)
          inside_own = omega (arith, ap length body_is)

          short_key : s < length (drop m key)
          short_key = omega (arith, ap length tail)

          own_byte : get_or r.body s 0 ≡ get_or (drop m n.entry.key ++ n.entry.rest) s 0
          own_byte = ap (λ xs. get_or xs s 0) body_is

          key_byte : get_or rest s 0 ≡ get_or (drop m key) s 0
          key_byte = ap (λ xs. get_or xs s 0) tail

          pub IsPlace-above : get_or rest s 0 < get_or r.body s 0
              → IsPlace es key (record { offset = r.offset; is_equal = false; shared = m; next_shared = m + s })
          IsPlace-above l =
              let stands = parted_below n.entry.key n.entry.rest key m agree in_own in_key keyed.next.is_key q s here
              inside_own short_key (omega (arith, l, own_byte, key_byte)) in
              stop_above (m + s) (inr (ap is_lt stands.below)) (sym stands.shared_by)

          pub IsReached-passed : get_or r.body s 0 ≤ get_or rest s 0 → IsReached es key height (m + s) rs
          IsReached-passed l =
              let ne = shared-stops r.body rest s (sym is) inside short in
              let less : get_or r.body s 0 < get_or rest s 0 =
              elim (cases_lt (get_or r.body s 0) (get_or rest s 0)) [
                | inl h ↦ h
                | inr h ↦ absurd (ne (omega (arith, l, h)))
              ] in
              goes_on keyed (m + s) (parted_above n.entry.key n.entry.rest key m agree in_own in_key
              keyed.next.is_key q s here inside_own short_key (omega (arith, less, own_byte, key_byte)))
