-- Keys stand in the order of their nodes, none begins another, and those of descendants stand together.
use Rattle.std.proofs.Common.{◌≡◌, ℕ, zero, suc, ◌-◌, ◌<◌, ◌≤◌, Bool, true, false, ◌||◌, ◌==◌, true≢false, List, []}
use Rattle.std.proofs.Common.{◌∷◌, ◌++◌, length, take, drop, refl, sym, ap, ap₂, ◌∙◌, arith, nat_cmp, is_eq, is_lt}
use Rattle.std.proofs.Common.{is_le, Ordering, Less, Equal, Greater, flat_map, append_assoc, append-nil, All}
use Rattle.std.proofs.Common.{length-append, take_at, bytes_eq}
use Rattle.std.specs.Prelude.{slice_index}
use Rattle.std.specs.Char.{is_ascii_alphabetic, is_ascii_alphanumeric}
use Rattle.std.specs.FinMap.{slice_cmp-IsAntisymmetric, nat_cmp-IsAntisymmetric}
use Rattle.std.specs.Ordering.{ordering_then, eq_by_cmp}
use Rattle.std.specs.Cmp.Lexicographic.{slice_cmp, bytes_decides}
use Rattle.std.specs.List.{AllByRecursion, list_all, starts_with}
use Rattle.std.proofs.lemmas.Bool.{and_parts, and_from}
use Rattle.std.proofs.lemmas.List.Elements.{recursion_from_All}
use Rattle.std.proofs.lemmas.List.Concat.{flat_map-append}
use Rattle.m_number.specs.Numeral.{Numeral, IsNumeral}
use Rattle.m_number.specs.Bytes.{bytes_of}
use Rattle.m_number.specs.Order.{number_cmp}
use Rattle.m_key.specs.Node.{Node, NodeSubscript, number, string, is_word, IsSubscript, IsNode}
use Rattle.m_key.specs.Key.{escaped, subscript_bytes, ended, lead_bytes, key_bytes, past_bytes}
use Rattle.m_key.specs.Collation.{subscript_cmp, reference_cmp, Leads}
use Rattle.m_key.specs.Globals.{is_led}
use Rattle.m_key.proofs.ZeroLemmas.{NoZero, cmp-ended, split-ended, cmp-same, cmp-prefix}
use Rattle.m_key.proofs.ZeroLemmas.{zero_least, le_front, begins-from, between_begins}
use Rattle.m_key.proofs.EscapeLemmas.{cmp-escaped, NoZero-escaped, escaped-injective}
use Rattle.m_number.proofs.OrderingLemmas.{nat_cmp_less, nat_cmp_greater}

-- what is known of the bytes of numbers
pub record NumberLaws : Type 0 where
  pub order : (a b : Numeral) → IsNumeral a → IsNumeral b → slice_cmp nat_cmp (bytes_of a) (bytes_of b) ≡ number_cmp a b
  pub one : (a b : Numeral) → IsNumeral a → IsNumeral b → bytes_of a ≡ bytes_of b → a ≡ b
  pub count : (n : Numeral) → IsNumeral n → (1 ≤ length (bytes_of n)) × (length (bytes_of n) ≤ 11)
  pub first : (n : Numeral) → IsNumeral n → slice_index (bytes_of n) 0 < 255
  pub each : (n : Numeral) → IsNumeral n → All (λ b. (0 < b) × (b < 256)) (bytes_of n)

-- a list with a first byte from 1 to 255
pub record Begun (xs : List ℕ) : Type 0 where
  pub first : ℕ
  pub rest : List ℕ
  pub is : xs ≡ first ∷ rest
  pub above : 0 < first

begun_by : (xs : List ℕ) → 1 ≤ length xs → NoZero xs → Begun xs
begun_by [] h z = absurd (omega arith)
begun_by (x ∷ xs) h z = record { first = x; rest = xs; is = refl; above = z.0 }

below_255 : (xs : List ℕ) (ys : List ℕ) → 1 ≤ length xs → slice_index xs 0 < 255
    → slice_cmp nat_cmp xs (255 ∷ ys) ≡ Less
below_255 [] ys h f = absurd (omega arith)
below_255 (x ∷ xs) ys h f = ap (λ o. ordering_then o (slice_cmp nat_cmp xs ys)) (nat_cmp_less x 255 f)

above_255 : (xs : List ℕ) (ys : List ℕ) → 1 ≤ length xs → slice_index xs 0 < 255
    → slice_cmp nat_cmp (255 ∷ ys) xs ≡ Greater
above_255 [] ys h f = absurd (omega arith)
above_255 (x ∷ xs) ys h f = ap (λ o. ordering_then o (slice_cmp nat_cmp ys xs)) (nat_cmp_greater 255 x f)

weaker : (xs : List ℕ) → AllByRecursion (λ b. (0 < b) × (b < 256)) xs → NoZero xs
weaker [] h = tt
weaker (x ∷ xs) h = (h.0.0, weaker xs h.1)

abbrev pub Right : List NodeSubscript → Type 0
Right ss = AllByRecursion IsSubscript ss

-- no name has a byte 0
above_zero : (test : ℕ → Bool) → test 0 ≡ false → (b : ℕ) → test b ≡ true → 0 < b
above_zero test zero_fails zero passes = absurd (true≢false (sym passes ∙ zero_fails))
above_zero test zero_fails (suc b) passes = omega arith

NoZero-all : (bs : List ℕ) → list_all is_ascii_alphanumeric bs ≡ true → NoZero bs
NoZero-all [] h = tt
NoZero-all (b ∷ bs) h =
    let both = and_parts (is_ascii_alphanumeric b) (list_all is_ascii_alphanumeric bs) h in
    (above_zero is_ascii_alphanumeric refl b both.0, NoZero-all bs both.1)

NoZero-word : (bs : List ℕ) → is_word bs ≡ true → NoZero bs
NoZero-word [] h = tt
NoZero-word (b ∷ bs) h =
    let both = and_parts (b == 37 || is_ascii_alphabetic b) (list_all is_ascii_alphanumeric bs) h in
    (above_zero (λ b. b == 37 || is_ascii_alphabetic b) refl b both.0, NoZero-all bs both.1)

pub is_equal : (o : Ordering) → is_eq o ≡ true → o ≡ Equal
is_equal Less h = absurd (true≢false (sym h))
is_equal Equal h = refl
is_equal Greater h = absurd (true≢false (sym h))

-- the parts of a key
pub lead-is : (a : Node) (rest : List ℕ) → lead_bytes a ++ rest ≡ a.name ++ 0 ∷ (flat_map ended a.subscripts ++ rest)
unfolding lead_bytes
lead-is a rest = append_assoc a.name (0 ∷ flat_map ended a.subscripts) rest

pub key-is : (a : Node) → key_bytes a ≡ a.name ++ 0 ∷ (flat_map ended a.subscripts ++ 0 ∷ [])
key-is a = lead-is a (0 ∷ [])

ended-last : (s : NodeSubscript) (ss : List NodeSubscript)
    → (front : List ℕ) × (flat_map ended (s ∷ ss) ≡ front ++ 0 ∷ [])
ended-last s [] = (subscript_bytes s, append-nil (ended s))
ended-last s (t ∷ ts) =
    let r = ended-last t ts in
    (ended s ++ r.0, ap (λ l. ended s ++ l) r.1 ∙ sym (append_assoc (ended s) r.0 (0 ∷ [])))

lead-last : (a : Node) → (front : List ℕ) × (lead_bytes a ≡ front ++ 0 ∷ [])
unfolding lead_bytes
lead-last a = last_by a.name a.subscripts
  where
    last_by : (name : List ℕ) (ss : List NodeSubscript)
        → (front : List ℕ) × (name ++ 0 ∷ flat_map ended ss ≡ front ++ 0 ∷ [])
    last_by name [] = (name, refl)
    last_by name (s ∷ ss) =
        let r = ended-last s ss in
        (name ++ 0 ∷ r.0, ap (λ l. name ++ 0 ∷ l) r.1 ∙ sym (append_assoc name (0 ∷ r.0) (0 ∷ [])))

past-is : (a : Node) (front : List ℕ) → lead_bytes a ≡ front ++ 0 ∷ [] → past_bytes a ≡ front ++ 1 ∷ []
past-is a front e =
    ap (λ l. take (length l - 1) l ++ 1 ∷ []) e
    ∙ ap (λ l. l ++ 1 ∷ [])
    (take_at front (0 ∷ []) (length (front ++ 0 ∷ []) - 1) (omega (arith, length-append front (0 ∷ []))))

-- a key of a descendant begins so
pub lead-begins : (a b : Node) (h : Leads a b) → key_bytes b ≡ lead_bytes a ++ (flat_map ended h.subscripts.0 ++ 0 ∷ [])
lead-begins a b h =
    key-is b
    ∙ ap₂ (λ l m. l ++ 0 ∷ (m ++ 0 ∷ [])) h.name (ap (flat_map ended) h.subscripts.1
    ∙ flat_map-append ended a.subscripts h.subscripts.0)
    ∙ ap (λ l. a.name ++ 0 ∷ l) (append_assoc (flat_map ended a.subscripts) (flat_map ended h.subscripts.0) (0 ∷ []))
    ∙ sym (lead-is a (flat_map ended h.subscripts.0 ++ 0 ∷ []))

-- the bytes from a first subscript on
pub ended-more : (s : NodeSubscript) (ss : List NodeSubscript) (rest : List ℕ)
    → flat_map ended (s ∷ ss) ++ rest ≡ subscript_bytes s ++ 0 ∷ (flat_map ended ss ++ rest)
ended-more s ss rest =
    append_assoc (subscript_bytes s ++ 0 ∷ []) (flat_map ended ss) rest
    ∙ append_assoc (subscript_bytes s) (0 ∷ []) (flat_map ended ss ++ rest)

module _ (laws : NumberLaws) where
  pub NoZero-subscript : (s : NodeSubscript) → IsSubscript s → NoZero (subscript_bytes s)
  NoZero-subscript (number n) h =
      weaker (bytes_of n) (recursion_from_All (λ b. (0 < b) × (b < 256)) (bytes_of n) (laws.each n h))
  NoZero-subscript (string t) h = (omega arith, NoZero-escaped t)

  length-subscript : (s : NodeSubscript) → IsSubscript s → 1 ≤ length (subscript_bytes s)
  length-subscript (number n) h = (laws.count n h).0
  length-subscript (string t) h = omega arith

  cmp-subscript : (s t : NodeSubscript) → IsSubscript s → IsSubscript t
      → slice_cmp nat_cmp (subscript_bytes s) (subscript_bytes t) ≡ subscript_cmp s t
  cmp-subscript (number a) (number b) p q = laws.order a b p q
  cmp-subscript (number a) (string t) p q =
      below_255 (bytes_of a) (flat_map escaped t) (laws.count a p).0 (laws.first a p)
  cmp-subscript (string s) (number b) p q =
      above_255 (bytes_of b) (flat_map escaped s) (laws.count b q).0 (laws.first b q)
  cmp-subscript (string s) (string t) p q = cmp-escaped s t

  pub begun : (s : NodeSubscript) → IsSubscript s → Begun (subscript_bytes s)
  begun s h = begun_by (subscript_bytes s) (length-subscript s h) (NoZero-subscript s h)

  -- the 0 that ends a key stands before each subscript
  end_less : (t : NodeSubscript) (rest ys : List ℕ) → IsSubscript t
      → slice_cmp nat_cmp (0 ∷ ys) (subscript_bytes t ++ rest) ≡ Less
  end_less t rest ys h =
      let b = begun t h in
      rw b.is (ap (λ o. ordering_then o (slice_cmp nat_cmp ys (b.rest ++ rest))) (nat_cmp_less 0 b.first b.above))

  end_greater : (t : NodeSubscript) (rest ys : List ℕ) → IsSubscript t
      → slice_cmp nat_cmp (subscript_bytes t ++ rest) (0 ∷ ys) ≡ Greater
  end_greater t rest ys h =
      let b = begun t h in
      rw b.is (ap (λ o. ordering_then o (slice_cmp nat_cmp (b.rest ++ rest) ys)) (nat_cmp_greater b.first 0 b.above))

  cmp-all : (ss ts : List NodeSubscript) → Right ss → Right ts
      → slice_cmp nat_cmp (flat_map ended ss ++ 0 ∷ []) (flat_map ended ts ++ 0 ∷ []) ≡ slice_cmp subscript_cmp ss ts
  cmp-all [] [] p q = refl
  cmp-all [] (t ∷ ts) p q = rw (ended-more t ts (0 ∷ [])) (end_less t (0 ∷ (flat_map ended ts ++ 0 ∷ [])) [] q.0)
  cmp-all (s ∷ ss) [] p q = rw (ended-more s ss (0 ∷ [])) (end_greater s (0 ∷ (flat_map ended ss ++ 0 ∷ [])) [] p.0)
  cmp-all (s ∷ ss) (t ∷ ts) p q =
      rw (ended-more s ss (0 ∷ []), ended-more t ts (0 ∷ []))
      (cmp-ended (subscript_bytes s) (subscript_bytes t) (flat_map ended ss ++ 0 ∷ []) (flat_map ended ts ++ 0 ∷ [])
      (NoZero-subscript s p.0) (NoZero-subscript t q.0)
      ∙ ap (λ o. ordering_then o (slice_cmp nat_cmp (flat_map ended ss ++ 0 ∷ []) (flat_map ended ts ++ 0 ∷ [])))
      (cmp-subscript s t p.0 q.0) ∙ ap (ordering_then (subscript_cmp s t)) (cmp-all ss ts p.1 q.1))

  -- one subscript for each of the bytes
  same-subscript : (s t : NodeSubscript) → IsSubscript s → IsSubscript t → subscript_bytes s ≡ subscript_bytes t → s ≡ t
  same-subscript (number a) (number b) p q e = ap number (laws.one a b p q e)
  same-subscript (number a) (string t) p q e = let h : slice_index (bytes_of a) 0 ≡ 255 = ap (λ l. slice_index l 0) e in
      absurd (omega (arith, laws.first a p))
  same-subscript (string s) (number b) p q e = let h : slice_index (bytes_of b) 0 ≡ 255 =
      ap (λ l. slice_index l 0) (sym e) in absurd (omega (arith, laws.first b q))
  same-subscript (string s) (string t) p q e = ap string (escaped-injective s t (ap (drop 1) e))

  pub no_end : (t : NodeSubscript) (rest ys : List ℕ) → IsSubscript t → subscript_bytes t ++ rest ≡ 0 ∷ ys → ⊥
  no_end t rest ys h e =
      let b = begun t h in
      let f : b.first ≡ 0 = ap (λ l. slice_index l 0) (ap (λ l. l ++ rest) (sym b.is) ∙ e) in
      absurd (omega (arith, b.above, f))

  -- what the bytes of subscripts begin with
  pub split-all : (s t : NodeSubscript) (ss ts : List NodeSubscript) (x y : List ℕ) → IsSubscript s → IsSubscript t
      → flat_map ended (s ∷ ss) ++ x ≡ flat_map ended (t ∷ ts) ++ y
      → (s ≡ t) × (flat_map ended ss ++ x ≡ flat_map ended ts ++ y)
  split-all s t ss ts x y p q e =
      let r = split-ended (subscript_bytes s) (subscript_bytes t) (flat_map ended ss ++ x) (flat_map ended ts ++ y)
      (NoZero-subscript s p) (NoZero-subscript t q) (sym (ended-more s ss x) ∙ e ∙ ended-more t ts y) in
      (same-subscript s t p q r.0, r.1)

  same-all : (ss ts : List NodeSubscript) (rest : List ℕ) → Right ss → Right ts
      → flat_map ended ss ++ 0 ∷ rest ≡ flat_map ended ts ++ 0 ∷ [] → ss ≡ ts
  same-all [] [] rest p q e = refl
  same-all [] (t ∷ ts) rest p q e =
      absurd (no_end t (0 ∷ (flat_map ended ts ++ 0 ∷ [])) rest q.0 (sym (ended-more t ts (0 ∷ [])) ∙ sym e))
  same-all (s ∷ ss) [] rest p q e =
      absurd (no_end s (0 ∷ (flat_map ended ss ++ 0 ∷ rest)) [] p.0 (sym (ended-more s ss (0 ∷ rest)) ∙ e))
  same-all (s ∷ ss) (t ∷ ts) rest p q e =
      let r = split-all s t ss ts (0 ∷ rest) (0 ∷ []) p.0 q.0 e in
      let more = same-all ss ts rest p.1 q.1 r.1 in
      λ i. r.0 i ∷ more i

  begun-all : (ss ts : List NodeSubscript) (rest : List ℕ) → Right ss → Right ts
      → flat_map ended ss ++ rest ≡ flat_map ended ts ++ 0 ∷ [] → (more : List NodeSubscript) × (ts ≡ ss ++ more)
  begun-all [] ts rest p q e = (ts, refl)
  begun-all (s ∷ ss) [] rest p q e =
      absurd (no_end s (0 ∷ (flat_map ended ss ++ rest)) [] p.0 (sym (ended-more s ss rest) ∙ e))
  begun-all (s ∷ ss) (t ∷ ts) rest p q e =
      let r = split-all s t ss ts rest (0 ∷ []) p.0 q.0 e in
      let more = begun-all ss ts rest p.1 q.1 r.1 in
      (more.0, λ i. sym r.0 i ∷ more.1 i)

  pub NoZero-name : (a : Node) → IsNode a → NoZero a.name
  NoZero-name a p = NoZero-word a.name p.name.word

  right : (a : Node) → IsNode a → Right a.subscripts
  right a p = recursion_from_All IsSubscript a.subscripts p.subscripts

  pub order : (a b : Node) → IsNode a → IsNode b → slice_cmp nat_cmp (key_bytes a) (key_bytes b) ≡ reference_cmp a b
  unfolding reference_cmp
  order a b p q =
      ap₂ (slice_cmp nat_cmp) (key-is a) (key-is b)
      ∙ cmp-ended a.name b.name (flat_map ended a.subscripts ++ 0 ∷ []) (flat_map ended b.subscripts ++ 0 ∷ [])
      (NoZero-name a p) (NoZero-name b q)
      ∙ ap (ordering_then (slice_cmp nat_cmp a.name b.name)) (cmp-all a.subscripts b.subscripts (right a p) (right b q))

  pub none_begins : (a b : Node) (rest : List ℕ) → IsNode a → IsNode b → key_bytes b ≡ key_bytes a ++ rest → a ≡ b
  none_begins a b rest p q e =
      let r = split-ended a.name b.name (flat_map ended a.subscripts ++ 0 ∷ rest)
      (flat_map ended b.subscripts ++ 0 ∷ []) (NoZero-name a p) (NoZero-name b q)
      (sym (ap (λ l. l ++ rest) (key-is a) ∙ append_assoc a.name (0 ∷ (flat_map ended a.subscripts ++ 0 ∷ [])) rest
      ∙ ap (λ l. a.name ++ 0 ∷ l) (append_assoc (flat_map ended a.subscripts) (0 ∷ []) rest)) ∙ sym e ∙ key-is b) in
      let s = same-all a.subscripts b.subscripts rest (right a p) (right b q) r.1 in
      λ i. record { name = r.0 i; subscripts = s i }

  pub one_key : (a b : Node) → IsNode a → IsNode b → key_bytes a ≡ key_bytes b → a ≡ b
  one_key a b p q e = none_begins a b [] p q (sym e ∙ sym (append-nil (key_bytes a)))

  pub leads_from : (a b : Node) → IsNode a → IsNode b → (rest : List ℕ) × (key_bytes b ≡ lead_bytes a ++ rest)
      → Leads a b
  leads_from a b p q (rest, e) =
      let r = split-ended a.name b.name (flat_map ended a.subscripts ++ rest) (flat_map ended b.subscripts ++ 0 ∷ [])
      (NoZero-name a p) (NoZero-name b q)
      (sym (lead-is a rest) ∙ sym e ∙ key-is b) in
      record { name = sym r.0; subscripts = begun-all a.subscripts b.subscripts rest (right a p) (right b q) r.1 }

  pub leads_between : (a b : Node) → Leads a b
      → (is_le (slice_cmp nat_cmp (key_bytes a) (key_bytes b)) ≡ true)
      × (is_lt (slice_cmp nat_cmp (key_bytes b) (past_bytes a)) ≡ true)
  leads_between a b h =
      let more = h.subscripts.0 in
      let e = lead-begins a b h in
      let last = lead-last a in
      let past : past_bytes a ≡ last.0 ++ 1 ∷ [] = past-is a last.0 last.1 in (
        ap (λ l. is_le (slice_cmp nat_cmp (key_bytes a) l)) e
            ∙ ap is_le (cmp-prefix (lead_bytes a) (0 ∷ []) (flat_map ended more ++ 0 ∷ []))
            ∙ zero_least (flat_map ended more),
        ap₂ (λ l m. is_lt (slice_cmp nat_cmp l m)) (e ∙ ap (λ l. l ++ (flat_map ended more ++ 0 ∷ [])) last.1) past
            ∙ begins-from last.0 (flat_map ended more ++ 0 ∷ []),
      )

  pub between_leads : (a b : Node) → IsNode a → IsNode b → is_le (slice_cmp nat_cmp (key_bytes a) (key_bytes b)) ≡ true
      → is_lt (slice_cmp nat_cmp (key_bytes b) (past_bytes a)) ≡ true → Leads a b
  between_leads a b p q h g =
      let last = lead-last a in
      let h' = le_front (lead_bytes a) (0 ∷ []) (key_bytes b) h in
      let r = between_begins last.0 (key_bytes b) (ap (λ l. is_le (slice_cmp nat_cmp l (key_bytes b))) (sym last.1)
      ∙ h') (ap (λ l. is_lt (slice_cmp nat_cmp (key_bytes b) l)) (sym (past-is a last.0 last.1)) ∙ g) in
      leads_from a b p q (r.0, r.1 ∙ ap (λ l. l ++ r.0) (sym last.1))

  -- the test of a KILL
  same-test : (s t : NodeSubscript) → IsSubscript s → IsSubscript t → eq_by_cmp subscript_cmp s t ≡ true → s ≡ t
  same-test s t p q h =
      same-subscript s t p q (slice_cmp-IsAntisymmetric nat_cmp-IsAntisymmetric (subscript_bytes s) (subscript_bytes t)
      (cmp-subscript s t p q ∙ is_equal (subscript_cmp s t) h))

  itself-test : (s : NodeSubscript) → IsSubscript s → eq_by_cmp subscript_cmp s s ≡ true
  itself-test s p = ap is_eq (sym (cmp-subscript s s p p) ∙ cmp-same (subscript_bytes s))

  starts-from : (ss more : List NodeSubscript) → Right ss → starts_with (eq_by_cmp subscript_cmp) (ss ++ more) ss ≡ true
  starts-from [] more p = refl
  starts-from (s ∷ ss) more p = and_from _ _ (itself-test s p.0) (starts-from ss more p.1)

  from-starts : (ss ts : List NodeSubscript) → Right ss → Right ts → starts_with (eq_by_cmp subscript_cmp) ts ss ≡ true
      → (more : List NodeSubscript) × (ts ≡ ss ++ more)
  from-starts [] ts p q h = (ts, refl)
  from-starts (s ∷ ss) [] p q h = absurd (true≢false (sym h))
  from-starts (s ∷ ss) (t ∷ ts) p q h =
      let both = and_parts (eq_by_cmp subscript_cmp s t) (starts_with (eq_by_cmp subscript_cmp) ts ss) h in
      let e = same-test s t p.0 q.0 both.0 in
      let more = from-starts ss ts p.1 q.1 both.1 in
      (more.0, λ i. sym e i ∷ more.1 i)

  pub led_leads : (a b : Node) → IsNode a → IsNode b → is_led a b ≡ true → Leads a b
  led_leads a b p q h =
      let both =
      and_parts (bytes_eq b.name a.name) (starts_with (eq_by_cmp subscript_cmp) b.subscripts a.subscripts) h in
      record {
        name = (bytes_decides b.name a.name).0 both.0;
        subscripts =
            from-starts a.subscripts b.subscripts (right a p) (right b q) both.1;
      }

  pub leads_led : (a b : Node) → IsNode a → Leads a b → is_led a b ≡ true
  leads_led a b p h =
      and_from _ _ ((bytes_decides b.name a.name).1 h.name)
      (ap (λ l. starts_with (eq_by_cmp subscript_cmp) l a.subscripts) h.subscripts.1
      ∙ starts-from a.subscripts h.subscripts.0 (right a p))
