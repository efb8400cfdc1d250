-- A bound at which the keys of a node and its descendants end.
use Rattle.std.proofs.Common.{Bool, false, Option, None, Some, Result, Ok, Err}
use Rattle.std.specs.Prelude.{IfOk, option_map}
use Rattle.std.specs.Option.{ForSome}
use Rattle.std.proofs.Common.{◌≡◌, ℕ, zero, suc, ◌+◌, ◌-◌, ◌<◌, ◌≤◌}
use Rattle.std.proofs.Common.{true, true≢false, List, [], ◌∷◌, ◌++◌, length, take, drop}
use Rattle.std.proofs.Common.{◌⊎◌, inl, inr, Equal, refl, sym, ap, subst, ◌∙◌, arith, flat_map}
use Rattle.std.proofs.Common.{append_assoc, append-nil, length-append, is_lt, is_le}
use Rattle.std.specs.Prelude.{slice_index}
use Rattle.std.specs.Ordering.{nat_cmp, ordering_then}
use Rattle.std.specs.declared.ops.Bound.{Bound}
use Rattle.std.specs.declared.ops.Bound.TheVariants.{Included, Excluded, Unbounded}
use Rattle.std.proofs.lemmas.Bool.{cases_order}
use Rattle.std.proofs.lemmas.List.{append_cancel_right, take-append-le}
use Rattle.m_number.proofs.OrderingLemmas.{nat_cmp_greater, nat_cmp_same}
use Rattle.m_key.specs.Collation.{Leads}
use Rattle.m_key.specs.Globals.{Place}
use Rattle.m_key.specs.Key.{AtMost, Below, ended, key_bytes, lead_bytes, past_bytes, subscript_bytes}
use Rattle.m_key.specs.KeyEnd.{IsKey, end_in, key_len, zero_after}
use Rattle.m_key.specs.Reference.{node_of, place_of}
use Rattle.m_key.specs.declared.reference.Reference.{Reference}
use Rattle.m_key.proofs.KeyEndLemmas.{end_in-append_open, key_len-end_in, key_len-take_less}
use Rattle.m_key.proofs.NodeEndLemmas.{key_len-key_bytes}
use Rattle.gds_base.specs.declared.error.BaseError.{BaseError}
use Rattle.m_key.specs.Node.{IsNode, Node, NodeSubscript}
use Rattle.m_key.proofs.KeyLemmas as keys
use Rattle.m_key.proofs.KeyPartLemmas.{two_zeros}
use Rattle.m_key.proofs.NumberLemmas.{numbers}
use Rattle.m_key.proofs.ZeroLemmas.{le_front}
use Rattle.gds_find.specs.Next.{IsFrom}
use Rattle.gds_sound.proofs.OrderLemmas.{cmp}
use Rattle.gds_tree.proofs.TestLemmas.{below_less, below_most, most_from}
use Rattle.gds_globals.specs.First.{FindsFirst, FindsPast, IsPast}
use Rattle.gds_globals.proofs.RangeLemmas.{key_below_past, not_itself, one_or_other}

-- What stands between bytes and more of them begins with them.
squeezed : (front x more : List ℕ) → AtMost front x → Below x (front ++ more)
    → (rest : List ℕ) × (x ≡ front ++ rest) × Below rest more
squeezed [] x more low high = (x, refl, high)
squeezed (a ∷ front) [] more low high = absurd (true≢false (sym low))
squeezed (a ∷ front) (b ∷ x) more low high = by (cases_order a b) (squeezed front x more)
  where
    by : (a ≡ b) ⊎ ((a < b) ⊎ (b < a))
        → (AtMost front x → Below x (front ++ more) → (rest : List ℕ) × (x ≡ front ++ rest) × Below rest more)
        → (rest : List ℕ) × (b ∷ x ≡ a ∷ (front ++ rest)) × Below rest more
    by (inl e) step =
        let there : nat_cmp a b ≡ Equal = ap (nat_cmp a) (sym e) ∙ nat_cmp_same a in
        let back : nat_cmp b a ≡ Equal = ap (λ n. nat_cmp n a) (sym e) ∙ nat_cmp_same a in
        let r = step (ap (λ o. is_le (ordering_then o (cmp front x))) (sym there) ∙ low)
        (ap (λ o. is_lt (ordering_then o (cmp x (front ++ more)))) (sym back) ∙ high) in
        (r.0, λ i. sym e i ∷ r.1 i, r.2)
    by (inr (inl h)) step =
        absurd (true≢false (sym (ap (λ o. is_lt (ordering_then o (cmp x (front ++ more)))) (sym (nat_cmp_greater b a h))
        ∙ high)))
    by (inr (inr h)) step =
        absurd (true≢false (sym (ap (λ o. is_le (ordering_then o (cmp front x))) (sym (nat_cmp_greater a b h)) ∙ low)))

few : (rest : List ℕ) → Below rest (0 ∷ 0 ∷ []) → (rest ≡ []) ⊎ (rest ≡ 0 ∷ [])
few [] h = inl refl
few (zero ∷ []) h = inr refl
few (zero ∷ zero ∷ []) h = absurd (true≢false (sym h))
few (zero ∷ zero ∷ x ∷ xs) h = absurd (true≢false (sym h))
few (zero ∷ suc n ∷ xs) h =
    absurd (true≢false (sym (ap (λ o. is_lt (ordering_then o (cmp xs [])))
    (sym (nat_cmp_greater (suc n) 0 (omega arith))) ∙ h)))
few (suc n ∷ xs) h =
    absurd (true≢false (sym (ap (λ o. is_lt (ordering_then o (cmp xs (0 ∷ []))))
    (sym (nat_cmp_greater (suc n) 0 (omega arith))) ∙ h)))

last_same : (xs ys : List ℕ) (x y : ℕ) → xs ++ x ∷ [] ≡ ys ++ y ∷ [] → x ≡ y
last_same [] [] x y e = ap (λ l. slice_index l 0) e
last_same [] (b ∷ ys) x y e = absurd (omega (arith, ap length e, length-append ys (y ∷ [])))
last_same (a ∷ xs) [] x y e = absurd (omega (arith, ap length e, length-append xs (x ∷ [])))
last_same (a ∷ xs) (b ∷ ys) x y e = last_same xs ys x y (ap (drop 1) e)

-- No whole key ends with a 1, nor with a 1 and a 0.
no_such_key : (front key rest : List ℕ) → IsKey key → key ≡ (front ++ 1 ∷ []) ++ rest → (rest ≡ []) ⊎ (rest ≡ 0 ∷ [])
    → ⊥
no_such_key front key rest is_key e h = by h (two_zeros key is_key.whole)
  where
    by : (rest ≡ []) ⊎ (rest ≡ 0 ∷ []) → (f : List ℕ) × (key ≡ f ++ 0 ∷ 0 ∷ []) → ⊥
    by (inl none) (f, zeros) =
        let same : front ++ 1 ∷ [] ≡ (f ++ 0 ∷ []) ++ 0 ∷ [] =
        sym (e ∙ ap (λ l. (front ++ 1 ∷ []) ++ l) none ∙ append-nil (front ++ 1 ∷ [])) ∙ zeros
        ∙ sym (append_assoc f (0 ∷ []) (0 ∷ [])) in
        absurd (omega (arith, last_same front (f ++ 0 ∷ []) 1 0 same))
    by (inr one) (f, zeros) =
        let same : (front ++ 1 ∷ []) ++ 0 ∷ [] ≡ (f ++ 0 ∷ []) ++ 0 ∷ [] =
        sym (e ∙ ap (λ l. (front ++ 1 ∷ []) ++ l) one) ∙ zeros ∙ sym (append_assoc f (0 ∷ []) (0 ∷ [])) in
        let shorter = append_cancel_right (front ++ 1 ∷ []) (f ++ 0 ∷ []) (0 ∷ []) same in
        absurd (omega (arith, last_same front f 1 0 shorter))

-- A key behind all that a node leads to stands at such a bound or behind it.
pub past_to : (r : Node) (from : Bound (List ℕ)) → IsPast r from → (key : List ℕ) → IsKey key
    → AtMost (past_bytes r) key → IsFrom from key
past_to r (Included least) is key is_key high =
    subst (λ l. AtMost l key) (sym is) (elim (one_or_other (past_bytes r ++ 0 ∷ 0 ∷ []) key) [
      | inl e ↦ e
      | inr k ↦
          let s = squeezed (past_bytes r) key (0 ∷ 0 ∷ []) high k in
          absurd (no_such_key (take (length (lead_bytes r) - 1) (lead_bytes r)) key s.0 is_key s.1 (few s.0 s.2))
    ])
past_to r (Excluded below) is key is_key high =
    subst (λ l. Below l key) (sym is.0) (below_most (key_bytes r) (past_bytes r) key (key_below_past r) high)
past_to r Unbounded is key is_key high = absurd is

-- The key of what a node leads to is longer, unless it is the node.
longer_key : (r q : Node) (leads : Leads r q) (more : List NodeSubscript)
    → key_bytes q ≡ lead_bytes r ++ (flat_map ended more ++ 0 ∷ [])
    → (key_bytes r ≡ key_bytes q) ⊎ (length (key_bytes r) < length (key_bytes q))
longer_key r q leads [] e = inl (sym e)
longer_key r q leads (s ∷ more) e =
    let rest : List ℕ = flat_map ended (s ∷ more) in
    inr (omega (
      arith,
      ap length e,
      length-append (lead_bytes r) (rest ++ 0 ∷ []),
      length-append rest (0 ∷ []),
      length-append (ended s) (flat_map ended more),
      length-append (subscript_bytes s) (0 ∷ []),
      length-append (lead_bytes r) (0 ∷ []),
    ))

-- And back.
pub past_from : (r : Node) → IsNode r → (from : Bound (List ℕ)) → IsPast r from → (q : Place) → IsKey (key_bytes q.node)
    → IsFrom from (key_bytes q.node) → AtMost (past_bytes r) (key_bytes q.node)
past_from r right (Included least) is q is_key there =
    le_front (past_bytes r) (0 ∷ 0 ∷ []) (key_bytes q.node) (subst (λ l. AtMost l (key_bytes q.node)) is there)
past_from r right (Excluded below) is q is_key there =
    elim (one_or_other (past_bytes r) (key_bytes q.node)) [
      | inl e ↦ e
      | inr k ↦
          let above : Below (key_bytes r) (key_bytes q.node) = subst (λ l. Below l (key_bytes q.node)) is.0 there in
          let leads = keys.between_leads numbers r q.node right q.right
          (most_from (key_bytes r) (key_bytes q.node) (inl (below_less (key_bytes r) (key_bytes q.node) above))) k in
          elim (longer_key r q.node leads leads.subscripts.0 (keys.lead-begins r q.node leads)) [
            | inl same ↦ absurd (not_itself (key_bytes r) (subst (Below (key_bytes r)) (sym same) above))
            | inr long ↦ absurd (omega (arith, long, is.1, is_key.short))
          ]
    ]
past_from r right Unbounded is q is_key there = absurd is

-- What stands there is above the node.
pub past_above : (r : Node) (from : Bound (List ℕ)) → IsPast r from → (key : List ℕ) → IsFrom from key
    → AtMost (key_bytes r) key
past_above r (Included least) is key there =
    let past = le_front (past_bytes r) (0 ∷ 0 ∷ []) key (subst (λ l. AtMost l key) is there) in
    let above = below_most (key_bytes r) (past_bytes r) key (key_below_past r) past in
    most_from (key_bytes r) key (inl (below_less (key_bytes r) key above))
past_above r (Excluded below) is key there =
    let above : Below (key_bytes r) key = subst (λ l. Below l key) is.0 there in
    most_from (key_bytes r) key (inl (below_less (key_bytes r) key above))
past_above r Unbounded is key there = absurd is

-- ---- the key of the bound

end_of_three : (z : Bool) → end_in z (1 ∷ 0 ∷ 0 ∷ []) ≡ Some 3
end_of_three true = refl
end_of_three false = refl

pub past_key : (n : Node) → IsNode n → (key past : List ℕ) → key ≡ key_bytes n
    → past ≡ take (length key - 2) key ++ 1 ∷ 0 ∷ 0 ∷ [] → length past ≤ 255 → IsKey past
past_key n right key past key_is past_is short =
    let front : List ℕ = take (length key - 2) key in
    let long : length key ≡ length (lead_bytes n) + 1 =
    ap length key_is ∙ length-append (lead_bytes n) (0 ∷ []) in
    let ends : key_len key ≡ Some (length key) =
    subst (λ k. key_len k ≡ Some (length k)) (sym key_is)
    (ap key_len (sym (append-nil (key_bytes n))) ∙ key_len-key_bytes n [] right) in
    let opened : key_len front ≡ None =
    key_len-take_less key (length key - 2) (length key) ends (omega arith) in
    let whole : key_len (front ++ 1 ∷ 0 ∷ 0 ∷ []) ≡ Some (length (front ++ 1 ∷ 0 ∷ 0 ∷ [])) =
    key_len-end_in (front ++ 1 ∷ 0 ∷ 0 ∷ [])
    ∙ end_in-append_open front (1 ∷ 0 ∷ 0 ∷ []) false (sym (key_len-end_in front) ∙ opened)
    ∙ ap (option_map (λ k. length front + k)) (end_of_three (zero_after false front))
    ∙ ap Some (sym (length-append front (1 ∷ 0 ∷ 0 ∷ []))) in
    record { whole = subst (λ k. key_len k ≡ Some (length k)) (sym past_is) whole; short = short }

pub past_is : (n : Node) (key past : List ℕ) → key ≡ key_bytes n
    → past ≡ take (length key - 2) key ++ 1 ∷ 0 ∷ 0 ∷ [] → IsPast n (Included past)
past_is n key past key_is is =
    let lead : List ℕ = lead_bytes n in
    let front : take (length key - 2) key ≡ take (length lead - 1) lead =
    ap (λ k. take (length k - 2) k) key_is
    ∙ ap (λ k. take k (lead ++ 0 ∷ [])) (omega (arith, length-append lead (0 ∷ [])))
    ∙ take-append-le (length lead - 1) lead (0 ∷ []) (omega arith) in
    is ∙ ap (λ l. l ++ 1 ∷ 0 ∷ 0 ∷ []) front
    ∙ sym (append_assoc (take (length lead - 1) lead) (1 ∷ []) (0 ∷ 0 ∷ []))

pub past_found : (told : Option (List ℕ)) (r : Reference) (from : Bound (List ℕ)) (front : List ℕ)
    → IsPast (node_of r) from → (x : Result (Option Reference) BaseError)
    → IfOk x (λ o. ForSome told (λ image. FindsFirst image (node_of r).name from front (option_map place_of o)))
    → IfOk x (λ o. ForSome told (λ image. FindsPast image (node_of r) front (option_map place_of o)))
past_found told r from front past (Ok o) h = λ image is. (from, past, h image is)
past_found told r from front past (Err error) h = tt
