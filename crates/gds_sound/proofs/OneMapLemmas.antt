-- A file of bytes without faults stands for exactly one map.
use Rattle.std.proofs.Common.{◌≡◌, ℕ, ◌<◌, true, T, List, [], ◌∷◌, map, flat_map, Contains, Option, None, Some, Less}
use Rattle.std.proofs.Common.{is_lt, inl, inr, refl, sym, ap, subst, ◌∙◌}
use Rattle.std.specs.Prelude.{All}
use Rattle.std.specs.FinMap.{get, from_sorted, entries-from_sorted, same_map}
use Rattle.std.specs.FinMap.Entries.{is_sorted, below_all}
use Rattle.std.proofs.lemmas.Bool.{and_from}
use Rattle.std.proofs.lemmas.List.Elements.{recursion_from_All}
use Rattle.m_key.specs.Key.{key_bytes}
use Rattle.m_key.specs.Globals.{Globals, Place, place_cmp}
use Rattle.m_key.proofs.PlaceLemmas.{place_total, place_same}
use Rattle.gds_block.specs.Item.{Item}
use Rattle.gds_law.specs.Path.{Steps}
use Rattle.gds_sound.specs.Stands.{values_at, StandsFor}
use Rattle.gds_law.specs.Faults.{AreFaults}
use Rattle.gds_sound.specs.Sound.{Tree, IsSound, HasOneMap}
use Rattle.gds_law.proofs.MembershipLemmas.{IsIn, in_map}
use Rattle.gds_law.proofs.RisingLemmas.{Rising}
use Rattle.gds_law.proofs.KeptLemmas.{same_kept}
use Rattle.gds_sound.proofs.SoundLemmas.{sound}
use Rattle.gds_sound.proofs.OrderLemmas.{key_cmp}
use Rattle.gds_sound.proofs.PairLemmas.{IsNodeKey, Entry, item_of, place_key, items_rise, item_node, keys_are_nodes}
use Rattle.gds_sound.proofs.PairLemmas.{readings_agree}

-- ---- one at least: from the items of the globals of the sound file

-- the entries whose items these are
entries_of : (items : List Item) → ((item : Item) → IsIn items item → IsNodeKey item.key)
    → (es : List Entry) × (map item_of es ≡ items)
entries_of [] nodes = ([], refl)
entries_of (x ∷ xs) nodes =
    let n = nodes x (inl refl) in
    let rest = entries_of xs (λ y i. nodes y (inr i)) in (
      (record { node = n.node; right = n.right }, x.rest) ∷ rest.0,
      λ i. record { key = n.is i; rest = x.rest } ∷ rest.1 i,
    )

below_each : (p : Place) (es : List Entry) → ((e : Entry) → IsIn es e → place_cmp p e.0 ≡ Less)
    → below_all place_cmp p es ≡ true
below_each p [] h = refl
below_each p (e ∷ es) h =
    and_from (is_lt (place_cmp p e.0)) (below_all place_cmp p es) (ap is_lt (h e (inl refl)))
    (below_each p es (λ d i. h d (inr i)))

sorted_entries : (es : List Entry) → Rising key_cmp (map item_of es) → is_sorted place_cmp es ≡ true
sorted_entries [] r = refl
sorted_entries (e ∷ es) r =
    and_from (below_all place_cmp e.0 es) (is_sorted place_cmp es)
    (below_each e.0 es (λ d i. place_key e.0 d.0 ∙ r.0 (item_of d) (in_map item_of es d i)))
    (sorted_entries es r.1)

map_from : (image : List ℕ) → All (λ b. b < 256) image → (tree : Tree) (globals : List Tree)
    → IsSound image tree globals → (m : Globals) × StandsFor image m
map_from image bytes tree globals s =
    let small = recursion_from_All (λ b. b < 256) image bytes in
    let es = entries_of (flat_map (λ (t : Tree). t.items) globals) (item_node keys_are_nodes image small tree globals s)
    in
    let rising : Rising key_cmp (map item_of es.0) =
    subst (Rising key_cmp) (sym es.1) (items_rise keys_are_nodes image small tree globals s) in
    let in_order : T (is_sorted place_cmp es.0) = subst T (sym (sorted_entries es.0 rising)) tt in
    let m : Globals = from_sorted es.0 in (
      m,
      ((readings_agree image).pairs bytes tree globals m s).1
          (ap (map item_of) (entries-from_sorted place_cmp es.0 in_order) ∙ es.1),
    )

-- ---- one at most: there is one list of kept paths, and the values at their ends say the map

same_options : {A : Type 0} (o p : Option A) → ((x : A) → o ≡ Some x → p ≡ Some x)
    → ((x : A) → p ≡ Some x → o ≡ Some x) → o ≡ p
same_options None None h k = refl
same_options None (Some x) h k = k x refl
same_options (Some x) p h k = sym (h x refl)

abbrev Holds : List ℕ → List Steps → Place → List ℕ → Type 0
Holds image kept p value = Contains (flat_map (values_at image) kept) (record { key = key_bytes p.node; rest = value })

pub same_stood : (image : List ℕ) (a b : Globals) → StandsFor image a → StandsFor image b → a ≡ b
same_stood image a b p q =
    same_map place_total place_same a b (λ place. same_options (get a place) (get b place) (to place) (from place))
  where
    kept : p.kept ≡ q.kept
    kept = same_kept image p.kept q.kept p.are_kept q.are_kept

    to : (place : Place) (value : List ℕ) → get a place ≡ Some value → get b place ≡ Some value
    to place value e =
        (q.pairs place value).1 (subst (λ (k : List Steps). Holds image k place value) kept ((p.pairs place value).0 e))

    from : (place : Place) (value : List ℕ) → get b place ≡ Some value → get a place ≡ Some value
    from place value e =
        (p.pairs place value).1 (subst (λ (k : List Steps). Holds image k place value) (sym kept)
        ((q.pairs place value).0 e))

pub one_map : (image : List ℕ) → All (λ b. b < 256) image → AreFaults image [] → HasOneMap image
one_map image bytes none =
    let s = sound image none in
    (map_from image bytes s.0 s.1 s.2, same_stood image)
