-- The value at the end of a trail.
use Rattle.std.proofs.Common.{◌≡◌, ℕ, ◌-◌, ◌<◌, List, [], ◌∷◌, ◌++◌, length, Option, None, Some, option_map}
use Rattle.std.proofs.Common.{Bor, Bool, true, false, inl, inr, Less, Equal}
use Rattle.std.proofs.Common.{refl, sym, ap, subst, get_or, ◌∙◌, arith, length-append}
use Rattle.std.specs.Prelude.{All, Contains, IsSomeAnd, slice_get}
use Rattle.std.specs.Bool.{OnTrue}
use Rattle.std.specs.Option.{ForSome}
use Rattle.std.proofs.lemmas.Cmp.{tied_itself}
use Rattle.std.proofs.lemmas.List.Elements.{All-contains}
use Rattle.std.proofs.Math.Seq.{get_or-append_seam}
use Rattle.std.proofs.lemmas.List.{length-map}
use Rattle.std.proofs.lemmas.Option.{slice_get-get_or, slice_get-map}
use Rattle.gds_block.specs.Item.{Item}
use Rattle.gds_draft.specs.Draft.{DraftState}
use Rattle.gds_draft.specs.Drafted.{drafted}
use Rattle.gds_draft.specs.Laws.{IsDraftOf}
use Rattle.gds_header.specs.Fields.{block_of, fields_of}
use Rattle.gds_law.specs.Path.{Steps}
use Rattle.gds_law.specs.Visit.{Visit}
use Rattle.gds_law.proofs.MembershipLemmas.{Contains-from_in, IsIn, in_either, in_from_Contains, in_right}
use Rattle.gds_search.specs.PackedBlock.{IsPackedBlock}
use Rattle.gds_search.specs.Place.{BeginsAt, IsPlaceFor}
use Rattle.gds_search.specs.declared.place.Place.{Place}
use Rattle.gds_sound.specs.Sound.{Tree, tree_at}
use Rattle.gds_sound.proofs.OrderLemmas.{cmp_total}
use Rattle.gds_tree.proofs.TestLemmas.{below_less}
use Rattle.m_key.specs.Key.{Below}
use Rattle.gds_find.specs.Found.{IsValueOf, PartsItems}
use Rattle.gds_find.specs.Trail.{HasTrail, IsTrail, steps_of}
use Rattle.gds_find.specs.declared.trail.Step.{Step}
use Rattle.gds_find.specs.declared.trail.Trail.{Trail}
use Rattle.gds_find.proofs.FindLemmas.{IsExact, drafted_exact, within_draft}
use Rattle.gds_find.proofs.FoundLemmas.{items_around, items_at}
use Rattle.gds_find.proofs.WayLemmas.{packed_at, tree_within}

-- ---- the last step

abbrev pair_of : Step → ℕ × ℕ
pair_of s = (s.block, s.offset)

not_some : {A : Type 0} (x : A) → None ≡ Some x → ⊥
not_some x e = cc

last_of : {A : Type 0} (xs : List A) (x : A) (n : ℕ) → n ≡ length xs → slice_get (xs ++ x ∷ []) n ≡ Some x
last_of xs x n is =
    slice_get-get_or (xs ++ x ∷ []) n x (omega (arith, is, length-append xs (x ∷ [])))
    ∙ ap (λ k. Some (get_or (xs ++ x ∷ []) k x)) is
    ∙ ap (λ y. Some y) (get_or-append_seam xs x [] x)

last_pair : (steps : List Step) (path : Steps) (block offset : ℕ) (copied : Option Step)
    → copied ≡ slice_get steps (length steps - 1) → steps_of steps ≡ path ++ (block, offset) ∷ []
    → option_map pair_of copied ≡ Some (block, offset)
last_pair steps path block offset copied is steps_are =
    let size : length steps - 1 ≡ length path =
    omega (arith, length-map steps pair_of, ap length steps_are, length-append path ((block, offset) ∷ [])) in
    ap (option_map pair_of) is ∙ sym (slice_get-map pair_of steps (length steps - 1))
    ∙ ap (λ xs. slice_get xs (length steps - 1)) steps_are ∙ last_of path (block, offset) (length steps - 1) size

pub no_last : (steps : List Step) (path : Steps) (block offset : ℕ) (copied : Option Step)
    → copied ≡ slice_get steps (length steps - 1) → steps_of steps ≡ path ++ (block, offset) ∷ [] → copied ≡ None → ⊥
no_last steps path block offset copied is steps_are none =
    not_some (block, offset)
    (ap (option_map pair_of) (sym none) ∙ last_pair steps path block offset copied is steps_are)

pub last_block : (steps : List Step) (path : Steps) (block offset : ℕ) (copied : Option Step) (step : Step)
    → copied ≡ slice_get steps (length steps - 1) → steps_of steps ≡ path ++ (block, offset) ∷ [] → copied ≡ Some step
    → step.block ≡ block
last_block steps path block offset copied step is steps_are some =
    let pair = last_pair steps path block offset copied is steps_are in
    let same : Some (pair_of step) ≡ Some (block, offset) = ap (option_map pair_of) (sym some) ∙ pair in
    let own : pair_of step ≡ (block, offset) = cc in
    ap (λ (p : ℕ × ℕ). p.0) own

-- ---- whether an item has the key

pub not_itself : (key : List ℕ) → Below key key → ⊥
not_itself key h =
    let tied = tied_itself cmp_total key in
    let less = below_less key key h in
    let no : Less ≡ Equal = sym less ∙ tied in
    cc

pub none_has : (items : List Item) (key value : List ℕ) → PartsItems items key false
    → Contains items (record { key = key; rest = value }) → ⊥
none_has items key value p there =
    let item : Item = record { key = key; rest = value } in
    elim (in_either p.before p.behind item (subst (λ xs. IsIn xs item) p.parts (in_from_Contains items item there))) [
      | inl i ↦
          not_itself key
          (All-contains (λ e. Below e.key key) p.before item p.below (Contains-from_in p.before item i))
      | inr i ↦
          not_itself key
          (All-contains (λ e. Below key e.key) p.behind item p.begins (Contains-from_in p.behind item i))
    ]

module _ (file : List ℕ) (root : Visit) (key : List ℕ) (steps : Steps) (found : Bool) (place : Place) (t : Tree)
    (exact : IsExact file) (tree : tree_at file root ≡ Some t) (trail : IsTrail file root key steps found place) where
  there : root.block < (fields_of file).total
  there = tree_within file root t exact.long tree

  -- Where it isn't found, none has.
  pub none_at : found ≡ false → (value : List ℕ) → Contains t.items (record { key = key; rest = value }) → ⊥
  none_at not value =
      none_has t.items key value
      (subst (PartsItems t.items key) not (items_at file root key steps found place t exact.image there tree trail))

  -- what is said of the rest of an entry at a place in a block
  abbrev pub FindsRest : List ℕ → Option (Bor (List ℕ)) → Type 0
  FindsRest block o =
      (height : ℕ) (es before behind : List Item) (own : Item) (key : List ℕ) → IsPackedBlock block height es
      → IsPlaceFor es key place before (own ∷ behind) → place.is_equal ≡ true
      → IsSomeAnd o (λ (rest : Bor (List ℕ)). rest.now ≡ own.rest)

  -- Where it is, what stands at the trail's end is the value of an item.
  pub value_there : (bytes : List ℕ) (o : Option (Bor (List ℕ))) → found ≡ true → bytes ≡ block_of file trail.leaf.block
      → All (λ b. b < 256) bytes → FindsRest bytes o
      → IsSomeAnd o (λ (value : Bor (List ℕ)). Contains t.items (record { key = key; rest = value.now }))
  value_there bytes o is_found reads all finds =
      let equal : place.is_equal ≡ true = sym trail.found_is ∙ is_found in
      let packed = packed_at file trail.leaf 0 trail.entries exact.image trail.has
      (subst (All (λ b. b < 256)) reads all) in
      let around = items_around file root key steps found place t exact.image there tree trail in
      at_own trail.behind trail.place_is (subst (λ b. OnTrue b (BeginsAt key trail.behind)) equal trail.place_is.equal)
      equal packed around.left around.right around.parts o
      (subst (λ xs. FindsRest xs o) reads finds)
    where
      at_own : (behind : List Item) → IsPlaceFor trail.entries key place trail.before behind → BeginsAt key behind
          → place.is_equal ≡ true → IsPackedBlock (block_of file trail.leaf.block) 0 trail.entries
          → (left right : List Item) → t.items ≡ (left ++ trail.before) ++ (behind ++ right)
          → (o : Option (Bor (List ℕ))) → FindsRest (block_of file trail.leaf.block) o
          → IsSomeAnd o (λ (value : Bor (List ℕ)). Contains t.items (record { key = key; rest = value.now }))
      at_own [] is at equal packed left right parts o finds = absurd at
      at_own (own ∷ behind) is at equal packed left right parts o finds =
          said o (finds 0 trail.entries trail.before behind own key packed is equal)
        where
          own_in : IsIn t.items own
          own_in =
              subst (λ xs. IsIn xs own) (sym parts)
              (in_right (left ++ trail.before) ((own ∷ behind) ++ right) own (inl refl))

          said : (o : Option (Bor (List ℕ))) → IsSomeAnd o (λ (rest : Bor (List ℕ)). rest.now ≡ own.rest)
              → IsSomeAnd o (λ (value : Bor (List ℕ)). Contains t.items (record { key = key; rest = value.now }))
          said None h = h
          said (Some value) h =
              let same : own ≡ record { key = key; rest = value.now } =
              (λ k. record { key = at k; rest = sym h k }) in
              subst (Contains t.items) same (Contains-from_in t.items own own_in)

-- ---- where the image is told

module _ (told : Option (List ℕ)) (draft : DraftState) (trail : Trail)
    (is : ForSome told (λ image. IsDraftOf image draft)) where
  -- what is said of each trail that this is, in the image with the draft
  abbrev pub ForTrail : ((v : Visit) (key : List ℕ) (t : Tree) → Type 0) → Type 0
  ForTrail P =
      ForSome told (λ image. (v : Visit) (key : List ℕ) (t : Tree) → tree_at (drafted draft image) v ≡ Some t
      → HasTrail (drafted draft image) v key trail → P v key t)

  pub none_told : trail.found ≡ false → ForTrail (λ v key t. IsValueOf t.items key None)
  none_told not image is_told v key t tree trail_is =
      none_at (drafted draft image) v key (steps_of trail.steps.items) trail.found trail.place t
      (drafted_exact image draft (is image is_told)) tree trail_is not

  -- The block of its last step is one of the draft.
  pub leaf_told : (o : Option ℕ) → o ≡ None
      → ((path : Steps) (block offset : ℕ) → block < draft.header.total
      → steps_of trail.steps.items ≡ path ++ (block, offset) ∷ [] → o ≡ Some block)
      → ForTrail (λ v key t. ⊥)
  leaf_told o none finds image is_told v key t tree trail_is =
      let found = finds trail_is.path trail_is.leaf.block trail.place.offset
      (within_draft image draft (is image is_told) trail_is.leaf.block trail_is.has.there) trail_is.steps_are in
      not_some trail_is.leaf.block (sym none ∙ found)

  module _ (block : ℕ) (bytes : List ℕ) (o : Option (Bor (List ℕ))) (is_found : trail.found ≡ true) (leaf : Option ℕ)
      (leaf_is : leaf ≡ Some block)
      (finds_leaf : (path : Steps) (block offset : ℕ) → block < draft.header.total
      → steps_of trail.steps.items ≡ path ++ (block, offset) ∷ [] → leaf ≡ Some block)
      (reads : ForSome told (λ image. bytes ≡ block_of (drafted draft image) block)) (all : All (λ b. b < 256) bytes)
      (finds : (height : ℕ) (es before behind : List Item) (own : Item) (key : List ℕ) → IsPackedBlock bytes height es
      → IsPlaceFor es key trail.place before (own ∷ behind) → trail.place.is_equal ≡ true
      → IsSomeAnd o (λ (rest : Bor (List ℕ)). rest.now ≡ own.rest)) where
    -- What is lent is the value of an item with the key.
    abbrev LendsValue : List ℕ → Tree → Option (Bor (List ℕ)) → Type 0
    LendsValue key t x =
        IsSomeAnd x (λ (value : Bor (List ℕ)). Contains t.items (record { key = key; rest = value.now }))

    value_told : ForTrail (λ v key t. LendsValue key t o)
    value_told image is_told v key t tree trail_is =
        let file : List ℕ = drafted draft image in
        let found = finds_leaf trail_is.path trail_is.leaf.block trail.place.offset
        (within_draft image draft (is image is_told) trail_is.leaf.block trail_is.has.there) trail_is.steps_are in
        let same : Some block ≡ Some trail_is.leaf.block = sym leaf_is ∙ found in
        let own : block ≡ trail_is.leaf.block = cc in
        value_there file v key (steps_of trail.steps.items) trail.found trail.place t
        (drafted_exact image draft (is image is_told)) tree trail_is bytes o is_found
        (reads image is_told ∙ ap (block_of file) own) all finds

    pub value_some : (value : Bor (List ℕ)) → o ≡ Some value
        → ForTrail (λ v key t. IsValueOf t.items key (Some value.now))
    value_some value some image is_told v key t tree trail_is =
        subst (LendsValue key t) some (value_told image is_told v key t tree trail_is)

    pub value_none : o ≡ None → ForTrail (λ v key t. ⊥)
    value_none none image is_told v key t tree trail_is =
        subst (LendsValue key t) none (value_told image is_told v key t tree trail_is)
