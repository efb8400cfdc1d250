-- What is known of a node that is looked for in the image with an empty draft.
use Rattle.std.proofs.Common.{◌≡◌, ℕ, ◌<◌, true, false, Bool, List, [], Option}
use Rattle.std.proofs.Common.{None, Some, Result, Ok, Err, inl, inr, refl, sym}
use Rattle.std.proofs.Common.{drop, eqb, length, subst}
use Rattle.std.specs.List.{starts_with}
use Rattle.std.proofs.lemmas.Bool.Decides.{Decides-eqb}
use Rattle.std.proofs.lemmas.Slice.Eq.{starts_is}
use Rattle.std.specs.Prelude.{All, IfNone, IfOk, IfSome, option_map}
use Rattle.std.specs.Option.{ForSome}
use Rattle.std.specs.declared.ops.Bound.{Bound}
use Rattle.std.specs.declared.ops.Bound.TheVariants.{Excluded, Included, Unbounded}
use Rattle.std.proofs.lemmas.List.Elements.{recursion_from_All}
use Rattle.gds_base.specs.Faultless.{IsFaultless}
use Rattle.gds_base.specs.declared.error.BaseError.{BaseError}
use Rattle.gds_block.specs.Item.{Item}
use Rattle.gds_draft.specs.Draft.{DraftState}
use Rattle.gds_draft.specs.Drafted.{drafted}
use Rattle.gds_find.specs.Trail.{HoldsKey}
use Rattle.gds_tree.specs.Lawful.{IsAboveLow, IsBelowHigh}
use Rattle.gds_find.specs.Next.{HasTreeFrom, IsBoundWithin, IsFirstFor, IsFirstFrom}
use Rattle.gds_law.specs.Visit.{Visit, directory_root, global_root}
use Rattle.gds_law.proofs.MembershipLemmas.{Contains-from_in}
use Rattle.gds_sound.specs.Questions.{name, next_name}
use Rattle.gds_sound.specs.Sound.{Tree, tree_at}
use Rattle.gds_sound.specs.Stands.{StandsFor}
use Rattle.gds_sound.proofs.KeyLemmas.{AreBytes}
use Rattle.m_key.specs.Globals.{Globals, Place}
use Rattle.m_key.specs.Key.{key_bytes}
use Rattle.m_key.specs.Reference.{name_bytes, node_of, place_of}
use Rattle.m_key.specs.declared.reference.Reference.{Reference}
use Rattle.gds_globals.specs.First.{AreOfNodes, Begins, FindsFirst, IsFirstUnder, IsKeyOfNode, IsWhole}
use Rattle.gds_globals.specs.Node.{name_key}
use Rattle.gds_globals.proofs.AskLemmas.{Directory, IsEmptyOf, With, in_directory, undrafted, whole_image}
use Rattle.gds_globals.proofs.FileLemmas.{directory_low, global_tree, root_low}
use Rattle.gds_globals.proofs.FirstNodeLemmas.{are_of_nodes, first_in, first_node, nowhere, with_key}
use Rattle.gds_globals.proofs.NextNameLemmas.{entries_are_nodes, next_is}

-- what the code's test says
pub begins_tested : (front key : List ℕ) (t : Bool) → t ≡ starts_with eqb key front
    → (t ≡ true → Begins front key) × (Begins front key → t ≡ true)
begins_tested front key t e =
    let h = starts_is Decides-eqb key front t e in
    ((λ yes. (drop (length front) key, h.0 yes)), (λ begins. h.1 begins.0 begins.1))

-- ---- in any tree

module _ (told : Option (List ℕ)) (d : DraftState) (root : ℕ) (from : Bound (List ℕ)) (front : List ℕ) where
  abbrev pub InTree : (List Item → Type 0) → Type 0
  InTree P = With told d (λ file. (v : Visit) (has : HasTreeFrom file v root None from) → P has.tree.items)

  module _ (found : Bool) (e : Item) (first : InTree (λ items. IsFirstFrom items from found e)) where
    pub none_from : found ≡ false → InTree (λ items. IsFirstUnder items from front None)
    none_from none image is v has = inl (subst (λ t. IsFirstFrom has.tree.items from t e) none (first image is v has))

    module _ (yes : found ≡ true) where
      abbrev first_there : (image : List ℕ) → told ≡ Some image → (v : Visit)
          → (has : HasTreeFrom (drafted d image) v root None from) → IsFirstFor has.tree.items from e
      first_there image is v has = subst (λ t. IsFirstFrom has.tree.items from t e) yes (first image is v has)

      one_from : (o : Option Reference) → IfSome o (λ r. (key_bytes (node_of r) ≡ e.key) × Begins front e.key)
          → IfNone o (Begins front e.key → ⊥) → InTree (λ items. IsFirstUnder items from front (option_map node_of o))
      one_from (Some r) some none image is v has =
          let same : e ≡ with_key (node_of r) e.rest = λ j. record { key = sym some.0 j; rest = e.rest } in (
            e.rest,
            subst (IsFirstFor has.tree.items from) same (first_there image is v has),
            subst (Begins front) (sym some.0) some.1,
          )
      one_from None some none image is v has = inr (e, first_there image is v has, none)

      module _ (key : List ℕ) (same : key ≡ e.key) where
        pub ones_from : (r : Result (Option Reference) BaseError)
            → IfOk r (λ o. IfSome o (λ r. (key_bytes (node_of r) ≡ key) × Begins front key))
            → IfOk r (λ o. IfNone o (Begins front key → ⊥))
            → IfOk r (λ o. InTree (λ items. IsFirstUnder items from front (option_map node_of o)))
        ones_from (Ok o) some none =
            one_from o
            (subst (λ k. IfSome o (λ r. (key_bytes (node_of r) ≡ k) × Begins front k)) same some)
            (subst (λ k. IfNone o (Begins front k → ⊥)) same none)
        ones_from (Err error) some none = tt

        pub odd_from : (IsKeyOfNode key → ⊥) → InTree (λ items. AreOfNodes items → ⊥)
        odd_from other image is v has nodes =
            other (subst IsKeyOfNode (sym same) (nodes e (Contains-from_in has.tree.items e
            (first_in has.tree.items from e (first_there image is v has)))))

root_holds : (v : Visit) → v.low ≡ None → v.high ≡ None → (key : List ℕ) → HoldsKey v key
root_holds v low high key = record {
  above = subst (λ o. IsAboveLow 0 o key) (sym low) tt;
  below = subst (λ o. IsBelowHigh o key) (sym high) tt;
}

within_root : (v : Visit) → v.low ≡ None → v.high ≡ None → (from : Bound (List ℕ)) → IsWhole from → IsBoundWithin v from
within_root v low high (Included least) whole = record { is_key = whole; holds = root_holds v low high least }
within_root v low high (Excluded below) whole = record { is_key = whole; holds = root_holds v low high below }
within_root v low high Unbounded whole = tt

-- ---- in an image without fault

module _ (told : Option (List ℕ)) (d : DraftState) (empty : ForSome told (λ image. IsEmptyOf image d))
    (faultless : ForSome told IsFaultless) (bytes : ForSome told (All (λ b. b < 256))) (p : Place) where
  small : (image : List ℕ) → told ≡ Some image → AreBytes image
  small image is = recursion_from_All (λ b. b < 256) image (bytes image is)

  pub nowhere_first : Directory told d empty faultless p None → (from : Bound (List ℕ)) (front : List ℕ)
      → ForSome told (λ image. FindsFirst image p.node.name from front None)
  nowhere_first h from front image is m st =
      let f = faultless image is in
      inl (λ q there own.
      absurd (nowhere image (whole_image image d (empty image is)) f.directory f.globals f.sound (small image is) m st p
      (in_directory told d empty faultless p image is None h) q there own))

  module _ (root : ℕ) (leads : Directory told d empty faultless p (Some root)) (from : Bound (List ℕ))
      (whole : IsWhole from) where
    record Found (image : List ℕ) : Type 0 where
      tree : Tree
      found : tree_at image (global_root root p.node.name) ≡ Some tree
      has : HasTreeFrom (drafted d image) (global_root root p.node.name) root None from
      same : has.tree ≡ tree

    the_tree : (image : List ℕ) (is : told ≡ Some image) → Found image
    the_tree image is =
        let f = faultless image is in
        let e = empty image is in
        let w = whole_image image d e in
        let own = in_directory told d empty faultless p image is (Some root) leads in
        let t = global_tree image w f.directory f.globals f.sound p root own in
        let v = global_root root p.node.name in
        record {
          tree = t.0;
          found = t.1;
          has = record {
            block_is = refl;
            level_is = refl;
            tree = t.0;
            sound = undrafted image d e v t.0 (root_low image w f.directory f.globals f.sound p root own) t.1;
            within = within_root v refl refl from whole;
          };
          same = refl;
        }

    pub first_told : (front : List ℕ) (o : Option Reference)
        → InTree told d root from front (λ items. IsFirstUnder items from front (option_map node_of o))
        → ForSome told (λ image. FindsFirst image p.node.name from front (option_map place_of o))
    first_told front o h image is m st =
        let f = faultless image is in
        let t = the_tree image is in
        first_node image (whole_image image d (empty image is)) f.directory f.globals f.sound (small image is) m st p
        root (in_directory told d empty faultless p image is (Some root) leads) t.tree t.found from front o
        (subst (λ (w : Tree). IsFirstUnder w.items from front (option_map node_of o)) t.same
        (h image is (global_root root p.node.name) t.has))

    pub firsts_told : (front : List ℕ) (r : Result (Option Reference) BaseError)
        → IfOk r (λ o. InTree told d root from front (λ items. IsFirstUnder items from front (option_map node_of o)))
        → IfOk r (λ o. ForSome told (λ image. FindsFirst image p.node.name from front (option_map place_of o)))
    firsts_told front (Ok o) h = first_told front o h
    firsts_told front (Err error) h = tt

    pub never_odd : (front : List ℕ) → InTree told d root from front (λ items. AreOfNodes items → ⊥) → told ≡ None
    never_odd front h = by told refl
      where
        by : (o : Option (List ℕ)) → told ≡ o → o ≡ None
        by None e = refl
        by (Some image) is =
            let f = faultless image is in
            let t = the_tree image is in
            let nodes = are_of_nodes image (whole_image image d (empty image is)) f.directory f.globals f.sound
            (small image is) p root (in_directory told d empty faultless p image is (Some root) leads) t.tree t.found in
            absurd (h image is (global_root root p.node.name) t.has
            (subst (λ (w : Tree). AreOfNodes w.items) (sym t.same) nodes))

  -- ---- in the directory

  module _ (key : List ℕ) (same : key ≡ name_key p.node.name) (whole : IsWhole (Excluded key)) where
    abbrev in_names : (image : List ℕ) (is : told ≡ Some image)
        → HasTreeFrom (drafted d image) directory_root 1 None (Excluded key)
    in_names image is =
        let f = faultless image is in
        let e = empty image is in
        record {
          block_is = refl;
          level_is = refl;
          tree = f.directory;
          sound = undrafted image d e directory_root f.directory (directory_low image (whole_image image d e))
              f.sound.directory_tree;
          within = within_root directory_root refl refl (Excluded key) whole;
        }

    pub name_told : (o : Option Reference)
        → InTree told d 1 (Excluded key) [] (λ items. IsFirstUnder items (Excluded key) [] (option_map node_of o))
        → ForSome told (λ image. (m : Globals) → StandsFor image m
        → next_name m p.node.name ≡ option_map (λ r. name (name_bytes r.name)) o)
    name_told o h image is m st =
        let f = faultless image is in
        next_is image (whole_image image d (empty image is)) f.directory f.globals f.sound (small image is) m st p o
        (subst (λ k. IsFirstUnder f.directory.items (Excluded k) [] (option_map node_of o)) same
        (h image is directory_root (in_names image is)))

    pub never_odd_name : InTree told d 1 (Excluded key) [] (λ items. AreOfNodes items → ⊥) → told ≡ None
    never_odd_name h = by told refl
      where
        by : (o : Option (List ℕ)) → told ≡ o → o ≡ None
        by None e = refl
        by (Some image) is =
            let f = faultless image is in
            absurd (h image is directory_root (in_names image is)
            (entries_are_nodes image (whole_image image d (empty image is)) f.directory f.globals f.sound
            (small image is)))
