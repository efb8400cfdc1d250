-- The tree of a node's global in a sound file, and the items there of the node and its descendants.
use Rattle.std.proofs.Common.{◌≡◌, ◌≢◌, ℕ, ◌<◌, true, false, List, ◌∷◌, ◌++◌, length, None, Some}
use Rattle.std.proofs.Common.{refl, sym, ap, subst, ◌∙◌, arith}
use Rattle.std.specs.Prelude.{Contains, IsTrue}
use Rattle.std.proofs.lemmas.Bool.{false_from_ne_true}
use Rattle.std.proofs.lemmas.List.Elements.{recursion_from_All}
use Rattle.m_key.specs.Globals.{Place}
use Rattle.m_key.specs.KeyParts.{name_part}
use Rattle.gds_block.specs.Fields.{u32_at}
use Rattle.gds_block.specs.Item.{Item}
use Rattle.gds_file.specs.Change.{is_within, items_in}
use Rattle.gds_file.specs.Maps.{has_block}
use Rattle.gds_file.proofs.ChangeLemmas.{items_parted, within_leads}
use Rattle.gds_file.proofs.FileLemmas.{blocks_in, with_global}
use Rattle.gds_file.proofs.UseLemmas.{in_has}
use Rattle.gds_header.specs.Fields.{fields_of}
use Rattle.gds_law.specs.Visit.{directory_root}
use Rattle.gds_law.proofs.MembershipLemmas.{Contains-from_in, IsIn, in_from_Contains, in_left, in_right}
use Rattle.gds_sound.specs.Sound.{Tree, root_of, tree_at}
use Rattle.gds_sound.proofs.BlockLemmas.{level_at}
use Rattle.gds_sound.proofs.CountLemmas.{count, count_append}
use Rattle.gds_sound.proofs.KeyLemmas.{right_keys}
use Rattle.gds_sound.proofs.OrderLemmas.{sound_ordered}
use Rattle.gds_sound.proofs.PairLemmas.{key_name, keys_are_nodes}
use Rattle.gds_sound.proofs.PathLemmas.{any_counted, counted_any, counts_from_distinct, distinct_from_counts}
use Rattle.gds_sound.proofs.SoundLemmas.{blocks_of}
use Rattle.gds_sound.proofs.ValueLemmas.{IsUnder, in_under}
use Rattle.gds_splice.proofs.ImageLemmas.{image_of}
use Rattle.gds_tree.specs.Keeps.{IsImage}
use Rattle.gds_tree.specs.Lawful.{IsTreeNumber}
use Rattle.gds_remove.specs.Killed.{MayKill}
use Rattle.gds_globals.specs.Killing.{HasNoneWithin, HasTrees, HasWithin}
use Rattle.gds_globals.specs.Node.{IsRootOf, name_key}
use Rattle.gds_globals.proofs.CarryLemmas.{own_block}
use Rattle.gds_globals.proofs.FileLemmas.{entry_key, entry_name, entry_of, entry_points, one_item, some_same}
use Rattle.gds_globals.proofs.NewGlobalLemmas.{busy_file, lawful_file}
use Rattle.gds_globals.proofs.SetLemmas.{parts_at}

module _ (file : List ℕ) (d : Tree) (globals : List Tree) (has : HasTrees file d globals) (p : Place) where
  image : IsImage file
  image = image_of file (lawful_file file d globals has.sound)

  -- an item in a node's range is under the entry of the node's name
  named : (item : Item) (u : IsUnder file d.items item) → is_within p.node item.key ≡ true
      → u.entry.key ≡ name_key p.node.name
  named item u h =
      let right = right_keys file (level_at file (root_of u.entry)) (root_of u.entry) u.one
      (recursion_from_All (λ b. b < 256) file has.bytes) u.found item u.item_in in
      let n = keys_are_nodes item.key right.whole right.bytes right.right in
      let leads = within_leads p (record { node = n.node; right = n.right }) (ap (is_within p.node) n.is ∙ h) in
      entry_key file image d has.sound.directory_tree u.entry u.entry_in
      ∙ ap name_key (sym (entry_name file image d has.sound.directory_tree u.entry u.entry_in u.one u.found item
      u.item_in) ∙ ap name_part (sym n.is) ∙ key_name n.node n.right ∙ leads.name)

  under : (item : Item) → Contains (items_in globals) item → IsUnder file d.items item
  under item there =
      in_under file d.items globals item has.sound.global_trees (in_from_Contains (items_in globals) item there)

  -- where the directory has no entry of its name
  pub no_root : IsRootOf d.items (name_key p.node.name) None → HasNoneWithin p.node (items_in globals)
  no_root none item there =
      false_from_ne_true _ (λ h.
      let u = under item there in
      let entry : u.entry ≡ record { key = name_key p.node.name; rest = u.entry.rest } =
      (λ j. record { key = named item u h j; rest = u.entry.rest }) in
      none u.entry.rest (Contains-from_in d.items _ (subst (IsIn d.items) entry u.entry_in)))

  -- ---- the tree that its entry leads to

  pub record OwnTree (root : ℕ) : Type 0 where
    pub rest : List ℕ
    pub leads : u32_at rest 0 ≡ root
    pub front : List Item
    pub back : List Item
    pub left : List Tree
    pub tree : Tree
    pub right : List Tree
    pub firsts : d.items ≡ front ++ entry_of p rest ∷ back
    pub trees : globals ≡ left ++ tree ∷ right
    pub as_many : length front ≡ length left
    pub found : tree_at file (root_of (entry_of p rest)) ≡ Some tree
    pub there : IsIn d.items (entry_of p rest)

  pub own_tree : (root : ℕ) → IsRootOf d.items (name_key p.node.name) (Some root) → OwnTree root
  own_tree root (rest, there, leads) =
      let in_d = in_from_Contains d.items (entry_of p rest) there in
      let parts = parts_at (λ (e : Item) (t : Tree). tree_at file (root_of e) ≡ Some t) d.items globals
      has.sound.global_trees (entry_of p rest) in_d in
      record {
        rest = rest;
        leads = leads;
        front = parts.front;
        back = parts.back;
        left = parts.left;
        tree = parts.here;
        right = parts.right;
        firsts = parts.firsts;
        trees = parts.seconds;
        as_many = parts.as_many;
        found = parts.related;
        there = in_d;
      }

  module _ (root : ℕ) (own : OwnTree root) where
    abbrev entry : Item
    entry = entry_of p own.rest

    -- an item in a node's range is in the tree
    pub in_tree : (item : Item) → Contains (items_in globals) item → is_within p.node item.key ≡ true
        → IsIn own.tree.items item
    in_tree item there h =
        let u = under item there in
        let rises = (sound_ordered file (level_at file directory_root) directory_root d
        has.sound.directory_tree).rising in
        let same : u.entry ≡ entry = one_item d.items rises u.entry entry u.entry_in own.there (named item u h) in
        let one : u.one ≡ own.tree =
        some_same u.one own.tree (sym u.found ∙ ap (λ w. tree_at file (root_of w)) same ∙ own.found) in
        subst (λ (t : Tree). IsIn t.items item) one u.item_in

    in_globals : (item : Item) → IsIn own.tree.items item → IsIn (items_in globals) item
    in_globals item i =
        subst (λ l. IsIn l item) (sym (ap items_in own.trees ∙ items_parted own.left own.tree own.right))
        (in_right (items_in own.left) (own.tree.items ++ items_in own.right) item
        (in_left own.tree.items (items_in own.right) item i))

    -- What is told of the tree's items is so of those of all globals.
    pub none_in_tree : HasNoneWithin p.node own.tree.items → HasNoneWithin p.node (items_in globals)
    none_in_tree none item there =
        false_from_ne_true _ (λ h.
        let e : true ≡ false =
        sym h ∙ none item (Contains-from_in own.tree.items item (in_tree item there h)) in
        absurd (cc))

    pub some_in_tree : HasWithin p.node own.tree.items → HasWithin p.node (items_in globals)
    some_in_tree w = record {
      item = w.item;
      there = Contains-from_in (items_in globals) w.item
          (in_globals w.item (in_from_Contains own.tree.items w.item w.there));
      within = w.within;
    }

    -- ---- its blocks

    pub points : IsTreeNumber (fields_of file).total (u32_at own.rest 0)
    points = (entry_points file image d has.sound.directory_tree entry own.there).leads

    counted : (n : ℕ) → count n (blocks_of d globals)
        ≡ count n (blocks_of d (own.left ++ own.tree ∷ own.right))
    counted n = ap (λ ts. count n (blocks_of d ts)) own.trees

    -- none of them is one of the directory's
    pub apart : (n : ℕ) → IsTrue (has_block d.blocks n) → has_block own.tree.blocks n ≡ false
    apart n in_d =
        false_from_ne_true _ (λ in_t.
        omega (
          arith,
          (with_global d own.tree own.left own.right).counts n,
          counted n,
          counts_from_distinct (blocks_of d globals) has.sound.distinct n,
          count_append n d.blocks (blocks_in own.left ++ blocks_in own.right),
          any_counted n d.blocks in_d,
          any_counted n own.tree.blocks in_t,
        ))

    pub own_root : IsTrue (has_block own.tree.blocks (u32_at own.rest 0))
    own_root =
        in_has own.tree.blocks (u32_at own.rest 0)
        (own_block file (level_at file (root_of entry)) (root_of entry) own.tree own.found)

    directory_block : IsTrue (has_block d.blocks 1)
    directory_block =
        in_has d.blocks 1
        (own_block file (level_at file directory_root) directory_root d has.sound.directory_tree)

    pub not_directory : u32_at own.rest 0 ≢ 1
    not_directory e =
        let there : IsTrue (has_block own.tree.blocks 1) =
        subst (λ n. IsTrue (has_block own.tree.blocks n)) e own_root in
        let both : true ≡ false = sym there ∙ apart 1 directory_block in
        absurd (cc)

    pub may_kill : MayKill file (root_of entry) own.tree
    may_kill = record {
      is_root = record { level = refl; number = points };
      directory = λ e. absurd (not_directory e);
      stands = record {
        sound = own.found;
        distinct = distinct_from_counts own.tree.blocks (λ n.
            omega (
              arith,
              (with_global d own.tree own.left own.right).counts n,
              counted n,
              counts_from_distinct (blocks_of d globals) has.sound.distinct n,
            ));
      };
      busy = λ n in_t. busy_file file d globals has.sound n
          (counted_any n (blocks_of d globals)
          (omega (
            arith,
            (with_global d own.tree own.left own.right).counts n,
            counted n,
            any_counted n own.tree.blocks in_t,
          )));
      maps = lawful_file file d globals has.sound;
    }
