-- A tree that is planted for a new global, and the entry of the directory that leads to it.
use Rattle.std.proofs.Common.{◌≡◌, ℕ, ◌-◌, ◌<◌, ◌≤◌, false, List, [], ◌∷◌, ◌++◌, length, None, Some}
use Rattle.std.proofs.Common.{inl, inr, refl, sym, ap, subst, ◌∙◌, arith}
use Rattle.std.specs.Prelude.{All, IsTrue, nat_eq}
use Rattle.std.specs.List.{AllZip, IsDistinct}
use Rattle.std.proofs.lemmas.Bool.{both_ways, eq-eqb, false_from_ne_true, or_left, or_right}
use Rattle.std.proofs.lemmas.List.Elements.{All-from_recursion, recursion_from_All}
use Rattle.gds_block.specs.Fields.{u32_at}
use Rattle.gds_block.specs.Item.{Item}
use Rattle.gds_file.specs.Change.{SetsItem, item_at, items_in}
use Rattle.gds_file.specs.FileLaws.{IsLawful}
use Rattle.gds_file.specs.Maps.{has_block, is_busy}
use Rattle.gds_file.specs.Reshape.{Reshapes}
use Rattle.gds_file.specs.Rewrite.{AreAllBusy, AreNoMaps}
use Rattle.gds_file.proofs.ChangeLemmas.{set_in_new_tree}
use Rattle.gds_file.proofs.FileLemmas.{entry_comes}
use Rattle.gds_file.proofs.FrameLemmas.{kept_equal, root_kept}
use Rattle.gds_file.proofs.ReshapeLemmas.{has_append, reshapes_compose, reshapes_in_any_order, reshapes_with_more}
use Rattle.gds_file.proofs.RewriteLemmas.{rewrite_is_reshape, rewrite_keeps_header, rewrite_stays_lawful}
use Rattle.gds_file.proofs.RightMapLemmas.{maps_in_two_parts}
use Rattle.gds_file.proofs.UseLemmas.{in_has, proper_block}
use Rattle.gds_header.specs.declared.header.Header.{Header}
use Rattle.gds_header.specs.Fields.{fields_of}
use Rattle.gds_law.specs.Visit.{Visit, directory_root, global, global_root}
use Rattle.gds_law.proofs.KeyLemmas.{key_test}
use Rattle.gds_law.proofs.MembershipLemmas.{Contains-from_in, IsIn, in_right}
use Rattle.gds_sound.specs.Sound.{IsSound, Tree, root_of, sound_tree, tree_at}
use Rattle.gds_sound.proofs.CountLemmas.{count_append}
use Rattle.gds_sound.proofs.PairLemmas.{key_name}
use Rattle.gds_sound.proofs.SoundLemmas.{blocks_of}
use Rattle.gds_splice.specs.Parted.{TakenAll, TreeBecomes}
use Rattle.gds_splice.proofs.CountedLemmas.{at_has, distinct_apart, has_same}
use Rattle.gds_splice.proofs.ImageLemmas.{image_of}
use Rattle.gds_splice.proofs.TakenLemmas.{taken}
use Rattle.gds_tree.specs.Below.{HasEntries, leaf_tree, trees_below}
use Rattle.gds_tree.specs.Keeps.{IsImage}
use Rattle.gds_tree.specs.Lawful.{IsLawfulEntry, IsTreeNumber}
use Rattle.gds_tree.specs.Lawful as entries
use Rattle.gds_tree.proofs.BelowLemmas.{some_both}
use Rattle.gds_tree.proofs.FaultlessLemmas.{written_entries}
use Rattle.gds_tree.proofs.ListLemmas.{nothing_less}
use Rattle.gds_tree.proofs.TreeByLemmas.{index_by, leaf_by}
use Rattle.m_key.specs.Globals.{Place}
use Rattle.m_key.specs.Key.{key_bytes}
use Rattle.m_key.specs.KeyEnd.{IsKey}
use Rattle.m_key.specs.KeyParts.{name_part}
use Rattle.m_key.proofs.NodeEndLemmas.{IsKey-key_bytes}
use Rattle.gds_globals.specs.Node.{IsRootOf, name_key}
use Rattle.gds_globals.specs.SetLaws.{IsSoundWith, Plants, SetInNewGlobal}
use Rattle.gds_globals.proofs.NameLemmas.{name_of_key}

-- ---- what is known of a sound file

pub lawful_file : (file : List ℕ) (d : Tree) (globals : List Tree) → IsSound file d globals → IsLawful file
lawful_file file d globals s = record {
  header = s.header;
  maps = ((maps_in_two_parts file (blocks_of d globals)).0 (record { maps = s.maps; count = s.count })).0;
}

pub busy_file : (file : List ℕ) (d : Tree) (globals : List Tree) → IsSound file d globals
    → AreAllBusy file (blocks_of d globals)
busy_file file d globals s n there =
    let proper = proper_block file d globals s n there in
    let busy = ((maps_in_two_parts file (blocks_of d globals)).0 (record { maps = s.maps; count = s.count })).1 in
    busy n proper.within proper.no_map ∙ there

pub busy_directory : (file : List ℕ) (d : Tree) (globals : List Tree) → IsSound file d globals
    → AreAllBusy file d.blocks
busy_directory file d globals s n there =
    busy_file file d globals s n (has_append d.blocks _ n ∙ or_left (has_block d.blocks n) _ there)

-- two lists that belong together, parted behind a front of the first
record ZipParts {B : Type 0} (n : ℕ) (ys : List B) : Type 0 where
  left : List B
  right : List B
  whole : ys ≡ left ++ right
  as_many : n ≡ length left

zip_parts : {A B : Type 0} (R : A → B → Type 0) (front back : List A) (ys : List B) → AllZip R (front ++ back) ys
    → ZipParts (length front) ys
zip_parts R [] back ys h = record { left = []; right = ys; whole = refl; as_many = refl }
zip_parts R (x ∷ front) back [] h = absurd h
zip_parts R (x ∷ front) back (y ∷ ys) h =
    let z = zip_parts R front back ys h.1 in
    record { left = y ∷ z.left; right = z.right; whole = λ j. y ∷ z.whole j; as_many = omega (arith, z.as_many) }

-- ---- the planted tree

module _ (before planted : List ℕ) (d : Tree) (globals : List Tree) (s : IsSound before d globals) (p : Place)
    (value : List ℕ) (root leaf : ℕ) (short : length (key_bytes p.node) ≤ (fields_of before).key_max)
    (small : length value ≤ (fields_of before).value_max) (bytes : All (λ b. b < 256) (key_bytes p.node))
    (pl : Plants before planted root leaf (item_at p.node value)) where
  abbrev both_blocks : List ℕ
  both_blocks = root ∷ leaf ∷ []

  t : TakenAll before pl.mid both_blocks
  t = taken before pl.mid both_blocks (lawful_file before d globals s) pl.taken

  numbers : (n : ℕ) → IsTrue (has_block both_blocks n) → IsTreeNumber (fields_of before).total n
  numbers n there =
      at_has (IsTreeNumber (fields_of before).total) both_blocks n
      (recursion_from_All (IsTreeNumber (fields_of before).total) both_blocks t.numbered) there

  no_maps : AreNoMaps both_blocks
  no_maps n there = (numbers n there).no_map

  pub lawful_planted : IsLawful planted
  lawful_planted = rewrite_stays_lawful pl.mid planted both_blocks t.lawful pl.rewrites no_maps

  image_planted : IsImage planted
  image_planted = image_of planted lawful_planted

  same_header : fields_of planted ≡ fields_of pl.mid
  same_header = rewrite_keeps_header pl.mid planted both_blocks pl.rewrites

  pub key_max_kept : (fields_of planted).key_max ≡ (fields_of before).key_max
  key_max_kept = ap (λ (h : Header). h.key_max) (same_header ∙ t.fields)

  pub total_kept : (fields_of planted).total ≡ (fields_of before).total
  total_kept = ap (λ (h : Header). h.total) (same_header ∙ t.fields)

  pub free_left : (fields_of planted).free ≡ (fields_of before).free - 2
  free_left = ap (λ (h : Header). h.free) (same_header ∙ t.fields)

  pub has_root : IsTrue (has_block both_blocks root)
  has_root = or_left (nat_eq root root) _ (eq-eqb root root refl)

  has_leaf : IsTrue (has_block both_blocks leaf)
  has_leaf = or_right (nat_eq leaf root) _ (or_left (nat_eq leaf leaf) _ (eq-eqb leaf leaf refl))

  pub number_now : (n : ℕ) → IsTrue (has_block both_blocks n) → IsTreeNumber (fields_of planted).total n
  number_now n there = subst (λ total. IsTreeNumber total n) (sym total_kept) (numbers n there)

  -- the leaf
  abbrev leaf_visit : Visit
  leaf_visit = record { block = leaf; role = global p.node.name; level = Some 0; low = None; high = None }

  abbrev own_item : Item
  own_item = item_at p.node value

  is_key : IsKey (key_bytes p.node)
  is_key =
      IsKey-key_bytes p.node p.right
      (omega (arith, short, ap (λ (h : Header). h.key_max) (same_header ∙ t.fields), image_planted.limits.key_to))

  leaf_lawful : entries.IsLawful (fields_of planted) leaf_visit 0 (own_item ∷ [])
  leaf_lawful = record {
    packable = (record { is_key = is_key; above = nothing_less (key_bytes p.node) is_key }, tt);
    each = All-from_recursion (IsLawfulEntry (fields_of planted) leaf_visit 0) (own_item ∷ []) (
      record {
        key = λ some. record {
          short = omega (arith, short, ap (λ (h : Header). h.key_max) (same_header ∙ t.fields));
          right = (key_test (key_bytes p.node) is_key.whole bytes).1 (p.node, p.right, refl);
          role = key_name p.node p.right;
          above = tt;
          below = tt;
        };
        rest = omega (arith, small, ap (λ (h : Header). h.value_max) (same_header ∙ t.fields));
      },
      tt,
    );
    none = λ e. absurd (cc);
  }

  leaf_has : HasEntries planted leaf_visit 0 (own_item ∷ [])
  leaf_has =
      written_entries planted leaf_visit 0 pl.leaf_at.tn (own_item ∷ []) image_planted (number_now leaf has_leaf).within
      pl.leaf_at.bytes leaf_lawful pl.leaf_at.fits refl pl.leaf_at.past pl.leaf_at.small

  -- the root
  abbrev root_visit : Visit
  root_visit = global_root root p.node.name

  abbrev star : Item
  star = record { key = []; rest = pl.pointer }

  root_lawful : entries.IsLawful (fields_of planted) root_visit 1 (star ∷ [])
  root_lawful = record {
    packable = (refl, pl.size);
    each = All-from_recursion (IsLawfulEntry (fields_of planted) root_visit 1) (star ∷ []) (
      record {
        key = λ some. absurd (some refl);
        rest = record {
          size = pl.size;
          leads = subst (IsTreeNumber (fields_of planted).total) (sym pl.leads) (number_now leaf has_leaf);
        };
      },
      tt,
    );
    none = λ e. absurd (cc);
  }

  root_has : HasEntries planted root_visit 1 (star ∷ [])
  root_has =
      written_entries planted root_visit 1 pl.root_at.tn (star ∷ []) image_planted (number_now root has_root).within
      pl.root_at.bytes root_lawful pl.root_at.fits (omega arith, omega arith) pl.root_at.past pl.root_at.small

  abbrev pub planted_tree : Tree
  planted_tree = record { blocks = both_blocks; items = own_item ∷ [] }

  below_root : trees_below planted root_visit 0 None (star ∷ []) ≡ Some (leaf_tree leaf_visit (own_item ∷ []))
  below_root =
      some_both (sound_tree planted 0 _) (Some (record { blocks = []; items = [] }))
      (leaf_tree leaf_visit (own_item ∷ [])) (record { blocks = []; items = [] })
      (ap (λ n. sound_tree planted 0 (record {
        block = n;
        role = global p.node.name;
        level = Some 0;
        low = None;
        high = None;
      })) pl.leads ∙ leaf_by planted leaf_visit (own_item ∷ []) image_planted leaf_has) refl

  pub tree_planted : tree_at planted root_visit ≡ Some planted_tree
  tree_planted =
      ap (λ n. sound_tree planted n root_visit) root_has.level
      ∙ index_by planted root_visit 0 (star ∷ []) (leaf_tree leaf_visit (own_item ∷ [])) image_planted root_has
      below_root

  -- its blocks are none of the directory's, and busy
  pub apart : (n : ℕ) → IsTrue (has_block both_blocks n) → has_block d.blocks n ≡ false
  apart n there =
      false_from_ne_true (has_block d.blocks n) (λ own.
      both_ways (is_busy before n) (t.were_free n there) (busy_directory before d globals s n own))

  own_change : Reshapes pl.mid planted both_blocks both_blocks
  own_change =
      rewrite_is_reshape pl.mid planted both_blocks both_blocks pl.rewrites no_maps (λ n there. there) t.busy

  pub busy_planted : AreAllBusy planted both_blocks
  busy_planted n there =
      own_change.busy n (number_now n there).within (numbers n there).no_map ∙ or_left (has_block both_blocks n) _ there

  pub planted_beside : Reshapes before planted [] both_blocks
  planted_beside = reshapes_compose before pl.mid planted [] both_blocks both_blocks t.reshapes own_change

  pub planting : Reshapes before planted d.blocks (both_blocks ++ d.blocks)
  planting =
      reshapes_with_more before planted [] both_blocks d.blocks planted_beside
      (busy_directory before d globals s) (λ n there. refl)

  -- ---- the entry that leads to it

  module _ (file rest : List ℕ) (items : List Item) (leads : u32_at rest 0 ≡ root)
      (none : IsRootOf d.items (name_key p.node.name) None)
      (sets : SetsItem d.items items (record { key = name_key p.node.name; rest = rest }))
      (becomes : TreeBecomes planted file directory_root d.blocks items) where
    abbrev new : Tree
    new = becomes.tree

    abbrev entry : Item
    entry = record { key = name_key p.node.name; rest = rest }

    root_is : root_of entry ≡ root_visit
    root_is =
        ap (λ n. global_root n (name_part (name_key p.node.name))) leads
        ∙ ap (global_root root) (name_of_key p.node.name p.right.name)

    old_items : d.items ≡ sets.front ++ sets.back
    old_items = elim sets.before [
      | inl same ↦ same
      | inr more ↦
          let other : Item = record { key = name_key p.node.name; rest = more.0 } in
          absurd (none more.0 (Contains-from_in d.items other
          (subst (λ is. IsIn is other) (sym more.1) (in_right sets.front (other ∷ sets.back) other (inl refl)))))
    ]

    -- the tree stays where it was planted
    tree_now : tree_at file (root_of entry) ≡ Some planted_tree
    tree_now =
        ap (tree_at file) root_is
        ∙ root_kept planted file becomes.reshapes.limits root_visit planted_tree tree_planted (λ n i.
        let there = in_has both_blocks n i in
        kept_equal planted file n becomes.reshapes.limits.tn
        (becomes.reshapes.stays n (no_maps n there) (busy_planted n there) (apart n there)))

    once : IsDistinct nat_eq (new.blocks ++ both_blocks)
    once =
        distinct_apart new.blocks both_blocks becomes.stands.distinct t.distinct (λ n there.
        false_from_ne_true (has_block new.blocks n) (λ own.
        both_ways (is_busy planted n) (becomes.reshapes.taken n (no_maps n there) own (apart n there))
        (busy_planted n there)))

    turned : (n : ℕ) → has_block (both_blocks ++ d.blocks) n ≡ has_block (d.blocks ++ both_blocks) n
    turned =
        has_same (both_blocks ++ d.blocks) (d.blocks ++ both_blocks)
        (λ n. omega (arith, count_append n both_blocks d.blocks, count_append n d.blocks both_blocks))

    change : Reshapes before file d.blocks (new.blocks ++ both_blocks)
    change =
        reshapes_compose before planted file d.blocks (d.blocks ++ both_blocks) (new.blocks ++ both_blocks)
        (reshapes_in_any_order before planted d.blocks (both_blocks ++ d.blocks) d.blocks (d.blocks ++ both_blocks)
        planting (λ n. refl) turned)
        (reshapes_with_more planted file d.blocks new.blocks both_blocks becomes.reshapes busy_planted apart)

    pub new_global : IsSoundWith file globals own_item
    new_global =
        let z = zip_parts (λ (e : Item) (w : Tree). tree_at before (root_of e) ≡ Some w) sets.front sets.back globals
        (subst (λ is. AllZip (λ (e : Item) (w : Tree). tree_at before (root_of e) ≡ Some w) is globals) old_items
        s.global_trees) in
        record {
          directory = new;
          globals = z.left ++ planted_tree ∷ z.right;
          sound = entry_comes before file d new planted_tree z.left z.right sets.front sets.back entry
              (subst (IsSound before d) z.whole s) old_items z.as_many (becomes.items_are ∙ sets.after) change
              becomes.stands.sound tree_now once becomes.lawful;
          sets = subst (λ ts. SetsItem (items_in ts) (items_in (z.left ++ planted_tree ∷ z.right)) own_item)
              (sym z.whole) (set_in_new_tree z.left z.right planted_tree own_item refl);
        }

pub set_in_new_global : SetInNewGlobal
set_in_new_global before planted file d globals p value rest root leaf items s none short small bytes pl leads sets b =
    new_global before planted d globals s p value root leaf short small bytes pl file rest items leads none sets b
