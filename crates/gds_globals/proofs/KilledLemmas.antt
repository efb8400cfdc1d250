-- What KILL in the tree of a global makes of a sound file.
use Rattle.std.proofs.Common.{◌≡◌, ◌≢◌, ℕ, ◌<◌, ◌%◌, Bool, true, false, not, List, [], ◌∷◌, ◌++◌, filter}
use Rattle.std.proofs.Common.{Less, inl, inr, refl, sym, ap, subst, ◌∙◌, arith}
use Rattle.std.specs.Prelude.{IsTrue, nat_eq}
use Rattle.std.proofs.lemmas.Bool.{and_from, cond-false, cond-true, eq-eqb, false_from_ne_true, not_from_false}
use Rattle.std.proofs.lemmas.Bool.{or_left, or_right}
use Rattle.std.proofs.lemmas.List.Elements.{filter-append, recursion_from_All}
use Rattle.m_key.specs.Globals.{Place}
use Rattle.m_key.specs.KeyParts.{name_part}
use Rattle.m_key.specs.Node.{IsName}
use Rattle.gds_block.specs.Fields.{u32_at}
use Rattle.gds_block.specs.Item.{Item}
use Rattle.gds_file.specs.Change.{is_within, items_in, items_outside}
use Rattle.gds_file.specs.Maps.{has_block, is_busy}
use Rattle.gds_file.specs.Reshape.{Reshapes}
use Rattle.gds_file.specs.Rewrite.{AreAllBusy}
use Rattle.gds_file.proofs.ChangeLemmas.{leads_within, within_leads}
use Rattle.gds_file.proofs.FileLemmas.{blocks_in, entry_goes, global_changes}
use Rattle.gds_file.proofs.FrameLemmas.{kept_equal, root_kept}
use Rattle.gds_file.proofs.KillLemmas.{kill_in_one_tree, kill_of_one_tree}
use Rattle.gds_file.proofs.ReshapeLemmas.{has_append, reshapes_compose, reshapes_in_any_order, reshapes_with_more}
use Rattle.gds_file.proofs.UseLemmas.{in_has, proper_block}
use Rattle.gds_header.specs.Fields.{block_of, fields_of}
use Rattle.gds_law.specs.Visit.{directory_root}
use Rattle.gds_law.proofs.MembershipLemmas.{IsIn, in_left, in_right}
use Rattle.gds_law.proofs.RisingLemmas.{Rising, Rising-behind, not_below_itself, rises}
use Rattle.gds_sound.specs.Sound.{IsSound, Tree, root_of}
use Rattle.gds_sound.proofs.BlockLemmas.{level_at}
use Rattle.gds_sound.proofs.CountLemmas.{count_append}
use Rattle.gds_sound.proofs.KeyLemmas.{right_keys}
use Rattle.gds_sound.proofs.OrderLemmas.{cmp, cmp_exact, cmp_total, key_cmp, sound_ordered}
use Rattle.gds_sound.proofs.PairLemmas.{key_name, keys_are_nodes}
use Rattle.gds_sound.proofs.PathLemmas.{counts_from_distinct, distinct_from_counts}
use Rattle.gds_sound.proofs.SoundLemmas.{blocks_of}
use Rattle.gds_splice.specs.Parted.{TreeBecomes}
use Rattle.gds_splice.proofs.ImageLemmas.{image_of}
use Rattle.gds_splice.proofs.CountedLemmas.{has_same}
use Rattle.gds_tree.specs.Lawful.{IsTreeNumber}
use Rattle.gds_remove.specs.Killed.{IsEmptied}
use Rattle.gds_globals.specs.Killing.{HasTrees, IsSoundWithout, MayDrop, name_node}
use Rattle.gds_globals.specs.Node.{name_key}
use Rattle.gds_globals.proofs.FileLemmas.{entry_key, entry_of}
use Rattle.gds_globals.proofs.NameLemmas.{bare_key, bare_right, name_of_key}
use Rattle.gds_globals.proofs.NewGlobalLemmas.{busy_directory, lawful_file}
use Rattle.gds_globals.proofs.OwnTreeLemmas.{OwnTree, apart, own_root, points}
use Rattle.gds_globals.proofs.WithinLemmas.{leads_itself}

filter_all : {A : Type 0} (test : A → Bool) (xs : List A) → ((x : A) → IsIn xs x → test x ≡ true) → filter test xs ≡ xs
filter_all test [] h = refl
filter_all test (x ∷ xs) h =
    cond-true (test x) _ _ (h x (inl refl)) ∙ ap (λ l. x ∷ l) (filter_all test xs (λ y i. h y (inr i)))

-- the node of a name
abbrev name_place : (name : List ℕ) → IsName name → Place
name_place name is = record { node = name_node name; right = bare_right name is }

own_name_within : (name : List ℕ) → IsName name → is_within (name_node name) (name_key name) ≡ true
own_name_within name is =
    ap (is_within (name_node name)) (sym (bare_key name))
    ∙ leads_within (name_place name is) (name_place name is) (leads_itself (name_node name))

module _ (before : List ℕ) (d : Tree) (globals : List Tree) (has : HasTrees before d globals) (p : Place) (root : ℕ)
    (own : OwnTree before d globals has p root) where
  abbrev entry : Item
  entry = entry_of p own.rest

  abbrev number : ℕ
  number = u32_at own.rest 0

  parted : IsSound before d (own.left ++ own.tree ∷ own.right)
  parted = subst (IsSound before d) own.trees has.sound

  name_is : name_part (name_key p.node.name) ≡ p.node.name
  name_is = name_of_key p.node.name p.right.name

  -- ---- where items are left

  pub without_some : (after : List ℕ)
      → TreeBecomes before after (root_of entry) own.tree.blocks (items_outside p.node own.tree.items)
      → IsSoundWithout after globals p.node
  without_some after b = record {
    directory = d;
    globals = own.left ++ b.tree ∷ own.right;
    sound = global_changes before after d own.left own.right own.tree b.tree own.front own.back entry parted own.firsts
        own.as_many b.reshapes b.stands b.lawful;
    outside = kill_in_one_tree before d own.tree b.tree own.left own.right own.front own.back entry p parted has.bytes
        own.firsts own.as_many name_is b.items_are
        ∙ ap (λ ts. items_outside p.node (items_in ts)) (sym own.trees);
  }

  -- ---- where none is left

  proper : (n : ℕ) → IsTrue (has_block d.blocks n) → n % 512 ≢ 0
  proper n there =
      (proper_block before d globals has.sound n
      (has_append d.blocks _ n ∙ or_left (has_block d.blocks n) _ there)).no_map

  low : (n : ℕ) → IsTrue (has_block d.blocks n) → n < (fields_of before).total
  low n there =
      (proper_block before d globals has.sound n
      (has_append d.blocks _ n ∙ or_left (has_block d.blocks n) _ there)).within

  busy : AreAllBusy before d.blocks
  busy = busy_directory before d globals has.sound

  -- the directory's entries without that of the name
  rising : Rising key_cmp (own.front ++ entry ∷ own.back)
  rising =
      subst (Rising key_cmp) own.firsts
      (sound_ordered before (level_at before directory_root) directory_root d has.sound.directory_tree).rising

  among : (e : Item) → IsIn (own.front ++ entry ∷ own.back) e → IsIn d.items e
  among e i = subst (λ l. IsIn l e) (sym own.firsts) i

  same_key : (e : Item) → IsIn d.items e → is_within (name_node p.node.name) e.key ≡ true
      → e.key ≡ name_key p.node.name
  same_key e i h =
      let right = right_keys before (level_at before directory_root) directory_root d
      (recursion_from_All (λ b. b < 256) before has.bytes) has.sound.directory_tree e i in
      let n = keys_are_nodes e.key right.whole right.bytes right.right in
      let leads = within_leads (name_place p.node.name p.right.name) (record { node = n.node; right = n.right })
      (ap (is_within (name_node p.node.name)) n.is ∙ h) in
      entry_key before (image_of before (lawful_file before d globals has.sound)) d has.sound.directory_tree e i
      ∙ ap name_key (ap name_part (sym n.is) ∙ key_name n.node n.right ∙ leads.name)

  no_order : (a b : Item) → a.key ≡ b.key → key_cmp a b ≡ Less → ⊥
  no_order a b same h =
      not_below_itself (List ℕ) cmp cmp_total cmp_exact b.key (subst (λ k. cmp k b.key ≡ Less) same h)

  abbrev is_other : Item → Bool
  is_other e = not (is_within (name_node p.node.name) e.key)

  front_stays : (e : Item) → IsIn own.front e → is_other e ≡ true
  front_stays e i =
      not_from_false _ (false_from_ne_true _ (λ h.
      no_order e entry (same_key e (among e (in_left own.front (entry ∷ own.back) e i)) h)
      (rises key_cmp own.front (entry ∷ own.back) rising e entry i (inl refl))))

  back_stays : (e : Item) → IsIn own.back e → is_other e ≡ true
  back_stays e i =
      not_from_false _ (false_from_ne_true _ (λ h.
      no_order entry e (sym (same_key e (among e (in_right own.front (entry ∷ own.back) e (inr i))) h))
      ((Rising-behind key_cmp own.front (entry ∷ own.back) rising).0 e i)))

  other_entries : items_outside (name_node p.node.name) d.items ≡ own.front ++ own.back
  other_entries =
      let goes : is_other entry ≡ false = ap not (own_name_within p.node.name p.right.name) in
      let front : filter is_other own.front ≡ own.front = filter_all is_other own.front front_stays in
      let back : filter is_other (entry ∷ own.back) ≡ own.back =
      cond-false (is_other entry) _ _ goes ∙ filter_all is_other own.back back_stays in
      ap (filter is_other) own.firsts ∙ filter-append is_other own.front (entry ∷ own.back)
      ∙ (λ i. front i ++ back i)

  module _ (mid : List ℕ) (emptied : IsEmptied before mid (root_of entry) own.tree) where
    r : Reshapes before mid own.tree.blocks (number ∷ [])
    r = emptied.reshapes

    other : (n : ℕ) → IsTrue (has_block d.blocks n) → has_block own.tree.blocks n ≡ false
    other = apart before d globals has p root own

    stays : (n : ℕ) → IsTrue (has_block d.blocks n) → block_of mid n ≡ block_of before n
    stays n there = r.stays n (proper n there) (busy n there) (other n there)

    numbered : IsTreeNumber (fields_of before).total number
    numbered = points before d globals has p root own

    number_now : IsTreeNumber (fields_of mid).total number
    number_now = record {
      positive = numbered.positive;
      within = omega (arith, numbered.within, r.limits.total);
      no_map = numbered.no_map;
    }

    pub may_drop : MayDrop mid d root
    may_drop =
        subst (MayDrop mid d) own.leads (record {
          stands = record {
            sound = root_kept before mid r.limits directory_root d has.sound.directory_tree
                (λ n i. kept_equal before mid n r.limits.tn (stays n (in_has d.blocks n i)));
            distinct = distinct_from_counts d.blocks (λ n.
                omega (
                  arith,
                  count_append n d.blocks (blocks_in globals),
                  counts_from_distinct (blocks_of d globals) has.sound.distinct n,
                ));
          };
          busy = λ n there.
              r.busy n (omega (arith, low n there, r.limits.total)) (proper n there)
              ∙ or_right (has_block (number ∷ []) n) _
              (and_from (is_busy before n) _ (busy n there) (not_from_false _ (other n there)));
          maps = emptied.lawful;
          number = number_now;
          root_busy = r.busy number number_now.within number_now.no_map
              ∙ or_left (has_block (number ∷ []) number) _
              (or_left (nat_eq number number) _ (eq-eqb number number refl));
          other = false_from_ne_true _ (λ there.
              let both : true ≡ false =
              sym (own_root before d globals has p root own) ∙ other number there in
              absurd (cc));
        })

    module _ (none : items_outside p.node own.tree.items ≡ []) (after : List ℕ)
        (b : TreeBecomes mid after directory_root (root ∷ d.blocks)
        (items_outside (name_node p.node.name) d.items)) where
      abbrev new : Tree
      new = b.tree

      turned : (n : ℕ) → has_block (own.tree.blocks ++ d.blocks) n ≡ has_block (d.blocks ++ own.tree.blocks) n
      turned =
          has_same (own.tree.blocks ++ d.blocks) (d.blocks ++ own.tree.blocks)
          (λ n. omega (arith, count_append n own.tree.blocks d.blocks, count_append n d.blocks own.tree.blocks))

      second : Reshapes mid after (number ∷ d.blocks) new.blocks
      second = subst (λ n. Reshapes mid after (n ∷ d.blocks) new.blocks) (sym own.leads) b.reshapes

      change : Reshapes before after (d.blocks ++ own.tree.blocks) new.blocks
      change =
          reshapes_in_any_order before after (own.tree.blocks ++ d.blocks) new.blocks (d.blocks ++ own.tree.blocks)
          new.blocks
          (reshapes_compose before mid after (own.tree.blocks ++ d.blocks) (number ∷ d.blocks) new.blocks
          (reshapes_with_more before mid own.tree.blocks (number ∷ []) d.blocks r busy other) second)
          turned (λ n. refl)

      pub without_global : IsSoundWithout after globals p.node
      without_global = record {
        directory = new;
        globals = own.left ++ own.right;
        sound = entry_goes before after d new own.tree own.left own.right own.front own.back entry parted own.firsts
            own.as_many (b.items_are ∙ other_entries) change b.stands b.lawful;
        outside = kill_of_one_tree before d own.tree own.left own.right own.front own.back entry p parted has.bytes
            own.firsts own.as_many name_is none
            ∙ ap (λ ts. items_outside p.node (items_in ts)) (sym own.trees);
      }
