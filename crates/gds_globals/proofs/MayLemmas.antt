-- In which trees of a sound file an item may be set.
use Rattle.std.proofs.Common.{◌≡◌, ℕ, ◌<◌, ◌≤◌, List, [], ◌∷◌, ◌++◌, length, flat_map, Contains, Some}
use Rattle.std.proofs.Common.{refl, sym, ap, subst, ◌∙◌, arith}
use Rattle.std.specs.Prelude.{All, IsTrue}
use Rattle.std.proofs.lemmas.Bool.{or_left, or_right}
use Rattle.gds_block.specs.Fields.{u32_at}
use Rattle.gds_block.specs.Item.{Item}
use Rattle.gds_file.specs.Change.{item_at}
use Rattle.gds_file.specs.Maps.{has_block}
use Rattle.gds_file.specs.Reshape.{Reshapes}
use Rattle.gds_file.proofs.FileLemmas.{with_global}
use Rattle.gds_file.proofs.FrameLemmas.{kept_equal, root_kept}
use Rattle.gds_file.proofs.ReshapeLemmas.{has_append}
use Rattle.gds_file.proofs.UseLemmas.{in_has, proper_block}
use Rattle.gds_header.specs.Fields.{block_of, fields_of}
use Rattle.gds_insert.specs.SetIn.{IsDeepFor, MaySet}
use Rattle.gds_law.specs.Visit.{directory_root}
use Rattle.gds_law.proofs.KeyLemmas.{key_test}
use Rattle.gds_law.proofs.MembershipLemmas.{in_from_Contains}
use Rattle.gds_sound.specs.Sound.{IsSound, Tree, root_of, tree_at}
use Rattle.gds_sound.proofs.CountLemmas.{count, count_append}
use Rattle.gds_sound.proofs.PairLemmas.{key_name}
use Rattle.gds_sound.proofs.PathLemmas.{any_counted, counted_any, counts_from_distinct, distinct_from_counts}
use Rattle.gds_sound.proofs.SoundLemmas.{blocks_of}
use Rattle.gds_splice.proofs.ImageLemmas.{image_of}
use Rattle.gds_tree.specs.Keeps.{IsImage}
use Rattle.gds_tree.specs.Lawful.{IsTreeNumber}
use Rattle.m_key.specs.Globals.{Place}
use Rattle.m_key.specs.Key.{key_bytes}
use Rattle.m_key.specs.KeyEnd.{IsKey}
use Rattle.m_key.proofs.NodeEndLemmas.{IsKey-key_bytes}
use Rattle.gds_globals.specs.Node.{name_key}
use Rattle.gds_globals.specs.SetLaws.{Plants}
use Rattle.gds_globals.proofs.CarryLemmas.{deep_carried, deep_for}
use Rattle.gds_globals.proofs.FileLemmas.{entry_of, entry_points, some_same}
use Rattle.gds_globals.proofs.NameLemmas.{is_name_key, name_no_longer, name_of_key, no_fault_of_name, no_parts_of_name}
use Rattle.gds_globals.proofs.NewGlobalLemmas.{busy_directory, busy_file, has_root, key_max_kept, lawful_file}
use Rattle.gds_globals.proofs.NewGlobalLemmas.{lawful_planted, number_now, planted_beside, planting, total_kept}
use Rattle.gds_globals.proofs.SetLemmas.{parts_at}

module _ (file : List ℕ) (d : Tree) (globals : List Tree) (s : IsSound file d globals) (p : Place) (value : List ℕ)
    (short : length (key_bytes p.node) ≤ (fields_of file).key_max) (small : length value ≤ (fields_of file).value_max)
    (bytes : All (λ b. b < 256) (key_bytes p.node)) where
  image : IsImage file
  image = image_of file (lawful_file file d globals s)

  is_key : IsKey (key_bytes p.node)
  is_key = IsKey-key_bytes p.node p.right (omega (arith, short, image.limits.key_to))

  -- the tree that an entry leads to
  pub may_in_global : (rest : List ℕ) (root : ℕ) → Contains d.items (entry_of p rest) → u32_at rest 0 ≡ root
      → (t : Tree) → tree_at file (root_of (entry_of p rest)) ≡ Some t
      → MaySet file (root_of (entry_of p rest)) t (key_bytes p.node) value
  may_in_global rest root there leads t found =
      let entry : Item = entry_of p rest in
      let parts = parts_at (λ (e : Item) (w : Tree). tree_at file (root_of e) ≡ Some w) d.items globals s.global_trees
      entry (in_from_Contains d.items entry there) in
      let own : parts.here ≡ t = some_same parts.here t (sym parts.related ∙ found) in
      let trees : globals ≡ parts.left ++ t ∷ parts.right =
      parts.seconds ∙ ap (λ w. parts.left ++ w ∷ parts.right) own in
      let counted = with_global d t parts.left parts.right in
      let all : List ℕ = blocks_of d globals in
      let same : blocks_of d globals ≡ blocks_of d (parts.left ++ t ∷ parts.right) = ap (blocks_of d) trees in
      let points = entry_points file image d s.directory_tree entry (in_from_Contains d.items entry there) in
      record {
        is_root = record { level = refl; number = points.leads };
        stands = record {
          sound = found;
          distinct = distinct_from_counts t.blocks (λ n.
              omega (arith, counted.counts n, ap (count n) same, counts_from_distinct all s.distinct n));
        };
        busy = λ n own. busy_file file d globals s n
            (counted_any n all (omega (arith, counted.counts n, ap (count n) same, any_counted n t.blocks own)));
        maps = lawful_file file d globals s;
        is_key = is_key;
        lawful_key = record {
          short = short;
          right = (key_test (key_bytes p.node) is_key.whole bytes).1 (p.node, p.right, refl);
          role = key_name p.node p.right ∙ sym (name_of_key p.node.name p.right.name);
          above = tt;
          below = tt;
        };
        lawful_rest = small;
      }

  -- ---- the directory, behind a planted tree

  module _ (planted : List ℕ) (root leaf : ℕ) (pl : Plants file planted root leaf (item_at p.node value))
      (pointer : List ℕ) (size : length pointer ≡ 4) (leads : u32_at pointer 0 ≡ root) where
    own : Reshapes file planted d.blocks ((root ∷ leaf ∷ []) ++ d.blocks)
    own = planting file planted d globals s p value root leaf short small bytes pl

    stays : (n : ℕ) → IsTrue (has_block d.blocks n) → block_of planted n ≡ block_of file n
    stays n there =
        (planted_beside file planted d globals s p value root leaf short small bytes pl).stays n
        (proper_block file d globals s n (has_append d.blocks _ n ∙ or_left (has_block d.blocks n) _ there)).no_map
        (busy_directory file d globals s n there) refl

    total_same : (fields_of planted).total ≡ (fields_of file).total
    total_same = total_kept file planted d globals s p value root leaf short small bytes pl

    key_same : (fields_of planted).key_max ≡ (fields_of file).key_max
    key_same = key_max_kept file planted d globals s p value root leaf short small bytes pl

    pub directory_there : tree_at planted directory_root ≡ Some d
    directory_there =
        root_kept file planted own.limits directory_root d s.directory_tree
        (λ n i. kept_equal file planted n own.limits.tn (stays n (in_has d.blocks n i)))

    number : IsTreeNumber (fields_of file).total directory_root.block
    number = record {
      positive = omega arith;
      within = omega (arith, image.limits.total_from);
      no_map = λ e. absurd (omega (arith, e));
    }

    -- a leaf of the directory that has no room behind a planted tree had none before
    pub deep_before : IsDeepFor planted directory_root (name_key p.node.name)
        → IsDeepFor file directory_root (name_key p.node.name)
    deep_before deep =
        deep_for file directory_root (name_key p.node.name)
        (deep_carried planted file image own.limits.block_size own.limits.key_max directory_root d number
        (λ n there. stays n (in_has d.blocks n there)) s.directory_tree (name_key p.node.name) deep)

    pub may_in_directory : MaySet planted directory_root d (name_key p.node.name) pointer
    may_in_directory = record {
      is_root = record {
        level = refl;
        number = record {
          positive = omega arith;
          within = omega (arith, total_same, image.limits.total_from);
          no_map = λ e. absurd (omega (arith, e));
        };
      };
      stands = record {
        sound = directory_there;
        distinct = distinct_from_counts d.blocks (λ n.
            omega (
              arith,
              count_append n d.blocks (flat_map (λ (w : Tree). w.blocks) globals),
              counts_from_distinct (blocks_of d globals) s.distinct n,
            ));
      };
      busy = λ n there.
          let among = has_append d.blocks _ n ∙ or_left (has_block d.blocks n) _ there in
          let proper = proper_block file d globals s n among
          in
          own.busy n (omega (arith, proper.within, total_same)) proper.no_map
          ∙ or_left (has_block ((root ∷ leaf ∷ []) ++ d.blocks) n) _
          (has_append (root ∷ leaf ∷ []) d.blocks n
          ∙ or_right (has_block (root ∷ leaf ∷ []) n) _ there);
      maps = lawful_planted file planted d globals s p value root leaf short small bytes pl;
      is_key = is_name_key p.node.name p.right.name;
      lawful_key = record {
        short = omega (arith, key_same, short, name_no_longer p.node);
        right = no_fault_of_name p.node p.right bytes;
        role = no_parts_of_name p.node.name p.right.name;
        above = tt;
        below = tt;
      };
      lawful_rest = record {
        size = size;
        leads = subst (IsTreeNumber (fields_of planted).total) (sym leads)
            (number_now file planted d globals s p value root leaf short small bytes pl root
            (has_root file planted d globals s p value root leaf short small bytes pl));
      };
    }
