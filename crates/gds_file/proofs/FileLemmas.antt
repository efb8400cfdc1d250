-- A sound file stays sound where a tree changes, or comes or goes with its entry.
use Rattle.std.proofs.Common.{◌≡◌, ℕ, ◌+◌, List, [], ◌∷◌, ◌++◌, length, flat_map, sym, ap}
use Rattle.std.proofs.Common.{subst, ◌∙◌, arith}
use Rattle.gds_block.specs.Item.{Item}
use Rattle.gds_law.specs.Visit.{directory_root}
use Rattle.gds_law.proofs.MembershipLemmas.{IsIn, in_left, in_right}
use Rattle.gds_sound.specs.Sound.{Tree}
use Rattle.std.proofs.lemmas.Grind.{flat_map-append}
use Rattle.gds_sound.proofs.CountLemmas.{count, count_append}
use Rattle.gds_sound.proofs.PathLemmas.{distinct_from_counts}
use Rattle.gds_sound.proofs.SoundLemmas.{AreTrees, blocks_of}
use Rattle.gds_file.specs.FileLaws.{NoTreeChanges, GlobalChanges, DirectoryChanges, EntryComes}
use Rattle.gds_file.specs.FileLaws.{EntryGoes}
use Rattle.gds_file.proofs.FrameLemmas.{IsKeptIn, root_kept}
use Rattle.gds_file.proofs.SameLemmas.{trees_kept}
use Rattle.gds_file.proofs.ExchangeLemmas.{HasParts, stay_kept, sound_now}

-- ---- lists of trees in parts

-- the blocks of trees
abbrev pub blocks_in : List Tree → List ℕ
blocks_in trees = flat_map (λ tree. tree.blocks) trees

count_in : (n : ℕ) (xs ys : List Tree)
    → count n (blocks_in (xs ++ ys)) ≡ count n (blocks_in xs) + count n (blocks_in ys)
count_in n xs ys =
    ap (count n) (flat_map-append (λ (tree : Tree). tree.blocks) xs ys) ∙ count_append n (blocks_in xs) (blocks_in ys)

pub trees_split : (image : List ℕ) (xs ys : List Item) (ts us : List Tree) → length xs ≡ length ts
    → AreTrees image (xs ++ ys) (ts ++ us) → AreTrees image xs ts × AreTrees image ys us
trees_split image [] ys [] us e h = (tt, h)
trees_split image [] ys (t ∷ ts) us e h = absurd (omega arith)
trees_split image (x ∷ xs) ys [] us e h = absurd (omega arith)
trees_split image (x ∷ xs) ys (t ∷ ts) us e h =
    let rest = trees_split image xs ys ts us (omega arith) h.1 in
    ((h.0, rest.0), rest.1)

trees_join : (image : List ℕ) (xs ys : List Item) (ts us : List Tree) → AreTrees image xs ts → AreTrees image ys us
    → AreTrees image (xs ++ ys) (ts ++ us)
trees_join image [] ys [] us h k = k
trees_join image [] ys (t ∷ ts) us h k = absurd h
trees_join image (x ∷ xs) ys [] us h k = absurd h
trees_join image (x ∷ xs) ys (t ∷ ts) us h k = (h.0, trees_join image xs ys ts us h.1 k)

-- ---- the laws

pub no_tree_changes : NoTreeChanges
no_tree_changes before after directory globals s r lawful =
    let all : List ℕ = blocks_of directory globals in
    let parts : HasParts all [] all = record { counts = λ n. omega arith } in
    let keep = stay_kept before after directory globals s [] [] all parts r in
    sound_now before after directory globals s [] [] all parts r directory globals parts
    (distinct_from_counts [] (λ n. omega arith))
    (root_kept before after r.limits directory_root directory s.directory_tree
    (λ n i. keep n (in_left directory.blocks (blocks_in globals) n i)))
    (trees_kept before after r.limits directory.items globals s.global_trees
    (λ n i. keep n (in_right directory.blocks (blocks_in globals) n i)))
    lawful

pub directory_changes : DirectoryChanges
directory_changes before after old new globals s r stands items lawful =
    let parts : HasParts (blocks_of old globals) old.blocks (blocks_in globals) =
    record { counts = λ n. count_append n old.blocks (blocks_in globals) } in
    let now : HasParts (blocks_of new globals) new.blocks (blocks_in globals) =
    record { counts = λ n. count_append n new.blocks (blocks_in globals) } in
    let keep = stay_kept before after old globals s old.blocks new.blocks (blocks_in globals) parts r in
    sound_now before after old globals s old.blocks new.blocks (blocks_in globals) parts r new globals now
    stands.distinct stands.sound
    (subst (λ entries. AreTrees after entries globals) (sym items)
    (trees_kept before after r.limits old.items globals s.global_trees keep))
    lawful

-- the blocks of a directory and of the trees beside one place
abbrev pub beside : Tree → List Tree → List Tree → List ℕ
beside directory left right = directory.blocks ++ (blocks_in left ++ blocks_in right)

pub with_global : (directory tree : Tree) (left right : List Tree)
    → HasParts (blocks_of directory (left ++ tree ∷ right)) tree.blocks (beside directory left right)
with_global directory tree left right = record {
  counts = λ n. omega (
    arith,
    count_append n directory.blocks (blocks_in (left ++ tree ∷ right)),
    count_in n left (tree ∷ right),
    count_append n tree.blocks (blocks_in right),
    count_append n directory.blocks (blocks_in left ++ blocks_in right),
    count_append n (blocks_in left) (blocks_in right),
  );
}

pub global_changes : GlobalChanges
global_changes before after directory left right old new front back entry s items as_many r stands lawful =
    let stays : List ℕ = beside directory left right in
    let parts = with_global directory old left right in
    let keep = stay_kept before after directory (left ++ old ∷ right) s old.blocks new.blocks stays parts r in
    let zips = trees_split before front (entry ∷ back) left (old ∷ right) as_many
    (subst (λ entries. AreTrees before entries (left ++ old ∷ right)) items s.global_trees) in
    let others : (n : ℕ) → IsIn (blocks_in left ++ blocks_in right) n → IsKeptIn before after n =
    λ n i. keep n (in_right directory.blocks (blocks_in left ++ blocks_in right) n i) in
    let left_trees = trees_kept before after r.limits front left zips.0
    (λ n i. others n (in_left (blocks_in left) (blocks_in right) n i)) in
    let right_trees = trees_kept before after r.limits back right zips.1.1
    (λ n i. others n (in_right (blocks_in left) (blocks_in right) n i)) in
    sound_now before after directory (left ++ old ∷ right) s old.blocks new.blocks stays parts r directory
    (left ++ new ∷ right) (with_global directory new left right) stands.distinct
    (root_kept before after r.limits directory_root directory s.directory_tree
    (λ n i. keep n (in_left directory.blocks (blocks_in left ++ blocks_in right) n i)))
    (subst (λ entries. AreTrees after entries (left ++ new ∷ right)) (sym items)
    (trees_join after front (entry ∷ back) left (new ∷ right) left_trees (stands.sound, right_trees)))
    lawful

-- the blocks of the directory, with or without those of one tree more
plain_parts : (directory : Tree) (left right : List Tree)
    → HasParts (blocks_of directory (left ++ right)) directory.blocks (blocks_in left ++ blocks_in right)
plain_parts directory left right = record {
  counts = λ n. omega (
    arith,
    count_append n directory.blocks (blocks_in (left ++ right)),
    count_in n left right,
    count_append n (blocks_in left) (blocks_in right),
  );
}

more_parts : (directory tree : Tree) (left right : List Tree)
    → HasParts (blocks_of directory (left ++ tree ∷ right)) (directory.blocks ++ tree.blocks)
    (blocks_in left ++ blocks_in right)
more_parts directory tree left right = record {
  counts = λ n. omega (
    arith,
    count_append n directory.blocks (blocks_in (left ++ tree ∷ right)),
    count_in n left (tree ∷ right),
    count_append n tree.blocks (blocks_in right),
    count_append n directory.blocks tree.blocks,
    count_append n (blocks_in left) (blocks_in right),
  );
}

pub entry_comes : EntryComes
entry_comes before after old new tree left right front back entry s items as_many items' r stands stands' once lawful =
    let stays : List ℕ = blocks_in left ++ blocks_in right in
    let taken : List ℕ = new.blocks ++ tree.blocks in
    let parts = plain_parts old left right in
    let keep = stay_kept before after old (left ++ right) s old.blocks taken stays parts r in
    let zips = trees_split before front back left right as_many
    (subst (λ entries. AreTrees before entries (left ++ right)) items s.global_trees) in
    let left_trees = trees_kept before after r.limits front left zips.0
    (λ n i. keep n (in_left (blocks_in left) (blocks_in right) n i)) in
    let right_trees = trees_kept before after r.limits back right zips.1
    (λ n i. keep n (in_right (blocks_in left) (blocks_in right) n i)) in
    sound_now before after old (left ++ right) s old.blocks taken stays parts r new (left ++ tree ∷ right)
    (more_parts new tree left right) once stands
    (subst (λ entries. AreTrees after entries (left ++ tree ∷ right)) (sym items')
    (trees_join after front (entry ∷ back) left (tree ∷ right) left_trees (stands', right_trees)))
    lawful

pub entry_goes : EntryGoes
entry_goes before after old new tree left right front back entry s items as_many items' r stands lawful =
    let stays : List ℕ = blocks_in left ++ blocks_in right in
    let given : List ℕ = old.blocks ++ tree.blocks in
    let parts = more_parts old tree left right in
    let keep = stay_kept before after old (left ++ tree ∷ right) s given new.blocks stays parts r in
    let zips = trees_split before front (entry ∷ back) left (tree ∷ right) as_many
    (subst (λ entries. AreTrees before entries (left ++ tree ∷ right)) items s.global_trees) in
    let left_trees = trees_kept before after r.limits front left zips.0
    (λ n i. keep n (in_left (blocks_in left) (blocks_in right) n i)) in
    let right_trees = trees_kept before after r.limits back right zips.1.1
    (λ n i. keep n (in_right (blocks_in left) (blocks_in right) n i)) in
    sound_now before after old (left ++ tree ∷ right) s given new.blocks stays parts r new (left ++ right)
    (plain_parts new left right) stands.distinct stands.sound
    (subst (λ entries. AreTrees after entries (left ++ right)) (sym items')
    (trees_join after front back left right left_trees right_trees))
    lawful
