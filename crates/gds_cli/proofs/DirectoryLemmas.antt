-- The directory of a file whose header is known, and the trees that it leads to.
use Rattle.std.proofs.Common.{◌≡◌, ℕ, zero, suc, ◌+◌, ◌<◌, ◌≤◌, List, [], ◌∷◌, ◌++◌, length, take, get_or, map}
use Rattle.std.proofs.Common.{flat_map, IsTrue, eqb, refl, sym, ap, subst, ◌∙◌, arith}
use Rattle.std.specs.List.{AllByRecursion, AllZip, IsDistinct}
use Rattle.std.proofs.lemmas.Bool.Decides.{nat_tests}
use Rattle.std.proofs.lemmas.List.{take_more, map-append}
use Rattle.m_key.proofs.FillLemmas.{flat_map_map}
use Rattle.gds_header.specs.declared.header.Header.{Header}
use Rattle.gds_header.specs.Fields.{block_of}
use Rattle.gds_cli.specs.Thin.{Valued, is_block_number, is_star_block, star_child, IsLeaf, IsGlobal, IsThin, root_of}
use Rattle.gds_cli.specs.Thin.{leaf_of, blocks_of}
use Rattle.gds_cli.specs.SoundHeader.{IsHeaderOf}
use Rattle.gds_cli.specs.Directory.{IsEntry, IsNodeOf, AreNodesOf, LeadsTo, AreTrees, AreLeaves, thin_tree_at}
use Rattle.gds_cli.specs.Directory.{blocks_in}
use Rattle.gds_cli.specs.Leaf.{IsLeafAt}
use Rattle.gds_cli.specs.declared.thin.directory.ThinTree.{ThinTree}
use Rattle.gds_cli.proofs.LeafLemmas.{one_leaf}
use Rattle.gds_cli.proofs.BlockLemmas.{child_within}

pub number_within : (h : Header) (n : ℕ) → IsTrue (is_block_number h n) → n < h.total
number_within h n is = grind (arith, nat_tests)

-- ---- what holds of each item

pub all_push : {X : Type 0} (P : X → Type 0) (xs : List X) (x : X) → AllByRecursion P xs → P x
    → AllByRecursion P (xs ++ x ∷ [])
all_push P [] x all here = (here, tt)
all_push P (y ∷ ys) x all here = (all.0, all_push P ys x all.1 here)

pub all_at : {X : Type 0} (P : X → Type 0) (xs : List X) (i : ℕ) (d : X) → AllByRecursion P xs → i < length xs
    → P (get_or xs i d)
all_at P [] i d all within = absurd (omega arith)
all_at P (x ∷ xs) zero d all within = all.0
all_at P (x ∷ xs) (suc i) d all within = all_at P xs i d all.1 (omega arith)

zip_push : {A B : Type 0} (R : A → B → Type 0) (xs : List A) (ys : List B) (x : A) (y : B) → AllZip R xs ys → R x y
    → AllZip R (xs ++ x ∷ []) (ys ++ y ∷ [])
zip_push R [] [] x y all here = (here, tt)
zip_push R [] (z ∷ zs) x y all here = absurd all
zip_push R (z ∷ zs) [] x y all here = absurd all
zip_push R (z ∷ zs) (w ∷ ws) x y all here = (all.0, zip_push R zs ws x y all.1 here)

pub map_more : {X Y : Type 0} (f : X → Y) (xs : List X) (i : ℕ) (x : X) → i < length xs → x ≡ get_or xs i x
    → map f (take (i + 1) xs) ≡ map f (take i xs) ++ f x ∷ []
map_more f xs i x within is =
    ap (map f) (take_more xs i x within ∙ ap (λ y. take i xs ++ y ∷ []) (sym is)) ∙ map-append f (take i xs) (x ∷ [])

-- ---- the nodes of a global

parts_of : (h : Header) (name : List ℕ) (vs : List Valued) → AllByRecursion (IsNodeOf h name) vs
    → AllByRecursion (λ v. v.0.node.name ≡ name) vs × AllByRecursion (λ v. length v.1 ≤ h.value_max) vs
parts_of h name [] all = (tt, tt)
parts_of h name (v ∷ vs) all = let rest = parts_of h name vs all.1 in ((all.0.named, rest.0), (all.0.short, rest.1))

of_parts : (h : Header) (name : List ℕ) (vs : List Valued) → AllByRecursion (λ v. v.0.node.name ≡ name) vs
    → AllByRecursion (λ v. length v.1 ≤ h.value_max) vs → AllByRecursion (IsNodeOf h name) vs
of_parts h name [] named short = tt
of_parts h name (v ∷ vs) named short = (record { named = named.0; short = short.0 }, of_parts h name vs named.1 short.1)

-- ---- the global of an entry, seen by the header and by the file

module _ (h : Header) (d : List ℕ) (entry : Valued) (root leaf : ℕ) (block : List ℕ) (head : IsHeaderOf h d)
    (is_root : root ≡ root_of entry) where
  pub global_star : (vs : List Valued) → IsGlobal d entry vs → IsTrue (is_star_block h (block_of d root))
  global_star vs global =
      subst (λ n. IsTrue (is_star_block h (block_of d n))) (sym is_root)
      (subst (λ k. IsTrue (is_star_block k (block_of d (root_of entry)))) head.fields global.star)

  pub global_entry : (vs : List Valued) → IsGlobal d entry vs → IsEntry h entry
  global_entry vs global = record {
    name = global.name;
    pointer = global.pointer;
    root = subst (λ k. IsTrue (is_block_number k (root_of entry))) head.fields global.root;
  }

  is_leaf : LeadsTo h d root leaf block → leaf ≡ leaf_of d entry
  is_leaf lead = lead.number_is ∙ ap (λ n. star_child (block_of d n)) is_root

  pub is_tree : LeadsTo h d root leaf block → record { root = root; leaf = leaf } ≡ thin_tree_at d entry
  is_tree lead = let l = is_leaf lead in λ i. record { root = is_root i; leaf = l i }

  leaf_bytes : LeadsTo h d root leaf block → block ≡ block_of d (leaf_of d entry)
  leaf_bytes lead = lead.bytes ∙ ap (block_of d) (is_leaf lead)

  pub global_of : (vs : List Valued) → IsEntry h entry → LeadsTo h d root leaf block → IsLeaf h block vs
      → AreNodesOf h entry.0.node.name vs → IsGlobal d entry vs
  global_of vs e lead has nodes =
      let parts = parts_of h entry.0.node.name vs nodes.each in
      record {
        name = e.name;
        pointer = e.pointer;
        root = subst (λ k. IsTrue (is_block_number k (root_of entry))) (sym head.fields) e.root;
        star = subst (λ k. IsTrue (is_star_block k (block_of d (root_of entry)))) (sym head.fields)
            (subst (λ n. IsTrue (is_star_block h (block_of d n))) is_root lead.star);
        leaf =
            subst (λ k. IsLeaf k (block_of d (leaf_of d entry)) vs) (sym head.fields)
            (subst (λ b. IsLeaf h b vs) (leaf_bytes lead) has);
        some = nodes.some;
        named = parts.0;
        short = subst (λ k. AllByRecursion (λ v. length v.1 ≤ k.value_max) vs) (sym head.fields) parts.1;
      }

  pub global_leaf : (vs : List Valued) → LeadsTo h d root leaf block → IsGlobal d entry vs → IsLeaf h block vs
  global_leaf vs lead global =
      subst (λ b. IsLeaf h b vs) (sym (leaf_bytes lead))
      (subst (λ k. IsLeaf k (block_of d (leaf_of d entry)) vs) head.fields global.leaf)

  -- a leaf that was read has other nodes than those of a global
  pub no_global : (vs ws : List Valued) → LeadsTo h d root leaf block → IsLeaf h block ws
      → (AreNodesOf h entry.0.node.name ws → ⊥) → IsGlobal d entry vs → ⊥
  no_global vs ws lead has none global =
      let same : vs ≡ ws = one_leaf h block vs ws (global_leaf vs lead global) has in
      none (subst (AreNodesOf h entry.0.node.name) same (record {
        some = global.some;
        each =
            of_parts h entry.0.node.name vs global.named
            (subst (λ k. AllByRecursion (λ v. length v.1 ≤ k.value_max) vs) head.fields global.short);
      }))

-- ---- the trees of a directory

pub trees_none : (d : List ℕ) → AreTrees d [] []
trees_none d = record { globals = []; each = tt; blocks = refl }

pub trees_more : (d : List ℕ) (es fs : List Valued) (ts us : List ThinTree) (e : Valued) (t : ThinTree)
    (vs : List Valued) → AreTrees d es ts → fs ≡ es ++ e ∷ [] → us ≡ ts ++ t ∷ [] → t ≡ thin_tree_at d e
    → IsGlobal d e vs → AreTrees d fs us
trees_more d es fs ts us e t vs before more pushed is global = record {
  globals = before.globals ++ vs ∷ [];
  each =
      subst (λ (xs : List Valued). AllZip (IsGlobal d) xs (before.globals ++ vs ∷ [])) (sym more)
      (zip_push (IsGlobal d) es before.globals e vs before.each global);
  blocks = pushed ∙ ap (λ xs. xs ++ t ∷ []) before.blocks ∙ ap (λ x. map (thin_tree_at d) es ++ x ∷ []) is
      ∙ sym (map-append (thin_tree_at d) es (e ∷ [])) ∙ ap (map (thin_tree_at d)) (sym more);
}

-- ---- the leaf of the directory

pub top_leaf : (h : Header) (d b : List ℕ) (number : ℕ) (block : List ℕ) (directory : List Valued)
    (globals : List (List Valued)) → IsHeaderOf h d → LeadsTo h d 1 number block → IsThin d b directory globals
    → IsLeaf h block directory
top_leaf h d b number block directory globals head lead thin =
    subst (λ x. IsLeaf h x directory) (sym (lead.bytes ∙ ap (block_of d) lead.number_is))
    (subst (λ k. IsLeaf k (block_of d (star_child (block_of d 1))) directory) head.fields thin.leaf)

pub top_star : (h : Header) (d b : List ℕ) (directory : List Valued) (globals : List (List Valued)) → IsHeaderOf h d
    → IsThin d b directory globals → IsTrue (is_star_block h (block_of d 1))
top_star h d b directory globals head thin = subst (λ k. IsTrue (is_star_block k (block_of d 1))) head.fields thin.star

blocks_same : (d : List ℕ) (number : ℕ) (es : List Valued) (ts : List ThinTree) → number ≡ star_child (block_of d 1)
    → ts ≡ map (thin_tree_at d) es → blocks_in number ts ≡ blocks_of d es
blocks_same d number es ts is trees =
    let tail =
    ap (flat_map (λ (t : ThinTree). t.root ∷ t.leaf ∷ [])) trees
    ∙ flat_map_map (λ (t : ThinTree). t.root ∷ t.leaf ∷ []) (thin_tree_at d) es in
    λ i. 1 ∷ is i ∷ tail i

leaves_same : (d : List ℕ) (es : List Valued)
    → map (λ (t : ThinTree). t.leaf) (map (thin_tree_at d) es) ≡ map (leaf_of d) es
leaves_same d [] = refl
leaves_same d (e ∷ es) = ap (λ xs. leaf_of d e ∷ xs) (leaves_same d es)

pub leaves_found : (h : Header) (d : List ℕ) (number : ℕ) (block : List ℕ) (entries : List Valued)
    (trees : List ThinTree) (leaves : List ℕ) → IsHeaderOf h d → LeadsTo h d 1 number block → IsLeaf h block entries
    → AreTrees d entries trees → IsDistinct eqb (blocks_in number trees) → leaves ≡ map (λ (t : ThinTree). t.leaf) trees
    → AreLeaves d leaves
leaves_found h d number block entries trees leaves head lead leaf found distinct numbers = record {
  directory = entries;
  globals = found.globals;
  star = subst (λ k. IsTrue (is_star_block k (block_of d 1))) (sym head.fields) lead.star;
  leaf = subst (λ k. IsLeaf k (block_of d (star_child (block_of d 1))) entries) (sym head.fields)
      (subst (λ x. IsLeaf h x entries) (lead.bytes ∙ ap (block_of d) lead.number_is) leaf);
  each = found.each;
  distinct = subst (IsDistinct eqb) (blocks_same d number entries trees lead.number_is found.blocks) distinct;
  numbers = numbers ∙ ap (map (λ (t : ThinTree). t.leaf)) found.blocks ∙ leaves_same d entries;
}

-- blocks with two uses are no thin files'
pub not_distinct : (h : Header) (d b : List ℕ) (number : ℕ) (block : List ℕ) (entries directory : List Valued)
    (globals : List (List Valued)) (trees : List ThinTree) → IsHeaderOf h d → LeadsTo h d 1 number block
    → IsLeaf h block entries → AreTrees d entries trees → (IsDistinct eqb (blocks_in number trees) → ⊥)
    → IsThin d b directory globals → ⊥
not_distinct h d b number block entries directory globals trees head lead leaf found twice thin =
    let same : directory ≡ entries =
    one_leaf h block directory entries (top_leaf h d b number block directory globals head lead thin) leaf in
    twice
    (subst (IsDistinct eqb)
    (ap (blocks_of d) same ∙ sym (blocks_same d number entries trees lead.number_is found.blocks)) thin.distinct)

-- entries of which one leads to no global are no thin files'
pub no_trees : (h : Header) (d b : List ℕ) (number : ℕ) (block : List ℕ) (entries directory : List Valued)
    (globals : List (List Valued)) → IsHeaderOf h d → LeadsTo h d 1 number block → IsLeaf h block entries
    → ((gs : List (List Valued)) → AllZip (IsGlobal d) entries gs → ⊥) → IsThin d b directory globals → ⊥
no_trees h d b number block entries directory globals head lead leaf none thin =
    let same : directory ≡ entries =
    one_leaf h block directory entries (top_leaf h d b number block directory globals head lead thin) leaf in
    none globals (subst (λ (xs : List Valued). AllZip (IsGlobal d) xs globals) same thin.each)

-- each leaf, by its number, is that of its global
pub leaves_at : (h : Header) (d : List ℕ) (es : List Valued) (gs : List (List Valued)) → IsHeaderOf h d
    → AllZip (IsGlobal d) es gs → AllZip (IsLeafAt h d) (map (leaf_of d) es) gs
leaves_at h d [] [] head all = tt
leaves_at h d [] (g ∷ gs) head all = absurd all
leaves_at h d (e ∷ es) [] head all = absurd all
leaves_at h d (e ∷ es) (g ∷ gs) head all = (
  record {
    within =
        child_within h (block_of d (root_of e))
        (subst (λ k. IsTrue (is_star_block k (block_of d (root_of e)))) head.fields all.0.star);
    leaf = subst (λ k. IsLeaf k (block_of d (leaf_of d e)) g) head.fields all.0.leaf;
  },
  leaves_at h d es gs head all.1,
)
