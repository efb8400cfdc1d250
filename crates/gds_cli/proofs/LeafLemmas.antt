-- Laws of leaves and of thin files: one list of nodes at most, which rises, and one map at most.
use Rattle.std.proofs.Common.{ℕ, ◌≡◌, Bool, true, false, ◌&&◌, T, List, [], ◌∷◌, ◌++◌, refl, sym, ◌∙◌, ap}
use Rattle.std.proofs.Common.{ap₂, subst, flat_map, is_lt, nat_cmp, Ordering, Less, Equal, Greater}
use Rattle.std.specs.Ordering.{ordering_then}
use Rattle.std.specs.List.{AllByRecursion, AllZip}
use Rattle.std.specs.Cmp.Lexicographic.{slice_cmp}
use Rattle.std.specs.FinMap.{entries, from_sorted, entries-from_sorted, same_entries_map}
use Rattle.std.specs.FinMap.Entries.{is_sorted, below_all}
use Rattle.std.proofs.lemmas.Cmp.{nat_list_cmp_total}
use Rattle.m_key.specs.Node.{Node}
use Rattle.m_key.specs.Key.{key_bytes}
use Rattle.m_key.specs.Collation.{subscript_cmp, reference_cmp}
use Rattle.m_key.specs.Globals.{Globals, Place, place_cmp}
use Rattle.m_key.proofs.KeyLemmas.{order}
use Rattle.m_key.proofs.NumberLemmas.{numbers}
use Rattle.m_number.proofs.OrderingLemmas.{Less-is_lt}
use Rattle.gds_block.specs.Record.{Record, records_of}
use Rattle.gds_header.specs.declared.header.Header.{Header}
use Rattle.gds_cli.specs.Thin.{Valued, AreRecordsOf, IsLeaf, IsGlobal, IsThin, IsThinWith}
use Rattle.gds_cli.proofs.LeafReadingLemmas.{one_record}

-- ---- one list of nodes

one_list : (h : Header) (key : List ℕ) (rs : List Record) (vs ws : List Valued) → AreRecordsOf h key rs vs
    → AreRecordsOf h key rs ws → vs ≡ ws
one_list h key [] [] [] a b = refl
one_list h key [] [] (w ∷ ws) a b = absurd b
one_list h key [] (v ∷ vs) ws a b = absurd a
one_list h key (r ∷ rs) [] ws a b = absurd a
one_list h key (r ∷ rs) (v ∷ vs) [] a b = absurd b
one_list h key (r ∷ rs) (v ∷ vs) (w ∷ ws) (a, more) (b, others) =
    let same = one_record h key r v w a b in
    let rest =
    one_list h (key_bytes v.0.node) rs vs ws more
    (subst (λ (u : Valued). AreRecordsOf h (key_bytes u.0.node) rs ws) (sym same) others) in
    λ i. same i ∷ rest i

-- a block is a leaf with one list of nodes at most
pub one_leaf : (h : Header) (block : List ℕ) (vs ws : List Valued) → IsLeaf h block vs → IsLeaf h block ws → vs ≡ ws
one_leaf h block vs ws a b = one_list h [] (records_of block) vs ws a.records b.records

-- ---- lists that rise

-- each node is below those behind it
abbrev pub Rises : List Valued → Type 0
Rises [] = Unit {0}
Rises (v ∷ vs) = AllByRecursion (λ w. place_cmp v.0 w.0 ≡ Less) vs × Rises vs

both : (a b : Bool) → T a → T b → T (a && b)
both true b p q = q
both false b p q = p

parts : (a b : Bool) → T (a && b) → T a × T b
parts true b p = (tt, p)
parts false b p = absurd p

less_test : (o : Ordering) → o ≡ Less → T (is_lt o)
less_test o e = subst (λ (x : Ordering). T (is_lt x)) (sym e) tt

tested_less : (o : Ordering) → T (is_lt o) → o ≡ Less
tested_less Less p = refl
tested_less Equal p = absurd p
tested_less Greater p = absurd p

below_from : (p : Place) (vs : List Valued) → AllByRecursion (λ w. place_cmp p w.0 ≡ Less) vs
    → T (below_all place_cmp p vs)
below_from p [] h = tt
below_from p (w ∷ ws) h = both _ _ (less_test (place_cmp p w.0) h.0) (below_from p ws h.1)

from_below : (p : Place) (vs : List Valued) → T (below_all place_cmp p vs)
    → AllByRecursion (λ w. place_cmp p w.0 ≡ Less) vs
from_below p [] h = tt
from_below p (w ∷ ws) h = let q = parts _ _ h in (tested_less (place_cmp p w.0) q.0, from_below p ws q.1)

pub is_sorted-Rises : (vs : List Valued) → Rises vs → T (is_sorted place_cmp vs)
is_sorted-Rises [] h = tt
is_sorted-Rises (v ∷ vs) h = both _ _ (below_from v.0 vs h.0) (is_sorted-Rises vs h.1)

pub Rises-is_sorted : (vs : List Valued) → T (is_sorted place_cmp vs) → Rises vs
Rises-is_sorted [] h = tt
Rises-is_sorted (v ∷ vs) h = let q = parts _ _ h in (from_below v.0 vs q.0, Rises-is_sorted vs q.1)

-- what holds of each holds of each in a weaker form, and of two lists one behind the other
weaker : (P Q : Valued → Type 0) (vs : List Valued) → ((v : Valued) → P v → Q v) → AllByRecursion P vs
    → AllByRecursion Q vs
weaker P Q [] f h = tt
weaker P Q (v ∷ vs) f h = (f v h.0, weaker P Q vs f h.1)

all-append : (P : Valued → Type 0) (vs ws : List Valued) → AllByRecursion P vs → AllByRecursion P ws
    → AllByRecursion P (vs ++ ws)
all-append P [] ws h g = g
all-append P (v ∷ vs) ws h g = (h.0, all-append P vs ws h.1 g)

pub Rises-append : (vs ws : List Valued) → Rises vs → Rises ws
    → AllByRecursion (λ v. AllByRecursion (λ w. place_cmp v.0 w.0 ≡ Less) ws) vs → Rises (vs ++ ws)
Rises-append [] ws h g below = g
Rises-append (v ∷ vs) ws h g below =
    (all-append (λ w. place_cmp v.0 w.0 ≡ Less) vs ws h.0 below.0, Rises-append vs ws h.1 g below.1)

-- ---- the nodes of a leaf

in_order : (p q : Place) → slice_cmp nat_cmp (key_bytes p.node) (key_bytes q.node) ≡ Less → place_cmp p q ≡ Less
in_order p q h = sym (order numbers p.node q.node p.right q.right) ∙ h

-- the keys of nodes behind a key are above it
keys_above : (h : Header) (key : List ℕ) (rs : List Record) (vs : List Valued) → AreRecordsOf h key rs vs
    → AllByRecursion (λ w. slice_cmp nat_cmp key (key_bytes w.0.node) ≡ Less) vs
keys_above h key [] [] a = tt
keys_above h key [] (v ∷ vs) a = absurd a
keys_above h key (r ∷ rs) [] a = absurd a
keys_above h key (r ∷ rs) (v ∷ vs) (a, more) =
    let own = key_bytes v.0.node in
    let first = Less-is_lt (slice_cmp nat_cmp key own) a.above in (
      first,
      weaker (λ w. slice_cmp nat_cmp own (key_bytes w.0.node) ≡ Less)
          (λ w. slice_cmp nat_cmp key (key_bytes w.0.node) ≡ Less) vs
          (λ w less. nat_list_cmp_total.trans key own (key_bytes w.0.node) first less) (keys_above h own rs vs more),
    )

list_rises : (h : Header) (key : List ℕ) (rs : List Record) (vs : List Valued) → AreRecordsOf h key rs vs → Rises vs
list_rises h key [] [] a = tt
list_rises h key [] (v ∷ vs) a = absurd a
list_rises h key (r ∷ rs) [] a = absurd a
list_rises h key (r ∷ rs) (v ∷ vs) (a, more) =
    let own = key_bytes v.0.node in (
      weaker (λ w. slice_cmp nat_cmp own (key_bytes w.0.node) ≡ Less) (λ w. place_cmp v.0 w.0 ≡ Less) vs
          (λ w less. in_order v.0 w.0 less) (keys_above h own rs vs more),
      list_rises h own rs vs more,
    )

pub leaf_rises : (h : Header) (block : List ℕ) (vs : List Valued) → IsLeaf h block vs → Rises vs
leaf_rises h block vs leaf = list_rises h [] (records_of block) vs leaf.records

-- a leaf's nodes stand in their order
pub leaf_sorted : (h : Header) (block : List ℕ) (vs : List Valued) → IsLeaf h block vs → T (is_sorted place_cmp vs)
leaf_sorted h block vs leaf = is_sorted-Rises vs (leaf_rises h block vs leaf)

-- ---- names

by_name : (a b : Node) → slice_cmp nat_cmp a.name b.name ≡ Less → reference_cmp a b ≡ Less
unfolding reference_cmp
by_name a b h = ap (λ o. ordering_then o (slice_cmp subscript_cmp a.subscripts b.subscripts)) h

first_decides : (o : Ordering) → ordering_then o Equal ≡ Less → o ≡ Less
first_decides Less h = refl
first_decides Equal h = h
first_decides Greater h = h

-- nodes with no subscripts are in the order of their names
name_of_less : (a b : Node) → a.subscripts ≡ [] → b.subscripts ≡ [] → reference_cmp a b ≡ Less
    → slice_cmp nat_cmp a.name b.name ≡ Less
unfolding reference_cmp
name_of_less a b p q h =
    let none : slice_cmp subscript_cmp a.subscripts b.subscripts ≡ Equal = ap₂ (slice_cmp subscript_cmp) p q in
    first_decides (slice_cmp nat_cmp a.name b.name)
    (ap (ordering_then (slice_cmp nat_cmp a.name b.name)) (sym none) ∙ h)

-- nodes of a name before nodes of names above it
across : (a : List ℕ) (vs ws : List Valued) → AllByRecursion (λ v. v.0.node.name ≡ a) vs
    → AllByRecursion (λ w. slice_cmp nat_cmp a w.0.node.name ≡ Less) ws
    → AllByRecursion (λ v. AllByRecursion (λ w. place_cmp v.0 w.0 ≡ Less) ws) vs
across a vs ws named above =
    weaker (λ v. v.0.node.name ≡ a) (λ v. AllByRecursion (λ w. place_cmp v.0 w.0 ≡ Less) ws) vs
    (λ v e. weaker (λ w. slice_cmp nat_cmp a w.0.node.name ≡ Less) (λ w. place_cmp v.0 w.0 ≡ Less) ws
    (λ w less. by_name v.0.node w.0.node (ap (λ n. slice_cmp nat_cmp n w.0.node.name) e ∙ less)) above)
    named

-- two lists in order, of a name each, the first below the second
pub named_sorted : (a b : List ℕ) (vs ws : List Valued) → slice_cmp nat_cmp a b ≡ Less
    → AllByRecursion (λ v. v.0.node.name ≡ a) vs → AllByRecursion (λ w. w.0.node.name ≡ b) ws
    → T (is_sorted place_cmp vs) → T (is_sorted place_cmp ws) → T (is_sorted place_cmp (vs ++ ws))
named_sorted a b vs ws less first second p q =
    let above =
    weaker (λ w. w.0.node.name ≡ b) (λ w. slice_cmp nat_cmp a w.0.node.name ≡ Less) ws
    (λ w e. ap (slice_cmp nat_cmp a) e ∙ less) second in
    is_sorted-Rises (vs ++ ws)
    (Rises-append vs ws (Rises-is_sorted vs p) (Rises-is_sorted ws q) (across a vs ws first above))

-- ---- thin files

abbrev joined : List (List Valued) → List Valued
joined globals = flat_map (λ vs. vs) globals

-- the nodes of the globals behind an entry have names above its
names_above : (d : List ℕ) (e : Valued) (directory : List Valued) (globals : List (List Valued))
    → e.0.node.subscripts ≡ [] → AllByRecursion (λ f. place_cmp e.0 f.0 ≡ Less) directory
    → AllZip (IsGlobal d) directory globals
    → AllByRecursion (λ w. slice_cmp nat_cmp e.0.node.name w.0.node.name ≡ Less) (joined globals)
names_above d e [] [] none below each = tt
names_above d e [] (vs ∷ globals) none below each = absurd each
names_above d e (f ∷ directory) [] none below each = absurd each
names_above d e (f ∷ directory) (vs ∷ globals) none below (global, each) =
    let less = name_of_less e.0.node f.0.node none global.name below.0 in
    all-append (λ w. slice_cmp nat_cmp e.0.node.name w.0.node.name ≡ Less) vs (joined globals)
    (weaker (λ w. w.0.node.name ≡ f.0.node.name) (λ w. slice_cmp nat_cmp e.0.node.name w.0.node.name ≡ Less) vs
    (λ w same. ap (slice_cmp nat_cmp e.0.node.name) same ∙ less) global.named)
    (names_above d e directory globals none below.1 each)

globals_rise : (d : List ℕ) (directory : List Valued) (globals : List (List Valued)) → Rises directory
    → AllZip (IsGlobal d) directory globals → Rises (joined globals)
globals_rise d [] [] rises each = tt
globals_rise d [] (vs ∷ globals) rises each = absurd each
globals_rise d (e ∷ directory) [] rises each = absurd each
globals_rise d (e ∷ directory) (vs ∷ globals) rises (global, each) =
    Rises-append vs (joined globals) (leaf_rises _ _ vs global.leaf) (globals_rise d directory globals rises.1 each)
    (across e.0.node.name vs (joined globals) global.named (names_above d e directory globals global.name rises.0 each))

-- the nodes of all globals stand in their order
pub thin_sorted : (d b : List ℕ) (directory : List Valued) (globals : List (List Valued)) → IsThin d b directory globals
    → T (is_sorted place_cmp (flat_map (λ vs. vs) globals))
thin_sorted d b directory globals thin =
    is_sorted-Rises (joined globals) (globals_rise d directory globals (leaf_rises _ _ directory thin.leaf) thin.each)

-- so they are the entries of a map
pub thin_entries : (d b : List ℕ) (directory : List Valued) (globals : List (List Valued))
    → IsThin d b directory globals
    → entries (from_sorted {R = place_cmp} (flat_map (λ vs. vs) globals)) ≡ flat_map (λ vs. vs) globals
thin_entries d b directory globals thin =
    entries-from_sorted place_cmp (joined globals) (thin_sorted d b directory globals thin)

pub thin_with : (d b : List ℕ) (directory : List Valued) (globals : List (List Valued)) → IsThin d b directory globals
    → IsThinWith d b (from_sorted (flat_map (λ vs. vs) globals))
thin_with d b directory globals thin = record {
  directory = directory;
  globals = globals;
  thin = thin;
  pairs = thin_entries d b directory globals thin;
}

one_globals : (d : List ℕ) (directory : List Valued) (gs hs : List (List Valued)) → AllZip (IsGlobal d) directory gs
    → AllZip (IsGlobal d) directory hs → gs ≡ hs
one_globals d [] [] [] a b = refl
one_globals d [] [] (ws ∷ hs) a b = absurd b
one_globals d [] (vs ∷ gs) hs a b = absurd a
one_globals d (e ∷ directory) [] hs a b = absurd a
one_globals d (e ∷ directory) (vs ∷ gs) [] a b = absurd b
one_globals d (e ∷ directory) (vs ∷ gs) (ws ∷ hs) (a, more) (b, others) =
    let same = one_leaf _ _ vs ws a.leaf b.leaf in
    let rest = one_globals d directory gs hs more others in
    λ i. same i ∷ rest i

-- two files stand for one map at most
pub one_map : (d b : List ℕ) (m n : Globals) → IsThinWith d b m → IsThinWith d b n → m ≡ n
one_map d b m n p q =
    let directory = one_leaf _ _ p.directory q.directory p.thin.leaf q.thin.leaf in
    let each = subst (λ (es : List Valued). AllZip (IsGlobal d) es q.globals) (sym directory) q.thin.each in
    let globals = one_globals d p.directory p.globals q.globals p.thin.each each in
    same_entries_map m n (p.pairs ∙ ap joined globals ∙ sym q.pairs)
