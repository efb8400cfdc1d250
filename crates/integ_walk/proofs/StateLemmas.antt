-- A step of a walk's state.
use Rattle.std.proofs.Common.{◌≡◌, ℕ, zero, suc, ◌+◌, ◌*◌, ◌/◌, ◌^◌, ◌<◌, ◌≤◌, ◌==◌, Bool, true, false, ◌||◌}
use Rattle.std.proofs.Common.{if◌then◌else◌, List, [], ◌∷◌, ◌++◌, length, map, Contains, inl, inr, refl, sym, ap}
use Rattle.std.proofs.Common.{subst, ◌∙◌, arith, append_assoc, length-append, mul-le-mul_right}
use Rattle.std.proofs.lemmas.Bool.{cases_eq, eq-eqb, ne_eqb, cond_both}
use Rattle.std.proofs.lemmas.List.{append-nil, length-map}
use Rattle.std.proofs.Math.Nat.{mul-le-mul_left}
use Rattle.gds_block.specs.Block.{level_of}
use Rattle.gds_header.specs.declared.header.Header.{Header}
use Rattle.gds_header.specs.Fields.{fields_of, block_of}
use Rattle.gds_header.specs.Kinds.{IsWithinLimits}
use Rattle.gds_law.specs.declared.fault.Fault.{Fault}
use Rattle.gds_law.specs.Visit.{Visit, Child, directory_root}
use Rattle.gds_law.specs.Block.{faults_of_block, children_of}
use Rattle.gds_law.specs.Path.{Steps, children_at, AreKept, AreReached}
use Rattle.gds_law.specs.Rank.{rank}
use Rattle.gds_law.specs.Sink.{IsCut}
use Rattle.gds_law.specs.Tree.{tree_faults, is_reached}
use Rattle.gds_law.proofs.MembershipLemmas.{IsIn, in_from_Contains, Contains-from_in, in_either}
use Rattle.gds_law.proofs.MembershipLemmas.{in_map_from}
use Rattle.gds_law.proofs.RankLemmas.{falls}
use Rattle.gds_law.proofs.SinkLemmas.{IsCut-behind, IsCut-front, IsCut-all}
use Rattle.integ_walk.specs.BlockSet.{has_block, free_below}
use Rattle.integ_walk.specs.Link.{Link, path_to, links_of, links_at, double_of}
use Rattle.integ_walk.specs.Progress.{HasCome}
use Rattle.integ_walk.specs.Walk.{IsHeaderOf}
use Rattle.integ_walk.specs.Walker.{State, IsSound, most_of_block, work_left, IsState, IsOn, entered, with_link}
use Rattle.integ_walk.proofs.ChildLemmas.{children_of_few, children_of_within, faults_few}
use Rattle.integ_walk.proofs.ProgressLemmas.{come_root, come_into, come_past, come_front, come_all}

-- ---- the set

abbrev IsWith : List ℕ → ℕ → List ℕ → Type 0
IsWith old block new = (b : ℕ) → has_block new b ≡ ((b == block) || has_block old b)

with_other : (old new : List ℕ) (block b : ℕ) → IsWith old block new → (b ≡ block → ⊥)
    → has_block new b ≡ has_block old b
with_other old new block b more n = more b ∙ ap (λ t. t || has_block old b) (ne_eqb b block n)

with_itself : (old new : List ℕ) (block : ℕ) → IsWith old block new → has_block new block ≡ true
with_itself old new block more = more block ∙ ap (λ t. t || has_block old block) (eq-eqb block block refl)

-- A block that is in the set changes nothing.
pub with_same : (old new : List ℕ) (block : ℕ) → IsWith old block new → has_block old block ≡ true → (b : ℕ)
    → has_block new b ≡ has_block old b
with_same old new block more there b =
    elim (cases_eq b block) [
      | inl e ↦ ap (has_block new) e ∙ with_itself old new block more ∙ sym there ∙ ap (has_block old) (sym e)
      | inr n ↦ with_other old new block b more n
    ]

same_free : (old new : List ℕ) (block n : ℕ) → IsWith old block new → n ≤ block → free_below new n ≡ free_below old n
unfolding free_below
same_free old new block zero more h = refl
same_free old new block (suc n) more h =
    let here = with_other old new block n more (λ e. omega (arith, e, h)) in
    λ i. same_free old new block n more (omega arith) i + (if here i then 0 else 1)

abbrev one_if : Bool → ℕ
one_if has = if has then 0 else 1

-- One block less is free.
pub free_less : (old new : List ℕ) (block n : ℕ) → IsWith old block new → has_block old block ≡ false → block < n
    → free_below old n ≡ free_below new n + 1
unfolding free_below
free_less old new block zero more free h = absurd (omega arith)
free_less old new block (suc n) more free h =
    elim (cases_eq n block) [
      | inl e ↦
          let was : has_block old n ≡ false = ap (has_block old) e ∙ free in
          let is : has_block new n ≡ true = ap (has_block new) e ∙ with_itself old new block more in
          let rest = same_free old new block n more (omega (arith, e)) in
          omega (arith, rest, ap one_if was, ap one_if is)
      | inr other ↦
          let here = with_other old new block n more other in
          omega (arith, free_less old new block n more free (omega (arith, other)), ap one_if here)
    ]

-- ---- the bounds

add_mul : (a m : ℕ) → (a + 1) * m ≡ a * m + m
add_mul a m = omega arith

less_work : (free more most n k links count whole : ℕ) → free ≡ more + 1 → n + k + 1 ≤ most
    → count + (free * most + links) ≤ whole
    → (count + n + (more * most + (k + links)) ≤ whole) × (more * most + (k + links) < free * most + links)
less_work free more most n k links count whole e few h =
    let step : free * most ≡ more * most + most = ap (λ f. f * most) e ∙ add_mul more most in
    (omega (arith, step, few, h), omega (arith, step, few))

-- What is counted fits in 64 bits.
pub fits : (s : State) → IsState s → s.count + work_left s < 2 ^ 42
fits s h =
    let most : most_of_block s.header ≤ 1495561 = omega (arith, h.limits.block_to) in
    let first : s.header.total * most_of_block s.header ≤ s.header.total * 1495561 =
    mul-le-mul_left s.header.total most in
    omega (arith, first, h.few, h.limits.total_to, h.limits.limit_to)

few_free : (bytes : List ℕ) (n : ℕ) → free_below bytes n ≤ n
unfolding free_below
few_free bytes zero = omega arith
few_free bytes (suc n) =
    cond_both (has_block bytes n) 0 1 (λ k. free_below bytes n
    + k ≤ suc n) (λ _. omega (arith, few_free bytes n)) (λ _. omega (arith, few_free bytes n))

-- ---- the first state, and a state without its next link

pub state_new : (s : State) → IsWithinLimits s.header → length s.used ≡ (s.header.total + 7) / 8 → s.count ≡ 0
    → s.links ≡ [] → IsState s
state_new s limits room none nil = record {
  limits = limits;
  room = room;
  sound = λ link c. absurd (in_from_Contains [] link (subst (λ ls. Contains ls link) nil c));
  few =
      let most : free_below s.used s.header.total * most_of_block s.header ≤ s.header.total * most_of_block s.header =
      mul-le-mul_right (most_of_block s.header) (few_free s.used s.header.total) in
      omega (arith, most, none, ap length nil);
}

pub state_tail : (s : State) (link : Link) → IsState (with_link link s) → IsState s
state_tail s link h = record {
  limits = h.limits;
  room = h.room;
  sound = λ l c. h.sound l (Contains-from_in (link ∷ s.links) l (inr (in_from_Contains s.links l c)));
  few = omega (arith, h.few);
}

pub next_sound : (s : State) (link : Link) → IsState (with_link link s) → IsSound s.header link
next_sound s link h = h.sound link (Contains-from_in (link ∷ s.links) link (inl refl))

free_same : (old new : List ℕ) (n : ℕ) → ((b : ℕ) → has_block new b ≡ has_block old b)
    → free_below new n ≡ free_below old n
unfolding free_below
free_same old new zero same = refl
free_same old new (suc n) same = λ i. free_same old new n same i + (if same n i then 0 else 1)

-- past a link, with a set that is the same
pub state_past : (s : State) (link : Link) (used : List ℕ) → ((b : ℕ) → has_block used b ≡ has_block s.used b)
    → length used ≡ length s.used → IsState (with_link link s)
    → IsState (record s { used = used; count = s.count + 1 })
    × (work_left (record s { used = used; count = s.count + 1 }) < work_left (with_link link s))
state_past s link used same room h =
    let free : free_below used s.header.total ≡ free_below s.used s.header.total =
    free_same s.used used s.header.total same in
    let work : free_below used s.header.total * most_of_block s.header
    ≡ free_below s.used s.header.total * most_of_block s.header = ap (λ n. n * most_of_block s.header) free in (
      record {
        limits = h.limits;
        room = room ∙ h.room;
        sound = (state_tail s link h).sound;
        few = omega (arith, h.few, work);
      },
      omega (arith, work),
    )

-- ---- entering a block

module _ (s : State) (v : Visit) (path : Steps) (bytes used : List ℕ) where
  abbrev found : List Fault
  found = faults_of_block s.header path v bytes

  abbrev below : List Child
  below = children_of s.header v bytes

  abbrev here : Child → Link
  here c = record { path = path; block = v.block; level = level_of bytes; child = c }

  -- the state behind it
  abbrev pub behind : State
  behind = entered (record s { used = used }) v path bytes

  few_here : length bytes ≡ s.header.block_size → length found + length (map here below) + 1 ≤ most_of_block s.header
  few_here size =
      omega (arith, faults_few s.header path v bytes, children_of_few s.header v bytes, size, length-map below here)

  sound_here : length path + rank v ≤ 15 → (link : Link) → IsIn (map here below) link → IsSound s.header link
  sound_here short link i =
      let k = in_map_from here below link i in
      subst (λ (l : Link). IsSound s.header l) k.2 (record {
        within = children_of_within s.header v bytes k.0 k.1;
        short = omega (arith, short, falls s.header v bytes k.0 k.1, length-append path ((v.block, k.0.offset) ∷ []));
      })

  pub state_entered : IsState s → length bytes ≡ s.header.block_size → length path + rank v ≤ 15
      → v.block < s.header.total
      → IsWith s.used v.block used → has_block s.used v.block ≡ false → length used ≡ length s.used
      → IsState behind × (work_left behind < work_left s)
  state_entered h size short within more free room =
      let less =
      less_work (free_below s.used s.header.total) (free_below used s.header.total) (most_of_block s.header)
      (length found) (length (map here below))
      (length s.links) s.count (s.header.total * most_of_block s.header)
      (free_less s.used used v.block s.header.total more free within) (few_here size) h.few in
      let links = length-append (map here below) s.links in (
        record {
          limits = h.limits;
          room = room ∙ h.room;
          sound =
              λ l c. elim (in_either (map here below) s.links l (in_from_Contains (map here below ++ s.links) l c)) [
                | inl i ↦ sound_here short l i
                | inr i ↦ h.sound l (Contains-from_in s.links l i)
              ];
          few = omega (arith, less.0, links);
        },
        omega (arith, less.1, links),
      )

-- ---- the same of a file

module _ (image : List ℕ) (kept reached : List Steps) (ak : AreKept image kept) (ar : AreReached image kept reached)
    (old : List Fault) where
  abbrev On : List Fault → State → Type 0
  On now s = IsOn image kept reached old now s

  -- At any time some of the first faults were told.
  pub on_front : (now : List Fault) (s : State) → On now s → IsCut old now (tree_faults image kept reached)
  on_front now s on =
      let later = come_front image kept reached ak ar on.faults (has_block s.used) s.links on.come in
      IsCut-front old now on.faults later.0 (tree_faults image kept reached) later.1
      (IsCut-all old now on.faults on.listed)

  pub on_at : (now later : List Fault) (s t : State) → later ≡ now → t ≡ s → On now s → On later t
  on_at now later s t e f on = subst (λ fs. On fs t) (sym e) (subst (On now) (sym f) on)

  -- Where no link is left all were.
  pub on_end : (now : List Fault) (s : State) → s.links ≡ [] → On now s
      → (now ≡ old ++ tree_faults image kept reached) × (s.count ≡ length (tree_faults image kept reached))
      × ((b : ℕ) → has_block s.used b ≡ is_reached image kept b)
  on_end now s none on =
      let all = come_all image kept reached ak ar on.faults (has_block s.used)
      (subst (λ ls. HasCome image kept reached on.faults (has_block s.used) ls) none on.come) in
      (on.listed ∙ ap (λ fs. old ++ fs) all.0, on.counted ∙ ap length all.0, all.1)

  pub on_past : (now : List Fault) (s : State) (link : Link) (used : List ℕ)
      → ((b : ℕ) → has_block used b ≡ has_block s.used b) → has_block s.used link.child.visit.block ≡ true
      → On now (with_link link s) → On (now ++ double_of link ∷ []) (record s { used = used; count = s.count + 1 })
  on_past now s link used same taken on = record {
    faults = on.faults ++ double_of link ∷ [];
    listed = ap (λ fs. fs ++ double_of link ∷ []) on.listed ∙ append_assoc old on.faults (double_of link ∷ []);
    counted = omega (arith, on.counted, length-append on.faults (double_of link ∷ []));
    come = subst (λ marked. HasCome image kept reached (on.faults
        ++ double_of link ∷ []) marked s.links) (λ i b. sym (same b) i)
        (come_past image kept reached ak ar on.faults (has_block s.used) link s.links on.come taken);
  }

  module _ (s : State) (used : List ℕ) (is : IsHeaderOf s.header image) where
    -- what is found at a block
    abbrev at : Steps → Visit → List Fault
    at path v = faults_of_block s.header path v (block_of image v.block)

    by_header : (path : Steps) (v : Visit) (front : List Fault) (links : List Link)
        → HasCome image kept reached (front
        ++ faults_of_block (fields_of image) path v (block_of image v.block)) (has_block used)
        (links_at image path v ++ links)
        → HasCome image kept reached (front ++ at path v) (has_block used)
        (links_of path v.block (level_of (block_of image v.block)) (children_of s.header v (block_of image v.block))
        ++ links)
    unfolding children_at
    by_header path v front links come =
        let bytes = block_of image v.block in
        let P : Header → Type 0 = λ h.
        HasCome image kept reached (front
        ++ faults_of_block h path v bytes) (has_block used)
        (links_of path v.block (level_of bytes) (children_of h v bytes) ++ links) in
        subst P (sym is.same) come

    -- into the block of a link
    module _ (now : List Fault) (link : Link) (more : IsWith s.used link.child.visit.block used)
        (free : has_block s.used link.child.visit.block ≡ false) (on : On now (with_link link s)) where
      come_here : HasCome image kept reached (on.faults ++ at (path_to link) link.child.visit) (has_block used)
          (behind s link.child.visit (path_to link) (block_of image link.child.visit.block) used).links
      come_here =
          by_header (path_to link) link.child.visit on.faults s.links
          (come_into image kept reached ak ar on.faults (has_block s.used) (has_block used) link s.links on.come free
          more)

      pub on_entered : On (now
          ++ at (path_to link) link.child.visit) (behind s link.child.visit (path_to link)
          (block_of image link.child.visit.block) used)
      on_entered =
          let here = at (path_to link) link.child.visit in
          record {
            faults = on.faults ++ here;
            listed = ap (λ fs. fs ++ here) on.listed ∙ append_assoc old on.faults here;
            counted = omega (arith, on.counted, length-append on.faults here);
            come = come_here;
          }

      pub on_entering : (later : List Fault) → IsCut now later (at (path_to link) link.child.visit)
          → IsCut old later (tree_faults image kept reached)
      on_entering later cut =
          let here = at (path_to link) link.child.visit in
          let s' = behind s link.child.visit (path_to link) (block_of image link.child.visit.block) used in
          let rest = come_front image kept reached ak ar (on.faults ++ here) (has_block used) s'.links come_here in
          IsCut-behind old now later on.faults (here
          ++ rest.0) (tree_faults image kept reached) on.listed (sym (append_assoc on.faults here rest.0) ∙ rest.1)
          (IsCut-front now later here rest.0 (here ++ rest.0) refl cut)

    -- into the directory's root
    module _ (none : (b : ℕ)
        → has_block s.used b ≡ false) (more : IsWith s.used 1 used) (start : s.count ≡ 0) (nil : s.links ≡ []) where
      come_first : HasCome image kept reached (at [] directory_root) (has_block used)
          (behind s directory_root [] (block_of image 1) used).links
      come_first =
          let first = come_root image kept reached ak ar (has_block s.used) (has_block used) none more in
          let links =
          subst (HasCome image kept reached (faults_of_block (fields_of image) [] directory_root (block_of image 1))
          (has_block used))
          (sym (append-nil (links_at image [] directory_root))
          ∙ ap (λ ls. links_at image [] directory_root ++ ls) (sym nil)) first in
          by_header [] directory_root [] s.links links

      pub on_root : On (old ++ at [] directory_root) (behind s directory_root [] (block_of image 1) used)
      on_root = record {
        faults = at [] directory_root;
        listed = refl;
        counted = omega (arith, start);
        come =
            come_first;
      }

      pub on_rooting : (later : List Fault) → IsCut old later (at [] directory_root)
          → IsCut old later (tree_faults image kept reached)
      on_rooting later cut =
          let rest =
          come_front image kept reached ak ar (at [] directory_root) (has_block used)
          (behind s directory_root [] (block_of image 1) used).links come_first in
          IsCut-front old later (at [] directory_root) rest.0 (tree_faults image kept reached) rest.1 cut
