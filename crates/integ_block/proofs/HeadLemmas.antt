-- What a block is read for, by what was told of its head.
use Rattle.std.proofs.Common.{ℕ, ◌≡◌, ◌≤◌, Bool, true, false, List, [], ◌∷◌, ◌++◌, length, refl, sym, ◌∙◌, ap, arith}
use Rattle.std.specs.Prelude.{map}
use Rattle.std.specs.List.{list_any}
use Rattle.std.proofs.lemmas.Bool.{both_ways, ltb-false, cond-true, cond-false}
use Rattle.std.proofs.lemmas.List.{append-nil, map-append}
use Rattle.gds_block.specs.Block.{IsBlock, used_of}
use Rattle.gds_block.specs.Record.{records_of}
use Rattle.gds_header.specs.declared.header.Header.{Header}
use Rattle.gds_law.specs.Block.{head_holds, kinds_of_head, kinds_of_block, kinds_from, children_from, children_of}
use Rattle.gds_law.specs.Block.{fault_at, faults_of_block}
use Rattle.gds_law.specs.Kinds.{ends, head_kinds}
use Rattle.gds_law.specs.BlockReading.{BlockReading, reading_of}
use Rattle.gds_law.specs.Visit.{Visit}
use Rattle.gds_law.specs.declared.fault.Fault.{Fault}
use Rattle.gds_law.specs.declared.kind.FaultKind.{FaultKind}
use Rattle.gds_law.specs.declared.kind.FaultKind.TheVariants.{BadVersion, TransactionTooNew, UsedTooSmall, UsedTooLarge}
use Rattle.gds_law.specs.declared.kind.FaultKind.TheVariants.{RootAtLevelZero, WrongLevel, EmptyBlock}
use Rattle.integ_block.specs.BlockReading.{faults_at}
use Rattle.integ_block.proofs.KindLemmas.{kept, kept-not, kept-last, kept-yes, any_front}

-- ---- where none of the kinds that stand ends the reading

none_yes : {K : Type 0} (ends test : K → Bool) (k : K) (kinds : List K) (t : Bool) → ends k ≡ t → test k ≡ true
    → list_any ends (kept ends test (k ∷ kinds)) ≡ false
    → (ends k ≡ true → test k ≡ false) × (list_any ends (kept ends test kinds) ≡ false)
none_yes ends test k kinds true e y h =
    let any : list_any ends (k ∷ []) ≡ false = ap (list_any ends) (sym (kept-last ends test k kinds y e)) ∙ h in
    let no = any_front ends k [] any in
    absurd (both_ways (ends k) no.0 e)
none_yes ends test k kinds false e y h =
    let any : list_any ends (k ∷ kept ends test kinds) ≡ false =
    ap (list_any ends) (sym (kept-yes ends test k kinds y e)) ∙ h in
    (λ yes. absurd (both_ways (ends k) e yes), (any_front ends k (kept ends test kinds) any).1)

none_here : {K : Type 0} (ends test : K → Bool) (k : K) (kinds : List K) (t : Bool) → test k ≡ t
    → list_any ends (kept ends test (k ∷ kinds)) ≡ false
    → (ends k ≡ true → test k ≡ false) × (list_any ends (kept ends test kinds) ≡ false)
none_here ends test k kinds false e h = (λ yes. e, ap (list_any ends) (sym (kept-not ends test k kinds e)) ∙ h)
none_here ends test k kinds true e h = none_yes ends test k kinds (ends k) refl e h

-- the used count is neither too small nor too large
sizes : (test : FaultKind → Bool) (rest : List FaultKind)
    → list_any ends (kept ends test (BadVersion ∷ TransactionTooNew ∷ UsedTooSmall ∷ UsedTooLarge ∷ rest)) ≡ false
    → (test UsedTooSmall ≡ false) × (test UsedTooLarge ≡ false)
sizes test rest h =
    let a = none_here ends test BadVersion (TransactionTooNew ∷ UsedTooSmall ∷ UsedTooLarge ∷ rest) (test BadVersion)
    refl h in
    let b = none_here ends test TransactionTooNew (UsedTooSmall ∷ UsedTooLarge ∷ rest) (test TransactionTooNew) refl a.1
    in
    let c = none_here ends test UsedTooSmall (UsedTooLarge ∷ rest) (test UsedTooSmall) refl b.1 in
    let d = none_here ends test UsedTooLarge rest (test UsedTooLarge) refl c.1 in
    (c.0 refl, d.0 refl)

pub IsBlock-open : (h : Header) (v : Visit) (bytes : List ℕ) → 16 ≤ length bytes → length bytes ≡ h.block_size
    → list_any ends (kept ends (head_holds (reading_of h v bytes) bytes) head_kinds) ≡ false → IsBlock bytes
IsBlock-open h v bytes long whole none =
    let two = sizes (head_holds (reading_of h v bytes) bytes) (RootAtLevelZero ∷ WrongLevel ∷ EmptyBlock ∷ []) none in
    let small : 16 ≤ used_of bytes = ltb-false (used_of bytes) 16 two.0 in
    let large : used_of bytes ≤ h.block_size = ltb-false h.block_size (used_of bytes) two.1 in
    record { head = long; covered = small; within = omega arith }

-- ---- the block's kinds and children

-- the same of equal readings and paths
pub same-head : (r s : BlockReading) (p q : List (ℕ × ℕ)) (bytes : List ℕ) → r ≡ s → p ≡ q
    → faults_at r p 0 (kept ends (head_holds r bytes) head_kinds)
    ≡ faults_at s q 0 (kept ends (head_holds s bytes) head_kinds)
same-head r s p q bytes e f = ap (λ r. faults_at r p 0 (kept ends (head_holds r bytes) head_kinds)) e
    ∙ ap (λ p. faults_at s p 0 (kept ends (head_holds s bytes) head_kinds)) f

pub same-behind : (r s : BlockReading) (p q : List (ℕ × ℕ)) (bytes : List ℕ) → r ≡ s → p ≡ q
    → map (fault_at r p) (kinds_from r bytes 16 [] (records_of bytes))
    ≡ map (fault_at s q) (kinds_from s bytes 16 [] (records_of bytes))
same-behind r s p q bytes e f =
    ap (λ r. map (fault_at r p) (kinds_from r bytes 16 [] (records_of bytes))) e
    ∙ ap (λ p. map (fault_at s p) (kinds_from s bytes 16 [] (records_of bytes))) f

module _ (h : Header) (path : List (ℕ × ℕ)) (v : Visit) (bytes : List ℕ) where
  abbrev pub b : BlockReading
  b = reading_of h v bytes

  abbrev pub head : List FaultKind
  head = kept ends (head_holds b bytes) head_kinds

  abbrev pub behind : List (ℕ × FaultKind)
  behind = kinds_from b bytes 16 [] (records_of bytes)

  -- The reading ends with the head.
  module _ (end : list_any ends head ≡ true) where
    pub faults-head : faults_at b path 0 head ≡ faults_of_block h path v bytes
    unfolding kinds_of_block kinds_of_head
    faults-head =
        ap (map (fault_at b path))
        (sym (append-nil (map (λ kind. (0, kind)) head))
        ∙ ap (λ xs. map (λ kind. (0, kind)) head ++ xs) (sym (cond-true (list_any ends head) [] behind end)))

    pub children-head : [] ≡ children_of h v bytes
    unfolding children_of kinds_of_head
    children-head = sym (cond-true (list_any ends head) [] (children_from b [] (records_of bytes)) end)

  -- It goes on with the records.
  module _ (go : list_any ends head ≡ false) where
    pub faults-all : faults_at b path 0 head ++ map (fault_at b path) behind ≡ faults_of_block h path v bytes
    unfolding kinds_of_block kinds_of_head
    faults-all =
        sym (map-append (fault_at b path) (map (λ kind. (0, kind)) head) behind)
        ∙ ap (λ xs. map (fault_at b path) (map (λ kind. (0, kind)) head
        ++ xs)) (sym (cond-false (list_any ends head) [] behind go))

    pub children-all : children_from b [] (records_of bytes) ≡ children_of h v bytes
    unfolding children_of kinds_of_head
    children-all = sym (cond-false (list_any ends head) [] (children_from b [] (records_of bytes)) go)

  -- In either case the faults begin with those of the head.
  pub faults-begin : (t : Bool) → list_any ends head ≡ t
      → (rest : List Fault) × (faults_at b path 0 head ++ rest ≡ faults_of_block h path v bytes)
  faults-begin true end = ([], append-nil (faults_at b path 0 head) ∙ faults-head end)
  faults-begin false go = (map (fault_at b path) behind, faults-all go)
