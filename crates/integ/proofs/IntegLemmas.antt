-- What was told of a file adds up to its list of faults.
use Rattle.std.proofs.Common.{◌≡◌, ℕ, ◌+◌, ◌%◌, ◌<◌, Bool, true, false, ◌&&◌, ◌||◌, ◌==◌, not, List, [], ◌∷◌, ◌++◌}
use Rattle.std.proofs.Common.{length, map, filter, flat_map, take, Option, Some, None, refl, sym, ap, subst, ◌∙◌}
use Rattle.std.proofs.Common.{arith, append_assoc, length-append, lit≤}
use Rattle.std.specs.Prelude.{Result, Ok, Err, IfOk, OnOk, IfErr, All}
use Rattle.std.specs.List.{range_with_len}
use Rattle.std.proofs.lemmas.Bool.{ltb-true}
use Rattle.gds_header.specs.declared.header.Header.{Header}
use Rattle.gds_header.specs.declared.kind.HeaderKind.{HeaderKind}
use Rattle.gds_header.specs.Fields.{fields_of}
use Rattle.gds_header.specs.Kinds.{ending_kind, groups_of}
use Rattle.gds_law.specs.Kinds.{fault_kind_of, map_kinds, pair_kinds}
use Rattle.gds_law.specs.Path.{Steps}
use Rattle.gds_law.specs.Tree.{tree_faults, is_reached}
use Rattle.gds_law.specs.Maps.{map_number, is_present, places, map_holds, pair_holds, pair_faults, group_faults}
use Rattle.gds_law.specs.Maps.{map_faults, count_faults, fault_of, is_used}
use Rattle.gds_law.specs.Faults.{faults_of_header, AreFaultsRead, AreFaultsAfter, AreFaults}
use Rattle.gds_law.specs.Sink.{IsCut}
use Rattle.gds_law.specs.declared.fault.Fault.{Fault}
use Rattle.gds_law.specs.declared.kind.FaultKind.{FaultKind}
use Rattle.gds_law.specs.declared.kind.FaultKind.TheVariants.{IllegalPair, UsedMarkedFree, UnusedMarkedBusy}
use Rattle.gds_law.specs.declared.kind.FaultKind.TheVariants.{PairPastTotal}
use Rattle.gds_header.proofs.EndingLemmas.{ending_kind-alone, fields_of-front}
use Rattle.gds_law.proofs.SinkLemmas.{IsCut-none, IsCut-front, IsCut-behind}
use Rattle.gds_law.proofs.KeptLemmas.{one_fault_list}
use Rattle.gds_sound.specs.Sound.{HasOneMap}
use Rattle.gds_sound.proofs.OneMapLemmas.{one_map}
use Rattle.integ_walk.specs.BlockSet.{has_block}
use Rattle.integ.specs.GroupMap.{in_use}
use Rattle.integ.specs.Integ.{IsOpen, IsToldWhole, IsToldInPart, Opens}
use Rattle.integ_walk.specs.Walk.{IsWalked, IsWalkedInPart}

-- ---- blocks in use

module _ (file : List ℕ) (u v : ℕ → Bool) (same : (block : ℕ) → block < (fields_of file).total → u block ≡ v block)
  where
    used_here : (present a b : Bool) (free : Bool) → (present ≡ true → a ≡ b)
        → (present && free && a) ≡ (present && free && b)
    used_here true a b free h = ap (λ x. free && x) (h refl)
    used_here false a b free h = refl

    unused_here : (present a b : Bool) (busy : Bool) → (present ≡ true → a ≡ b)
        → (present && busy && not a) ≡ (present && busy && not b)
    unused_here true a b busy h = ap (λ x. busy && not x) (h refl)
    unused_here false a b busy h = refl

    here : (group k : ℕ) → is_present (fields_of file) group k ≡ true
        → u (map_number group + k) ≡ v (map_number group + k)
    here group k present = same (map_number group + k) (ltb-true _ _ present)

    pair-used : (group k : ℕ) (kind : FaultKind) → pair_holds file u group k kind ≡ pair_holds file v group k kind
    pair-used group k IllegalPair = refl
    pair-used group k UsedMarkedFree = used_here (is_present (fields_of file) group k) _ _ _ (here group k)
    pair-used group k UnusedMarkedBusy = unused_here (is_present (fields_of file) group k) _ _ _ (here group k)
    pair-used group k PairPastTotal = refl
    pair-used group k kind = refl

    pairs-used : (group k : ℕ) → pair_faults file u group k ≡ pair_faults file v group k
    pairs-used group k =
        λ i. map (fault_of (map_number group + k)) (filter (λ kind. pair-used group k kind i) pair_kinds)

    group-used : (group : ℕ) → group_faults file u group ≡ group_faults file v group
    group-used group = λ i. map (fault_of (map_number group)) (filter (map_holds file group) map_kinds)
        ++ flat_map (λ k. pairs-used group k i) places

    pub maps-used : map_faults file u ≡ map_faults file v
    unfolding map_faults
    maps-used = λ i. flat_map (λ group. group-used group i) (range_with_len 0 (groups_of (fields_of file)))

in_use-same : (file used : List ℕ) (kept : List Steps)
    → ((block : ℕ) → block < (fields_of file).total → has_block used block ≡ is_reached file kept block)
    → map_faults file (in_use used) ≡ map_faults file (is_used file kept)
in_use-same file used kept same =
    maps-used file (in_use used) (is_used file kept) (λ block low. ap (λ b. (block % 512 == 0) || b) (same block low))

-- ---- a file whose header can be read

module _ (file : List ℕ) (goes_on : ending_kind file ≡ None) where
  read-of : (faults : List Fault) → AreFaults file faults → AreFaultsRead file faults
  read-of faults are = subst (λ (k : Option HeaderKind). AreFaultsAfter k file faults) goes_on are

  of-read : (faults : List Fault) → AreFaultsRead file faults → AreFaults file faults
  of-read faults read = subst (λ (k : Option HeaderKind). AreFaultsAfter k file faults) (sym goes_on) read

  -- refused while the header's faults were told
  pub header-refused : (old new : List Fault) → IsCut old new (faults_of_header file) → IsToldInPart file old new
  header-refused old new cut faults are =
      let r = read-of faults are in
      let trees = tree_faults file r.kept r.reached in
      let maps = map_faults file (is_used file r.kept) in
      IsCut-front old new (faults_of_header file) (trees ++ (maps ++ count_faults file)) faults
      (sym (append_assoc (faults_of_header file) trees (maps ++ count_faults file))
      ∙ sym (append_assoc (faults_of_header file ++ trees) maps (count_faults file)) ∙ sym r.whole)
      cut

  -- while those of the trees were
  pub walk-refused : (old now new : List Fault) → now ≡ old ++ faults_of_header file → IsWalkedInPart file now new
      → IsToldInPart file old new
  walk-refused old now new e part faults are =
      let r = read-of faults are in
      let trees = tree_faults file r.kept r.reached in
      let maps = map_faults file (is_used file r.kept) in
      IsCut-front old new (faults_of_header file ++ trees) (maps ++ count_faults file) faults
      (sym (append_assoc (faults_of_header file ++ trees) maps (count_faults file)) ∙ sym r.whole)
      (IsCut-behind old now new (faults_of_header file) trees (faults_of_header file ++ trees) e refl
      (part r.kept r.reached r.are_kept r.are_reached))

  -- while those of the maps were, or not at all
  module _ (old now later : List Fault) (used : List ℕ) (count : ℕ) (e : now ≡ old ++ faults_of_header file)
      (walked : IsWalked file now later used count) where
    abbrev front : List Fault
    front = faults_of_header file ++ tree_faults file walked.kept walked.reached

    abbrev back : List Fault
    back = map_faults file (in_use used) ++ count_faults file

    whole-are : AreFaults file (front ++ map_faults file (in_use used) ++ count_faults file)
    whole-are = of-read (front ++ map_faults file (in_use used) ++ count_faults file) (record {
      kept = walked.kept;
      reached = walked.reached;
      are_kept = walked.are_kept;
      are_reached = walked.are_reached;
      whole = ap (λ ms. front ++ ms ++ count_faults file) (in_use-same file used walked.kept walked.blocks);
    })

    front-told : later ≡ old ++ front
    front-told = walked.faults ∙ ap (λ xs. xs ++ tree_faults file walked.kept walked.reached) e
        ∙ append_assoc old (faults_of_header file) (tree_faults file walked.kept walked.reached)

    pub maps-refused : (new : List Fault) → IsCut later new back → IsToldInPart file old new
    maps-refused new cut faults are =
        let same = (one_fault_list file).1 faults (front ++ map_faults file (in_use used) ++ count_faults file) are
        whole-are in
        IsCut-behind old later new front back faults front-told
        (sym (append_assoc front (map_faults file (in_use used)) (count_faults file)) ∙ sym same) cut

    pub all-told : (new : List Fault) (of_header of_maps : ℕ) → of_header ≡ length (faults_of_header file)
        → new ≡ later ++ back → of_maps ≡ length back → IsToldWhole file old new (of_header + count + of_maps)
    all-told new of_header of_maps header_count f maps_count = record {
      faults = front ++ map_faults file (in_use used) ++ count_faults file;
      are = whole-are;
      told = f ∙ ap (λ xs. xs ++ back) front-told ∙ append_assoc old front back
          ∙ ap (λ xs. old ++ xs) (sym (append_assoc front (map_faults file (in_use used)) (count_faults file)));
      counted =
          let trees = tree_faults file walked.kept walked.reached in
          let parts = ap length (append_assoc front (map_faults file (in_use used)) (count_faults file)) in
          omega (
            arith,
            header_count,
            walked.counted,
            maps_count,
            parts,
            length-append front back,
            length-append
                (faults_of_header file) trees,
          );
    }

-- ---- a file whose header ends the reading

module _ (file : List ℕ) (kind : HeaderKind) (ends : ending_kind file ≡ Some kind) where
  alone : faults_of_header file ≡ fault_of 0 (fault_kind_of kind) ∷ []
  alone = ap (map (λ k. fault_of 0 (fault_kind_of k))) (ending_kind-alone file kind ends)

  pub ending-told : (old new : List Fault) → new ≡ old ++ fault_of 0 (fault_kind_of kind) ∷ []
      → IsToldWhole file old new 1
  ending-told old new e = record {
    faults = faults_of_header file;
    are = subst (λ (k : Option HeaderKind). AreFaultsAfter k file (faults_of_header file)) (sym ends) refl;
    told = e ∙ ap (λ xs. old ++ xs) (sym alone);
    counted = sym (ap length alone);
  }

  pub ending-refused : (old new : List Fault) → IsCut old new (fault_of 0 (fault_kind_of kind) ∷ [])
      → IsToldInPart file old new
  ending-refused old new cut faults are =
      let these : faults ≡ faults_of_header file =
      subst (λ (k : Option HeaderKind). AreFaultsAfter k file faults) ends are in
      IsCut-front old new (fault_of 0 (fault_kind_of kind) ∷ []) [] faults (sym (these ∙ alone)) cut

pub none-told : (file : List ℕ) (old : List Fault) → IsToldInPart file old old
none-told file old faults are = IsCut-none old faults

-- ---- no fault

nil_length : (faults : List Fault) → length faults ≡ 0 → faults ≡ []
nil_length [] h = refl
nil_length (fault ∷ faults) h = absurd (omega (arith, h))

pub one-map : (file : List ℕ) (old new : List Fault) (n : ℕ) → All (λ b. b < 256) file → IsToldWhole file old new n
    → n ≡ 0 → HasOneMap file
one-map file old new n bytes told zero =
    one_map file bytes (subst (AreFaults file) (nil_length told.faults (sym told.counted ∙ zero)) told.are)

-- ---- the first unit of a file

pub opens-from : (r : Result Header HeaderKind) (file bytes : List ℕ) (size : ℕ) → take 8192 file ≡ bytes
    → length file ≡ size
    → IfOk r (λ header. header ≡ fields_of bytes)
    → OnOk r ((d : List ℕ) → take 8192 d ≡ bytes → length d ≡ size → ending_kind d ≡ None)
    → IfErr r (λ kind. (d : List ℕ) → take 8192 d ≡ bytes → length d ≡ size → ending_kind d ≡ Some kind)
    → Opens file bytes r
opens-from (Ok header) file bytes size begins long fields goes_on ends =
    record { begins = begins; fields = fields; goes_on = goes_on file begins long }
opens-from (Err kind) file bytes size begins long fields goes_on ends = ends file begins long

-- What is open has its header's fields and all its blocks.
pub header-of : (file bytes : List ℕ) (header : Header) → IsOpen file bytes header → header ≡ fields_of file
header-of file bytes header is = is.fields ∙ ap fields_of (sym is.begins) ∙ fields_of-front 8192 file (lit≤ tt)
