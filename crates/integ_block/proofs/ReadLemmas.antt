-- What a record that was read has for kinds and children, and what it leaves.
use Rattle.std.proofs.Common.{ℕ, ◌≡◌, ◌+◌, true, false, List, [], ◌∷◌, length, Option, None, Some, inl, inr, sym, ap}
use Rattle.std.proofs.Common.{arith}
use Rattle.std.specs.Prelude.{filter, not}
use Rattle.std.proofs.lemmas.Bool.{eq-eqb, cond-true, cond-false}
use Rattle.arrayvec.specs.ArrayVec.{ArrayVec}
use Rattle.gds_law.specs.Kinds.{ends}
use Rattle.gds_law.specs.BlockReading.{BlockReading, PlacedRecord}
use Rattle.gds_law.specs.Record.{holds, last_holds, kinds_of, is_ended, children_of_record}
use Rattle.gds_law.specs.declared.kind.FaultKind.{FaultKind}
use Rattle.gds_law.specs.declared.kind.FaultKind.TheVariants.{StarSize}
use Rattle.integ_block.specs.Entry.{IsRead, Leaves, children_at}
use Rattle.integ_block.proofs.EntryLemmas.{entry_kinds, kinds_of-last, kinds_of-keyed, goes_on, is_ended-by}

module _ (b : BlockReading) (s : PlacedRecord) where
  pub kinds_of-read : (key : Option (ArrayVec ℕ)) (rest : List ℕ) (fault : Option FaultKind)
      → IsRead b s key rest fault → kinds_of b s ≡ filter (holds b s) entry_kinds
  kinds_of-read None rest fault k =
      let size : 4 + length s.record_.body ≡ 8 = omega (arith, k.size) in
      let right : last_holds s StarSize ≡ false = ap not (eq-eqb _ _ size) in
      kinds_of-last b s k.last right
  kinds_of-read (Some key) rest fault k =
      kinds_of-keyed b s k.not_last k.first_count k.later_count k.not_long k.with_end

  pub goes_on-read : (key : Option (ArrayVec ℕ)) (rest : List ℕ) (fault : Option FaultKind) → IsRead b s key rest fault
      → is_ended b s ≡ false
  goes_on-read key rest fault k = goes_on b s (kinds_of-read key rest fault k)

  pub Leaves-read : (key : Option (ArrayVec ℕ)) (rest : List ℕ) (fault : Option FaultKind) → IsRead b s key rest fault
      → Leaves b s key
  Leaves-read None rest fault k = inr k.last
  Leaves-read (Some key) rest fault k =
      record { goes_on = goes_on-read (Some key) rest fault k; whole = k.whole; fronts = k.fronts }

  pub children-read : (key : Option (ArrayVec ℕ)) (rest : List ℕ) (fault : Option FaultKind)
      → IsRead b s key rest fault → children_of_record b s ≡ children_at b s
  children-read key rest fault k = sym (cond-false (is_ended b s) _ _ (goes_on-read key rest fault k))

  module _ (kind : FaultKind) (only : kinds_of b s ≡ kind ∷ []) (e : ends kind ≡ true) where
    pub Leaves-ended : Leaves b s None
    Leaves-ended = inl (is_ended-by b s kind only e)

    pub children-ended : children_at b s ≡ []
    children-ended = cond-true (is_ended b s) _ _ (is_ended-by b s kind only e)
