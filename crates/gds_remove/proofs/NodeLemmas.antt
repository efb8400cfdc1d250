-- What a block that isn't what it was says of a call, and when a block of a tree can be read.
use Rattle.std.proofs.Common.{◌<◌, ℕ, List, Result, Ok, Err, arith, sym, ap, ◌∙◌, subst}
use Rattle.host_model.specs.Failures.{Failures, NeverFell}
use Rattle.gds_base.specs.Ending.{EndsReading}
use Rattle.gds_base.specs.declared.error.BaseError.{BaseError}
use Rattle.gds_base.specs.declared.error.BaseError.TheVariants as answer
use Rattle.gds_block.specs.Block.{IsBlock}
use Rattle.gds_header.specs.Fields.{block_of, fields_of}
use Rattle.gds_pack.specs.Unpacked.{entries_of}
use Rattle.gds_splice.specs.Writing.{CannotRead}
use Rattle.gds_splice.proofs.ToldLemmas.{is_block_at}
use Rattle.gds_remove.specs.Block.{HasNoEntries, IsChanged}

-- A call ends because a file isn't what it was.
pub ends_changed : (T : Type 0) (before now : Failures) (P : Type 0) (e : BaseError) → IsChanged e → P
    → EndsReading {T = T} before now P (Err e)
ends_changed T before now P (answer.Changed unit) is holds = holds
ends_changed T before now P answer.Memory is holds = absurd is
ends_changed T before now P answer.ReadFault is holds = absurd is
ends_changed T before now P answer.WriteFault is holds = absurd is
ends_changed T before now P answer.Stopped is holds = absurd is
ends_changed T before now P answer.KeyTooLong is holds = absurd is
ends_changed T before now P answer.ValueTooLong is holds = absurd is
ends_changed T before now P answer.Full is holds = absurd is
ends_changed T before now P answer.TooDeep is holds = absurd is
ends_changed T before now P answer.TnSpent is holds = absurd is

-- A call ends so behind others.
pub ends_then : (T : Type 0) (a b c : Failures) (P Q : Type 0) (result : Result T BaseError) → NeverFell a b → (P → Q)
    → EndsReading {T = T} b c P result → EndsReading {T = T} a c Q result
ends_then T a b c P Q (Ok value) never so ends = tt
ends_then T a b c P Q (Err answer.Memory) never so ends = tt
ends_then T a b c P Q (Err answer.ReadFault) never so ends = omega (arith, never.read)
ends_then T a b c P Q (Err (answer.Changed unit)) never so ends = so ends
ends_then T a b c P Q (Err answer.WriteFault) never so ends = absurd ends
ends_then T a b c P Q (Err answer.Stopped) never so ends = absurd ends
ends_then T a b c P Q (Err answer.KeyTooLong) never so ends = absurd ends
ends_then T a b c P Q (Err answer.ValueTooLong) never so ends = absurd ends
ends_then T a b c P Q (Err answer.Full) never so ends = absurd ends
ends_then T a b c P Q (Err answer.TooDeep) never so ends = absurd ends
ends_then T a b c P Q (Err answer.TnSpent) never so ends = absurd ends

-- What can't be read is no block with entries.
pub cannot_read : (file : List ℕ) (n level : ℕ) → (n < (fields_of file).total → CannotRead file n)
    → HasNoEntries n level file
cannot_read file n level cannot v es same i has =
    cannot (subst (λ k. k < (fields_of file).total) same has.there) es
    (subst (λ k. IsBlock (block_of file k)) same (is_block_at file v level es i has))
    (ap (λ k. entries_of (block_of file k)) (sym same) ∙ has.right.found)
