-- What a sink's trouble becomes.
use Rattle.std.proofs.Common.{◌≡◌, ◌⊎◌, inl, inr, refl, subst, sym}
use Rattle.std.specs.Prelude.{Result, Err, IfErr}
use Rattle.gds_law.specs.declared.sink.SinkTrouble.{SinkTrouble}
use Rattle.gds_law.specs.declared.sink.SinkTrouble.TheVariants as sink
use Rattle.integ_block.specs.Error.{of_sink}
use Rattle.integ_block.specs.declared.error.IntegError.{IntegError}
use Rattle.integ_block.specs.declared.error.IntegError.TheVariants.{Memory, SayFault}

-- Only a failure is one of saying.
pub only_say : (t : SinkTrouble) → of_sink t ≡ SayFault → t ≡ sink.Failed
only_say sink.Memory e = absurd (cc)
only_say sink.Failed e = refl

memory_or_say : (t : SinkTrouble) → (of_sink t ≡ Memory) ⊎ (of_sink t ≡ SayFault)
memory_or_say sink.Memory = inl refl
memory_or_say sink.Failed = inr refl

pub refused : {T : Type 0} (r : Result T IntegError) (error : IntegError) (t : SinkTrouble) → r ≡ Err error
    → error ≡ of_sink t
    → IfErr r (λ e. (e ≡ Memory) ⊎ (e ≡ SayFault))
refused {T} r error t is same =
    let P : Result T IntegError → Type 0 = λ q. IfErr q (λ e. (e ≡ Memory) ⊎ (e ≡ SayFault)) in
    let Q : IntegError → Type 0 = λ e. (e ≡ Memory) ⊎ (e ≡ SayFault) in
    subst P (sym is) (subst Q (sym same) (memory_or_say t))
