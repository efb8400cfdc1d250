-- The line of a fault, by what it is about.
use Rattle.std.proofs.Common.{◌≡◌, List, ℕ, [], ◌∷◌, ◌++◌, Result, Ok, Err, ap, ◌∙◌, append_assoc}
use Rattle.std.specs.Prelude.{OnOk, if◌then◌else◌}
use Rattle.std.specs.Result.{is_ok}
use Rattle.gds_law.specs.declared.fault.Fault.{Fault}
use Rattle.gds_law.specs.Kinds.{name_of}
use Rattle.gds_law.specs.Line as law
use Rattle.gds_law.specs.Line.{line_of}
use Rattle.gds_cli.specs.FaultText.{fault_line}

pub line_by : (f : Fault) (subject : law.Subject) → subject ≡ law.subject_of f.kind f.block
    → ((name_of f.kind ++ 32 ∷ []) ++ law.text_about subject f) ++ 10 ∷ [] ≡ fault_line f
unfolding fault_line line_of
line_by f subject is = ap (λ s. ((name_of f.kind ++ 32 ∷ []) ++ law.text_about s f) ++ 10 ∷ []) is

-- the pieces of a line behind a text, one after another
pub pieces : {T E : Type 0} (r : Result T E) (old first second third new name about whole : List ℕ)
    → first ≡ old ++ name → second ≡ first ++ 32 ∷ [] → third ≡ second ++ about
    → new ≡ (if is_ok r then third ++ 10 ∷ [] else third) → ((name ++ 32 ∷ []) ++ about) ++ 10 ∷ [] ≡ whole
    → OnOk r (new ≡ old ++ whole)
pieces (Err e) old first second third new name about whole p q s t line = tt
pieces (Ok x) old first second third new name about whole p q s t line =
    let spaced : second ≡ old ++ (name ++ 32 ∷ []) = q ∙ ap (λ b. b ++ 32 ∷ []) p ∙ append_assoc old name (32 ∷ []) in
    let placed : third ≡ old ++ ((name ++ 32 ∷ []) ++ about) =
    s ∙ ap (λ b. b ++ about) spaced ∙ append_assoc old (name ++ 32 ∷ []) about in
    t ∙ ap (λ b. b ++ 10 ∷ []) placed ∙ append_assoc old ((name ++ 32 ∷ []) ++ about) (10 ∷ [])
    ∙ ap (λ b. old ++ b) line
