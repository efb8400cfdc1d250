-- The count of what was taken, and what the source has left, from one moment to the next.
use Rattle.std.proofs.Common.{◌≡◌, ℕ, ◌+◌, ◌<◌, ◌≤◌, ◌↔◌, List, [], ◌++◌, length, take, Option, None, Some, IfSome, refl, sym}
use Rattle.std.proofs.Common.{ap, ◌∙◌, arith, append_assoc, length-append, length-take-le}
use Rattle.host_model.specs.Files.{Gives}
use Rattle.host_model.specs.Told.{TellsOn}
use Rattle.host_model.proofs.FrameLemmas.{TellsOn-same, TellsOn-then, TellsOn-weaker}
use Rattle.std.specs.Io.KnownBytes.{prepend_known}
use Rattle.gds_lines.specs.declared.TheConstants.{INPUT_LIMIT}
use Rattle.gds_lines.specs.LinesState.{Counts, IsAboveLimit, LinesState, Reads}

pub Counts-refl : (n : ℕ) (text : List ℕ) → Counts n n text text
Counts-refl n text = record { given = ([], refl); counted = refl }

pub Counts-trans : (m n k : ℕ) (a b c : List ℕ) → Counts m n a b → Counts n k b c → Counts m k a c
Counts-trans m n k a b c first second = record {
  given = (
    first.given.0 ++ second.given.0,
    first.given.1 ∙ ap (λ l. first.given.0 ++ l) second.given.1 ∙ sym (append_assoc first.given.0 second.given.0 c),
  );
  counted = omega (arith, first.counted, second.counted);
}

-- the source gave n bytes
pub counts_given : (out : List ℕ) (n : ℕ) (a b : Option (List ℕ))
    → n ≤ length out → TellsOn a b (Gives out n) → TellsOn a b (Counts 0 n)
counts_given out n a b few tells =
    TellsOn-weaker a b (Gives out n) (Counts 0 n)
    (λ x y gives.
    let long = length-append (take n out) y in
    let short = length-take-le n out few in
    record { given = (take n out, gives.given); counted = omega (arith, ap length gives.given, long, short) })
    tells

-- it gave nothing
pub counts_same : (n : ℕ) (a b : Option (List ℕ)) → b ≡ a → TellsOn a b (Counts n n)
counts_same n a b same = TellsOn-same a b (Counts n n) (λ x. Counts-refl n x) same

-- so many more than before
pub counts_more : (before n now : ℕ) (a b : Option (List ℕ))
    → now ≡ before + n → TellsOn a b (Counts 0 n) → TellsOn a b (Counts before now)
counts_more before n now a b e tells =
    TellsOn-weaker a b (Counts 0 n) (Counts before now)
    (λ x y counts. record { given = counts.given; counted = omega (arith, counts.counted, e) })
    tells

pub counts_then : (m n k : ℕ) (a b c : Option (List ℕ))
    → TellsOn a b (Counts m n) → TellsOn b c (Counts n k) → TellsOn a c (Counts m k)
counts_then m n k a b c first second =
    TellsOn-then a b c (Counts m n) (Counts n k) (Counts m k) (λ x y z. Counts-trans m n k x y z) first second

-- what is held stands before what the source has left
pub counts_ahead : (held : List ℕ) (passed taken : ℕ) (a : Option (List ℕ))
    → taken ≡ passed + length held
    → TellsOn a (prepend_known held a) (λ rest text. Counts passed taken text rest)
counts_ahead held passed taken None e = tt
counts_ahead held passed taken (Some rest) e =
    record { given = (held, refl); counted = omega (arith, e, length-append held rest) }

-- an input from its first call on
pub reads_start : (input : List ℕ) (lines : LinesState)
    → lines.untaken ≡ Some input → lines.taken ≡ 0 → Reads input lines
reads_start input lines tells none = rw (tells, none) (Counts-refl 0 input)

pub reads_on : (input : List ℕ) (old new : LinesState)
    → Reads input old → TellsOn old.untaken new.untaken (Counts old.taken new.taken) → Reads input new
reads_on input old new reads counts =
    counts_then 0 old.taken new.taken (Some input) old.untaken new.untaken reads counts

pub reads_above : (input rest : List ℕ) (lines : LinesState)
    → Reads input lines → lines.untaken ≡ Some rest → (INPUT_LIMIT < lines.taken) ↔ IsAboveLimit input rest
reads_above input rest lines reads tells =
    let counts : Counts 0 lines.taken input rest = rw tells at reads in
    (λ above. omega (arith, counts.counted, above), λ above. omega (arith, counts.counted, above))

-- An input of which more was taken than the limit is longer than that.
pub input_above : (input untaken : Option (List ℕ)) (taken : ℕ)
    → TellsOn input untaken (Counts 0 taken) → INPUT_LIMIT < taken → IfSome input (λ text. INPUT_LIMIT < length text)
input_above None untaken taken counts above = tt
input_above (Some text) None taken counts above = absurd counts
input_above (Some text) (Some rest) taken counts above = omega (arith, counts.counted, above)
