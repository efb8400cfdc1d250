-- What a call leaves that changes no file and says a reply.
use Rattle.std.specs.Prelude.{◌≡◌, ℕ, List, take, MatchBool}
use Rattle.host_model.specs.Files.{Contents, saying}
use Rattle.gds_cli.specs.declared.status.Status.{Status}
use Rattle.gds_cli.specs.Answer.{Reply}
use Rattle.gds_cli.specs.Status.{is_break}

-- A front of the text was said, and both files stayed.
abbrev pub SaysFrontOf : List ℕ → Contents → Contents → Type 0
SaysFrontOf text before after = (n : ℕ) × (after ≡ saying before (take n text))

-- The reply is said, whole, and its status given, or at a break no more is said than a front of the reply.
abbrev pub Answers : Reply → Status → Contents → Contents → Type 0
Answers reply status before after =
    MatchBool (is_break status) (SaysFrontOf reply.text before after)
    ((status ≡ reply.status) × (after ≡ saying before reply.text))

-- One of these replies is due: it is said, whole, and its status given. At a break some bytes were said, which are a
-- front of each of them.
abbrev pub OnlySays : (Reply → Type 0) → Status → Contents → Contents → Type 0
OnlySays due status before after =
    MatchBool (is_break status)
    ((said : List ℕ) × (after ≡ saying before said)
    × ((reply : Reply) → due reply → (n : ℕ) × (said ≡ take n reply.text)))
    ((reply : Reply) × due reply × (status ≡ reply.status) × (after ≡ saying before reply.text))
