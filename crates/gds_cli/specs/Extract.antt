-- What an extract and its parts have said when they end.
use Rattle.std.specs.Prelude.{ℕ, ◌≡◌, Bool, true, false, List, ◌++◌, take, Option, Some, Result, MatchResult}
use Rattle.host_model.specs.Files.{Contents, saying}
use Rattle.m_key.specs.Globals.{Globals}
use Rattle.m_text.specs.Extract.{zwr}
use Rattle.gds_cli.specs.Thin.{IsThinWith}
use Rattle.gds_cli.specs.Answer.{Reply, ExtractDue}

-- What is told now: all of the text was said, or where the work broke off a front of it. Both files stayed.
abbrev pub SaidOf : {T E : Type 0} → Contents → List ℕ → Result T E → Option Contents → Type 0
SaidOf c text result now =
    MatchResult result (λ _. now ≡ Some (saying c text)) (λ _. (n : ℕ) × (now ≡ Some (saying c (take n text))))

-- what was said is a front of the reply that is due
pub record BreaksOff (c : Contents) (due : Reply → Type 0) (now : Option Contents) : Type 0 where
  pub said : List ℕ
  pub told : now ≡ Some (saying c said)
  pub front : (reply : Reply) → due reply → (n : ℕ) × (said ≡ take n reply.text)

-- the text of thin files was said, and nothing of other files
abbrev pub SaysThin : List ℕ → Contents → Bool → Option Contents → Type 0
SaysThin stamp c true now = (m : Globals) × IsThinWith c.db c.images m × (now ≡ Some (saying c (zwr m stamp)))
SaysThin stamp c false now = ((m : Globals) → IsThinWith c.db c.images m → ⊥) × (now ≡ Some c)

abbrev pub ExtractEnds : {E : Type 0} → List ℕ → Contents → Result Bool E → Option Contents → Type 0
ExtractEnds stamp c result now =
    MatchResult result (λ thin. SaysThin stamp c thin now) (λ _. BreaksOff c (ExtractDue stamp c) now)

-- A front of the text was said, and what is left of it waits.
abbrev pub Waits : Contents → List ℕ → List ℕ → Option Contents → Type 0
Waits c text waiting now = (said : List ℕ) × (now ≡ Some (saying c said)) × (text ≡ said ++ waiting)

-- Of a text that waited a front was said and the rest waits, or where the work broke off some of it was said.
abbrev pub SaysOn : {T E : Type 0} → Contents → List ℕ → List ℕ → Result T E → Option Contents → Type 0
SaysOn c old new result now =
    MatchResult result (λ _. Waits c old new now) (λ _. (n : ℕ) × (now ≡ Some (saying c (take n old))))
