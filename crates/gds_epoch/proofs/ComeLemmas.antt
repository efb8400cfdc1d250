-- A property that each crash leaves, and that calls keep.
use Rattle.std.proofs.Common.{ℕ, ◌≤◌}
use Rattle.host_model.specs.Disk.{during}
use Rattle.host_model.specs.Files.{Contents}
use Rattle.host_model.specs.Moments.{EachLeft, HasCome, LeavesBy}
use Rattle.host_model.proofs.ChainLemmas.{by_then, come_by, come_from, come_now}

module _ {H : Type 0} {moment : H → ℕ} {left_since : H → ℕ → Contents → Type 0}
    (longer : (host : H) (t u : ℕ) (c : Contents) → t ≤ u → left_since host u c → left_since host t c) where
  -- calls by a step that keeps what each crash leaves
  pub come_keeping : {old mid new : H} {P Q : Contents → Type 0} (step : Contents → Contents → Type 0)
      → HasCome moment left_since old mid P Q → LeavesBy moment left_since step mid new
      → ((before c : Contents) → Q before → step before c → Q c) → ((c : Contents) → Q c → P c)
      → HasCome moment left_since old new P Q
  come_keeping {old} {mid} {new} {P} {Q} step come by kept within =
      let stays : (c : Contents) → during step Q c → Q c = λ c is. kept is.0 c is.1 is.2 in
      come_now Q (come_by longer step come by (λ c is. within c (stays c is))) stays

  -- calls that leave what was left by a step which keeps it
  pub keeps : (P : Contents → Type 0) (step : Contents → Contents → Type 0) (old new : H)
      → ((before c : Contents) → P before → step before c → P c)
      → EachLeft moment left_since old P → LeavesBy moment left_since step old new
      → HasCome moment left_since old new P P
  keeps P step old new kept each by = come_keeping step (come_from old P P each (λ c p. p)) by kept (λ c p. p)

  -- one call more, by a step that goes with those before
  pub by_more : (step call : Contents → Contents → Type 0) (old mid new : H)
      → ((a b c : Contents) → step a b → step b c → step a c) → ((a b : Contents) → call a b → step a b)
      → LeavesBy moment left_since step old mid → LeavesBy moment left_since call mid new
      → LeavesBy moment left_since step old new
  by_more step call old mid new composes is first second =
      by_then longer step first second (λ a b s. s) (λ a b c s t. composes a b c s (is b c t))
