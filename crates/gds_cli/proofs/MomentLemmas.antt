-- What a crash leaves of a call that says something, and changes no file.
use Rattle.std.proofs.Common.{◌⊎◌, ℕ, ◌≤◌, List, ⊎_elim, arith, inl, inr}
use Rattle.host_model.specs.Disk.{SaysSome, during}
use Rattle.host_model.specs.Files.{Contents}
use Rattle.host_model.specs.Moments.{LeavesBy, LeavesTheSame}
use Rattle.host_model.proofs.FileLemmas.{SaysSome-refl}

module _ {H : Type 0} {moment : H → ℕ} {left_since : H → ℕ → Contents → Type 0}
    (longer : (host : H) (t u : ℕ) (c : Contents) → t ≤ u → left_since host u c → left_since host t c) where
  -- crashes find no difference, and then something is said
  pub same_then : (text : List ℕ) {old mid now : H} → LeavesTheSame moment left_since old mid
      → LeavesBy moment left_since (SaysSome text) mid now → LeavesBy moment left_since (SaysSome text) old now
  same_then text {old} {mid} {now} same by =
      let step : Contents → Contents → Type 0 = SaysSome text in
      let earlier : (c : Contents) → during step (left_since mid (moment mid)) c
      → during step (left_since old (moment old)) c = λ c is. (is.0, same.stays is.0 is.1, is.2) in
      record {
        later = omega (arith, same.later, by.later);
        each = λ c left.
            ⊎_elim
            (λ was. (c, same.nothing_new (moment old) c (omega arith) was, SaysSome-refl text c)) (earlier c)
            (by.before (moment old) c same.later left);
        before = λ t c le left.
            ⊎_elim (λ was. inl (same.nothing_new t c le was)) (λ is. inr (earlier c is))
            (by.before t c (omega (arith, le, same.later)) left);
      }
