-- What holds since the first two calls, which make both files stable.
use Rattle.std.proofs.Common.{◌≡◌, ◌⊎◌, ℕ, ◌≤◌, inl, inr, ⊎_elim, arith}
use Rattle.std.proofs.lemmas.Bool.{cases_lt}
use Rattle.host_model.specs.Failures.{counted}
use Rattle.host_model.specs.Files.{Contents}
use Rattle.host_model.specs.Moments.{EachLeft, LeavesOnly, LeavesTheSame}
use Rattle.gds_recovery.specs.Found.{IsPastBarrier, LeavesSinceBarrier}

module _ {H : Type 0} {moment : H → ℕ} {left_since : H → ℕ → Contents → Type 0} where
  -- What each crash leaves now
  pub past_now : {old new : H} {P : Contents → Type 0} → IsPastBarrier moment left_since old new P
      → EachLeft moment left_since new P
  past_now {old} {new} past c left = past.since (moment new) past.made c left

  -- More time goes by, in which a crash leaves files with P too.
  module _ (longer : (host : H) (t u : ℕ) (c : Contents) → t ≤ u → left_since host u c → left_since host t c) where
    pub past_barrier : {old mid new : H} {P : Contents → Type 0} → moment mid ≡ counted (counted (moment old))
        → LeavesTheSame moment left_since old mid → LeavesOnly moment left_since mid new P
        → IsPastBarrier moment left_since old new P
    past_barrier {old} {mid} {new} {P} clock same only = record {
      later = omega (arith, same.later, only.later);
      made = omega (arith, clock, only.later);
      since = λ t from c left. only.each c (longer new (moment mid) t c (omega (arith, clock, from)) left);
      before = λ t c le left. ⊎_elim (λ was. inl (same.nothing_new t c le was)) inr
          (only.before t c (omega (arith, le, same.later)) left);
    }

    pub past_more : {old mid new : H} {P Q : Contents → Type 0} → ((c : Contents) → P c → Q c)
        → IsPastBarrier moment left_since old mid P → LeavesOnly moment left_since mid new Q
        → IsPastBarrier moment left_since old new Q
    past_more {old} {mid} {new} {P} {Q} so past only = record {
      later = omega (arith, past.later, only.later);
      made = omega (arith, past.made, only.later);
      since = λ t from c left. ⊎_elim
          (λ early. ⊎_elim (λ was. so c (past.since t from c was)) (λ q. q)
          (only.before t c (omega (arith, early)) left))
          (λ late. only.each c (longer new (moment mid) t c late left))
          (cases_lt t (moment mid));
      before = λ t c le left. ⊎_elim
          (λ was. ⊎_elim inl (λ p. inr (so c p)) (past.before t c le was)) inr
          (only.before t c (omega (arith, le, past.later)) left);
    }

  pub past_weaker : {old new : H} {P Q : Contents → Type 0} → ((c : Contents) → P c → Q c)
      → IsPastBarrier moment left_since old new P → IsPastBarrier moment left_since old new Q
  past_weaker so past = record {
    later = past.later;
    made = past.made;
    since = λ t from c left. so c (past.since t from c left);
    before = λ t c le left. ⊎_elim inl (λ p. inr (so c p)) (past.before t c le left);
  }

  -- With a reason or files that follow from those before
  pub barrier_weaker : {early later : Type 0} {old new : H} {P Q : Contents → Type 0} → (early → later)
      → ((c : Contents) → P c → Q c) → LeavesSinceBarrier moment left_since early old new P
      → LeavesSinceBarrier moment left_since later old new Q
  barrier_weaker {early = early} {old = old} {new = new} why so leaves =
      ⊎_elim (λ (none : early × LeavesTheSame moment left_since old new). inl (why none.0, none.1))
      (λ past. inr (past_weaker so past)) leaves

  -- It didn't end early.
  pub barrier_past : {early : Type 0} {old new : H} {P : Contents → Type 0} → (early → ⊥)
      → LeavesSinceBarrier moment left_since early old new P → IsPastBarrier moment left_since old new P
  barrier_past {early = early} {old = old} {new = new} none leaves =
      ⊎_elim (λ (ended : early × LeavesTheSame moment left_since old new). absurd (none ended.0)) (λ past. past) leaves
