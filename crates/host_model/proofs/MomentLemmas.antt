-- How what holds of each moment composes over calls.
use Rattle.std.proofs.Common.{ℕ, ◌≤◌, List, Option, arith, inl, inr, ⊎_elim}
use Rattle.host_model.specs.declared.host.FileNo.{FileNo}
use Rattle.host_model.specs.Files.{Contents}
use Rattle.host_model.specs.Disk.{Changes, Cut, Elapses, Follows, SaysSome, Torn, during}
use Rattle.host_model.specs.Failures.{Failures}
use Rattle.host_model.specs.Frames.{ChangedNothing, WasCalled}
use Rattle.host_model.specs.Moments.{EachLeft, EachSince, LeavesBy, LeavesOnly, LeavesTheSame}
use Rattle.host_model.proofs.FileLemmas.{Changes-refl, Cut-refl, SaysSome-refl, Torn-refl}

module _ {H : Type 0} (moment : H → ℕ) (left_since : H → ℕ → Contents → Type 0) where
  -- one call: what it may leave has P, and so has what a crash before it leaves
  pub one_call : (old new : H) (leaves P : Contents → Type 0)
      → Elapses (moment old) (moment new) (left_since old) (left_since new) leaves
      → ((c : Contents) → left_since old (moment old) c → P c) → ((c : Contents) → leaves c → P c)
      → LeavesOnly moment left_since old new P
  one_call old new leaves P time had has = record {
    later = time.later;
    each = λ c left. ⊎_elim (had c) (has c) (time.nothing_else (moment old) c (omega arith) left);
    before = λ t c le left. ⊎_elim inl (λ l. inr (has c l)) (time.nothing_else t c le left);
  }

  -- no call
  pub no_call : (host : H) (P : Contents → Type 0)
      → EachLeft moment left_since host P → LeavesOnly moment left_since host host P
  no_call host P each = record { later = omega arith; each = each; before = λ t c le left. inl left }

  -- one stretch of time after another
  pub then_more : (old mid new : H) (P : Contents → Type 0)
      → LeavesOnly moment left_since old mid P → LeavesOnly moment left_since mid new P
      → LeavesOnly moment left_since old new P
  then_more old mid new P first second = record {
    later = omega (arith, first.later, second.later);
    each = λ c left. ⊎_elim (first.each c) (λ p. p) (second.before (moment old) c first.later left);
    before = λ t c le left. ⊎_elim (first.before t c le) inr (second.before t c (omega (arith, le, first.later)) left);
  }

  pub weaker : (old new : H) (P Q : Contents → Type 0)
      → ((c : Contents) → P c → Q c) → LeavesOnly moment left_since old new P → LeavesOnly moment left_since old new Q
  weaker old new P Q so kept = record {
    later = kept.later;
    each = λ c left. so c (kept.each c left);
    before = λ t c le left. ⊎_elim inl (λ p. inr (so c p)) (kept.before t c le left);
  }

  -- the moments since an earlier one, and those of a stretch of time behind them
  pub since_more : (t : ℕ) (old new : H) (P : Contents → Type 0)
      → t ≤ moment old → EachSince moment left_since old t P → LeavesOnly moment left_since old new P
      → EachSince moment left_since new t P
  since_more t old new P le since more c left = ⊎_elim (since c) (λ p. p) (more.before t c le left)

  -- a host that crashes treat as before
  pub LeavesTheSame-refl : (host : H) → LeavesTheSame moment left_since host host
  LeavesTheSame-refl host = record {
    later = omega arith;
    nothing_new = λ t c le left. left;
    keeps = λ t c le left. left;
    stays = λ c left. left;
  }

  pub LeavesTheSame-trans : (a b c : H) → LeavesTheSame moment left_since a b → LeavesTheSame moment left_since b c
      → LeavesTheSame moment left_since a c
  LeavesTheSame-trans a b c first second = record {
    later = omega (arith, first.later, second.later);
    nothing_new = λ t x le left.
        first.nothing_new t x le (second.nothing_new t x (omega (arith, le, first.later)) left);
    keeps = λ t x le left. second.keeps t x (omega (arith, le, first.later)) (first.keeps t x le left);
    stays = λ x left. first.stays x (second.stays x left);
  }

  -- a call that changed nothing
  pub leaves_the_same : (contents : H → Option Contents) (counts : H → Failures) (old new : H)
      → ((t u : ℕ) (c : Contents) → t ≤ u → left_since old u c → left_since old t c)
      → ChangedNothing contents moment counts left_since old new → LeavesTheSame moment left_since old new
  leaves_the_same contents counts old new longer kept = record {
    later = kept.called.time.later;
    nothing_new = λ t c le left.
        ⊎_elim (λ l. l) (λ l. longer t (moment old) c le (kept.crash c l)) (kept.called.time.nothing_else t c le left);
    keeps = kept.called.time.keeps;
    stays = kept.crash;
  }

  -- a stretch of time in which crashes find no difference
  pub same_only : (old new : H) (P : Contents → Type 0)
      → LeavesTheSame moment left_since old new → EachLeft moment left_since old P
      → LeavesOnly moment left_since old new P
  same_only old new P same each = record {
    later = same.later;
    each = λ c left. each c (same.nothing_new (moment old) c (omega arith) left);
    before = λ t c le left. inl (same.nothing_new t c le left);
  }

  -- one call by a step that may also change nothing
  pub by_call : (step : Contents → Contents → Type 0) (old new : H) (leaves : Contents → Type 0)
      → Elapses (moment old) (moment new) (left_since old) (left_since new) leaves
      → ((c : Contents) → step c c) → ((c : Contents) → leaves c → during step (left_since old (moment old)) c)
      → LeavesBy moment left_since step old new
  by_call step old new leaves time same has =
      one_call old new leaves (during step (left_since old (moment old))) time (λ c left. (c, left, same c)) has

  -- a write
  pub by_write : (counts : H → Failures) (file : FileNo) (at n : ℕ) (old new : H)
      → Follows (Changes file (Torn at n)) (left_since old (moment old)) (left_since new (moment new))
      → WasCalled moment counts left_since old new (left_since new (moment new))
      → LeavesBy moment left_since (Changes file (Torn at n)) old new
  by_write counts file at n old new crash called =
      by_call (Changes file (Torn at n)) old new (left_since new (moment new)) called.time
      (Changes-refl file (Torn at n) (Torn-refl at n)) crash

  -- a cut
  pub by_cut : (counts : H → Failures) (file : FileNo) (n : ℕ) (old new : H)
      → Follows (Changes file (Cut n)) (left_since old (moment old)) (left_since new (moment new))
      → WasCalled moment counts left_since old new (left_since new (moment new))
      → LeavesBy moment left_since (Changes file (Cut n)) old new
  by_cut counts file n old new crash called =
      by_call (Changes file (Cut n)) old new (left_since new (moment new)) called.time
      (Changes-refl file (Cut n) (Cut-refl n)) crash

  -- a saying
  pub by_saying : (counts : H → Failures) (bytes : List ℕ) (old new : H)
      → WasCalled moment counts left_since old new (during (SaysSome bytes) (left_since old (moment old)))
      → LeavesBy moment left_since (SaysSome bytes) old new
  by_saying counts bytes old new called =
      by_call (SaysSome bytes) old new (during (SaysSome bytes) (left_since old (moment old))) called.time
      (SaysSome-refl bytes) (λ c step. step)

  -- no call, and a stretch of time in which crashes find no difference
  pub by_none : (step : Contents → Contents → Type 0) (host : H)
      → ((c : Contents) → step c c) → LeavesBy moment left_since step host host
  by_none step host same =
      no_call host (during step (left_since host (moment host))) (λ c left. (c, left, same c))

  pub by_same : (step : Contents → Contents → Type 0) (old new : H)
      → ((c : Contents) → step c c) → LeavesTheSame moment left_since old new
      → LeavesBy moment left_since step old new
  by_same step old new same stays =
      same_only old new (during step (left_since old (moment old))) stays (λ c left. (c, left, same c))

  -- a step that promises less
  pub by_weaker : (R S : Contents → Contents → Type 0) (old new : H)
      → ((x y : Contents) → R x y → S x y) → LeavesBy moment left_since R old new
      → LeavesBy moment left_since S old new
  by_weaker R S old new so by =
      weaker old new (during R (left_since old (moment old))) (during S (left_since old (moment old)))
      (λ c is. (is.0, is.1, so is.0 c is.2)) by

  -- a call that changed nothing
  pub by_kept : (contents : H → Option Contents) (counts : H → Failures) (step : Contents → Contents → Type 0)
      (old new : H) → ((c : Contents) → step c c) → ChangedNothing contents moment counts left_since old new
      → LeavesBy moment left_since step old new
  by_kept contents counts step old new same kept =
      by_call step old new (left_since new (moment new)) kept.called.time same
      (λ c left. (c, kept.crash c left, same c))
