-- What each crash leaves while two files are stored one after the other, and then something is said.
use Rattle.std.proofs.Common.{◌≡◌, ℕ, ◌≤◌, List, length, inl, inr}
use Rattle.host_model.specs.declared.host.FileNo.TheVariants.{Db, Images}
use Rattle.host_model.specs.Disk.{Changes, Settles, Torn, during, written}
use Rattle.host_model.specs.Files.{Contents}
use Rattle.host_model.specs.Moments.{EachLeft, HasCome, LeavesBy}
use Rattle.host_model.specs.Order.{IsStoredInOrder, with_front}
use Rattle.host_model.proofs.ChainLemmas.{come_and, come_by, come_from, come_now}
use Rattle.host_model.proofs.FileLemmas.{Changes-refl, Torn-refl}
use Rattle.host_model.proofs.OutcomeLemmas.{is_changed}

module _ {H : Type 0} {moment : H → ℕ} {left_since : H → ℕ → Contents → Type 0}
    (longer : (host : H) (t u : ℕ) (c : Contents) → t ≤ u → left_since host u c → left_since host t c)
    (now : Contents) (first second done : List ℕ) where
  -- the first file
  pub first_stored : (old new : H) → EachLeft moment left_since old (λ c. c ≡ now)
      → LeavesBy moment left_since (Changes Images (Torn 0 (length first))) old new
      → HasCome moment left_since old new (IsStoredInOrder now first second done)
      (during (Changes Images (Torn 0 (length first))) (λ before. before ≡ now))
  first_stored old new stable by =
      let P : Contents → Type 0 = IsStoredInOrder now first second done in
      let same : (c : Contents) → Changes Images (Torn 0 (length first)) c c =
      Changes-refl Images (Torn 0 (length first)) (Torn-refl 0 (length first)) in
      come_by longer (Changes Images (Torn 0 (length first)))
      (come_from old P (λ c. c ≡ now) stable (λ c is. inl (c, is, same c))) by (λ c is. inl is)

  -- and the second
  pub second_stored : (old mid new : H) → EachLeft moment left_since old (λ c. c ≡ now)
      → LeavesBy moment left_since (Changes Images (Torn 0 (length first))) old mid
      → Settles Images (written 0 first now.images) (left_since mid (moment mid))
      → LeavesBy moment left_since (Changes Db (Torn 0 (length second))) mid new
      → HasCome moment left_since old new (IsStoredInOrder now first second done)
      (during (Changes Db (Torn 0 (length second))) (λ before. before ≡ with_front Images first now))
  second_stored old mid new stable one settled two =
      let stored = come_now (λ c. c ≡ with_front Images first now)
      (come_and (λ c. c.images ≡ written 0 first now.images) (first_stored old mid stable one) settled)
      (λ c is. is_changed Images (written 0 first now.images) now c is.0 is.1) in
      come_by longer (Changes Db (Torn 0 (length second))) stored two (λ c is. inr (inl is))

  -- both are stable
  pub both_stored : (old mid new : H) → EachLeft moment left_since old (λ c. c ≡ now)
      → LeavesBy moment left_since (Changes Images (Torn 0 (length first))) old mid
      → Settles Images (written 0 first now.images) (left_since mid (moment mid))
      → LeavesBy moment left_since (Changes Db (Torn 0 (length second))) mid new
      → Settles Db (written 0 second now.db) (left_since new (moment new))
      → HasCome moment left_since old new (IsStoredInOrder now first second done)
      (λ c. c ≡ with_front Db second (with_front Images first now))
  both_stored old mid new stable one settled two settled_too =
      come_now (λ c. c ≡ with_front Db second (with_front Images first now))
      (come_and (λ c. c.db ≡ written 0 second now.db) (second_stored old mid new stable one settled two) settled_too)
      (λ c is. is_changed Db (written 0 second now.db) (with_front Images first now) c is.0 is.1)
