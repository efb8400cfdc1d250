-- What each crash leaves while the files are made: a chain from stage to stage.
use Rattle.std.proofs.Common.{◌≡◌, ℕ, ◌≤◌, List, [], ◌++◌, Option, Result, Ok, Err, OnOk, drop, take, replicate, refl}
use Rattle.std.proofs.Common.{sym, ap, subst, ◌∙◌, inl, lit<}
use Rattle.host_model.specs.declared.host.FileNo.TheVariants.{Db, Images}
use Rattle.host_model.specs.Disk.{Changes, Settles, Torn, during, written}
use Rattle.host_model.specs.Files.{Contents, with_file}
use Rattle.host_model.specs.Moments.{EachLeft, HasCome, LeavesBy, LeavesOnly}
use Rattle.host_model.proofs.ChainLemmas.{come_and, come_by, come_from, come_now, come_same}
use Rattle.host_model.proofs.FileLemmas.{contents_agree}
use Rattle.host_model.proofs.MomentLemmas.{then_more, weaker}
use Rattle.host_model.proofs.OutcomeLemmas.{is_changed}
use Rattle.gds_header.specs.declared.header.Header.{Header}
use Rattle.gds_header.specs.Kinds.{IsWithinLimits}
use Rattle.gds_new.specs.NewDatabase.{new_database}
use Rattle.gds_recovery.specs.Found.{IsUnwritten}
use Rattle.gds_create.specs.Making.{AnyBytes, IsBeingMade, IsUnderWay, KeepsFirst}
use Rattle.gds_create.specs.Newborn.{IsEmpty, IsNewborn, closed_images}
use Rattle.gds_create.proofs.StageLemmas.{database_begun, label_first}
use Rattle.gds_create.proofs.StateLemmas.{begun, being_newborn, empty_refused, labelled_yet, not_begun, unlabelled_yet}

-- the database file with zeros in the label's place
abbrev blank : Contents → List ℕ
blank c = written 0 (replicate 8 0) c.db

-- the database file was changed, and is under way
being_made : (h : Header) (now before c : Contents) (R : List ℕ → List ℕ → Type 0) (bytes : List ℕ)
    → before ≡ with_file Db bytes now → Changes Db R before c → ((new : List ℕ) → R bytes new → IsUnderWay h new)
    → IsBeingMade h now c
being_made h now before c R bytes is step under = record {
  db = under c.db (subst (λ (b : Contents). R b.db c.db) is step.changed);
  images = step.other Images (λ e. cc) ∙ ap (λ (b : Contents). b.images) is;
  said = step.said ∙ ap (λ (b : Contents). b.said) is;
}

module _ {H : Type 0} {moment : H → ℕ} {left_since : H → ℕ → Contents → Type 0}
    (longer : (host : H) (t u : ℕ) (c : Contents) → t ≤ u → left_since host u c → left_since host t c)
    (h : Header) (now : Contents) where
  -- the start
  pub making_from : (host : H) → IsUnderWay h now.db → EachLeft moment left_since host (λ c. c ≡ now)
      → HasCome moment left_since host host (IsBeingMade h now) (λ c. c ≡ with_file Db now.db now)
  making_from host under each =
      come_from host (IsBeingMade h now) (λ c. c ≡ now) each
      (λ c is. subst (λ (b : Contents). IsBeingMade h now b) (sym is)
      (record { db = under; images = refl; said = refl }))

  -- a change of the database file, which isn't stable yet
  pub making_more : {old mid new : H} (R : List ℕ → List ℕ → Type 0) (bytes : List ℕ)
      → HasCome moment left_since old mid (IsBeingMade h now) (λ c. c ≡ with_file Db bytes now)
      → LeavesBy moment left_since (Changes Db R) mid new
      → ((new : List ℕ) → R bytes new → IsUnderWay h new)
      → HasCome moment left_since old new (IsBeingMade h now)
      (during (Changes Db R) (λ c. c ≡ with_file Db bytes now))
  making_more R bytes come by under =
      come_by longer (Changes Db R) come by (λ c is. being_made h now is.0 c R bytes is.1 is.2 under)

  -- now it is
  pub making_settled : {old new : H} (R : List ℕ → List ℕ → Type 0) (bytes more : List ℕ)
      → HasCome moment left_since old new (IsBeingMade h now)
      (during (Changes Db R) (λ c. c ≡ with_file Db bytes now))
      → Settles Db more (left_since new (moment new))
      → HasCome moment left_since old new (IsBeingMade h now) (λ c. c ≡ with_file Db more now)
  making_settled R bytes more come settled =
      come_now (λ c. c ≡ with_file Db more now) (come_and (λ c. c.db ≡ more) come settled)
      (λ c is. is_changed Db more (with_file Db bytes now) c is.0 is.1)

  -- the zeros in the label's place, and then all behind them
  module _ (empty : now.db ≡ []) where
    pub zeros_come : {old new : H} → EachLeft moment left_since old (λ c. c ≡ now)
        → LeavesBy moment left_since (Changes Db (Torn 0 8)) old new
        → HasCome moment left_since old new (IsBeingMade h now)
        (during (Changes Db (Torn 0 8)) (λ c. c ≡ with_file Db now.db now))
    zeros_come {old} each by =
        making_more (Torn 0 8) now.db (making_from old (not_begun h now.db empty) each) by
        (λ new torn. begun h 8 now.db new (lit< tt) empty torn)

    pub rest_come : {old mid new : H} → EachLeft moment left_since old (λ c. c ≡ now)
        → LeavesBy moment left_since (Changes Db (Torn 0 8)) old mid
        → Settles Db (written 0 (replicate 8 0) now.db) (left_since mid (moment mid))
        → LeavesBy moment left_since (Changes Db (KeepsFirst 8)) mid new
        → HasCome moment left_since old new (IsBeingMade h now)
        (during (Changes Db (KeepsFirst 8)) (λ c. c ≡ with_file Db (written 0 (replicate 8 0) now.db) now))
    rest_come each by settled more =
        making_more (KeepsFirst 8) (blank now)
        (making_settled (Torn 0 8) now.db (blank now) (zeros_come each by) settled) more
        (λ new keeps. unlabelled_yet h (blank now) new (database_begun now.db empty) keeps)

    -- and the label
    pub label_come : {old mid then new : H} → IsWithinLimits h → EachLeft moment left_since old (λ c. c ≡ now)
        → LeavesBy moment left_since (Changes Db (Torn 0 8)) old mid
        → Settles Db (written 0 (replicate 8 0) now.db) (left_since mid (moment mid))
        → LeavesBy moment left_since (Changes Db (KeepsFirst 8)) mid then
        → Settles Db (written 0 (replicate 8 0) now.db ++ drop 8 (new_database h)) (left_since then (moment then))
        → LeavesBy moment left_since (Changes Db (Torn 0 8)) then new
        → HasCome moment left_since old new (IsBeingMade h now) (during (Changes Db (Torn 0 8))
        (λ c. c ≡ with_file Db (written 0 (replicate 8 0) now.db ++ drop 8 (new_database h)) now))
    label_come limits each by settled more settled_too last =
        making_more (Torn 0 8) (blank now ++ drop 8 (new_database h))
        (making_settled (KeepsFirst 8) (blank now) (blank now ++ drop 8 (new_database h))
        (rest_come each by settled more)
        settled_too) last
        (λ new torn. labelled_yet h (blank now) new (label_first h limits) (database_begun now.db empty) torn)

-- ---- Both files.

-- Empty files are refused, and so is an empty database file beside any file of images.
pub empty_newborn : (h : Header) (before c : Contents) → c.db ≡ [] → c.said ≡ before.said → IsNewborn h before c
empty_newborn h before c empty said = record { finds = inl (empty_refused c empty); said = said }

-- Where a crash leaves two empty files, it leaves what the host tells.
pub each_empty : (before : Contents) (left : Contents → Type 0) → IsEmpty before → ((c : Contents) → left c → IsEmpty c)
    → ((c : Contents) → left c → c.said ≡ before.said) → (c : Contents) → left c → c ≡ before
each_empty before left empty each said c is =
    let also = each c is in
    contents_agree c before (also.db ∙ sym empty.db) (also.images ∙ sym empty.images) (said c is)

module _ {H : Type 0} {moment : H → ℕ} {left_since : H → ℕ → Contents → Type 0}
    (longer : (host : H) (t u : ℕ) (c : Contents) → t ≤ u → left_since host u c → left_since host t c)
    (h : Header) (before : Contents) where
  -- while nothing is written
  pub unwritten_come : {contents : H → Option Contents} {old new : H}
      → IsUnwritten contents moment left_since old new → EachLeft moment left_since old IsEmpty
      → EachLeft moment left_since old (λ c. c.said ≡ before.said)
      → HasCome moment left_since old new (IsNewborn h before) (IsNewborn h before)
  unwritten_come {contents} {old} unwritten each said =
      come_same longer
      (come_from old (IsNewborn h before) (IsNewborn h before)
      (λ c left. empty_newborn h before c (each c left).db (said c left)) (λ c p. p))
      unwritten.crash

module _ {H : Type 0} {moment : H → ℕ} {left_since : H → ℕ → Contents → Type 0}
    (longer : (host : H) (t u : ℕ) (c : Contents) → t ≤ u → left_since host u c → left_since host t c)
    (h : Header) (before : Contents) (empty : IsEmpty before) where
  -- while the file of images is made
  pub images_come : {old new : H} → EachLeft moment left_since old (λ c. c ≡ before)
      → LeavesBy moment left_since (Changes Images AnyBytes) old new
      → HasCome moment left_since old new (IsNewborn h before) (during (Changes Images AnyBytes) (λ c. c ≡ before))
  images_come {old} each by =
      come_by longer (Changes Images AnyBytes)
      (come_from old (IsNewborn h before) (λ c. c ≡ before) each
      (λ c is. empty_newborn h before c (ap (λ (b : Contents). b.db) is ∙ empty.db) (ap (λ (b : Contents). b.said) is)))
      by (λ c is. newborn c is.0 is.1 is.2)
    where
      newborn : (c b : Contents) → b ≡ before → Changes Images AnyBytes b c → IsNewborn h before c
      newborn c b is step =
          empty_newborn h before c
          (step.other Db (λ e. cc) ∙ ap (λ (b : Contents). b.db) is ∙ empty.db)
          (step.said ∙ ap (λ (b : Contents). b.said) is)

  -- when it is there
  pub images_settled : {old new : H} → HasCome moment left_since old new (IsNewborn h before)
      (during (Changes Images AnyBytes) (λ c. c ≡ before))
      → Settles Images closed_images (left_since new (moment new))
      → HasCome moment left_since old new (IsNewborn h before) (λ c. c ≡ with_file Images closed_images before)
  images_settled come settled =
      come_now (λ c. c ≡ with_file Images closed_images before) (come_and (λ c. c.images ≡ closed_images) come settled)
      (λ c is. is_changed Images closed_images before c is.0 is.1)

  -- and the database file behind it
  pub database_come : {old mid new : H} {Q : Contents → Type 0} → IsWithinLimits h
      → HasCome moment left_since old mid (IsNewborn h before) Q
      → LeavesOnly moment left_since mid new (IsBeingMade h (with_file Images closed_images before))
      → HasCome moment left_since old new (IsNewborn h before) (IsNewborn h before)
  database_come {old} {mid} {new} limits come more =
      let newborn : (c : Contents) → IsBeingMade h (with_file Images closed_images before) c → IsNewborn h before c =
      λ c is. being_newborn h limits before c (ap (take 9) is.images) is.db is.said in
      let whole : LeavesOnly moment left_since old new (IsNewborn h before) =
      then_more moment left_since old mid new (IsNewborn h before) come.only
      (weaker moment left_since mid new (IsBeingMade h (with_file Images closed_images before)) (IsNewborn h before)
      newborn more) in
      record { only = whole; each = λ c left. whole.each c (longer new (moment old) (moment new) c whole.later left) }

-- a crash leaves of a file what it left before calls that change the other
pub images_stay : {H : Type 0} {moment : H → ℕ} {left_since : H → ℕ → Contents → Type 0}
    (longer : (host : H) (t u : ℕ) (c : Contents) → t ≤ u → left_since host u c → left_since host t c)
    {mid new : H} (R : List ℕ → List ℕ → Type 0) (bytes : List ℕ)
    → Settles Images bytes (left_since mid (moment mid)) → LeavesBy moment left_since (Changes Db R) mid new
    → Settles Images bytes (left_since new (moment new))
images_stay {H} {moment} longer {mid} {new} R bytes settled by c left =
    let was = by.each c (longer new (moment mid) (moment new) c by.later left) in
    was.2.other Images (λ e. cc) ∙ settled was.0 was.1

-- what follows of two clauses of a call that succeeded
pub ok_both : {T E P Q R : Type 0} (result : Result T E) → OnOk result P → OnOk result Q → (P → Q → R) → OnOk result R
ok_both (Ok x) p q so = so p q
ok_both (Err e) p q so = tt
