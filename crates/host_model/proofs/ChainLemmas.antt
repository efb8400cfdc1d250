-- How far a sequence of calls has come: a chain of predicates, each from the one before by one call of the host.
use Rattle.std.proofs.Common.{◌≡◌, ℕ, ◌≤◌, List, Option, Some, IfSome}
use Rattle.host_model.specs.declared.host.FileNo.{FileNo}
use Rattle.host_model.specs.Files.{Contents, file_of, saying}
use Rattle.host_model.specs.Disk.{Changes, Cut, Follows, SaysSome, Settles, Torn, during}
use Rattle.host_model.specs.Failures.{Failures}
use Rattle.host_model.specs.Frames.{ChangedNothing, WasCalled}
use Rattle.host_model.specs.Moments.{EachLeft, HasCome, LeavesBy, LeavesTheSame}
use Rattle.host_model.specs.Outcomes.{AfterCut, AfterSaid, AfterSaying, AfterSync, AfterWrite}
use Rattle.host_model.proofs.MomentLemmas.{by_cut, by_saying, by_write, leaves_the_same, no_call, same_only, then_more}
use Rattle.host_model.proofs.MomentLemmas.{weaker}
use Rattle.host_model.proofs.OutcomeLemmas.{each_said, each_sync}

module _ {H : Type 0} {moment : H → ℕ} {left_since : H → ℕ → Contents → Type 0} where
  -- the start of a chain
  pub come_from : (host : H) (P Q : Contents → Type 0)
      → EachLeft moment left_since host Q → ((c : Contents) → Q c → P c) → HasCome moment left_since host host P Q
  come_from host P Q each within =
      record { only = no_call moment left_since host P (λ c left. within c (each c left)); each = each }

  -- another property of what each crash now leaves
  pub come_now : {old now : H} {P Q : Contents → Type 0} (R : Contents → Type 0)
      → HasCome moment left_since old now P Q → ((c : Contents) → Q c → R c)
      → HasCome moment left_since old now P R
  come_now R come so = record { only = come.only; each = λ c left. so c (come.each c left) }

  -- one fact more of what each crash now leaves
  pub come_and : {old now : H} {P Q : Contents → Type 0} (S : Contents → Type 0)
      → HasCome moment left_since old now P Q → EachLeft moment left_since now S
      → HasCome moment left_since old now P (λ c. Q c × S c)
  come_and S come also = record { only = come.only; each = λ c left. (come.each c left, also c left) }

  -- a weaker property of each moment
  pub come_weaker : {old now : H} {P Q : Contents → Type 0} (R : Contents → Type 0)
      → HasCome moment left_since old now P Q → ((c : Contents) → P c → R c)
      → HasCome moment left_since old now R Q
  come_weaker {old} {now} {P} R come so =
      record { only = weaker moment left_since old now P R so come.only; each = come.each }

  -- one chain after another
  pub come_then : {old mid now : H} {P Q R : Contents → Type 0}
      → HasCome moment left_since old mid P Q → HasCome moment left_since mid now P R
      → HasCome moment left_since old now P R
  come_then {old} {mid} {now} {P} first second =
      record { only = then_more moment left_since old mid now P first.only second.only; each = second.each }

module _ {H : Type 0} {moment : H → ℕ} {left_since : H → ℕ → Contents → Type 0}
    (longer : (host : H) (t u : ℕ) (c : Contents) → t ≤ u → left_since host u c → left_since host t c) where
  -- what each crash now leaves has P already
  pub come_had : {old now : H} {P Q : Contents → Type 0}
      → HasCome moment left_since old now P Q → EachLeft moment left_since now P
  come_had {old} {now} come c left =
      come.only.each c (longer now (moment old) (moment now) c come.only.later left)

  -- calls that leave what was left by a step
  pub come_by : {old mid new : H} {P Q : Contents → Type 0} (step : Contents → Contents → Type 0)
      → HasCome moment left_since old mid P Q → LeavesBy moment left_since step mid new
      → ((c : Contents) → during step Q c → P c) → HasCome moment left_since old new P (during step Q)
  come_by {old} {mid} {new} {P} {Q} step come by within =
      let makes : (c : Contents) → during step (left_since mid (moment mid)) c → during step Q c =
      λ c is. (is.0, come.each is.0 is.1, is.2) in
      record {
        only = then_more moment left_since old mid new P come.only
            (weaker moment left_since mid new (during step (left_since mid (moment mid))) P
            (λ c is. within c (makes c is)) by);
        each = λ c left. makes c (by.each c (longer new (moment mid) (moment new) c by.later left));
      }

  -- calls that crashes find no difference by
  pub come_same : {old mid new : H} {P Q : Contents → Type 0}
      → HasCome moment left_since old mid P Q → LeavesTheSame moment left_since mid new
      → HasCome moment left_since old new P Q
  come_same {old} {mid} {new} {P} come same = record {
    only = then_more moment left_since old mid new P come.only
        (same_only moment left_since mid new P same (come_had come));
    each = λ c left. come.each c (same.stays c left);
  }

  -- a write
  pub come_write : {counts : H → Failures} {old mid new : H} {P Q : Contents → Type 0} (file : FileNo) (at n : ℕ)
      → HasCome moment left_since old mid P Q
      → Follows (Changes file (Torn at n)) (left_since mid (moment mid)) (left_since new (moment new))
      → WasCalled moment counts left_since mid new (left_since new (moment new))
      → ((c : Contents) → AfterWrite file at n Q c → P c)
      → HasCome moment left_since old new P (AfterWrite file at n Q)
  come_write {counts} {old} {mid} {new} file at n come crash called within =
      come_by (Changes file (Torn at n)) come
      (by_write moment left_since counts file at n mid new crash called) within

  -- a cut
  pub come_cut : {counts : H → Failures} {old mid new : H} {P Q : Contents → Type 0} (file : FileNo) (n : ℕ)
      → HasCome moment left_since old mid P Q
      → Follows (Changes file (Cut n)) (left_since mid (moment mid)) (left_since new (moment new))
      → WasCalled moment counts left_since mid new (left_since new (moment new))
      → ((c : Contents) → AfterCut file n Q c → P c)
      → HasCome moment left_since old new P (AfterCut file n Q)
  come_cut {counts} {old} {mid} {new} file n come crash called within =
      come_by (Changes file (Cut n)) come (by_cut moment left_since counts file n mid new crash called) within

  -- a saying, whether it succeeded or not
  pub come_saying : {counts : H → Failures} {old mid new : H} {P Q : Contents → Type 0} (bytes : List ℕ)
      → HasCome moment left_since old mid P Q
      → WasCalled moment counts left_since mid new (during (SaysSome bytes) (left_since mid (moment mid)))
      → ((c : Contents) → AfterSaying bytes Q c → P c)
      → HasCome moment left_since old new P (AfterSaying bytes Q)
  come_saying {counts} {old} {mid} {new} bytes come called within =
      come_by (SaysSome bytes) come (by_saying moment left_since counts bytes mid new called) within

  -- a saying that succeeded, over a host that tells
  pub come_said : {counts : H → Failures} {contents : H → Option Contents} {old mid new : H}
      {P Q : Contents → Type 0} (bytes : List ℕ) (now : Contents)
      → HasCome moment left_since old mid P Q
      → Follows (SaysSome bytes) (left_since mid (moment mid)) (left_since new (moment new))
      → WasCalled moment counts left_since mid new (during (SaysSome bytes) (left_since mid (moment mid)))
      → ((host : H) (now c : Contents) → contents host ≡ Some now → left_since host (moment host) c
      → c.said ≡ now.said)
      → contents mid ≡ Some now → contents new ≡ Some (saying now bytes)
      → ((c : Contents) → AfterSaying bytes Q c → P c)
      → HasCome moment left_since old new P (AfterSaid bytes Q)
  come_said {counts} {contents} {old} {mid} {new} {P} {Q} bytes now come crash called said_stays tells told within =
      let some : HasCome moment left_since old new P (AfterSaying bytes Q) = come_saying bytes come called within in
      record {
        only = some.only;
        each = each_said moment left_since bytes Q mid new now come.each crash
            (λ c left. said_stays mid now c tells left) (λ c left. said_stays new (saying now bytes) c told left);
      }

  -- a call that changed nothing: a read, a length, a sync that failed
  pub come_kept : {contents : H → Option Contents} {counts : H → Failures} {old mid new : H}
      {P Q : Contents → Type 0}
      → HasCome moment left_since old mid P Q → ChangedNothing contents moment counts left_since mid new
      → HasCome moment left_since old new P Q
  come_kept {contents} {counts} {old} {mid} {new} come kept =
      come_same come (leaves_the_same moment left_since contents counts mid new (longer mid) kept)

  -- a sync that succeeded, over a host that tells
  pub come_sync : {contents : H → Option Contents} {counts : H → Failures} {old mid new : H}
      {P Q : Contents → Type 0} (file : FileNo) (now : Contents)
      → HasCome moment left_since old mid P Q → ChangedNothing contents moment counts left_since mid new
      → contents mid ≡ Some now
      → IfSome (contents mid) (λ c. Settles file (file_of c file) (left_since new (moment new)))
      → HasCome moment left_since old new P (AfterSync file (file_of now file) Q)
  come_sync {contents} {counts} {old} {mid} {new} {P} {Q} file now come kept tells settled = record {
    only = (come_kept come kept).only;
    each = each_sync moment left_since file Q mid new (contents mid) now come.each kept.crash tells settled;
  }

  -- one stretch of time after another, where the steps of both compose
  pub by_then : {a b c : H} {R S : Contents → Contents → Type 0} (T : Contents → Contents → Type 0)
      → LeavesBy moment left_since R a b → LeavesBy moment left_since S b c
      → ((x y : Contents) → R x y → T x y) → ((x y z : Contents) → R x y → S y z → T x z)
      → LeavesBy moment left_since T a c
  by_then {a} {b} {c} {R} {S} T first second begins goes_on =
      let P : Contents → Type 0 = during T (left_since a (moment a)) in
      then_more moment left_since a b c P
      (weaker moment left_since a b (during R (left_since a (moment a))) P
      (λ y is. (is.0, is.1, begins is.0 y is.2)) first)
      (weaker moment left_since b c (during S (left_since b (moment b))) P
      (λ z is.
      let before = first.each is.0 (longer b (moment a) (moment b) is.0 first.later is.1) in
      (before.0, before.1, goes_on before.0 is.0 z before.2 is.2)) second)
