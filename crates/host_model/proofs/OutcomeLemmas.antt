-- What each crash leaves after one call of a host more, and after a barrier.
use Rattle.std.proofs.Common.{◌≡◌, ℕ, List, ◌++◌, take, Option, None, Some, Result, Ok, Err, IfSome, OnOk}
use Rattle.std.proofs.Common.{refl, ◌∙◌, sym, ap, subst}
use Rattle.host_model.specs.declared.host.FileNo.{FileNo}
use Rattle.host_model.specs.declared.host.FileNo.TheVariants.{Db, Images}
use Rattle.host_model.specs.Files.{Contents, file_of, saying, with_file}
use Rattle.host_model.specs.Disk.{Changes, Cut, Follows, SaysSome, Settles, Stays, Torn, during, written}
use Rattle.host_model.specs.Moments.{EachLeft}
use Rattle.host_model.specs.Told.{TellsOn}
use Rattle.host_model.specs.Outcomes.{AfterCut, AfterSaid, AfterSaying, AfterSync, AfterWrite}
use Rattle.host_model.proofs.FileLemmas.{contents_agree, file_changed}
use Rattle.host_model.proofs.FrameLemmas.{TellsOn-some}

-- a fact of a host that may tell, where it tells
pub if_told : (told : Option Contents) (P : Contents → Type 0)
    → ((now : Contents) → told ≡ Some now → P now) → IfSome told P
if_told None P so = tt
if_told (Some now) P so = so now refl

-- what a clause says of a host that tells this
pub told_is : (told : Option Contents) (now : Contents) (P : Contents → Type 0)
    → told ≡ Some now → IfSome told P → P now
told_is told now P tells is = subst (λ o. IfSome o P) tells is

-- Where all was said, a saying that said some of the bytes said all.
pub said_whole : (bytes : List ℕ) (before c now : Contents)
    → SaysSome bytes before c → before.said ≡ now.said → c.said ≡ now.said ++ bytes → c ≡ saying before bytes
said_whole bytes before c now step same whole =
    contents_agree c (saying before bytes) (ap (λ (x : Contents). x.db) step.1)
    (ap (λ (x : Contents). x.images) step.1) (whole ∙ ap (λ (said : List ℕ). said ++ bytes) (sym same))

module _ {H : Type 0} (moment : H → ℕ) (left_since : H → ℕ → Contents → Type 0) where
  -- a write, a cut or a saying
  pub each_after : (step : Contents → Contents → Type 0) (Q : Contents → Type 0) (old new : H)
      → EachLeft moment left_since old Q
      → Follows step (left_since old (moment old)) (left_since new (moment new))
      → EachLeft moment left_since new (during step Q)
  each_after step Q old new each crash c left =
      let before = crash c left in (before.0, each before.0 before.1, before.2)

  pub each_write : (file : FileNo) (at n : ℕ) (Q : Contents → Type 0) (old new : H)
      → EachLeft moment left_since old Q
      → Follows (Changes file (Torn at n)) (left_since old (moment old)) (left_since new (moment new))
      → EachLeft moment left_since new (AfterWrite file at n Q)
  each_write file at n Q old new each crash = each_after (Changes file (Torn at n)) Q old new each crash

  pub each_cut : (file : FileNo) (n : ℕ) (Q : Contents → Type 0) (old new : H)
      → EachLeft moment left_since old Q
      → Follows (Changes file (Cut n)) (left_since old (moment old)) (left_since new (moment new))
      → EachLeft moment left_since new (AfterCut file n Q)
  each_cut file n Q old new each crash = each_after (Changes file (Cut n)) Q old new each crash

  pub each_saying : (bytes : List ℕ) (Q : Contents → Type 0) (old new : H)
      → EachLeft moment left_since old Q
      → Follows (SaysSome bytes) (left_since old (moment old)) (left_since new (moment new))
      → EachLeft moment left_since new (AfterSaying bytes Q)
  each_saying bytes Q old new each crash = each_after (SaysSome bytes) Q old new each crash

  -- a saying that succeeded
  pub each_said : (bytes : List ℕ) (Q : Contents → Type 0) (old new : H) (now : Contents)
      → EachLeft moment left_since old Q
      → Follows (SaysSome bytes) (left_since old (moment old)) (left_since new (moment new))
      → EachLeft moment left_since old (λ c. c.said ≡ now.said)
      → EachLeft moment left_since new (λ c. c.said ≡ now.said ++ bytes)
      → EachLeft moment left_since new (AfterSaid bytes Q)
  each_said bytes Q old new now each crash old_said new_said c left =
      let before = crash c left in (
        before.0,
        each before.0 before.1,
        said_whole bytes before.0 c now before.2 (old_said before.0 before.1) (new_said c left),
      )

  -- a call that changed nothing: a read, a length, a sync
  pub each_kept : (Q : Contents → Type 0) (old new : H)
      → EachLeft moment left_since old Q → Stays (left_since old (moment old)) (left_since new (moment new))
      → EachLeft moment left_since new Q
  each_kept Q old new each stays c left = each c (stays c left)

  -- a sync that succeeded, over a host that tells
  pub each_sync : (file : FileNo) (Q : Contents → Type 0) (old new : H) (told : Option Contents) (now : Contents)
      → EachLeft moment left_since old Q → Stays (left_since old (moment old)) (left_since new (moment new))
      → told ≡ Some now → IfSome told (λ c. Settles file (file_of c file) (left_since new (moment new)))
      → EachLeft moment left_since new (AfterSync file (file_of now file) Q)
  each_sync file Q old new told now each stays tells settled c left =
      let P : Contents → Type 0 = λ x. Settles file (file_of x file) (left_since new (moment new)) in
      (each c (stays c left), told_is told now P tells settled c left)

-- both files are stable, and all was said: a crash leaves what the host holds
pub each_settled : (now : Contents) (left : Contents → Type 0)
    → Settles Db now.db left → Settles Images now.images left → ((c : Contents) → left c → c.said ≡ now.said)
    → (c : Contents) → left c → c ≡ now
each_settled now left db images said c is = contents_agree c now (db c is) (images c is) (said c is)

-- All was stable, one file was changed, and now it is stable again: a crash leaves that change and no other.
pub is_changed : (file : FileNo) {R : List ℕ → List ℕ → Type 0} (bytes : List ℕ) (now c : Contents)
    → during (Changes file R) (λ before. before ≡ now) c → file_of c file ≡ bytes → c ≡ with_file file bytes now
is_changed file bytes now c step is = file_changed file bytes step.0 c step.2 is ∙ ap (with_file file bytes) step.1

-- what a host tells after a write, a cut or a saying that succeeded
pub told_written : (file : FileNo) (at : ℕ) (bytes : List ℕ) (old new : Option Contents) (now : Contents)
    → old ≡ Some now → TellsOn old new (Changes file (λ old new. new ≡ written at bytes old))
    → new ≡ Some (with_file file (written at bytes (file_of now file)) now)
told_written file at bytes old new now tells told =
    let after = TellsOn-some old new (Changes file (λ old new. new ≡ written at bytes old)) now tells told in
    after.1 ∙ ap Some (file_changed file (written at bytes (file_of now file)) now after.0 after.2 after.2.changed)

pub told_cut : (file : FileNo) (n : ℕ) (old new : Option Contents) (now : Contents)
    → old ≡ Some now → TellsOn old new (Changes file (λ old new. new ≡ take n old))
    → new ≡ Some (with_file file (take n (file_of now file)) now)
told_cut file n old new now tells told =
    let after = TellsOn-some old new (Changes file (λ old new. new ≡ take n old)) now tells told in
    after.1 ∙ ap Some (file_changed file (take n (file_of now file)) now after.0 after.2 after.2.changed)

pub told_said : (bytes : List ℕ) (old new : Option Contents) (now : Contents)
    → old ≡ Some now → TellsOn old new (λ old new. new ≡ saying old bytes) → new ≡ Some (saying now bytes)
told_said bytes old new now tells told =
    let after = TellsOn-some old new (λ old new. new ≡ saying old bytes) now tells told in after.1 ∙ ap Some after.2

-- what follows of a call's clause where the call succeeded
pub when_ok : {T E P : Type 0} (F : Result T E → Type 0) (result : Result T E)
    → F result → ((x : T) → F (Ok x) → P) → OnOk result P
when_ok F (Ok x) is so = so x is
when_ok F (Err e) is so = tt
