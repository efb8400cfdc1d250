-- What a host tells in an epoch, call by call.
use Rattle.std.proofs.Common.{◌≡◌, ℕ, ◌+◌, ◌^◌, ◌<◌, ◌≤◌, List, [], ◌∷◌, length, Option}
use Rattle.std.proofs.Common.{Some, None, sym, subst, ap, ◌∙◌, arith}
use Rattle.std.specs.Prelude.{All}
use Rattle.std.proofs.lemmas.List.Elements.{All-weaker}
use Rattle.host_model.specs.declared.host.FileNo.TheVariants.{Db, Images}
use Rattle.host_model.specs.Disk.{Changes, Settles, written}
use Rattle.host_model.specs.Files.{Contents}
use Rattle.host_model.specs.Told.{TellsOn}
use Rattle.host_model.proofs.FileLemmas.{file_changed}
use Rattle.host_model.proofs.FrameLemmas.{TellsOn-some, TellsOn-then, TellsOn-weaker}
use Rattle.gds_images.specs.Group.{Image, gate_behind, group_bytes}
use Rattle.gds_images.specs.Outcome.{IsClosed}
use Rattle.gds_epoch.specs.Epoch.{IsDone, IsReady, StaysPatched}
use Rattle.gds_epoch.specs.Waiting.{LiesWithin, WaitingUnit, patched, place_of}
use Rattle.gds_epoch.proofs.EpochLemmas.{closed_at_last, grouped_long, opened_long, with_gate, with_group}
use Rattle.gds_epoch.proofs.StepLemmas.{closed_long}
use Rattle.gds_epoch.proofs.ToldLemmas.{told_before, told_then, told_weaker}
use Rattle.gds_epoch.proofs.UnitLemmas.{UnitsTorn, patched_agrees}

module _ (size : ℕ) (units : List WaitingUnit) where
  -- A change of the file of images alone leaves the patched file, and so do torn writes of the units.
  pub images_stay : (R : List ℕ → List ℕ → Type 0) (x y : Contents) → Changes Images R x y → StaysPatched size units x y
  images_stay R x y step =
      let same = step.other Db (λ e. cc) in
      record { len = ap length same; db = ap (patched size units) same; said = step.said }

  units_stay : (x y : Contents) → All (LiesWithin size (length x.db)) units → UnitsTorn size units x y
      → StaysPatched size units x y
  units_stay x y inside step =
      let ends : length y.db ≤ length x.db =
      step.changed.no_longer (length x.db) (omega arith) (All-weaker (LiesWithin size (length x.db))
      (λ w. place_of size w.unit + length w.bytes ≤ length x.db) (λ w is. is.within) units inside) in
      let len : length y.db ≡ length x.db = omega (arith, ends, step.changed.no_shorter) in
      record {
        len = len;
        db = patched_agrees size units y.db x.db len (subst (λ n. All (LiesWithin size n) units) (sym len) inside)
            (λ i below none. step.changed.outside i (omega (arith, below, len)) none);
        said = step.said;
      }

  StaysPatched-then : (x y z : Contents)
      → StaysPatched size units x y → StaysPatched size units y z → StaysPatched size units x z
  StaysPatched-then x y z first second =
      record { len = second.len ∙ first.len; db = second.db ∙ first.db; said = second.said ∙ first.said }

  -- one call more
  pub stays_first : (a b : Option Contents) (R : List ℕ → List ℕ → Type 0)
      → TellsOn a b (Changes Images R) → TellsOn a b (StaysPatched size units)
  stays_first a b R told = TellsOn-weaker a b (Changes Images R) (StaysPatched size units) (images_stay R) told

  pub stays_images : (a b c : Option Contents) (R : List ℕ → List ℕ → Type 0)
      → TellsOn a b (StaysPatched size units) → TellsOn b c (Changes Images R) → TellsOn a c (StaysPatched size units)
  stays_images a b c R so_far told =
      TellsOn-then a b c (StaysPatched size units) (Changes Images R) (StaysPatched size units)
      (λ x y z first step. StaysPatched-then x y z first (images_stay R y z step)) so_far told

  pub stays_units : (a b c : Option Contents)
      → ((x : Contents) → a ≡ Some x → All (LiesWithin size (length x.db)) units)
      → TellsOn a b (StaysPatched size units) → TellsOn b c (UnitsTorn size units)
      → TellsOn a c (StaysPatched size units)
  stays_units a b c inside so_far told =
      told_then a b c (StaysPatched size units) (UnitsTorn size units) (StaysPatched size units)
      (λ x y z tells first step.
      StaysPatched-then x y z first
      (units_stay y z (subst (λ n. All (LiesWithin size n) units) (sym first.len) (inside x tells)) step))
      so_far told

-- The group is written, and the gate's byte behind it.
pub tells_group : (n : ℕ) (images : List Image) (a b : Option Contents)
    → TellsOn a b (Changes Images (λ old new. new ≡ written 9 (group_bytes 8 n images) old))
    → TellsOn a b (λ x y. y ≡ with_group n images x)
tells_group n images a b told =
    TellsOn-weaker a b (Changes Images (λ old new. new ≡ written 9 (group_bytes 8 n images) old))
    (λ x y. y ≡ with_group n images x)
    (λ x y step. file_changed Images (written 9 (group_bytes 8 n images) x.images) x y step step.changed) told

pub tells_gate : (f : Contents → Contents) (byte : ℕ) (a b c : Option Contents)
    → TellsOn a b (λ x y. y ≡ f x) → TellsOn b c (Changes Images (λ old new. new ≡ written 8 (byte ∷ []) old))
    → TellsOn a c (λ x y. y ≡ with_gate byte (f x))
tells_gate f byte a b c so_far told =
    TellsOn-then a b c (λ x y. y ≡ f x) (Changes Images (λ old new. new ≡ written 8 (byte ∷ []) old))
    (λ x y. y ≡ with_gate byte (f x))
    (λ x y z is step.
    file_changed Images (written 8 (byte ∷ []) y.images) y z step step.changed ∙ ap (with_gate byte) is) so_far told

-- the file with the units in their places
abbrev pub with_units : ℕ → List WaitingUnit → Contents → Contents
with_units size units c = record c { db = patched size units c.db }

pub tells_units : (f : Contents → Contents) (size : ℕ) (units : List WaitingUnit) (a b c : Option Contents)
    → TellsOn a b (λ x y. y ≡ f x) → TellsOn b c (λ x y. y ≡ with_units size units x)
    → TellsOn a c (λ x y. y ≡ with_units size units (f x))
tells_units f size units a b c so_far told =
    TellsOn-then a b c (λ x y. y ≡ f x) (λ x y. y ≡ with_units size units x)
    (λ x y. y ≡ with_units size units (f x)) (λ x y z is step. step ∙ ap (with_units size units) is) so_far told

pub group_place : (size n : ℕ) (images : List Image) (units : List WaitingUnit) (x : Contents)
    → IsReady size n images units x → 8 < length x.images
group_place size n images units x ready = omega (arith, closed_long x.images ready.rest.closed)

-- what the calls ask of what is told, and what is told at the end
module _ (size n : ℕ) (images : List Image) (units : List WaitingUnit) (zero : Option Contents)
    (ready : (x : Contents) → zero ≡ Some x → IsReady size n images units x)
    (short : n < 2 ^ 63) (ends : gate_behind 8 images < 2 ^ 63) where
  module _ (one : Option Contents) (untold_one : zero ≡ None → one ≡ None)
      (told_one : TellsOn zero one (λ x y. y ≡ with_group n images x)) where
    pub gate_place : (y : Contents) → one ≡ Some y → 8 < length y.images
    gate_place y tells =
        let before = told_before zero one (λ x y. y ≡ with_group n images x) y untold_one tells told_one in
        let x = before.0 in
        let long = grouped_long size n images units x (ready x before.1) short ends in
        omega (arith, long, ap (λ (c : Contents). length c.images) before.2)

  module _ (two : Option Contents) (untold_two : zero ≡ None → two ≡ None)
      (told_two : TellsOn zero two (λ x y. y ≡ with_gate 1 (with_group n images x))) where
    pub units_inside : (y : Contents) → two ≡ Some y → All (LiesWithin size (length y.db)) units
    units_inside y tells =
        let before = told_before zero two (λ x y. y ≡ with_gate 1 (with_group n images x)) y untold_two tells
        told_two in
        subst (λ (c : Contents). All (LiesWithin size (length c.db)) units) (sym before.2)
        (ready before.0 before.1).inside

    -- the database file before the units are written
    pub units_settled : (three : Contents → Type 0)
        → ((y : Contents) → two ≡ Some y → Settles Db (patched size units y.db) three)
        → (x : Contents) → zero ≡ Some x → Settles Db (patched size units x.db) three
    units_settled three settled x tells =
        let after = TellsOn-some zero two (λ x y. y ≡ with_gate 1 (with_group n images x)) x tells told_two in
        subst (λ (c : Contents). Settles Db (patched size units c.db) three) after.2 (settled after.0 after.1)

  module _ (three : Option Contents) (untold_three : zero ≡ None → three ≡ None)
      (told_three : TellsOn zero three (λ x y. y ≡ with_units size units (with_gate 1 (with_group n images x)))) where
    pub last_place : (y : Contents) → three ≡ Some y → 8 < length y.images
    last_place y tells =
        let before = told_before zero three (λ x y. y ≡ with_units size units (with_gate 1 (with_group n images x))) y
        untold_three tells told_three in
        let x = before.0 in
        let long = opened_long size n images units x (ready x before.1) short ends in
        omega (arith, long, ap (λ (c : Contents). length c.images) before.2)

    pub told_done : (four : Option Contents)
        → TellsOn three four (Changes Images (λ old new. new ≡ written 8 (0 ∷ []) old))
        → TellsOn zero four (IsDone size units)
    told_done four told =
        let f : Contents → Contents = λ x. with_units size units (with_gate 1 (with_group n images x)) in
        told_weaker zero four (λ x y. y ≡ with_gate 0 (f x)) (IsDone size units)
        (λ x y tells is. record {
          db = ap (λ (c : Contents). c.db) is;
          closed = subst (λ (c : Contents). IsClosed c.images) (sym is)
              (closed_at_last size n images units x (ready x tells) short ends);
          said = ap (λ (c : Contents). c.said) is;
        })
        (tells_gate f 0 zero three four told_three told)

-- what was settled of the file of images, by what was told at the start
pub images_settled : (f : Contents → Contents) (byte : ℕ) (a b : Option Contents) (left : Contents → Type 0)
    → TellsOn a b (λ x y. y ≡ f x)
    → ((y : Contents) → b ≡ Some y → Settles Images (written 8 (byte ∷ []) y.images) left)
    → (x : Contents) → a ≡ Some x → Settles Images (with_gate byte (f x)).images left
images_settled f byte a b left told settled x tells =
    let after = TellsOn-some a b (λ x y. y ≡ f x) x tells told in
    subst (λ (c : Contents). Settles Images (written 8 (byte ∷ []) c.images) left) after.2 (settled after.0 after.1)
