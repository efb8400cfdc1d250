-- An epoch, call by call: what each crash leaves so far, and what one now leaves.
use Rattle.std.proofs.Common.{◌≡◌, ◌≢◌, ◌⊎◌, ℕ, ◌^◌, ◌<◌, ◌≤◌, List, [], ◌∷◌, length, take, slice_index}
use Rattle.std.proofs.Common.{sym, subst, ap, ◌∙◌, inl, ⊎_elim, arith, length-take}
use Rattle.std.specs.Prelude.{All, Any}
use Rattle.std.proofs.lemmas.List.{take_min}
use Rattle.host_model.specs.declared.host.FileNo.TheVariants.{Db, Images}
use Rattle.host_model.specs.Disk.{Changes, Settles, Torn, written}
use Rattle.host_model.specs.Files.{Contents, with_file}
use Rattle.host_model.specs.Moments.{EachLeft, HasCome, LeavesBy}
use Rattle.host_model.proofs.ChainLemmas.{come_and, come_from, come_now}
use Rattle.host_model.proofs.FileLemmas.{written-Torn}
use Rattle.gds_header.specs.Fields.{image_length}
use Rattle.gds_images.specs.Group.{Image, gate_behind, group_bytes}
use Rattle.gds_images.specs.Outcome.{IsClosed, IsWhole}
use Rattle.gds_epoch.specs.Epoch.{FindsEither, IsImageAt, IsKept, IsReady, database_of}
use Rattle.gds_epoch.specs.State.{Finds, HasGroup, IsImaged, LeadsBack, Rests}
use Rattle.gds_epoch.specs.Waiting.{IsUnder, WaitingUnit, patched, place_of}
use Rattle.gds_epoch.proofs.ComeLemmas.{come_keeping}
use Rattle.gds_epoch.proofs.BackLemmas.{group_long}
use Rattle.gds_epoch.proofs.StateLemmas.{gate_finds, group_closed, open_finds, rest_finds}
use Rattle.gds_epoch.proofs.StepLemmas.{gate_torn, gate_written, group_torn, group_written, leads_gate_torn}
use Rattle.gds_epoch.proofs.StepLemmas.{rests_leads}
use Rattle.gds_epoch.proofs.UnitLemmas.{UnitsTorn}

-- the database of a file is a front of it
front_is : (file : List ℕ) → take (length (database_of file)) file ≡ database_of file
front_is file =
    let n = image_length file in
    ap (λ k. take k file) (length-take n file) ∙ take_min n file

-- A byte of the epoch's database under a unit lies in the range of an image.
under_imaged : (size n : ℕ) (images : List Image) (units : List WaitingUnit) (i : ℕ) → All (IsKept size n images) units
    → i < n → IsUnder size units i → IsImaged images i
under_imaged size n images units i kept below some =
    let unit = some.1 in
    let at = place_of size unit.unit in
    let under = some.4 in
    ⊎_elim
    (λ (is : Any (IsImageAt at (length unit.bytes)) images).
    let range = is.4 in
    (is.0, is.1, is.2, is.3, (omega (arith, range.place, under.0), omega (arith, range.place, range.len, under.1))))
    (λ (behind : n ≤ at). absurd (omega (arith, behind, under.0)))
    (subst (IsKept size n images) some.3 (kept some.0 unit some.2))

-- The epoch's database is in the file, with the group behind the gate, be that open or closed.
pub record IsGrouped (epoch : List ℕ) (images : List Image) (before c : Contents) : Type 0 where
  pub leads : LeadsBack epoch images before c
  pub front : take (length epoch) c.db ≡ epoch

-- The gate is open.
pub record IsOpened (epoch : List ℕ) (images : List Image) (before c : Contents) : Type 0 where
  pub leads : LeadsBack epoch images before c
  pub unclosed : slice_index c.images 8 ≢ 0

-- The units are in their places, be the gate open or closed.
pub record IsFilled (epoch : List ℕ) (images : List Image) (filled : List ℕ) (before c : Contents) : Type 0 where
  pub leads : LeadsBack epoch images before c
  pub is : c.db ≡ filled

-- what a host tells once the group is written, and once the gate is open
abbrev pub with_group : ℕ → List Image → Contents → Contents
with_group n images c = with_file Images (written 9 (group_bytes 8 n images) c.images) c

abbrev pub with_gate : ℕ → Contents → Contents
with_gate byte c = with_file Images (written 8 (byte ∷ []) c.images) c

module _ (size n : ℕ) (images : List Image) (units : List WaitingUnit) (now : Contents)
    (ready : IsReady size n images units now) (short : n < 2 ^ 63) (ends : gate_behind 8 images < 2 ^ 63) where
  abbrev epoch : List ℕ
  epoch = take n now.db

  abbrev next : List ℕ
  next = database_of (patched size units now.db)

  abbrev Either : Contents → Type 0
  Either = FindsEither size n units now

  abbrev Grouped : Contents → Type 0
  Grouped = IsGrouped epoch images now

  abbrev Opened : Contents → Type 0
  Opened = IsOpened epoch images now

  abbrev Filled : Contents → Type 0
  Filled = IsFilled epoch images (patched size units now.db) now

  epoch_long : length epoch ≡ n
  epoch_long = omega (arith, length-take n now.db, ready.long)

  finds_open : (c : Contents) → LeadsBack epoch images now c → slice_index c.images 8 ≢ 0 → Finds epoch now c
  finds_open c leads is_open =
      open_finds epoch images now ready.rest.whole ready.old (omega (arith, short, epoch_long)) ends c leads is_open

  finds_by_gate : (found : List ℕ) (c : Contents) → IsWhole found → LeadsBack epoch images now c
      → take (length found) c.db ≡ found → Finds epoch now c ⊎ Finds found now c
  finds_by_gate found c whole leads front =
      gate_finds epoch images now ready.rest.whole ready.old (omega (arith, short, epoch_long)) ends found c whole
      leads front

  has_group : HasGroup (length epoch) images (with_group n images now).images
  has_group =
      subst (λ k. HasGroup k images (with_group n images now).images) (sym epoch_long)
      (group_written n images now.images ready.rest.closed)

  opened_group : HasGroup (length epoch) images (with_gate 1 (with_group n images now)).images
  opened_group =
      let grouped = (with_group n images now).images in
      gate_torn epoch images grouped (written 8 (1 ∷ []) grouped) has_group (written-Torn 8 (1 ∷ []) grouped)

  pub grouped_long : 26 ≤ length (with_group n images now).images
  grouped_long = group_long epoch images (with_group n images now).images has_group

  pub opened_long : 26 ≤ length (with_gate 1 (with_group n images now)).images
  opened_long = group_long epoch images (with_gate 1 (with_group n images now)).images opened_group

  pub closed_at_last : IsClosed (with_gate 0 (with_gate 1 (with_group n images now))).images
  closed_at_last =
      let opened = (with_gate 1 (with_group n images now)).images in
      group_closed epoch images (written 8 (0 ∷ []) opened)
      (gate_torn epoch images opened (written 8 (0 ∷ []) opened) opened_group (written-Torn 8 (0 ∷ []) opened))
      (gate_written 0 opened (let long = opened_long in omega arith))

  grouped_finds : (c : Contents) → Grouped c → Either c
  grouped_finds c is = ⊎_elim inl inl (finds_by_gate epoch c ready.rest.whole is.leads is.front)

  opened_finds : (c : Contents) → Opened c → Either c
  opened_finds c is = inl (finds_open c is.leads is.unclosed)

  pub filled_finds : (c : Contents) → Filled c → Either c
  filled_finds c is =
      finds_by_gate next c ready.whole is.leads
      (ap (take (length next)) is.is ∙ front_is (patched size units now.db))

  -- A torn write of units is under the images.
  units_lead : (d c : Contents) → LeadsBack epoch images now d → UnitsTorn size units d c
      → LeadsBack epoch images now c
  units_lead d c leads step = record {
    group = subst (HasGroup (length epoch) images) (sym (step.other Images (λ e. cc))) leads.group;
    outside = record {
      long = omega (arith, leads.outside.long, step.changed.no_shorter);
      same = λ i below none.
          step.changed.outside i (omega (arith, below, leads.outside.long))
          (λ under. none (under_imaged size n images units i ready.kept (omega (arith, below, epoch_long)) under))
          ∙ leads.outside.same i below none;
    };
    said = step.said ∙ leads.said;
  }

  module _ {H : Type 0} {moment : H → ℕ} {left_since : H → ℕ → Contents → Type 0}
      (longer : (host : H) (t u : ℕ) (c : Contents) → t ≤ u → left_since host u c → left_since host t c)
      (old : H) where
    -- Behind the closed gate the group is being written.
    come_grouping : (new : H) → EachLeft moment left_since old (Rests epoch now)
        → LeavesBy moment left_since (Changes Images (Torn 9 (length (group_bytes 8 n images)))) old new
        → HasCome moment left_since old new Either (Rests epoch now)
    come_grouping new each by =
        let finds : (c : Contents) → Rests epoch now c → Either c = λ c rests. inl (rest_finds epoch now c rests) in
        come_keeping longer (Changes Images (Torn 9 (length (group_bytes 8 n images))))
        (come_from old Either (Rests epoch now) each finds) by
        (group_torn epoch now (length (group_bytes 8 n images))) finds

    come_grouped : (new : H) → HasCome moment left_since old new Either (Rests epoch now)
        → Settles Images (with_group n images now).images (left_since new (moment new))
        → HasCome moment left_since old new Either Grouped
    come_grouped new come settled =
        come_now Grouped (come_and (λ c. c.images ≡ (with_group n images now).images) come settled) (λ c is. record {
          leads = rests_leads epoch images now c is.0
              (subst (HasGroup (length epoch) images) (sym is.1) has_group);
          front = is.0.rest.front;
        })

    -- The gate is being opened.
    come_opening : (mid new : H) → HasCome moment left_since old mid Either Grouped
        → LeavesBy moment left_since (Changes Images (Torn 8 1)) mid new
        → HasCome moment left_since old new Either Grouped
    come_opening mid new come by =
        come_keeping longer (Changes Images (Torn 8 1)) come by (λ d c is step. record {
          leads = leads_gate_torn epoch images now d c is.leads step;
          front = ap (take (length epoch)) (step.other Db (λ e. cc)) ∙ is.front;
        }) grouped_finds

    come_opened : (new : H) → HasCome moment left_since old new Either Grouped
        → Settles Images (with_gate 1 (with_group n images now)).images (left_since new (moment new))
        → HasCome moment left_since old new Either Opened
    come_opened new come settled =
        let byte : slice_index (with_gate 1 (with_group n images now)).images 8 ≡ 1 =
        gate_written 1 (with_group n images now).images (let long = grouped_long in omega arith) in
        come_now Opened (come_and (λ c. c.images ≡ (with_gate 1 (with_group n images now)).images) come settled)
        (λ c is. record {
          leads = is.0.leads;
          unclosed = λ zero. omega (arith, sym zero ∙ ap (λ f. slice_index f 8) is.1 ∙ byte);
        })

    -- The units are being written.
    come_filling : (mid new : H) → HasCome moment left_since old mid Either Opened
        → LeavesBy moment left_since (UnitsTorn size units) mid new
        → HasCome moment left_since old new Either Opened
    come_filling mid new come by =
        come_keeping longer (UnitsTorn size units) come by (λ d c is step. record {
          leads = units_lead d c is.leads step;
          unclosed = subst (λ f. slice_index f 8 ≢ 0) (sym (step.other Images (λ e. cc))) is.unclosed;
        }) opened_finds

    come_filled : (new : H) → HasCome moment left_since old new Either Opened
        → Settles Db (patched size units now.db) (left_since new (moment new))
        → HasCome moment left_since old new Either Filled
    come_filled new come settled =
        come_now Filled (come_and (λ c. c.db ≡ patched size units now.db) come settled)
        (λ c is. record { leads = is.0.leads; is = is.1 })

    -- The gate is being closed.
    come_closing : (mid new : H) → HasCome moment left_since old mid Either Filled
        → LeavesBy moment left_since (Changes Images (Torn 8 1)) mid new
        → HasCome moment left_since old new Either Filled
    come_closing mid new come by =
        come_keeping longer (Changes Images (Torn 8 1)) come by (λ d c is step. record {
          leads = leads_gate_torn epoch images now d c is.leads step;
          is = step.other Db (λ e. cc) ∙ is.is;
        }) filled_finds

    pub each_rests : (new : H) → HasCome moment left_since old new Either Filled
        → Settles Images (with_gate 0 (with_gate 1 (with_group n images now))).images (left_since new (moment new))
        → EachLeft moment left_since new (Rests next now)
    each_rests new come settled c left =
        let is = come.each c left in
        let leads = is.leads in
        let byte : slice_index c.images 8 ≡ 0 =
        ap (λ f. slice_index f 8) (settled c left) ∙ gate_written 0 (with_gate 1 (with_group n images now)).images
        (let long = opened_long in omega arith) in
        record {
          rest = record {
            closed = group_closed epoch images c.images leads.group byte;
            whole = ready.whole;
            front = ap (take (length next)) is.is ∙ front_is (patched size units now.db);
          };
          said = leads.said;
        }

    -- The calls of an epoch, one behind the other, up to each of them.
    pub grouping_moments : (one : H) → EachLeft moment left_since old (Rests epoch now)
        → LeavesBy moment left_since (Changes Images (Torn 9 (length (group_bytes 8 n images)))) old one
        → HasCome moment left_since old one Either Either
    grouping_moments one each by =
        come_now Either (come_grouping one each by) (λ c rests. inl (rest_finds epoch now c rests))

    module _ (one two : H) (each : EachLeft moment left_since old (Rests epoch now))
        (by_one : LeavesBy moment left_since (Changes Images (Torn 9 (length (group_bytes 8 n images)))) old one)
        (one_settled : Settles Images (with_group n images now).images (left_since one (moment one)))
        (by_two : LeavesBy moment left_since (Changes Images (Torn 8 1)) one two) where
      gate_come : HasCome moment left_since old two Either Grouped
      gate_come = come_opening one two (come_grouped one (come_grouping one each by_one) one_settled) by_two

      pub gate_moments : HasCome moment left_since old two Either Either
      gate_moments = come_now Either gate_come grouped_finds

      module _ (three : H)
          (two_settled : Settles Images (with_gate 1 (with_group n images now)).images (left_since two (moment two)))
          (by_three : LeavesBy moment left_since (UnitsTorn size units) two three) where
        units_come : HasCome moment left_since old three Either Opened
        units_come = come_filling two three (come_opened two gate_come two_settled) by_three

        pub units_moments : HasCome moment left_since old three Either Either
        units_moments = come_now Either units_come opened_finds

        module _ (four : H)
            (three_settled : Settles Db (patched size units now.db) (left_since three (moment three)))
            (by_four : LeavesBy moment left_since (Changes Images (Torn 8 1)) three four) where
          pub end_come : HasCome moment left_since old four Either Filled
          end_come = come_closing three four (come_filled three units_come three_settled) by_four
