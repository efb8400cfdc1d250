-- Units once a plan is carried out.
use Rattle.std.proofs.Common.{◌≡◌, ℕ, ◌+◌, ◌*◌, ◌<◌, ◌≤◌, ◌==◌, Bool, true, false, cond, ltb, List, [], ◌∷◌}
use Rattle.std.proofs.Common.{length, take}
use Rattle.std.proofs.Common.{Option, None, Some, refl, sym, ap, subst, ◌∙◌, arith, lit≤, length-take}
use Rattle.std.specs.Prelude.{All, if◌then◌else◌, nat_le, nat_lt}
use Rattle.std.proofs.lemmas.List.{take-take}
use Rattle.std.proofs.lemmas.List.Elements.{All-filter, All-head, All-tail, All-weaker}
use Rattle.std.proofs.lemmas.List.Sums.{count_by-le-length, length-filter}
use Rattle.std.specs.Option.{ForSome}
use Rattle.host_model.specs.Files.{Contents}
use Rattle.host_model.specs.Moments.{EachLeft, LeavesTheSame}
use Rattle.host_model.specs.Told.{TellsOn}
use Rattle.gds_header.specs.Fields.{fields_of, file_length_of, image_length}
use Rattle.gds_header.specs.Kinds.{ending_kind, unreadable}
use Rattle.gds_header.specs.declared.header.Header.{Header}
use Rattle.gds_header.specs.declared.kind.HeaderKind.TheVariants.{ShortFile}
use Rattle.gds_header.proofs.EndingLemmas.{ending_kind-readable, fields_of-front}
use Rattle.gds_images.specs.Group.{Image}
use Rattle.gds_images.specs.Outcome.{IsWhole}
use Rattle.gds_images.proofs.RestLemmas.{front_readable}
use Rattle.gds_recovery.proofs.TrimLemmas.{read_readable, trimmed_whole}
use Rattle.gds_epoch.specs.Epoch.{IsKept, database_of}
use Rattle.gds_epoch.specs.Waiting.{IsRising, LiesWithin, WaitingUnit, patched, with_plan, with_unit}
use Rattle.gds_epoch.proofs.PatchLemmas.{All-with_unit, patched-with_plan}
use Rattle.gds_epoch.proofs.UnitLemmas.{length-patched}
use Rattle.gds_units.specs.Held.{AreInPlace, AreUnits, IsHeld}
use Rattle.gds_units.specs.Keeping.{AddsTo, AreOld, EndsAtBlock, HasSize}
use Rattle.gds_units.specs.Durable.{AsBefore, Keeps}
use Rattle.gds_units.specs.Plan.{IsCarriedOut, IsPlan, header_after}
use Rattle.gds_units.specs.State.{file_with}
use Rattle.gds_units.proofs.DropLemmas.{up_to, up_to_front, up_to_inside, up_to_same, within_total}
use Rattle.gds_units.proofs.DurableLemmas.{found_before, keeps_same}
use Rattle.gds_units.proofs.HeldLemmas.{front_less, inside_more}
use Rattle.gds_units.proofs.KeepingLemmas.{all_kept_more}
use Rattle.gds_units.proofs.PatchedLemmas.{patched_alike, same_fields}
use Rattle.gds_units.proofs.ReadingLemmas.{after_reading}
use Rattle.gds_units.proofs.PlanLemmas.{fields_patched, limits_after, readable_patched}

-- ---- Units among which a plan's are put.

pub All-with_plan : (P : WaitingUnit → Type 0) (units plan : List WaitingUnit) → All P plan → All P units
    → All P (with_plan units plan)
All-with_plan P units [] new all = all
All-with_plan P units (x ∷ plan) new all =
    All-with_plan P (with_unit units x) plan (All-tail P x plan new)
    (All-with_unit P units x (All-head P x plan new) all)

length-with_unit : (units : List WaitingUnit) (new : WaitingUnit)
    → (0 < length (with_unit units new)) × (length (with_unit units new) ≤ length units + 1)
length-with_unit [] new = (omega arith, omega arith)
length-with_unit (x ∷ units) new =
    by_order (nat_lt x.unit new.unit) (x.unit == new.unit) (length-with_unit units new)
  where
    by_order : (less equal : Bool)
        → (0 < length (with_unit units new)) × (length (with_unit units new) ≤ length units + 1)
        → (0 < length (if less then x ∷ with_unit units new else (new ∷ (if equal then units else x ∷ units))))
        × (length (if less then x ∷ with_unit units new else (new ∷ (if equal then units else x ∷ units)))
        ≤ length (x ∷ units) + 1)
    by_order true equal further = (omega arith, omega (arith, further.1))
    by_order false true further = (omega arith, omega arith)
    by_order false false further = (omega arith, omega arith)

length-with_plan : (units plan : List WaitingUnit) → length (with_plan units plan) ≤ length units + length plan
length-with_plan units [] = omega arith
length-with_plan units (x ∷ plan) =
    omega (arith, length-with_plan (with_unit units x) plan, (length-with_unit units x).1)

some-with_plan : (units plan : List WaitingUnit) → 0 < length units → 0 < length (with_plan units plan)
some-with_plan units [] some = some
some-with_plan units (x ∷ plan) some = some-with_plan (with_unit units x) plan (length-with_unit units x).0

-- ---- A whole database at the front of a file.

pub whole_front : (file : List ℕ) → unreadable (take 8192 file) ≡ None → image_length file ≤ length file
    → IsWhole (database_of file)
whole_front file fine long =
    let front = take 8192 file in
    let fields = fields_of-front 8192 file (lit≤ tt) in
    let front_long : length front ≡ 8192 = omega (arith, length-take 8192 file, long) in
    let ends : ending_kind file ≡ cond (ltb (length file) (file_length_of (fields_of file))) (Some ShortFile) None =
    ending_kind-readable file front refl front_long fine
    ∙ ap (λ (g : Header). cond (ltb (length file) (file_length_of g)) (Some ShortFile) None) fields in
    trimmed_whole (fields_of file) file (read_readable (fields_of file) front file refl (sym fields) ends long)

readable_front : (file : List ℕ) → IsWhole (database_of file) → unreadable (take 8192 file) ≡ None
readable_front file whole =
    ap unreadable (sym (take-take 8192 (image_length file) file (omega arith)))
    ∙ front_readable (database_of file) whole

-- Where no unit waits then, none did, and the plan had none.
none_carried : (h : Header) (plan units : List WaitingUnit) (epoch : ℕ) → 0 < h.block_size
    → All (LiesWithin h.block_size (file_length_of h)) units → (units ≡ [] → epoch ≡ file_length_of h)
    → with_plan (up_to (header_after h plan).total units) plan ≡ [] → epoch ≡ file_length_of (header_after h plan)
none_carried h [] units epoch some inside none empty =
    none (sym (up_to_same h h.total units some (omega arith) inside) ∙ empty)
none_carried h (x ∷ plan) units epoch some inside none empty =
    let left = up_to (header_after h (x ∷ plan)).total units in
    absurd (omega (arith, ap length empty, some-with_plan (with_unit left x) plan (length-with_unit left x).0))

-- ---- A plan that is carried out among the units that wait up to its total.

module _ (h : Header) (extent : ℕ) (plan units : List WaitingUnit) (is : IsPlan h extent plan)
    (inside : All (LiesWithin h.block_size (file_length_of h)) units) where
  abbrev left : List WaitingUnit
  left = up_to (header_after h plan).total units

  abbrev carried : List WaitingUnit
  carried = with_plan left plan

  ends : file_length_of (header_after h plan) ≡ 8192 + (header_after h plan).total * h.block_size
  ends = ap (λ size. 8192 + (header_after h plan).total * size) is.block_size

  sizes : All (HasSize h.block_size) units
  sizes =
      All-weaker (LiesWithin h.block_size (file_length_of h)) (HasSize h.block_size) (λ w lies. lies.size) units
      inside

  plan_inside : All (LiesWithin h.block_size (file_length_of (header_after h plan))) plan
  plan_inside k d less =
      let fits = within_total h.block_size (header_after h plan).total _ (is.inside k d less) in
      record { size = is.sizes k d less; within = omega (arith, fits, is.sizes k d less, ends) }

  left_inside : All (LiesWithin h.block_size (file_length_of (header_after h plan))) left
  left_inside =
      up_to_inside h.block_size (header_after h plan).total (file_length_of (header_after h plan)) units ends sizes

  carried_inside : All (LiesWithin h.block_size (file_length_of (header_after h plan))) carried
  carried_inside =
      All-with_plan (LiesWithin h.block_size (file_length_of (header_after h plan))) left plan plan_inside left_inside

  -- Where the total is no less than before, all units stay.
  left_all : 0 < h.block_size → h.total ≤ (header_after h plan).total → left ≡ units
  left_all some le =
      up_to_same h (header_after h plan).total units some le inside

  -- no more units wait than before and the plan has
  pub length-carried : length carried ≤ length units + length plan
  length-carried =
      omega (
        arith,
        length-with_plan left plan,
        length-filter (λ (w : WaitingUnit). nat_le w.unit (header_after h plan).total) units,
        count_by-le-length (λ (w : WaitingUnit). nat_le w.unit (header_after h plan).total) units,
      )

  -- ---- Places.

  module _ (epoch : ℕ) (before images : List Image) (places : AreInPlace h epoch extent before units)
      (adds : AddsTo before images) (kept : All (IsKept h.block_size epoch images) plan) where
    carried_kept : All (IsKept h.block_size epoch images) carried
    carried_kept =
        All-with_plan (IsKept h.block_size epoch images) left plan kept
        (All-filter (λ (w : WaitingUnit). nat_le w.unit (header_after h plan).total)
        (IsKept h.block_size epoch images) units
        (all_kept_more h.block_size epoch before images adds units places.kept))

    pub places_after : AreInPlace (header_after h plan) epoch extent images carried
    places_after = record {
      limits = limits_after h plan places.limits is.readable;
      epoch = places.epoch;
      blocks = subst (λ size. EndsAtBlock size epoch) (sym is.block_size) places.blocks;
      now = is.grown;
      short = places.short;
      inside = subst (λ size. All (LiesWithin size (file_length_of (header_after h plan))) carried) (sym is.block_size)
          carried_inside;
      kept = subst (λ size. All (IsKept size epoch images) carried) (sym is.block_size) carried_kept;
      none = none_carried h plan units epoch (omega (arith, places.limits.block_from)) inside places.none;
    }

  -- ---- The file.

  module _ (now : file_length_of h ≤ extent) (rising : IsRising left) (db : List ℕ) (long : extent ≤ length db) where
    abbrev base : List ℕ
    base = patched h.block_size left db

    n_long : file_length_of (header_after h plan) ≤ length db
    n_long = omega (arith, is.grown, long)

    units_in_db : All (LiesWithin h.block_size (length db)) units
    units_in_db = inside_more h.block_size (file_length_of h) (length db) units (omega (arith, now, long)) inside

    left_in_db : All (LiesWithin h.block_size (length db)) left
    left_in_db = inside_more h.block_size (file_length_of (header_after h plan)) (length db) left n_long left_inside

    plan_in_db : All (LiesWithin h.block_size (length db)) plan
    plan_in_db = inside_more h.block_size (file_length_of (header_after h plan)) (length db) plan n_long plan_inside

    file_carried : patched h.block_size carried db ≡ patched h.block_size plan (patched h.block_size left db)
    file_carried = patched-with_plan h.block_size left plan db plan_in_db left_in_db rising

    base_long : length (patched h.block_size left db) ≡ length db
    base_long = length-patched h.block_size left db left_in_db

    old_long : length (patched h.block_size units db) ≡ length db
    old_long = length-patched h.block_size units db units_in_db

    plan_in_base : All (LiesWithin h.block_size (length (patched h.block_size left db))) plan
    plan_in_base = subst (λ n. All (LiesWithin h.block_size n) plan) (sym base_long) plan_in_db

    base_front : take (file_length_of (header_after h plan)) (patched h.block_size left db)
        ≡ take (file_length_of (header_after h plan)) (patched h.block_size units db)
    base_front =
        up_to_front h.block_size (header_after h plan).total (file_length_of (header_after h plan)) units db db ends
        refl n_long units_in_db refl

    fields_carried : fields_of (patched h.block_size units db) ≡ h
        → fields_of (patched h.block_size carried db) ≡ header_after h plan
    fields_carried fields =
        ap fields_of file_carried
        ∙ fields_patched h.block_size plan (patched h.block_size left db) is.distinct plan_in_base h
        (same_fields (file_length_of (header_after h plan)) (patched h.block_size left db)
        (patched h.block_size units db) (omega arith) base_front ∙ fields)

    readable_carried : IsWhole (database_of (patched h.block_size units db))
        → unreadable (take 8192 (patched h.block_size carried db)) ≡ None
    readable_carried whole =
        let same : take 8192 (patched h.block_size left db) ≡ take 8192 (patched h.block_size units db) =
        front_less 8192 (file_length_of (header_after h plan)) (patched h.block_size units db)
        (patched h.block_size left db) (omega arith) base_front in
        ap (λ file. unreadable (take 8192 file)) file_carried
        ∙ readable_patched h.block_size plan (patched h.block_size left db) is.distinct plan_in_base
        (ap unreadable same ∙ readable_front (patched h.block_size units db) whole) is.readable

    whole_carried : fields_of (patched h.block_size units db) ≡ h
        → IsWhole (database_of (patched h.block_size units db))
        → IsWhole (database_of (patched h.block_size carried db))
    whole_carried fields whole =
        let carried_long : length (patched h.block_size carried db) ≡ length db =
        length-patched h.block_size carried db
        (inside_more h.block_size (file_length_of (header_after h plan)) (length db) carried n_long carried_inside) in
        whole_front (patched h.block_size carried db) (readable_carried whole)
        (omega (arith, ap file_length_of (fields_carried fields), carried_long, n_long))

    -- Carried out, as far as the header then says.
    pub is_carried_out : 0 < h.block_size → fields_of (patched h.block_size units db) ≡ h
        → IsCarriedOut h plan (patched h.block_size units db) (patched (header_after h plan).block_size carried db)
    is_carried_out some fields =
        subst (λ size. IsCarriedOut h plan (patched h.block_size units db) (patched size carried db))
        (sym is.block_size)
        (record {
          len = ap length file_carried ∙ length-patched h.block_size plan (patched h.block_size left db) plan_in_base
              ∙ base_long ∙ sym old_long;
          fields = fields_carried fields;
          image = ap (take (file_length_of (header_after h plan))) file_carried
              ∙ patched_alike h.block_size (file_length_of (header_after h plan)) plan (patched h.block_size left db)
              (patched h.block_size units db) plan_inside (omega (arith, n_long, base_long))
              (omega (arith, n_long, old_long)) base_front;
          behind = λ le. file_carried
              ∙ ap (λ us. patched h.block_size plan (patched h.block_size us db)) (left_all some le);
        })

  pub held_after : file_length_of h ≤ extent → IsRising left → (c : Contents) → IsHeld h extent units c
      → IsHeld (header_after h plan) extent carried c
  held_after now rising c held = record {
    long = held.long;
    whole = subst (λ size. IsWhole (database_of (patched size carried c.db))) (sym is.block_size)
        (whole_carried now rising c.db held.long held.fields held.whole);
    fields = ap (λ size. fields_of (patched size carried c.db)) is.block_size
        ∙ fields_carried now rising c.db held.long held.fields;
  }

-- ---- All that is known of units then.

-- what is told of the file
pub told_carried : (h next : Header) (plan units now : List WaitingUnit) (told later : Option Contents) → later ≡ told
    → ((c : Contents) → told ≡ Some c
    → IsCarriedOut h plan (patched h.block_size units c.db) (patched next.block_size now c.db))
    → TellsOn (file_with h.block_size units told) (file_with next.block_size now later) (IsCarriedOut h plan)
told_carried h next plan units now None later same out = tt
told_carried h next plan units now (Some c) later same out =
    subst (λ (o : Option Contents).
    TellsOn (file_with h.block_size units (Some c)) (file_with next.block_size now o) (IsCarriedOut h plan))
    (sym same) (out c refl)

-- The units that wait now, from what each call made of them.
module _ (h next : Header) (plan units reserved dropped now : List WaitingUnit) (is_next : next ≡ header_after h plan)
    (same : reserved ≡ units) (drops : dropped ≡ up_to next.total reserved) (puts : now ≡ with_plan dropped plan) where
  pub dropped_is : dropped ≡ up_to (header_after h plan).total units
  dropped_is = drops ∙ ap (up_to next.total) same ∙ ap (λ (g : Header). up_to g.total units) is_next

  pub now_is : now ≡ with_plan (up_to (header_after h plan).total units) plan
  now_is = puts ∙ ap (λ us. with_plan us plan) dropped_is

  pub length-now : (extent : ℕ) → IsPlan h extent plan → All (LiesWithin h.block_size (file_length_of h)) units
      → length now ≤ length units + length plan
  length-now extent is inside = omega (arith, ap length now_is, length-carried h extent plan units is inside)

module _ {H : Type 0} {told : H → Option Contents} {moment : H → ℕ} {left_since : H → ℕ → Contents → Type 0}
    (old new : H) (h : Header) (units : List WaitingUnit) (before : List Image) (epoch extent : ℕ) (stopped : Bool)
    (are : AreUnits told moment left_since old h units before epoch extent stopped)
    (tells : told new ≡ told old) (same : LeavesTheSame moment left_since old new) where
  read : AreUnits told moment left_since new h units before epoch extent stopped
  read = after_reading old new h units before epoch extent stopped are tells same.stays

  -- Reading leaves what was found before.
  pub read_keeps : (c : Contents) → told old ≡ Some c → Keeps moment left_since old new
  read_keeps c is = keeps_same moment left_since old new same (are.found c is)

  pub read_as_before : (c : Contents) → told old ≡ Some c
      → EachLeft moment left_since new (AsBefore moment left_since old)
  read_as_before c is d left =
      let was = same.stays d left in found_before moment left_since old d (are.found c is d was) was

  -- after a plan
  module _ (plan : List WaitingUnit) (is : IsPlan h extent plan) (next : Header)
      (reserved dropped now : List WaitingUnit) (is_next : next ≡ header_after h plan) (unchanged : reserved ≡ units)
      (drops : dropped ≡ up_to next.total reserved) (rising : IsRising dropped)
      (puts : now ≡ with_plan dropped plan) where
    rising_left : IsRising (up_to (header_after h plan).total units)
    rising_left = subst IsRising (dropped_is h next plan units reserved dropped now is_next unchanged drops puts) rising

    pub units_carried : (images : List Image) → AddsTo before images → All (IsKept h.block_size epoch images) plan
        → ForSome (told old) (AreOld epoch images)
        → AreUnits told moment left_since new next now images epoch extent stopped
    units_carried images adds kept olds =
        let all = with_plan (up_to (header_after h plan).total units) plan in
        let after : AreUnits told moment left_since new (header_after h plan) all images epoch extent stopped =
        record {
          places = places_after h extent plan units is are.places.inside epoch before images are.places adds kept;
          held = λ c known.
              held_after h extent plan units is are.places.inside are.places.now rising_left c
              (are.held c (sym tells ∙ known));
          found = read.found;
          resting = λ going c known. record {
            each = (read.resting going c known).each;
            old = (olds c (sym tells ∙ known)).old;
          };
        } in
        subst (λ (g : Header). AreUnits told moment left_since new g now images epoch extent stopped) (sym is_next)
        (subst (λ us. AreUnits told moment left_since new (header_after h plan) us images epoch extent stopped)
        (sym (now_is h next plan units reserved dropped now is_next unchanged drops puts)) after)

    pub file_carried_out : TellsOn (file_with h.block_size units (told old)) (file_with next.block_size now (told new))
        (IsCarriedOut h plan)
    file_carried_out = told_carried h next plan units now (told old) (told new) tells (λ c known.
        let out = is_carried_out h extent plan units is are.places.inside are.places.now rising_left c.db
        (are.held c known).long (omega (arith, are.places.limits.block_from)) (are.held c known).fields in
        subst (λ (g : Header). IsCarriedOut h plan (patched h.block_size units c.db) (patched g.block_size now c.db))
        (sym is_next)
        (subst (λ us. IsCarriedOut h plan (patched h.block_size units c.db)
        (patched (header_after h plan).block_size us c.db))
        (sym (now_is h next plan units reserved dropped now is_next unchanged drops puts)) out))
