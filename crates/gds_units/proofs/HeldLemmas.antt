-- What is known of units after a call on their host.
use Rattle.std.proofs.Common.{◌≡◌, ◌⊎◌, ℕ, ◌-◌, ◌^◌, ◌<◌, ◌≤◌, Bool, true, false, List, [], length, take, Option, None}
use Rattle.std.proofs.Common.{Some}
use Rattle.std.proofs.Common.{refl, sym, ap, subst, ◌∙◌, arith, length-take, replicate, inl, inr, true≢false, ◌∷◌}
use Rattle.std.specs.Option.{ForSome}
use Rattle.std.specs.Prelude.{All, option_map}
use Rattle.std.proofs.lemmas.List.{length-replicate, take-take}
use Rattle.std.proofs.lemmas.List.Elements.{All-nil, All-weaker}
use Rattle.host_model.specs.Files.{Contents}
use Rattle.host_model.specs.Moments.{EachLeft, HasCome}
use Rattle.host_model.specs.Disk.{written}
use Rattle.host_model.specs.Told.{TellsOn}
use Rattle.host_model.proofs.FileLemmas.{length-written}
use Rattle.gds_header.specs.Fields.{fields_of, file_length_of, image_length, place_of}
use Rattle.gds_header.proofs.EndingLemmas.{fields_of-front}
use Rattle.gds_header.specs.declared.header.Header.{Header}
use Rattle.gds_images.specs.Group.{Image}
use Rattle.gds_images.specs.Outcome.{IsAtRest, IsWhole}
use Rattle.gds_epoch.specs.Epoch.{FindsEither, IsDone, IsImageOf, IsKept, IsReady, StaysPatched, database_of}
use Rattle.gds_epoch.specs.Length.{KeepsFront, with_zeros}
use Rattle.gds_epoch.specs.State.{Finds, Rests}
use Rattle.gds_epoch.specs.Waiting.{LiesWithin, WaitingUnit, patched}
use Rattle.gds_epoch.proofs.ToldLemmas.{told_before, told_weaker}
use Rattle.gds_epoch.proofs.UnitLemmas.{length-patched}
use Rattle.gds_units.specs.Held.{AreInPlace, AreUnits, IsHeld, IsRecoverable, IsResting}
use Rattle.gds_units.specs.State.{file_with}
use Rattle.gds_units.specs.Durable.{IsStored, Keeps, KeepsOrStores}
use Rattle.gds_units.proofs.DurableLemmas.{image_is, keeps_either, keeps_resting, rests_found, rests_stores}
use Rattle.gds_units.proofs.PatchedLemmas.{front_long, patched-written, patched_alike, same_database}

-- Units that lie within a length lie within a greater one.
pub inside_more : (size n m : ℕ) (units : List WaitingUnit) → n ≤ m → All (LiesWithin size n) units
    → All (LiesWithin size m) units
inside_more size n m units le inside =
    All-weaker (LiesWithin size n) (LiesWithin size m)
    (λ w is. record { size = is.size; within = omega (arith, is.within, le) }) units inside

-- a shorter front of files that begin alike
pub front_less : (m n : ℕ) (a b : List ℕ) → m ≤ n → take n b ≡ take n a → take m b ≡ take m a
front_less m n a b le same = sym (take-take m n b le) ∙ ap (take m) same ∙ take-take m n a le

-- ---- A call that keeps the front of the database file, as far as the image goes.

module _ (h : Header) (units : List WaitingUnit) (n : ℕ) (is_n : n ≡ file_length_of h)
    (inside : All (LiesWithin h.block_size n) units) (c d : Contents)
    (long : n ≤ length c.db) (front : take n d.db ≡ take n c.db) where
  database_kept : fields_of (patched h.block_size units c.db) ≡ h
      → (fields_of (patched h.block_size units d.db) ≡ h)
      × (database_of (patched h.block_size units d.db) ≡ database_of (patched h.block_size units c.db))
  database_kept is =
      same_database h (patched h.block_size units c.db) (patched h.block_size units d.db) is
      (subst (λ k. take k (patched h.block_size units c.db) ≡ take k (patched h.block_size units d.db)) is_n
      (patched_alike h.block_size n units c.db d.db inside long (front_long n c.db d.db long front) (sym front)))

  pub held_kept : (extent extent' : ℕ) → extent' ≤ length d.db → IsHeld h extent units c → IsHeld h extent' units d
  held_kept extent extent' reach held =
      let same = database_kept held.fields in record {
        long = reach;
        whole = subst IsWhole (sym same.1) held.whole;
        fields = same.0;
      }

  pub same_image : (extent : ℕ) → IsHeld h extent units c
      → database_of (patched h.block_size units d.db) ≡ database_of (patched h.block_size units c.db)
  same_image extent held = (database_kept held.fields).1

-- Where their count is 0, no unit waits.
pub none_waits : (units : List WaitingUnit) → length units ≡ 0 → units ≡ []
none_waits [] is = refl
none_waits (x ∷ units) is = absurd (omega (arith, is))

pub idle_within : (h : Header) (epoch extent : ℕ) (images : List Image) (units : List WaitingUnit)
    → AreInPlace h epoch extent images units → length units ≡ 0 → (n : ℕ) → n ≡ file_length_of h → epoch ≤ n
idle_within h epoch extent images units places none n is_n =
    omega (arith, places.none (none_waits units none), is_n)

-- one of two databases is found
either_found : (a b : List ℕ) (c x : Contents) → Finds a c x ⊎ Finds b c x → IsRecoverable x
either_found a b c x (inl finds) = record { image = a; recovers = finds.recovers }
either_found a b c x (inr finds) = record { image = b; recovers = finds.recovers }

-- the header of the image that is told
pub image_fields : (h : Header) (units : List WaitingUnit) (extent : ℕ) (told : Option Contents)
    → ForSome told (IsHeld h extent units) → (image : List ℕ)
    → option_map database_of (file_with h.block_size units told) ≡ Some image → fields_of image ≡ h
image_fields h units extent None held image is = absurd (let no : None ≡ Some image = is in cc)
image_fields h units extent (Some c) held image is =
    let file = patched h.block_size units c.db in
    let same : database_of file ≡ image = image_is h.block_size units (Some c) c image refl is in
    ap fields_of (sym same) ∙ fields_of-front (image_length file) file (omega arith) ∙ (held c refl).fields

-- what is told of the image, before and now
pub image_kept : (size : ℕ) (units : List WaitingUnit) (old new : Option Contents) → (old ≡ None → new ≡ None)
    → TellsOn old new (λ c d. database_of (patched size units d.db) ≡ database_of (patched size units c.db))
    → option_map database_of (file_with size units new) ≡ option_map database_of (file_with size units old)
image_kept size units None new untold tells = ap (λ o. option_map database_of (file_with size units o)) (untold refl)
image_kept size units (Some c) None untold tells = absurd tells
image_kept size units (Some c) (Some d) untold tells = ap Some tells

-- ---- Zeros behind the image.

pub grown_reach : (from to : ℕ) (c d : Contents) → from ≤ length c.db → d ≡ with_zeros from to c → to ≤ length d.db
grown_reach from to c d fits is =
    omega (
      arith,
      ap (λ (x : Contents). length x.db) is,
      length-written from (replicate (to - from) 0) c.db,
      length-replicate {A = ℕ} (to - from) 0,
      fits,
    )

-- They stand behind the units too.
pub grown_file : (h : Header) (units : List WaitingUnit) (from to total : ℕ) (old new : Option Contents)
    → from ≡ file_length_of h → to ≡ place_of h total
    → All (LiesWithin h.block_size (file_length_of h)) units → ForSome old (λ c. from ≤ length c.db)
    → TellsOn old new (λ c d. d ≡ with_zeros from to c)
    → TellsOn (file_with h.block_size units old) (file_with h.block_size units new)
    (λ a b. b ≡ written (file_length_of h) (replicate (place_of h total - file_length_of h) 0) a)
grown_file h units from to total None new is_from is_to inside fits tells = tt
grown_file h units from to total (Some c) None is_from is_to inside fits tells = absurd tells
grown_file h units from to total (Some c) (Some d) is_from is_to inside fits tells =
    ap (λ (x : Contents). patched h.block_size units x.db) tells
    ∙ patched-written h.block_size (file_length_of h) from units (replicate (to - from) 0) c.db inside
    (omega (arith, is_from)) (fits c refl)
    ∙ (λ i. written (is_from i) (replicate (is_to i - is_from i) 0) (patched h.block_size units c.db))

-- two that are told stand in the relation
pub tells_both : (old new : Option Contents) (R : Contents → Contents → Type 0) (c d : Contents) → old ≡ Some c
    → new ≡ Some d → TellsOn old new R → R c d
tells_both None new R c d is_old is_new tells = absurd (let no : None ≡ Some c = is_old in cc)
tells_both (Some x) None R c d is_old is_new tells = absurd tells
tells_both (Some x) (Some y) R c d is_old is_new tells =
    let first : x ≡ c = cc in let second : y ≡ d = cc in rw second at (rw first at tells)

module _ {H : Type 0} {told : H → Option Contents} {moment : H → ℕ} {left_since : H → ℕ → Contents → Type 0} where
  -- The database at rest is what the host holds of it.
  pub rests_itself : (now_left : (host : H) (c : Contents) → told host ≡ Some c → left_since host (moment host) c)
      → (host : H) (c : Contents) (n : ℕ) (images : List Image) → told host ≡ Some c
      → IsResting told moment left_since host n images c → IsAtRest (take n c.db) c
  rests_itself now_left host c n images tells resting = (resting.each c (now_left host c tells)).rest

  -- What an epoch asks for.
  pub ready : (now_left : (host : H) (c : Contents) → told host ≡ Some c → left_since host (moment host) c)
      → (host : H) (h : Header) (units : List WaitingUnit) (images : List Image) (epoch extent : ℕ) (stopped : Bool)
      → AreUnits told moment left_since host h units images epoch extent stopped → stopped ≡ false
      → ForSome (told host) (IsReady h.block_size epoch images units)
  ready now_left host h units images epoch extent stopped are going c tells =
      let held = are.held c tells in
      let resting = are.resting going c tells in record {
        long = omega (arith, are.places.epoch, held.long);
        rest = rests_itself now_left host c epoch images tells resting;
        old = resting.old;
        inside = inside_more h.block_size (file_length_of h) (length c.db) units
            (omega (arith, are.places.now, held.long))
            are.places.inside;
        kept = are.places.kept;
        whole = held.whole;
      }

  -- A call that keeps the front of the file leaves units, which reach as far as is known now.
  module _ (old new : H) (h : Header) (units : List WaitingUnit) (images : List Image) (epoch extent : ℕ)
      (stopped : Bool)
      (are : AreUnits told moment left_since old h units images epoch extent stopped) (going : stopped ≡ false)
      (n : ℕ) (is_n : n ≡ file_length_of h) (within : epoch ≤ n)
      (untold : told old ≡ None → told new ≡ None) (tells : TellsOn (told old) (told new) (KeepsFront n)) where
    inside_n : All (LiesWithin h.block_size n) units
    inside_n = subst (λ k. All (LiesWithin h.block_size k) units) (sym is_n) are.places.inside

    pub before_front : (d : Contents) → told new ≡ Some d → (c : Contents) × (told old ≡ Some c) × KeepsFront n c d
    before_front d is = told_before (told old) (told new) (KeepsFront n) d untold is tells

    long_front : (c : Contents) → told old ≡ Some c → n ≤ length c.db
    long_front c is = omega (arith, is_n, are.places.now, (are.held c is).long)

    pub front_reach : (c d : Contents) → told old ≡ Some c → KeepsFront n c d → n ≤ length d.db
    front_reach c d is kept = front_long n c.db d.db (long_front c is) kept.front

    pub front_image : option_map database_of (file_with h.block_size units (told new))
        ≡ option_map database_of (file_with h.block_size units (told old))
    front_image =
        image_kept h.block_size units (told old) (told new) untold
        (told_weaker (told old) (told new) (KeepsFront n)
        (λ c d. database_of (patched h.block_size units d.db) ≡ database_of (patched h.block_size units c.db))
        (λ c d is kept.
        same_image h units n is_n inside_n c d (long_front c is) kept.front extent (are.held c is)) tells)

    module _ (come : (image : List ℕ) (before : Contents) → length image ≤ n
        → EachLeft moment left_since old (Rests image before)
        → HasCome moment left_since old new (Rests image before) (Rests image before)) where
      come_resting : (c : Contents) → told old ≡ Some c
          → HasCome moment left_since old new (Rests (take epoch c.db) c) (Rests (take epoch c.db) c)
      come_resting c is =
          come (take epoch c.db) c (omega (arith, length-take epoch c.db, within)) (are.resting going c is).each

      pub keeps_front : (now_left : (host : H) (c : Contents) → told host ≡ Some c → left_since host (moment host) c)
          → (c : Contents) → told old ≡ Some c → Keeps moment left_since old new
      keeps_front now_left c is =
          keeps_resting moment left_since old c (now_left old c is) (take epoch c.db) (are.resting going c is).each new
          (come_resting c is)

      pub after_front : (reach : ℕ) (stops : Bool) → n ≤ reach → reach < 2 ^ 63
          → ((c d : Contents) → told old ≡ Some c → told new ≡ Some d → KeepsFront n c d → reach ≤ length d.db)
          → AreUnits told moment left_since new h units images epoch reach stops
      after_front reach stops now short reaches = record {
        places = record {
          limits = are.places.limits;
          epoch = omega (arith, within, now);
          blocks = are.places.blocks;
          now = omega (arith, now, is_n);
          short = short;
          inside = are.places.inside;
          kept = are.places.kept;
          none = are.places.none;
        };
        held = λ d is.
            let past = before_front d is in
            held_kept h units n is_n inside_n past.0 d (long_front past.0 past.1) past.2.front
            extent reach (reaches past.0 d past.1 is past.2) (are.held past.0 past.1);
        found = λ d is.
            let past = before_front d is in
            rests_found moment left_since new (take epoch past.0.db) past.0 (come_resting past.0 past.1).each;
        resting = λ goes d is.
            let past = before_front d is in
            let same : take epoch d.db ≡ take epoch past.0.db = front_less epoch n past.0.db d.db within past.2.front in
            record {
              each = λ x left.
                  let rests = (come_resting past.0 past.1).each x left in record {
                    rest = subst (λ image. IsAtRest image x) (sym same) rests.rest;
                    said = rests.said ∙ sym past.2.said;
                  };
              old = subst (λ image. All (IsImageOf image) images) (sym same) (are.resting going past.0 past.1).old;
            };
      }

  -- ---- An epoch.

  -- Where no unit waits, the image is the last epoch's database.
  pub stored_idle : (host : H) (h : Header) (units : List WaitingUnit) (images : List Image) (epoch extent : ℕ)
      (stopped : Bool) → AreUnits told moment left_since host h units images epoch extent stopped → stopped ≡ false
      → units ≡ [] → (c : Contents) → told host ≡ Some c → (image : List ℕ)
      → option_map database_of (file_with h.block_size units (told host)) ≡ Some image
      → IsStored moment left_since image c.said host
  stored_idle host h units images epoch extent stopped are going none c tells image is d left =
      let held = are.held c tells in
      let bare : patched h.block_size units c.db ≡ c.db = ap (λ us. patched h.block_size us c.db) none in
      let long : image_length c.db ≡ epoch = ap image_length (sym bare) ∙ ap file_length_of held.fields
      ∙ sym (are.places.none none) in
      let same : take epoch c.db ≡ image =
      ap (λ n. take n c.db) (sym long) ∙ ap database_of (sym bare)
      ∙ image_is h.block_size units (told host) c image tells is in
      rests_stores image c d
      (subst (λ x. Rests x c d) same ((are.resting going c tells).each d left))

  -- An epoch that ended leaves units of which none waits.
  pub after_epoch : (old new : H) (h : Header) (units : List WaitingUnit) (images : List Image) (epoch extent : ℕ)
      (stopped : Bool) → AreUnits told moment left_since old h units images epoch extent stopped → stopped ≡ false
      → (told old ≡ None → told new ≡ None) → TellsOn (told old) (told new) (IsDone h.block_size units)
      → ForSome (told old) (λ c.
      EachLeft moment left_since new (Rests (database_of (patched h.block_size units c.db)) c))
      → (none : List WaitingUnit) (clear : List Image) (n : ℕ) → none ≡ [] → clear ≡ [] → n ≡ file_length_of h
      → AreUnits told moment left_since new h none clear n extent stopped
  after_epoch old new h units images epoch extent stopped are going untold tells rests none clear n is_none is_clear
      is_n =
      let before : (d : Contents) → told new ≡ Some d
      → (c : Contents) × (told old ≡ Some c) × IsDone h.block_size units c d =
      λ d is. told_before (told old) (told new) (IsDone h.block_size units) d untold is tells in
      let places = are.places in
      let inside : (m : ℕ) → All (LiesWithin h.block_size m) none =
      λ m. subst (λ us. All (LiesWithin h.block_size m) us) (sym is_none) (All-nil (LiesWithin h.block_size m)) in
      let bare : (file : List ℕ) → patched h.block_size none file ≡ file =
      λ file. ap (λ us. patched h.block_size us file) is_none in
      record {
        places = record {
          limits = places.limits;
          epoch = omega (arith, places.now, is_n);
          blocks = record { blocks = h.total; ends = is_n };
          now = places.now;
          short = places.short;
          inside = inside (file_length_of h);
          kept = subst (λ us. All (IsKept h.block_size n clear) us) (sym is_none)
              (All-nil (IsKept h.block_size n clear));
          none = λ e. is_n;
        };
        held = λ d is.
            let past = before d is in
            let held = are.held past.0 past.1 in
            let same : patched h.block_size none d.db ≡ patched h.block_size units past.0.db = bare d.db ∙ past.2.db in
            record {
              long = omega (
                arith,
                held.long,
                ap length past.2.db,
                length-patched h.block_size units past.0.db
                    (inside_more h.block_size (file_length_of h) (length past.0.db) units
                    (omega (arith, places.now, held.long)) places.inside),
              );
              whole = subst (λ file. IsWhole (database_of file)) (sym same) held.whole;
              fields = ap fields_of same ∙ held.fields;
            };
        found = λ d is.
            let past = before d is in
            rests_found moment left_since new (database_of (patched h.block_size units past.0.db)) past.0
            (rests past.0 past.1);
        resting = λ goes d is.
            let past = before d is in
            let held = are.held past.0 past.1 in
            let same : take n d.db ≡ database_of (patched h.block_size units past.0.db) =
            ap (λ k. take k d.db) (is_n ∙ sym (ap file_length_of held.fields))
            ∙ ap (take (image_length (patched h.block_size units past.0.db))) past.2.db in
            record {
              each = λ x left.
                  let at_rest = rests past.0 past.1 x left in record {
                    rest = subst (λ image. IsAtRest image x) (sym same) at_rest.rest;
                    said = at_rest.said ∙ sym past.2.said;
                  };
              old = subst (λ all. All (IsImageOf (take n d.db)) all) (sym is_clear) (All-nil (IsImageOf (take n d.db)));
            };
      }

  -- One that failed leaves units on which nothing is written any more.
  pub after_failure : (old new : H) (h : Header) (units : List WaitingUnit) (images later : List Image)
      (epoch extent : ℕ)
      (stopped : Bool) → AreUnits told moment left_since old h units images epoch extent stopped → later ≡ images
      → (told old ≡ None → told new ≡ None) → TellsOn (told old) (told new) (StaysPatched h.block_size units)
      → ForSome (told old) (λ c. let either = FindsEither h.block_size epoch units c in
      HasCome moment left_since old new either either)
      → AreUnits told moment left_since new h units later epoch extent true
  after_failure old new h units images later epoch extent stopped are is_later untold tells come =
      let before : (d : Contents) → told new ≡ Some d
      → (c : Contents) × (told old ≡ Some c) × StaysPatched h.block_size units c d =
      λ d is. told_before (told old) (told new) (StaysPatched h.block_size units) d untold is tells in
      let places = are.places in
      record {
        places = record {
          limits = places.limits;
          epoch = places.epoch;
          blocks = places.blocks;
          now = places.now;
          short = places.short;
          inside = places.inside;
          kept = subst (λ all. All (IsKept h.block_size epoch all) units) (sym is_later) places.kept;
          none = places.none;
        };
        held = λ d is.
            let past = before d is in
            let held = are.held past.0 past.1 in record {
              long = omega (arith, held.long, past.2.len);
              whole = subst (λ file. IsWhole (database_of file)) (sym past.2.db) held.whole;
              fields = ap fields_of past.2.db ∙ held.fields;
            };
        found = λ d is x left.
            let past = before d is in
            either_found (take epoch past.0.db) (database_of (patched h.block_size units past.0.db)) past.0 x
            ((come past.0 past.1).each x left);
        resting = λ goes d is. absurd (true≢false goes);
      }

  -- At each moment of it the image is found, or what was found before.
  pub epoch_moments : (now_left : (host : H) (c : Contents) → told host ≡ Some c → left_since host (moment host) c)
      → (old new : H) (h : Header) (units : List WaitingUnit) (images : List Image) (epoch extent : ℕ)
      (stopped : Bool) → AreUnits told moment left_since old h units images epoch extent stopped → stopped ≡ false
      → ForSome (told old) (λ c. let either = FindsEither h.block_size epoch units c in
      HasCome moment left_since old new either either)
      → (c : Contents) → told old ≡ Some c → (image : List ℕ)
      → option_map database_of (file_with h.block_size units (told old)) ≡ Some image
      → KeepsOrStores moment left_since image c.said old new
  epoch_moments now_left old new h units images epoch extent stopped are going come c tells image is =
      subst (λ x. KeepsOrStores moment left_since x c.said old new)
      (image_is h.block_size units (told old) c image tells is)
      (keeps_either moment left_since old c (now_left old c tells) (take epoch c.db) (are.resting going c tells).each
      (database_of (patched h.block_size units c.db)) new (come c tells))

module _ {H : Type 0} (told : H → Option Contents) (moment : H → ℕ) (left_since : H → ℕ → Contents → Type 0) where
  -- And once it has ended the image alone.
  pub epoch_stores : (old new : H) (size : ℕ) (units : List WaitingUnit)
      → ForSome (told old) (λ c. EachLeft moment left_since new (Rests (database_of (patched size units c.db)) c))
      → (c : Contents) → told old ≡ Some c → (image : List ℕ)
      → option_map database_of (file_with size units (told old)) ≡ Some image
      → IsStored moment left_since image c.said new
  epoch_stores old new size units rests c tells image is d left =
      rests_stores image c d
      (subst (λ x. Rests x c d) (image_is size units (told old) c image tells is) (rests c tells d left))
