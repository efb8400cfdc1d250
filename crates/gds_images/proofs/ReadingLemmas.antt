-- How far the reading of a file of images has come.
use Rattle.std.proofs.Common.{◌≡◌, ℕ, ◌+◌, ◌-◌, ◌<◌, ◌≤◌, List, [], ◌∷◌, ◌++◌, length, Option, None, Some, Ok, Err}
use Rattle.std.proofs.Common.{sym, ◌∙◌, ap, subst, take, drop, arith}
use Rattle.std.specs.Prelude.{All}
use Rattle.std.specs.Option.{ForSome}
use Rattle.host_model.specs.Failures.{Failures}
use Rattle.host_model.specs.Files.{Contents}
use Rattle.host_model.proofs.FailureLemmas.{then-Rose}
use Rattle.host_model.specs.Frames.{ChangedNothing}
use Rattle.host_model.proofs.FrameLemmas.{WasRead-refl, WasRead-then, was_read}
use Rattle.host_model.proofs.MomentLemmas.{LeavesTheSame-refl, LeavesTheSame-trans, leaves_the_same}
use Rattle.gds_images.specs.declared.error.ImagesError.{ImagesError}
use Rattle.gds_images.specs.declared.error.ImagesError.TheVariants.{BadImages, Changed, Memory, ReadFault}
use Rattle.gds_images.specs.declared.chain.Place.{Place}
use Rattle.gds_images.specs.declared.fields.Limits.{Limits}
use Rattle.gds_images.specs.declared.fields.Start.{Start}
use Rattle.gds_images.specs.Chain.{LiesBefore, bad_field, chain_of, image_at, image_length}
use Rattle.gds_images.specs.Reading.{IsCause, IsGate, IsStart, OnlyRead, read_gate, read_on}
use Rattle.gds_images.proofs.FrontLemmas.{read_bad, read_end, read_image}
use Rattle.std.proofs.lemmas.List.Elements.{All-push}

module _ {H : Type 0} (contents : H → Option Contents) (moment : H → ℕ) (counts : H → Failures)
    (left_since : H → ℕ → Contents → Type 0) where
  pub OnlyRead-refl : (host : H) → OnlyRead contents moment counts left_since host host
  OnlyRead-refl host = record {
    read = WasRead-refl contents counts host;
    crash = LeavesTheSame-refl moment left_since host;
  }

  -- one call that changed nothing
  pub only_read : (old new : H) → ((t u : ℕ) (c : Contents) → t ≤ u → left_since old u c → left_since old t c)
      → ChangedNothing contents moment counts left_since old new → OnlyRead contents moment counts left_since old new
  only_read old new longer kept = record {
    read = was_read contents counts moment left_since old new kept;
    crash = leaves_the_same moment left_since contents counts old new longer kept;
  }

  pub OnlyRead-then : (a b c : H) → OnlyRead contents moment counts left_since a b
      → OnlyRead contents moment counts left_since b c → OnlyRead contents moment counts left_since a c
  OnlyRead-then a b c first second = record {
    read = WasRead-then contents counts a b c first.read second.read;
    crash = LeavesTheSame-trans moment left_since a b c first.crash second.crash;
  }

  -- What is blamed for an error stays so for who read before, where what is due then is due now.
  pub cause_then : (a b c : H) (error : ImagesError) (bad due : Contents → ℕ → Type 0)
      → OnlyRead contents moment counts left_since a b
      → ((x : Contents) (at : ℕ) → contents a ≡ Some x → bad x at → due x at)
      → IsCause error (contents b) (counts b) (counts c) bad → IsCause error (contents a) (counts a) (counts c) due
  cause_then a b c Memory bad due read so cause = tt
  cause_then a b c ReadFault bad due read so cause =
      then-Rose (counts a).read (counts b).read (counts c).read read.read.failures.read cause
  cause_then a b c (BadImages at) bad due read so cause =
      λ x tells. so x at tells (cause x (read.read.told ∙ tells))
  cause_then a b c (Changed unit) bad due read so cause = sym read.read.told ∙ cause

-- The image that begins at a place keeps to the limits and to what is left of its group.
pub record IsWithin (limits : Limits) (at left : ℕ) (place : Place) : Type 0 where
  pub some : 0 < place.len
  pub low : place.at + place.len ≤ limits.epoch_length
  pub stands : place.from ≡ at + 12
  pub whole : at + (12 + place.len) ≤ limits.file_length
  pub fills : 12 + place.len ≤ left

-- Of the images that fill so many bytes from a place on, those before `at` were read.
pub record IsReadSoFar {H : Type 0} (contents : H → Option Contents) (moment : H → ℕ) (counts : H → Failures)
    (left_since : H → ℕ → Contents → Type 0) (old now : H) (limits : Limits) (before : List Place) (from size : ℕ)
    (places : List Place) (at left : ℕ) : Type 0 where
  pub host : OnlyRead contents moment counts left_since old now
  pub all : at + left ≡ from + size
  pub some : 0 < at
  pub within : at ≤ limits.file_length
  pub lie : All (LiesBefore at limits.epoch_length) places
  pub images : ForSome (contents old)
      (λ c. read_on c.images limits.epoch_length before from size ≡ read_on c.images limits.epoch_length places at left)

module _ {H : Type 0} {contents : H → Option Contents} {moment : H → ℕ} {counts : H → Failures}
    {left_since : H → ℕ → Contents → Type 0} (old now next : H) (limits : Limits) (before : List Place)
    (from size : ℕ) (places : List Place) (at left : ℕ)
    (so_far : IsReadSoFar contents moment counts left_since old now limits before from size places at left)
    (whole : ForSome (contents old) (λ c. limits.file_length ≡ length c.images)) where
  -- The host tells on what it told.
  tells_now : (x : Contents) → contents old ≡ Some x → contents now ≡ Some x
  tells_now x tells = so_far.host.read.told ∙ tells

  -- One image more was read.
  pub read_more : (front : List ℕ) (place : Place) (taken : ℕ) (after : List Place)
      → OnlyRead contents moment counts left_since now next
      → ForSome (contents now) (λ c. front ≡ take 12 (drop at c.images))
      → ((file : List ℕ) → length file ≡ limits.file_length → front ≡ take 12 (drop at file)
      → (bad_field file limits.epoch_length at left ≡ None) × (place ≡ image_at file at))
      → IsWithin limits at left place → taken ≡ place.len → after ≡ places ++ place ∷ []
      → IsReadSoFar contents moment counts left_since old next limits before from size after
      (at + (12 + taken)) (left - (12 + taken))
  read_more front place taken after read bytes image within is_taken is_after =
      let end = at + (12 + taken) in
      let some = within.some in
      let stands = within.stands in
      let fills = within.fills in
      let all = so_far.all in
      let lies : LiesBefore end limits.epoch_length place =
      record { some = some; within = within.low; before = omega arith } in
      let earlier : All (LiesBefore end limits.epoch_length) places =
      λ k d lt. let one = so_far.lie k d lt in
      record { some = one.some; within = one.within; before = omega (arith, one.before) } in
      record {
        host = OnlyRead-then contents moment counts left_since old now next so_far.host read;
        all = omega arith;
        some = omega arith;
        within = omega (arith, within.whole);
        lie = subst (λ xs. All (LiesBefore end limits.epoch_length) xs) (sym is_after)
            (All-push (LiesBefore end limits.epoch_length) places place earlier lies);
        images = λ x tells.
            let long = whole x tells in
            let is = image x.images (sym long) (bytes x (tells_now x tells)) in
            let same_len : image_length x.images at ≡ taken = ap (λ (p : Place). p.len) (sym is.1) ∙ sym is_taken in
            so_far.images x tells
            ∙ read_image x.images limits.epoch_length places at left so_far.some (omega (arith, so_far.within)) is.0
            ∙ ap (λ p. read_on x.images limits.epoch_length (places ++ p ∷ []) (at + (12 + image_length x.images at))
            (left - (12 + image_length x.images at))) (sym is.1)
            ∙ ap (λ n. read_on x.images limits.epoch_length (places ++ place ∷ []) (at + (12 + n)) (left - (12 + n)))
            same_len
            ∙ ap (λ xs. read_on x.images limits.epoch_length xs end (left - (12 + taken))) (sym is_after);
      }

  -- The next image has a bad field.
  pub read_stops : (front : List ℕ) (bad : ℕ) → 0 < left
      → ForSome (contents now) (λ c. front ≡ take 12 (drop at c.images))
      → ((file : List ℕ) → length file ≡ limits.file_length → front ≡ take 12 (drop at file)
      → bad_field file limits.epoch_length at left ≡ Some bad)
      → ForSome (contents old) (λ c. read_on c.images limits.epoch_length before from size ≡ Err bad)
  read_stops front bad more bytes image x tells =
      let long = whole x tells in
      so_far.images x tells
      ∙ read_bad x.images limits.epoch_length places at left so_far.some (omega (arith, so_far.within)) bad more
      (image x.images (sym long) (bytes x (tells_now x tells)))

  -- None is left.
  pub read_ends : left ≡ 0 → ForSome (contents old) (λ c.
      read_on c.images limits.epoch_length before from size ≡ read_gate c.images limits.epoch_length places at)
  read_ends none x tells = so_far.images x tells ∙ read_end x.images limits.epoch_length places at left none

-- The groups before a gate were read.
pub record IsReadTo {H : Type 0} (contents : H → Option Contents) (moment : H → ℕ) (counts : H → Failures)
    (left_since : H → ℕ → Contents → Type 0) (old now : H) (limits : Limits) (first : ℕ) (places : List Place)
    (gate : ℕ) : Type 0 where
  pub host : OnlyRead contents moment counts left_since old now
  pub later : 25 ≤ gate
  pub within : gate ≤ limits.file_length
  pub lie : All (LiesBefore gate limits.epoch_length) places
  pub groups : ForSome (contents old)
      (λ c. read_on c.images limits.epoch_length [] 25 first ≡ read_gate c.images limits.epoch_length places gate)

module _ {H : Type 0} {contents : H → Option Contents} {moment : H → ℕ} {counts : H → Failures}
    {left_since : H → ℕ → Contents → Type 0} (old now : H) (limits : Limits) (first : ℕ) (places : List Place)
    (gate : ℕ)
    (so_far : IsReadTo contents moment counts left_since old now limits first places gate) (read : Option ℕ)
    (is : ForSome (contents now) (λ c. (epoch : ℕ) (images : List Place) → IsGate c.images epoch images gate (Ok read)))
  where
    -- The gate is closed.
    pub groups_end : read ≡ None → ForSome (contents old) (λ c. read_on c.images limits.epoch_length [] 25 first
        ≡ Ok (record { epoch_length = limits.epoch_length; images = places; next_gate = gate }))
    groups_end none x tells =
        so_far.groups x tells
        ∙ subst (λ o. IsGate x.images limits.epoch_length places gate (Ok o)) none
        (is x (so_far.host.read.told ∙ tells) limits.epoch_length places)

    -- It is open, and a group stands behind it.
    pub groups_on : (size : ℕ) → read ≡ Some size → ForSome (contents old) (λ c.
        read_on c.images limits.epoch_length [] 25 first ≡ read_on c.images limits.epoch_length places (gate + 9) size)
    groups_on size some x tells =
        so_far.groups x tells
        ∙ subst (λ o. IsGate x.images limits.epoch_length places gate (Ok o)) some
        (is x (so_far.host.read.told ∙ tells) limits.epoch_length places)

    -- and its images were read
    pub groups_more : (size : ℕ) (mid next : H) (after : List Place) (end : ℕ) → read ≡ Some size
        → OnlyRead contents moment counts left_since now mid → OnlyRead contents moment counts left_since mid next
        → end ≡ gate + 9 + size → end ≤ limits.file_length → All (LiesBefore end limits.epoch_length) after
        → ForSome (contents mid) (λ c. read_on c.images limits.epoch_length places (gate + 9) size
        ≡ read_gate c.images limits.epoch_length after end)
        → IsReadTo contents moment counts left_since old next limits first after end
    groups_more size mid next after end some one two is_end within lie group =
        let later = so_far.later in
        let read_so = OnlyRead-then contents moment counts left_since old now mid so_far.host one in
        record {
          host = OnlyRead-then contents moment counts left_since old mid next read_so two;
          later = omega arith;
          within = within;
          lie = lie;
          groups = λ x tells. groups_on size some x tells ∙ group x (read_so.read.told ∙ tells);
        }

-- What the front of the file says of its chain, where the host tells on what it told.
module _ (old now : Option Contents) (n : ℕ) (front : List ℕ) (told : now ≡ old)
    (bytes : ForSome now (λ c. front ≡ take 25 c.images)) (read : Option Start)
    (is : (file : List ℕ) → front ≡ take 25 file → IsStart file n (Ok read)) where
  start_is : (x : Contents) → old ≡ Some x → IsStart x.images n (Ok read)
  start_is x tells = is x.images (bytes x (told ∙ tells))

  pub start_closed : (places : List Place) → read ≡ None → places ≡ []
      → ForSome old (λ c. chain_of c.images n ≡ Ok (record { epoch_length = 0; images = places; next_gate = 8 }))
  start_closed places none empty x tells =
      subst (λ o. IsStart x.images n (Ok o)) none (start_is x tells)
      ∙ ap (λ xs. Ok (record { epoch_length = 0; images = xs; next_gate = 8 })) (sym empty)

  pub start_opened : (start : Start) → read ≡ Some start
      → ForSome old (λ c. chain_of c.images n ≡ read_on c.images start.epoch_length [] 25 start.size)
  start_opened start some x tells = subst (λ o. IsStart x.images n (Ok o)) some (start_is x tells)
