-- What is known of units right after they were opened.
use Rattle.std.proofs.Common.{◌≡◌, ℕ, ◌^◌, ◌<◌, false, List, [], length, take, Option, None, refl, sym, ap}
use Rattle.std.proofs.Common.{subst, ◌∙◌, arith}
use Rattle.std.specs.Option.{ForSome}
use Rattle.std.proofs.lemmas.Nat.{mul-le}
use Rattle.std.proofs.Math.Seq.{take-length}
use Rattle.std.proofs.lemmas.List.Elements.{All-nil}
use Rattle.host_model.specs.Files.{Contents}
use Rattle.gds_header.specs.Fields.{file_length_of}
use Rattle.gds_header.specs.Kinds.{IsWithinLimits}
use Rattle.gds_header.specs.declared.header.Header.{Header}
use Rattle.gds_images.specs.Outcome.{IsAtRest, IsWhole}
use Rattle.gds_images.proofs.RestLemmas.{rest_found}
use Rattle.gds_epoch.specs.Epoch.{IsImageOf, IsKept, database_of}
use Rattle.gds_epoch.specs.State.{Rests}
use Rattle.gds_epoch.specs.Waiting.{LiesWithin, WaitingUnit}
use Rattle.gds_images.specs.Group.{Image}
use Rattle.gds_recovery.specs.Found.{IsOpened}
use Rattle.gds_recovery.proofs.WorkLemmas.{was_told}
use Rattle.gds_units.specs.Held.{AreUnits, IsHeld, IsRecoverable}
use Rattle.gds_units.specs.Opening.{HoldsWhole, IsStable}

-- A file of a header within the limits has a length of far less than 63 bits.
pub file_length-short : (h : Header) → IsWithinLimits h → file_length_of h < 2 ^ 63
file_length-short h limits =
    let most =
    mul-le h.total h.block_size 1048576 65024 (omega (arith, limits.total_to, limits.limit_to)) limits.block_to in
    omega (arith, most)

module _ (h : Header) (c : Contents) (holds : HoldsWhole h c) where
  -- The file is as long as its header says, and so is the database with which it begins.
  pub whole_length : file_length_of h ≡ length c.db
  whole_length = ap file_length_of holds.fields ∙ holds.whole.len

  whole_front : (n : ℕ) → n ≡ length c.db → take n c.db ≡ c.db
  whole_front n is = ap (λ n. take n c.db) is ∙ take-length c.db

  pub whole_database : database_of c.db ≡ c.db
  whole_database = whole_front _ holds.whole.len

  whole_rests : IsAtRest c.db c
  whole_rests = record { closed = holds.closed; whole = holds.whole; front = take-length c.db }

  whole_held : IsHeld h (file_length_of h) [] c
  whole_held = record {
    long = omega (arith, whole_length);
    whole = subst IsWhole (sym whole_database) holds.whole;
    fields = sym holds.fields;
  }

  whole_found : IsRecoverable c
  whole_found = record { image = c.db; recovers = rest_found c.db c whole_rests }

  whole_resting : Rests (take (file_length_of h) c.db) c c
  whole_resting = record {
    rest = subst (λ image. IsAtRest image c) (sym (whole_front (file_length_of h) whole_length)) whole_rests;
    said = refl;
  }

module _ {H : Type 0} (told : H → Option Contents) (moment : H → ℕ) (left_since : H → ℕ → Contents → Type 0) where
  -- What is stable and whole gives units of which none waits.
  pub fresh_units : (host : H) (h : Header) → IsWithinLimits h → ForSome (told host) (HoldsWhole h)
      → IsStable told moment left_since host
      → AreUnits told moment left_since host h [] [] (file_length_of h) (file_length_of h) false
  fresh_units host h limits holds stable = record {
    places = record {
      limits = limits;
      epoch = omega arith;
      blocks = record { blocks = h.total; ends = refl };
      now = omega arith;
      short = file_length-short h limits;
      inside = All-nil (LiesWithin h.block_size (file_length_of h));
      kept = All-nil (IsKept h.block_size (file_length_of h) []);
      none = λ _. refl;
    };
    held = λ c tells. whole_held h c (holds c tells);
    found = λ c tells d left. subst IsRecoverable (sym (stable c tells d left)) (whole_found h c (holds c tells));
    resting = λ going c tells. record {
      each = λ d left. subst (Rests (take (file_length_of h) c.db) c) (sym (stable c tells d left))
          (whole_resting h c (holds c tells));
      old = All-nil (IsImageOf (take (file_length_of h) c.db));
    };
  }

  -- with these equal to what the code has
  pub units_are : (host : H) (h : Header) (units : List WaitingUnit) (images : List Image) (n : ℕ)
      → units ≡ [] → images ≡ [] → n ≡ file_length_of h
      → AreUnits told moment left_since host h [] [] (file_length_of h) (file_length_of h) false
      → AreUnits told moment left_since host h units images n n false
  units_are host h units images n none no_images is are =
      subst (λ (us : List WaitingUnit). AreUnits told moment left_since host h us images n n false) (sym none)
      (subst (λ (is : List Image). AreUnits told moment left_since host h [] is n n false) (sym no_images)
      (subst (λ (k : ℕ). AreUnits told moment left_since host h [] [] k k false) (sym is) are))

-- A recovery leaves a whole database and a closed file of images.
pub opened_whole : (old new : Option Contents) (header : Header) → (old ≡ None → new ≡ None)
    → ForSome old (λ c. ForSome new (IsOpened c header)) → ForSome new (HoldsWhole header)
opened_whole old new header untold opened now tells =
    let was = was_told old new now untold tells in
    let is = opened was.0 was.1 now tells in
    record { closed = is.closed; whole = is.whole; fields = is.fields }
