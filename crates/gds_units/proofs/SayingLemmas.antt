-- What a saying leaves of units.
use Rattle.std.proofs.Common.{◌≡◌, ◌≤◌, ℕ, Bool, List, length, take, Option, None, Some, Result, Ok, Err, sym, ap}
use Rattle.std.proofs.Common.{subst, ◌∙◌}
use Rattle.std.specs.Prelude.{All}
use Rattle.host_model.specs.Disk.{Follows, SaysSome}
use Rattle.host_model.specs.Files.{Contents, Says}
use Rattle.host_model.specs.Told.{TellsOn}
use Rattle.gds_header.specs.Fields.{fields_of}
use Rattle.gds_header.specs.declared.header.Header.{Header}
use Rattle.gds_images.specs.Group.{Image}
use Rattle.gds_images.specs.Outcome.{IsAtRest, IsWhole}
use Rattle.gds_images.specs.Recovered.{recovered}
use Rattle.gds_epoch.specs.Epoch.{IsImageOf, database_of}
use Rattle.gds_epoch.specs.Waiting.{WaitingUnit, patched}
use Rattle.gds_epoch.proofs.ToldLemmas.{told_before}
use Rattle.gds_units.specs.Held.{AreUnits, IsRecoverable}

-- Both files stay.
says_db : {T E : Type 0} (bytes : List ℕ) (result : Result T E) (c d : Contents) → Says bytes result c d → d.db ≡ c.db
says_db bytes (Ok x) c d says = ap (λ (y : Contents). y.db) says
says_db bytes (Err e) c d says = ap (λ (y : Contents). y.db) says.1

found_after : (x d : Contents) (bytes : List ℕ) → SaysSome bytes x d → IsRecoverable x → IsRecoverable d
found_after x d bytes some is = record {
  image = is.image;
  recovers = ap (λ (y : Contents). recovered y.db y.images) some.1 ∙ is.recovers;
}

rest_after : (x d : Contents) (bytes image : List ℕ) → SaysSome bytes x d → IsAtRest image x → IsAtRest image d
rest_after x d bytes image some rest = record {
  closed = ap (λ (y : Contents). take 9 y.images) some.1 ∙ rest.closed;
  whole = rest.whole;
  front = ap (λ (y : Contents). take (length image) y.db) some.1 ∙ rest.front;
}

module _ {H : Type 0} {told : H → Option Contents} {moment : H → ℕ} {left_since : H → ℕ → Contents → Type 0} where
  pub after_saying : ((host : H) (now c : Contents) → told host ≡ Some now → left_since host (moment host) c
      → c.said ≡ now.said)
      → (old new : H) (h : Header) (units : List WaitingUnit) (images : List Image) (epoch extent : ℕ) (stopped : Bool)
      → AreUnits told moment left_since old h units images epoch extent stopped
      → {T E : Type 0} (bytes : List ℕ) (result : Result T E)
      → (told old ≡ None → told new ≡ None) → TellsOn (told old) (told new) (Says bytes result)
      → Follows (SaysSome bytes) (left_since old (moment old)) (left_since new (moment new))
      → AreUnits told moment left_since new h units images epoch extent stopped
  after_saying said_stays old new h units images epoch extent stopped are bytes result untold tells crash =
      let before : (d : Contents) → told new ≡ Some d → (c : Contents) × (told old ≡ Some c) × Says bytes result c d =
      λ d is. told_before (told old) (told new) (Says bytes result) d untold is tells in
      let same : (c d : Contents) → Says bytes result c d → d.db ≡ c.db = says_db bytes result in
      record {
        places = are.places;
        held = λ d is.
            let past = before d is in
            let held = are.held past.0 past.1 in
            let db = same past.0 d past.2 in record {
              long = subst (λ file. extent ≤ length file) (sym db) held.long;
              whole = subst (λ file. IsWhole (database_of (patched h.block_size units file))) (sym db) held.whole;
              fields = ap (λ file. fields_of (patched h.block_size units file)) db ∙ held.fields;
            };
        found = λ d is x left.
            let past = before d is in
            let from = crash x left in
            found_after from.0 x bytes from.2 (are.found past.0 past.1 from.0 from.1);
        resting = λ going d is.
            let past = before d is in
            let resting = are.resting going past.0 past.1 in
            let db = same past.0 d past.2 in record {
              each = λ x left.
                  let from = crash x left in record {
                    rest = subst (λ file. IsAtRest (take epoch file) x) (sym db)
                        (rest_after from.0 x bytes (take epoch past.0.db) from.2 (resting.each from.0 from.1).rest);
                    said = said_stays new d x is left;
                  };
              old = subst (λ file. All (IsImageOf (take epoch file)) images) (sym db) resting.old;
            };
      }
