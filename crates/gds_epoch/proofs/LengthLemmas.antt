-- Writes and cuts behind a place leave what is before it.
use Rattle.std.proofs.Common.{◌≡◌, ℕ, ◌+◌, ◌-◌, ◌<◌, ◌≤◌, List, ◌++◌, length, take, replicate}
use Rattle.std.proofs.Common.{refl, sym, ap, subst, ◌∙◌, arith, length-take, get_or, get_or-take}
use Rattle.std.proofs.Common.{length-append, append_assoc, drop}
use Rattle.std.proofs.lemmas.List.{ext_get_or, length-replicate, take_at, drop_at, drop-drop, take-replicate}
use Rattle.std.proofs.lemmas.List.{replicate-append-replicate}
use Rattle.host_model.specs.declared.host.FileNo.{FileNo}
use Rattle.host_model.specs.declared.host.FileNo.TheVariants.{Db, Images}
use Rattle.host_model.specs.Disk.{Changes, Cut, Torn, written}
use Rattle.host_model.specs.Files.{Contents, file_of, with_file}
use Rattle.host_model.proofs.FileLemmas.{written-Torn}
use Rattle.gds_images.specs.Outcome.{IsClosed}
use Rattle.gds_epoch.specs.State.{Rests}
use Rattle.gds_epoch.specs.Length.{KeepsFront, StaysBefore, with_zeros}

-- A file stays before a place where it keeps each byte there and is no shorter.
stays_by_bytes : (n : ℕ) (old new : List ℕ) → ((m : ℕ) → m ≤ n → m ≤ length old → m ≤ length new)
    → ((i : ℕ) → i < n → i < length old → i < length new → get_or new i 0 ≡ get_or old i 0)
    → StaysBefore n old new
stays_by_bytes n old new long same = record {
  front = λ m below within.
      let in_new : m ≤ length new = long m below within in
      ext_get_or 0 (take m new) (take m old) (omega (arith, length-take m new, length-take m old))
      (λ i lt.
      let short : i < m = omega (arith, length-take m new) in
      get_or-take m new i 0 short ∙ same i (omega arith) (omega arith) (omega arith)
      ∙ sym (get_or-take m old i 0 short));
}

pub StaysBefore-torn : (n at len : ℕ) (old new : List ℕ) → n ≤ at → Torn at len old new → StaysBefore n old new
StaysBefore-torn n at len old new below torn =
    stays_by_bytes n old new (λ m _ within. omega (arith, within, torn.no_shorter))
    (λ i lt within _. torn.before i within (omega arith))

pub StaysBefore-cut : (n : ℕ) (old new : List ℕ) → Cut n old new → StaysBefore n old new
StaysBefore-cut n old new cut =
    stays_by_bytes n old new (λ m below within. omega (arith, below, within, cut.no_shorter))
    (λ i lt _ within. cut.below i lt within)

pub StaysBefore-refl : (n : ℕ) (file : List ℕ) → StaysBefore n file file
StaysBefore-refl n file = record { front = λ m below within. refl }

pub StaysBefore-then : (n : ℕ) (a b c : List ℕ) → StaysBefore n a b → StaysBefore n b c → StaysBefore n a c
StaysBefore-then n a b c first second = record {
  front = λ m below within.
      let same = first.front m below within in
      let longer : m ≤ length b = omega (arith, length-take m b, length-take m a, ap length same) in
      second.front m below longer ∙ same;
}

-- a step that changes the database file behind a place alone
abbrev pub BehindOnly : ℕ → Contents → Contents → Type 0
BehindOnly n = Changes Db (StaysBefore n)

pub BehindOnly-then : (n : ℕ) (a b c : Contents) → BehindOnly n a b → BehindOnly n b c → BehindOnly n a c
BehindOnly-then n a b c first second = record {
  changed = StaysBefore-then n a.db b.db c.db first.changed second.changed;
  other = λ file not. second.other file not ∙ first.other file not;
  said = second.said ∙ first.said;
}

pub behind_write : (n at len : ℕ) → n ≤ at → (old new : Contents) → Changes Db (Torn at len) old new
    → BehindOnly n old new
behind_write n at len below old new step = record {
  changed = StaysBefore-torn n at len old.db new.db below step.changed;
  other = step.other;
  said = step.said;
}

pub behind_cut : (n : ℕ) (old new : Contents) → Changes Db (Cut n) old new → BehindOnly n old new
behind_cut n old new step = record {
  changed = StaysBefore-cut n old.db new.db step.changed;
  other = step.other;
  said = step.said;
}

-- A database at rest that ends there or before rests on.
pub rests_before : (image : List ℕ) (before : Contents) (n : ℕ) → length image ≤ n
    → (old new : Contents) → Rests image before old → BehindOnly n old new → Rests image before new
rests_before image before n short old new rests step =
    let within : length image ≤ length old.db =
    omega (arith, length-take (length image) old.db, ap length rests.rest.front) in
    record {
      rest = record {
        closed = subst IsClosed (sym (step.other Images (λ e. cc))) rests.rest.closed;
        whole = rests.rest.whole;
        front = step.changed.front (length image) short within ∙ rests.rest.front;
      };
      said = step.said ∙ rests.said;
    }

-- what is told then
pub keeps_front : (n : ℕ) (old new : Contents) → n ≤ length old.db → BehindOnly n old new → KeepsFront n old new
keeps_front n old new within step = record {
  front = step.changed.front n (omega arith) within;
  images = step.other Images (λ e. cc);
  said = step.said;
}

-- a write right behind an earlier one
pub written-written : (from at : ℕ) (first second file : List ℕ) → at ≡ from + length first → from ≤ length file
    → written at second (written from first file) ≡ written from (first ++ second) file
written-written from at first second file next within =
    let front : List ℕ = take from file ++ first in
    let rest : List ℕ = drop (from + length first) file in
    let front_is : take at (front ++ rest) ≡ front =
    take_at front rest at (length-append (take from file) first ∙ omega (arith, length-take from file)) in
    let rest_is : drop at (front ++ rest) ≡ rest =
    drop_at front rest at (length-append (take from file) first ∙ omega (arith, length-take from file)) in
    let behind : drop (at + length second) (front ++ rest) ≡ drop (from + length (first ++ second)) file =
    sym (drop-drop (length second) at (front ++ rest)) ∙ ap (drop (length second)) rest_is
    ∙ drop-drop (length second) (from + length first) file
    ∙ ap (λ n. drop n file) (omega (arith, length-append first second)) in
    ap (λ xs. xs ++ second ++ drop (at + length second) (front ++ rest)) front_is
    ∙ ap (λ xs. front ++ second ++ xs) behind
    ∙ ap (λ xs. xs ++ drop (from + length (first ++ second)) file) (append_assoc (take from file) first second)

-- a piece of zeros behind those that are there
pub more_zeros : (from at n count : ℕ) (zeros file : List ℕ) → zeros ≡ replicate n 0 → count ≤ n
    → from ≤ at → from ≤ length file
    → written at (take count zeros) (written from (replicate (at - from) 0) file)
    ≡ written from (replicate (at + count - from) 0) file
more_zeros from at n count zeros file are short behind within =
    let piece : take count zeros ≡ replicate count 0 = ap (take count) are ∙ take-replicate count n 0 short in
    let next : at ≡ from + length (replicate {A = ℕ} (at - from) 0) =
    omega (arith, length-replicate {A = ℕ} (at - from) 0) in
    let sum : at - from + count ≡ at + count - from = omega arith in
    written-written from at (replicate (at - from) 0) (take count zeros) file next within
    ∙ ap (λ xs. written from (replicate (at - from) 0 ++ xs) file) piece
    ∙ ap (λ xs. written from xs file) (replicate-append-replicate (at - from) count 0)
    ∙ ap (λ k. written from (replicate k 0) file) sum

-- another file than the database file
other_file : (bytes : List ℕ) (c : Contents) (file : FileNo) → (file ≡ Db → ⊥)
    → file_of (record c { db = bytes }) file ≡ file_of c file
other_file bytes c Db not = absurd (not refl)
other_file bytes c Images not = refl

-- the zeros so far are a step behind the place
pub zeros_behind : (from at : ℕ) (c d : Contents) → d ≡ with_zeros from at c → BehindOnly from c d
zeros_behind from at c d is =
    let bytes : List ℕ = replicate (at - from) 0 in
    subst (BehindOnly from c) (sym is) (record {
      changed = StaysBefore-torn from from (length bytes) c.db (written from bytes c.db) (omega arith)
          (written-Torn from bytes c.db);
      other = other_file (written from bytes c.db) c;
      said = refl;
    })

-- a write behind the zeros so far, whatever comes of it
pub zeros_torn : (from at len : ℕ) (c d e : Contents) → from ≤ at → d ≡ with_zeros from at c
    → Changes Db (Torn at len) d e → BehindOnly from c e
zeros_torn from at len c d e behind is step =
    BehindOnly-then from c d e (zeros_behind from at c d is) (behind_write from at len behind d e step)

-- and one that was made
pub zeros_written : (from at n count : ℕ) (zeros : List ℕ) (c d e : Contents) → zeros ≡ replicate n 0 → count ≤ n
    → from ≤ at → from ≤ length c.db → d ≡ with_zeros from at c
    → e ≡ with_file Db (written at (take count zeros) d.db) d → e ≡ with_zeros from (at + count) c
zeros_written from at n count zeros c d e are short behind within so_far is =
    is ∙ ap (λ (x : Contents). with_file Db (written at (take count zeros) x.db) x) so_far
    ∙ ap (λ xs. record c { db = xs }) (more_zeros from at n count zeros c.db are short behind within)
