-- The steps of an epoch, from state to state.
use Rattle.std.proofs.Common.{◌≡◌, ℕ, ◌+◌, ◌<◌, ◌≤◌, List, [], ◌∷◌, ◌++◌, length, take, drop, slice_index}
use Rattle.std.proofs.Common.{refl, sym, subst, ap, ◌∙◌, arith, length-take, length-drop, get_or-take, get_or-drop}
use Rattle.std.proofs.Common.{length-append}
use Rattle.std.proofs.lemmas.List.{ext_get_or, take_at, drop_at, get_or_at, take-append-le, append_assoc}
use Rattle.host_model.specs.declared.host.FileNo.TheVariants.{Db, Images}
use Rattle.host_model.specs.Disk.{Changes, Torn, written}
use Rattle.host_model.specs.Files.{Contents}
use Rattle.gds_images.specs.Group.{Image, group_bytes}
use Rattle.gds_images.specs.Outcome.{IsClosed}
use Rattle.gds_epoch.specs.State.{HasGroup, IsOutside, LeadsBack, Rests}
use Rattle.gds_epoch.proofs.BackLemmas.{group_long}
use Rattle.gds_epoch.proofs.LengthLemmas.{StaysBefore-torn}

-- the file of images of a closed file
pub closed_long : (file : List ℕ) → IsClosed file → 9 ≤ length file
closed_long file closed = omega (arith, length-take 9 file, ap length closed)

-- A database at rest is so while a group is written behind the closed gate.
pub group_torn : (epoch : List ℕ) (before : Contents) (n : ℕ) (d c : Contents)
    → Rests epoch before d → Changes Images (Torn 9 n) d c → Rests epoch before c
group_torn epoch before n d c rests step =
    let stays = StaysBefore-torn 9 9 n d.images c.images (omega arith) step.changed in
    record {
      rest = record {
        closed = stays.front 9 (omega arith) (closed_long d.images rests.rest.closed) ∙ rests.rest.closed;
        whole = rests.rest.whole;
        front = ap (take (length epoch)) (step.other Db (λ e. cc)) ∙ rests.rest.front;
      };
      said = step.said ∙ rests.said;
    }

-- where the group is written
pub group_written : (n : ℕ) (images : List Image) (file : List ℕ) → IsClosed file
    → HasGroup n images (written 9 (group_bytes 8 n images) file)
group_written n images file closed =
    let group = group_bytes 8 n images in
    let rest = drop (9 + length group) file in
    let front : length (take 9 file) ≡ 9 = omega (arith, length-take 9 file, closed_long file closed) in
    record {
      begins = take-append-le 8 (take 9 file ++ group) rest
          (omega (arith, length-append (take 9 file) group, front))
          ∙ take-append-le 8 (take 9 file) group (omega (arith, front)) ∙ ap (take 8) closed;
      group = ap (take (length group))
          (ap (drop 9) (append_assoc (take 9 file) group rest) ∙ drop_at (take 9 file) (group ++ rest) 9 front)
          ∙ take_at group rest (length group) refl;
    }

-- A database that rests, with the group behind its gate, is led back to.
pub rests_leads : (epoch : List ℕ) (images : List Image) (before c : Contents)
    → Rests epoch before c → HasGroup (length epoch) images c.images → LeadsBack epoch images before c
rests_leads epoch images before c rests has = record {
  group = has;
  outside = front_outside epoch images c.db rests.rest.front;
  said = rests.said;
}
  where
    front_outside : (epoch : List ℕ) (images : List Image) (file : List ℕ) → take (length epoch) file ≡ epoch
        → IsOutside epoch images file
    front_outside epoch images file front = record {
      long = omega (arith, length-take (length epoch) file, ap length front);
      same = λ i below none. sym (get_or-take (length epoch) file i 0 below) ∙ ap (λ xs. slice_index xs i) front;
    }

-- what stands behind a torn write
range_torn : (at n from len : ℕ) (old new : List ℕ) → Torn at n old new → at + n ≤ from → from + len ≤ length old
    → take len (drop from new) ≡ take len (drop from old)
range_torn at n from len old new torn behind within =
    let size : (file : List ℕ) → length old ≤ length file → length (take len (drop from file)) ≡ len =
    λ file long. omega (arith, length-take len (drop from file), length-drop from file) in
    ext_get_or 0 (take len (drop from new)) (take len (drop from old))
    (size new torn.no_shorter ∙ sym (size old (omega arith)))
    (λ i below.
    let lt : i < len = omega (arith, size new torn.no_shorter) in
    get_or-take len (drop from new) i 0 lt ∙ get_or-drop from new i 0
    ∙ torn.behind (from + i) (omega arith) (omega arith)
    ∙ sym (get_or-take len (drop from old) i 0 lt ∙ get_or-drop from old i 0))

-- The group stays while the gate is written.
pub gate_torn : (epoch : List ℕ) (images : List Image) (old new : List ℕ)
    → HasGroup (length epoch) images old → Torn 8 1 old new → HasGroup (length epoch) images new
gate_torn epoch images old new has torn =
    let group = group_bytes 8 (length epoch) images in
    let long = group_long epoch images old has in
    let within : 9 + length group ≤ length old =
    omega (arith, long, length-take (length group) (drop 9 old), length-drop 9 old, ap length has.group) in
    record {
      begins = (StaysBefore-torn 8 8 1 old new (omega arith) torn).front 8 (omega arith) (omega (arith, long))
          ∙ has.begins;
      group = range_torn 8 1 9 (length group) old new torn (omega arith) within ∙ has.group;
    }

pub leads_gate_torn : (epoch : List ℕ) (images : List Image) (before d c : Contents)
    → LeadsBack epoch images before d → Changes Images (Torn 8 1) d c → LeadsBack epoch images before c
leads_gate_torn epoch images before d c leads step = record {
  group = gate_torn epoch images d.images c.images leads.group step.changed;
  outside = subst (IsOutside epoch images) (sym (step.other Db (λ e. cc))) leads.outside;
  said = step.said ∙ leads.said;
}

-- the byte of the gate once it is written
pub gate_written : (byte : ℕ) (file : List ℕ) → 9 ≤ length file → slice_index (written 8 (byte ∷ []) file) 8 ≡ byte
gate_written byte file long =
    let front : length (take 8 file) ≡ 8 = omega (arith, length-take 8 file) in
    ap (λ xs. slice_index xs 8) (append_assoc (take 8 file) (byte ∷ []) (drop 9 file))
    ∙ get_or_at (take 8 file) byte (drop 9 file) 0 8 front
