-- The units of a commit's plan.
use Rattle.std.proofs.Common.{◌≡◌, ℕ, zero, suc, ◌+◌, ◌-◌, ◌*◌, ◌<◌, ◌≤◌, ◌==◌, Bool, true, false, List, [], ◌∷◌, ◌++◌}
use Rattle.std.proofs.Common.{length, take, drop, get_or, sym, ap, subst, ◌∙◌, arith, length-append, length-take}
use Rattle.std.proofs.Common.{length-drop, Option, None, Some}
use Rattle.std.proofs.Math.ListN.{set}
use Rattle.std.specs.Prelude.{All, if◌then◌else◌, map, option_map}
use Rattle.std.proofs.lemmas.Bool.{cond-false, ne_eqb}
use Rattle.std.proofs.lemmas.List.{get_or-append_right, get_or-map, length-map, map-set}
use Rattle.std.proofs.lemmas.List.Edits.{map_over_more}
use Rattle.std.proofs.lemmas.List.Elements.{All-cons, All-drop, All-get_or, All-map, All-weaker}
use Rattle.gds_block.specs.Fields.{u64_bytes}
use Rattle.gds_block.proofs.FieldLemmas.{length-u64_bytes, length-with_bytes}
use Rattle.gds_header.specs.declared.header.Header.{Header}
use Rattle.gds_header.specs.Fields.{file_length_of, header_bytes, place_of}
use Rattle.gds_header.specs.Kinds.{unreadable}
use Rattle.gds_epoch.specs.Waiting.{IsRising, WaitingUnit, size_of, waiting_bytes}
use Rattle.gds_epoch.specs.WaitingView.{unit_of, units_of}
use Rattle.gds_epoch.specs.declared.waiting.UnitBytes.{UnitBytes}
use Rattle.gds_file.specs.Stamp.{with_number}
use Rattle.gds_new.proofs.HeaderLemmas.{length-header_bytes}
use Rattle.gds_draft.specs.Committed.{next_header}
use Rattle.gds_draft.specs.Draft.{DraftState, IsBlockOf, block_in}
use Rattle.gds_draft.proofs.DraftLemmas.{master_long}
use Rattle.gds_units.specs.Plan.{IsPlan, header_after}
use Rattle.gds_base.specs.Commit.{IsPlanOf, stamped}
use Rattle.gds_base.specs.Drafting.{IsDraftFor}

-- ---- Units that get a transaction number, one after another.

module _ (tn : ℕ) (old : List WaitingUnit) (now : List UnitBytes) (i : ℕ) (item : UnitBytes) (within : i < length now)
    (so_far : units_of now ≡ map (stamped tn) (take i old) ++ drop i old) (is : item ≡ get_or now i item) where
  within_old : i < length old
  within_old = omega (
    arith,
    within,
    ap length so_far,
    length-map now unit_of,
    length-append (map (stamped tn) (take i old)) (drop i old),
    length-map (take i old) (stamped tn),
    length-take i old,
    length-drop i old,
  )

  front_long : length (map (stamped tn) (take i old)) ≡ i
  front_long = length-map (take i old) (stamped tn) ∙ omega (arith, within_old, length-take i old)

  item_is : unit_of item ≡ get_or (units_of now) i (unit_of item)
  item_is = ap unit_of is ∙ sym (get_or-map unit_of now i item (unit_of item) within)

  -- What holds of all of them holds of the next one.
  pub next_has : (P : WaitingUnit → Type 0) → All P old → P (unit_of item)
  next_has P all =
      let there = item_is ∙ ap (λ units. get_or units i (unit_of item)) so_far
      ∙ get_or-append_right (map (stamped tn) (take i old)) (drop i old) i i (unit_of item) front_long (omega arith) in
      subst P (sym there)
      (All-get_or P (drop i old) (i - i) (unit_of item) (omega (arith, within_old, length-drop i old))
      (All-drop P i old all))

  pub stamped_more : (new : UnitBytes) → unit_of new ≡ stamped tn (unit_of item)
      → units_of (set now i new) ≡ map (stamped tn) (take (i + 1) old) ++ drop (i + 1) old
  stamped_more new made =
      map-set unit_of now i new ∙ ap (set (units_of now) i) made
      ∙ map_over_more (stamped tn) old (units_of now) i (unit_of item) within_old so_far item_is

-- What a list of units has of each is what the stamped ones have, with the number.
waiting_stamped : (tn : ℕ) (units : List WaitingUnit) (unit : ℕ) (o : Option (List ℕ)) → waiting_bytes units unit ≡ o
    → waiting_bytes (map (stamped tn) units) unit ≡ option_map (with_number tn) o
waiting_stamped tn [] unit o is = ap (option_map (with_number tn)) is
waiting_stamped tn (x ∷ units) unit o is = by (x.unit == unit) is (waiting_stamped tn units unit o)
  where
    by : (t : Bool) → (if t then Some x.bytes else waiting_bytes units unit) ≡ o
        → (waiting_bytes units unit ≡ o → waiting_bytes (map (stamped tn) units) unit ≡ option_map (with_number tn) o)
        → (if t then Some (with_number tn x.bytes) else waiting_bytes (map (stamped tn) units) unit)
        ≡ option_map (with_number tn) o
    by true found others = ap (option_map (with_number tn)) found
    by false found others = others found

-- ---- The whole plan.

module _ (h : Header) (draft : DraftState) (plan : List WaitingUnit) (planned : IsPlanOf draft plan)
    (fits : IsDraftFor h draft) where
  abbrev next : Header
  next = next_header draft.header

  abbrev front : WaitingUnit
  front = record { unit = 0; bytes = header_bytes next }

  abbrev changed : List WaitingUnit
  changed = map (stamped draft.header.tn) draft.units

  -- what holds of the header and of each block holds of all
  of_each : (P : WaitingUnit → Type 0) → P front
      → ((w : WaitingUnit) → IsBlockOf draft.header w → P (stamped draft.header.tn w)) → All P plan
  of_each P first each =
      subst (All P) (sym planned.units_are)
      (All-cons P front changed first
      (All-map P (stamped draft.header.tn) draft.units
      (All-weaker (IsBlockOf draft.header) (λ w. P (stamped draft.header.tn w)) each draft.units
      planned.draft_is.blocks)))

  -- a block keeps its size
  size_kept : (w : WaitingUnit) → IsBlockOf draft.header w
      → length (with_number draft.header.tn w.bytes) ≡ h.block_size
  size_kept w block =
      length-with_bytes w.bytes (u64_bytes draft.header.tn) 8
      (omega (arith, length-u64_bytes draft.header.tn, block.size, planned.draft_is.limits.block_from))
      ∙ block.size ∙ fits.block_size

  pub sizes : All (λ (w : WaitingUnit). length w.bytes ≡ size_of h.block_size w.unit) plan
  sizes = of_each (λ w. length w.bytes ≡ size_of h.block_size w.unit)
      (length-header_bytes next (master_long next planned.again))
      (λ w block. size_kept w block
      ∙ sym (cond-false (w.unit == 0) _ _ (ne_eqb w.unit 0 (λ e. omega (arith, e, block.from)))))

  pub after : header_after h plan ≡ next
  after = ap (header_after h) planned.units_are ∙ planned.again

  pub numbers : All (λ (w : WaitingUnit). w.unit ≤ (header_after h plan).total) plan
  numbers =
      let total : draft.header.total ≡ (header_after h plan).total = ap (λ (g : Header). g.total) (sym after) in
      of_each (λ w. w.unit ≤ (header_after h plan).total) (omega arith)
      (λ w block. omega (arith, block.to, total))

  readable : All (λ (w : WaitingUnit). w.unit ≡ 0 → unreadable w.bytes ≡ None) plan
  readable = of_each (λ w. w.unit ≡ 0 → unreadable w.bytes ≡ None) (λ zero. planned.readable)
      (λ w block zero. absurd (omega (arith, zero, block.from)))

  -- The numbers rise.
  number : (i : ℕ) (d : WaitingUnit) → i < length draft.units
      → (get_or changed i d).unit ≡ (get_or draft.units i d).unit
  number i d within =
      ap (λ (w : WaitingUnit). w.unit) (get_or-map (stamped draft.header.tn) draft.units i d d within)

  changed_rising : IsRising changed
  changed_rising i j d less within =
      let low : j < length draft.units = omega (arith, within, length-map draft.units (stamped draft.header.tn)) in
      omega (
        arith,
        planned.draft_is.rising i j d less low,
        number i d (omega (arith, less, low)),
        number j d low,
      )

  above : All (λ (w : WaitingUnit). 0 < w.unit) changed
  above = All-map (λ (w : WaitingUnit). 0 < w.unit) (stamped draft.header.tn) draft.units
      (All-weaker (IsBlockOf draft.header) (λ (w : WaitingUnit). 0 < w.unit) (λ w block. omega (arith, block.from))
      draft.units planned.draft_is.blocks)

  all_rising : IsRising (front ∷ changed)
  all_rising zero zero d less within = absurd (omega (arith, less))
  all_rising zero (suc j) d less within = above j d (omega (arith, within))
  all_rising (suc i) zero d less within = absurd (omega (arith, less))
  all_rising (suc i) (suc j) d less within = changed_rising i j d (omega (arith, less)) (omega (arith, within))

  pub rising : IsRising plan
  rising = subst IsRising (sym planned.units_are) all_rising

  -- It may be carried out where the file is long enough.
  pub may_be_carried_out : (extent : ℕ) → place_of h draft.header.total ≤ extent → IsPlan h extent plan
  may_be_carried_out extent long = record {
    distinct = λ i j d less within same. omega (arith, rising i j d less within, same);
    sizes = sizes;
    inside = numbers;
    readable = readable;
    block_size = ap (λ (g : Header). g.block_size) after ∙ fits.block_size;
    grown =
        let size : place_of next draft.header.total ≡ place_of h draft.header.total =
        ap (λ k. 8192 + draft.header.total * k) fits.block_size in
        omega (arith, ap file_length_of after, size, long);
  }

  -- ---- What it has of each unit.

  pub has_front : waiting_bytes plan 0 ≡ Some (header_bytes next)
  has_front = ap (λ units. waiting_bytes units 0) planned.units_are

  pub has_block : (n : ℕ) (o : Option (List ℕ)) → block_in draft n ≡ o
      → waiting_bytes plan (n + 1) ≡ option_map (with_number draft.header.tn) o
  has_block n o is =
      ap (λ units. waiting_bytes units (n + 1)) planned.units_are
      ∙ cond-false (0 == n + 1) _ _ (ne_eqb 0 (n + 1) (λ e. omega (arith, e)))
      ∙ waiting_stamped draft.header.tn draft.units (n + 1) o is
