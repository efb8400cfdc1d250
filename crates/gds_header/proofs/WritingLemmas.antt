-- What is put into a header's zeros, piece after piece, and that the bytes read as the header again.
use Rattle.std.proofs.Common.{◌≡◌, ℕ, ◌+◌, ◌-◌, ◌^◌, ◌<◌, List, [], ◌∷◌, ◌++◌, length, length-append, take, drop}
use Rattle.std.proofs.Common.{replicate, refl, sym, ap, subst, ◌∙◌, arith, None}
use Rattle.std.specs.Prelude.{false, true, not, nat_eq, nat_lt, ◌||◌, ◌==◌, ◌%◌}
use Rattle.std.specs.List.{starts_with, concat}
use Rattle.std.proofs.lemmas.Bool.Decides.{nat_tests}
use Rattle.gds_header.specs.Kinds.{IsWithinLimits, keeps_limits, unreadable}
use Rattle.std.proofs.lemmas.List.{append_assoc, append-nil, take_at, drop_at, drop-drop, drop-replicate}
use Rattle.std.proofs.lemmas.List.{length-replicate, replicate-append-replicate}
use Rattle.gds_block.specs.Fields.{u32_bytes, u64_bytes, with_bytes}
use Rattle.gds_block.proofs.FieldLemmas.{length-u32_bytes, length-u64_bytes, u32_at-here, u64_at-here}
use Rattle.gds_header.specs.Fields.{zeros, label, header_bytes, fields_of}
use Rattle.gds_header.specs.declared.header.Header.{Header}

length-zeros : (n : ℕ) → length (zeros n) ≡ n
unfolding zeros
length-zeros n = length-replicate n 0

drop-zeros : (m n : ℕ) → drop m (zeros n) ≡ zeros (n - m)
unfolding zeros
drop-zeros m n = drop-replicate m n 0

zeros-add : (m n : ℕ) → zeros m ++ zeros n ≡ zeros (m + n)
unfolding zeros
zeros-add m n = replicate-append-replicate m n 0

pub zeros-replicate : (xs : List ℕ) (m n : ℕ) → xs ≡ replicate m 0 → m ≡ n → xs ≡ zeros n
unfolding zeros
zeros-replicate xs m n all same = all ∙ ap (λ k. replicate k 0) same

-- bytes that begin with a filled front of a length, and have so many zeros behind it
record Filled (front whole : List ℕ) (len left : ℕ) : Type 0 where
  bytes : whole ≡ front ++ zeros left
  filled : length front ≡ len

-- a piece that is put behind the front, and zeros that are left in front of the next
filled_next : {front old : List ℕ} {at left : ℕ} (piece new : List ℕ) (m : ℕ) → Filled front old at left
    → length piece ≡ m → new ≡ with_bytes old at piece → Filled (front ++ piece) new (at + m) (left - m)
filled_next {front} {old} {at} {left} piece new m was long now =
    let kept : take at old ≡ front = rw was.bytes (take_at front (zeros left) at was.filled) in
    let rest : drop (at + m) old ≡ zeros (left - m) =
    sym (drop-drop m at old) ∙ ap (λ x. drop m (drop at x)) was.bytes
    ∙ ap (drop m) (drop_at front (zeros left) at was.filled) ∙ drop-zeros m left in
    record {
      bytes = rw (now, long, kept, rest) (sym (append_assoc front piece (zeros (left - m))));
      filled = length-append front piece ∙ ap (λ x. x + length piece) was.filled ∙ ap (λ x. at + x) long;
    }

filled_gap : {front whole : List ℕ} {at left : ℕ} (gap more : ℕ) → gap + more ≡ left → Filled front whole at left
    → Filled (front ++ zeros gap) whole (at + gap) more
filled_gap {front} {whole} {at} {left} gap more parts was = record {
  bytes =
      was.bytes ∙ ap (λ x. front ++ zeros x) (sym parts) ∙ ap (λ x. front ++ x) (sym (zeros-add gap more))
      ∙ sym (append_assoc front (zeros gap) (zeros more));
  filled =
      length-append front (zeros gap) ∙ ap (λ x. length front + x) (length-zeros gap) ∙ ap (λ x. x + gap) was.filled;
}

filled_left : {front whole : List ℕ} {len left : ℕ} (n : ℕ) → left ≡ n → Filled front whole len left
    → Filled front whole len n
filled_left {front} {whole} {len} n same was = subst (λ k. Filled front whole len k) same was

joined : (a b c d e f g h i j k l m : List ℕ)
    → a ++ b ++ c ++ d ++ e ++ f ++ g ++ h ++ i ++ j ++ k ++ l ++ m
    ≡ concat (a ∷ b ∷ c ∷ d ∷ e ∷ f ∷ g ∷ h ∷ i ∷ j ∷ k ∷ l ∷ m ∷ [])
joined a b c d e f g h i j k l m = simp (append_assoc, append-nil)

pub written : (h : Header) (a b c d e f g i j k l : List ℕ) → length h.master ≡ 256 → a ≡ zeros 8192
    → b ≡ with_bytes a 0 label → c ≡ with_bytes b 8 (u32_bytes h.block_size) → d ≡ with_bytes c 12 (u32_bytes h.total)
    → e ≡ with_bytes d 16 (u32_bytes h.free) → f ≡ with_bytes e 20 (u32_bytes h.extension)
    → g ≡ with_bytes f 24 (u32_bytes h.limit) → i ≡ with_bytes g 28 (u32_bytes h.key_max)
    → j ≡ with_bytes i 32 (u32_bytes h.value_max) → k ≡ with_bytes j 40 (u64_bytes h.tn)
    → l ≡ with_bytes k 4096 h.master → l ≡ header_bytes h
unfolding header_bytes
written h a b c d e f g i j k l master empty put_label put_block_size put_total put_free put_extension put_limit
    put_key_max put_value_max put_tn put_master =
    let start : Filled [] a 0 8192 = record { bytes = empty; filled = refl } in
    let labelled = filled_next label b 8 start refl put_label in
    let block_size = filled_next (u32_bytes h.block_size) c 4 labelled (length-u32_bytes _) put_block_size in
    let total = filled_next (u32_bytes h.total) d 4 block_size (length-u32_bytes _) put_total in
    let free = filled_next (u32_bytes h.free) e 4 total (length-u32_bytes _) put_free in
    let extension = filled_next (u32_bytes h.extension) f 4 free (length-u32_bytes _) put_extension in
    let limit = filled_next (u32_bytes h.limit) g 4 extension (length-u32_bytes _) put_limit in
    let key_max = filled_next (u32_bytes h.key_max) i 4 limit (length-u32_bytes _) put_key_max in
    let value_max = filled_next (u32_bytes h.value_max) j 4 key_max (length-u32_bytes _) put_value_max in
    let tn = filled_next (u64_bytes h.tn) k 8 (filled_gap 4 8152 refl value_max) (length-u64_bytes _) put_tn in
    let done = filled_next h.master l (length h.master) (filled_gap 4048 4096 refl tn) refl put_master in
    let all = filled_left 3840 (ap (λ n. 4096 - n) master) done in
    all.bytes ∙ joined label (u32_bytes h.block_size) (u32_bytes h.total) (u32_bytes h.free) (u32_bytes h.extension)
    (u32_bytes h.limit) (u32_bytes h.key_max) (u32_bytes h.value_max) (zeros 4) (u64_bytes h.tn) (zeros 4048) h.master
    (zeros 3840)

-- what stands behind a piece
past : (whole piece rest : List ℕ) (at m : ℕ) → drop at whole ≡ piece ++ rest → length piece ≡ m
    → drop (at + m) whole ≡ rest
past whole piece rest at m here long = sym (drop-drop m at whole) ∙ ap (drop m) here ∙ drop_at piece rest m long

-- the numbers of a header fit their types
pub record Fit (h : Header) : Type 0 where
  pub block_size : h.block_size < 2 ^ 32
  pub total : h.total < 2 ^ 32
  pub free : h.free < 2 ^ 32
  pub extension : h.extension < 2 ^ 32
  pub limit : h.limit < 2 ^ 32
  pub key_max : h.key_max < 2 ^ 32
  pub value_max : h.value_max < 2 ^ 32
  pub tn : h.tn < 2 ^ 64
  pub master : length h.master ≡ 256

abbrev by_fields : Header → Header
by_fields h =
    record {
      block_size = h.block_size;
      total = h.total;
      free = h.free;
      extension = h.extension;
      limit = h.limit;
      key_max = h.key_max;
      value_max = h.value_max;
      tn = h.tn;
      master = h.master;
    }

same_header : (g h : Header) → g.block_size ≡ h.block_size → g.total ≡ h.total → g.free ≡ h.free
    → g.extension ≡ h.extension → g.limit ≡ h.limit → g.key_max ≡ h.key_max → g.value_max ≡ h.value_max → g.tn ≡ h.tn
    → g.master ≡ h.master → g ≡ h
same_header g h block_size total free extension limit key_max value_max tn master =
    let same : by_fields g ≡ by_fields h = cc in same

pub fields_of-header_bytes : (h : Header) → Fit h → fields_of (header_bytes h) ≡ h
unfolding header_bytes
fields_of-header_bytes h fit =
    let whole = header_bytes h in
    let total = past whole (u32_bytes h.block_size) _ 8 4 refl (length-u32_bytes _) in
    let free = past whole (u32_bytes h.total) _ 12 4 total (length-u32_bytes _) in
    let extension = past whole (u32_bytes h.free) _ 16 4 free (length-u32_bytes _) in
    let limit = past whole (u32_bytes h.extension) _ 20 4 extension (length-u32_bytes _) in
    let key_max = past whole (u32_bytes h.limit) _ 24 4 limit (length-u32_bytes _) in
    let value_max = past whole (u32_bytes h.key_max) _ 28 4 key_max (length-u32_bytes _) in
    let reserved = past whole (u32_bytes h.value_max) _ 32 4 value_max (length-u32_bytes _) in
    let tn = past whole (zeros 4) _ 36 4 reserved (length-zeros 4) in
    let more = past whole (u64_bytes h.tn) _ 40 8 tn (length-u64_bytes _) in
    let master = past whole (zeros 4048) _ 48 4048 more (length-zeros 4048) in
    same_header (fields_of whole) h
    (u32_at-here whole _ 8 h.block_size fit.block_size refl)
    (u32_at-here whole _ 12 h.total fit.total total)
    (u32_at-here whole _ 16 h.free fit.free free)
    (u32_at-here whole _ 20 h.extension fit.extension extension)
    (u32_at-here whole _ 24 h.limit fit.limit limit)
    (u32_at-here whole _ 28 h.key_max fit.key_max key_max)
    (u32_at-here whole _ 32 h.value_max fit.value_max value_max)
    (u64_at-here whole _ 40 h.tn fit.tn tn)
    (ap (take 256) master ∙ take_at h.master _ 256 fit.master)

-- The header of a database within its limits is read.
pub limits_tested : (h : Header) → IsWithinLimits h
    → ((h.block_size == 0 || not (h.block_size % 512 == 0)) ≡ false) × (nat_lt 65024 h.block_size ≡ false)
    × ((h.total == 0) ≡ false) × (keeps_limits h ≡ true)
limits_tested h limits = (
  grind (arith, nat_tests, limits.block_multiple, limits.block_from),
  grind (arith, nat_tests, limits.block_to),
  grind (arith, nat_tests, limits.total_from),
  grind (arith, nat_tests),
)

readable : (bytes : List ℕ) → starts_with nat_eq bytes label ≡ true → IsWithinLimits (fields_of bytes)
    → unreadable bytes ≡ None
unfolding unreadable
readable bytes labelled limits =
    let tests = limits_tested (fields_of bytes) limits in rw (labelled, tests.0, tests.1, tests.2, tests.3)

pub readable-header_bytes : (h : Header) → fields_of (header_bytes h) ≡ h → IsWithinLimits h
    → unreadable (header_bytes h) ≡ None
unfolding header_bytes
readable-header_bytes h again limits = readable (header_bytes h) refl (subst IsWithinLimits (sym again) limits)
