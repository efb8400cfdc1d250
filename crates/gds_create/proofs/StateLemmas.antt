-- What an opening makes of files that become a new database.
use Rattle.std.proofs.Common.{◌≡◌, ◌⊎◌, ◌≢◌, ℕ, ◌+◌, ◌<◌, ◌≤◌, Bool, true, false, List, [], ◌++◌, length, take, drop}
use Rattle.std.proofs.Common.{None, Some, Result, Ok, Err, refl, sym, ap, subst, ◌∙◌, arith, lit≤, lit<, inl, inr}
use Rattle.std.proofs.Common.{⊎_elim}
use Rattle.std.proofs.Common.{length-take, length-drop, length-append, get_or-take, get_or-drop, slice_index, cond, eqb}
use Rattle.std.specs.Prelude.{nat_eq}
use Rattle.std.specs.List.{starts_with}
use Rattle.std.proofs.lemmas.Bool.{cases_Bool, cases_lt}
use Rattle.std.proofs.lemmas.List.{drop_at, ext_get_or, take-append-drop, take_all}
use Rattle.std.proofs.lemmas.Slice.Eq.{bytes_eq-Decides}
use Rattle.gds_block.specs.Fields.{u64_at}
use Rattle.host_model.specs.Disk.{Torn}
use Rattle.host_model.specs.Files.{Contents}
use Rattle.gds_header.specs.declared.header.Header.{Header}
use Rattle.gds_header.specs.Fields.{label, zeros}
use Rattle.gds_header.specs.Kinds.{IsWithinLimits, unreadable}
use Rattle.gds_header.specs.declared.kind.HeaderKind.TheVariants.{NotDatabase}
use Rattle.gds_header.proofs.EndingLemmas.{ending_kind-unreadable, unreadable-front}
use Rattle.gds_images.specs.declared.chain.Chain.{Chain}
use Rattle.gds_images.specs.Chain.{chain_of, first_gate}
use Rattle.gds_images.specs.Outcome.{IsClosed}
use Rattle.gds_images.specs.Recovered.{laid, laid_back, recovered, recovered_by, trimmed, trimmed_by}
use Rattle.gds_images.proofs.ChainLemmas.{IsClosedChain, IsOpenChain, chain_of_cases}
use Rattle.gds_images.proofs.GateLemmas.{chain_closes}
use Rattle.gds_images.proofs.RestLemmas.{rest_found}
use Rattle.gds_new.specs.NewDatabase.{new_database}
use Rattle.gds_new.proofs.ReadLemmas.{nothing_ends, whole_read}
use Rattle.gds_recovery.specs.Found.{IsUnreadable}
use Rattle.gds_recovery.proofs.TrimLemmas.{ends_reading, short_unreadable}
use Rattle.gds_create.specs.Making.{IsUnderWay, KeepsFirst}
use Rattle.gds_create.specs.Newborn.{IsNewborn, IsRefused}

-- ---- Files without a label.

unlabelled : (file : List ℕ) → starts_with nat_eq file label ≡ false → unreadable file ≡ Some NotDatabase
unfolding unreadable
unlabelled file other = rw other refl

-- A file whose reading ends, or one that begins with the label.
pub label_decides : (file : List ℕ) → IsUnreadable file ⊎ (take 8 file ≡ label)
label_decides file = ⊎_elim
    (λ (short : length file < 8192). inl (short_unreadable file short))
    (λ (long : 8192 ≤ length file). ⊎_elim
    (λ (is : starts_with nat_eq file label ≡ true). inr (sym ((bytes_eq-Decides label (take 8 file)).0 is)))
    (λ (other : starts_with nat_eq file label ≡ false). inl (record {
      kind = NotDatabase;
      ends = ending_kind-unreadable file (take 8192 file) refl (omega (arith, length-take 8192 file)) NotDatabase
          (unreadable-front 8192 file (lit≤ tt) ∙ unlabelled file other);
    }))
    (cases_Bool (starts_with nat_eq file label)))
    (cases_lt (length file) 8192)

-- A file whose first byte isn't the label's can't be read.
pub not_labelled : (file : List ℕ) → slice_index file 0 ≢ 71 → IsUnreadable file
not_labelled file other = ⊎_elim (λ bad. bad)
    (λ is. absurd (other (sym (get_or-take 8 file 0 0 (lit< tt)) ∙ ap (λ xs. slice_index xs 0) is)))
    (label_decides file)

-- A file with the database's bytes from 8 on is it, or can't be read.
pub decided_by_label : (file whole : List ℕ) → take 8 whole ≡ label → drop 8 file ≡ drop 8 whole
    → IsUnreadable file ⊎ (file ≡ whole)
decided_by_label file whole labelled rest = ⊎_elim inl
    (λ is. inr (sym (take-append-drop 8 file) ∙ ap (λ xs. xs ++ drop 8 file) (is ∙ sym labelled)
    ∙ ap (λ xs. take 8 whole ++ xs) rest ∙ take-append-drop 8 whole))
    (label_decides file)

-- The length of the epoch's database isn't above that of the database file.
epoch_within : (images : List ℕ) (n : ℕ) (chain : Chain) → chain_of images n ≡ Ok chain → chain.epoch_length ≤ n
epoch_within images n chain ok = ⊎_elim
    (λ (shut : IsClosedChain images chain).
    subst (λ (c : Chain). c.epoch_length ≤ n) (sym shut.is) (omega arith))
    (λ (opened : IsOpenChain images n chain).
    let same = (chain_closes (length images) images (u64_at images 17) opened.places (25 + u64_at images 9) chain
    opened.behind).same_epoch in
    omega (arith, same, opened.epoch))
    (chain_of_cases images n chain ok)

nothing_taken : (test : Bool) (n : ℕ) (file : List ℕ) → n ≤ 0 → cond test [] (take n file) ≡ []
nothing_taken true n file none = refl
nothing_taken false n file none = let zero : n ≡ 0 = omega arith in ap (λ k. take k file) zero

trimmed_nothing : trimmed [] ≡ []
unfolding trimmed
trimmed_nothing = ap (λ kind. trimmed_by kind []) (short_unreadable [] (lit< tt)).ends

-- An empty database file is refused, whatever the file of images holds.
refused_by : (images : List ℕ) (r : Result Chain ℕ) → chain_of images 0 ≡ r
    → (recovered [] images ≡ None) ⊎ (recovered [] images ≡ Some [])
unfolding recovered
refused_by images (Err at) is = inl (ap (recovered_by [] images) is)
refused_by images (Ok chain) is =
    let nothing : laid_back images chain [] ≡ [] =
    nothing_taken (eqb chain.next_gate first_gate) chain.epoch_length (laid images chain.images [])
    (epoch_within images 0 chain is) in
    inr (ap (recovered_by [] images) is ∙ ap (λ xs. Some (trimmed xs)) nothing ∙ ap Some trimmed_nothing)

pub empty_refused : (c : Contents) → c.db ≡ [] → IsRefused c
empty_refused c empty = ⊎_elim
    (λ (none : recovered [] c.images ≡ None). inl (ap (λ xs. recovered xs c.images) empty ∙ none))
    (λ (some : recovered [] c.images ≡ Some []). inr (record {
      file = [];
      found = ap (λ xs. recovered xs c.images) empty ∙ some;
      unreadable = short_unreadable [] (lit< tt);
    }))
    (refused_by c.images (chain_of c.images 0) refl)

-- ---- The database file, step by step.

module _ (h : Header) where
  pub not_begun : (file : List ℕ) → file ≡ [] → IsUnderWay h file
  not_begun file empty = inl (short_unreadable file (omega (arith, ap length empty)))

  -- A torn write of a few bytes into an empty file.
  pub begun : (n : ℕ) (old new : List ℕ) → n < 8192 → old ≡ [] → Torn 0 n old new → IsUnderWay h new
  begun n old new few empty torn =
      let longer = torn.no_longer in
      inl (short_unreadable new (omega (arith, longer, ap length empty)))

  -- whatever stands behind 8 zeros
  pub unlabelled_yet : (old new : List ℕ) → old ≡ zeros 8 → KeepsFirst 8 old new → IsUnderWay h new
  unfolding zeros
  unlabelled_yet old new are keeps =
      let some : 0 < length old = omega (arith, ap length are) in
      let first : slice_index new 0 ≡ 0 = keeps.same 0 (lit< tt) some ∙ ap (λ xs. slice_index xs 0) are in
      inl (not_labelled new (λ is. omega (arith, first, is)))

  -- A torn write of the label, where all else is there.
  labelled : (old new : List ℕ) → take 8 (new_database h) ≡ label → 8 ≤ length old
      → drop 8 old ≡ drop 8 (new_database h) → Torn 0 8 old new → IsUnderWay h new
  labelled old new front long rest torn =
      let shorter = torn.no_shorter in
      let longer = torn.no_longer in
      let len : length (drop 8 new) ≡ length (drop 8 old) = omega (arith, length-drop 8 new, length-drop 8 old) in
      decided_by_label new (new_database h) front (ext_get_or 0 (drop 8 new) (drop 8 old) len
      (λ i lt. get_or-drop 8 new i 0 ∙ torn.behind (8 + i) (omega (arith, length-drop 8 old)) (omega arith)
      ∙ sym (get_or-drop 8 old i 0)) ∙ rest)

  pub labelled_yet : (front new : List ℕ) → take 8 (new_database h) ≡ label → front ≡ zeros 8
      → Torn 0 8 (front ++ drop 8 (new_database h)) new → IsUnderWay h new
  unfolding zeros
  labelled_yet front new first are torn =
      let len : length front ≡ 8 = ap length are in
      labelled (front ++ drop 8 (new_database h)) new first
      (omega (arith, len, length-append front (drop 8 (new_database h))))
      (drop_at front (drop 8 (new_database h)) 8 len) torn

  -- What an opening makes of it beside a closed file of images.
  pub being_newborn : IsWithinLimits h → (before c : Contents) → IsClosed c.images → IsUnderWay h c.db
      → c.said ≡ before.said → IsNewborn h before c
  being_newborn limits before c closed db said = record {
    finds = ⊎_elim
        (λ bad. inl (inr (ends_reading c closed bad)))
        (λ (is : c.db ≡ new_database h). inr (rest_found (new_database h) c (record {
          closed = closed;
          whole = record { readable = nothing_ends h limits; len = whole_read h limits };
          front = take_all (length (new_database h)) c.db (omega (arith, ap length is)) ∙ is;
        })))
        db;
    said = said;
  }
