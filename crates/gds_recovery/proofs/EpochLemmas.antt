-- The file of the epoch behind an open gate, and what an opening finds of files that an earlier one was laying back.
use Rattle.std.proofs.Common.{◌≡◌, ◌≢◌, ℕ, ◌+◌, ◌<◌, ◌≤◌, cond, List, [], ◌∷◌, length, take, drop, slice_index}
use Rattle.std.proofs.Common.{Some, Ok, refl, sym, ap, subst, ◌∙◌, inl, inr, ⊎_elim, arith, length-take, length-drop}
use Rattle.std.proofs.Common.{get_or, get_or-take}
use Rattle.std.specs.Prelude.{All}
use Rattle.std.proofs.lemmas.Bool.{cases_lt, ne_eqb}
use Rattle.std.proofs.lemmas.List.Elements.{All-head, All-tail}
use Rattle.gds_block.specs.Fields.{u64_at}
use Rattle.host_model.specs.Files.{Contents}
use Rattle.gds_images.specs.declared.chain.Chain.{Chain}
use Rattle.gds_images.specs.declared.chain.Place.{Place}
use Rattle.gds_images.specs.Chain.{LiesBefore, bytes_of, chain_of, first_gate}
use Rattle.gds_images.specs.Laws.{IsCovered}
use Rattle.gds_images.specs.Recovered.{laid, laid_back, recovered, recovered_by, trimmed}
use Rattle.gds_images.proofs.ChainLemmas.{IsClosedChain, IsOpenChain, chain_of_cases, needs_epoch}
use Rattle.gds_images.proofs.GateLemmas.{Closes, chain_closes, chain_lies}
use Rattle.gds_images.proofs.ImagesLemmas.{images_lie}
use Rattle.gds_images.proofs.LaidLemmas.{laid_over_outside, length-laid}
use Rattle.host_model.proofs.FileLemmas.{written-before}
use Rattle.gds_images.proofs.WrittenLemmas.{length-written_within, written_behind}
use Rattle.gds_recovery.specs.Steps.{IsWithin, LaysOver}

-- What images leave outside their ranges stays.
pub laid_over : (images : List ℕ) (places : List Place) (file : List ℕ)
    → All (λ p. p.at + p.len ≤ length file) places → LaysOver places file (laid images places file)
laid_over images [] file within = record { no_shorter = omega arith; outside = λ i low out. refl }
laid_over images (place ∷ places) file within =
    let P : Place → Type 0 = λ p. p.at + p.len ≤ length file in
    let rest = laid_over images places file (All-tail P place places within) in
    let long = length-laid images places file (All-tail P place places within) in
    let fits = All-head P place places within in
    let bytes = bytes_of images place in
    let short = length-take place.len (drop place.from images) in
    let over = laid images places file in
    record {
      no_shorter = omega (arith, length-written_within place.at bytes over (omega arith));
      outside = λ i low out. ⊎_elim
          (λ (before : i < place.at).
          written-before place.at bytes over i (omega arith) before ∙ rest.outside i low (λ c. out (inr c)))
          (λ (from : place.at ≤ i). ⊎_elim
          (λ (inside : i < place.at + place.len). absurd (out (inl (from, inside))))
          (λ (past : place.at + place.len ≤ i).
          written_behind place.at bytes over i (omega arith) (omega arith) ∙ rest.outside i low (λ c. out (inr c)))
          (cases_lt i (place.at + place.len)))
          (cases_lt i place.at);
    }

-- ---- Gate 0 is open.

module _ (images : List ℕ) (n : ℕ) (chain : Chain) (ok : chain_of images n ≡ Ok chain)
    (not_first : chain.next_gate ≢ first_gate) where
  opened : IsOpenChain images n chain
  opened = ⊎_elim
      (λ (shut : IsClosedChain images chain). absurd (not_first (ap (λ (c : Chain). c.next_gate) shut.is)))
      (λ (is : IsOpenChain images n chain). is)
      (chain_of_cases images n chain ok)

  closes : Closes images (u64_at images 17) (25 + u64_at images 9) chain
  closes =
      chain_closes (length images) images (u64_at images 17) opened.places (25 + u64_at images 9) chain opened.behind

  pub epoch_low : chain.epoch_length ≤ n
  epoch_low = let low = opened.epoch in let same = closes.same_epoch in omega arith

  -- beside a database of another length
  pub open_beside : (m : ℕ) → chain.epoch_length ≤ m → IsOpenChain images m chain
  open_beside m long =
      let same = closes.same_epoch in
      record {
        begins = opened.begins;
        opened = opened.opened;
        whole = opened.whole;
        epoch = omega arith;
        places = opened.places;
        images = opened.images;
        behind = opened.behind;
      }

  lie : All (LiesBefore chain.next_gate chain.epoch_length) chain.images
  lie =
      let epoch = u64_at images 17 in
      let P : ℕ → Type 0 = λ e. All (LiesBefore chain.next_gate e) chain.images in
      subst P (sym closes.same_epoch)
      (chain_lies (length images) images epoch opened.places (25 + u64_at images 9) chain
      (images_lie (length images) images epoch 25 (u64_at images 9) chain.next_gate opened.places closes.later
      opened.images) opened.behind)

  pub within_epoch : All (λ p. p.at + p.len ≤ chain.epoch_length) chain.images
  within_epoch k d lt = (lie k d lt).within

  pub full_images : All (λ p. length (bytes_of images p) ≡ p.len) chain.images
  full_images k d lt =
      let before = (lie k d lt).before in
      let gate = closes.within in
      let p = get_or chain.images k d in
      length-take p.len (drop p.from images) ∙ (let rest = length-drop p.from images in omega arith)

  -- They can be laid back.
  pub all_within : (c : Contents) → c.images ≡ images → length c.db ≡ n → All (IsWithin c) chain.images
  all_within c same len k d lt =
      let low = epoch_low in
      let gate = closes.within in
      let long = ap length same in
      record { db = omega (arith, (lie k d lt).within); images = omega (arith, (lie k d lt).before) }

  pub laid_back_is : (some : List ℕ) (db : List ℕ)
      → laid_back some chain db ≡ take chain.epoch_length (laid some chain.images db)
  laid_back_is some db =
      ap (λ t. cond t db (take chain.epoch_length (laid some chain.images db)))
      (ne_eqb chain.next_gate first_gate not_first)

  pub found_open : (db : List ℕ) → chain.epoch_length ≤ length db
      → recovered db images ≡ Some (trimmed (take chain.epoch_length (laid images chain.images db)))
  unfolding recovered
  found_open db long =
      ap (recovered_by db images) (needs_epoch images n (length db) chain ok long)
      ∙ ap (λ file. Some (trimmed file)) (laid_back_is images db)

  -- Files that agree outside the images' ranges have one file of the epoch.
  pub same_epoch_file : (a b : List ℕ) → chain.epoch_length ≤ length a → chain.epoch_length ≤ length b
      → ((i : ℕ) → i < chain.epoch_length → (IsCovered chain.images i → ⊥) → slice_index a i ≡ slice_index b i)
      → take chain.epoch_length (laid images chain.images a) ≡ take chain.epoch_length (laid images chain.images b)
  same_epoch_file a b long_a long_b same =
      laid_over_outside images a b chain.epoch_length chain.images within_epoch full_images long_a long_b same

  within_longer : (db : List ℕ) → chain.epoch_length ≤ length db → All (λ p. p.at + p.len ≤ length db) chain.images
  within_longer db long k d lt = omega (arith, within_epoch k d lt)

  pub laid_long : (db : List ℕ) → chain.epoch_length ≤ length db
      → chain.epoch_length ≤ length (laid images chain.images db)
  laid_long db long = let all = length-laid images chain.images db (within_longer db long) in omega arith

  pub length-epoch_file : (db : List ℕ) → chain.epoch_length ≤ length db
      → length (take chain.epoch_length (laid images chain.images db)) ≡ chain.epoch_length
  length-epoch_file db long =
      let all = length-laid images chain.images db (within_longer db long) in
      omega (arith, length-take chain.epoch_length (laid images chain.images db))

  -- It agrees with the database outside the images' ranges.
  pub epoch_file_outside : (db : List ℕ) → chain.epoch_length ≤ length db → (i : ℕ) → i < chain.epoch_length
      → (IsCovered chain.images i → ⊥)
      → slice_index (take chain.epoch_length (laid images chain.images db)) i ≡ slice_index db i
  epoch_file_outside db long i low out =
      get_or-take chain.epoch_length (laid images chain.images db) i 0 low
      ∙ (laid_over images chain.images db (within_longer db long)).outside i (omega arith) out

  -- So long is the file that is laid back.
  pub length-laid_back : (some : List ℕ) (db : List ℕ) → some ≡ images → chain.epoch_length ≤ length db
      → length (laid_back some chain db) ≡ chain.epoch_length
  length-laid_back some db same long =
      ap length (laid_back_is some db)
      ∙ ap (λ file. length (take chain.epoch_length (laid file chain.images db))) same ∙ length-epoch_file db long
