-- What an opening finds of what a stop of an earlier one has left.
use Rattle.std.proofs.Common.{◌≡◌, ◌≢◌, ℕ, ◌+◌, ◌-◌, ◌<◌, ◌≤◌, List, [], ◌∷◌, ◌++◌, length, take, drop, slice_index}
use Rattle.std.proofs.Common.{None, Some, Ok, refl, sym, ap, cond, eqb, ◌∙◌, ⊎_elim, arith, length-take, length-drop}
use Rattle.std.proofs.Common.{get_or-take}
use Rattle.std.proofs.Common.{append_assoc, get_or-drop, length-append}
use Rattle.std.specs.Prelude.{nat_eq, slice_set}
use Rattle.std.specs.Cmp.Lexicographic.{pointwise}
use Rattle.std.proofs.Math.Seq.{drop-cons, take-add, take-append_seam}
use Rattle.std.proofs.lemmas.Bool.{cases_eq}
use Rattle.std.proofs.lemmas.List.{ext_get_or, set-get_or, set-set, set_split}
use Rattle.std.proofs.lemmas.Slice.Eq.{bytes_eq-Decides}
use Rattle.gds_block.specs.Fields.{u64_at}
use Rattle.host_model.specs.declared.host.FileNo.TheVariants.{Db, Images}
use Rattle.host_model.specs.Disk.{Changes, Cut, Torn, written}
use Rattle.host_model.specs.Files.{Contents}
use Rattle.gds_header.specs.declared.header.Header.{Header}
use Rattle.gds_images.specs.declared.chain.Chain.{Chain}
use Rattle.gds_images.specs.Chain.{chain_of, first_gate, label}
use Rattle.gds_images.specs.Laws.{IsCovered}
use Rattle.gds_images.specs.Outcome.{IsClosed}
use Rattle.gds_images.specs.Recovered.{laid, recovered, recovered_by, trimmed}
use Rattle.gds_images.proofs.ChainLemmas.{Begins, IsClosedChain, IsOpenChain, chain_closed, chain_of_cases}
use Rattle.gds_images.proofs.RestLemmas.{closed_chain}
use Rattle.gds_images.proofs.GateLemmas.{chain_closes}
use Rattle.gds_recovery.specs.Found.{EndsReading, FindsSame, HasNothingToDo, IsOpened}
use Rattle.gds_recovery.specs.Steps.{IsAtEpoch, LaysOver}
use Rattle.gds_recovery.proofs.EpochLemmas.{epoch_file_outside, epoch_low, found_open, laid_back_is, length-epoch_file}
use Rattle.gds_recovery.proofs.EpochLemmas.{open_beside, same_epoch_file}
use Rattle.gds_recovery.proofs.OpenGateLemmas.{IsOpenIn, laid_alike, opened_alike, opened_stand}

pub FindsSame-refl : (c : Contents) → FindsSame c c
FindsSame-refl c = record {
  files = record { found = refl; kept = λ _. record { db = refl; images = refl } };
  said = refl;
}

pub FindsSame-then : (a b c : Contents) → FindsSame a b → FindsSame b c → FindsSame a c
FindsSame-then a b c first second = record {
  files = record {
    found = second.files.found ∙ first.files.found;
    kept = λ none.
        let early = first.files.kept none in
        let late = second.files.kept (first.files.found ∙ none) in
        record { db = late.db ∙ early.db; images = late.images ∙ early.images };
  };
  said = second.said ∙ first.said;
}

-- Where an opening finds a file, the same is found.
pub finds_file : (c d : Contents) (file : List ℕ) → recovered c.db c.images ≡ Some file
    → recovered d.db d.images ≡ Some file → d.said ≡ c.said → FindsSame c d
finds_file c d file before now said = record {
  files = record { found = now ∙ sym before; kept = λ none. absurd (none_some (sym none ∙ before)) };
  said = said;
}
  where
    none_some : None ≡ Some file → ⊥
    none_some is = cc

-- What is opened of the second, or can't be read, is so of the first.
pub opened_before : (a b : Contents) (header : Header) (now : Contents) → FindsSame a b
    → b.images ≡ slice_set a.images first_gate 0 → IsOpened b header now → IsOpened a header now
opened_before a b header now same images opened = record {
  found = sym same.files.found ∙ opened.found;
  whole = opened.whole;
  fields = opened.fields;
  images = opened.images ∙ ap (λ xs. slice_set xs first_gate 0) images ∙ set-set a.images first_gate 0 0;
  closed = opened.closed;
}

pub ends_before : (a b : Contents) → FindsSame a b → EndsReading b → EndsReading a
ends_before a b same ends =
    record { file = ends.file; found = sym same.files.found ∙ ends.found; unreadable = ends.unreadable }

-- ---- A byte that may be torn.

-- The gate's byte may be any, and all others are as before.
pub record GateIsTorn (a b : List ℕ) : Type 0 where
  pub front : take 8 b ≡ take 8 a
  pub behind : drop 9 b ≡ drop 9 a
  pub len : length b ≡ length a

pub torn_gate : (a b : List ℕ) → 9 ≤ length a → Torn first_gate 1 a b → GateIsTorn a b
torn_gate a b long torn =
    let shorter = torn.no_shorter in
    let longer = torn.no_longer in
    let len : length b ≡ length a = omega arith in
    let front_b : length (take 8 b) ≡ 8 = omega (arith, length-take 8 b) in
    let front_a : length (take 8 a) ≡ 8 = omega (arith, length-take 8 a) in
    let rest : length (drop 9 b) ≡ length (drop 9 a) = length-drop 9 b ∙ ap (λ n. n - 9) len ∙ sym (length-drop 9 a) in
    record {
      front = ext_get_or 0 (take 8 b) (take 8 a) (front_b ∙ sym front_a)
          (λ i lt. let low : i < 8 = omega arith in
          get_or-take 8 b i 0 low ∙ torn.before i (omega arith) low ∙ sym (get_or-take 8 a i 0 low));
      behind = ext_get_or 0 (drop 9 b) (drop 9 a) rest
          (λ i lt.
          get_or-drop 9 b i 0 ∙ torn.behind (9 + i) (omega (arith, length-drop 9 a)) (omega arith)
          ∙ sym (get_or-drop 9 a i 0));
      len = len;
    }

-- A file that begins with its label is closed by the byte 0.
pub written_closed : (a : List ℕ) → Begins a → IsClosed (written first_gate (0 ∷ []) a)
written_closed a begins =
    let long = begins.gate in
    let front : length (take 8 a) ≡ 8 = omega (arith, length-take 8 a) in
    let nine : length (take 8 a ++ 0 ∷ []) ≡ 9 = simp length-append (omega arith) in
    let is_label : label ≡ take 8 a = (bytes_eq-Decides label (take 8 a)).0 begins.label in
    ap (λ n. take n (take 8 a ++ 0 ∷ [] ++ drop 9 a)) (sym nine) ∙ take-append_seam (take 8 a ++ 0 ∷ []) (drop 9 a)
    ∙ ap (λ xs. xs ++ 0 ∷ []) (sym is_label)

-- That changes no other byte.
pub written_gate : (a : List ℕ) → 9 ≤ length a → written first_gate (0 ∷ []) a ≡ slice_set a first_gate 0
written_gate a long = append_assoc (take 8 a) (0 ∷ []) (drop 9 a) ∙ sym (set_split a 8 0 (omega arith))

-- Closing a closed file changes nothing.
pub closed_again : (a : List ℕ) → slice_index a 8 ≡ 0 → slice_set a first_gate 0 ≡ a
closed_again a zero = ap (slice_set a 8) (sym zero) ∙ set-get_or a 8 0

pub closed_byte : (a : List ℕ) → IsClosed a → slice_index a 8 ≡ 0
closed_byte a closed = sym (get_or-take 9 a 8 0 (omega arith)) ∙ ap (λ xs. slice_index xs 8) closed

-- and so is one whose gate is
pub begins_closed : (a : List ℕ) → Begins a → slice_index a 8 ≡ 0 → IsClosed a
begins_closed a begins closed =
    let long = begins.gate in
    let is_label : label ≡ take 8 a = (bytes_eq-Decides label (take 8 a)).0 begins.label in
    let last : take 1 (drop 8 a) ≡ slice_index a 8 ∷ [] = take-one a 8 (omega arith) in
    take-add 8 1 a ∙ ap (λ xs. xs ++ take 1 (drop 8 a)) (sym is_label)
    ∙ ap (λ xs. label ++ xs) (last ∙ ap (λ b. b ∷ []) closed)
  where
    take-one : (xs : List ℕ) (i : ℕ) → i < length xs → take 1 (drop i xs) ≡ slice_index xs i ∷ []
    take-one xs i lt = ap (take 1) (drop-cons xs i 0 lt)

-- ---- A closed gate.

-- Where the chain ends at gate 0 the file is closed, and the database is that of the epoch.
pub epoch_at_rest : (c : Contents) (n : ℕ) (chain : Chain) → chain_of c.images n ≡ Ok chain
    → chain.next_gate ≡ first_gate → IsAtEpoch chain c c
epoch_at_rest c n chain ok first = ⊎_elim
    (λ (shut : IsClosedChain c.images chain). record {
      db = ap (λ k. cond (eqb k first_gate) c.db (take chain.epoch_length (laid c.images chain.images c.db)))
          (sym first);
      images = sym (closed_again c.images shut.closed);
      closed = begins_closed c.images shut.begins shut.closed;
    })
    (λ (opened : IsOpenChain c.images n chain).
    let closes = chain_closes (length c.images) c.images (u64_at c.images 17) opened.places
    (25 + u64_at c.images 9) chain
    opened.behind in
    let later = closes.later in
    absurd (omega arith))
    (chain_of_cases c.images n chain ok)

-- Where there is nothing to do, and the chain is good, the gate is closed and the database file the recovered one.
pub nothing_to_do : (c : Contents) (chain : Chain) → chain_of c.images (length c.db) ≡ Ok chain → HasNothingToDo c
    → (chain.next_gate ≡ first_gate) × (recovered c.db c.images ≡ Some c.db)
unfolding recovered
nothing_to_do c chain ok nothing = ⊎_elim
    (λ none. absurd (let some = ap (recovered_by c.db c.images) (sym ok) ∙ none in let no : ⊥ = cc in no))
    (λ whole.
    let both = sym ok ∙ closed_chain c.images (length c.db) whole.0 in
    let is : chain ≡ record { epoch_length = 0; images = []; next_gate = first_gate } = cc in
    (ap (λ (c : Chain). c.next_gate) is, whole.1))
    nothing

-- ---- An open gate.

module _ (c : Contents) (chain : Chain) (ok : chain_of c.images (length c.db) ≡ Ok chain)
    (not_first : chain.next_gate ≢ first_gate) where
  -- The database file while images are laid over it and it is cut: it has the length of the epoch at least, and outside
  -- the images' ranges its bytes.
  pub record IsBeingLaid (d : Contents) : Type 0 where
    pub reaches : chain.epoch_length ≤ length d.db
    pub outside : (i : ℕ) → i < chain.epoch_length → (IsCovered chain.images i → ⊥)
        → slice_index d.db i ≡ slice_index c.db i
    pub images : d.images ≡ c.images
    pub said : d.said ≡ c.said

  pub being_laid_found : (d : Contents) → IsBeingLaid d → FindsSame c d
  being_laid_found d being =
      let low = epoch_low c.images (length c.db) chain ok not_first in
      finds_file c d _ (found_open c.images (length c.db) chain ok not_first c.db low)
      (ap (recovered d.db) being.images ∙ found_open c.images (length c.db) chain ok not_first d.db being.reaches
      ∙ ap (λ file. Some (trimmed file)) (same_epoch_file c.images (length c.db) chain ok not_first d.db c.db
      being.reaches low being.outside))
      being.said

  -- so it is while images are laid over it, and while it is cut then
  pub laid_being : (d : Contents) → Changes Db (LaysOver chain.images) c d → IsBeingLaid d
  laid_being d step =
      let low = epoch_low c.images (length c.db) chain ok not_first in
      let over = step.changed in
      let longer = over.no_shorter in
      record {
        reaches = omega arith;
        outside = λ i lt out. over.outside i (omega arith) out;
        images = step.other Images (λ e. cc);
        said = step.said;
      }

  pub cut_being : (d e : Contents) → IsBeingLaid d → Changes Db (Cut chain.epoch_length) d e → IsBeingLaid e
  cut_being d e being step =
      let reaches = being.reaches in
      let is_cut = step.changed in
      let longer : chain.epoch_length ≤ length e.db = omega (arith, is_cut.no_shorter) in
      record {
        reaches = longer;
        outside = λ i lt out. is_cut.below i lt (omega arith) ∙ being.outside i lt out;
        images = step.other Images (λ e. cc) ∙ being.images;
        said = step.said ∙ being.said;
      }

  -- The database file is that of the epoch, and the gate's byte may be any.
  pub gate_found : (d : Contents) → d.db ≡ take chain.epoch_length (laid c.images chain.images c.db)
      → GateIsTorn c.images d.images → d.said ≡ c.said → FindsSame c d
  unfolding recovered
  gate_found d is torn said =
      let n = length c.db in
      let low = epoch_low c.images n chain ok not_first in
      let file = take chain.epoch_length (laid c.images chain.images c.db) in
      let long : length file ≡ chain.epoch_length = length-epoch_file c.images n chain ok not_first c.db low in
      let beside = open_beside c.images n chain ok not_first (length file) (omega arith) in
      let len = torn.len in
      let gate = beside.begins.gate in
      let begins : Begins d.images =
      record { label = ap (pointwise nat_eq label) torn.front ∙ beside.begins.label; gate = omega arith } in
      let there : recovered file d.images ≡ Some (trimmed file) = ⊎_elim
      (λ (zero : slice_index d.images 8 ≡ 0).
      ap (recovered_by file d.images) (chain_closed d.images (length file) begins zero))
      (λ (opened : slice_index d.images 8 ≢ 0).
      let both : IsOpenIn c.images d.images =
      record { label = torn.front; behind = torn.behind; len = len; opened = opened } in
      ap (recovered_by file d.images) (opened_alike c.images d.images both (length file) chain beside)
      ∙ ap (λ xs. Some (trimmed xs)) (laid_back_is c.images n chain ok not_first d.images file
      ∙ ap (take chain.epoch_length) (laid_alike c.images d.images both chain.images file
      (opened_stand c.images (length file) chain beside))
      ∙ same_epoch_file c.images n chain ok not_first file c.db (omega arith) low
      (epoch_file_outside c.images n chain ok not_first c.db low)))
      (cases_eq (slice_index d.images 8) 0) in
      finds_file c d (trimmed file) (found_open c.images n chain ok not_first c.db low)
      (ap (λ db. recovered db d.images) is ∙ there) said
