-- Chains of images, from the label to the first closed gate.
use Rattle.std.proofs.Common.{◌≡◌, ◌≢◌, ◌⊎◌, ℕ, ◌+◌, ◌<◌, ◌≤◌, Bool, true, false, cond, List, []}
use Rattle.std.proofs.Common.{length, slice_index, Result, Ok, Err, refl, sym, ap}
use Rattle.std.proofs.Common.{◌∙◌, inl, inr, ⊎_elim, arith, ltb, leb, eqb}
use Rattle.std.specs.Prelude.{not, ◌||◌, nat_eq}
use Rattle.std.specs.List.{starts_with}
use Rattle.std.specs.Cmp.Lexicographic.{pointwise}
use Rattle.std.proofs.lemmas.Bool.{eqb-true, eqb-false, le-leb, le-ltb, leb-true, ltb-false, ne_eqb, not-false}
use Rattle.std.proofs.lemmas.Bool.{or_parts}
use Rattle.gds_block.specs.Fields.{u64_at}
use Rattle.gds_images.specs.declared.chain.Chain.{Chain}
use Rattle.gds_images.specs.declared.chain.Place.{Place}
use Rattle.gds_images.specs.Chain.{and_then, chain_behind, chain_of, images_from, label}
use Rattle.gds_images.specs.Laws.{EndsAtItsGate, NeedsItsEpoch}
use Rattle.gds_images.proofs.AgreeLemmas.{Agree, Agree-from, Agree-shorter, byte_agrees, u64_agrees}
use Rattle.gds_images.proofs.ImagesLemmas.{images_agree}
use Rattle.gds_images.proofs.GateLemmas.{chain_closes, chain_end, chain_more, chain_upto, ended}

-- The file begins with its label, and has gate 0.
pub record Begins (file : List ℕ) : Type 0 where
  pub label : starts_with nat_eq file label ≡ true
  pub gate : 9 ≤ length file

-- gate 0 is closed
pub record IsClosedChain (file : List ℕ) (chain : Chain) : Type 0 where
  pub begins : Begins file
  pub closed : slice_index file 8 ≡ 0
  pub is : chain ≡ ended 0 [] 8

-- gate 0 is open, and group 0 has these images
pub record IsOpenChain (file : List ℕ) (n : ℕ) (chain : Chain) : Type 0 where
  pub begins : Begins file
  pub opened : slice_index file 8 ≢ 0
  pub whole : 25 ≤ length file
  pub epoch : u64_at file 17 ≤ n
  pub places : List Place
  pub images : images_from file (u64_at file 17) 25 (u64_at file 9) ≡ Ok places
  pub behind : chain_behind (length file) file (u64_at file 17) places (25 + u64_at file 9) ≡ Ok chain

-- the images of group 0, and what is read behind them
abbrev pub first_group : List ℕ → Result (List Place) ℕ
first_group file = images_from file (u64_at file 17) 25 (u64_at file 9)

abbrev pub behind_first : List ℕ → List Place → Result Chain ℕ
behind_first file places = chain_behind (length file) file (u64_at file 17) places (25 + u64_at file 9)

pub chain_closed : (file : List ℕ) (n : ℕ) → Begins file → slice_index file 8 ≡ 0 → chain_of file n ≡ Ok (ended 0 [] 8)
unfolding chain_of
chain_closed file n begins closed =
    let starts = begins.label in
    let gate : leb 9 (length file) ≡ true = le-leb _ _ begins.gate in
    rw (starts, gate, closed)

pub chain_opened : (file : List ℕ) (n : ℕ) → Begins file → slice_index file 8 ≢ 0 → 25 ≤ length file
    → u64_at file 17 ≤ n → chain_of file n ≡ and_then (first_group file) (behind_first file)
unfolding chain_of
chain_opened file n begins opened long within =
    let starts = begins.label in
    let gate : leb 9 (length file) ≡ true = le-leb _ _ begins.gate in
    let open_gate : eqb (slice_index file 8) 0 ≡ false = ne_eqb _ _ opened in
    let first : leb 17 (length file) ≡ true = le-leb _ _ (omega arith) in
    let second : leb 25 (length file) ≡ true = le-leb _ _ (omega arith) in
    let fits : ltb n (u64_at file 17) ≡ false = le-ltb _ _ within in
    rw (starts, gate, open_gate, first, second, fits)

pub open_chain_of : (file : List ℕ) (n : ℕ) (chain : Chain) → IsOpenChain file n chain → chain_of file n ≡ Ok chain
open_chain_of file n chain opened =
    chain_opened file n opened.begins opened.opened opened.whole opened.epoch
    ∙ ap (λ r. and_then r (behind_first file)) opened.images ∙ opened.behind

split_first : (s w g r t : Bool) (end : Chain) (read : Result (List Place) ℕ) (next : List Place → Result Chain ℕ)
    (chain : Chain)
    → cond (not s) (Err 0) (cond (not w) (Err 8) (cond g (Ok end) (cond (not r) (Err 9) (cond t (Err 17)
    (and_then read next))))) ≡ Ok chain
    → (s ≡ true) × (w ≡ true) × (((g ≡ true) × (chain ≡ end))
    ⊎ ((g ≡ false) × (t ≡ false) × ((places : List Place) × ((read ≡ Ok places) × (next places ≡ Ok chain)))))
split_first false w g r t end read next chain ok = cc
split_first true false g r t end read next chain ok = cc
split_first true true true r t end read next chain ok = (refl, refl, inl (refl, cc))
split_first true true false false t end read next chain ok = cc
split_first true true false true true end read next chain ok = cc
split_first true true false true false end (Ok places) next chain ok =
    (refl, refl, inr (refl, refl, (places, (refl, ok))))
split_first true true false true false end (Err at) next chain ok = cc

-- Gate 0 of a good chain is closed or open.
pub chain_of_cases : (file : List ℕ) (n : ℕ) (chain : Chain) → chain_of file n ≡ Ok chain
    → IsClosedChain file chain ⊎ IsOpenChain file n chain
unfolding chain_of
chain_of_cases file n chain ok =
    let short = not (leb 25 (length file)) in
    let parts = split_first (starts_with nat_eq file label) (leb 9 (length file)) (eqb (slice_index file 8) 0)
    (leb 17 (length file)) (short || ltb n (u64_at file 17)) (ended 0 [] 8) (first_group file) (behind_first file) chain
    ok in
    let begins : Begins file = record { label = parts.0; gate = leb-true 9 (length file) parts.1 } in
    ⊎_elim
    (λ end. inl (record { begins = begins; closed = eqb-true _ _ end.0; is = end.1 }))
    (λ more.
    let tests = or_parts short (ltb n (u64_at file 17)) more.1 in
    inr (record {
      begins = begins;
      opened = eqb-false _ _ more.0;
      whole = leb-true 25 (length file) (not-false (leb 25 (length file)) tests.0);
      epoch = ltb-false n (u64_at file 17) tests.1;
      places = more.2.0;
      images = more.2.1.0;
      behind = more.2.1.1;
    }))
    parts.2

-- A good chain ends at a closed gate of the file.
pub chain_of_closes : (file : List ℕ) (n : ℕ) (chain : Chain) → chain_of file n ≡ Ok chain
    → (8 ≤ chain.next_gate) × (chain.next_gate < length file) × (slice_index file chain.next_gate ≡ 0)
chain_of_closes file n chain ok = ⊎_elim
    (λ (shut : IsClosedChain file chain).
    let gate : chain.next_gate ≡ 8 = ap (λ (c : Chain). c.next_gate) shut.is in
    let long = shut.begins.gate in
    (omega arith, omega arith, ap (slice_index file) gate ∙ shut.closed))
    (λ (opened : IsOpenChain file n chain).
    let closes = chain_closes (length file) file (u64_at file 17) opened.places (25 + u64_at file 9) chain
    opened.behind in
    (omega (arith, closes.later), closes.within, closes.closed))
    (chain_of_cases file n chain ok)

-- Files that agree begin alike.
pub begins_agrees : (end : ℕ) (a b : List ℕ) → 8 ≤ end → 9 ≤ length b → Agree end a b → Begins a → Begins b
begins_agrees end a b long gate agree begins =
    let front = (Agree-shorter end 8 a b long agree).front in
    record { label = ap (pointwise nat_eq label) front ∙ begins.label; gate = gate }

-- A file that agrees with one whose gate 0 is open goes on with what stands behind the closed gate.
pub opened_upto : (a b : List ℕ) (n : ℕ) (chain : Chain) → IsOpenChain a n chain → Agree chain.next_gate a b
    → chain_of b n ≡ chain_behind (length b) b chain.epoch_length chain.images chain.next_gate
opened_upto a b n chain opened agree =
    let end = chain.next_gate in
    let epoch = u64_at a 17 in
    let left = u64_at a 9 in
    let closes = chain_closes (length a) a epoch opened.places (25 + left) chain opened.behind in
    let later = closes.later in
    let a_long = opened.whole in
    let b_long = agree.second_long in
    let same_left = u64_agrees end a b agree 9 (omega arith) in
    let same_epoch = u64_agrees end a b agree 17 (omega arith) in
    let gate = byte_agrees end a b agree 8 (omega arith) in
    let begins = begins_agrees end a b (omega arith) (omega arith) agree opened.begins in
    let images : images_from b epoch 25 left ≡ Ok opened.places =
    images_agree (length a) (length b) a b end epoch 25 left opened.places agree later (omega (arith, agree.first_long))
    (omega arith) opened.images in
    let first : first_group b ≡ Ok opened.places =
    ap (λ e. images_from b e 25 (u64_at b 9)) same_epoch ∙ ap (images_from b epoch 25) same_left ∙ images in
    chain_opened b n begins (λ e. opened.opened (sym gate ∙ e)) (omega arith) (rw same_epoch opened.epoch)
    ∙ ap (λ r. and_then r (behind_first b)) first
    ∙ ap (λ e. chain_behind (length b) b e opened.places (25 + u64_at b 9)) same_epoch
    ∙ ap (λ k. chain_behind (length b) b epoch opened.places (25 + k)) same_left
    ∙ chain_upto (length a) a b epoch opened.places (25 + left) chain (omega arith) agree opened.behind
    ∙ ap (λ e. chain_behind (length b) b e chain.images end) (sym closes.same_epoch)

-- A chain ends at a closed gate.
pub chain_ends : (file : List ℕ) (chain : Chain) → 0 < chain.next_gate → chain.next_gate < length file
    → slice_index file chain.next_gate ≡ 0
    → chain_behind (length file) file chain.epoch_length chain.images chain.next_gate ≡ Ok chain
chain_ends file chain some within closed =
    chain_more file chain.epoch_length chain.images chain.next_gate some (omega arith)
    ∙ chain_end (length file) file chain.epoch_length chain.images chain.next_gate within closed

pub ends_at_gate : EndsAtItsGate
ends_at_gate a b n chain ok same =
    let closes = chain_of_closes a n chain ok in
    let long = closes.1 in
    let agree = Agree-from (chain.next_gate + 1) a b (omega arith) same in
    let b_long = agree.second_long in
    let gate = byte_agrees (chain.next_gate + 1) a b agree chain.next_gate (omega arith) ∙ closes.2 in
    ⊎_elim
    (λ (shut : IsClosedChain a chain).
    let at : chain.next_gate ≡ 8 = ap (λ (c : Chain). c.next_gate) shut.is in
    let begins = begins_agrees (chain.next_gate + 1) a b (omega arith) (omega arith) agree shut.begins in
    chain_closed b n begins (ap (slice_index b) (sym at) ∙ gate) ∙ ap Ok (sym shut.is))
    (λ (opened : IsOpenChain a n chain).
    opened_upto a b n chain opened (Agree-shorter (chain.next_gate + 1) chain.next_gate a b (omega arith) agree)
    ∙ chain_ends b chain (omega arith) (omega arith) gate)
    (chain_of_cases a n chain ok)

pub needs_epoch : NeedsItsEpoch
needs_epoch images n m chain ok long = ⊎_elim
    (λ (shut : IsClosedChain images chain). chain_closed images m shut.begins shut.closed ∙ ap Ok (sym shut.is))
    (λ (opened : IsOpenChain images n chain).
    let closes = chain_closes (length images) images (u64_at images 17) opened.places (25 + u64_at images 9) chain
    opened.behind in
    let same = closes.same_epoch in
    open_chain_of images m chain (record {
      begins = opened.begins;
      opened = opened.opened;
      whole = opened.whole;
      epoch = omega arith;
      places = opened.places;
      images = opened.images;
      behind = opened.behind;
    }))
    (chain_of_cases images n chain ok)
