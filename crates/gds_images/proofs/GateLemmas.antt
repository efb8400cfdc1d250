-- Chains of images from a gate on, group by group.
use Rattle.std.proofs.Common.{◌≡◌, ◌≢◌, ◌⊎◌, ℕ, zero, suc, ◌+◌, ◌<◌, ◌≤◌, Bool, true, false, cond, List}
use Rattle.std.proofs.Common.{◌++◌, length, slice_index, Result, Ok, Err, refl, sym, ap}
use Rattle.std.proofs.Common.{subst, ◌∙◌, inl, inr, ⊎_elim, arith, leb, eqb}
use Rattle.std.specs.Prelude.{All, not}
use Rattle.std.proofs.lemmas.Bool.{eqb-true, eqb-false, le-leb, leb-true, ne_eqb, not-false}
use Rattle.std.proofs.lemmas.List.Elements.{All-append}
use Rattle.gds_block.specs.Fields.{u64_at}
use Rattle.gds_images.specs.declared.chain.Chain.{Chain}
use Rattle.gds_images.specs.declared.chain.Place.{Place}
use Rattle.gds_images.specs.Chain.{LiesBefore, and_then, chain_behind, images_from, images_up_to}
use Rattle.gds_images.proofs.AgreeLemmas.{Agree, byte_agrees, u64_agrees}
use Rattle.gds_images.proofs.ImagesLemmas.{images_agree, images_fuel, images_lie, images_whole}

-- ---- One group more.

-- Behind an open gate stands a group with these images.
pub record IsGroup (file : List ℕ) (epoch gate : ℕ) (places : List Place) : Type 0 where
  pub opened : slice_index file gate ≢ 0
  pub whole : gate + 9 ≤ length file
  pub images : images_from file epoch (gate + 9) (u64_at file (gate + 1)) ≡ Ok places

-- and what is read behind it, where the images so far are these
abbrev behind_group : ℕ → List ℕ → ℕ → List Place → ℕ → List Place → Result Chain ℕ
behind_group n file epoch images gate places =
    chain_behind n file epoch (images ++ places) (gate + 9 + u64_at file (gate + 1))

abbrev pub ended : ℕ → List Place → ℕ → Chain
ended epoch images gate = record { epoch_length = epoch; images = images; next_gate = gate }

-- A closed gate ends the chain.
pub chain_end : (n : ℕ) (file : List ℕ) (epoch : ℕ) (images : List Place) (gate : ℕ) → gate < length file
    → slice_index file gate ≡ 0 → chain_behind (suc n) file epoch images gate ≡ Ok (ended epoch images gate)
chain_end n file epoch images gate within closed =
    let whole : leb (gate + 1) (length file) ≡ true = le-leb _ _ (omega arith) in
    rw (whole, closed)

pub chain_step : (n : ℕ) (file : List ℕ) (epoch : ℕ) (images : List Place) (gate : ℕ) (places : List Place)
    → IsGroup file epoch gate places
    → chain_behind (suc n) file epoch images gate ≡ behind_group n file epoch images gate places
chain_step n file epoch images gate places group =
    let long = group.whole in
    let whole : leb (gate + 1) (length file) ≡ true = le-leb _ _ (omega arith) in
    let rest : leb (gate + 1 + 8) (length file) ≡ true = le-leb _ _ (omega arith) in
    let not_closed : eqb (slice_index file gate) 0 ≡ false = ne_eqb _ _ group.opened in
    rw (whole, not_closed, rest, group.images)

-- a group that was read, and the rest of the chain
pub record Continues (n : ℕ) (file : List ℕ) (epoch : ℕ) (images : List Place) (gate : ℕ) (chain : Chain) : Type 0
  where
    pub places : List Place
    pub group : IsGroup file epoch gate places
    pub behind : behind_group n file epoch images gate places ≡ Ok chain

pub record Ends (file : List ℕ) (epoch : ℕ) (images : List Place) (gate : ℕ) (chain : Chain) : Type 0 where
  pub closed : slice_index file gate ≡ 0
  pub within : gate < length file
  pub is : chain ≡ ended epoch images gate

split : (w g r : Bool) (gate : ℕ) (end : Chain) (read : Result (List Place) ℕ) (next : List Place → Result Chain ℕ)
    (chain : Chain)
    → cond (not w) (Err gate) (cond g (Ok end) (cond (not r) (Err (gate + 1)) (and_then read next))) ≡ Ok chain
    → (w ≡ true) × (((g ≡ true) × (chain ≡ end))
    ⊎ ((g ≡ false) × (r ≡ true) × ((places : List Place) × ((read ≡ Ok places) × (next places ≡ Ok chain)))))
split false g r gate end read next chain ok = cc
split true true r gate end read next chain ok = (refl, inl (refl, cc))
split true false false gate end read next chain ok = cc
split true false true gate end (Ok places) next chain ok = (refl, inr (refl, refl, (places, (refl, ok))))
split true false true gate end (Err at) next chain ok = cc

pub chain_cases : (n : ℕ) (file : List ℕ) (epoch : ℕ) (images : List Place) (gate : ℕ) (chain : Chain)
    → chain_behind (suc n) file epoch images gate ≡ Ok chain
    → Ends file epoch images gate chain ⊎ Continues n file epoch images gate chain
chain_cases n file epoch images gate chain ok =
    let parts = split (leb (gate + 1) (length file)) (eqb (slice_index file gate) 0) (leb (gate + 1 + 8) (length file))
    gate (ended epoch images gate) (images_from file epoch (gate + 9) (u64_at file (gate + 1)))
    (behind_group n file epoch images gate) chain ok in
    let first = leb-true (gate + 1) (length file) parts.0 in
    ⊎_elim
    (λ end. inl (record { closed = eqb-true _ _ end.0; within = omega arith; is = end.1 }))
    (λ more.
    let long = leb-true (gate + 1 + 8) (length file) more.1 in
    inr (record {
      places = more.2.0;
      group = record { opened = eqb-false _ _ more.0; whole = omega arith; images = more.2.1.0 };
      behind = more.2.1.1;
    }))
    parts.1

-- A group lies within the file whole.
pub group_whole : (file : List ℕ) (epoch gate : ℕ) (places : List Place) → IsGroup file epoch gate places
    → gate + 9 + u64_at file (gate + 1) ≤ length file
group_whole file epoch gate places group =
    images_whole (length file) file epoch (gate + 9) (u64_at file (gate + 1)) places group.whole (omega arith)
    group.images

-- ---- What is known of a chain behind a gate.

pub record Closes (file : List ℕ) (epoch gate : ℕ) (chain : Chain) : Type 0 where
  pub later : gate ≤ chain.next_gate
  pub within : chain.next_gate < length file
  pub closed : slice_index file chain.next_gate ≡ 0
  pub same_epoch : chain.epoch_length ≡ epoch

pub chain_closes : (n : ℕ) (file : List ℕ) (epoch : ℕ) (images : List Place) (gate : ℕ) (chain : Chain)
    → chain_behind n file epoch images gate ≡ Ok chain → Closes file epoch gate chain
chain_closes zero file epoch images gate chain ok = cc
chain_closes (suc n) file epoch images gate chain ok = ⊎_elim
    (λ (end : Ends file epoch images gate chain). let closed = end.closed in let within = end.within in
    subst (λ c. Closes file epoch gate c) (sym end.is)
    (record { later = omega arith; within = within; closed = closed; same_epoch = refl }))
    (λ (more : Continues n file epoch images gate chain).
    let rest = chain_closes n file epoch (images ++ more.places) (gate + 9 + u64_at file (gate + 1)) chain
    more.behind in
    record {
      later = omega (arith, rest.later);
      within = rest.within;
      closed = rest.closed;
      same_epoch = rest.same_epoch;
    })
    (chain_cases n file epoch images gate chain ok)

-- The images lie before the closed gate, and within the database of the epoch.
pub chain_lies : (n : ℕ) (file : List ℕ) (epoch : ℕ) (images : List Place) (gate : ℕ) (chain : Chain)
    → All (LiesBefore chain.next_gate epoch) images → chain_behind n file epoch images gate ≡ Ok chain
    → All (LiesBefore chain.next_gate epoch) chain.images
chain_lies zero file epoch images gate chain lie ok = cc
chain_lies (suc n) file epoch images gate chain lie ok = ⊎_elim
    (λ (end : Ends file epoch images gate chain).
    subst (λ xs. All (LiesBefore chain.next_gate epoch) xs) (ap (λ (c : Chain). c.images) (sym end.is)) lie)
    (λ (more : Continues n file epoch images gate chain).
    let next = gate + 9 + u64_at file (gate + 1) in
    let later = (chain_closes n file epoch (images ++ more.places) next chain more.behind).later in
    let some = images_lie (length file) file epoch (gate + 9) (u64_at file (gate + 1)) chain.next_gate more.places later
    more.group.images in
    chain_lies n file epoch (images ++ more.places) next chain
    (All-append (LiesBefore chain.next_gate epoch) images more.places lie some) more.behind)
    (chain_cases n file epoch images gate chain ok)

-- ---- Fuel that suffices reads the same.

if_same : {A : Type 0} (t : Bool) (x y z : A) → (t ≡ false → y ≡ z) → cond t x y ≡ cond t x z
if_same true x y z same = refl
if_same false x y z same = same refl

pub then_same : {A B : Type 0} (r : Result A ℕ) (f g : A → Result B ℕ) → ((a : A) → r ≡ Ok a → f a ≡ g a)
    → and_then r f ≡ and_then r g
then_same (Ok a) f g same = same a refl
then_same (Err at) f g same = refl

pub chain_fuel : (n m : ℕ) (file : List ℕ) (epoch : ℕ) (images : List Place) (gate : ℕ) → gate ≤ length file
    → length file < gate + n → length file < gate + m
    → chain_behind n file epoch images gate ≡ chain_behind m file epoch images gate
chain_fuel zero m file epoch images gate within more enough = absurd (omega arith)
chain_fuel (suc n) zero file epoch images gate within more enough = absurd (omega arith)
chain_fuel (suc n) (suc m) file epoch images gate within more enough =
    let read = images_from file epoch (gate + 9) (u64_at file (gate + 1)) in
    let next = gate + 9 + u64_at file (gate + 1) in
    ap (λ r. cond (not (leb (gate + 1) (length file))) (Err gate) (cond (eqb (slice_index file gate) 0)
    (Ok (ended epoch images gate)) r))
    (if_same (not (leb (gate + 1 + 8) (length file))) (Err (gate + 1))
    (and_then read (behind_group n file epoch images gate))
    (and_then read (behind_group m file epoch images gate))
    (λ (whole : not (leb (gate + 1 + 8) (length file)) ≡ false).
    let long = leb-true (gate + 1 + 8) (length file) (not-false _ whole) in
    then_same read (behind_group n file epoch images gate) (behind_group m file epoch images gate)
    (λ places ok.
    let end = images_whole (length file) file epoch (gate + 9) (u64_at file (gate + 1)) places (omega arith)
    (omega arith)
    ok in
    chain_fuel n m file epoch (images ++ places) next (omega arith) (omega arith) (omega arith))))

-- Where fuel for the whole file is there, one more changes nothing.
pub chain_more : (file : List ℕ) (epoch : ℕ) (images : List Place) (gate : ℕ) → 0 < gate → gate ≤ length file
    → chain_behind (length file) file epoch images gate ≡ chain_behind (suc (length file)) file epoch images gate
chain_more file epoch images gate some within =
    chain_fuel (length file) (suc (length file)) file epoch images gate within (omega arith) (omega arith)

pub images_more : (file : List ℕ) (epoch at left n : ℕ) → 0 < at → at ≤ length file → length file < at + n
    → images_from file epoch at left ≡ images_up_to n file epoch at left
images_more file epoch at left n some within enough =
    images_fuel (length file) n file epoch at left within (omega arith) enough

-- ---- A file that agrees with another up to the closed gate is read the same up to there.

-- It has the same groups.
pub group_agrees : (a b : List ℕ) (end epoch gate : ℕ) (places : List Place) → Agree end a b
    → gate + 9 + u64_at a (gate + 1) ≤ end → IsGroup a epoch gate places
    → IsGroup b epoch gate places × (u64_at b (gate + 1) ≡ u64_at a (gate + 1))
group_agrees a b end epoch gate places agree fits group =
    let left = u64_at a (gate + 1) in
    let same = u64_agrees end a b agree (gate + 1) (omega arith) in
    let byte = byte_agrees end a b agree gate (omega arith) in
    let long = agree.second_long in
    let short = group.whole in
    let there : images_from b epoch (gate + 9) left ≡ Ok places =
    images_agree (length a) (length b) a b end epoch (gate + 9) left places agree fits (omega (arith, agree.first_long))
    (omega arith) group.images in (
      record {
        opened = λ e. group.opened (sym byte ∙ e);
        whole = omega arith;
        images = ap (images_from b epoch (gate + 9)) same ∙ there;
      },
      same,
    )

-- Up to there the other file's chain is read alike.
pub chain_upto : (n : ℕ) (a b : List ℕ) (epoch : ℕ) (images : List Place) (gate : ℕ) (chain : Chain) → 0 < gate
    → Agree chain.next_gate a b → chain_behind n a epoch images gate ≡ Ok chain
    → chain_behind (length b) b epoch images gate ≡ chain_behind (length b) b epoch chain.images chain.next_gate
chain_upto zero a b epoch images gate chain some agree ok = cc
chain_upto (suc n) a b epoch images gate chain some agree ok = ⊎_elim
    (λ (end : Ends a epoch images gate chain).
    ap (λ (c : Chain). chain_behind (length b) b epoch c.images c.next_gate) (sym end.is))
    (λ (more : Continues n a epoch images gate chain).
    let next = gate + 9 + u64_at a (gate + 1) in
    let later = (chain_closes n a epoch (images ++ more.places) next chain more.behind).later in
    let there = group_agrees a b chain.next_gate epoch gate more.places agree later more.group in
    let whole = there.0.whole in
    chain_more b epoch images gate some (omega arith)
    ∙ chain_step (length b) b epoch images gate more.places there.0
    ∙ ap (λ k. chain_behind (length b) b epoch (images ++ more.places) (gate + 9 + k)) there.1
    ∙ chain_upto n a b epoch (images ++ more.places) next chain (omega arith) agree more.behind)
    (chain_cases n a epoch images gate chain ok)
