-- The laws of what a crash may leave, of any steps.
use Rattle.std.specs.Prelude.{◌≡◌, ◌⊎◌, ℕ, ◌+◌, ◌<◌, ◌≤◌, max, Bool, true, false, ◌||◌, List, [], ◌∷◌, ◌++◌}
use Rattle.std.specs.Prelude.{length, Some, refl}
use Rattle.std.proofs.Common.{arith, inl, inr, ap, sym, ◌∙◌, subst, ⊎_elim, length-take}
use Rattle.std.proofs.Common.{get_or-take}
use Rattle.std.proofs.lemmas.List.Folds.{list_any-append}
use Rattle.std.proofs.lemmas.Bool.Decides.{nat_tests}
use Rattle.host_model.specs.declared.host.FileNo.TheVariants.{Db, Images}
use Rattle.host_model.proofs.FileLemmas.{length-written, written-before, written-behind}
use Rattle.host_model.specs.Files.{Contents}
use Rattle.host_mem.specs.declared.step.Range.{Range}
use Rattle.host_mem.specs.Drive.{Drive, Leaves, farthest, is_covered, is_within, settled, shortened, wrote}
use Rattle.host_mem.specs.History.{LeftBefore, LeftSince, State, apply, replayed, shown, start}
use Rattle.host_mem.specs.Step.{Step, Write, Cut, Sync, Say, number_of}

-- a drive whose lengths fit, and of which a crash may leave what a read gives
pub record IsSound (drive : Drive) : Type 0 where
  pub now : Leaves drive drive.now
  pub stable : drive.least ≤ length drive.stable

pub farthest-le : (n : ℕ) (ranges : List Range) → n ≤ farthest n ranges
farthest-le n [] = omega arith
farthest-le n (range ∷ ranges) = omega (arith, farthest-le n ranges)

pub farthest-push : (n : ℕ) (ranges : List Range) (range : Range)
    → farthest n (ranges ++ range ∷ []) ≡ max (farthest n ranges) (range.at + range.len)
farthest-push n [] range = omega arith
farthest-push n (r ∷ ranges) range = omega (arith, farthest-push n ranges range)

pub or-false : (a b : Bool) → (a || b) ≡ false → (a ≡ false) × (b ≡ false)
or-false true b e = absurd (let no : ⊥ = cc in no)
or-false false b e = (refl, e)

-- a byte that the ranges and one more don't cover
pub not_covered : (i : ℕ) (ranges : List Range) (range : Range) → is_covered i (ranges ++ range ∷ []) ≡ false
    → (is_covered i ranges ≡ false) × (is_within i range ≡ false)
not_covered i ranges range e =
    let both = or-false (is_covered i ranges) (is_covered i (range ∷ []))
    (sym (list_any-append (is_within i) ranges (range ∷ [])) ∙ e) in
    (both.0, (or-false (is_within i range) false both.1).0)

pub outside : (i : ℕ) (range : Range) → is_within i range ≡ false → (i < range.at) ⊎ (range.at + range.len ≤ i)
outside i range e = grind (arith, nat_tests)

pub settled-IsSound : (file : List ℕ) → IsSound (settled file)
settled-IsSound file =
    record {
      now = record { no_shorter = omega arith; no_longer = omega arith; stays = λ i _ _. refl };
      stable = omega arith;
    }

pub wrote-IsSound : (at : ℕ) (bytes : List ℕ) (done : Bool) (drive : Drive) → IsSound drive
    → IsSound (wrote at bytes done drive)
wrote-IsSound at bytes false drive sound =
    let range : Range = record { at = at; len = length bytes } in
    record {
      now = record {
        no_shorter = sound.now.no_shorter;
        no_longer = omega (arith, sound.now.no_longer, farthest-push (length drive.stable) drive.ranges range);
        stays = λ i lt e. sound.now.stays i lt (not_covered i drive.ranges range e).0;
      };
      stable = sound.stable;
    }
wrote-IsSound at bytes true drive sound =
    let range : Range = record { at = at; len = length bytes } in
    let long = length-written at bytes drive.now in
    record {
      now = record {
        no_shorter = omega (arith, sound.now.no_shorter, length-written at bytes drive.now);
        no_longer = omega (
          arith,
          sound.now.no_longer,
          farthest-push (length drive.stable) drive.ranges range,
          length-written at bytes drive.now,
        );
        stays = λ i lt e.
            let not = not_covered i drive.ranges range e in
            let here : i < length drive.now = omega (arith, sound.now.no_shorter) in
            ⊎_elim (λ l. written-before at bytes drive.now i here l)
            (λ l. written-behind at bytes drive.now i here l) (outside i range not.1)
            ∙ sound.now.stays i lt not.0;
      };
      stable = sound.stable;
    }

pub shortened-IsSound : (n : ℕ) (done : Bool) (drive : Drive) → IsSound drive → IsSound (shortened n done drive)
shortened-IsSound n false drive sound = record {
  now = record {
    no_shorter = omega (arith, sound.now.no_shorter);
    no_longer = sound.now.no_longer;
    stays = λ i lt e. let below : i < drive.least = omega arith in sound.now.stays i below e;
  };
  stable = omega (arith, sound.stable);
}
shortened-IsSound n true drive sound = record {
  now = record {
    no_shorter = omega (arith, sound.now.no_shorter, length-take n drive.now);
    no_longer = omega (arith, sound.now.no_longer, length-take n drive.now);
    stays = λ i lt e.
        let below : i < drive.least = omega arith in
        let front : i < n = omega arith in
        get_or-take n drive.now i 0 front ∙ sound.now.stays i below e;
  };
  stable = omega (arith, sound.stable);
}

pub record AreSound (state : State) : Type 0 where
  pub db : IsSound state.db
  pub images : IsSound state.images

pub start-AreSound : (c : Contents) → AreSound (start c)
start-AreSound c = record { db = settled-IsSound c.db; images = settled-IsSound c.images }

pub apply-AreSound : (step : Step) (state : State) → AreSound state → AreSound (apply step state)
apply-AreSound (Write number Db at bytes done) state sound =
    record { db = wrote-IsSound at bytes done state.db sound.db; images = sound.images }
apply-AreSound (Write number Images at bytes done) state sound =
    record { db = sound.db; images = wrote-IsSound at bytes done state.images sound.images }
apply-AreSound (Cut number Db len done) state sound =
    record { db = shortened-IsSound len done state.db sound.db; images = sound.images }
apply-AreSound (Cut number Images len done) state sound =
    record { db = sound.db; images = shortened-IsSound len done state.images sound.images }
apply-AreSound (Sync number Db) state sound = record { db = settled-IsSound state.db.now; images = sound.images }
apply-AreSound (Sync number Images) state sound = record { db = sound.db; images = settled-IsSound state.images.now }
apply-AreSound (Say number bytes) state sound = record { db = sound.db; images = sound.images }

pub replayed-AreSound : (state : State) (steps : List Step) → AreSound state → AreSound (replayed state steps)
replayed-AreSound state [] sound = sound
replayed-AreSound state (step ∷ steps) sound =
    replayed-AreSound (apply step state) steps (apply-AreSound step state sound)

pub LeftBefore-longer : (state : State) (steps : List Step) (t u : ℕ) (c : Contents) → t ≤ u
    → LeftBefore state steps u c → LeftBefore state steps t c
LeftBefore-longer state [] t u c le left = left
LeftBefore-longer state (step ∷ steps) t u c le left =
    ⊎_elim (λ l. let lt : t < number_of step = omega (arith, l.0) in inl (lt, l.1))
    (λ l. inr (LeftBefore-longer (apply step state) steps t u c le l)) left

-- the moments since a later one are among those since an earlier
pub LeftSince-longer : (first : Contents) (steps : List Step) (moment t u : ℕ) (c : Contents) → t ≤ u
    → LeftSince first steps moment u c → LeftSince first steps moment t c
LeftSince-longer first steps moment t u c le left =
    ⊎_elim inl (λ l. let lt : t < moment = omega (arith, l.0) in inr
    (lt, LeftBefore-longer (start first) steps t u c le l.1)) left

-- what a read gives now is among what a crash now may leave
pub LeftSince-now : (first : Contents) (steps : List Step) (moment : ℕ)
    → LeftSince first steps moment moment (shown (replayed (start first) steps))
LeftSince-now first steps moment =
    let sound = replayed-AreSound (start first) steps (start-AreSound first) in
    inl (record { db = sound.db.now; images = sound.images.now; said = refl })

-- a crash leaves all that was said
pub LeftSince-said : (first : Contents) (steps : List Step) (moment : ℕ) (c : Contents)
    → LeftSince first steps moment moment c → c.said ≡ (replayed (start first) steps).said
LeftSince-said first steps moment c left =
    ⊎_elim (λ l. l.said) (λ l. absurd (let no : ⊥ = omega (arith, l.0) in no)) left

pub told_is_left : (first : Contents) (steps : List Step) (moment : ℕ) (c : Contents)
    → Some (shown (replayed (start first) steps)) ≡ Some c → LeftSince first steps moment moment c
told_is_left first steps moment c told =
    let same : shown (replayed (start first) steps) ≡ c = cc in
    let P : Contents → Type 0 = λ x. LeftSince first steps moment moment x in
    subst P same (LeftSince-now first steps moment)

pub told_said_stays : (first : Contents) (steps : List Step) (moment : ℕ) (now c : Contents)
    → Some (shown (replayed (start first) steps)) ≡ Some now → LeftSince first steps moment moment c
    → c.said ≡ now.said
told_said_stays first steps moment now c told left =
    let same : shown (replayed (start first) steps) ≡ now = cc in
    LeftSince-said first steps moment c left ∙ ap (λ (x : Contents). x.said) same
