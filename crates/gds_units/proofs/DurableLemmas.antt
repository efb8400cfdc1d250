-- What a crash leaves of units at rest, and of units on which nothing is written.
use Rattle.std.proofs.Common.{◌≡◌, ◌⊎◌, ℕ, ◌≤◌, List, Option, None, Some, refl, sym, ap, subst, ◌∙◌, inl, inr, ⊎_elim}
use Rattle.std.specs.Prelude.{OnOk, Result, Ok, Err, option_map}
use Rattle.host_model.specs.Disk.{SaysSome, during}
use Rattle.host_model.specs.Files.{Contents}
use Rattle.host_model.specs.Moments.{EachLeft, HasCome, LeavesBy, LeavesTheSame}
use Rattle.host_model.proofs.MomentLemmas.{no_call, same_only, then_more, weaker}
use Rattle.host_model.proofs.FrameLemmas.{TellsOn-some}
use Rattle.host_model.specs.Told.{TellsOn}
use Rattle.gds_images.specs.Outcome.{RecoversAsBefore, RecoversTo}
use Rattle.gds_images.specs.Recovered.{recovered}
use Rattle.gds_images.specs.Same.{IsSame}
use Rattle.gds_images.proofs.SameLemmas.{same_equivalence}
use Rattle.gds_epoch.specs.Epoch.{database_of}
use Rattle.gds_epoch.specs.State.{Finds, Rests}
use Rattle.gds_epoch.proofs.StateLemmas.{rest_finds}
use Rattle.gds_epoch.specs.Waiting.{WaitingUnit, patched}
use Rattle.gds_units.specs.Held.{IsRecoverable}
use Rattle.gds_units.specs.Durable.{AsBefore, IsStored, Keeps, KeepsOrStores, KeepsSaying, KeptAllOrStored, Stores}
use Rattle.gds_units.specs.State.{UnitsState, WhereTold, file_with, image_of}

pub some_same : {A : Type 0} (a b : A) → Some a ≡ Some b → a ≡ b
some_same a b is = cc

pub when_ok_always : {T E P : Type 0} (result : Result T E) → P → OnOk result P
when_ok_always (Ok x) is = is
when_ok_always (Err e) is = tt

-- an image is the same as itself
recovers_to : (image : List ℕ) (c : Contents) → recovered c.db c.images ≡ Some image → RecoversTo image c
recovers_to image c is = record { found = image; recovers = is; same = same_equivalence.reflexive image }

pub finds_stores : (image : List ℕ) (before c : Contents) → Finds image before c → Stores image before.said c
finds_stores image before c finds = record { recovers = recovers_to image c finds.recovers; said = finds.said }

pub rests_stores : (image : List ℕ) (before c : Contents) → Rests image before c → Stores image before.said c
rests_stores image before c rests = finds_stores image before c (rest_finds image before c rests)

-- the image of what is told, where it is asked for
pub image_is : (block_size : ℕ) (units : List WaitingUnit) (told : Option Contents) (c : Contents) (image : List ℕ)
    → told ≡ Some c → option_map database_of (file_with block_size units told) ≡ Some image
    → database_of (patched block_size units c.db) ≡ image
image_is block_size units None c image tells is = absurd (let no : None ≡ Some c = tells in cc)
image_is block_size units (Some x) c image tells is =
    let same : x ≡ c = cc in rw same at (let one : database_of (patched block_size units x.db) ≡ image = cc in one)

module _ {H : Type 0} (moment : H → ℕ) (left_since : H → ℕ → Contents → Type 0) where
  -- What a crash now may leave was found before.
  pub found_before : (host : H) (c : Contents) → IsRecoverable c → left_since host (moment host) c
      → AsBefore moment left_since host c
  found_before host c is left = record {
    earlier = c;
    was_left = left;
    found = is.image;
    recovered_then = is.recovers;
    recovers = recovers_to is.image c is.recovers;
    said = refl;
  }

  -- Where nothing is called, all is as it was.
  pub keeps_none : (host : H) → EachLeft moment left_since host IsRecoverable → Keeps moment left_since host host
  keeps_none host each =
      no_call moment left_since host (AsBefore moment left_since host)
      (λ c left. found_before host c (each c left) left)

  -- so it is where crashes find no difference
  pub keeps_same : (old new : H) → LeavesTheSame moment left_since old new
      → EachLeft moment left_since old IsRecoverable
      → Keeps moment left_since old new
  keeps_same old new same each =
      same_only moment left_since old new (AsBefore moment left_since old) same
      (λ c left. found_before old c (each c left) left)

  -- Nothing but what was found before is less than that or an image.
  pub keeps_or : (image text : List ℕ) (old new : H) → Keeps moment left_since old new
      → KeepsOrStores moment left_since image text old new
  keeps_or image text old new =
      weaker moment left_since old new (AsBefore moment left_since old)
      (λ c. AsBefore moment left_since old c ⊎ Stores image text c) (λ c kept. inl kept)

  -- A saying leaves both files.
  pub keeps_saying : (bytes : List ℕ) (old new : H) → EachLeft moment left_since old IsRecoverable
      → LeavesBy moment left_since (SaysSome bytes) old new → KeepsSaying moment left_since bytes old new
  keeps_saying bytes old new each =
      weaker moment left_since old new (during (SaysSome bytes) (left_since old (moment old)))
      (during (SaysSome bytes) (AsBefore moment left_since old))
      (λ c is. (is.0, found_before old is.0 (each is.0 is.1) is.1, is.2))

  -- A database at rest is found.
  pub rests_found : (host : H) (image : List ℕ) (c : Contents) → EachLeft moment left_since host (Rests image c)
      → EachLeft moment left_since host IsRecoverable
  rests_found host image c each d left =
      let finds = rest_finds image c d (each d left) in record { image = image; recovers = finds.recovers }

  module _ (old : H) (c : Contents) (now_left : left_since old (moment old) c) (image : List ℕ)
      (each : EachLeft moment left_since old (Rests image c)) where
    -- What is found as the database that was at rest was found before.
    pub finds_before : (d : Contents) → Finds image c d → AsBefore moment left_since old d
    finds_before d finds = record {
      earlier = c;
      was_left = now_left;
      found = image;
      recovered_then = (rest_finds image c c (each c now_left)).recovers;
      recovers = recovers_to image d finds.recovers;
      said = finds.said;
    }

    -- It goes on being at rest.
    pub keeps_resting : (new : H) → HasCome moment left_since old new (Rests image c) (Rests image c)
        → Keeps moment left_since old new
    keeps_resting new come =
        weaker moment left_since old new (Rests image c) (AsBefore moment left_since old)
        (λ d rests. finds_before d (rest_finds image c d rests)) come.only

    -- It is found, or another one is.
    pub keeps_either : (next : List ℕ) (new : H) {Q : Contents → Type 0}
        → HasCome moment left_since old new (λ d. Finds image c d ⊎ Finds next c d) Q
        → KeepsOrStores moment left_since next c.said old new
    keeps_either next new come =
        weaker moment left_since old new (λ d. Finds image c d ⊎ Finds next c d)
        (λ d. AsBefore moment left_since old d ⊎ Stores next c.said d)
        (λ d. ⊎_elim (λ (finds : Finds image c d). inl (finds_before d finds))
        (λ (finds : Finds next c d). inr (finds_stores next c d finds))) come.only

-- ---- One call after another.

-- What is found as an image that is itself the same as another is the same as that.
carried : (image : List ℕ) (e c : Contents) (found : List ℕ) → RecoversTo image e → recovered e.db e.images ≡ Some found
    → RecoversTo found c → RecoversTo image c
carried image e c found then_was is now =
    let one : then_was.found ≡ found = some_same then_was.found found (sym then_was.recovers ∙ is) in record {
      found = now.found;
      recovers = now.recovers;
      same = same_equivalence.transitive image found now.found (subst (λ x. IsSame image x) one then_was.same) now.same;
    }

module _ {H : Type 0} (moment : H → ℕ) (left_since : H → ℕ → Contents → Type 0)
    (longer : (host : H) (t u : ℕ) (c : Contents) → t ≤ u → left_since host u c → left_since host t c) where
  -- what was found before at a later host was found before at an earlier one
  pub before_then : (old : H) (left : Contents → Type 0) (c : Contents)
      → ((e : Contents) → left e → AsBefore moment left_since old e) → RecoversAsBefore left c
      → AsBefore moment left_since old c
  before_then old left c each kept =
      let earlier = each kept.earlier kept.was_left in record {
        earlier = earlier.earlier;
        was_left = earlier.was_left;
        found = earlier.found;
        recovered_then = earlier.recovered_then;
        recovers = carried earlier.found kept.earlier c kept.found earlier.recovers kept.recovered_then kept.recovers;
        said = kept.said ∙ earlier.said;
      }

  pub stores_then : (image text : List ℕ) (left : Contents → Type 0) (c : Contents)
      → ((e : Contents) → left e → Stores image text e) → RecoversAsBefore left c → Stores image text c
  stores_then image text left c each kept =
      let earlier = each kept.earlier kept.was_left in record {
        recovers = carried image kept.earlier c kept.found earlier.recovers kept.recovered_then kept.recovers;
        said = kept.said ∙ earlier.said;
      }

  -- what was found before, or an image
  pub either_then : (old : H) (image text : List ℕ) (left : Contents → Type 0) (c : Contents)
      → ((e : Contents) → left e → AsBefore moment left_since old e ⊎ Stores image text e) → RecoversAsBefore left c
      → AsBefore moment left_since old c ⊎ Stores image text c
  either_then old image text left c each kept = ⊎_elim
      (λ (earlier : AsBefore moment left_since old kept.earlier). inl (record {
        earlier = earlier.earlier;
        was_left = earlier.was_left;
        found = earlier.found;
        recovered_then = earlier.recovered_then;
        recovers = carried earlier.found kept.earlier c kept.found earlier.recovers kept.recovered_then kept.recovers;
        said = kept.said ∙ earlier.said;
      }))
      (λ (stored : Stores image text kept.earlier). inr (record {
        recovers = carried image kept.earlier c kept.found stored.recovers kept.recovered_then kept.recovers;
        said = kept.said ∙ stored.said;
      })) (each kept.earlier kept.was_left)

  module _ (old mid new : H) (second : Keeps moment left_since mid new) where
    -- what each crash leaves now was left at the middle
    pub kept_now : EachLeft moment left_since new (AsBefore moment left_since mid)
    kept_now c left = second.each c (longer new (moment mid) (moment new) c second.later left)

    pub kept_then : Keeps moment left_since old mid → Keeps moment left_since old new
    kept_then first =
        then_more moment left_since old mid new (AsBefore moment left_since old) first
        (weaker moment left_since mid new (AsBefore moment left_since mid) (AsBefore moment left_since old)
        (λ c kept. before_then old (left_since mid (moment mid)) c
        (λ e left. first.each e (longer mid (moment old) (moment mid) e first.later left)) kept) second)

    pub or_then : (image text : List ℕ) → KeepsOrStores moment left_since image text old mid
        → KeepsOrStores moment left_since image text old new
    or_then image text first =
        let P : Contents → Type 0 = λ c. AsBefore moment left_since old c ⊎ Stores image text c in
        then_more moment left_since old mid new P first
        (weaker moment left_since mid new (AsBefore moment left_since mid) P
        (λ c kept. either_then old image text (left_since mid (moment mid)) c
        (λ e left. first.each e (longer mid (moment old) (moment mid) e first.later left)) kept) second)

    pub stored_then : (image text : List ℕ) → IsStored moment left_since image text mid
        → IsStored moment left_since image text new
    stored_then image text stored c left =
        stores_then image text (left_since mid (moment mid)) c stored (kept_now c left)

module _ {H : Type 0} (told : H → Option Contents) (moment : H → ℕ) (left_since : H → ℕ → Contents → Type 0)
    (longer : (host : H) (t u : ℕ) (c : Contents) → t ≤ u → left_since host u c → left_since host t c)
    (old mid : UnitsState H) (new : H) (file : mid.file ≡ old.file)
    (said : TellsOn (told old.host) (told mid.host) (λ c d. d.said ≡ c.said))
    (keeps : WhereTold told mid (λ c image. Keeps moment left_since mid.host new)) where
  -- what is told in the middle, where it was told at first
  keeps_where : (c : Contents) → told old.host ≡ Some c → (image : List ℕ) → image_of old ≡ Some image
      → Keeps moment left_since mid.host new
  keeps_where c tells image is =
      let at = TellsOn-some (told old.host) (told mid.host) (λ x y. y.said ≡ x.said) c tells said in
      keeps at.0 at.1 image (ap (option_map database_of) file ∙ is)

  pub where_moments : WhereTold told old (λ c image. KeepsOrStores moment left_since image c.said old.host mid.host)
      → WhereTold told old (λ c image. KeepsOrStores moment left_since image c.said old.host new)
  where_moments first c tells image is =
      or_then moment left_since longer old.host mid.host new (keeps_where c tells image is) image c.said
      (first c tells image is)

  pub where_stored : WhereTold told old (λ c image. IsStored moment left_since image c.said mid.host)
      → WhereTold told old (λ c image. KeptAllOrStored moment left_since image c.said old.host new)
  where_stored stored c tells image is =
      inr (stored_then moment left_since longer old.host mid.host new (keeps_where c tells image is) image c.said
      (stored c tells image is))
