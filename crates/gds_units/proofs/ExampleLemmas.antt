-- Calls on units one after another, as a caller makes them.
use Rattle.std.proofs.Common.{◌≡◌, ◌⊎◌, ℕ, ◌≤◌, ◌++◌, List, take, Option, Some, ap, subst, ◌∙◌}
use Rattle.std.proofs.Common.{inl, inr}
use Rattle.std.proofs.Common.{⊎_elim}
use Rattle.std.specs.Prelude.{option_map}
use Rattle.host_model.specs.Disk.{SaysSome, during}
use Rattle.host_model.specs.Files.{Contents}
use Rattle.host_model.specs.Moments.{EachLeft, LeavesOnly}
use Rattle.host_model.specs.Told.{TellsOn}
use Rattle.host_model.proofs.FileLemmas.{SaysSome-refl}
use Rattle.host_model.proofs.FrameLemmas.{TellsOn-some}
use Rattle.host_model.proofs.MomentLemmas.{then_more, weaker}
use Rattle.gds_header.specs.Fields.{file_length_of}
use Rattle.gds_header.specs.declared.header.Header.{Header}
use Rattle.gds_images.specs.Recovered.{recovered}
use Rattle.gds_epoch.specs.Epoch.{database_of}
use Rattle.gds_epoch.specs.Waiting.{WaitingUnit}
use Rattle.gds_units.specs.Durable.{AsBefore, IsStored, KeepsOrStores, KeepsSaying, Stores}
use Rattle.gds_units.specs.Example.{IsOnTheWay}
use Rattle.gds_units.specs.Plan.{IsCarriedOut, image_after}
use Rattle.gds_units.specs.State.{UnitsState, WhereTold, image_of}
use Rattle.gds_units.proofs.DurableLemmas.{either_then, stores_then}

-- the database of a file in which a plan was carried out
pub carried_image : (h : Header) (plan : List WaitingUnit) (old new : List ℕ) → IsCarriedOut h plan old new
    → database_of new ≡ image_after h plan old
carried_image h plan old new is = ap (λ n. take n new) (ap file_length_of is.fields) ∙ is.image

-- and where it is told
pub carried_told : {H : Type 0} (h : Header) (plan : List WaitingUnit) (old new : UnitsState H) (file : List ℕ)
    → old.file ≡ Some file → TellsOn old.file new.file (IsCarriedOut h plan)
    → image_of new ≡ Some (image_after h plan file)
carried_told h plan old new file is tells =
    let at = told_now old.file new.file file is tells in
    ap (option_map database_of) at.1 ∙ ap Some (carried_image h plan file at.0 at.2)
  where
    told_now : (a b : Option (List ℕ)) (x : List ℕ) → a ≡ Some x → TellsOn a b (IsCarriedOut h plan)
        → (y : List ℕ) × (b ≡ Some y) × IsCarriedOut h plan x y
    told_now a b x e both = TellsOn-some a b (IsCarriedOut h plan) x e both

-- a saying of which nothing has come yet
unsaid : (bytes image text : List ℕ) (c : Contents) → Stores image text c
    → during (SaysSome bytes) (Stores image text) c
unsaid bytes image text c stored = (c, stored, SaysSome-refl bytes c)

-- with more said the same is found
said_stores : (image text bytes : List ℕ) (x c : Contents) → Stores image text x → SaysSome bytes x c
    → c.said ≡ text ++ bytes → Stores image (text ++ bytes) c
said_stores image text bytes x c stored some said =
    let to = stored.recovers in record {
      recovers = record {
        found = to.found;
        recovers = ap (λ (y : Contents). recovered y.db y.images) some.1 ∙ to.recovers;
        same = to.same;
      };
      said = said;
    }

module _ {H : Type 0} (told : H → Option Contents) (moment : H → ℕ) (left_since : H → ℕ → Contents → Type 0)
    (longer : (host : H) (t u : ℕ) (c : Contents) → t ≤ u → left_since host u c → left_since host t c) where
  -- an image that is stored stays so while no other one is
  pub stays_stored : (old new : H) (image text : List ℕ) → IsStored moment left_since image text old
      → KeepsOrStores moment left_since image text old new → LeavesOnly moment left_since old new (Stores image text)
  stays_stored old new image text stored =
      weaker moment left_since old new (λ c. AsBefore moment left_since old c ⊎ Stores image text c) (Stores image text)
      (λ c. ⊎_elim
      (λ (kept : AsBefore moment left_since old c).
      stores_then moment left_since longer image text (left_since old (moment old)) c stored kept)
      (λ (own : Stores image text c). own))

  -- what each crash leaves at the end of a stretch of time
  pub each_now : (old new : H) (P : Contents → Type 0) → LeavesOnly moment left_since old new P
      → EachLeft moment left_since new P
  each_now old new P only c left = only.each c (longer new (moment old) (moment new) c only.later left)

  -- A call goes on with an image that is stored.
  pub stored_on : (old mid : UnitsState H) (new : H) → image_of mid ≡ image_of old
      → TellsOn (told old.host) (told mid.host) (λ c d. d.said ≡ c.said)
      → WhereTold told mid (λ d image. KeepsOrStores moment left_since image d.said mid.host new)
      → (c : Contents) → told old.host ≡ Some c → (image : List ℕ) → image_of old ≡ Some image
      → LeavesOnly moment left_since old.host mid.host (Stores image c.said)
      → LeavesOnly moment left_since old.host new (Stores image c.said)
  stored_on old mid new same said next c tells image is first =
      let at = TellsOn-some (told old.host) (told mid.host) (λ x y. y.said ≡ x.said) c tells said in
      let keeps : KeepsOrStores moment left_since image c.said mid.host new =
      subst (λ text. KeepsOrStores moment left_since image text mid.host new) at.2 (next at.0 at.1 image (same ∙ is)) in
      then_more moment left_since old.host mid.host new (Stores image c.said) first
      (stays_stored mid.host new image c.said (each_now old.host mid.host (Stores image c.said) first) keeps)

  first_two : (old : H) (a b text : List ℕ) (c : Contents) → AsBefore moment left_since old c ⊎ Stores a text c
      → AsBefore moment left_since old c ⊎ Stores a text c ⊎ Stores b text c
  first_two old a b text c =
      ⊎_elim (λ (kept : AsBefore moment left_since old c). inl kept) (λ (own : Stores a text c). inr (inl own))

  -- One image is one of two.
  pub one_of : (old mid : H) (a b text : List ℕ) → KeepsOrStores moment left_since a text old mid
      → LeavesOnly moment left_since old mid
      (λ c. AsBefore moment left_since old c ⊎ Stores a text c ⊎ Stores b text c)
  one_of old mid a b text =
      weaker moment left_since old mid (λ c. AsBefore moment left_since old c ⊎ Stores a text c)
      (λ c. AsBefore moment left_since old c ⊎ Stores a text c ⊎ Stores b text c) (λ c. first_two old a b text c)

  -- One of two images, after one call and the next.
  pub or_or : (old mid new : H) (a b text : List ℕ) → KeepsOrStores moment left_since a text old mid
      → KeepsOrStores moment left_since b text mid new
      → LeavesOnly moment left_since old new
      (λ c. AsBefore moment left_since old c ⊎ Stores a text c ⊎ Stores b text c)
  or_or old mid new a b text first second =
      let P : Contents → Type 0 = λ c. AsBefore moment left_since old c ⊎ Stores a text c ⊎ Stores b text c in
      let each : (c : Contents) → left_since mid (moment mid) c → AsBefore moment left_since old c ⊎ Stores a text c =
      λ c left. first.each c (longer mid (moment old) (moment mid) c first.later left) in
      then_more moment left_since old mid new P (one_of old mid a b text first)
      (weaker moment left_since mid new (λ c. AsBefore moment left_since mid c ⊎ Stores b text c) P
      (λ c. ⊎_elim
      (λ (kept : AsBefore moment left_since mid c).
      first_two old a b text c
      (either_then moment left_since longer old a text (left_since mid (moment mid)) c each kept))
      (λ (own : Stores b text c). inr (inr own))) second)

  -- ---- The whole way.

  module _ (old : H) (before : Contents) (file next bytes : List ℕ) where
    abbrev pub OnTheWay : Contents → Type 0
    OnTheWay = IsOnTheWay moment left_since old before file next bytes

    pub way_begun : (mid : H)
        → LeavesOnly moment left_since old mid (λ c. AsBefore moment left_since old c
        ⊎ Stores (database_of file) before.said c ⊎ Stores next before.said c)
        → LeavesOnly moment left_since old mid OnTheWay
    way_begun mid =
        weaker moment left_since old mid (λ c. AsBefore moment left_since old c
        ⊎ Stores (database_of file) before.said c ⊎ Stores next before.said c) OnTheWay
        (λ c. ⊎_elim (λ (kept : AsBefore moment left_since old c). inl kept)
        (⊎_elim (λ (own : Stores (database_of file) before.said c). inr (inl own))
        (λ (own : Stores next before.said c). inr (inr (unsaid bytes next before.said c own)))))

    pub way_stored : (mid new : H) → LeavesOnly moment left_since old mid OnTheWay
        → LeavesOnly moment left_since mid new (Stores next before.said)
        → LeavesOnly moment left_since old new OnTheWay
    way_stored mid new first second =
        then_more moment left_since old mid new OnTheWay first
        (weaker moment left_since mid new (Stores next before.said) OnTheWay
        (λ c own. inr (inr (unsaid bytes next before.said c own))) second)

    pub way_said : (mid new : H) → LeavesOnly moment left_since old mid OnTheWay
        → IsStored moment left_since next before.said mid → KeepsSaying moment left_since bytes mid new
        → LeavesOnly moment left_since old new OnTheWay
    way_said mid new first stored saying_it =
        then_more moment left_since old mid new OnTheWay first
        (weaker moment left_since mid new (during (SaysSome bytes) (AsBefore moment left_since mid)) OnTheWay
        (λ c is. inr (inr (
          is.0,
          stores_then moment left_since longer next before.said
              (left_since mid (moment mid)) is.0
              stored is.1,
          is.2,
        ))) saying_it)

    pub stored_said : (mid new : H) → IsStored moment left_since next before.said mid
        → KeepsSaying moment left_since bytes mid new
        → ((c : Contents) → left_since new (moment new) c → c.said ≡ before.said ++ bytes)
        → IsStored moment left_since next (before.said ++ bytes) new
    stored_said mid new stored saying_it said c left =
        let is = each_now mid new (during (SaysSome bytes) (AsBefore moment left_since mid)) saying_it c left in
        said_stores next before.said bytes is.0 c
        (stores_then moment left_since longer next before.said (left_since mid (moment mid)) is.0 stored is.1) is.2
        (said c left)
