-- Which of some maps the next opening finds, through calls that keep or store an image.
use Rattle.std.proofs.Common.{◌≡◌, ◌⊎◌, ℕ, ◌≤◌, List, ◌++◌, take, refl, sym, ap, subst, ⊎_elim}
use Rattle.host_model.specs.Disk.{SaysSome, during}
use Rattle.host_model.specs.Files.{Contents}
use Rattle.host_model.specs.Moments.{EachLeft, LeavesOnly}
use Rattle.host_model.proofs.MomentLemmas.{weaker}
use Rattle.m_key.specs.Globals.{Globals}
use Rattle.gds_images.specs.Outcome.{RecoversAsBefore}
use Rattle.gds_sound.specs.Stands.{StandsFor}
use Rattle.gds_units.specs.Durable.{AsBefore, IsStored, Keeps, KeepsOrStores, KeepsSaying, KeptAllOrStored, Stores}
use Rattle.gds_base.specs.Finds.{Finds}
use Rattle.gds_base.proofs.FindsLemmas.{found_again, found_stands}
use Rattle.gds_script.specs.Finding.{FindsOne}

-- a map of a kind, and one of a wider kind
pub found_wider : (P Q : Globals → Type 0) (text : List ℕ) (c : Contents) → ((m : Globals) → P m → Q m)
    → FindsOne P text c → FindsOne Q text c
found_wider P Q text c wider found = record { map = found.map; has = wider found.map found.has; finds = found.finds }

pub found_as : (P : Globals → Type 0) (m : Globals) (text : List ℕ) (c : Contents) → P m → Finds m text c
    → FindsOne P text c
found_as P m text c has finds = record { map = m; has = has; finds = finds }

pub one_found_stored : (P : Globals → Type 0) (m : Globals) (image text : List ℕ) (c : Contents) → StandsFor image m
    → P m → Stores image text c → FindsOne P text c
one_found_stored P m image text c stands has stored =
    found_as P m text c has (found_stands m image text c stands stored.recovers stored.said)

-- What was found at an earlier moment is found again: of that outcome alone.
again_of : (m : Globals) (text : List ℕ) (before : Contents → Type 0) (c : Contents)
    → (kept : RecoversAsBefore before c) → Finds m text kept.earlier → Finds m text c
again_of m text before c kept finds =
    found_again m text (λ d. d ≡ kept.earlier) c (λ d same. subst (λ e. Finds m text e) (sym same) finds)
    (record {
      earlier = kept.earlier;
      was_left = refl;
      found = kept.found;
      recovered_then = kept.recovered_then;
      recovers = kept.recovers;
      said = kept.said;
    })

pub one_found_again : (P : Globals → Type 0) (text : List ℕ) (before : Contents → Type 0) (c : Contents)
    → ((d : Contents) → before d → FindsOne P text d) → RecoversAsBefore before c → FindsOne P text c
one_found_again P text before c each kept =
    let earlier = each kept.earlier kept.was_left in
    found_as P earlier.map text c earlier.has (again_of earlier.map text before c kept earlier.finds)

-- Some of the bytes were said, too.
abbrev pub FindsSaying : (P : Globals → Type 0) → (text bytes : List ℕ) → Contents → Type 0
FindsSaying P text bytes c = (n : ℕ) × FindsOne P (text ++ take n bytes) c

said_more : (m : Globals) (text bytes : List ℕ) (d : Contents) (n : ℕ) → Finds m text d
    → Finds m (text ++ take n bytes) (record d { said = d.said ++ take n bytes })
said_more m text bytes d n finds = record {
  image = finds.image;
  recovers = finds.recovers;
  stands = finds.stands;
  said = ap (λ front. front ++ take n bytes) finds.said;
}

pub one_found_saying : (P : Globals → Type 0) (text bytes : List ℕ) (before : Contents → Type 0) (c : Contents)
    → ((d : Contents) → before d → FindsOne P text d) → during (SaysSome bytes) (RecoversAsBefore before) c
    → FindsSaying P text bytes c
one_found_saying P text bytes before c each is =
    let found = one_found_again P text before is.0 each is.1 in
    let n : ℕ = is.2.0 in (
      n,
      found_as P found.map (text ++ take n bytes) c found.has
          (subst (λ x. Finds found.map (text ++ take n bytes) x) (sym is.2.1)
          (said_more found.map text bytes is.0 n found.finds)),
    )

module _ {H : Type 0} (moment : H → ℕ) (left_since : H → ℕ → Contents → Type 0) (old new : H) where
  pub one_still : (P : Globals → Type 0) (text : List ℕ) → EachLeft moment left_since old (FindsOne P text)
      → Keeps moment left_since old new → LeavesOnly moment left_since old new (FindsOne P text)
  one_still P text each =
      weaker moment left_since old new (AsBefore moment left_since old) (FindsOne P text)
      (λ c kept. one_found_again P text (left_since old (moment old)) c each kept)

  pub one_still_saying : (P : Globals → Type 0) (text bytes : List ℕ)
      → EachLeft moment left_since old (FindsOne P text) → KeepsSaying moment left_since bytes old new
      → LeavesOnly moment left_since old new (FindsSaying P text bytes)
  one_still_saying P text bytes each =
      weaker moment left_since old new (during (SaysSome bytes) (AsBefore moment left_since old))
      (FindsSaying P text bytes)
      (λ c is. one_found_saying P text bytes (left_since old (moment old)) c each is)

  pub one_kept_or_stored : (P : Globals → Type 0) (next : Globals) (image text : List ℕ)
      → EachLeft moment left_since old (FindsOne P text) → StandsFor image next → P next
      → KeepsOrStores moment left_since image text old new
      → LeavesOnly moment left_since old new (FindsOne P text)
  one_kept_or_stored P next image text each stands has =
      weaker moment left_since old new (λ c. AsBefore moment left_since old c ⊎ Stores image text c) (FindsOne P text)
      (λ c. ⊎_elim
      (λ (kept : AsBefore moment left_since old c). one_found_again P text (left_since old (moment old)) c each kept)
      (λ (own : Stores image text c). one_found_stored P next image text c stands has own))

  pub one_stored : (P : Globals → Type 0) (next : Globals) (image text : List ℕ) → StandsFor image next → P next
      → IsStored moment left_since image text new → EachLeft moment left_since new (FindsOne P text)
  one_stored P next image text stands has stored c left =
      one_found_stored P next image text c stands has (stored c left)

  pub one_kept_all_or_stored : (P : Globals → Type 0) (next : Globals) (image text : List ℕ)
      → EachLeft moment left_since old (FindsOne P text) → StandsFor image next → P next
      → KeptAllOrStored moment left_since image text old new → EachLeft moment left_since new (FindsOne P text)
  one_kept_all_or_stored P next image text each stands has =
      ⊎_elim
      (λ (kept : EachLeft moment left_since new (AsBefore moment left_since old)).
      λ c left. one_found_again P text (left_since old (moment old)) c each (kept c left))
      (λ (stored : IsStored moment left_since image text new). one_stored P next image text stands has stored)

  -- what a crash now leaves is among what one since then might have left
  pub one_now : (P : Globals → Type 0) (text : List ℕ)
      → ((host : H) (t u : ℕ) (c : Contents) → t ≤ u → left_since host u c → left_since host t c)
      → LeavesOnly moment left_since old new (FindsOne P text) → EachLeft moment left_since new (FindsOne P text)
  one_now P text longer only c left = only.each c (longer new (moment old) (moment new) c only.later left)
