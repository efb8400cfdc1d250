-- Images laid back, call by call.
use Rattle.std.proofs.Common.{◌≡◌, ℕ, suc, ◌+◌, ◌-◌, ◌<◌, ◌≤◌, List, [], ◌∷◌, length, drop, get_or, Option, None, Some}
use Rattle.std.proofs.Common.{sym, ap, ◌∙◌, arith}
use Rattle.std.specs.Option.{ForSome}
use Rattle.std.specs.Prelude.{All}
use Rattle.std.proofs.Math.Seq.{drop-cons}
use Rattle.std.proofs.lemmas.List.Elements.{All-drop}
use Rattle.std.proofs.lemmas.Option.{same_Some}
use Rattle.host_model.specs.declared.host.FileNo.TheVariants.{Db}
use Rattle.host_model.specs.Disk.{Changes, Torn, written}
use Rattle.host_model.specs.Failures.{Failures}
use Rattle.host_model.specs.Files.{Contents, with_file}
use Rattle.gds_images.specs.declared.chain.Place.{Place}
use Rattle.gds_images.specs.Chain.{bytes_of}
use Rattle.gds_images.specs.Recovered.{laid}
use Rattle.gds_images.proofs.LaidLemmas.{length-laid}
use Rattle.gds_recovery.specs.Steps.{IsWithin, LaysOver, WasChangedBy}
use Rattle.gds_recovery.proofs.OverLemmas.{IsCovered-one, LaysOver-more, LaysOver-then, torn-LaysOver}
use Rattle.gds_recovery.proofs.WorkLemmas.{Changes-then, changed_then, was_told}

-- What is told now was told before with other bytes in the database file.
pub was_laid : (old new : Option Contents) (bytes : Contents → List ℕ) (now : Contents) → (old ≡ None → new ≡ None)
    → ForSome old (λ c. new ≡ Some (with_file Db (bytes c) c)) → new ≡ Some now
    → (c : Contents) × (old ≡ Some c) × (now ≡ with_file Db (bytes c) c)
was_laid old new bytes now untold laid tells =
    let was = was_told old new now untold tells in
    (was.0, was.1, same_Some now (with_file Db (bytes was.0) was.0) (sym tells ∙ laid was.0 was.1))

-- The files with some images laid over are as long as before, so that the others lie within them too.
pub within_laid : (c : Contents) (places : List Place) (n : ℕ) (place : Place) → All (IsWithin c) places
    → IsWithin c place → IsWithin (with_file Db (laid c.images (drop n places) c.db) c) place
within_laid c places n place all within =
    let rest : All (λ p. p.at + p.len ≤ length c.db) (drop n places) =
    λ k d lt. (All-drop (IsWithin c) n places all k d lt).db in
    let same = length-laid c.images (drop n places) c.db rest in
    let low = within.db in
    record { db = omega arith; images = within.images }

-- one image more
pub laid_one_more : (images db : List ℕ) (places : List Place) (n : ℕ) (d : Place) → 0 < n → n ≤ length places
    → written (get_or places (n - 1) d).at (bytes_of images (get_or places (n - 1) d)) (laid images (drop n places) db)
    ≡ laid images (drop (n - 1) places) db
laid_one_more images db places n d some within =
    let next : suc (n - 1) ≡ n = omega arith in
    let split : drop (n - 1) places ≡ get_or places (n - 1) d ∷ drop n places =
    drop-cons places (n - 1) d (omega arith) ∙ ap (λ k. get_or places (n - 1) d ∷ drop k places) next in
    sym (ap (λ some. laid images some db) split)

module _ {H : Type 0} {contents : H → Option Contents} {moment : H → ℕ} {counts : H → Failures}
    {left_since : H → ℕ → Contents → Type 0}
    (longer : (host : H) (t u : ℕ) (c : Contents) → t ≤ u → left_since host u c → left_since host t c) where
  -- a piece more
  pub laid_piece : {old mid new : H} (place : Place) (at n : ℕ) → place.at ≤ at → at + n ≤ place.at + place.len
      → WasChangedBy contents moment counts left_since (Changes Db (LaysOver (place ∷ []))) old mid
      → WasChangedBy contents moment counts left_since (Changes Db (Torn at n)) mid new
      → WasChangedBy contents moment counts left_since (Changes Db (LaysOver (place ∷ []))) old new
  laid_piece place at n from to first second =
      changed_then longer (Changes Db (LaysOver (place ∷ []))) first second (λ x y r. r)
      (λ x y z r s. Changes-then Db (LaysOver (place ∷ [])) (Torn at n) (LaysOver (place ∷ [])) x y z
      (λ a b. LaysOver-then (place ∷ []) x.db y.db z.db a (torn-LaysOver place at n y.db z.db from to b)) r s)

  -- an image more
  pub laid_image : {old mid new : H} (places : List Place) (k : ℕ) (d : Place) → k < length places
      → WasChangedBy contents moment counts left_since (Changes Db (LaysOver places)) old mid
      → WasChangedBy contents moment counts left_since (Changes Db (LaysOver (get_or places k d ∷ []))) mid new
      → WasChangedBy contents moment counts left_since (Changes Db (LaysOver places)) old new
  laid_image places k d lt first second =
      let one = LaysOver (get_or places k d ∷ []) in
      changed_then longer (Changes Db (LaysOver places)) first second (λ x y r. r)
      (λ x y z r s. Changes-then Db (LaysOver places) one (LaysOver places) x y z
      (λ a b. LaysOver-then places x.db y.db z.db a
      (LaysOver-more (get_or places k d ∷ []) places y.db z.db (IsCovered-one places k d lt) b)) r s)
