-- What is recovered of files at rest.
use Rattle.std.proofs.Common.{◌≡◌, ℕ, ◌<◌, ◌≤◌, List, [], length, take, Option, None, Some, Ok}
use Rattle.std.proofs.Common.{refl, sym, ap, ◌∙◌, ⊎_elim, arith, lit≤, length-take, true, false, cond, leb, ltb}
use Rattle.std.proofs.Common.{get_or-take}
use Rattle.std.specs.Prelude.{nat_eq, slice_index}
use Rattle.std.specs.List.{starts_with}
use Rattle.std.specs.Cmp.Lexicographic.{pointwise}
use Rattle.std.proofs.lemmas.Bool.{cases_lt, le-ltb, le-leb}
use Rattle.std.proofs.lemmas.List.{take-take}
use Rattle.gds_header.specs.Fields.{file_length_of, image_length}
use Rattle.gds_header.specs.Kinds.{ending_kind, unreadable}
use Rattle.gds_header.specs.declared.kind.HeaderKind.{HeaderKind}
use Rattle.gds_header.specs.declared.kind.HeaderKind.TheVariants.{ShortFile}
use Rattle.gds_header.proofs.EndingLemmas.{ending_kind-short, ending_kind-readable, ending_kind-unreadable}
use Rattle.gds_header.proofs.EndingLemmas.{fields_of-front}
use Rattle.gds_images.specs.Chain.{chain_of, first_gate, label}
use Rattle.gds_images.specs.Laws.{RestIsFound}
use Rattle.gds_images.specs.Outcome.{IsClosed, IsWhole}
use Rattle.gds_images.specs.Recovered.{recovered, recovered_by, trimmed, trimmed_by}

pub none_of : (o : Option HeaderKind) → ((kind : HeaderKind) → o ≡ Some kind → ⊥) → o ≡ None
none_of None never = refl
none_of (Some kind) never = absurd (never kind refl)

-- a whole database has a header that can be read
module _ (image : List ℕ) (whole : IsWhole image) where
  header_fits : 8192 ≤ length image
  header_fits = ⊎_elim
      (λ (short : length image < 8192).
      let e = sym (ending_kind-short image short) ∙ whole.readable in let no : ⊥ = cc in absurd no)
      (λ (long : 8192 ≤ length image). long)
      (cases_lt (length image) 8192)

  front_is_header : length (take 8192 image) ≡ 8192
  front_is_header = omega (arith, length-take 8192 image, header_fits)

  pub front_readable : unreadable (take 8192 image) ≡ None
  front_readable = none_of (unreadable (take 8192 image)) (λ kind e.
      let bad = ending_kind-unreadable image (take 8192 image) refl front_is_header kind e in
      let both = sym bad ∙ whole.readable in let no : ⊥ = cc in no)

  front_length : image_length (take 8192 image) ≡ length image
  front_length = ap file_length_of (fields_of-front 8192 image (lit≤ tt)) ∙ whole.len

  -- A file that begins with it is cut to it.
  module _ (file : List ℕ) (begins : take (length image) file ≡ image) where
    pub file_longer : length image ≤ length file
    file_longer = omega (arith, length-take (length image) file, ap length begins)

    pub same_front : take 8192 file ≡ take 8192 image
    same_front = sym (take-take 8192 (length image) file header_fits) ∙ ap (take 8192) begins

    file_readable : ending_kind file ≡ None
    file_readable =
        let ending = ending_kind-readable file (take 8192 image) same_front front_is_header front_readable in
        let long : ltb (length file) (image_length (take 8192 image)) ≡ false =
        le-ltb _ _ (let e = front_length in let l = file_longer in omega arith) in
        ending ∙ ap (λ t. cond t (Some ShortFile) None) long

    pub file_length : image_length file ≡ length image
    file_length =
        ap file_length_of (sym (fields_of-front 8192 file (lit≤ tt)))
        ∙ ap image_length same_front ∙ front_length

    pub trimmed_front : trimmed file ≡ image
    unfolding trimmed
    trimmed_front =
        ap (λ kind. trimmed_by kind file) file_readable ∙ ap (λ n. take n file) file_length ∙ begins

-- A closed file has no images.
pub closed_chain : (images : List ℕ) (n : ℕ) → IsClosed images
    → chain_of images n ≡ Ok (record { epoch_length = 0; images = []; next_gate = first_gate })
unfolding chain_of
closed_chain images n closed =
    let starts : starts_with nat_eq images label ≡ true =
    ap (pointwise nat_eq label) (sym (take-take 8 9 images (lit≤ tt)) ∙ ap (take 8) closed) in
    let whole : leb 9 (length images) ≡ true = le-leb _ _ (omega (arith, length-take 9 images, ap length closed)) in
    let gate : slice_index images 8 ≡ 0 =
    sym (get_or-take 9 images 8 0 (omega arith)) ∙ ap (λ xs. slice_index xs 8) closed in
    rw (starts, whole, gate)

pub rest_found : RestIsFound
unfolding recovered
rest_found image c rest =
    ap (recovered_by c.db c.images) (closed_chain c.images (length c.db) rest.closed)
    ∙ ap Some (trimmed_front image rest.whole c.db rest.front)
