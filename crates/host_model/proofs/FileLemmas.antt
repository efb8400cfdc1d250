-- Files and contents that a step leaves as they were, and contents that are the same.
use Rattle.std.proofs.Common.{◌≡◌, ℕ, ◌+◌, ◌-◌, ◌<◌, ◌≤◌, min, List, [], ◌++◌, length, take, drop, slice_index}
use Rattle.std.proofs.Common.{refl, arith, sym, ap, ◌∙◌, append-nil, length-take, length-drop, length-append}
use Rattle.std.proofs.Common.{get_or-take, get_or-drop}
use Rattle.std.proofs.lemmas.List.{get_or-append_right, get_or_append_left}
use Rattle.host_model.specs.declared.host.FileNo.{FileNo}
use Rattle.host_model.specs.declared.host.FileNo.TheVariants.{Db, Images}
use Rattle.host_model.specs.Files.{Contents, file_of, saying, with_file}
use Rattle.host_model.specs.Disk.{Changes, Cut, SaysSome, Torn, written}

-- a write that wasn't begun is a torn one
pub Torn-refl : (at n : ℕ) (file : List ℕ) → Torn at n file file
Torn-refl at n file = record {
  no_shorter = omega arith;
  no_longer = omega arith;
  before = λ i _ _. refl;
  behind = λ i _ _. refl;
}

-- and so is a cut
pub Cut-refl : (n : ℕ) (file : List ℕ) → Cut n file file
Cut-refl n file = record { no_shorter = omega arith; no_longer = omega arith; below = λ i _ _. refl }

-- a step that changes no file
pub Changes-refl : (file : FileNo) (R : List ℕ → List ℕ → Type 0) → ((bytes : List ℕ) → R bytes bytes)
    → (c : Contents) → Changes file R c c
Changes-refl file R same c = record { changed = same (file_of c file); other = λ f e. refl; said = refl }

-- contents with the same files, and the same said
pub contents_agree : (a b : Contents) → a.db ≡ b.db → a.images ≡ b.images → a.said ≡ b.said → a ≡ b
contents_agree a b db images said = λ i. record { db = db i; images = images i; said = said i }

-- with other bytes in one file
pub file_changed : (file : FileNo) {R : List ℕ → List ℕ → Type 0} (bytes : List ℕ) (old new : Contents)
    → Changes file R old new → file_of new file ≡ bytes → new ≡ with_file file bytes old
file_changed Db bytes old new changes is =
    contents_agree new (with_file Db bytes old) is (changes.other Images (λ e. cc)) changes.said
file_changed Images bytes old new changes is =
    contents_agree new (with_file Images bytes old) (changes.other Db (λ e. cc)) is changes.said

-- nothing was said
pub SaysSome-refl : (bytes : List ℕ) (c : Contents) → SaysSome bytes c c
SaysSome-refl bytes c = (0, contents_agree c (saying c []) refl refl (sym (append-nil c.said)))

pub length-written : (at : ℕ) (bytes file : List ℕ)
    → length (written at bytes file) ≡ min at (length file) + length bytes + (length file - (at + length bytes))
length-written at bytes file = simp (length-append, length-take, length-drop)

pub written-before : (at : ℕ) (bytes file : List ℕ) (i : ℕ) → i < length file → i < at
    → slice_index (written at bytes file) i ≡ slice_index file i
written-before at bytes file i within lt =
    let short : i < length (take at file) = simp length-take (omega arith) in
    let longer : i < length (take at file ++ bytes) = simp (length-append, length-take) (omega arith) in
    get_or_append_left (take at file ++ bytes) (drop (at + length bytes) file) 0 i longer
    ∙ get_or_append_left (take at file) bytes 0 i short ∙ get_or-take at file i 0 lt

pub written-behind : (at : ℕ) (bytes file : List ℕ) (i : ℕ) → i < length file → at + length bytes ≤ i
    → slice_index (written at bytes file) i ≡ slice_index file i
written-behind at bytes file i within le =
    let front : length (take at file ++ bytes) ≡ at + length bytes = simp (length-append, length-take) (omega arith) in
    let same : at + length bytes + (i - (at + length bytes)) ≡ i = omega arith in
    get_or-append_right (take at file ++ bytes) (drop (at + length bytes) file) (at + length bytes) i 0 front le
    ∙ get_or-drop (at + length bytes) file (i - (at + length bytes)) 0 ∙ ap (λ k. slice_index file k) same

-- a write that is made is among the torn ones
pub written-Torn : (at : ℕ) (bytes file : List ℕ) → Torn at (length bytes) file (written at bytes file)
written-Torn at bytes file = record {
  no_shorter = omega (arith, length-written at bytes file);
  no_longer = omega (arith, length-written at bytes file);
  before = λ i within lt. written-before at bytes file i within lt;
  behind = λ i within le. written-behind at bytes file i within le;
}

-- and a cut that is made among those that may have happened
pub take-Cut : (n : ℕ) (file : List ℕ) → Cut n file (take n file)
take-Cut n file = record {
  no_shorter = omega (arith, length-take n file);
  no_longer = omega (arith, length-take n file);
  below = λ i lt within. get_or-take n file i 0 lt;
}
