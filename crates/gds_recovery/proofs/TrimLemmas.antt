-- A database file that is longer than its header says, and what an opening finds of it while it is cut.
use Rattle.std.proofs.Common.{◌≡◌, ℕ, ◌<◌, ◌≤◌, cond, ltb, false, true, List, length, take}
use Rattle.std.proofs.Common.{None, Some, refl, sym, ap, subst, ◌∙◌, arith, lit≤, length-take, get_or-take}
use Rattle.std.proofs.lemmas.Bool.{le-ltb, lt-ltb}
use Rattle.std.proofs.lemmas.List.{ext_get_or, take-take, take_all}
use Rattle.std.proofs.lemmas.Option.{same_Some}
use Rattle.host_model.specs.declared.host.FileNo.TheVariants.{Db, Images}
use Rattle.host_model.specs.Disk.{Changes, Cut}
use Rattle.host_model.specs.Files.{Contents, with_file}
use Rattle.gds_header.specs.Fields.{fields_of, file_length_of, image_length}
use Rattle.gds_header.specs.Kinds.{ending_kind, unreadable}
use Rattle.gds_header.specs.declared.header.Header.{Header}
use Rattle.gds_header.specs.declared.kind.HeaderKind.TheVariants.{ShortFile, ShortHeader}
use Rattle.gds_header.proofs.EndingLemmas.{ending_kind-readable, ending_kind-short, ending_kind-unreadable}
use Rattle.gds_header.proofs.EndingLemmas.{fields_of-front}
use Rattle.gds_images.specs.Outcome.{IsAtRest, IsClosed, IsWhole}
use Rattle.gds_images.specs.Recovered.{recovered, recovered_by, trimmed, trimmed_by}
use Rattle.gds_images.proofs.RestLemmas.{closed_chain, none_of, rest_found}
use Rattle.gds_recovery.specs.Found.{EndsReading, FindsSame, IsOpened, IsUnreadable}
use Rattle.gds_recovery.specs.Steps.{IsReadable}
use Rattle.gds_recovery.proofs.FoundLemmas.{closed_again, closed_byte, finds_file}

-- ---- What is read of the header.

-- the header of a file that begins with these bytes
pub read_readable : (header : Header) (front file : List ℕ) → take 8192 file ≡ front → header ≡ fields_of front
    → ending_kind file ≡ cond (ltb (length file) (file_length_of header)) (Some ShortFile) None
    → file_length_of header ≤ length file → IsReadable header file
read_readable header front file begins fields ends long =
    let enough : ltb (length file) (file_length_of header) ≡ false = le-ltb _ _ long in
    record {
      none = ends ∙ ap (λ t. cond t (Some ShortFile) None) enough;
      fields = fields ∙ ap fields_of (sym begins) ∙ fields_of-front 8192 file (lit≤ tt);
      long = long;
    }

pub read_short : (header : Header) (file : List ℕ)
    → ending_kind file ≡ cond (ltb (length file) (file_length_of header)) (Some ShortFile) None
    → length file < file_length_of header → IsUnreadable file
read_short header file ends short =
    let less : ltb (length file) (file_length_of header) ≡ true = lt-ltb _ _ short in
    record { kind = ShortFile; ends = ends ∙ ap (λ t. cond t (Some ShortFile) None) less }

pub short_unreadable : (file : List ℕ) → length file < 8192 → IsUnreadable file
short_unreadable file short = record { kind = ShortHeader; ends = ending_kind-short file short }

-- An opening of closed files finds the database as it is where its header can't be read.
pub ends_reading : (c : Contents) → IsClosed c.images → IsUnreadable c.db → EndsReading c
unfolding recovered trimmed
ends_reading c closed bad = record {
  file = c.db;
  found = ap (recovered_by c.db c.images) (closed_chain c.images (length c.db) closed)
      ∙ ap (λ kind. Some (trimmed_by kind c.db)) bad.ends;
  unreadable = bad;
}

-- ---- What is trimmed.

module _ (header : Header) (file : List ℕ) (readable : IsReadable header file) where
  length-image : length (take (file_length_of header) file) ≡ file_length_of header
  length-image = let long = readable.long in omega (arith, length-take (file_length_of header) file)

  header_same : fields_of (take (file_length_of header) file) ≡ header
  header_same = fields_of-front (file_length_of header) file (omega arith) ∙ sym readable.fields

  -- The front of the file that its header says is a whole database.
  pub trimmed_whole : IsWhole (take (file_length_of header) file)
  trimmed_whole =
      let n = file_length_of header in
      let long = readable.long in
      let front = take 8192 file in
      let front_long : length front ≡ 8192 = omega (arith, length-take 8192 file) in
      let begins : take 8192 (take n file) ≡ front = take-take 8192 n file (omega arith) in
      let fine : unreadable front ≡ None =
      none_of (unreadable front) (λ kind e.
      let bad = ending_kind-unreadable file front refl front_long kind e in
      let both = sym bad ∙ readable.none in let no : ⊥ = cc in no) in
      let same : image_length front ≡ n =
      ap file_length_of (fields_of-front 8192 file (lit≤ tt) ∙ sym readable.fields) in
      let enough : ltb (length (take n file)) (image_length front) ≡ false =
      le-ltb _ _ (omega (arith, length-image)) in
      record {
        readable = ending_kind-readable (take n file) front begins front_long fine
            ∙ ap (λ t. cond t (Some ShortFile) None) enough;
        len = ap file_length_of header_same ∙ sym length-image;
      }

module _ (header : Header) (c : Contents) (closed : IsClosed c.images) (readable : IsReadable header c.db) where
  at_rest : (d : Contents) → d.images ≡ c.images → take (file_length_of header) d.db ≡ take (file_length_of header) c.db
      → IsAtRest (take (file_length_of header) c.db) d
  at_rest d images front = record {
    closed = ap (take 9) images ∙ closed;
    whole = trimmed_whole header c.db readable;
    front = ap (λ n. take n d.db) (length-image header c.db readable) ∙ front;
  }

  found_trimmed : recovered c.db c.images ≡ Some (take (file_length_of header) c.db)
  found_trimmed = rest_found (take (file_length_of header) c.db) c (at_rest c refl refl)

  -- while it is cut
  pub trim_found : (d : Contents) → Changes Db (Cut (file_length_of header)) c d → FindsSame c d
  trim_found d step =
      let n = file_length_of header in
      let is_cut = step.changed in
      let long = readable.long in
      let reaches : n ≤ length d.db = omega (arith, is_cut.no_shorter) in
      let lengths : length (take n d.db) ≡ length (take n c.db) =
      omega (arith, length-take n d.db, length-take n c.db) in
      let front : take n d.db ≡ take n c.db =
      ext_get_or 0 (take n d.db) (take n c.db) lengths
      (λ i lt.
      let low : i < n = omega (arith, length-take n d.db) in
      get_or-take n d.db i 0 low ∙ is_cut.below i low (omega arith) ∙ sym (get_or-take n c.db i 0 low)) in
      finds_file c d (take n c.db) found_trimmed
      (rest_found (take n c.db) d (at_rest d (step.other Images (λ e. cc)) front)) step.said

  pub trim_opened : IsOpened c header (with_file Db (take (file_length_of header) c.db) c)
  trim_opened = record {
    found = found_trimmed;
    whole = trimmed_whole header c.db readable;
    fields = sym (header_same header c.db readable);
    images = sym (closed_again c.images (closed_byte c.images closed));
    closed = closed;
  }

  -- where nothing has to be cut
  pub whole_opened : length c.db ≤ file_length_of header → IsOpened c header c
  whole_opened short =
      let all : take (file_length_of header) c.db ≡ c.db = take_all (file_length_of header) c.db short in
      record {
        found = found_trimmed ∙ ap Some all;
        whole = subst IsWhole all (trimmed_whole header c.db readable);
        fields = readable.fields;
        images = sym (closed_again c.images (closed_byte c.images closed));
        closed = closed;
      }

  -- Where the file is the recovered one there is nothing to cut.
  pub trimmed_already : recovered c.db c.images ≡ Some c.db → length c.db ≤ file_length_of header
  trimmed_already found =
      let same : take (file_length_of header) c.db ≡ c.db =
      same_Some (take (file_length_of header) c.db) c.db (sym found_trimmed ∙ found) in
      omega (arith, ap length same, length-take (file_length_of header) c.db)
