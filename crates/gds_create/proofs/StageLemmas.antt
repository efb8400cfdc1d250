-- The files, write by write.
use Rattle.std.proofs.Common.{◌≡◌, ℕ, ◌+◌, ◌*◌, ◌≤◌, List, [], ◌++◌, length, take, drop, replicate, Option, None, Some}
use Rattle.std.proofs.Common.{Result, refl, sym, ap, subst, ◌∙◌, arith, append-nil, append_assoc, length-append}
use Rattle.std.proofs.Common.{length-drop, lit≤}
use Rattle.std.specs.Prelude.{IfSome}
use Rattle.std.specs.Option.{ForSome}
use Rattle.std.proofs.lemmas.List.{drop-append-le, take-append-drop, take_all, take-take}
use Rattle.std.proofs.Math.ListN.{drop_of_length-le}
use Rattle.host_model.specs.declared.host.FileNo.{FileNo}
use Rattle.host_model.specs.declared.host.FileNo.TheVariants.{Db, Images}
use Rattle.host_model.specs.Disk.{Changes, Settles, Torn, Writes, written}
use Rattle.host_model.specs.Failures.{Failures, NeverFell}
use Rattle.host_model.specs.Files.{Contents, file_of, with_file}
use Rattle.host_model.specs.Moments.{LeavesBy}
use Rattle.host_model.specs.Told.{TellsOn}
use Rattle.host_model.specs.Frames.{ChangedNothing}
use Rattle.host_model.proofs.FileLemmas.{Changes-refl}
use Rattle.host_model.proofs.FrameLemmas.{TellsOn-weaker, was_read}
use Rattle.host_model.proofs.MomentLemmas.{by_weaker, leaves_the_same}
use Rattle.host_model.proofs.OutcomeLemmas.{told_is, told_written}
use Rattle.gds_header.specs.declared.header.Header.{Header}
use Rattle.gds_header.specs.Fields.{header_bytes, label, zeros}
use Rattle.gds_header.specs.Kinds.{IsWithinLimits}
use Rattle.gds_images.specs.Chain.{label as images_label}
use Rattle.gds_new.specs.NewDatabase.{new_block, new_database, new_header}
use Rattle.gds_new.proofs.BlockLemmas.{length-new_block}
use Rattle.gds_new.proofs.HeaderLemmas.{new_header_long}
use Rattle.gds_new.proofs.PieceLemmas.{length-pieces}
use Rattle.gds_new.proofs.ReadLemmas.{front_read}
use Rattle.gds_recovery.specs.Steps.{WasChangedBy}
use Rattle.gds_recovery.proofs.WorkLemmas.{Changes-then, Changes-weaker, changed_read, changed_then, changed_weaker}
use Rattle.gds_create.specs.Blocks.{new_blocks}
use Rattle.gds_create.specs.Making.{AnyBytes, KeepsFirst}
use Rattle.gds_create.specs.Newborn.{closed_images}
use Rattle.gds_create.proofs.BlockLemmas.{blocks_more, blocks_none}

-- ---- What a host tells.

-- a write at the end of a file
written_behind : (end : ℕ) (bytes file : List ℕ) → length file ≡ end → written end bytes file ≡ file ++ bytes
written_behind end bytes file len =
    ap (λ xs. xs ++ bytes ++ drop (end + length bytes) file) (take_all end file (omega (arith, len)))
    ∙ ap (λ xs. file ++ bytes ++ xs) (drop_of_length-le file {i = end + length bytes} (omega (arith, len)))
    ∙ append-nil (file ++ bytes)

pub told_appended : (end : ℕ) (bytes : List ℕ) (old new : Option Contents) (c : Contents) → old ≡ Some c
    → length c.db ≡ end → TellsOn old new (Changes Db (λ old new. new ≡ written end bytes old))
    → new ≡ Some (with_file Db (c.db ++ bytes) c)
told_appended end bytes old new c tells len told =
    told_written Db end bytes old new c tells told
    ∙ ap (λ xs. Some (with_file Db xs c)) (written_behind end bytes c.db len)

-- What a sync has settled, of a host that tells this.
pub settled_is : (file : FileNo) (bytes : List ℕ) (told : Option Contents) (now : Contents)
    (left : Contents → Type 0) → told ≡ Some now → file_of now file ≡ bytes
    → IfSome told (λ c. Settles file (file_of c file) left) → Settles file bytes left
settled_is file bytes told now left tells is settled =
    subst (λ xs. Settles file xs left) is
    (told_is told now (λ x. Settles file (file_of x file) left) tells settled)

-- ---- What the files are.

-- zeros, and the label over them
pub images_done : (file : List ℕ) → file ≡ [] → written 0 images_label (written 0 (replicate 9 0) file) ≡ closed_images
images_done file empty = ap (λ xs. written 0 images_label (written 0 (replicate 9 0) xs)) empty

pub database_begun : (file : List ℕ) → file ≡ [] → written 0 (replicate 8 0) file ≡ zeros 8
unfolding zeros
database_begun file empty = ap (written 0 (replicate 8 0)) empty

parts : (h : Header) → new_database h ≡ header_bytes (new_header h) ++ new_blocks h 0 h.total
unfolding new_database new_blocks
parts h = refl

module _ (h : Header) (limits : IsWithinLimits h) where
  pub label_first : take 8 (new_database h) ≡ label
  unfolding header_bytes
  label_first = sym (take-take 8 8192 (new_database h) (lit≤ tt)) ∙ ap (take 8) (front_read h limits)

  -- what is written of the header's bytes
  pub header_rest : (bytes : List ℕ) → bytes ≡ header_bytes (new_header h)
      → take 8184 (drop 8 bytes) ≡ drop 8 (header_bytes (new_header h))
  header_rest bytes are =
      take_all 8184 (drop 8 bytes) (omega (arith, length-drop 8 bytes, ap length are, new_header_long h limits))
      ∙ ap (drop 8) are

  pub length-header_rest : (front : List ℕ) → length front ≡ 8
      → length (front ++ drop 8 (header_bytes (new_header h))) ≡ 8192
  length-header_rest front len =
      let bytes : List ℕ = header_bytes (new_header h) in
      omega (arith, len, length-append front (drop 8 bytes), length-drop 8 bytes, new_header_long h limits)

  -- the header and the blocks behind a front
  pub rest_done : (front : List ℕ)
      → (front ++ drop 8 (header_bytes (new_header h))) ++ new_blocks h 0 h.total ≡ front ++ drop 8 (new_database h)
  rest_done front =
      append_assoc front (drop 8 (header_bytes (new_header h))) (new_blocks h 0 h.total)
      ∙ ap (λ xs. front ++ xs) (sym rest)
    where
      rest : drop 8 (new_database h) ≡ drop 8 (header_bytes (new_header h)) ++ new_blocks h 0 h.total
      rest = ap (drop 8) (parts h)
          ∙ drop-append-le 8 (header_bytes (new_header h)) (new_blocks h 0 h.total)
          (omega (arith, new_header_long h limits))

  -- the label over the zeros before them
  pub database_done : written 0 label (zeros 8 ++ drop 8 (new_database h)) ≡ new_database h
  unfolding zeros
  database_done =
      ap (λ xs. xs ++ drop 8 (new_database h)) (sym label_first) ∙ take-append-drop 8 (new_database h)

  length-blocks : (n : ℕ) → length (new_blocks h 0 n) ≡ n * h.block_size
  unfolding new_blocks
  length-blocks n = length-pieces (new_block h) h.block_size (length-new_block h (omega arith)) 0 n

  -- the blocks so far, behind the header
  pub blocks_long : (front : List ℕ) (n : ℕ) → length front ≡ 8192
      → length (front ++ new_blocks h 0 n) ≡ 8192 + n * h.block_size
  blocks_long front n len = omega (arith, len, length-append front (new_blocks h 0 n), length-blocks n)

-- what a host tells then
pub images_told : (old mid new : Option Contents) (c : Contents) → old ≡ Some c → c.images ≡ []
    → TellsOn old mid (Changes Images (λ old new. new ≡ written 0 (replicate 9 0) old))
    → TellsOn mid new (Changes Images (λ old new. new ≡ written 0 images_label old))
    → new ≡ Some (with_file Images closed_images c)
images_told old mid new c tells empty zeros label =
    told_written Images 0 images_label mid new (with_file Images (written 0 (replicate 9 0) c.images) c)
    (told_written Images 0 (replicate 9 0) old mid c tells zeros) label
    ∙ ap (λ xs. Some (with_file Images xs c)) (images_done c.images empty)

pub rest_told : (h : Header) → IsWithinLimits h → (mid new : Option Contents) (c : Contents)
    → mid ≡ Some (with_file Db (c.db ++ drop 8 (header_bytes (new_header h))) c)
    → ForSome mid (λ x. new ≡ Some (with_file Db (x.db ++ new_blocks h 0 h.total) x))
    → new ≡ Some (with_file Db (c.db ++ drop 8 (new_database h)) c)
rest_told h limits mid new c tells blocks =
    blocks (with_file Db (c.db ++ drop 8 (header_bytes (new_header h))) c) tells
    ∙ ap (λ xs. Some (with_file Db xs c)) (rest_done h limits c.db)

-- the label over the zeros before the rest
label_over : (h : Header) → IsWithinLimits h → (front : List ℕ) → front ≡ zeros 8
    → written 0 label (front ++ drop 8 (new_database h)) ≡ new_database h
label_over h limits front are =
    ap (λ xs. written 0 label (xs ++ drop 8 (new_database h))) are ∙ database_done h limits

-- what a host tells then
pub rest_begun_told : (h : Header) (old mid then : Option Contents) (c : Contents) → old ≡ Some c
    → TellsOn old mid (Changes Db (λ old new. new ≡ written 0 (replicate 8 0) old))
    → ForSome mid (λ x. then ≡ Some (with_file Db (x.db ++ drop 8 (new_database h)) x))
    → then ≡ Some (with_file Db (written 0 (replicate 8 0) c.db ++ drop 8 (new_database h)) c)
rest_begun_told h old mid then c tells zeros rest =
    rest (with_file Db (written 0 (replicate 8 0) c.db) c) (told_written Db 0 (replicate 8 0) old mid c tells zeros)

pub database_told : (h : Header) → IsWithinLimits h → (then new : Option Contents) (c : Contents) → c.db ≡ []
    → then ≡ Some (with_file Db (written 0 (replicate 8 0) c.db ++ drop 8 (new_database h)) c)
    → TellsOn then new (Changes Db (λ old new. new ≡ written 0 label old))
    → new ≡ Some (with_file Db (new_database h) c)
database_told h limits then new c empty tells over =
    let bytes : List ℕ = written 0 (replicate 8 0) c.db ++ drop 8 (new_database h) in
    told_written Db 0 label then new (with_file Db bytes c) tells over
    ∙ ap (λ xs. Some (with_file Db xs c))
    (label_over h limits (written 0 (replicate 8 0) c.db) (database_begun c.db empty))

pub database_settled : (h : Header) → IsWithinLimits h → (then : Option Contents) (c : Contents)
    (left : Contents → Type 0) → c.db ≡ []
    → then ≡ Some (with_file Db (written 0 (replicate 8 0) c.db ++ drop 8 (new_database h)) c)
    → ForSome then (λ x. Settles Db (written 0 label x.db) left) → Settles Db (new_database h) left
database_settled h limits then c left empty tells settled =
    let bytes : List ℕ = written 0 (replicate 8 0) c.db ++ drop 8 (new_database h) in
    subst (λ xs. Settles Db xs left)
    (label_over h limits (written 0 (replicate 8 0) c.db) (database_begun c.db empty))
    (settled (with_file Db bytes c) tells)

-- more blocks behind some
pub blocks_behind : (h : Header) (front : List ℕ) (m n : ℕ)
    → (front ++ new_blocks h 0 m) ++ new_blocks h m n ≡ front ++ new_blocks h 0 (m + n)
blocks_behind h front m n =
    append_assoc front (new_blocks h 0 m) (new_blocks h m n)
    ∙ ap (λ xs. front ++ xs) (ap (λ k. new_blocks h 0 m ++ new_blocks h k n) (omega arith) ∙ sym (blocks_more h 0 m n))

pub blocks_before : (h : Header) (c : Contents) → with_file Db (c.db ++ new_blocks h 0 0) c ≡ c
blocks_before h c =
    ap (λ xs. with_file Db xs c) (ap (λ xs. c.db ++ xs) (blocks_none h 0) ∙ append-nil c.db)

-- ---- What a crash leaves.

KeepsFirst-then : (n : ℕ) (a b c : List ℕ) → KeepsFirst n a b → KeepsFirst n b c → KeepsFirst n a c
KeepsFirst-then n a b c first second =
    let longer = first.no_shorter in
    record {
      no_shorter = omega (arith, first.no_shorter, second.no_shorter);
      same = λ i low within. second.same i low (omega arith) ∙ first.same i low within;
    }

pub KeepsFirst-refl : (n : ℕ) (file : List ℕ) → KeepsFirst n file file
KeepsFirst-refl n file = record { no_shorter = omega arith; same = λ i low within. refl }

module _ {H : Type 0} {contents : H → Option Contents} {moment : H → ℕ} {counts : H → Failures}
    {left_since : H → ℕ → Contents → Type 0} where
  -- bytes that are stored in a file
  pub changed_store : {T E : Type 0} {old new : H} (file : FileNo) (at : ℕ) (bytes : List ℕ) (result : Result T E)
      → LeavesBy moment left_since (Changes file (Torn at (length bytes))) old new
      → TellsOn (contents old) (contents new) (Changes file (Writes at bytes result))
      → (contents old ≡ None → contents new ≡ None) → NeverFell (counts old) (counts new)
      → WasChangedBy contents moment counts left_since (Changes file AnyBytes) old new
  changed_store {T} {E} {old} {new} file at bytes result by told untold failures = record {
    told = TellsOn-weaker (contents old) (contents new) (Changes file (Writes at bytes result)) (Changes file AnyBytes)
        (λ x y s. Changes-weaker file (Writes at bytes result) AnyBytes x y (λ _. tt) s) told;
    untold = untold;
    crash = by_weaker moment left_since (Changes file (Torn at (length bytes))) (Changes file AnyBytes) old new
        (λ x y s. Changes-weaker file (Torn at (length bytes)) AnyBytes x y (λ _. tt) s) by;
    failures = failures;
  }

  pub changed_any : {old new : H} (file : FileNo) (R : List ℕ → List ℕ → Type 0)
      → WasChangedBy contents moment counts left_since (Changes file R) old new
      → WasChangedBy contents moment counts left_since (Changes file AnyBytes) old new
  changed_any file R changed =
      changed_weaker (Changes file AnyBytes) (λ x y s. Changes-weaker file R AnyBytes x y (λ _. tt) s) changed

module _ {H : Type 0} {contents : H → Option Contents} {moment : H → ℕ} {counts : H → Failures}
    {left_since : H → ℕ → Contents → Type 0}
    (longer : (host : H) (t u : ℕ) (c : Contents) → t ≤ u → left_since host u c → left_since host t c) where
  -- one stretch of calls after another
  pub keeps_more : {old mid new : H} (n : ℕ)
      → WasChangedBy contents moment counts left_since (Changes Db (KeepsFirst n)) old mid
      → WasChangedBy contents moment counts left_since (Changes Db (KeepsFirst n)) mid new
      → WasChangedBy contents moment counts left_since (Changes Db (KeepsFirst n)) old new
  keeps_more n first second =
      changed_then longer (Changes Db (KeepsFirst n)) first second (λ x y r. r)
      (λ x y z r s. Changes-then Db (KeepsFirst n) (KeepsFirst n) (KeepsFirst n) x y z
      (KeepsFirst-then n x.db y.db z.db) r s)

  pub any_more : {old mid new : H} (file : FileNo)
      → WasChangedBy contents moment counts left_since (Changes file AnyBytes) old mid
      → WasChangedBy contents moment counts left_since (Changes file AnyBytes) mid new
      → WasChangedBy contents moment counts left_since (Changes file AnyBytes) old new
  any_more file first second =
      changed_then longer (Changes file AnyBytes) first second (λ x y r. r)
      (λ x y z r s. Changes-then file AnyBytes AnyBytes AnyBytes x y z (λ _ _. tt) r s)

  -- a sync
  pub keeps_sync : {old new : H} (n : ℕ) → ChangedNothing contents moment counts left_since old new
      → WasChangedBy contents moment counts left_since (Changes Db (KeepsFirst n)) old new
  keeps_sync {old} {new} n kept =
      changed_read (Changes Db (KeepsFirst n)) (Changes-refl Db (KeepsFirst n) (KeepsFirst-refl n))
      (was_read contents counts moment left_since old new kept)
      (leaves_the_same moment left_since contents counts old new (longer old) kept)
