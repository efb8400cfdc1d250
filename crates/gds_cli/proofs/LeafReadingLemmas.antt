-- Reading a leaf record by record: one record has one node, and what is known of the nodes so far.
use Rattle.std.proofs.Common.{ℕ, zero, suc, ◌≡◌, ◌+◌, ◌≤◌, List, [], ◌∷◌, ◌++◌, length, take, drop, inl, inr, refl, sym}
use Rattle.std.proofs.Common.{◌∙◌, ap, subst, arith, append_assoc, append-nil, length-take, length-drop, sum_by, Option}
use Rattle.std.proofs.Common.{None, Some, Result, Ok, Err, IfNone, IfOk}
use Rattle.std.proofs.lemmas.Bool.{cases_lt, cond_both}
use Rattle.std.proofs.lemmas.List.{take_at, drop_at, take-append-le, take-append-drop}
use Rattle.std.proofs.lemmas.List.Sums.{sum_by-cons}
use Rattle.m_key.specs.Node.{Node, IsNode}
use Rattle.m_key.specs.Key.{key_bytes}
use Rattle.m_key.proofs.KeyLemmas.{none_begins}
use Rattle.m_key.proofs.PlaceLemmas.{same_place}
use Rattle.m_key.proofs.NumberLemmas.{numbers}
use Rattle.gds_block.specs.Block.{used_of, level_of, IsBlock}
use Rattle.gds_block.specs.Record.{Record, size_of, is_well_sized, first_record, records_up_to, records_of, bytes_left}
use Rattle.gds_block.proofs.RecordLemmas.{Fits-from_well_sized}
use Rattle.gds_header.specs.declared.header.Header.{Header}
use Rattle.gds_cli.specs.Thin.{Valued, IsRecordOf, AreRecordsOf}

-- ---- one node

begun_key : (a b : Node) (x y : List ℕ) → IsNode a → IsNode b → length (key_bytes a) ≤ length (key_bytes b)
    → key_bytes a ++ x ≡ key_bytes b ++ y → a ≡ b
begun_key a b x y p q short e =
    let n = length (key_bytes a) in
    let front : take n (key_bytes b) ≡ key_bytes a =
    sym (take-append-le n (key_bytes b) y short) ∙ ap (take n) (sym e) ∙ take_at (key_bytes a) x n refl in
    none_begins numbers a b (drop n (key_bytes b)) p q
    (sym (take-append-drop n (key_bytes b)) ∙ ap (λ l. l ++ drop n (key_bytes b)) front)

-- bytes that begin with a key begin with no other
pub one_node : (a b : Node) (x y : List ℕ) → IsNode a → IsNode b → key_bytes a ++ x ≡ key_bytes b ++ y → a ≡ b
one_node a b x y p q e =
    elim (cases_lt (length (key_bytes a)) (length (key_bytes b))) [
      | inl h ↦ begun_key a b x y p q (omega arith) e
      | inr h ↦ sym (begun_key b a y x q p h (sym e))
    ]

-- a record behind a key is of one node and value
pub one_record : (h : Header) (previous : List ℕ) (r : Record) (v w : Valued) → IsRecordOf h previous r v
    → IsRecordOf h previous r w → v ≡ w
one_record h previous r v w a b =
    let same = sym a.bytes ∙ b.bytes in
    let node = one_node v.0.node w.0.node v.1 w.1 v.0.right w.0.right same in
    let place = same_place v.0 w.0 node in
    let value : v.1 ≡ w.1 =
    sym (drop_at (key_bytes v.0.node) v.1 (length (key_bytes v.0.node)) refl)
    ∙ ap (drop (length (key_bytes v.0.node))) same
    ∙ drop_at (key_bytes w.0.node) w.1 (length (key_bytes v.0.node)) (ap (λ n. length (key_bytes n)) (sym node)) in
    λ i. (place i, value i)

-- ---- the nodes so far

-- All records are of these nodes and those of the records left, and of nothing else.
pub record SoFar (h : Header) (all : List Record) (key : List ℕ) (left : List Record)
    (nodes : List Valued) : Type 0 where
  pub forth : (vs : List Valued) → AreRecordsOf h key left vs → AreRecordsOf h [] all (nodes ++ vs)
  pub back : (ws : List Valued) → AreRecordsOf h [] all ws → (vs : List Valued) × AreRecordsOf h key left vs

pub so_far_none : (h : Header) (all : List Record) → SoFar h all [] all []
so_far_none h all = record { forth = λ vs g. g; back = λ ws g. (ws, g) }

pub so_far_key : (h : Header) (all : List Record) (key other : List ℕ) (left : List Record) (nodes : List Valued)
    → SoFar h all key left nodes → key ≡ other → SoFar h all other left nodes
so_far_key h all key other left nodes s e = subst (λ (k : List ℕ). SoFar h all k left nodes) e s

rest_of : (h : Header) (key : List ℕ) (r : Record) (rs : List Record) (v : Valued) → IsRecordOf h key r v
    → (vs : List Valued) → AreRecordsOf h key (r ∷ rs) vs
    → (ws : List Valued) × AreRecordsOf h (key_bytes v.0.node) rs ws
rest_of h key r rs v a [] g = absurd g
rest_of h key r rs v a (w ∷ ws) (b, g) =
    let same = one_record h key r w v b a in
    (ws, subst (λ (u : Valued). AreRecordsOf h (key_bytes u.0.node) rs ws) same g)

so_far_more : (h : Header) (all : List Record) (key : List ℕ) (r : Record) (rs : List Record) (nodes : List Valued)
    (v : Valued) → SoFar h all key (r ∷ rs) nodes → IsRecordOf h key r v
    → SoFar h all (key_bytes v.0.node) rs (nodes ++ v ∷ [])
so_far_more h all key r rs nodes v s a = record {
  forth = λ vs g. subst (AreRecordsOf h [] all) (sym (append_assoc nodes (v ∷ []) vs)) (s.forth (v ∷ vs) (a, g));
  back = λ ws g. let more = s.back ws g in rest_of h key r rs v a more.0 more.1;
}

pub so_far_next : (h : Header) (all : List Record) (key next : List ℕ) (r : Record) (rs : List Record)
    (nodes more : List Valued) (v : Valued) → SoFar h all key (r ∷ rs) nodes → IsRecordOf h key r v
    → next ≡ key_bytes v.0.node → more ≡ nodes ++ v ∷ [] → SoFar h all next rs more
so_far_next h all key next r rs nodes more v s a e f =
    let step = so_far_more h all key r rs nodes v s a in
    subst (λ (xs : List Valued). SoFar h all next rs xs) (sym f)
    (so_far_key h all (key_bytes v.0.node) next rs (nodes ++ v ∷ []) step (sym e))

no_rest : (h : Header) (key : List ℕ) (r : Record) (rs : List Record) → ((v : Valued) → IsRecordOf h key r v → ⊥)
    → (vs : List Valued) → AreRecordsOf h key (r ∷ rs) vs → ⊥
no_rest h key r rs none [] g = g
no_rest h key r rs none (v ∷ vs) (a, g) = none v a

pub so_far_stops : (h : Header) (all : List Record) (key : List ℕ) (r : Record) (rs : List Record) (nodes : List Valued)
    → SoFar h all key (r ∷ rs) nodes → ((v : Valued) → IsRecordOf h key r v → ⊥) → (ws : List Valued)
    → AreRecordsOf h [] all ws → ⊥
so_far_stops h all key r rs nodes s none ws g = let more = s.back ws g in no_rest h key r rs none more.0 more.1

pub so_far_all : (h : Header) (all : List Record) (key : List ℕ) (left : List Record) (nodes : List Valued)
    → SoFar h all key left nodes → left ≡ [] → AreRecordsOf h [] all nodes
so_far_all h all key left nodes s none =
    let ended = subst (λ (rs : List Record). SoFar h all key rs nodes) none s in
    subst (AreRecordsOf h [] all) (append-nil nodes) (ended.forth [] tt)

-- ---- how many bytes records have

-- with their size and count
abbrev pub bytes_of : List Record → ℕ
bytes_of rs = sum_by (λ r. 4 + length r.body) rs

bytes_up_to : (n level offset : ℕ) (left : List ℕ) → bytes_of (records_up_to n level offset left) ≤ length left
bytes_up_to zero level offset left = omega arith
bytes_up_to (suc n) level offset left =
    cond_both (is_well_sized level left) _ _ (λ rs. bytes_of rs ≤ length left)
    (λ well.
    let fits = Fits-from_well_sized level left well in
    let rest = records_up_to n level (offset + size_of left) (drop (size_of left) left) in
    let more : bytes_of (first_record offset left ∷ rest) ≡ 4 + length
    (drop 4 (take (size_of left) left)) + bytes_of rest =
    sum_by-cons (λ r. 4 + length r.body) (first_record offset left) rest in
    omega (
      arith,
      more,
      bytes_up_to n level (offset + size_of left) (drop (size_of left) left),
      length-drop (size_of left) left,
      length-drop 4 (take (size_of left) left),
      length-take (size_of left) left,
    ))
    (λ none. omega arith)

-- the records of a block end within its used bytes
pub within_used : (block : List ℕ) → IsBlock block → 16 + bytes_of (records_of block) ≤ used_of block
within_used block is =
    let left = bytes_left block 16 in
    let fits = bytes_up_to (length left) (level_of block) 16 left in
    let covered = is.covered in
    let within = is.within in
    omega (arith, fits, length-drop 16 (take (used_of block) block), length-take (used_of block) block)

pub bytes_more : (r : Record) (rs left : List Record) → left ≡ r ∷ rs → bytes_of left ≡ 4 + length r.body + bytes_of rs
bytes_more r rs left e = ap bytes_of e ∙ sum_by-cons (λ r. 4 + length r.body) r rs

-- ---- a leaf

pub none_weaker : {T E : Type 0} (r : Result (Option T) E) (A B : Type 0) → (A → B) → IfOk r (λ o. IfNone o A)
    → IfOk r (λ o. IfNone o B)
none_weaker (Ok None) A B f h = f h
none_weaker (Ok (Some x)) A B f h = tt
none_weaker (Err e) A B f h = tt
