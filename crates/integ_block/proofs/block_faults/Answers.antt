use Rattle.std.proofs.Common.{ℕ, ◌≡◌, ◌≤◌, true, false, List, [], ◌++◌, length, Some, None, refl, sym, ◌∙◌, ap, subst}
use Rattle.std.proofs.lemmas.Bool.{not-false, not-true}
use Rattle.std.proofs.Common.{arith, append_assoc, length-append}
use Rattle.std.specs.Prelude.{map, not, Bool, Option, SomeIff}
use Rattle.std.specs.List.{list_any}
use Rattle.std.proofs.lemmas.List.{append-nil, length-map}
use Rattle.gds_block.specs.Block.{IsBlock}
use Rattle.gds_block.specs.Record.{records_of}
use Rattle.gds_law.specs.Block.{fault_at, faults_of_block, head_holds, kinds_from, kinds_of_block, children_from}
use Rattle.gds_law.specs.Block.{children_of}
use Rattle.gds_law.specs.Kinds.{ends, head_kinds}
use Rattle.gds_law.specs.BlockReading as law
use Rattle.gds_law.specs.Visit.{Visit, Child}
use Rattle.gds_header.specs.declared.header.Header.{Header}
use Rattle.integ_block.specs.BlockReading.{reading, faults_at}
use Rattle.gds_law.specs.Visit.{visit_of}
use Rattle.integ_block.specs.Child.{child_of}
use Rattle.integ_block.proofs.BlockLemmas.{length-faults}
use Rattle.integ_block.proofs.HeadLemmas.{b, head, behind, same-head, same-behind, IsBlock-open, faults-head}
use Rattle.integ_block.proofs.HeadLemmas.{children-head, faults-all, children-all, faults-begin}
use Rattle.integ_block.proofs.KindLemmas.{kept}
use Rattle.gds_law.proofs.SinkLemmas.{Reached-front, IsCut-none, Grew-ok, Grew-err, WasTold-ok, WasTold-refused}
use Rattle.std.proofs.lemmas.Result.{err_from_is_err_and}
use Rattle.gds_law.specs.Sink.{IsCut}
use Rattle.gds_law.specs.declared.sink.SinkTrouble.TheVariants.{Failed}
use Rattle.integ_block.specs.declared.error.IntegError.TheVariants.{SayFault}
use Rattle.integ_block.proofs.ErrorLemmas.{only_say, refused}
use Rattle.integ_block.proofs.block_faults.Given.{Over}
use Rattle.integ_block.proofs.block_faults.Goals as goal
use Rattle.integ_block.proofs.block_faults.Goals.{In_ok-head}

-- ---- a block with which nothing is wrong

none-faults : (h : Header) (path : List (ℕ × ℕ)) (v : Visit) (bytes : List ℕ)
    → kinds_of_block (law.reading_of h v bytes) bytes ≡ [] → [] ≡ faults_of_block h path v bytes
none-faults h path v bytes none = sym (ap (map (fault_at (law.reading_of h v bytes) path)) none)

as_before : {A : Type 0} (old due : List A) → [] ≡ due → old ≡ old ++ due
as_before old due e = sym (append-nil old) ∙ ap (λ xs. old ++ xs) e

pub returns-then-is_clean_leaf-clause-told : goal.returns-then-is_clean_leaf-clause-told
returns-then-is_clean_leaf-clause-told g c =
    WasTold-ok g.F.FaultSink.listed g.F.FaultSink.failures c.args.sink.now c.args.sink.now _ _ SayFault
    (as_before _ _ (none-faults c.args.header.now c.args.at.now.path (visit_of c.args.at.now.visit) c.args.bytes.now
    c.if-is_clean_leaf.ensures.clean))
    (omega arith)

pub returns-then-is_clean_leaf-clause-count : goal.returns-then-is_clean_leaf-clause-count
returns-then-is_clean_leaf-clause-count g c =
    ap length (none-faults c.args.header.now c.args.at.now.path (visit_of c.args.at.now.visit) c.args.bytes.now
    c.if-is_clean_leaf.ensures.clean)

pub returns-then-is_clean_leaf-clause-children : goal.returns-then-is_clean_leaf-clause-children
returns-then-is_clean_leaf-clause-children g c =
    Grew-ok _ _ _ _ (as_before _ _ (sym c.if-is_clean_leaf.ensures.childless))

-- ---- after the head was told

module _ (g : Over) (c : In_ok-head g) where
  abbrev h : Header
  h = c.args.header.now

  abbrev v : Visit
  v = visit_of c.args.at.now.visit

  abbrev path : List (ℕ × ℕ)
  path = c.args.at.now.path

  abbrev bytes : List ℕ
  bytes = c.args.bytes.now

  same-path : c.of-reading.result.at.now.path ≡ path
  same-path = ap (λ a. a.path) c.of-reading.ensures.at

  head-told : g.F.FaultSink.listed c.tell_head.new.sink
      ≡ g.F.FaultSink.listed c.args.sink.now ++ faults_at (b h path v bytes) path 0 (head h path v bytes)
  head-told =
      c.in_ok-head.ensures.told.faults.all
      ∙ ap (λ xs. g.F.FaultSink.listed c.args.sink.now
      ++ xs) (same-head (reading c.of-reading.result) (b h path v bytes) c.of-reading.result.at.now.path path bytes
      c.of-reading.ensures.reading same-path)

  head-count : c.in_ok-head.head.count ≡ length (head h path v bytes)
  head-count = c.in_ok-head.ensures.count
      ∙ ap (λ r. length (kept ends (head_holds r bytes) head_kinds)) c.of-reading.ensures.reading

  head-end : c.in_ok-head.head.is_end ≡ list_any ends (head h path v bytes)
  head-end = c.in_ok-head.ensures.is_end
      ∙ ap (λ r. list_any ends (kept ends (head_holds r bytes) head_kinds)) c.of-reading.ensures.reading

  -- The reading ends with the head.
  module _ (end : list_any ends (head h path v bytes) ≡ true) where
    told-ended : g.F.FaultSink.listed c.tell_head.new.sink
        ≡ g.F.FaultSink.listed c.args.sink.now ++ faults_of_block h path v bytes
    told-ended = head-told ∙ ap (λ xs. g.F.FaultSink.listed c.args.sink.now ++ xs) (faults-head h path v bytes end)

    count-ended : c.in_ok-head.head.count ≡ length (faults_of_block h path v bytes)
    count-ended = head-count ∙ sym (length-faults (b h path v bytes) path 0 (head h path v bytes))
        ∙ ap length (faults-head h path v bytes end)

    children-ended : map child_of c.args.children.now.items
        ≡ map child_of c.args.children.now.items ++ children_of h v bytes
    children-ended = sym (append-nil (map child_of c.args.children.now.items))
        ∙ ap (λ xs. map child_of c.args.children.now.items ++ xs) (children-head h path v bytes end)

-- ---- a block of which a kind of the head ends the reading

ended : (g : Over) (c : In_ok-head g) → not c.in_ok-head.head.is_end ≡ false
    → list_any ends (head (h g c) (path g c) (v g c) (bytes g c)) ≡ true
ended g c h = sym (head-end g c) ∙ not-false c.in_ok-head.head.is_end h

pub returns-in_default-clause-told : goal.returns-in_default-clause-told
returns-in_default-clause-told g c =
    let d = (goal.at.returns-in_default-clause-told g c).In_ok-head in
    WasTold-ok g.F.FaultSink.listed g.F.FaultSink.failures c.args.sink.now c.tell_head.new.sink _ _ SayFault
    (told-ended g d (ended g d c.if-not-head.false))
    c.in_ok-head.ensures.told.failures

pub returns-in_default-clause-count : goal.returns-in_default-clause-count
returns-in_default-clause-count g c =
    let d = (goal.at.returns-in_default-clause-count g c).In_ok-head in
    count-ended g d (ended g d c.if-not-head.false)

pub returns-in_default-clause-children : goal.returns-in_default-clause-children
returns-in_default-clause-children g c =
    let d = (goal.at.returns-in_default-clause-children g c).In_ok-head in
    Grew-ok _ _ _ _ (children-ended g d (ended g d c.if-not-head.false))

-- ---- what is no block, whose used count is told

unless : (t : Bool) → (t ≡ false → ⊥) → t ≡ true
unless true h = refl
unless false h = absurd (h refl)

unread : (g : Over) (c : In_ok-head g) → (IsBlock (bytes g c) → ⊥)
    → list_any ends (head (h g c) (path g c) (v g c) (bytes g c)) ≡ true
unread g c none =
    let long : 16 ≤ length (bytes g c) = omega (arith, c.requires.whole, c.requires.limits.block_from) in
    unless _ (λ go. none (IsBlock-open (h g c) (v g c) (bytes g c) long c.requires.whole go))

none_is : (P : Type 0) (o : Option (List ℕ)) (v : List ℕ) → SomeIff o P v → o ≡ None → P → ⊥
none_is P None v iff e = iff
none_is P (Some x) v iff e = absurd (cc)

pub returns-in_default-2-clause-told : goal.returns-in_default-2-clause-told
returns-in_default-2-clause-told g c =
    let d = (goal.at.returns-in_default-2-clause-told g c).In_ok-head in
    WasTold-ok g.F.FaultSink.listed g.F.FaultSink.failures c.args.sink.now c.tell_head.new.sink _ _ SayFault
    (told-ended g d (unread g d (none_is _ c.new.result c.args.bytes.now c.new.ensures c.in_default.is)))
    c.in_ok-head.ensures.told.failures

pub returns-in_default-2-clause-count : goal.returns-in_default-2-clause-count
returns-in_default-2-clause-count g c =
    let d = (goal.at.returns-in_default-2-clause-count g c).In_ok-head in
    count-ended g d (unread g d (none_is _ c.new.result c.args.bytes.now c.new.ensures c.in_default.is))

pub returns-in_default-2-clause-children : goal.returns-in_default-2-clause-children
returns-in_default-2-clause-children g c =
    let d = (goal.at.returns-in_default-2-clause-children g c).In_ok-head in
    Grew-ok _ _ _ _ (children-ended g d (unread g d
    (none_is _ c.new.result c.args.bytes.now c.new.ensures c.in_default.is)))

-- ---- a block whose records are read

going : (g : Over) (c : In_ok-head g) → not c.in_ok-head.head.is_end ≡ true
    → list_any ends (head (h g c) (path g c) (v g c) (bytes g c)) ≡ false
going g c h = sym (head-end g c) ∙ not-true c.in_ok-head.head.is_end h

pub returns-in_ok-count-in-Some-clause-told : goal.returns-in_ok-count-in-Some-clause-told
returns-in_ok-count-in-Some-clause-told g c =
    let d = (goal.at.returns-in_ok-count-in-Some-clause-told g c).In_ok-head in
    let old = g.F.FaultSink.listed c.args.sink.now in
    let top = faults_at (b (h g d) (path g d) (v g d) (bytes g d)) (path g d) 0
    (head (h g d) (path g d) (v g d) (bytes g d)) in
    let rest =
    map (fault_at (b (h g d) (path g d) (v g d) (bytes g d)) (path g d))
    (behind (h g d) (path g d) (v g d) (bytes g d)) in
    WasTold-ok g.F.FaultSink.listed g.F.FaultSink.failures c.args.sink.now c.tell_records.new.sink _ _ SayFault
    (c.in_ok-count-in-Some.ensures.told.faults.all
    ∙ ap (λ xs. g.F.FaultSink.listed c.tell_head.new.sink
    ++ xs) (same-behind (reading c.of-reading.result) (b (h g d) (path g d) (v g d) (bytes g d))
    c.of-reading.result.at.now.path (path g d) (bytes g d) c.of-reading.ensures.reading (same-path g d))
    ∙ ap (λ xs. xs ++ rest) (head-told g d)
    ∙ append_assoc old top rest
    ∙ ap (λ xs. old ++ xs) (faults-all (h g d) (path g d) (v g d) (bytes g d) (going g d c.if-not-head.true)))
    (omega (arith, c.in_ok-head.ensures.told.failures, c.in_ok-count-in-Some.ensures.told.failures))

pub returns-in_ok-count-in-Some-clause-count : goal.returns-in_ok-count-in-Some-clause-count
returns-in_ok-count-in-Some-clause-count g c =
    let d = (goal.at.returns-in_ok-count-in-Some-clause-count g c).In_ok-head in
    let r = b (h g d) (path g d) (v g d) (bytes g d) in
    let kinds = head (h g d) (path g d) (v g d) (bytes g d) in
    let more = behind (h g d) (path g d) (v g d) (bytes g d) in
    let all : length (faults_at r (path g d) 0 kinds ++ map (fault_at r (path g d)) more)
    ≡ length (faults_of_block (h g d) (path g d) (v g d) (bytes g d)) =
    ap length (faults-all (h g d) (path g d) (v g d) (bytes g d) (going g d c.if-not-head.true)) in
    let records : c.in_ok-count-in-Some.count ≡ length more =
    c.in_ok-count-in-Some.ensures.count
    ∙ ap (λ r. length (kinds_from r (bytes g d) 16 [] (records_of (bytes g d)))) c.of-reading.ensures.reading in
    omega (
      arith,
      all,
      records,
      head-count g d,
      length-append (faults_at r (path g d) 0 kinds) (map (fault_at r (path g d)) more),
      length-faults r (path g d) 0 kinds,
      length-map more (fault_at r (path g d)),
    )

pub returns-in_ok-count-in-Some-clause-children : goal.returns-in_ok-count-in-Some-clause-children
returns-in_ok-count-in-Some-clause-children g c =
    let d = (goal.at.returns-in_ok-count-in-Some-clause-children g c).In_ok-head in
    Grew-ok _ _ _ _
    (c.in_ok-count-in-Some.ensures.children.all
    ∙ ap (λ r. map child_of c.args.children.now.items
    ++ children_from r [] (records_of (bytes g d))) c.of-reading.ensures.reading
    ∙ ap (λ xs. map child_of c.args.children.now.items
    ++ xs) (children-all (h g d) (path g d) (v g d) (bytes g d) (going g d c.if-not-head.true)))

-- ---- a refusal among the records

pub returns-in_err-count-in-Some-clause-told : goal.returns-in_err-count-in-Some-clause-told
returns-in_err-count-in-Some-clause-told g c =
    let d = (goal.at.returns-in_err-count-in-Some-clause-told g c).In_ok-head in
    let at-root = b (h g d) (path g d) (v g d) (bytes g d) in
    let read = reading c.of-reading.result in
    let xs = map (fault_at read c.of-reading.result.at.now.path)
    (kinds_from read (bytes g d) 16 [] (records_of (bytes g d))) in
    let top = faults_at at-root (path g d) 0 (head (h g d) (path g d) (v g d) (bytes g d)) in
    let same =
    same-behind read at-root c.of-reading.result.at.now.path (path g d) (bytes g d) c.of-reading.ensures.reading
    (same-path g d) in
    let p = err_from_is_err_and c.from_residual-in_err-count-in-Some.result
    c.from_residual-in_err-count-in-Some.ensures.1 in
    WasTold-refused g.F.FaultSink.listed g.F.FaultSink.failures c.args.sink.now c.tell_head.new.sink
    c.tell_records.new.sink
    xs [] _ _ Failed _ c.from_residual-in_err-count-in-Some.result SayFault p.0
    (Reached-front _ _ top (xs ++ []) _ (head-told g d)
    (ap (λ ys. top ++ ys) (append-nil xs ∙ same)
    ∙ faults-all (h g d) (path g d) (v g d) (bytes g d) (going g d c.if-not-head.true)))
    c.in_ok-head.ensures.told.failures c.in_err-count-in-Some.ensures.told p.1 (λ e. only_say _ (sym p.2 ∙ e))

pub returns-in_err-count-in-Some-clause-children : goal.returns-in_err-count-in-Some-clause-children
returns-in_err-count-in-Some-clause-children g c =
    let d = (goal.at.returns-in_err-count-in-Some-clause-children g c).In_ok-head in
    let now = map child_of c.args.children.now.items in
    let later = map child_of c.tell_records.new.children.items in
    let p = err_from_is_err_and c.from_residual-in_err-count-in-Some.result
    c.from_residual-in_err-count-in-Some.ensures.1 in
    Grew-err _ _ _ c.from_residual-in_err-count-in-Some.result p.0 p.1
    (subst (λ (xs : List Child). IsCut now later xs)
    (children-all (h g d) (path g d) (v g d) (bytes g d) (going g d c.if-not-head.true))
    (subst (λ (r : law.BlockReading). IsCut now later (children_from r [] (records_of (bytes g d))))
    c.of-reading.ensures.reading c.in_err-count-in-Some.ensures.children.some))

pub returns-in_err-count-in-Some-clause-refused : goal.returns-in_err-count-in-Some-clause-refused
returns-in_err-count-in-Some-clause-refused g c =
    let p = err_from_is_err_and c.from_residual-in_err-count-in-Some.result
    c.from_residual-in_err-count-in-Some.ensures.1 in
    refused c.from_residual-in_err-count-in-Some.result p.0 _ p.1 p.2

-- ---- a refusal of the head's faults

pub returns-in_err-head-clause-told : goal.returns-in_err-head-clause-told
returns-in_err-head-clause-told g c =
    let h = c.args.header.now in
    let v = visit_of c.args.at.now.visit in
    let path = c.args.at.now.path in
    let bytes = c.args.bytes.now in
    let read = reading c.of-reading.result in
    let same-path = ap (λ a. a.path) c.of-reading.ensures.at in
    let xs = faults_at read c.of-reading.result.at.now.path 0 (kept ends (head_holds read bytes) head_kinds) in
    let same =
    same-head read (b h path v bytes) c.of-reading.result.at.now.path path bytes c.of-reading.ensures.reading
    same-path in
    let begin = faults-begin h path v bytes (list_any ends (head h path v bytes)) refl in
    let p = err_from_is_err_and c.from_residual.result c.from_residual.ensures.1 in
    WasTold-refused g.F.FaultSink.listed g.F.FaultSink.failures c.args.sink.now c.args.sink.now c.tell_head.new.sink
    xs begin.0 _ _ Failed _ c.from_residual.result SayFault p.0
    (Reached-front _ _ [] (xs ++ begin.0) _ (sym (append-nil _)) (ap (λ ys. ys ++ begin.0) same ∙ begin.1))
    (omega arith) c.in_err-head.ensures.told p.1 (λ e. only_say _ (sym p.2 ∙ e))

pub returns-in_err-head-clause-children : goal.returns-in_err-head-clause-children
returns-in_err-head-clause-children g c =
    let p = err_from_is_err_and c.from_residual.result c.from_residual.ensures.1 in
    Grew-err _ _ _ c.from_residual.result p.0 p.1 (IsCut-none _ _)

pub returns-in_err-head-clause-refused : goal.returns-in_err-head-clause-refused
returns-in_err-head-clause-refused g c =
    let p = err_from_is_err_and c.from_residual.result c.from_residual.ensures.1 in
    refused c.from_residual.result p.0 _ p.1 p.2
