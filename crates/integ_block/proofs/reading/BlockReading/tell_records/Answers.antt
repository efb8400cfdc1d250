use Rattle.std.proofs.Common.{ℕ, ◌≡◌, ◌+◌, ◌*◌, ◌≤◌, refl, List, [], ◌∷◌, ◌++◌, length, None, sym, ◌∙◌, subst, arith}
use Rattle.std.specs.Prelude.{map, All}
use Rattle.std.proofs.lemmas.List.{append-nil, length-map}
use Rattle.std.proofs.lemmas.List.Elements.{All-rest, All-head}
use Rattle.gds_block.specs.Record.{Record, AreRecords, StandsIn, bytes_left, records_of}
use Rattle.gds_block.specs.View.{record_of}
use Rattle.gds_law.specs.Block.{children_from, fault_at, kinds_from, size_kinds}
use Rattle.gds_law.specs.BlockReading as law
use Rattle.gds_law.specs.Record.{kinds_of}
use Rattle.gds_law.specs.declared.fault.Fault.{Fault}
use Rattle.gds_law.specs.Visit.{Child}
use Rattle.integ_block.specs.Entry.{children_at, IsNext, Leaves}
use Rattle.integ_block.specs.BlockReading.{reading, faults_at}
use Rattle.integ_block.specs.Child.{child_of}
use Rattle.gds_law.proofs.SinkLemmas.{Reached, Reached-more, Reached-all, IsCut-more, IsCut-stop, Grew-ok, Grew-err}
use Rattle.gds_law.proofs.SinkLemmas.{WasTold-ok, WasTold-refused}
use Rattle.std.proofs.lemmas.Result.{err_from_is_err_and}
use Rattle.gds_law.specs.declared.sink.SinkTrouble.TheVariants.{Failed}
use Rattle.integ_block.proofs.BlockLemmas.{behind, length-faults, told-behind, told-next, told-stop, children-next}
use Rattle.integ_block.proofs.BlockLemmas.{children-stop, children-behind, more_children, AreRecords-next}
use Rattle.integ_block.proofs.reading.BlockReading.tell_records.Given.{Over}
use Rattle.integ_block.proofs.reading.BlockReading.tell_records.Goals as goal
use Rattle.integ_block.proofs.reading.BlockReading.tell_records.Goals.{After-tell_all, After-tell_size}

-- ---- before a record is taken

module _ (g : Over) (c : After-tell_all g) where
  abbrev b : law.BlockReading
  b = reading c.args.self.now

  abbrev bytes : List ℕ
  bytes = c.args.bytes.now

  abbrev path : List (ℕ × ℕ)
  path = c.args.self.now.at.now.path

  abbrev r : Record
  r = record_of c.in-Some.view

  abbrev rs : List Record
  rs = c.next.new.self

  abbrev previous : List ℕ
  previous = c.loop-view.previous.items

  abbrev s : law.PlacedRecord
  s = record { previous = previous; record_ = r }

  told-here : Reached (g.F.FaultSink.listed c.args.sink.now) (g.F.FaultSink.listed c.loop-view.sink)
      (map (fault_at b path) (kinds_from b bytes c.loop-view.end previous (r ∷ rs)))
      (map (fault_at b path) (kinds_from b bytes 16 [] (records_of bytes))) c.loop-view.count
  told-here =
      subst (λ (xs : List Record). Reached (g.F.FaultSink.listed c.args.sink.now)
      (g.F.FaultSink.listed c.loop-view.sink) (map (fault_at b path)
      (kinds_from b bytes c.loop-view.end c.loop-view.previous.items xs))
      (map (fault_at b path) (kinds_from b bytes 16 [] (records_of bytes))) c.loop-view.count)
      c.in-Some.ensures.steps
      c.loop-view.invariant.told

  children-here : Reached (map child_of c.args.children.now.items) (map child_of c.loop-view.children.items)
      (children_from b previous (r ∷ rs)) (children_from b [] (records_of bytes)) c.loop-view.invariant.children.0
  children-here =
      subst (λ (xs : List Record). Reached (map child_of c.args.children.now.items)
      (map child_of c.loop-view.children.items) (children_from b c.loop-view.previous.items xs)
      (children_from b [] (records_of bytes)) c.loop-view.invariant.children.0) c.in-Some.ensures.steps
      c.loop-view.invariant.children.1

  are : AreRecords b.level c.loop-view.end (bytes_left bytes c.loop-view.end) (r ∷ rs)
  are = subst (λ (xs : List Record). AreRecords b.level c.loop-view.end (bytes_left bytes c.loop-view.end) xs)
      c.in-Some.ensures.steps c.loop-view.invariant.records

  few : c.loop-view.count + 17 * length (r ∷ rs) ≤ 17 * length (records_of bytes)
  few = subst (λ (xs : List Record). c.loop-view.count
      + 17 * length xs ≤ 17 * length (records_of bytes)) c.in-Some.ensures.steps c.loop-view.invariant.few

-- a record with which the reading ends, after all of its kinds were told
module _ (g : Over) (c : After-tell_all g) where
  told-all : (n : ℕ) → Leaves (b g c) (s g c) None
      → g.F.FaultSink.listed c.tell_all.new.sink
      ≡ g.F.FaultSink.listed c.loop-view.sink ++ faults_at (b g c) (path g c) (r g c).offset (kinds_of (b g c) (s g c))
      → n ≡ length (kinds_of (b g c) (s g c))
      → (g.F.FaultSink.listed c.tell_all.new.sink
      ≡ g.F.FaultSink.listed c.args.sink.now
      ++ map (fault_at (b g c) (path g c)) (kinds_from (b g c) (bytes g c) 16 [] (records_of (bytes g c))))
      × (c.loop-view.count + n
      ≡ length (map (fault_at (b g c) (path g c)) (kinds_from (b g c) (bytes g c) 16 [] (records_of (bytes g c)))))
  told-all n leaves ok count =
      Reached-all _ _ _ _
      (Reached-more _ (g.F.FaultSink.listed c.loop-view.sink) _
      (faults_at (b g c) (path g c) (r g c).offset (kinds_of (b g c) (s g c))) [] _ c.loop-view.count
      (c.loop-view.count + n)
      (subst (λ (xs : List Fault). Reached (g.F.FaultSink.listed c.args.sink.now)
      (g.F.FaultSink.listed c.loop-view.sink) xs
      (map (fault_at (b g c) (path g c)) (kinds_from (b g c) (bytes g c) 16 [] (records_of (bytes g c))))
      c.loop-view.count)
      (told-stop (b g c) (bytes g c) c.loop-view.end (previous g c) (r g c) (rs g c) c.requires.used (are g c) leaves
      (path g c)) (told-here g c))
      ok (omega (arith, count, length-faults (b g c) (path g c) (r g c).offset (kinds_of (b g c) (s g c)))))

-- ---- a record behind which the reading goes on

pub loop-view-preserved : goal.loop-view-preserved
loop-view-preserved g c =
    let d = (goal.at.loop-view-preserved g c).After-tell_all in
    let end = c.in-Some.view.offset + 4 + length c.in-Some.view.body.now in
    let key = c.in-Some-key.key.items in
    let next : IsNext (b g d) (s g d) key = rw c.in-Some-key.is at c.in_ok-told.ensures.leaves in
    let same : end ≡ c.in-Some.view.offset + (4 + length c.in-Some.view.body.now) = omega arith in
    let left = few g d in
    let stands =
    All-head (StandsIn (bytes g d)) (r g d) (rs g d)
    (subst (λ (xs : List Record). All (StandsIn (bytes g d)) xs) c.in-Some.ensures.steps
    c.loop-view.invariant.stand) in
    record {
      can = tt;
      finite = tt;
      told = Reached-more _ (g.F.FaultSink.listed c.loop-view.sink) _
          (faults_at (b g d) (path g d) (r g d).offset (kinds_of (b g d) (s g d))) _ _ c.loop-view.count _
          (subst (λ (xs : List Fault). Reached (g.F.FaultSink.listed c.args.sink.now)
          (g.F.FaultSink.listed c.loop-view.sink) xs
          (map (fault_at (b g d) (path g d)) (kinds_from (b g d) (bytes g d) 16 [] (records_of (bytes g d))))
          c.loop-view.count)
          (told-next (b g d) (bytes g d) c.loop-view.end (previous g d) (r g d) (rs g d) (path g d) end key same next)
          (told-here g d))
          c.in_ok-told.ensures.told.faults.all (omega (
            arith,
            c.in_ok-told.ensures.count,
            length-faults (b g d) (path g d) (r g d).offset (kinds_of (b g d) (s g d)),
          ));
      children = (
        c.loop-view.invariant.children.0 + length (children_at (b g d) (s g d)),
        Reached-more _ (map child_of c.loop-view.children.items) _ (children_at (b g d) (s g d)) _ _
            c.loop-view.invariant.children.0 _
            (subst (λ (xs : List Child). Reached (map child_of c.args.children.now.items)
            (map child_of c.loop-view.children.items) xs (children_from (b g d) [] (records_of (bytes g d)))
            c.loop-view.invariant.children.0)
            (children-next (b g d) (bytes g d) c.loop-view.end (previous g d) (r g d) (rs g d) key next)
            (children-here g d))
            c.in_ok-told.ensures.children.all refl,
      );
      fronts = next.fronts;
      records = AreRecords-next c.args.self.now.level (bytes g d) c.loop-view.end (r g d) (rs g d) (are g d) end same;
      stand = All-rest (StandsIn (bytes g d)) (r g d) (rs g d) c.loop-view.view-iterator c.in-Some.ensures.steps
          c.loop-view.invariant.stand;
      end = omega (arith, stands.within, c.requires.used);
      few = omega (arith, c.in_ok-told.ensures.few, left);
      failures = omega (arith, c.in_ok-told.ensures.told.failures);
    }

-- ---- a record with which it ends

pub returns-in_default-clause-told : goal.returns-in_default-clause-told
returns-in_default-clause-told g c =
    let d = (goal.at.returns-in_default-clause-told g c).After-tell_all in
    WasTold-ok g.F.FaultSink.listed g.F.FaultSink.failures c.args.sink.now c.tell_all.new.sink _ _ Failed
    (told-all g d c.in_ok-told.told (rw c.in_default.is at c.in_ok-told.ensures.leaves)
    c.in_ok-told.ensures.told.faults.all (omega (arith, c.in_ok-told.ensures.count))).0
    (omega (arith, c.loop-view.invariant.failures, c.in_ok-told.ensures.told.failures))

pub returns-in_default-clause-count : goal.returns-in_default-clause-count
returns-in_default-clause-count g c =
    let d = (goal.at.returns-in_default-clause-count g c).After-tell_all in
    let all = told-all g d c.in_ok-told.told (rw c.in_default.is at c.in_ok-told.ensures.leaves)
    c.in_ok-told.ensures.told.faults.all (omega (arith, c.in_ok-told.ensures.count)) in
    omega (
      arith,
      all.1,
      length-map (kinds_from (b g d) (bytes g d) 16 [] (records_of (bytes g d))) (fault_at (b g d) (path g d)),
    )

pub returns-in_default-clause-children : goal.returns-in_default-clause-children
returns-in_default-clause-children g c =
    let d = (goal.at.returns-in_default-clause-children g c).After-tell_all in
    let leaves : Leaves (b g d) (s g d) None = rw c.in_default.is at c.in_ok-told.ensures.leaves in
    Grew-ok _ _ _ _
    (Reached-all _ _ _ _
    (Reached-more _ (map child_of c.loop-view.children.items) _ (children_at (b g d) (s g d)) [] _
    c.loop-view.invariant.children.0 (c.loop-view.invariant.children.0 + length (children_at (b g d) (s g d)))
    (subst (λ (xs : List Child). Reached (map child_of c.args.children.now.items)
    (map child_of c.loop-view.children.items) xs (children_from (b g d) [] (records_of (bytes g d)))
    c.loop-view.invariant.children.0)
    (children-stop (b g d) (bytes g d) c.loop-view.end (previous g d) (r g d) (rs g d) c.requires.used (are g d) leaves)
    (children-here g d))
    c.in_ok-told.ensures.children.all refl)).0

-- ---- a refusal

pub returns-in_err-told-clause-told : goal.returns-in_err-told-clause-told
returns-in_err-told-clause-told g c =
    let d = (goal.at.returns-in_err-told-clause-told g c).After-tell_all in
    let p = err_from_is_err_and c.from_residual.result c.from_residual.ensures.1 in
    WasTold-refused g.F.FaultSink.listed g.F.FaultSink.failures c.args.sink.now c.loop-view.sink c.tell_all.new.sink
    (faults_at (b g d) (path g d) (r g d).offset (kinds_of (b g d) (s g d)))
    (behind (b g d) (bytes g d) c.loop-view.end (previous g d) (r g d) (rs g d) (path g d)) _ c.loop-view.count Failed _
    c.from_residual.result Failed p.0
    (subst (λ (xs : List Fault). Reached (g.F.FaultSink.listed c.args.sink.now) (g.F.FaultSink.listed c.loop-view.sink)
    xs (map (fault_at (b g d) (path g d)) (kinds_from (b g d) (bytes g d) 16 [] (records_of (bytes g d))))
    c.loop-view.count)
    (told-behind (b g d) (bytes g d) c.loop-view.end (previous g d) (r g d) (rs g d) (path g d)) (told-here g d))
    c.loop-view.invariant.failures c.in_err-told.ensures.told p.1 (λ e. sym p.2 ∙ e)

pub returns-in_err-told-clause-children : goal.returns-in_err-told-clause-children
returns-in_err-told-clause-children g c =
    let d = (goal.at.returns-in_err-told-clause-children g c).After-tell_all in
    let p = err_from_is_err_and c.from_residual.result c.from_residual.ensures.1 in
    Grew-err _ _ _ c.from_residual.result p.0 p.1
    (IsCut-more _ (map child_of c.loop-view.children.items) _ (children_at (b g d) (s g d))
    (more_children (b g d) (bytes g d) c.loop-view.end (previous g d) (r g d) (rs g d)) _
    c.loop-view.invariant.children.0
    (subst (λ (xs : List Child). Reached (map child_of c.args.children.now.items)
    (map child_of c.loop-view.children.items) xs (children_from (b g d) [] (records_of (bytes g d)))
    c.loop-view.invariant.children.0)
    (children-behind (b g d) (bytes g d) c.loop-view.end (previous g d) (r g d) (rs g d)) (children-here g d))
    c.in_err-told.ensures.children.some)

-- ---- behind the last record

module _ (g : Over) (c : After-tell_size g) where
  abbrev reading-here : law.BlockReading
  reading-here = reading c.args.self.now

  abbrev all-faults : List Fault
  all-faults =
      map (fault_at reading-here c.args.self.now.at.now.path)
      (kinds_from reading-here c.args.bytes.now 16 [] (records_of c.args.bytes.now))

  abbrev last-faults : List Fault
  last-faults =
      faults_at reading-here c.args.self.now.at.now.path c.loop-view.end
      (size_kinds reading-here.level (bytes_left c.args.bytes.now c.loop-view.end))

  told-end : Reached (g.F.FaultSink.listed c.args.sink.now) (g.F.FaultSink.listed c.loop-view.sink) (last-faults
      ++ []) all-faults c.loop-view.count
  told-end =
      subst (λ (xs : List Fault). Reached (g.F.FaultSink.listed c.args.sink.now) (g.F.FaultSink.listed c.loop-view.sink)
      xs all-faults c.loop-view.count) (sym (append-nil last-faults))
      (subst (λ (xs : List Record). Reached (g.F.FaultSink.listed c.args.sink.now)
      (g.F.FaultSink.listed c.loop-view.sink) (map (fault_at reading-here c.args.self.now.at.now.path)
      (kinds_from reading-here c.args.bytes.now c.loop-view.end c.loop-view.previous.items xs)) all-faults
      c.loop-view.count) c.in-None.ensures.steps.0
      c.loop-view.invariant.told)

  children-end : Reached (map child_of c.args.children.now.items) (map child_of c.loop-view.children.items) []
      (children_from reading-here [] (records_of c.args.bytes.now)) c.loop-view.invariant.children.0
  children-end =
      subst (λ (xs : List Record). Reached (map child_of c.args.children.now.items)
      (map child_of c.loop-view.children.items) (children_from reading-here c.loop-view.previous.items xs)
      (children_from reading-here [] (records_of c.args.bytes.now)) c.loop-view.invariant.children.0)
      c.in-None.ensures.steps.0
      c.loop-view.invariant.children.1

  told-last : (n : ℕ) → g.F.FaultSink.listed c.tell_size.new.sink ≡ g.F.FaultSink.listed c.loop-view.sink ++ last-faults
      → n ≡ length (size_kinds reading-here.level (bytes_left c.args.bytes.now c.loop-view.end))
      → (g.F.FaultSink.listed c.tell_size.new.sink ≡ g.F.FaultSink.listed c.args.sink.now ++ all-faults)
      × (c.loop-view.count + n ≡ length all-faults)
  told-last n ok count =
      Reached-all _ _ _ _ (Reached-more _ (g.F.FaultSink.listed c.loop-view.sink) _ last-faults [] _ c.loop-view.count _
      told-end ok
      (omega (
        arith,
        count,
        length-faults reading-here c.args.self.now.at.now.path c.loop-view.end
            (size_kinds reading-here.level (bytes_left c.args.bytes.now c.loop-view.end)),
      )))

pub returns-in_err-last-clause-told : goal.returns-in_err-last-clause-told
returns-in_err-last-clause-told g c =
    let d = (goal.at.returns-in_err-last-clause-told g c).After-tell_size in
    let p = err_from_is_err_and c.from_residual-in_err-last.result c.from_residual-in_err-last.ensures.1 in
    WasTold-refused g.F.FaultSink.listed g.F.FaultSink.failures c.args.sink.now c.loop-view.sink c.tell_size.new.sink
    (last-faults g d) [] _ c.loop-view.count Failed _ c.from_residual-in_err-last.result Failed p.0
    (told-end g d) c.loop-view.invariant.failures c.in_err-last.ensures.told p.1 (λ e. sym p.2 ∙ e)

pub returns-in_err-last-clause-children : goal.returns-in_err-last-clause-children
returns-in_err-last-clause-children g c =
    let d = (goal.at.returns-in_err-last-clause-children g c).After-tell_size in
    let p = err_from_is_err_and c.from_residual-in_err-last.result c.from_residual-in_err-last.ensures.1 in
    Grew-err _ _ _ c.from_residual-in_err-last.result p.0 p.1
    (IsCut-stop _ _ _ _ _ c.loop-view.invariant.children.0 (children-end g d) refl)

pub returns-clause-told : goal.returns-clause-told
returns-clause-told g c =
    let d = (goal.at.returns-clause-told g c).After-tell_size in
    WasTold-ok g.F.FaultSink.listed g.F.FaultSink.failures c.args.sink.now c.tell_size.new.sink _ _ Failed
    (told-last g d c.in_ok-last.last c.in_ok-last.ensures.told.faults.all (omega (arith, c.in_ok-last.ensures.count))).0
    (omega (arith, c.loop-view.invariant.failures, c.in_ok-last.ensures.told.failures))

pub returns-clause-count : goal.returns-clause-count
returns-clause-count g c =
    let d = (goal.at.returns-clause-count g c).After-tell_size in
    (told-last g d c.in_ok-last.last c.in_ok-last.ensures.told.faults.all (omega (arith, c.in_ok-last.ensures.count))).1
    ∙ length-map (kinds_from (reading-here g d) c.args.bytes.now 16 [] (records_of c.args.bytes.now))
    (fault_at (reading-here g d) c.args.self.now.at.now.path)

pub returns-clause-children : goal.returns-clause-children
returns-clause-children g c =
    let d = (goal.at.returns-clause-children g c).After-tell_size in
    Grew-ok _ _ _ _ (Reached-all _ _ _ _ (children-end g d)).0
