use Rattle.std.proofs.Common.{◌≡◌, ◌<◌, ℕ, true, false, List, [], ◌∷◌, ◌++◌, refl, sym, ap}
use Rattle.std.proofs.Common.{subst, ◌∙◌, arith, length-append}
use Rattle.std.proofs.lemmas.Bool.{not-true, not-false}
use Rattle.std.proofs.lemmas.Result.{err_from_is_err_and}
use Rattle.gds_header.specs.Fields.{block_of}
use Rattle.gds_law.specs.Block.{faults_of_block}
use Rattle.gds_law.specs.Sink.{IsCut}
use Rattle.gds_law.specs.Tree.{tree_faults}
use Rattle.gds_law.specs.Visit.{visit_of}
use Rattle.gds_law.specs.Visit as law
use Rattle.integ_walk.specs.BlockSet.{has_block}
use Rattle.integ_walk.specs.Frame.{state_of, link_of}
use Rattle.integ_walk.specs.Link.{Link, path_to, double_of}
use Rattle.integ_walk.specs.Walker.{State, IsState, entered, work_left, with_link}
use Rattle.integ_walk.proofs.ResultLemmas.{only_err}
use Rattle.integ_walk.proofs.StateLemmas.{with_same, state_tail, next_sound, state_past, behind, state_entered, on_at}
use Rattle.integ_walk.proofs.StateLemmas.{on_front, on_past, on_entered, on_entering}
use Rattle.integ_walk.proofs.walker.Walker.follow.Given.{Over}
use Rattle.integ_walk.proofs.walker.Walker.follow.Goals as goal
use Rattle.integ_walk.proofs.walker.Walker.follow.Goals.{In_ok-enter}

-- ---- what the calls need

pub insert-is_new-requires : goal.insert-is_new-requires
insert-is_new-requires g c =
    let sound = next_sound (state_of c.args.header.now c.args.self.now) (link_of c.args.link) c.requires.state in
    omega (arith, sound.within, c.requires.state.room)

pub into_at-requires : goal.into_at-requires
into_at-requires g c =
    let link = link_of c.args.link in
    let sound = next_sound (state_of c.args.header.now c.args.self.now) link c.requires.state in
    omega (arith, sound.short, length-append link.path ((link.block, link.child.offset) ∷ []))

pub enter-requires-clause-within : goal.enter-requires-clause-within
enter-requires-clause-within g c =
    let sound = next_sound (state_of c.args.header.now c.args.self.now) (link_of c.args.link) c.requires.state in
    omega (arith, sound.within, ap (λ v. (visit_of v).block) c.into_at.ensures.visit)

-- ---- entering a block

module _ (g : Over) (c : In_ok-enter g) where
  abbrev s : State
  s = state_of c.args.header.now c.args.self.now

  abbrev link : Link
  link = link_of c.args.link

  abbrev used : List ℕ
  used = c.insert-is_new.new.self.bytes.items

  abbrev bytes : List ℕ
  bytes = c.enter.new.self.block.items

  free : has_block s.used link.child.visit.block ≡ false
  free = not-true _ (sym c.insert-is_new.ensures.is_new ∙ c.if-is_new.true)

  visit : visit_of c.into_at.result.visit ≡ link.child.visit
  visit = ap visit_of c.into_at.ensures.visit

  state : state_of c.args.header.now c.enter.new.self ≡ behind s link.child.visit (path_to link) bytes used
  state = c.in_ok-enter.ensures.entered
      ∙ (λ i. entered (record s { used = used }) (visit i) (c.into_at.ensures.path i) bytes)

  step : IsState (behind s link.child.visit (path_to link) bytes used)
      × (work_left (behind s link.child.visit (path_to link) bytes used) < work_left s)
  step =
      let sound = next_sound s link c.requires.state in
      state_entered s link.child.visit (path_to link) bytes used (state_tail s link c.requires.state)
      (omega (
        arith,
        c.in_ok-enter.ensures.buffer,
        c.requires.buffer,
      )) sound.short sound.within c.insert-is_new.ensures.blocks free c.insert-is_new.ensures.room

pub returns-in_ok-enter-clause-state : goal.returns-in_ok-enter-clause-state
returns-in_ok-enter-clause-state g c = subst IsState (sym (state g c)) (step g c).0

pub returns-in_ok-enter-clause-less : goal.returns-in_ok-enter-clause-less
returns-in_ok-enter-clause-less g c =
    let work : work_left (state_of c.args.header.now c.enter.new.self)
    ≡ work_left (behind (s g c) (link g c).child.visit (path_to (link g c)) (bytes g c) (used g c)) =
    ap work_left (state g c) in
    omega (arith, work, (step g c).1)

pub returns-in_ok-enter-clause-on : goal.returns-in_ok-enter-clause-on
returns-in_ok-enter-clause-on g c x tells kept reached start ak ar on =
    let now = g.F.FaultSink.listed c.args.sink.now in
    let new = g.F.FaultSink.listed c.enter.new.sink in
    let v = (link g c).child.visit in
    let path = path_to (link g c) in
    let read : bytes g c ≡ block_of x v.block = c.in_ok-enter.ensures.read x tells
    ∙ ap (λ (w : law.Visit). block_of x w.block) (visit g c) in
    let is : state_of c.args.header.now c.enter.new.self ≡ behind (s g c) v path (block_of x v.block) (used g c) =
    state g c ∙ ap (λ b. behind (s g c) v path b (used g c)) read in
    let listed : new ≡ now ++ faults_of_block (s g c).header path v (block_of x v.block) =
    (c.in_ok-enter.ensures.told x tells).all
    ∙ (λ i. now
    ++ faults_of_block (s g c).header (c.into_at.ensures.path i) (visit g c i) (block_of x (visit g c i).block)) in (
      on_at x kept reached ak ar start _ new _ (state_of c.args.header.now c.enter.new.self) listed is
          (on_entered x kept reached ak ar start (s g c) (used g c) (c.requires.header x tells) now (link g c)
          c.insert-is_new.ensures.blocks (free g c) on),
      tt,
    )

pub returns-in_err-enter-clause-on : goal.returns-in_err-enter-clause-on
returns-in_err-enter-clause-on g c x tells kept reached start ak ar on =
    let s = state_of c.args.header.now c.args.self.now in
    let link = link_of c.args.link in
    let used = c.insert-is_new.new.self.bytes.items in
    let now = g.F.FaultSink.listed c.args.sink.now in
    let new = g.F.FaultSink.listed c.enter.new.sink in
    let free : has_block s.used link.child.visit.block ≡ false =
    not-true _ (sym c.insert-is_new.ensures.is_new ∙ c.if-is_new.true) in
    let visit : visit_of c.into_at.result.visit ≡ link.child.visit = ap visit_of c.into_at.ensures.visit in
    let due : faults_of_block s.header c.into_at.result.path (visit_of c.into_at.result.visit)
    (block_of x c.into_at.result.visit.block)
    ≡ faults_of_block s.header (path_to link) link.child.visit (block_of x link.child.visit.block) =
    λ i. faults_of_block s.header (c.into_at.ensures.path i) (visit i) (block_of x (visit i).block) in
    let cut = subst (IsCut now new) due (c.in_err-enter.ensures.told x tells).some in
    let p = err_from_is_err_and c.from_residual.result c.from_residual.ensures.1 in
    only_err c.from_residual.result p.0 _ _ p.1
    (on_entering x kept reached ak ar start s used (c.requires.header x tells) now link c.insert-is_new.ensures.blocks
    free on new cut)

-- ---- passing one

module _ (g : Over) (c : goal.After-self-1 g) where
  taken : has_block (state_of c.args.header.now c.args.self.now).used (link_of c.args.link).child.visit.block ≡ true
  taken = not-false _ (sym c.insert-is_new.ensures.is_new ∙ c.if-is_new.false)

  same : (b : ℕ) → has_block c.insert-is_new.new.self.bytes.items b
      ≡ has_block (state_of c.args.header.now c.args.self.now).used b
  same = with_same (state_of c.args.header.now c.args.self.now).used c.insert-is_new.new.self.bytes.items
      (link_of c.args.link).child.visit.block c.insert-is_new.ensures.blocks taken

pub returns-in_ok-fault-clause-state : goal.returns-in_ok-fault-clause-state
returns-in_ok-fault-clause-state g c =
    (state_past (state_of c.args.header.now c.args.self.now) (link_of c.args.link)
    c.insert-is_new.new.self.bytes.items (same g c) c.insert-is_new.ensures.room c.requires.state).0

pub returns-in_ok-fault-clause-less : goal.returns-in_ok-fault-clause-less
returns-in_ok-fault-clause-less g c =
    (state_past (state_of c.args.header.now c.args.self.now) (link_of c.args.link)
    c.insert-is_new.new.self.bytes.items (same g c) c.insert-is_new.ensures.room c.requires.state).1

pub returns-in_ok-fault-clause-on : goal.returns-in_ok-fault-clause-on
returns-in_ok-fault-clause-on g c x tells kept reached start ak ar on =
    let s = state_of c.args.header.now c.args.self.now in
    let link = link_of c.args.link in
    let now = g.F.FaultSink.listed c.args.sink.now in
    let new = g.F.FaultSink.listed c.fault.new.self in
    let listed : new ≡ now ++ double_of link ∷ [] = c.in_ok-fault.ensures.ok
    ∙ ap (λ f. now ++ f ∷ []) c.into_fault.ensures in (
      on_at x kept reached ak ar start _ new _ _ listed refl
          (on_past x kept reached ak ar start now s link c.insert-is_new.new.self.bytes.items (same g c) (taken g c)
          on),
      tt,
    )

pub returns-in_err-fault-clause-on : goal.returns-in_err-fault-clause-on
returns-in_err-fault-clause-on g c x tells kept reached start ak ar on =
    let now = g.F.FaultSink.listed c.args.sink.now in
    let p = err_from_is_err_and c.from_residual-in_err-fault.result c.from_residual-in_err-fault.ensures.1 in
    only_err c.from_residual-in_err-fault.result p.0 _ _ p.1
    (subst (λ fs. IsCut start fs (tree_faults x kept reached)) (sym c.in_err-fault.ensures.err)
    (on_front x kept reached ak ar start now
    (with_link (link_of c.args.link) (state_of c.args.header.now c.args.self.now)) on))
