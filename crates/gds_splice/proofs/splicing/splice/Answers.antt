use Rattle.std.proofs.Common.{◌≡◌, ◌+◌, ◌≤◌, ◌∷◌, ◌++◌, [], false, List, ℕ, Option, length, ap, refl, ◌∙◌, subst, arith}
use Rattle.std.specs.Prelude.{IfSome, ◌==◌}
use Rattle.std.proofs.lemmas.Result.{on_ok_weaker}
use Rattle.host_model.proofs.FailureLemmas.{NeverFell-refl, NeverFell-trans}
use Rattle.gds_block.specs.Item.{Item}
use Rattle.gds_draft.specs.Drafted.{drafted}
use Rattle.gds_find.specs.declared.trail.Step.{Step}
use Rattle.gds_header.specs.declared.header.Header.{Header}
use Rattle.gds_pack.specs.Entry.{items}
use Rattle.gds_splice.specs.NodePut.{PutsNode}
use Rattle.gds_splice.specs.declared.node.Node.{Node}
use Rattle.gds_splice.specs.declared.parts.Parts.{Parts}
use Rattle.gds_splice.proofs.DraftingLemmas.{same_image}
use Rattle.gds_splice.proofs.EndingLemmas.{parting_ends, parting_exit, reading_exit}
use Rattle.gds_splice.proofs.EntriesPutLemmas.{drafted_fields}
use Rattle.gds_splice.proofs.SpliceUpLemmas.{cannot_put, cannot_read, cannot_up, deep_here, deep_up, in_place}
use Rattle.gds_splice.proofs.SpliceUpLemmas.{never_up, put_here, put_up}
use Rattle.gds_splice.proofs.splicing.splice.Goals as goal

pub returns-in_err-node-clause-ends : goal.returns-in_err-node-clause-ends
returns-in_err-node-clause-ends g c =
    let now = g.H.Host.failures c.args.base.now.host in
    let outer : List Step = c.in-Some.outer.now in
    reading_exit Node (Unit {0}) now now (g.H.Host.failures c.read_spliced.new.base.host) _ _ _
    c.in_err-node.field-0.0 c.from_residual.result (NeverFell-refl now)
    (λ cannot image told. cannot_read (drafted c.args.draft.now image) c.args.steps.now outer c.in-Some.step.now
    (length outer == 0) c.args.taken (items c.args.put.items) c.in-Some.ensures.cases.0 refl (cannot image told))
    c.from_residual.ensures.1 c.in_err-node.ensures.ends

pub returns-in_err-own-clause-ends : goal.returns-in_err-own-clause-ends
returns-in_err-own-clause-ends g c =
    let h = g.H.Host in
    let steps : List Step = c.args.steps.now in
    let outer : List Step = c.in-Some.outer.now in
    let step : Step = c.in-Some.step.now in
    let is : steps ≡ outer ++ step ∷ [] = c.in-Some.ensures.cases.0 in
    let top : c.is_empty.result ≡ (length outer == 0) = c.is_empty.ensures in
    let put : List Item = items c.args.put.items in
    let node : Node = c.in_ok-node.node in
    let read = c.in_ok-node.ensures.read in
    parting_exit (Option Parts) (Unit {0}) (h.failures c.args.base.now.host)
    (h.failures c.read_spliced.new.base.host) (h.failures c.put_node.new.base.host) _ _ _ _
    c.in_err-own.field-0.0 c.from_residual-in_err-own.result
    read.read.failures
    (λ cannot image told.
    let told' = same_image h.told h.moment h.failures h.left_since c.args.base.now c.read_spliced.new.base read
    ∙ told in
    cannot_put (drafted c.args.draft.now image) steps outer step c.is_empty.result c.args.taken put is top node
    (c.in_ok-node.ensures.spliced image told)
    (cannot image told'))
    (λ high image told.
    let told' = same_image h.told h.moment h.failures h.left_since c.args.base.now c.read_spliced.new.base read
    ∙ told in
    deep_here (drafted c.args.draft.now image) steps outer step c.is_empty.result c.args.taken put is top node
    (c.in_ok-node.ensures.spliced image told)
    (high image told'))
    c.from_residual-in_err-own.ensures.1 c.in_err-own.ensures.ends

pub returns-in_default-2-clause-spliced : goal.returns-in_default-2-clause-spliced
returns-in_default-2-clause-spliced g c image told =
    let h = g.H.Host in
    let steps : List Step = c.args.steps.now in
    let outer : List Step = c.in-Some.outer.now in
    let step : Step = c.in-Some.step.now in
    let is : steps ≡ outer ++ step ∷ [] = c.in-Some.ensures.cases.0 in
    let top : c.is_empty.result ≡ (length outer == 0) = c.is_empty.ensures in
    let put : List Item = items c.args.put.items in
    let node : Node = c.in_ok-node.node in
    let read = c.in_ok-node.ensures.read in
    let file : List ℕ = drafted c.args.draft.now image in
    let mid : List ℕ = drafted c.put_node.new.draft image in
    let told' = same_image h.told h.moment h.failures h.left_since c.args.base.now c.read_spliced.new.base read
    ∙ told in
    put_here file steps outer step c.is_empty.result c.args.taken put is top node
    (c.in_ok-node.ensures.spliced image told) mid
    (subst (λ own. PutsNode step.block c.is_empty.result node own file mid) c.in_default-2.is
    (c.in_ok-own.ensures.put image told'))

pub returns-in_default-2-clause-in_place : goal.returns-in_default-2-clause-in_place
returns-in_default-2-clause-in_place g c image told root above v level p middle s none =
    let file : List ℕ = drafted c.args.draft.now image in
    c.in_ok-own.ensures.one (omega (
      arith,
      in_place file c.args.steps.now c.in-Some.outer.now c.in-Some.step.now c.is_empty.result c.args.taken
          (items c.args.put.items) c.in-Some.ensures.cases.0 c.is_empty.ensures c.in_ok-node.node
          (c.in_ok-node.ensures.spliced image told) root above v level p middle s none,
      ap (λ (x : Header). x.block_size) (drafted_fields image c.args.draft.now (c.hold_draft.ensures image told)),
    ))

pub returns-clause-in_place : goal.returns-clause-in_place
returns-clause-in_place g c =
    let h = g.H.Host in
    let up = subst (λ own. IfSome own (λ _. (c.is_empty.result ≡ false)
    × (c.args.draft.now.header.free ≤ c.put_node.new.draft.header.free + 2))) c.in-Some-2.is c.in_ok-own.ensures.up in
    on_ok_weaker c.part.result (λ rest image told root above v level p middle s none.
    let file : List ℕ = drafted c.args.draft.now image in
    let mid : List ℕ = drafted c.put_node.new.draft image in
    let told' = same_image h.told h.moment h.failures h.left_since c.args.base.now c.read_spliced.new.base
    c.in_ok-node.ensures.read ∙ told in
    absurd (never_up file c.args.steps.now c.in-Some.outer.now c.in-Some.step.now c.is_empty.result c.args.taken
    (items c.args.put.items) c.in-Some.ensures.cases.0 c.is_empty.ensures c.in_ok-node.node
    (c.in_ok-node.ensures.spliced image told) mid c.in-Some-2.own up.0
    (subst (λ own. PutsNode c.in-Some.step.now.block c.is_empty.result c.in_ok-node.node own file mid) c.in-Some-2.is
    (c.in_ok-own.ensures.put image told')) root above v level p middle s none))
    c.part.ensures.parted

pub returns-clause-spliced : goal.returns-clause-spliced
returns-clause-spliced g c =
    let h = g.H.Host in
    let steps : List Step = c.args.steps.now in
    let outer : List Step = c.in-Some.outer.now in
    let step : Step = c.in-Some.step.now in
    let is : steps ≡ outer ++ step ∷ [] = c.in-Some.ensures.cases.0 in
    let top : c.is_empty.result ≡ (length outer == 0) = c.is_empty.ensures in
    let put : List Item = items c.args.put.items in
    let node : Node = c.in_ok-node.node in
    let read = c.in_ok-node.ensures.read in
    let up = subst (λ own. IfSome own (λ _. (c.is_empty.result ≡ false)
    × (c.args.draft.now.header.free ≤ c.put_node.new.draft.header.free + 2))) c.in-Some-2.is c.in_ok-own.ensures.up in
    on_ok_weaker c.part.result (λ rest image told.
    let file : List ℕ = drafted c.args.draft.now image in
    let mid : List ℕ = drafted c.put_node.new.draft image in
    let told' = same_image h.told h.moment h.failures h.left_since c.args.base.now c.read_spliced.new.base read
    ∙ told in
    let told'' = same_image h.told h.moment h.failures h.left_since c.read_spliced.new.base c.put_node.new.base
    c.in_ok-own.ensures.drafts.read ∙ told' in
    put_up file steps outer step c.is_empty.result c.args.taken put is top node
    (c.in_ok-node.ensures.spliced image told) mid
    c.in-Some-2.own up.0
    (subst (λ own. PutsNode step.block c.is_empty.result node own file mid) c.in-Some-2.is
    (c.in_ok-own.ensures.put image told'))
    (drafted c.part.new.draft image) (rest image told''))
    c.part.ensures.parted

pub returns-clause-ends : goal.returns-clause-ends
returns-clause-ends g c =
    let h = g.H.Host in
    let steps : List Step = c.args.steps.now in
    let outer : List Step = c.in-Some.outer.now in
    let step : Step = c.in-Some.step.now in
    let is : steps ≡ outer ++ step ∷ [] = c.in-Some.ensures.cases.0 in
    let top : c.is_empty.result ≡ (length outer == 0) = c.is_empty.ensures in
    let put : List Item = items c.args.put.items in
    let node : Node = c.in_ok-node.node in
    let read = c.in_ok-node.ensures.read in
    let up = subst (λ own. IfSome own (λ _. (c.is_empty.result ≡ false)
    × (c.args.draft.now.header.free ≤ c.put_node.new.draft.header.free + 2))) c.in-Some-2.is c.in_ok-own.ensures.up in
    parting_ends (Unit {0}) (h.failures c.args.base.now.host) (h.failures c.put_node.new.base.host)
    (h.failures c.part.new.base.host) _ _ _ _ c.part.result
    (NeverFell-trans (h.failures c.args.base.now.host) (h.failures c.read_spliced.new.base.host)
    (h.failures c.put_node.new.base.host) read.read.failures c.in_ok-own.ensures.drafts.read.read.failures)
    (λ cannot image told.
    let file : List ℕ = drafted c.args.draft.now image in
    let mid : List ℕ = drafted c.put_node.new.draft image in
    let told' = same_image h.told h.moment h.failures h.left_since c.args.base.now c.read_spliced.new.base read
    ∙ told in
    let told'' = same_image h.told h.moment h.failures h.left_since c.read_spliced.new.base c.put_node.new.base
    c.in_ok-own.ensures.drafts.read ∙ told' in
    cannot_up file steps outer step c.is_empty.result c.args.taken put is top node
    (c.in_ok-node.ensures.spliced image told) mid
    c.in-Some-2.own up.0
    (subst (λ own. PutsNode step.block c.is_empty.result node own file mid) c.in-Some-2.is
    (c.in_ok-own.ensures.put image told'))
    (omega (
      arith,
      up.1,
      ap (λ (x : Header). x.free) (drafted_fields image c.args.draft.now (c.hold_draft.ensures image told)),
      ap (λ (x : Header). x.free) (drafted_fields image c.put_node.new.draft
          (c.hold_draft-2.ensures image told'')),
    ))
    (cannot image told''))
    (λ grows image told.
    let file : List ℕ = drafted c.args.draft.now image in
    let mid : List ℕ = drafted c.put_node.new.draft image in
    let told' = same_image h.told h.moment h.failures h.left_since c.args.base.now c.read_spliced.new.base read
    ∙ told in
    let told'' = same_image h.told h.moment h.failures h.left_since c.read_spliced.new.base c.put_node.new.base
    c.in_ok-own.ensures.drafts.read ∙ told' in
    deep_up file steps outer step c.is_empty.result c.args.taken put is top node
    (c.in_ok-node.ensures.spliced image told) mid
    c.in-Some-2.own up.0
    (subst (λ own. PutsNode step.block c.is_empty.result node own file mid) c.in-Some-2.is
    (c.in_ok-own.ensures.put image told'))
    (grows image told''))
    c.part.ensures.ends
