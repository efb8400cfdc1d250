use Rattle.std.proofs.Common.{◌<◌, [], ◌∷◌, ℕ, List, ap, sym, ◌∙◌, subst, arith}
use Rattle.std.proofs.lemmas.Result.{on_ok_weaker}
use Rattle.host_model.proofs.FailureLemmas.{NeverFell-refl}
use Rattle.gds_draft.specs.Drafted.{drafted}
use Rattle.gds_header.specs.declared.header.Header.{Header}
use Rattle.gds_splice.specs.Divided.{MayPut}
use Rattle.gds_splice.specs.Writing.{PutsEntries}
use Rattle.gds_splice.proofs.DraftingLemmas.{ends_exit, same_header, same_image}
use Rattle.gds_splice.proofs.EntriesPutLemmas.{drafted_fields}
use Rattle.gds_remove.proofs.EmptyingLemmas.{emptied, may_put_none, may_put_star, sized}
use Rattle.gds_remove.proofs.NodeLemmas.{ends_then}
use Rattle.gds_remove.proofs.WritesLemmas.{OnlyWrites-drafts, OnlyWrites-weaker}
use Rattle.gds_remove.proofs.emptying.put_empty_directory.Goals as goal

pub returns-in_err-leaf-clause-drafts : goal.returns-in_err-leaf-clause-drafts
returns-in_err-leaf-clause-drafts g c =
    let h = g.H.Host in
    OnlyWrites-weaker h.told h.moment h.failures h.left_since c.args.base.now c.take_block.new.self c.args.draft.now
    c.take_block.new.draft 0 2 (omega arith)
    (OnlyWrites-drafts h.told h.moment h.failures h.left_since c.args.base.now c.take_block.new.self c.args.draft.now
    c.take_block.new.draft 1 c.take_block.ensures.drafts c.take_block.ensures.maps)

pub returns-in_err-leaf-clause-ends : goal.returns-in_err-leaf-clause-ends
returns-in_err-leaf-clause-ends g c =
    let now = g.H.Host.failures c.args.base.now.host in
    ends_exit ℕ _ now now (g.H.Host.failures c.take_block.new.self.host) _ _ c.in_err-leaf.field-0.0
    c.from_residual.result (NeverFell-refl now)
    (λ cannot image is lawful free. cannot image is lawful
    (subst (λ (h : Header). 0 < h.free) (drafted_fields image c.args.draft.now (c.hold_draft.ensures image is)) free))
    c.from_residual.ensures.1 c.in_err-leaf.ensures.ends

pub returns-in_err-put_left-clause-ends : goal.returns-in_err-put_left-clause-ends
returns-in_err-put_left-clause-ends g c =
    let h = g.H.Host in
    let read = c.in_ok-leaf.ensures.drafts.read in
    let there = h.failures c.take_block.new.self.host in
    ends_exit (Unit {0}) (Unit {0}) (h.failures c.args.base.now.host) there there _ _ c.in_err-put_left.field-0.0
    c.from_residual-in_err-put_left.result read.read.failures
    (λ cannot image is lawful free. cannot (may_put_none c.take_block.new.self.header (omega (
      arith,
      sized (drafted c.args.draft.now image) lawful,
      ap (λ (x : Header). x.block_size)
          (drafted_fields image c.args.draft.now (c.hold_draft.ensures image is)),
      c.requires.draft.block_size,
      ap (λ (x : Header). x.block_size)
          (same_header h.told h.moment h.failures h.left_since c.args.base.now c.take_block.new.self read),
    ))))
    c.from_residual-in_err-put_left.ensures.1 c.in_err-put_left.ensures.ends

pub returns-clause-put : goal.returns-clause-put
returns-clause-put g c =
    let h = g.H.Host in
    let read = c.in_ok-leaf.ensures.drafts.read in
    on_ok_weaker c.put_left-2.result (λ put image is lawful busy.
    let told = same_image h.told h.moment h.failures h.left_since c.args.base.now c.take_block.new.self read ∙ is in
    let m1 : List ℕ = drafted c.take_block.new.draft image in
    let m2 : List ℕ = drafted c.put_left.new.draft image in
    let after : List ℕ = drafted c.put_left-2.new.draft image in
    emptied (drafted c.args.draft.now image) m1 m2 after c.in_ok-leaf.leaf lawful busy
    (c.in_ok-leaf.ensures.taken image is lawful) (c.in_ok-put_left.ensures.put image told)
    (subst (PutsEntries m2 after 1 1) (ap (λ e. e ∷ []) c.in_ok-star.ensures) (put image told)))
    c.put_left-2.ensures.put

pub returns-clause-ends : goal.returns-clause-ends
returns-clause-ends g c =
    let h = g.H.Host in
    let read = c.in_ok-leaf.ensures.drafts.read in
    let there = h.failures c.take_block.new.self.host in
    ends_then (Unit {0}) (h.failures c.args.base.now.host) there there _ _ c.put_left-2.result read.read.failures
    (λ cannot image is lawful free. cannot
    (subst (MayPut c.take_block.new.self.header 1) (ap (λ e. e ∷ []) (sym c.in_ok-star.ensures))
    (may_put_star c.take_block.new.self.header c.in_ok-leaf.leaf (omega (
      arith,
      sized (drafted c.args.draft.now image) lawful,
      ap (λ (x : Header). x.block_size)
          (drafted_fields image c.args.draft.now (c.hold_draft.ensures image is)),
      c.requires.draft.block_size,
      ap (λ (x : Header). x.block_size)
          (same_header h.told h.moment h.failures h.left_since c.args.base.now c.take_block.new.self read),
    ))))) c.put_left-2.ensures.ends
