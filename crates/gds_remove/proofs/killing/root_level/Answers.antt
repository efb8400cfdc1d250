use Rattle.std.proofs.Common.{ℕ, ap, sym, ◌∙◌, subst, arith}
use Rattle.gds_block.specs.Block.{IsBlock, level_of}
use Rattle.gds_draft.specs.Drafted.{drafted}
use Rattle.gds_header.specs.declared.header.Header.{Header}
use Rattle.gds_splice.proofs.EntriesPutLemmas.{drafted_fields}
use Rattle.gds_remove.proofs.KillingLemmas.{cannot_by_block, cannot_by_level, cannot_by_total}
use Rattle.gds_remove.proofs.NodeLemmas.{ends_changed}
use Rattle.gds_remove.proofs.killing.root_level.Goals as goal
use Rattle.gds_remove.proofs.killing.root_level.Goals.{then-level-eq0-via-else-level-eq0+then-level-gt7}
use Rattle.gds_remove.proofs.killing.root_level.Goals.{then-level-eq0-via-then-level-eq0}

pub returns-then-root-header-clause-ends : goal.returns-then-root-header-clause-ends
returns-then-root-header-clause-ends g c =
    let now = g.H.Host.failures c.args.base.now.host in
    ends_changed ℕ now now _ c.changed.result c.changed.ensures (λ image is.
    cannot_by_total (drafted c.args.draft.now image) c.args.root (omega (
      arith,
      c.if-root-header.true,
      ap (λ (h : Header). h.total)
          (drafted_fields image c.args.draft.now (c.hold_draft.ensures image is) ∙ sym c.header.ensures.header),
    )))

pub returns-in_default-clause-ends : goal.returns-in_default-clause-ends
returns-in_default-clause-ends g c =
    let h = g.H.Host in
    ends_changed ℕ (h.failures c.args.base.now.host) (h.failures c.read.follows.lender-at-none.host) _
    c.changed-in_default.result c.changed-in_default.ensures (λ image is.
    cannot_by_block (drafted c.args.draft.now image) c.args.root
    (λ block. c.in_default.ensures (subst IsBlock (sym (c.in_ok-bytes.ensures.bytes image is)) block)))

pub returns-then-level-eq0-clause-ends : goal.returns-then-level-eq0-clause-ends
returns-then-level-eq0-clause-ends g c =
    let h = g.H.Host in
    let level : ℕ = c.level-level.result in
    ends_changed ℕ (h.failures c.args.base.now.host) (h.failures c.read.follows.lender-at-none.host) _
    c.changed-then-level-eq0.result c.changed-then-level-eq0.ensures (λ image is.
    cannot_by_level (drafted c.args.draft.now image) c.args.root level
    (ap level_of (sym (c.in-Some.ensures.1 ∙ c.in_ok-bytes.ensures.bytes image is)) ∙ sym c.level-level.ensures)
    (λ some high. elim c.then-level-eq0.branch [
      | then-level-eq0-via-then-level-eq0 w ↦ omega (arith, w.if-level-eq0.true, some)
      | then-level-eq0-via-else-level-eq0+then-level-gt7 w ↦ omega (arith, w.if-level-gt7.true, high)
    ]))
