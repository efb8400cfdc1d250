use Rattle.std.proofs.Common.{◌∙◌, Bool, ap, sym, arith}
use Rattle.gds_header.specs.declared.header.Header.{Header}
use Rattle.gds_splice.proofs.DraftingLemmas.{ends_exit, same_image}
use Rattle.gds_splice.proofs.EntriesPutLemmas.{drafted_fields}
use Rattle.gds_units.specs.State.{image_of}
use Rattle.m_key.specs.Reference.{name_bytes}
use Rattle.gds_globals.specs.Killing.{name_node}
use Rattle.gds_globals.proofs.NameLemmas.{bare_key}
use Rattle.gds_globals.proofs.TakingLemmas.{drops_there, not_directory_there}
use Rattle.gds_globals.proofs.taking.drop_global.Goals as goal
use Rattle.gds_globals.proofs.taking.drop_global.Goals.{then-root-header-via-then-root-header}
use Rattle.gds_globals.proofs.taking.drop_global.Goals.{then-root-header-via-else-root-header+then-root-eq0}

pub returns-then-root-header-clause-ends : goal.returns-then-root-header-clause-ends
returns-then-root-header-clause-ends g c x tells d may =
    let fields = drafted_fields x c.args.draft.now (c.hold_draft.ensures x tells) in
    elim c.then-root-header.branch [
      | then-root-header-via-then-root-header w ↦
          omega (
            arith,
            may.number.within,
            w.if-root-header,
            ap (λ (h : Header). h.total) fields,
            ap (λ (h : Header). h.total) c.header.ensures.header,
          )
      | then-root-header-via-else-root-header+then-root-eq0 w ↦
          may.number.no_map (omega (arith, w.if-root-eq0))
    ]

pub returns-in_err-kill_in-clause-ends : goal.returns-in_err-kill_in-clause-ends
returns-in_err-kill_in-clause-ends g c =
    let h = g.H.Host in
    let read = c.free_block.ensures.drafts.read in
    let same = same_image h.told h.moment h.failures h.left_since c.args.base.now c.free_block.new.self read in
    ends_exit Bool _ (h.failures c.args.base.now.host) (h.failures c.free_block.new.self.host)
    (h.failures c.kill_in.new.base.host) _ _ c.in_err-kill_in.field-0.0 c.from_residual-in_err-kill_in.result
    read.read.failures
    (not_directory_there (image_of c.args.base.now) c.args.draft.now c.free_block.new.draft c.args.root
    (name_bytes c.args.name.now) c.in_ok-free_block.ensures.freed (image_of c.free_block.new.self) same)
    c.from_residual-in_err-kill_in.ensures.1 c.in_err-kill_in.ensures.ends

pub returns-clause-dropped : goal.returns-clause-dropped
returns-clause-dropped g c =
    let h = g.H.Host in
    let read = c.free_block.ensures.drafts.read in
    let same = same_image h.told h.moment h.failures h.left_since c.args.base.now c.free_block.new.self read in
    let name = name_bytes c.args.name.now in
    drops_there (image_of c.args.base.now) c.args.draft.now c.free_block.new.draft c.args.root name
    c.in_ok-free_block.ensures.freed (image_of c.free_block.new.self) same c.kill_in.new.draft c.deref-2.result.now
    c.deref-3.result.now c.in_ok-kill_in.field-0 (c.deref-2.ensures.0 ∙ c.directory_key-key.ensures.key)
    (c.deref-3.ensures.0 ∙ c.past_key-past.ensures (name_node name)
    (c.deref.ensures.0 ∙ c.directory_key-key.ensures.key ∙ sym (bare_key name)))
    c.in_ok-kill_in.ensures.killed
