use Rattle.std.proofs.Common.{arith, subst, sym, ◌∙◌}
use Rattle.std.proofs.lemmas.Bool.{false≢true}
use Rattle.m_key.specs.Key.{Below}
use Rattle.m_key.specs.KeyEnd.{IsKey}
use Rattle.gds_splice.proofs.PackableLemmas.{not_next}
use Rattle.gds_splice.proofs.packable.are_index.Goals as goal

pub returns-then-not-is_next : goal.returns-then-not-is_next
returns-then-not-is_next c = (
  λ e. absurd (false≢true e),
  λ are. absurd (not_next c.loop-i.previous.now c.args.entries.now c.loop-i.i c.index-entries-i.result (omega arith)
      c.index-entries-i.is
      (λ next. absurd (false≢true (sym c.if-not-is_next.true ∙ c.is_next.ensures.1 (
        subst IsKey (sym c.as_slice.ensures.value) next.0,
        subst (Below c.loop-i.previous.now) (sym c.as_slice.ensures.value) next.1,
      ))))
      (c.loop-i.invariant.1 are)),
)
