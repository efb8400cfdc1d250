use Rattle.std.proofs.Common.{◌≡◌, ◌∙◌, subst, sym, true≢false}
use Rattle.std.specs.Prelude.{IfSome}
use Rattle.m_key.specs.Key.{key_bytes}
use Rattle.m_key.specs.Reference.{node_of}
use Rattle.gds_globals.proofs.LookingLemmas.{begins_tested}
use Rattle.gds_globals.proofs.looking.node_under.Goals as goal

pub returns-then-not-starts_with-clause-none : goal.returns-then-not-starts_with-clause-none
returns-then-not-starts_with-clause-none c = λ begins.
    true≢false (sym ((begins_tested c.args.front.now c.args.key.now c.starts_with.result c.starts_with.ensures.value).1
    begins) ∙ c.if-not-starts_with.true)

pub returns-clause-some : goal.returns-clause-some
returns-clause-some c = (
  subst (λ o. IfSome o (λ r. key_bytes (node_of r) ≡ c.args.key.now)) c.in-Some.is c.in_ok-found.ensures.some,
  (begins_tested c.args.front.now c.args.key.now c.starts_with.result c.starts_with.ensures.value).0
      c.if-not-starts_with.false,
)
