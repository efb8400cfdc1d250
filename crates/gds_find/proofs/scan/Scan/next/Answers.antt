use Rattle.std.proofs.Common.{◌∙◌, sym}
use Rattle.std.proofs.lemmas.Bool.{true≢false}
use Rattle.gds_find.proofs.scan.Scan.next.Goals as goal

pub returns-then-self-clause-ends : goal.returns-then-self-clause-ends
returns-then-self-clause-ends g c image told v has passed is =
    true≢false (sym (c.in_ok-step.ensures c.if-self.true has.tree.items passed is).0 ∙ c.if-branch.false)
