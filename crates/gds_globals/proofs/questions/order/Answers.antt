use Rattle.std.proofs.Common.{subst, sym}
use Rattle.std.specs.Prelude.{IfOk, option_map}
use Rattle.std.specs.Option.{ForSome}
use Rattle.gds_units.specs.State.{image_of}
use Rattle.m_key.specs.Reference.{node_of}
use Rattle.gds_globals.specs.Questions.{FindsNext, next_of}
use Rattle.gds_globals.proofs.questions.order.Goals as goal

pub returns-then-first-clause-next : goal.returns-then-first-clause-next
returns-then-first-clause-next g c =
    subst (λ b. IfOk c.first_subscript.result (λ next. ForSome (image_of c.args.base.now) (λ image.
    FindsNext image (node_of c.args.reference.now) b (option_map next_of next)))) (sym c.if-first.true)
    c.first_subscript.ensures.next

pub returns-then-is_empty-clause-next : goal.returns-then-is_empty-clause-next
returns-then-is_empty-clause-next g c =
    subst (λ b. IfOk c.next_name.result (λ next. ForSome (image_of c.args.base.now) (λ image.
    FindsNext image (node_of c.args.reference.now) b (option_map next_of next)))) (sym c.if-first.false)
    c.next_name.ensures.next

pub returns-clause-next : goal.returns-clause-next
returns-clause-next g c =
    subst (λ b. IfOk c.next_subscript.result (λ next. ForSome (image_of c.args.base.now) (λ image.
    FindsNext image (node_of c.args.reference.now) b (option_map next_of next)))) (sym c.if-first.false)
    c.next_subscript.ensures.next
