use Rattle.gds_splice.proofs.ChangingLemmas.{star_put}
use Rattle.gds_remove.proofs.children.star_last.Goals as goal

pub returns : goal.returns
returns c =
    star_put c.args.entries.now.items c.pop.new.self.items c.push.new.self.items c.in-Some.last _
    c.in-Some.ensures.items c.in_ok-push.ensures.items
    (λ k. record { key = c.key_from.ensures k; rest = c.in-Some.last.rest.items })
