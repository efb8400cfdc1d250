use Rattle.std.proofs.Common.{◌≡◌, ◌+◌, ◌++◌, ◌∷◌, List, ℕ, length, drop, subst, arith}
use Rattle.std.proofs.lemmas.Bool.{OnTrue_from, OnTrue_at}
use Rattle.integ_quick.proofs.FollowLemmas.{HasFew, Follows-first, AreSubscripts-slice}
use Rattle.integ_quick.proofs.leaf.Leaf.takes_first.Goals as goal

pub returns-clause-follows : goal.returns-clause-follows
returns-clause-follows c =
    let name : List ℕ = c.args.self.now.name.now in
    let whole = OnTrue_at c.if-not-has_name.false c.has_name.ensures.whole in
    let subscripts = OnTrue_at c.if-not-are_subscripts.false c.are_subscripts.ensures in
    let few = OnTrue_at c.if-not-has_few.false c.has_few.ensures in
    OnTrue_from _ _
    (λ _. Follows-first c.args.self.now.header.now c.args.self.now.name.now c.args.key.now c.args.front.count
    c.args.front.body.now c.takes_end.new.key
    c.requires.name c.requires.none
    (OnTrue_at c.if-not-takes_end.false c.takes_end.ensures)
    (subst HasFew c.as_slice-else-not-are_subscripts.ensures.value few)
    (omega arith)
    (subst (λ (xs : List ℕ). xs
    ≡ c.args.self.now.name.now ++ 0 ∷ drop (length c.args.self.now.name.now + 1) xs) c.as_slice.ensures.value whole)
    (AreSubscripts-slice c.as_slice-2.result.now c.takes_end.new.key (length c.args.self.now.name.now
    + 1) c.as_slice-2.ensures.value subscripts))
