use Rattle.std.proofs.Common.{sym, ap, ap₂, ◌∙◌, nat_cmp, if◌then◌else◌}
use Rattle.m_number.specs.Order.{number_cmp, size_cmp}
use Rattle.m_number.specs.Number.{numeral_of}
use Rattle.m_key.proofs.CollationLemmas.{then_decided, then_next}
use Rattle.m_key.proofs.collation.compare_numbers.Goals as goal

pub returns-then-is_ne : goal.returns-then-is_ne
unfolding number_cmp
returns-then-is_ne c =
    then_decided _ _ _ (c.cmp-sides.ensures ∙ ap₂ nat_cmp c.side.ensures c.side-2.ensures) (sym c.is_ne.ensures
    ∙ c.if-is_ne.true)

pub returns-then-a : goal.returns-then-a
unfolding number_cmp
returns-then-a c =
    let a = numeral_of c.args.a.now in
    let b = numeral_of c.args.b.now in
    then_next _ _ _ _ (c.cmp-sides.ensures ∙ ap₂ nat_cmp c.side.ensures c.side-2.ensures) (sym c.is_ne.ensures
    ∙ c.if-is_ne.false)
    (c.compare_sizes.ensures ∙ sym (ap (λ t. if t then size_cmp b a else size_cmp a b) c.if-a.true))

pub returns-else-a : goal.returns-else-a
unfolding number_cmp
returns-else-a c =
    let a = numeral_of c.args.a.now in
    let b = numeral_of c.args.b.now in
    then_next _ _ _ _ (c.cmp-sides.ensures ∙ ap₂ nat_cmp c.side.ensures c.side-2.ensures) (sym c.is_ne.ensures
    ∙ c.if-is_ne.false)
    (c.compare_sizes-else-a.ensures ∙ sym (ap (λ t. if t then size_cmp b a else size_cmp a b) c.if-a.false))
