use Rattle.std.proofs.lemmas.List.Elements.{All-from_recursion}
use Rattle.gds_ancestors.specs.Ancestors.{items_before, items_behind}
use Rattle.m_key.specs.Key.{Below}
use Rattle.gds_find.proofs.SideLemmas.{before_below, behind_above, root_holds}
use Rattle.gds_find.proofs.laws.items_beside.Goals as goal

pub returns-clause-holds : goal.returns-clause-holds
returns-clause-holds c image root w above level key i lead holds = root_holds image i key root w above level lead holds

pub returns-clause-before : goal.returns-clause-before
returns-clause-before c image root w above level key i lead holds =
    All-from_recursion (λ e. Below e.key key) (items_before above)
    (before_below image i key root w above level lead holds)

pub returns-clause-behind : goal.returns-clause-behind
returns-clause-behind c image root w above level key i lead holds =
    All-from_recursion (λ e. Below key e.key) (items_behind above)
    (behind_above image i key root w above level lead holds)
