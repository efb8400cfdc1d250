use Rattle.std.proofs.Common.{◌++◌, take, refl, sym, ap, ◌∙◌, flat_map, take_all}
use Rattle.m_key.specs.declared.subscript.Subscript.{Subscript}
use Rattle.m_key.specs.Key.{ended}
use Rattle.m_key.specs.Reference.{node_subscript_of}
use Rattle.m_key.proofs.FillLemmas.{appends_none, appends_more, appends_same, flat_map_take, flat_map_map}
use Rattle.m_key.proofs.key.Written.put_subscripts.Goals as goal

pub loop-subscript-init : goal.loop-subscript-init
loop-subscript-init c = appends_none c.args.self.now

pub loop-subscript-preserved : goal.loop-subscript-preserved
loop-subscript-preserved c =
    let f = λ (s : Subscript). ended (node_subscript_of s) in
    let xs = c.args.subscripts.now in
    let i = c.loop-subscript.subscript-index in
    let item = c.subscript-item.result in
    appends_more _ _ _ _ (f item) _ c.loop-subscript.invariant
    (appends_more _ _ _ _ _ (f item) c.put_subscript.ensures c.put.ensures refl)
    (flat_map_take f xs i item c.loop-subscript-test.true
    ∙ ap (λ s. flat_map f (take i xs) ++ f s) (sym c.subscript-item.is))

pub returns : goal.returns
returns c =
    let f = λ (s : Subscript). ended (node_subscript_of s) in
    let xs = c.args.subscripts.now in
    appends_same _ _ _ _ c.loop-subscript.invariant
    (flat_map_map ended node_subscript_of xs
    ∙ ap (flat_map f) (sym (take_all c.loop-subscript.subscript-index xs c.loop-subscript-test.false)))
