use Rattle.std.proofs.Common.{◌<◌, ◌-◌, ◌∙◌, ℕ, ap, length, subst, sym}
use Rattle.std.specs.Prelude.{option_map}
use Rattle.std.proofs.lemmas.List.{length-map}
use Rattle.gds_units.specs.State.{image_of}
use Rattle.m_key.specs.Reference.{node_of, node_subscript_of, place_of, subscript_list}
use Rattle.gds_globals.specs.Questions.{next_of}
use Rattle.gds_globals.proofs.AnswerLemmas.{front_is, next_answer}
use Rattle.gds_globals.proofs.levels.next_subscript.Goals as goal

pub returns-clause-next : goal.returns-clause-next
returns-clause-next g c =
    let r = c.args.reference.now in
    let count = length-map (subscript_list r.subscripts) node_subscript_of in
    let some = subst (λ (k : ℕ). 0 < k) (sym count) c.requires.some in
    next_answer (image_of c.args.base.now) r some c.front_of.result.now
    (front_is (node_of r) (place_of r).right some c.args.key.now c.front_of.result.now c.requires.key
    c.front_of.ensures)
    (option_map place_of c.in_ok-found.found) c.in_ok-found.ensures.first c.saturating_sub.result
    (c.saturating_sub.ensures ∙ ap (λ k. k - 1) (ap length c.as_slice.ensures.items ∙ sym count))
    (option_map next_of c.next_at.result) c.next_at.ensures
