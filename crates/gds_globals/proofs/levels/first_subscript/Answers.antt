use Rattle.std.proofs.Common.{◌≤◌, ◌∙◌, ℕ, List, ap, length, subst, sym}
use Rattle.std.specs.Prelude.{option_map}
use Rattle.std.proofs.lemmas.List.{length-map}
use Rattle.gds_units.specs.State.{image_of}
use Rattle.m_key.specs.KeyEnd.{IsKey}
use Rattle.m_key.specs.Reference.{node_of, node_subscript_of, place_of, subscript_list}
use Rattle.m_key.proofs.NodeEndLemmas.{IsKey-key_bytes}
use Rattle.gds_globals.specs.Questions.{next_of}
use Rattle.gds_globals.proofs.AnswerLemmas.{first_answer, lead_front}
use Rattle.gds_globals.proofs.levels.first_subscript.Goals as goal

pub node_from-requires : goal.node_from-requires
node_from-requires g c =
    subst IsKey (sym c.requires.key)
    (IsKey-key_bytes (node_of c.args.reference.now) (place_of c.args.reference.now).right
    (subst (λ (k : List ℕ). length k ≤ 255) c.requires.key c.requires.short))

pub returns-clause-next : goal.returns-clause-next
returns-clause-next g c =
    let r = c.args.reference.now in
    first_answer (image_of c.args.base.now) r c.args.key.now c.lead_of.result.now c.requires.key
    (lead_front (node_of r) c.args.key.now c.lead_of.result.now c.requires.key c.lead_of.ensures)
    (option_map place_of c.in_ok-found.found) c.in_ok-found.ensures.first (length c.as_slice.result.now)
    (ap length c.as_slice.ensures.items ∙ sym (length-map (subscript_list r.subscripts) node_subscript_of))
    (option_map next_of c.next_at.result) c.next_at.ensures
