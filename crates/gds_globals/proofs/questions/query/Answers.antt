use Rattle.std.proofs.Common.{◌≤◌, ◌∙◌, ℕ, List, length, subst, sym}
use Rattle.std.specs.Prelude.{option_map}
use Rattle.std.proofs.lemmas.Result.{IfOk-weaker}
use Rattle.gds_units.specs.State.{image_of}
use Rattle.m_key.specs.KeyEnd.{IsKey}
use Rattle.m_key.specs.Reference.{node_of, place_of}
use Rattle.m_key.proofs.NodeEndLemmas.{IsKey-key_bytes}
use Rattle.gds_globals.proofs.AnswerLemmas.{node_answer}
use Rattle.gds_globals.proofs.questions.query.Goals as goal

pub node_from-requires : goal.node_from-requires
node_from-requires g c =
    let key = c.deref.ensures.0 ∙ c.in_ok-key.ensures.key in
    subst IsKey (sym key)
    (IsKey-key_bytes (node_of c.args.reference.now) (place_of c.args.reference.now).right
    (subst (λ (k : List ℕ). length k ≤ 255) c.in_ok-key.ensures.key c.in_ok-key.ensures.short))

pub returns-clause-next : goal.returns-clause-next
returns-clause-next g c =
    IfOk-weaker c.node_from.result _ _
    (λ found h.
    node_answer (image_of c.args.base.now) c.args.reference.now c.deref.result.now
    (c.deref.ensures.0 ∙ c.in_ok-key.ensures.key) (option_map place_of found) h) c.node_from.ensures.first
