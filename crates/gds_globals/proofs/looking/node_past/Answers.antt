use Rattle.std.proofs.Common.{◌≤◌, ◌∙◌, ℕ, List, ap, length, subst, sym}
use Rattle.std.specs.declared.ops.Bound.TheVariants.{Excluded, Included}
use Rattle.gds_units.specs.State.{image_of}
use Rattle.m_key.specs.KeyEnd.{IsKey}
use Rattle.m_key.specs.Reference.{node_of, place_of}
use Rattle.m_key.proofs.NodeEndLemmas.{IsKey-key_bytes}
use Rattle.gds_globals.proofs.PastLemmas.{past_found, past_is, past_key}
use Rattle.gds_globals.proofs.looking.node_past.Goals as goal

pub node_from-requires : goal.node_from-requires
node_from-requires g c =
    subst IsKey (sym c.deref.ensures.0)
    (past_key (node_of c.args.reference.now) (place_of c.args.reference.now).right c.args.key.now c.in-Some.past.items
    c.requires.key c.in-Some.ensures.past c.in-Some.ensures.short)

pub node_from-requires-in-None : goal.node_from-requires-in-None
node_from-requires-in-None g c =
    subst IsKey (sym c.requires.key)
    (IsKey-key_bytes (node_of c.args.reference.now) (place_of c.args.reference.now).right
    (subst (λ (k : List ℕ). length k ≤ 255) c.requires.key c.requires.short))

pub returns-in-Some-clause-first : goal.returns-in-Some-clause-first
returns-in-Some-clause-first g c =
    past_found (image_of c.args.base.now) c.args.reference.now (Included c.deref.result.now) c.args.front.now
    (past_is (node_of c.args.reference.now) c.args.key.now c.deref.result.now c.requires.key
    (c.deref.ensures.0 ∙ c.in-Some.ensures.past)) c.node_from.result c.node_from.ensures.first

pub returns-in-None-clause-first : goal.returns-in-None-clause-first
returns-in-None-clause-first g c =
    past_found (image_of c.args.base.now) c.args.reference.now (Excluded c.args.key.now) c.args.front.now
    (c.requires.key, sym (ap length c.requires.key) ∙ c.in-None.ensures.none) c.node_from-in-None.result
    c.node_from-in-None.ensures.first
