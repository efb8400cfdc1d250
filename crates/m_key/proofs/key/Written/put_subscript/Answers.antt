use Rattle.std.proofs.Common.{◌∷◌, sym, ap, ◌∙◌, flat_map}
use Rattle.m_key.specs.Key.{escaped, subscript_bytes}
use Rattle.m_key.specs.Reference.{node_subscript_of}
use Rattle.m_key.proofs.FillLemmas.{appends_more}
use Rattle.m_key.proofs.key.Written.put_subscript.Goals as goal

pub returns-in-Text : goal.returns-in-Text
returns-in-Text c =
    appends_more _ _ _ _ _ _ c.put.ensures c.put_text.ensures
    (ap (λ s. subscript_bytes (node_subscript_of s)) c.in-Text.is
    ∙ ap (λ t. 255 ∷ flat_map escaped t) (sym c.bytes.ensures))
