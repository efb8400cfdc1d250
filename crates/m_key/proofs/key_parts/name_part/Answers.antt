use Rattle.m_key.proofs.KeyPartLemmas.{name_part-split, name_part-none}
use Rattle.m_key.proofs.key_parts.name_part.Goals as goal

pub returns-in-Some : goal.returns-in-Some
returns-in-Some c =
    name_part-split c.args.key.now c.in-Some.name.now c.in-Some.field-0-1.now c.in-Some.ensures.some
    c.in-Some.ensures.first

pub returns-in-None : goal.returns-in-None
returns-in-None c = name_part-none c.args.key.now c.in-None.ensures.none
