use Rattle.std.proofs.Common.{sym, ap, ◌∙◌, arith}
use Rattle.m_key.specs.Node.{is_name}
use Rattle.gds_law.proofs.KeyLemmas.{bad_name, too_many, by_parts}
use Rattle.integ_block.proofs.key.key_fault.Goals as goal

pub returns-then-not-is_name : goal.returns-then-not-is_name
returns-then-not-is_name c =
    sym (bad_name c.args.key.now (sym (ap is_name c.name_part.ensures) ∙ sym c.if-not-is_name.ensures))

pub returns-then-subscript_count-gt-SUBSCRIPT_LIMIT : goal.returns-then-subscript_count-gt-SUBSCRIPT_LIMIT
returns-then-subscript_count-gt-SUBSCRIPT_LIMIT c =
    sym (too_many c.args.key.now (sym (ap is_name c.name_part.ensures)
    ∙ sym c.if-not-is_name.ensures) (omega (arith, c.subscript_count.ensures)))

pub returns : goal.returns
returns c =
    c.first_fault.ensures
    ∙ sym (by_parts c.args.key.now (sym (ap is_name c.name_part.ensures)
    ∙ sym c.if-not-is_name.ensures) (omega (arith, c.subscript_count.ensures)))
