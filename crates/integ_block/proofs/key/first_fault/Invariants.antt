use Rattle.std.proofs.Common.{◌≡◌}
use Rattle.m_key.specs.KeyParts.{subscript_parts}
use Rattle.gds_law.specs.Key.{first_fault}
use Rattle.integ_block.proofs.key.first_fault.Given as goal

-- the first bad subscript of those that are left is the first of all
abbrev pub invariant-loop-part : goal.invariant-loop-part
invariant-loop-part l = first_fault l.part-iterator ≡ first_fault (subscript_parts l.key)
