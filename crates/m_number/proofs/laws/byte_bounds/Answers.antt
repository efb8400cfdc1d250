use Rattle.m_number.proofs.BytesLemmas.{each_byte, byte_count, first_bound}
use Rattle.m_number.proofs.laws.byte_bounds.Goals as goal

pub returns-clause-count : goal.returns-clause-count
returns-clause-count c = byte_count

pub returns-clause-first : goal.returns-clause-first
returns-clause-first c = first_bound

pub returns-clause-each : goal.returns-clause-each
returns-clause-each c = each_byte
