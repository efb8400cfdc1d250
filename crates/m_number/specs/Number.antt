-- What clauses see of a `Number`.
use Rattle.m_number.specs.Numeral.{Numeral}
use Rattle.m_number.specs.declared.number.Number.{Number}

abbrev pub numeral_of : Number → Numeral
numeral_of n = record { negative = n.negative; digits = n.digits; exponent = n.exponent }
