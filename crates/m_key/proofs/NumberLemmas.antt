-- What is proved of the bytes of numbers.
use Rattle.m_number.proofs.BytesLemmas.{bytes_in_order, one_packing, byte_count, first_bound, each_byte}
use Rattle.m_key.proofs.KeyLemmas.{NumberLaws}

pub numbers : NumberLaws
numbers = record {
  order = bytes_in_order;
  one = one_packing;
  count = byte_count;
  first = first_bound;
  each =
      each_byte;
}
