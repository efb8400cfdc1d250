use Rattle.gds_new.proofs.ReadLemmas.{fields_read, block_read, length_read}
use Rattle.gds_new.proofs.BytesLemmas.{bytes_read}
use Rattle.gds_new.proofs.SoundLemmas.{sound_read, stands_read}
use Rattle.gds_new.proofs.laws.new_is_empty.Goals as goal

pub returns : goal.returns
returns c = λ h limits. record {
  reads = record {
    fields = fields_read h limits;
    blocks = block_read h limits;
    len = length_read h limits;
    bytes = bytes_read h;
  };
  sound = sound_read h limits;
  stands = stands_read h limits;
}
