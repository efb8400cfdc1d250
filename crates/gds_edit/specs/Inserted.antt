-- What an insertion is told of the records that it writes.
use Rattle.std.specs.Prelude.{ℕ, ◌≡◌, List, drop}
use Rattle.gds_block.specs.Item.{Item}
use Rattle.m_key.specs.KeyEnd.{shared}
use Rattle.gds_pack.specs.Packed.{record_size}
use Rattle.gds_edit.specs.declared.record.RecordHead.{RecordHead}
use Rattle.gds_edit.specs.declared.record.NewRecord.{NewRecord}

-- the record of an entry behind a key
pub record IsRecordFor (previous : List ℕ) (e : Item) (r : NewRecord) : Type 0 where
  pub counted : r.count ≡ shared previous e.key
  pub end : r.key.now ≡ drop (shared previous e.key) e.key
  pub rest : r.rest.now ≡ e.rest

-- the head of the record of an entry behind a key
pub record IsHeadFor (previous : List ℕ) (e : Item) (head : RecordHead) : Type 0 where
  pub sized : head.size ≡ record_size previous e
  pub counted : head.count ≡ shared previous e.key
