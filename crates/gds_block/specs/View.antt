-- A borrowed record as a record.
use Rattle.gds_block.specs.declared.records.RecordView.{RecordView}
use Rattle.gds_block.specs.Record.{Record}

-- the record without where its body lies in memory
abbrev pub record_of : RecordView → Record
record_of view = record { offset = view.offset; count = view.count; body = view.body.now }
