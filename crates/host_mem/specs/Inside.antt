-- How the parts of a memory host stand for its value.
use Rattle.std.specs.Prelude.{◌≡◌}
use Rattle.host_model.specs.Files.{Contents}
use Rattle.host_mem.specs.declared.parts.Parts.{Parts}
use Rattle.host_mem.specs.Memory.{IsNumbered, Memory, contents_of}
use Rattle.host_mem.specs.Stored.{first_of}

-- the host's value
abbrev pub seen : Parts → Memory
seen a = record {
  first = record { db = first_of a.db; images = first_of a.images; said = first_of a.said };
  log = a.log;
  failures = record { read = a.read_failures; write = a.write_failures; say = a.say_failures };
  reads = a.reads;
}

-- the bytes that it holds
abbrev pub held : Parts → Contents
held a = record { db = a.db.bytes.items; images = a.images.bytes.items; said = a.said.bytes.items }

-- the bytes that it holds are those that its calls have left, and those calls are numbered
pub record IsMemory (a : Parts) : Type 0 where
  pub shows : contents_of (seen a) ≡ held a
  pub numbered : IsNumbered (seen a)
