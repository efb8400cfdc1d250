-- What kept bytes were at first.
use Rattle.std.specs.Prelude.{ℕ, List, Option, None, Some, Vec}
use Rattle.std.specs.declared.alloc.Global.{Global}
use Rattle.host_mem.specs.declared.stored.Stored.{Stored}

abbrev pub first_bytes : Option (Vec ℕ Global) → List ℕ → List ℕ
first_bytes None now = now
first_bytes (Some first) now = first.items

-- the bytes at first
abbrev pub first_of : Stored → List ℕ
first_of stored = first_bytes stored.first stored.bytes.items
