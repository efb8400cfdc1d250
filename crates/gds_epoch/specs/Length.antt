-- Making a database file longer and shorter.
use Rattle.std.specs.Prelude.{◌≡◌, ◌-◌, ◌≤◌, ℕ, List, length, take, replicate}
use Rattle.host_model.specs.Disk.{written}
use Rattle.host_model.specs.Files.{Contents}

-- with zeros in the database file from a place up to another
abbrev pub with_zeros : ℕ → ℕ → Contents → Contents
with_zeros from to c = record c { db = written from (replicate (to - from) 0) c.db }

-- The first n bytes of a file stay, or all of a shorter one.
pub record StaysBefore (n : ℕ) (old new : List ℕ) : Type 0 where
  pub front : (m : ℕ) → m ≤ n → m ≤ length old → take m new ≡ take m old

-- The first n bytes of the database file stay, and so do the images and what was said.
pub record KeepsFront (n : ℕ) (before c : Contents) : Type 0 where
  pub front : take n c.db ≡ take n before.db
  pub images : c.images ≡ before.images
  pub said : c.said ≡ before.said
