-- The bytes that were taken from a source and not yet given, and what is left of a text.
use Rattle.std.specs.Prelude.{ℕ, List, slice_range, Option}
use Rattle.std.specs.Io.KnownBytes.{prepend_known}
use Rattle.gds_lines.specs.declared.ahead.Ahead.{Ahead}
use Rattle.gds_lines.specs.declared.ahead.Span.{Span}

-- the bytes that are held
abbrev pub held : Ahead → List ℕ
held a = slice_range a.buffer.items a.from a.to

-- what is left of the text: the bytes that are held, and then those that the source has left, where it tells them
abbrev pub text_left : Ahead → Option (List ℕ) → Option (List ℕ)
text_left a left = prepend_known (held a) left

-- the bytes of a part of what is kept
abbrev pub part : Ahead → Span → List ℕ
part a span = slice_range a.buffer.items span.from span.to
