-- Spans: where the elements of a ring lie.
use Rattle.std.specs.Prelude.{ℕ, min}
use Rattle.ring.specs.declared.Span.{Span}

-- A span as a ring of so many slots has it.
abbrev pub within : ℕ → Span → Span
within slots span = record { start = min span.start slots; count = min span.count slots }
