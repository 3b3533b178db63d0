-- What a ring means.
use Rattle.std.specs.Prelude.{List, length}
use Rattle.std.specs.Borrow.{MutBor}
use Rattle.ring.specs.declared.Ring.{Ring}
use Rattle.ring.specs.declared.Span.{Span}
use Rattle.ring.specs.Calls.{Contents}
use Rattle.ring.specs.Waiting.{waiting}

-- The ring that lies at a span of slots.
abbrev pub contents_at : {X : Type 0} → MutBor (List X) → Span → Contents X
contents_at slots span = record { items = waiting slots.now span; room = length slots.now; lender = slots.ghost_name }

abbrev pub contents : {X : Type 0} → Ring X → Contents X
contents ring = contents_at ring.slots ring.span
