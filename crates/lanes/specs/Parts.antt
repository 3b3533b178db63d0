-- The parts of a slice that are lanes, and what waits in them.
use Rattle.std.specs.Prelude.{ℕ, ◌+◌, ◌*◌, nat_lt, List, slice_index_or, Result, Ok, Err}
use Rattle.std.specs.declared.ops.Range.{Range}
use Rattle.std.specs.List.{between}
use Rattle.message.specs.Checks.{given}
use Rattle.message.specs.declared.refusals.Refusal.{Refusal}
use Rattle.message.specs.declared.refusals.Refusal.TheVariants.{NoSuchTerminal}
use Rattle.ring.specs.Waiting.{waiting}
use Rattle.ring.specs.declared.Span.{Span}

-- The slots of a lane, of so many slots a lane.
abbrev pub part : {X : Type 0} → List X → ℕ → ℕ → List X
part slots size l = between (l * size) (l * size + size) slots

-- Is the lane there? Then the numbers of its slots. This is what an inner function says; no public promise rests on it.
abbrev pub part_answer : ℕ → ℕ → ℕ → Result (Range ℕ) Refusal
part_answer count size l =
    given (nat_lt l count) (Err NoSuchTerminal)
    (Ok (record { start = l * size; end = l * size + size }))

-- Where nothing lies.
abbrev pub no_span : Span
no_span = record { start = 0; count = 0 }

-- Where the elements of a lane lie among its slots.
abbrev pub span_at : List Span → ℕ → Span
span_at spans l = slice_index_or spans l no_span

-- What waits in a lane, oldest first.
unfoldable pub waiting_in : {X : Type 0} → List X → List Span → ℕ → ℕ → List X
waiting_in slots spans size l = waiting (part slots size l) (span_at spans l)
