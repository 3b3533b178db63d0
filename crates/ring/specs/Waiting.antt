-- What waits in a ring over slots.
use Rattle.std.specs.Prelude.{ℕ, ◌+◌, ◌-◌, cond, List, ◌++◌, take, drop, nat_lt}
use Rattle.ring.specs.declared.Span.{Span}

-- The slots from a start on, and then those before it.
abbrev pub turned : {X : Type 0} → List X → ℕ → List X
turned slots start = drop start slots ++ take start slots

-- What waits at a span, oldest first: so many of them.
abbrev pub waiting : {X : Type 0} → List X → Span → List X
waiting slots span = take span.count (turned slots span.start)

-- The slot of the k-th, of so many slots.
abbrev pub place : ℕ → ℕ → ℕ → ℕ
place slots start k = cond (nat_lt k (slots - start)) (start + k) (k - (slots - start))
