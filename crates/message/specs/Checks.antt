-- Checks in their order.
use Rattle.std.specs.Prelude.{Bool, cond}

-- Where a test holds, what follows; else the refusal.
abbrev pub given : {A : Type 0} → Bool → A → A → A
given test refusal follows = cond test follows refusal
