-- What a ring holds, what put and discard answer, and what they leave.
use Rattle.std.specs.Prelude.{ℕ, ◌+◌, Bool, cond, List, ◌++◌, length, drop, nat_le, Err}
use Rattle.message.specs.Refusals.{Answer, accepted}
use Rattle.message.specs.declared.refusals.Refusal.TheVariants.{Full, Empty}
use Rattle.message.specs.Checks.{given}

-- What waits, oldest first, how many elements there is room for, and the ghost name of the slice that lends the slots.
pub record Contents (X : Type 0) : Type 0 where
  pub items : List X
  pub room : ℕ
  pub lender : ℕ

-- Whether new elements fit behind those that wait.
abbrev pub has_room : {X : Type 0} → Contents X → List X → Bool
has_room ring new = nat_le (length ring.items + length new) ring.room

-- Put: is there room for all of them? They join the end, or nothing changes.
abbrev pub put_answer : {X : Type 0} → Contents X → List X → Answer
put_answer ring new = given (has_room ring new) (Err Full) accepted

abbrev pub after_put : {X : Type 0} → Contents X → List X → Contents X
after_put ring new = record ring { items = cond (has_room ring new) (ring.items ++ new) ring.items }

-- Discard: do so many wait? The oldest go, or nothing changes.
abbrev pub discard_answer : {X : Type 0} → ℕ → Contents X → Answer
discard_answer k ring = given (nat_le k (length ring.items)) (Err Empty) accepted

abbrev pub after_discard : {X : Type 0} → ℕ → Contents X → Contents X
after_discard k ring = record ring { items = cond (nat_le k (length ring.items)) (drop k ring.items) ring.items }
