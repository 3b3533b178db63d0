-- What a rule of a terminal looks at, and what it makes of it.
use Rattle.std.specs.Prelude.{ℕ, List}
use Rattle.message.specs.declared.refusals.Refusal.{Refusal}
use Rattle.message.specs.declared.Message.{Message}
use Rattle.protocol.specs.declared.Code.TheVariants.{Refused}
use Rattle.protocol.specs.declared.Code.{Code}
use Rattle.network.specs.Traffic.{Traffic, with_waiting}
use Rattle.protocol.specs.declared.Place.{Place}
use Rattle.protocol.specs.declared.Wait.{Wait}

-- The one place that the record can lie in, what the terminal waits for, and the up network.
pub record Seat : Type 0 where
  pub place : Place
  pub wait : Wait
  pub up : Traffic

-- A rule refuses, and changes nothing; or it answers a code and a value, and says what the place, the wait and the up lanes
-- then are.
pub data Turn : Type 0 where
  refuses : Refusal → Turn
  moves : Code → ℕ → Place → Wait → (ℕ → List Message) → Turn

-- The code that a turn answers.
abbrev pub turn_code : Turn → Code
turn_code (refuses refusal) = Refused refusal
turn_code (moves code value place wait waiting) = code

-- The value that a turn answers.
abbrev pub turn_value : Turn → ℕ
turn_value (refuses refusal) = 0
turn_value (moves code value place wait waiting) = value

-- The place after a turn.
abbrev pub place_after : Turn → Place → Place
place_after (refuses refusal) before = before
place_after (moves code value place wait waiting) before = place

-- What the terminal waits for after a turn.
abbrev pub wait_after : Turn → Wait → Wait
wait_after (refuses refusal) before = before
wait_after (moves code value place wait waiting) before = wait

-- The up network after a turn.
abbrev pub up_after : Turn → Traffic → Traffic
up_after (refuses refusal) before = before
up_after (moves code value place wait waiting) before = with_waiting before waiting
