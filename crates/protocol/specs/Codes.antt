-- The number of each code that a call of a site answers.
use Rattle.std.specs.Prelude.{ℕ, Bool, ◌==◌}
use Rattle.message.specs.Refusals as refusals
use Rattle.protocol.specs.declared.Code.{Code}
use Rattle.protocol.specs.declared.Code.TheVariants.{Accepted, Requested, Refused}

abbrev pub number : Code → ℕ
number Accepted = 0
number Requested = 1
number (Refused refusal) = refusals.number refusal

-- Whether a code says that the call was accepted.
abbrev pub accepted : Code → Bool
accepted c = number c == 0
