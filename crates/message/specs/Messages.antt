-- Messages, and when one is well formed.
use Rattle.std.specs.Prelude.{ℕ, Bool, false, ◌&&◌, ◌||◌, Some, None, Option, ◌==◌, nat_le}
use Rattle.message.specs.declared.Message.{Message}
use Rattle.message.specs.declared.kinds.Kind.{Kind}
use Rattle.message.specs.Kinds.{kind_of, opcode_of, carries_value}

-- The message of a kind, about a record, with a value.
abbrev pub message_of : Kind → ℕ → ℕ → Message
message_of k r v = record { opcode = opcode_of k; «record» = r; value = v }

-- A message of a kind: its record is at most 63, and its value is 0 where the kind carries none.
abbrev pub formed_as : Option Kind → Message → Bool
formed_as None m = false
formed_as (Some k) m = nat_le m.«record» 63 && (carries_value k || m.value == 0)

-- Its opcode is that of a kind, and it is formed as that kind asks.
abbrev pub well_formed : Message → Bool
well_formed m = formed_as (kind_of m.opcode) m
