-- What the writer answers, and what its buffer then holds.
use Rattle.std.specs.Prelude.{ℕ, Bool, false, cond, ◌&&◌, List, ◌++◌, length, drop, Some, None, Option, nat_le, Err, is_ok}
use Rattle.message.specs.Refusals.{Answer, accepted}
use Rattle.message.specs.declared.refusals.Refusal.TheVariants.{Full, Malformed, WrongSource}
use Rattle.message.specs.declared.kinds.Kind.{Kind}
use Rattle.message.specs.Checks.{given}
use Rattle.message.specs.Kinds.{kind_of, words_of}
use Rattle.message.specs.Messages.{formed_as}
use Rattle.packet.specs.declared.Packet.{Packet}
use Rattle.packet.specs.Layout.{packet_words, source_fits}

-- A packet of a kind that the writer takes: its message is well formed, and its source goes with the kind.
abbrev pub sendable_as : Option Kind → Packet → Bool
sendable_as None p = false
sendable_as (Some k) p = formed_as (Some k) p.message && source_fits k p.source

abbrev pub sendable : Packet → Bool
sendable p = sendable_as (kind_of p.message.opcode) p

-- The writer's answer, given the room: is the message well formed, then does its source go with its kind, then is there room?
abbrev pub answer_as : Option Kind → Packet → ℕ → Answer
answer_as None p room = Err Malformed
answer_as (Some k) p room =
    given (formed_as (Some k) p.message) (Err Malformed)
    (given (source_fits k p.source) (Err WrongSource)
    (given (nat_le (words_of k) room) (Err Full)
    accepted))

abbrev pub write_answer : Packet → ℕ → Answer
write_answer p room = answer_as (kind_of p.message.opcode) p room

-- A buffer with words laid over its front.
abbrev pub laid_over : List ℕ → List ℕ → List ℕ
laid_over words buffer = words ++ drop (length words) buffer

-- The buffer after the writer: it begins with the packet, where that is accepted, and is else as it was.
abbrev pub written : Packet → List ℕ → List ℕ
written p buffer = cond (is_ok (write_answer p (length buffer))) (laid_over (packet_words p) buffer) buffer
