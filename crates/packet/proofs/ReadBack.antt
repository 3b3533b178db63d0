-- What is written is read back.
use Rattle.std.proofs.Common.{◌≡◌, ℕ, true, List, ◌++◌, length, Ok, rules}
use Rattle.message.specs.Refusals.{accepted}
use Rattle.packet.specs.declared.Packet.{Packet}
use Rattle.packet.specs.Layout.{packet_words}
use Rattle.packet.specs.Reading.{front_packet, packet_at}
use Rattle.packet.specs.Writing.{sendable, write_answer, written}
use Rattle.packet.proofs.Accepts.{accepted_sendable}

-- What is written is read back, whatever follows it.
pub written_read : (p : Packet) (at end : ℕ) (rest : List ℕ) → sendable p ≡ true → front_packet at end (packet_words p ++ rest) ≡ Ok p
written_read p at end rest can = search rules

-- What is accepted is read back at the front of its buffer.
pub accepted_read : (p : Packet) (buffer : List ℕ) → write_answer p (length buffer) ≡ accepted → packet_at (written p buffer) 0 ≡ Ok p
accepted_read p buffer took = rw took (written_read p 0 _ _ (accepted_sendable p (length buffer) took))
