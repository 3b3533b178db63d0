-- What the writer accepts.
use Rattle.std.proofs.Common.{◌≡◌, ℕ, ◌≤◌, true, length, rules}
use Rattle.message.specs.Refusals.{accepted}
use Rattle.packet.specs.declared.Packet.{Packet}
use Rattle.packet.specs.Layout.{packet_words}
use Rattle.packet.specs.Writing.{sendable, write_answer}

-- It can be sent.
pub accepted_sendable : (p : Packet) (room : ℕ) → write_answer p room ≡ accepted → sendable p ≡ true
accepted_sendable p room took = search rules

-- It has room.
pub accepted_room : (p : Packet) (room : ℕ) → write_answer p room ≡ accepted → length (packet_words p) ≤ room
accepted_room p room took = search rules

-- What can be sent has words.
pub sendable_some : (p : Packet) → sendable p ≡ true → 2 ≤ length (packet_words p)
sendable_some p can = search rules

-- What can be sent, and has room, is accepted.
pub sendable_accepted : (p : Packet) (room : ℕ) → sendable p ≡ true → length (packet_words p) ≤ room → write_answer p room ≡ accepted
sendable_accepted p room can fits = search rules
