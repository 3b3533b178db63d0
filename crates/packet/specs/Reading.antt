-- What the reader answers: the packet at a place among words, or the first fault there.
use Rattle.std.specs.Prelude.{◌≡◌, ℕ, ◌+◌, ◌≤◌, true, cond, List, length, take, drop, Some, None, Ok, Err, Option, Result, ◌==◌, nat_le, slice_index}
use Rattle.message.specs.declared.refusals.Refusal.{Refusal}
use Rattle.message.specs.declared.refusals.Refusal.TheVariants.{MissingWords, UnknownOpcode, WrongLength, WrongSource, UnknownRecord}
use Rattle.message.specs.declared.kinds.Kind.{Kind}
use Rattle.message.specs.Checks.{given}
use Rattle.message.specs.Kinds.{kind_of, carries_value, words_of}
use Rattle.message.specs.Messages.{message_of}
use Rattle.packet.specs.declared.Fault.{Fault}
use Rattle.packet.specs.declared.Found.{Found}
use Rattle.packet.specs.declared.Packet.{Packet}
use Rattle.packet.specs.Layout.{opcode_in, length_in, source_in, value_in, packet_words, source_fits}
use Rattle.packet.specs.Writing.{sendable}

-- A fault at a place.
abbrev pub fault : Refusal → ℕ → Result Packet Fault
fault r at = Err (record { refusal = r; place = at })

-- The packet of a kind that the words at the front say.
abbrev pub said : Kind → List ℕ → Packet
said k front = record {
  source = source_in (slice_index front 0);
  message = message_of k (slice_index front 1) (cond (carries_value k) (value_in (slice_index front 2) (slice_index front 3)) 0);
}

-- The judgement once the opcode is known: it is that of a kind, the length is the kind's, all words are there, the source goes
-- with the kind, and the record is at most 63. The packet begins at a place, and the words end at another.
abbrev pub front_as : Option Kind → ℕ → ℕ → List ℕ → Result Packet Fault
front_as None at end front = fault UnknownOpcode at
front_as (Some k) at end front =
    given (length_in (slice_index front 0) == words_of k) (fault WrongLength at)
    (given (nat_le (words_of k) (length front)) (fault MissingWords end)
    (given (source_fits k (source_in (slice_index front 0))) (fault WrongSource at)
    (given (nat_le (slice_index front 1) 63) (fault UnknownRecord (at + 1))
    (Ok (said k front)))))

-- The packet at the front of words that begin at a place and end at another, or the first fault.
abbrev pub front_packet : ℕ → ℕ → List ℕ → Result Packet Fault
front_packet at end front =
    given (nat_le 1 (length front)) (fault MissingWords end) (front_as (kind_of (opcode_in (slice_index front 0))) at end front)

-- The packet at a place among words, or the first fault.
abbrev pub packet_at : List ℕ → ℕ → Result Packet Fault
packet_at words at = front_packet at (length words) (drop at words)

-- What the reader's answer says, without the words that it lends.
abbrev pub answer : Result Found Fault → Result Packet Fault
answer (Ok found) = Ok found.packet
answer (Err f) = Err f

-- What holds of a packet whose words are at the front: the writer takes it, and makes of it just these words.
pub record Stands (front : List ℕ) (p : Packet) (part : List ℕ) : Type 0 where
  pub sendable : sendable p ≡ true
  pub again : packet_words p ≡ part
  pub there : part ≡ take (length part) front
  pub some : 2 ≤ length part
  pub within : length part ≤ length front

-- What holds of what the reader hands out: the kind is the packet's, and its words are those at the front.
pub record Handed (front : List ℕ) (f : Found) : Type 0 where
  pub kind : kind_of f.packet.message.opcode ≡ Some f.kind
  pub stands : Stands front f.packet f.words.now

-- Where a reader stands after its answer: past the packet, or, at a fault, where it stood.
abbrev pub place_after : ℕ → Result Packet Fault → ℕ
place_after at (Ok p) = at + length (packet_words p)
place_after at (Err f) = at
