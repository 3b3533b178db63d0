-- Packets one after another: what a walk over words finds, and the words of a list of packets.
use Rattle.std.specs.Prelude.{ℕ, zero, suc, ◌+◌, Bool, true, cond, ◌&&◌, List, [], ◌∷◌, ◌++◌, length, Some, None, Ok, Err, Option, Result, nat_le}
use Rattle.packet.specs.declared.Fault.{Fault}
use Rattle.packet.specs.declared.Packet.{Packet}
use Rattle.packet.specs.Layout.{packet_words}
use Rattle.packet.specs.Reading.{packet_at}
use Rattle.packet.specs.Writing.{sendable}

-- What a walk over words finds: packets, and then the end of the words or a fault.
pub record Walk : Type 0 where
  pub packets : List Packet
  pub fault : Option Fault

-- The walk that found these packets and then the end.
abbrev pub ended : List Packet → Walk
ended ps = record { packets = ps; fault = None }

-- The walk that finds a packet and then goes on.
abbrev pub onward : Packet → Walk → Walk
onward p w = record { packets = p ∷ w.packets; fault = w.fault }

-- The walk after a reader's answer: on from a packet, and stopped by a fault.
abbrev pub led_by : Result Packet Fault → (Packet → Walk) → Walk
led_by (Ok p) on = onward p (on p)
led_by (Err f) on = record { packets = []; fault = Some f }

-- The walk from a place on, over at most so many packets. It ends with the words.
abbrev pub walk_from : ℕ → List ℕ → ℕ → Walk
walk_from zero words at = ended []
walk_from (suc more) words at =
    cond (nat_le (length words) at) (ended [])
    (led_by (packet_at words at) (λ p. walk_from more words (at + length (packet_words p))))

-- The walk over words: there are no more packets than words.
abbrev pub walk : List ℕ → Walk
walk words = walk_from (length words) words 0

-- The words of packets, one after another.
abbrev pub stream : List Packet → List ℕ
stream [] = []
stream (p ∷ ps) = packet_words p ++ stream ps

-- Whether each of them can be sent.
abbrev pub all_sendable : List Packet → Bool
all_sendable [] = true
all_sendable (p ∷ ps) = sendable p && all_sendable ps
