-- What a packet network holds of its lanes.
use Rattle.std.specs.Prelude.{◌≡◌, ℕ, ◌<◌, ◌≤◌, true, List, length, slice_index}
use Rattle.packet.specs.Streams.{all_sendable, stream}
use Rattle.packet_network.specs.Packets.{packets_in, said}

-- The words of a lane are the packets of its messages, one after another, each with the lane's source, and each can be sent.
-- There are as many messages as are counted, and no more than the network is deep.
pub record Packed (l : ℕ) (words : List ℕ) (count depth : ℕ) : Type 0 where
  pub whole : stream (packets_in l (said words)) ≡ words
  pub sendable : all_sendable (packets_in l (said words)) ≡ true
  pub counted : length (said words) ≡ count
  pub within : count ≤ depth

-- Each lane is packed, where f l is the words that wait in lane l.
abbrev pub Holds : (ℕ → List ℕ) → List ℕ → ℕ → ℕ → Type 0
Holds f counts lanes depth = (l : ℕ) → l < lanes → Packed l (f l) (slice_index counts l) depth
