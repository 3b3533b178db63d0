-- What a packet network means: the messages that the reader finds in the words of each lane.
use Rattle.std.specs.Prelude.{ℕ, List}
use Rattle.lanes.specs.Contents.{held}
use Rattle.message.specs.declared.Message.{Message}
use Rattle.network.specs.Traffic.{Traffic}
use Rattle.packet_network.specs.declared.PacketNetwork.{PacketNetwork}
use Rattle.packet_network.specs.Packets.{said}

-- The messages of each lane.
abbrev pub said_in : (ℕ → List ℕ) → ℕ → List Message
said_in f l = said (f l)

abbrev pub traffic_of : PacketNetwork → Traffic
traffic_of net = record { lanes = net.lanes.count; depth = net.depth; waiting = said_in (held net.lanes) }
