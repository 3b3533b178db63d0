-- The messages of a lane as packets, one after another, and back.
use Rattle.std.specs.Prelude.{ℕ, cond, List, [], ◌∷◌, length, map, Some, None, Option, slice_index}
use Rattle.std.specs.Option.{option_map_or}
use Rattle.std.specs.Result.{result_ok}
use Rattle.message.specs.declared.Message.{Message}
use Rattle.message.specs.declared.kinds.Kind.{Kind}
use Rattle.message.specs.Kinds.{goes_home, kind_of}
use Rattle.packet.specs.declared.Packet.{Packet}
use Rattle.packet.specs.Layout.{packet_words}
use Rattle.packet.specs.Reading.{packet_at}
use Rattle.packet.specs.Streams.{walk}

-- The source that a packet names in a lane: the lane for what goes to the home, and 64 for what comes from it.
abbrev pub source_as : Option Kind → ℕ → ℕ
source_as None l = 64
source_as (Some k) l = cond (goes_home k) l 64

-- The packet of a message in a lane.
abbrev pub packet_in : ℕ → Message → Packet
packet_in l m = record { source = source_as (kind_of m.opcode) l; message = m }

-- The packets of messages in a lane.
abbrev pub packets_in : ℕ → List Message → List Packet
packets_in l ms = map (packet_in l) ms

-- The messages that a reader finds in words.
unfoldable pub said : List ℕ → List Message
said words = map (λ p. p.message) (walk words).packets

-- The first four words, with 0 for those that are not there.
abbrev pub front : List ℕ → List ℕ
front words = slice_index words 0 ∷ slice_index words 1 ∷ slice_index words 2 ∷ slice_index words 3 ∷ []

-- The packet that a reader finds there, if it finds one.
abbrev pub read_front : List ℕ → Option Packet
read_front words = result_ok (packet_at (front words) 0)

-- How many words it has.
abbrev pub size_of : Option Packet → ℕ
size_of found = option_map_or (λ p. length (packet_words p)) found 0
