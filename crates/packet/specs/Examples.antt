-- Worked examples of the format.
use Rattle.std.specs.Prelude.{◌≡◌, ℕ, List, [], ◌∷◌, Ok}
use Rattle.message.specs.declared.kinds.Kind.{Kind}
use Rattle.message.specs.declared.kinds.Kind.TheVariants.{ReadRequest, ReadData}
use Rattle.message.specs.Messages.{message_of}
use Rattle.packet.specs.declared.Packet.{Packet}
use Rattle.packet.specs.Layout.{packet_words}
use Rattle.packet.specs.Reading.{packet_at}

-- A packet and its words.
pub record Example : Type 0 where
  pub packet : Packet
  pub words : List ℕ

-- A packet from a source: its kind, its record and its value.
abbrev pub from : ℕ → Kind → ℕ → ℕ → Packet
from source kind about value = record { source = source; message = message_of kind about value }

abbrev pub examples : List Example
examples =
    -- a read request of terminal 5 for record 2
    record { packet = from 5 ReadRequest 2 0; words = 0x00050201 ∷ 0x00000002 ∷ [] }
    -- read data for record 2: the value 500
    ∷ record { packet = from 64 ReadData 2 500; words = 0x00400406 ∷ 2 ∷ 500 ∷ 0 ∷ [] }
    ∷ []

-- The packet is written as the words, and they are read as the packet.
pub record Holds (e : Example) : Type 0 where
  pub written : packet_words e.packet ≡ e.words
  pub back : packet_at e.words 0 ≡ Ok e.packet

-- Each of some examples holds.
abbrev pub AllHold : List Example → Type 0
AllHold [] = Unit {0}
AllHold (e ∷ es) = Holds e × AllHold es
