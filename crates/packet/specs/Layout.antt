-- The layout of a packet: a header, the record, and in four-word kinds the two halves of the value.
use Rattle.std.specs.Prelude.{ℕ, ◌+◌, ◌*◌, ◌/◌, ◌%◌, ◌^◌, Bool, true, false, cond, List, [], ◌∷◌, Some, None, Option, ◌==◌, nat_le}
use Rattle.message.specs.declared.kinds.Kind.{Kind}
use Rattle.message.specs.Kinds.{kind_of, opcode_of, carries_value, goes_home, words_of}
use Rattle.packet.specs.declared.Packet.{Packet}

-- The header of a packet of a kind: the opcode in bits 0 to 7, the length in words, header counted, in bits 8 to 15, and the
-- source in bits 16 to 31.
abbrev pub header : Kind → ℕ → ℕ
header k source = source * 2 ^ 16 + words_of k * 2 ^ 8 + opcode_of k

-- The three fields of a header.
abbrev pub opcode_in : ℕ → ℕ
opcode_in head = head % 2 ^ 8

abbrev pub length_in : ℕ → ℕ
length_in head = head / 2 ^ 8 % 2 ^ 8

abbrev pub source_in : ℕ → ℕ
source_in head = head / 2 ^ 16

-- The words of a value, low half first, where there is one.
abbrev pub value_words : Bool → ℕ → List ℕ
value_words true v = v % 2 ^ 32 ∷ v / 2 ^ 32 ∷ []
value_words false v = []

-- The value of two halves.
abbrev pub value_in : ℕ → ℕ → ℕ
value_in low high = high * 2 ^ 32 + low

-- The words of a packet of a kind.
abbrev pub words_as : Option Kind → Packet → List ℕ
words_as None p = []
words_as (Some k) p = header k p.source ∷ p.message.«record» ∷ value_words (carries_value k) p.message.value

-- The words of a packet.
abbrev pub packet_words : Packet → List ℕ
packet_words p = words_as (kind_of p.message.opcode) p

-- The sources that go with a kind: a terminal, so at most 63, for what goes to the home, and 64 for what comes from it.
abbrev pub source_fits : Kind → ℕ → Bool
source_fits k source = cond (goes_home k) (nat_le source 63) (source == 64)
