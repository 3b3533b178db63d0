-- The lines of a listing.
use Rattle.std.specs.Prelude.{ℕ, ◌+◌, ◌-◌, List, [], ◌∷◌, ◌++◌, length, drop, replicate, Some, None, Option, slice_index, slice_set}
use Rattle.message.specs.declared.kinds.Kind.{Kind}
use Rattle.message.specs.Kinds.{all_kinds, kind_of, opcode_of}
use Rattle.packet.specs.declared.Fault.{Fault}
use Rattle.packet.specs.declared.Packet.{Packet}
use Rattle.packet.specs.Layout.{packet_words}
use Rattle.packet.specs.Streams.{Walk, walk}
use Rattle.listing.specs.declared.Line.{Line}
use Rattle.listing.specs.declared.Line.TheVariants as line

-- The line of a packet of a kind, at a place.
abbrev pub line_as : Option Kind → ℕ → Packet → List Line
line_as None at p = []
line_as (Some k) at p = line.Packet at p.source k p.message.«record» p.message.value ∷ []

-- The lines of packets one after another, from a place on.
abbrev pub packet_lines : ℕ → List Packet → List Line
packet_lines at [] = []
packet_lines at (p ∷ ps) = line_as (kind_of p.message.opcode) at p ++ packet_lines (at + length (packet_words p)) ps

-- Counts of each kind, in the order of the opcodes, with one more at a packet's kind.
abbrev pub counted : List ℕ → Packet → List ℕ
counted counts p = slice_set counts (p.message.opcode - 1) (slice_index counts (p.message.opcode - 1) + 1)

-- The counts after some packets more.
abbrev pub counted_all : List ℕ → List Packet → List ℕ
counted_all counts [] = counts
counted_all counts (p ∷ ps) = counted_all (counted counts p) ps

-- A kind and those after it.
abbrev pub kinds_from : Kind → List Kind
kinds_from k = drop (opcode_of k - 1) all_kinds

-- A line for each of some kinds: how many packets of it there were.
abbrev pub count_lines : List Kind → List ℕ → List Line
count_lines [] counts = []
count_lines (k ∷ ks) counts = line.Count k (slice_index counts (opcode_of k - 1)) ∷ count_lines ks counts

-- The lines after the packets: the fault, or else the totals and the counts.
abbrev pub last_lines : Option Fault → ℕ → ℕ → List ℕ → List Line
last_lines (Some f) packets words counts = line.Fault f ∷ []
last_lines None packets words counts = line.Totals packets words ∷ count_lines all_kinds counts

-- The lines of a walk from a place on, after so many packets with these counts, over so many words.
abbrev pub walk_lines : Walk → ℕ → ℕ → List ℕ → ℕ → List Line
walk_lines w at packets counts words =
    packet_lines at w.packets ++ last_lines w.fault (packets + length w.packets) words (counted_all counts w.packets)

-- The listing of words.
abbrev pub listing : List ℕ → List Line
listing words = walk_lines (walk words) 0 0 (replicate 9 0) (length words)
