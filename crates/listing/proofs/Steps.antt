-- One line of a listing after another.
use Rattle.std.proofs.Common.{◌≡◌, ℕ, suc, ◌+◌, ◌-◌, ◌<◌, ◌≤◌, List, [], ◌∷◌, length, get_or, Some, None, Ok, Err, Option, refl, arith}
use Rattle.message.specs.declared.kinds.Kind.{Kind}
use Rattle.message.specs.declared.kinds.Kind.TheVariants.{ReadRequest, WriteRequest, Replacement, Update, Acknowledgement, ReadData, WriteData, Invalidate, Busy}
use Rattle.message.specs.Kinds.{kind_of, opcode_of}
use Rattle.packet.specs.declared.Fault.{Fault}
use Rattle.packet.specs.declared.Packet.{Packet}
use Rattle.packet.specs.Layout.{packet_words}
use Rattle.packet.specs.Reading.{packet_at}
use Rattle.packet.specs.Streams.{walk_from}
use Rattle.packet.proofs.Walks.{walk_on, walk_stop}
use Rattle.listing.specs.declared.Line.TheVariants as line
use Rattle.listing.specs.declared.walking.Stage.{Stage}
use Rattle.listing.specs.declared.walking.Stage.TheVariants.{Counting, Ended}
use Rattle.listing.specs.Listings.{lines_at}
use Rattle.listing.specs.Lines.{count_lines, counted, kinds_from, walk_lines}

-- The stage that counts from a kind on, if there is one.
abbrev pub counting_from : Option Kind → Stage
counting_from (Some k) = Counting k
counting_from None = Ended

-- The counts from a kind on begin with its own.
pub count_line : (k : Kind) (words counts : List ℕ) (at packets : ℕ)
    → count_lines (kinds_from k) counts ≡ line.Count k (get_or counts (opcode_of k - 1) 0) ∷ lines_at (counting_from (kind_of (opcode_of k + 1))) words at packets counts
count_line ReadRequest words counts at packets = refl
count_line WriteRequest words counts at packets = refl
count_line Replacement words counts at packets = refl
count_line Update words counts at packets = refl
count_line Acknowledgement words counts at packets = refl
count_line ReadData words counts at packets = refl
count_line WriteData words counts at packets = refl
count_line Invalidate words counts at packets = refl
count_line Busy words counts at packets = refl

-- A fault comes last.
pub fault_line : (words counts : List ℕ) (at packets : ℕ) (f : Fault) → packets ≤ at → at < length words → packet_at words at ≡ Err f
    → walk_lines (walk_from (length words - packets) words at) at packets counts (length words) ≡ line.Fault f ∷ []
fault_line words counts at packets f few here is =
    let more : length words - packets ≡ suc (length words - (packets + 1)) = omega arith in
    rw (more, walk_stop (length words - (packets + 1)) words at f here is)

-- A packet comes before the lines of those after it.
pub packet_line : (words counts : List ℕ) (at packets : ℕ) (p : Packet) (k : Kind) → packets ≤ at → at < length words → packet_at words at ≡ Ok p
    → kind_of p.message.opcode ≡ Some k
    → walk_lines (walk_from (length words - packets) words at) at packets counts (length words)
    ≡ line.Packet at p.source k p.message.«record» p.message.value
    ∷ walk_lines (walk_from (length words - (packets + 1)) words (at + length (packet_words p))) (at + length (packet_words p)) (packets + 1) (counted counts p) (length words)
packet_line words counts at packets p k few here is kind =
    let more : length words - packets ≡ suc (length words - (packets + 1)) = omega arith in
    let rest = walk_from (length words - (packets + 1)) words (at + length (packet_words p)) in
    let sum : packets + suc (length rest.packets) ≡ packets + 1 + length rest.packets = omega arith in
    rw (more, walk_on (length words - (packets + 1)) words at p here is, sum, kind)
