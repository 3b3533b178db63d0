-- A line of a listing as text.
use Rattle.std.specs.Prelude.{ℕ, Bool, true, false, List, [], ◌++◌, codes, decimal}
use Rattle.message.specs.Kinds.{carries_value, mnemonic_of}
use Rattle.message.specs.Refusals.{number}
use Rattle.listing.specs.declared.Line.{Line}
use Rattle.listing.specs.declared.Line.TheVariants as line

-- A packet's value, where it has one.
abbrev pub value_text : Bool → ℕ → List ℕ
value_text true value = codes " value " ++ decimal value
value_text false value = []

-- A packet: its place, source, kind, record and value. A fault: its place and its number. The totals. The count of a kind.
abbrev pub line_text : Line → List ℕ
line_text (line.Packet place source kind about value) =
    decimal place ++ (codes " from " ++ (decimal source ++ (codes " " ++ (mnemonic_of kind ++ (codes " record " ++ (decimal about ++ value_text (carries_value kind) value))))))
line_text (line.Fault fault) = codes "fault " ++ (decimal fault.place ++ (codes " " ++ decimal (number fault.refusal)))
line_text (line.Totals packets words) = decimal packets ++ (codes " packets, " ++ (decimal words ++ codes " words"))
line_text (line.Count kind packets) = decimal packets ++ (codes " " ++ mnemonic_of kind)
