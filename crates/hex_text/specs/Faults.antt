-- What is printed of a refused text.
use Rattle.std.specs.Prelude.{ℕ, List, ◌++◌, codes, decimal}
use Rattle.hex_text.specs.declared.faults.TextFault.{TextFault}
use Rattle.hex_text.specs.declared.faults.TextFault.TheVariants.{Long, Short, Stray}

abbrev pub fault_text : TextFault → List ℕ
fault_text Long = codes "the text is longer than 1048576 bytes"
fault_text Short = codes "the buffer for the words is shorter than the text"
fault_text (Stray line column) =
    codes "line " ++ (decimal line ++ (codes ", column " ++ (decimal column ++ codes ": not a hexadecimal word")))
