-- The nine kinds of message: their numbers, their direction, what they carry, how they are shown.
use Rattle.std.specs.Prelude.{◌≡◌, ℕ, Bool, true, false, cond, List, [], ◌∷◌, Some, None, codes, Option, ◌==◌, Result, IfOk}
use Rattle.std.specs.Option.{ok_or}
use Rattle.message.specs.declared.kinds.Kind.{Kind}
use Rattle.message.specs.declared.refusals.Refusal.{Refusal}
use Rattle.message.specs.declared.refusals.Refusal.TheVariants.{UnknownOpcode}
use Rattle.message.specs.declared.kinds.Kind.TheVariants.{ReadRequest, WriteRequest, Replacement, Update, Acknowledgement, ReadData, WriteData, Invalidate, Busy}

-- The opcode of a kind.
abbrev pub opcode_of : Kind → ℕ
opcode_of ReadRequest = 1
opcode_of WriteRequest = 2
opcode_of Replacement = 3
opcode_of Update = 4
opcode_of Acknowledgement = 5
opcode_of ReadData = 6
opcode_of WriteData = 7
opcode_of Invalidate = 8
opcode_of Busy = 9

-- The first of some kinds that has an opcode, if one has it.
abbrev pub kind_among : List Kind → ℕ → Option Kind
kind_among [] opcode = None
kind_among (k ∷ ks) opcode = cond (opcode == opcode_of k) (Some k) (kind_among ks opcode)

abbrev pub all_kinds : List Kind
all_kinds =
    ReadRequest ∷ WriteRequest ∷ Replacement ∷ Update ∷ Acknowledgement ∷ ReadData ∷ WriteData ∷ Invalidate ∷ Busy ∷ []

-- The kind with an opcode, if there is one.
abbrev pub kind_of : ℕ → Option Kind
kind_of opcode = kind_among all_kinds opcode

-- What reading an opcode answers: the kind with it, of which it is the opcode again, or that it is the number of no kind.
pub record Decodes (opcode : ℕ) (answer : Result Kind Refusal) : Type 0 where
  pub value : answer ≡ ok_or (kind_of opcode) UnknownOpcode
  pub back : IfOk answer (λ kind. opcode_of kind ≡ opcode)

-- What writing a kind as a number gives: its opcode, which is read as that kind again.
pub record Encodes (kind : Kind) (opcode : ℕ) : Type 0 where
  pub value : opcode ≡ opcode_of kind
  pub back : kind_of opcode ≡ Some kind

-- Whether a kind carries a value.
abbrev pub carries_value : Kind → Bool
carries_value ReadRequest = false
carries_value WriteRequest = false
carries_value Replacement = true
carries_value Update = true
carries_value Acknowledgement = false
carries_value ReadData = true
carries_value WriteData = true
carries_value Invalidate = false
carries_value Busy = false

-- Whether a kind goes from a terminal to the home.
abbrev pub goes_home : Kind → Bool
goes_home ReadRequest = true
goes_home WriteRequest = true
goes_home Replacement = true
goes_home Update = true
goes_home Acknowledgement = true
goes_home ReadData = false
goes_home WriteData = false
goes_home Invalidate = false
goes_home Busy = false

-- How many words a packet of a kind has: header and record, and two more for a value.
abbrev pub words_of : Kind → ℕ
words_of k = cond (carries_value k) 4 2

-- The short name of a kind.
abbrev pub mnemonic_of : Kind → List ℕ
mnemonic_of ReadRequest = codes "RREQ"
mnemonic_of WriteRequest = codes "WREQ"
mnemonic_of Replacement = codes "REPM"
mnemonic_of Update = codes "UPDATE"
mnemonic_of Acknowledgement = codes "ACKC"
mnemonic_of ReadData = codes "RDATA"
mnemonic_of WriteData = codes "WDATA"
mnemonic_of Invalidate = codes "INV"
mnemonic_of Busy = codes "BUSY"
