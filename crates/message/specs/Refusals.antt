-- The number of each refusal, and of each answer. Every promise about an answer's number cites this table.
use Rattle.std.specs.Prelude.{ℕ, Result, Ok, Err}
use Rattle.message.specs.declared.refusals.Refusal.{Refusal}
use Rattle.message.specs.declared.refusals.Refusal.TheVariants.{Waiting, Full, Empty, NoCopy, OutOfTurn, NoSuchTerminal, NoSuchRecord, Unfit, Malformed, AtLimit, MissingWords, UnknownOpcode, WrongLength, WrongSource, UnknownRecord}

abbrev pub number : Refusal → ℕ
number Waiting = 2
number Full = 3
number Empty = 4
number NoCopy = 5
number OutOfTurn = 6
number NoSuchTerminal = 7
number NoSuchRecord = 8
number Unfit = 9
number Malformed = 10
number AtLimit = 11
number MissingWords = 12
number UnknownOpcode = 13
number WrongLength = 14
number WrongSource = 15
number UnknownRecord = 16

-- An accepted call answers 0, and a refused one the number of its refusal.
abbrev pub code_of : {T : Type 0} → Result T Refusal → ℕ
code_of (Ok x) = 0
code_of (Err refusal) = number refusal

-- What a call answers that hands nothing back: that it was accepted, or why it was refused.
abbrev pub Answer : Type 0
Answer = Result (Unit {0}) Refusal

abbrev pub accepted : Answer
accepted = Ok tt
