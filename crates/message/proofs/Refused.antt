-- No refusal has the number of an accepted call.
use Rattle.std.proofs.Common.{◌≡◌, false, eqb, refl}
use Rattle.message.specs.declared.refusals.Refusal.{Refusal}
use Rattle.message.specs.declared.refusals.Refusal.TheVariants.{Waiting, Full, Empty, NoCopy, OutOfTurn, NoSuchTerminal, NoSuchRecord, Unfit, Malformed, AtLimit, MissingWords, UnknownOpcode, WrongLength, WrongSource, UnknownRecord}
use Rattle.message.specs.Refusals.{number}

pub refused_number : (refusal : Refusal) → eqb (number refusal) 0 ≡ false
refused_number Waiting = refl
refused_number Full = refl
refused_number Empty = refl
refused_number NoCopy = refl
refused_number OutOfTurn = refl
refused_number NoSuchTerminal = refl
refused_number NoSuchRecord = refl
refused_number Unfit = refl
refused_number Malformed = refl
refused_number AtLimit = refl
refused_number MissingWords = refl
refused_number UnknownOpcode = refl
refused_number WrongLength = refl
refused_number WrongSource = refl
refused_number UnknownRecord = refl
