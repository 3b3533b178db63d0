-- Words that are walked, and whose packets are written again.
use Rattle.std.specs.Prelude.{ℕ, cond, List, length, Some, None, Ok, Err, Result, nat_le}
use Rattle.message.specs.declared.refusals.Refusal.TheVariants.{Full}
use Rattle.message.specs.Checks.{given}
use Rattle.packet.specs.declared.Fault.{Fault}
use Rattle.packet.specs.Streams.{stream, walk}
use Rattle.packet.specs.Writing.{laid_over}

-- The answer of writing words again: the buffer is at least as long, the walk comes to the end, and this many packets were found.
abbrev pub rewrite_answer : List ℕ → ℕ → Result ℕ Fault
rewrite_answer words room =
    given (nat_le (length words) room) (Err (record { refusal = Full; place = room }))
    (elim (walk words).fault [ None ↦ Ok (length (walk words).packets) | Some f ↦ Err f ])

-- The buffer then: it begins with the packets that the walk found, unless it was too short.
abbrev pub rewritten : List ℕ → List ℕ → List ℕ
rewritten words buffer = cond (nat_le (length words) (length buffer)) (laid_over (stream (walk words).packets) buffer) buffer
