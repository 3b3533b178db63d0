-- Packets written one after another to a buffer.
use Rattle.std.specs.Prelude.{ℕ, ◌-◌, cond, List, [], ◌∷◌, length, Ok, Err, Result, is_ok}
use Rattle.std.specs.Result.{result_map_both}
use Rattle.message.specs.Refusals.{Answer, accepted}
use Rattle.packet.specs.declared.Fault.{Fault}
use Rattle.packet.specs.declared.Packet.{Packet}
use Rattle.packet.specs.Layout.{packet_words}
use Rattle.packet.specs.Streams.{stream}
use Rattle.packet.specs.Writing.{laid_over, write_answer}

-- The packets that the writer takes one after another, given the room, up to the first that it refuses.
abbrev pub taken : List Packet → ℕ → List Packet
taken [] room = []
taken (p ∷ ps) room = cond (is_ok (write_answer p room)) (p ∷ taken ps (room - length (packet_words p))) []

-- The buffer then: it begins with the words of these packets, and the rest is as it was.
abbrev pub written_all : List Packet → List ℕ → List ℕ
written_all ps buffer = laid_over (stream (taken ps (length buffer))) buffer

-- The answer to the first packet that it refuses, if there is one.
abbrev pub stream_answer : List Packet → ℕ → Answer
stream_answer [] room = accepted
stream_answer (p ∷ ps) room =
    cond (is_ok (write_answer p room)) (stream_answer ps (room - length (packet_words p))) (write_answer p room)

-- The answer of writing packets: how many words were written, or why a packet is refused, at the place after these words.
abbrev pub write_all_answer : List Packet → ℕ → Result ℕ Fault
write_all_answer ps room =
    let count = length (stream (taken ps room)) in
    result_map_both (λ _. count) (λ refusal. record { refusal = refusal; place = count }) (stream_answer ps room)

-- How many words were written before this answer.
abbrev pub words_written : Result ℕ Fault → ℕ
words_written (Ok count) = count
words_written (Err fault) = fault.place
