-- Packets that are written one after another.
use Rattle.std.proofs.Common.{◌≡◌, ℕ, ◌+◌, ◌-◌, ◌<◌, true, false, List, [], ◌∷◌, ◌++◌, length, get_or, take, drop, sym, refl, ap, ◌∙◌, subst, arith, length-drop, is_ok, rules}
use Rattle.std.proofs.lemmas.List.{append_assoc, drop_more}
use Rattle.std.proofs.lemmas.Bool.{both_ways}
use Rattle.message.specs.Refusals.{Answer, accepted}
use Rattle.packet.specs.declared.Packet.{Packet}
use Rattle.packet.specs.Layout.{packet_words}
use Rattle.packet.specs.Streams.{all_sendable, ended, stream, walk}
use Rattle.stream.specs.Sending.{stream_answer, taken}
use Rattle.packet.specs.Writing.{laid_over, write_answer, written}
use Rattle.packet.proofs.Accepts.{accepted_room, accepted_sendable}
use Rattle.stream.proofs.Overlays.{Filled, filled_on}
use Rattle.packet.proofs.Walks.{streams_read_back}

-- The packet that the checker reads past the end of a list.
abbrev zeros : Packet
zeros = record { source = 0; message = record { opcode = 0; «record» = 0; value = 0 } }

-- Before packet i is written, at a place of the buffer: what was written and what the rest yields is the whole.
pub record Sending (ps : List Packet) (old out : List ℕ) (i at : ℕ) : Type 0 where
  pub filled : Filled old out at
  pub words : take at out ++ stream (taken (drop i ps) (length old - at)) ≡ stream (taken ps (length old))
  pub code : stream_answer (drop i ps) (length old - at) ≡ stream_answer ps (length old)

-- What is taken can be sent.
taken_sendable : (ps : List Packet) (room : ℕ) → all_sendable (taken ps room) ≡ true
taken_sendable [] room = refl
taken_sendable (p ∷ ps) room =
    let rest = taken_sendable ps (room - length (packet_words p)) in
    search (rules, accepted_sendable)

-- Where no packet is refused, all are taken.
pub all_taken : (ps : List Packet) (room : ℕ) → stream_answer ps room ≡ accepted → taken ps room ≡ ps
all_taken [] room whole = refl
all_taken (p ∷ ps) room whole =
    elim (is_ok (write_answer p room)) as (λ b. is_ok (write_answer p room) ≡ b → taken (p ∷ ps) room ≡ p ∷ ps) [
      | true ↦ λ took. rw took (ap (λ (qs : List Packet). p ∷ qs) (all_taken ps (room - length (packet_words p)) (rw took at whole)))
      | false ↦ λ refused. absurd (both_ways (is_ok (write_answer p room)) refused (ap is_ok (rw refused at whole)))
    ] refl

-- A walk over what was written finds what was taken.
pub found_back : (ps : List Packet) (room : ℕ) (front : List ℕ) → front ≡ stream (taken ps room) → walk front ≡ ended (taken ps room)
found_back ps room front is = rw is (streams_read_back (taken ps room) (taken_sendable ps room))

-- One packet more that is accepted.
went_on : (ps : List Packet) (old out : List ℕ) (i at : ℕ) (p : Packet) → Sending ps old out i at → drop i ps ≡ p ∷ drop (i + 1) ps
    → is_ok (write_answer p (length out - at)) ≡ true → Sending ps old (take at out ++ written p (drop at out)) (i + 1) (at + length (packet_words p))
went_on ps old out i at p before next took =
    let size = length (packet_words p) in
    let same : is_ok (write_answer p (length old - at)) ≡ true = rw (← before.filled.long) took in
    let put : laid_over (packet_words p) (drop at out) ≡ written p (drop at out) = rw (length-drop at out, took) in
    let step = filled_on old out (packet_words p) at before.filled (accepted_room p (length old - at) (search rules)) in
    let rest : length old - (at + size) ≡ length old - at - size = omega arith in
    subst (λ (buffer : List ℕ). Sending ps old (take at out ++ buffer) (i + 1) (at + size)) put
    (record {
      filled = step.0;
      words = rw (step.1, rest, append_assoc) (rw (next, same) at before.words);
      code = rw rest (rw (next, same) at before.code);
    })

pub sending_on : (ps : List Packet) (old out after : List ℕ) (i at size : ℕ) (c : Answer) → Sending ps old out i at → i < length ps
    → after ≡ take at out ++ written (get_or ps i zeros) (drop at out) → c ≡ write_answer (get_or ps i zeros) (length out - at) → true ≡ is_ok c
    → size ≡ length (packet_words (get_or ps i zeros)) → Sending ps old after (i + 1) (at + size)
sending_on ps old out after i at size c before here words code took long =
    rw (words, long) (went_on ps old out i at (get_or ps i zeros) before (drop_more ps i zeros here) (sym (took ∙ ap is_ok code)))
