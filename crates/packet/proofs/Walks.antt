-- Packets one after another are read as they were written.
use Rattle.std.proofs.Common.{◌≡◌, ℕ, zero, suc, ◌+◌, ◌<◌, ◌≤◌, true, false, leb, List, [], ◌∷◌, ◌++◌, length, take, drop, Some, None, Ok, Err, Result, sym, refl, ap, ◌∙◌, arith, length-append, rules}
use Rattle.std.proofs.lemmas.Bool.{leb-true}
use Rattle.std.proofs.lemmas.List.{append_assoc, append-nil, drop-drop, drop_all, drop_at, get_or-drop, take-append-drop}
use Rattle.packet.specs.declared.Fault.{Fault}
use Rattle.packet.specs.declared.Packet.{Packet}
use Rattle.packet.specs.Layout.{packet_words}
use Rattle.packet.specs.Reading.{packet_at}
use Rattle.packet.specs.Streams.{Walk, ended, led_by, onward, walk_from, walk, stream, all_sendable}
use Rattle.packet.specs.Writing.{sendable}
use Rattle.packet.proofs.Accepts.{sendable_some}
use Rattle.packet.proofs.ReadBack.{written_read}
use Rattle.packet.proofs.WrittenBack.{Words, handed_out}

-- One step of a walk: a packet, or a fault.
pub walk_on : (more : ℕ) (words : List ℕ) (at : ℕ) (p : Packet) → at < length words → packet_at words at ≡ Ok p
    → walk_from (suc more) words at ≡ onward p (walk_from more words (at + length (packet_words p)))
walk_on more words at p here is = search rules

pub walk_stop : (more : ℕ) (words : List ℕ) (at : ℕ) (f : Fault) → at < length words → packet_at words at ≡ Err f
    → walk_from (suc more) words at ≡ record { packets = []; fault = Some f }
walk_stop more words at f here is = search rules

-- A walk at the end of the words.
pub walk_end : (more : ℕ) (words : List ℕ) (at : ℕ) → length words ≤ at → walk_from more words at ≡ ended []
walk_end zero words at end = refl
walk_end (suc more) words at end = search rules

-- Packets that can be sent, after whatever words, are walked as these packets.
walked : (ps : List Packet) (before : List ℕ) (more : ℕ) → all_sendable ps ≡ true → length (stream ps) ≤ more
    → walk_from more (before ++ stream ps) (length before) ≡ ended ps
walked [] before more can room = walk_end more (before ++ []) (length before) (rw append-nil (omega arith))
walked (p ∷ ps) before zero can room =
    let some = sendable_some p (search rules) in
    let long = length-append (packet_words p) (stream ps) in
    absurd (omega arith)
walked (p ∷ ps) before (suc more) can room =
    let can_first : sendable p ≡ true = search rules in
    let some = sendable_some p can_first in
    let long = length-append (packet_words p) (stream ps) in
    let all = length-append before (packet_words p ++ stream ps) in
    let front = drop_at before (packet_words p ++ stream ps) (length before) refl in
    let first : packet_at (before ++ (packet_words p ++ stream ps)) (length before) ≡ Ok p =
    rw front (written_read p (length before) (length (before ++ (packet_words p ++ stream ps))) (stream ps) can_first) in
    let rest = walked ps (before ++ packet_words p) more (search rules) (omega arith) in
    walk_on more (before ++ (packet_words p ++ stream ps)) (length before) p (omega arith) first
    ∙ ap (onward p) (rw (append_assoc, length-append) at rest)

-- Streams of packets that can be sent are read back.
pub streams_read_back : (ps : List Packet) → all_sendable ps ≡ true → walk (stream ps) ≡ ended ps
streams_read_back ps can = walked ps [] (length (stream ps)) can (omega arith)

fits_on : (words : List ℕ) (at : ℕ) → Words words → Words (drop at words)
fits_on words at fit i = rw get_or-drop (fit (at + i))

-- A packet, and then the words after it, are the words from its place on.
first_again : (answer : Result Packet Fault) (words : List ℕ) (at : ℕ) (on : Packet → Walk) → Words words → packet_at words at ≡ answer
    → ((p : Packet) → 2 ≤ length (packet_words p) → (on p).fault ≡ None → stream (on p).packets ≡ drop (at + length (packet_words p)) words)
    → (led_by answer on).fault ≡ None → stream (led_by answer on).packets ≡ drop at words
first_again (Err f) words at on fit is later whole = absurd (let z : ◌≡◌ {A = ℕ} 0 1 = cc in omega arith)
first_again (Ok p) words at on fit is later whole =
    let handed = handed_out at (length words) (drop at words) p (fits_on words at fit) is in
    let size = length (packet_words p) in
    let rest = later p handed.some whole in
    ap (λ (front : List ℕ). front ++ stream (on p).packets) handed.there
    ∙ ap (λ (back : List ℕ). take size (drop at words) ++ back) (rest ∙ sym (drop-drop size at words))
    ∙ take-append-drop size (drop at words)

-- What is left of a walk that comes to the end, written again, is what is left of the words.
left_again : (more : ℕ) (words : List ℕ) (at : ℕ) → Words words → length words ≤ at + more → (walk_from more words at).fault ≡ None
    → stream (walk_from more words at).packets ≡ drop at words
left_again zero words at fit enough whole = sym (drop_all at words (omega arith))
left_again (suc more) words at fit enough whole =
    elim (leb (length words) at) as (λ b. leb (length words) at ≡ b → stream (walk_from (suc more) words at).packets ≡ drop at words) [
      | true ↦ λ done. rw done (sym (drop_all at words (leb-true _ _ done)))
      | false ↦ λ open_end. rw open_end
          (first_again (packet_at words at) words at (λ p. walk_from more words (at + length (packet_words p))) fit refl
          (λ p some. left_again more words (at + length (packet_words p)) fit (omega arith)) (rw open_end at whole))
    ] refl

-- Words that are accepted to the end are what the writer makes of what was read.
pub streams_written_back : (words : List ℕ) → Words words → (walk words).fault ≡ None → stream (walk words).packets ≡ words
streams_written_back words fit whole = left_again (length words) words 0 fit (omega arith) whole
