-- Words that are read and written again.
use Rattle.std.proofs.Common.{◌≡◌, ℕ, suc, ◌+◌, ◌-◌, ◌<◌, ◌≤◌, true, leb, List, [], ◌++◌, length, take, drop, Some, None, Ok, Err, Option, refl, sym, ap, ◌∙◌, arith, take-add}
use Rattle.std.proofs.lemmas.Grind.{common_steps}
use Rattle.std.proofs.lemmas.List.{append_assoc, append-nil}
use Rattle.std.proofs.lemmas.Bool.{le-leb}
use Rattle.packet.specs.declared.Fault.{Fault}
use Rattle.packet.specs.declared.Packet.{Packet}
use Rattle.packet.specs.Layout.{packet_words}
use Rattle.packet.specs.Reading.{Stands, packet_at}
use Rattle.packet.specs.Streams.{stream, walk, walk_from}
use Rattle.stream.specs.Rewriting.{rewrite_answer, rewritten}
use Rattle.packet.specs.Writing.{laid_over, written}
use Rattle.packet.proofs.Accepts.{sendable_accepted}
use Rattle.stream.proofs.Overlays.{Filled, filled_is, filled_on}
use Rattle.packet.proofs.Walks.{walk_end, walk_on, walk_stop}

-- With a place reached and so many packets found: what was written is what was read, and the rest of the walk makes it whole.
pub record Rewriting (words old out : List ℕ) (at count : ℕ) : Type 0 where
  pub filled : Filled old out at
  pub same : take at out ≡ take at words
  pub roomy : length words ≤ length old
  pub few : count ≤ at
  pub found : take at words ++ stream (walk_from (length words - count) words at).packets ≡ stream (walk words).packets
  pub total : count + length (walk_from (length words - count) words at).packets ≡ length (walk words).packets
  pub fault : (walk_from (length words - count) words at).fault ≡ (walk words).fault

-- One packet more.
pub rewriting_on : (words old out after part : List ℕ) (at count : ℕ) (p : Packet) → Rewriting words old out at count → at < length words
    → packet_at words at ≡ Ok p → Stands (drop at words) p part → after ≡ take at out ++ written p (drop at out)
    → Rewriting words old after (at + length (packet_words p)) (count + 1)
rewriting_on words old out after part at count p before here is handed written_at =
    let size = length (packet_words p) in
    let part_of : packet_words p ≡ take size (drop at words) = rw handed.again handed.there in
    let pieces : take at words ++ packet_words p ≡ take (at + size) words = rw (take-add, ← part_of) refl in
    let fits : size ≤ length (drop at out) = grind (arith, common_steps) in
    let put : written p (drop at out) ≡ laid_over (packet_words p) (drop at out) = rw (sendable_accepted p (length (drop at out)) handed.sendable fits) in
    let step = filled_on old out (packet_words p) at before.filled (grind (arith, common_steps)) in
    let more : length words - count ≡ suc (length words - (count + 1)) = omega (arith, before.few) in
    let on = ap (λ (n : ℕ). walk_from n words at) more ∙ walk_on (length words - (count + 1)) words at p here is in
    rw (written_at, put)
    (record {
      filled = step.0;
      same = rw (step.1, before.same) pieces;
      roomy = before.roomy;
      few = grind (arith, common_steps);
      found = rw (← pieces, append_assoc) (rw on at before.found);
      total = omega (arith, rw on at before.total);
      fault = rw on at before.fault;
    })

-- What the buffer holds, and what is answered, once the walk has no packet left.
rewriting_ends : (words old out : List ℕ) (at count : ℕ) (end : Option Fault) → Rewriting words old out at count
    → walk_from (length words - count) words at ≡ record { packets = []; fault = end }
    → (out ≡ rewritten words old) × (count ≡ length (walk words).packets) × ((walk words).fault ≡ end)
rewriting_ends words old out at count end before last =
    let roomy : leb (length words) (length old) ≡ true = le-leb _ _ before.roomy in
    let front : take at out ≡ stream (walk words).packets = rw (before.same, ← append-nil (take at words)) (rw last at before.found) in
    (rw roomy (filled_is old out (stream (walk words).packets) at before.filled front).1, omega (arith, rw last at before.total), sym (rw last at before.fault))

-- A walk that has come to the end of the words.
pub rewriting_done : (words old out : List ℕ) (at count : ℕ) → Rewriting words old out at count → length words ≤ at
    → (Ok count ≡ rewrite_answer words (length old)) × (out ≡ rewritten words old)
rewriting_done words old out at count before end =
    let held = rewriting_ends words old out at count None before (walk_end (length words - count) words at end) in
    let roomy : leb (length words) (length old) ≡ true = le-leb _ _ before.roomy in
    (rw (roomy, held.2, held.1), held.0)

-- A walk that is stopped by a fault.
pub rewriting_stopped : (words old out : List ℕ) (at count : ℕ) (f : Fault) → Rewriting words old out at count → at < length words → packet_at words at ≡ Err f
    → (Err f ≡ rewrite_answer words (length old)) × (out ≡ rewritten words old)
rewriting_stopped words old out at count f before here is =
    let more : length words - count ≡ suc (length words - (count + 1)) = omega (arith, before.few) in
    let held = rewriting_ends words old out at count (Some f) before (rw more (walk_stop (length words - (count + 1)) words at f here is)) in
    let roomy : leb (length words) (length old) ≡ true = le-leb _ _ before.roomy in
    (rw (roomy, held.2), held.0)
