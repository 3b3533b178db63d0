-- What is read is written back: the words that pass every check are the words of the packet that they say.
use Rattle.std.proofs.Common.{◌≡◌, ℕ, ◌+◌, ◌*◌, ◌/◌, ◌%◌, ◌^◌, ◌<◌, ◌≤◌, Bool, true, false, cond, ◌&&◌, ◌||◌, eqb, nat_le, List, [], ◌∷◌, length, slice_index, take, Some, None, Ok, Option, sym, refl, subst, arith, length-take-le}
use Rattle.std.proofs.lemmas.Bool.Decides.{nat_tests}
use Rattle.message.specs.declared.kinds.Kind.{Kind}
use Rattle.message.specs.Kinds.{kind_of, carries_value, words_of}
use Rattle.message.proofs.Opcodes.{kind_of_opcode, opcode_of_kind}
use Rattle.packet.specs.declared.Packet.{Packet}
use Rattle.packet.specs.Layout.{header, opcode_in, length_in, source_in, value_in, value_words, packet_words, source_fits}
use Rattle.packet.specs.Reading.{said, front_as, front_packet, Stands}

-- A header is made of its fields.
whole : (h : ℕ) → source_in h * 2 ^ 16 + length_in h * 2 ^ 8 + opcode_in h ≡ h
whole h = omega arith

-- Words that hold 32 bits each.
abbrev pub Words : List ℕ → Type 0
Words ws = (i : ℕ) → slice_index ws i < 2 ^ 32

-- The words of a packet from its parts, with a value (b) or without.
rebuilt : (b : Bool) (ws : List ℕ) → Words ws → cond b 4 2 ≤ length ws
    → slice_index ws 0 ∷ slice_index ws 1 ∷ value_words b (cond b (value_in (slice_index ws 2) (slice_index ws 3)) 0) ≡ take (cond b 4 2) ws
rebuilt b [] fit long = absurd (grind (arith, nat_tests))
rebuilt b (w ∷ []) fit long = absurd (grind (arith, nat_tests))
rebuilt false (w ∷ x ∷ ws) fit long = refl
rebuilt true (w ∷ x ∷ []) fit long = absurd (omega arith)
rebuilt true (w ∷ x ∷ y ∷ []) fit long = absurd (omega arith)
rebuilt true (w ∷ x ∷ y ∷ z ∷ ws) fit long =
    let low : value_in y z % 2 ^ 32 ≡ y = omega (arith, fit 2) in
    let high : value_in y z / 2 ^ 32 ≡ z = omega (arith, fit 2) in
    rw (low, high) refl

-- The packet that words say, where they pass every check, is written as these words.
said_handed : (k : Kind) (front : List ℕ) → Words front → kind_of (opcode_in (slice_index front 0)) ≡ Some k → length_in (slice_index front 0) ≡ words_of k
    → words_of k ≤ length front → source_fits k (source_in (slice_index front 0)) ≡ true → slice_index front 1 ≤ 63
    → Stands front (said k front) (take (words_of k) front)
said_handed k front fit kind long room fits small =
    let head : header k (source_in (slice_index front 0)) ≡ slice_index front 0 = rw (← long, opcode_of_kind (opcode_in (slice_index front 0)) k kind) (whole (slice_index front 0)) in
    let many : length (take (words_of k) front) ≡ words_of k = length-take-le (words_of k) front room in
    let two : 2 ≤ words_of k = grind (arith, nat_tests) in
    record {
      sendable = rw kind_of_opcode (grind (arith, nat_tests));
      again = rw (kind_of_opcode, head) (rebuilt (carries_value k) front fit room);
      there = rw many;
      some = rw many two;
      within = rw many room;
    }

-- A packet that is read from words of 32 bits is written as these words.
pub handed_out : (at end : ℕ) (front : List ℕ) (p : Packet) → Words front → front_packet at end front ≡ Ok p → Stands front p (packet_words p)
handed_out at end front p fit here = by (kind_of (opcode_in (slice_index front 0))) refl (grind (arith, nat_tests)) where
  by : (o : Option Kind) → kind_of (opcode_in (slice_index front 0)) ≡ o → front_as o at end front ≡ Ok p → Stands front p (packet_words p)
  by None kind e = absurd (grind (arith, nat_tests))
  by (Some k) kind e =
      let is : said k front ≡ p = grind (arith, nat_tests) in
      let handed = said_handed k front fit kind (grind (arith, nat_tests)) (grind (arith, nat_tests)) (grind (arith, nat_tests)) (grind (arith, nat_tests)) in
      subst (λ (q : Packet). Stands front q (packet_words q)) is (rw (← handed.again) at handed)
