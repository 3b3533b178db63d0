-- Messages that are packed into words are what a reader finds there.
use Rattle.std.proofs.Common.{◌≡◌, ℕ, ◌*◌, ◌≤◌, Bool, true, false, cond, eqb, leb, List, [], ◌∷◌, ◌++◌, length, map, Some, None, Option, sym, refl, ap, ◌∙◌, arith}
use Rattle.std.proofs.lemmas.List.{append_assoc, append-nil, length-append}
use Rattle.std.proofs.lemmas.Bool.{and_from, and_parts, le-leb}
use Rattle.message.specs.declared.Message.{Message}
use Rattle.message.specs.declared.kinds.Kind.{Kind}
use Rattle.message.specs.Kinds.{carries_value, goes_home, kind_of}
use Rattle.message.specs.Messages.{formed_as, well_formed}
use Rattle.packet.proofs.Walks.{streams_read_back}
use Rattle.packet.specs.declared.Packet.{Packet}
use Rattle.packet.specs.Layout.{header, packet_words, source_fits, value_words, words_as}
use Rattle.packet.specs.Streams.{Walk, all_sendable, stream}
use Rattle.packet.specs.Writing.{sendable, sendable_as}
use Rattle.packet_network.specs.Holds.{Packed}
use Rattle.packet_network.specs.Packets.{packet_in, packets_in, said, source_as}

-- A well-formed message can be sent in every lane.
source_good : (home : Bool) (l : ℕ) → l ≤ 63 → cond home (leb (cond home l 64) 63) (eqb (cond home l 64) 64) ≡ true
source_good true l small = le-leb l 63 small
source_good false l small = refl

sendable_as_kind : (o : Option Kind) (l : ℕ) (m : Message) → l ≤ 63 → formed_as o m ≡ true
    → sendable_as o (record { source = source_as o l; message = m }) ≡ true
sendable_as_kind None l m small good = good
sendable_as_kind (Some k) l m small good = and_from (formed_as (Some k) m) (source_fits k (source_as (Some k) l)) good (source_good (goes_home k) l small)

pub packet_sendable : (l : ℕ) (m : Message) → l ≤ 63 → well_formed m ≡ true → sendable (packet_in l m) ≡ true
packet_sendable l m small good = sendable_as_kind (kind_of m.opcode) l m small good

-- A packet has at most four words.
few_as : (b : Bool) (h r v : ℕ) → length (h ∷ r ∷ value_words b v) ≤ 4
few_as true h r v = omega arith
few_as false h r v = omega arith

few_words_as : (o : Option Kind) (p : Packet) → length (words_as o p) ≤ 4
few_words_as None p = omega arith
few_words_as (Some k) p = few_as (carries_value k) (header k p.source) p.message.«record» p.message.value

pub few_words : (p : Packet) → length (packet_words p) ≤ 4
few_words p = few_words_as (kind_of p.message.opcode) p

pub length_stream : (l : ℕ) (ms : List Message) → length (stream (packets_in l ms)) ≤ 4 * length ms
length_stream l [] = omega arith
length_stream l (m ∷ ms) =
    let whole = length-append (packet_words (packet_in l m)) (stream (packets_in l ms)) in
    let first = few_words (packet_in l m) in
    let rest = length_stream l ms in
    omega arith

-- One message more.
pub stream_push : (l : ℕ) (ms : List Message) (m : Message)
    → stream (packets_in l (ms ++ m ∷ [])) ≡ stream (packets_in l ms) ++ packet_words (packet_in l m)
stream_push l [] m = append-nil (packet_words (packet_in l m))
stream_push l (k ∷ ms) m =
    ap (λ (words : List ℕ). packet_words (packet_in l k) ++ words) (stream_push l ms m)
    ∙ sym (append_assoc (packet_words (packet_in l k)) (stream (packets_in l ms)) (packet_words (packet_in l m)))

pub sendable_push : (l : ℕ) (ms : List Message) (m : Message) → all_sendable (packets_in l ms) ≡ true → sendable (packet_in l m) ≡ true
    → all_sendable (packets_in l (ms ++ m ∷ [])) ≡ true
sendable_push l [] m all one = and_from (sendable (packet_in l m)) true one refl
sendable_push l (k ∷ ms) m all one =
    let parts = and_parts (sendable (packet_in l k)) (all_sendable (packets_in l ms)) all in
    and_from (sendable (packet_in l k)) (all_sendable (packets_in l (ms ++ m ∷ []))) parts.0 (sendable_push l ms m parts.1 one)

-- Packed messages are found again.
unpacked : (l : ℕ) (ms : List Message) → map (λ (p : Packet). p.message) (packets_in l ms) ≡ ms
unpacked l [] = refl
unpacked l (m ∷ ms) = ap (λ (rest : List Message). m ∷ rest) (unpacked l ms)

pub said_again : (l : ℕ) (ms : List Message) → all_sendable (packets_in l ms) ≡ true → said (stream (packets_in l ms)) ≡ ms
unfolding said
said_again l ms all = ap (λ (w : Walk). map (λ (p : Packet). p.message) w.packets) (streams_read_back (packets_in l ms) all) ∙ unpacked l ms

-- Words that are the packets of messages say them.
pub packed_as : (l : ℕ) (words : List ℕ) (ms : List Message) (count depth : ℕ) → words ≡ stream (packets_in l ms) → all_sendable (packets_in l ms) ≡ true
    → length ms ≡ count → count ≤ depth → Packed l words count depth × (said words ≡ ms)
packed_as l words ms count depth is all many few =
    let says : said words ≡ ms = ap said is ∙ said_again l ms all in (
      record {
        whole = ap (λ (ns : List Message). stream (packets_in l ns)) says ∙ sym is;
        sendable = ap (λ (ns : List Message). all_sendable (packets_in l ns)) says ∙ all;
        counted = ap length says ∙ many;
        within = few;
      },
      says,
    )

pub length_packed : (l : ℕ) (words : List ℕ) (count depth : ℕ) → Packed l words count depth → length words ≤ 4 * count
length_packed l words count depth packed =
    let whole = ap length packed.whole in let few = length_stream l (said words) in omega (arith, packed.counted)
