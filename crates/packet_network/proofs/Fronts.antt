-- The oldest packet of packed words: the reader finds it in their first four, and without it the later messages are left.
use Rattle.std.proofs.Common.{◌≡◌, ℕ, ◌-◌, ◌≤◌, Bool, true, false, List, [], ◌∷◌, ◌++◌, length, get_or, drop, Some, None, Option, sym, refl, ap, ◌∙◌, arith}
use Rattle.std.proofs.lemmas.List.{drop_at, length-append}
use Rattle.std.proofs.lemmas.Bool.{and_parts}
use Rattle.std.specs.List.{slice_get}
use Rattle.message.specs.declared.Message.{Message}
use Rattle.message.specs.declared.kinds.Kind.{Kind}
use Rattle.message.specs.Kinds.{carries_value, kind_of}
use Rattle.network.specs.Traffic.{later}
use Rattle.packet.proofs.ReadBack.{written_read}
use Rattle.packet.specs.declared.Packet.{Packet}
use Rattle.packet.specs.Layout.{header, packet_words, value_words, words_as}
use Rattle.packet.specs.Reading.{packet_at}
use Rattle.packet.specs.Streams.{all_sendable, stream}
use Rattle.packet.specs.Writing.{sendable, sendable_as}
use Rattle.std.specs.Option.{option_map}
use Rattle.std.specs.Result.{result_ok}
use Rattle.packet_network.specs.Packets.{front, packet_in, packets_in, read_front, said, size_of}
use Rattle.packet_network.specs.Holds.{Packed}
use Rattle.packet_network.proofs.Packs.{packed_as}

-- The first four words behind a packet with a value (b) or without.
abbrev behind : Bool → List ℕ → List ℕ
behind true rest = []
behind false rest = get_or rest 0 0 ∷ get_or rest 1 0 ∷ []

front_at : (b : Bool) (h r v : ℕ) (rest : List ℕ) → front (h ∷ r ∷ value_words b v ++ rest) ≡ (h ∷ r ∷ value_words b v) ++ behind b rest
front_at true h r v rest = refl
front_at false h r v rest = refl

found_as : (o : Option Kind) (p : Packet) (rest : List ℕ) → kind_of p.message.opcode ≡ o → sendable p ≡ true → sendable_as o p ≡ true
    → read_front (words_as o p ++ rest) ≡ Some p
found_as None p rest kind can as-kind = absurd (let z : ◌≡◌ {A = ℕ} 0 1 = cc in omega arith)
found_as (Some k) p rest kind can as-kind =
    let words : packet_words p ≡ words_as (Some k) p = ap (λ (o : Option Kind). words_as o p) kind in
    let more = behind (carries_value k) rest in
    let is : front (words_as (Some k) p ++ rest) ≡ packet_words p ++ more =
    front_at (carries_value k) (header k p.source) p.message.«record» p.message.value rest ∙ ap (λ (ws : List ℕ). ws ++ more) (sym words) in
    ap (λ (ws : List ℕ). result_ok (packet_at ws 0)) is ∙ ap result_ok (written_read p 0 (length (packet_words p ++ more)) more can)

-- A packet in front is found.
pub front_found : (p : Packet) (rest : List ℕ) → sendable p ≡ true → read_front (packet_words p ++ rest) ≡ Some p
front_found p rest can = found_as (kind_of p.message.opcode) p rest refl can can

-- The oldest message of packed words, if there is one.
abbrev pub message_of : Option Packet → Option Message
message_of found = option_map (λ p. p.message) found

head_packed : (l : ℕ) (ms : List Message) → all_sendable (packets_in l ms) ≡ true → message_of (read_front (stream (packets_in l ms))) ≡ slice_get ms 0
head_packed l [] all = refl
head_packed l (m ∷ ms) all =
    ap message_of (front_found (packet_in l m) (stream (packets_in l ms)) (and_parts (sendable (packet_in l m)) (all_sendable (packets_in l ms)) all).0)

pub head_said : (l : ℕ) (words : List ℕ) (count depth : ℕ) → Packed l words count depth → option_map (λ p. p.message) (read_front words) ≡ slice_get (said words) 0
head_said l words count depth packed = ap (λ (ws : List ℕ). message_of (read_front ws)) (sym packed.whole) ∙ head_packed l (said words) packed.sendable

-- What is left without the oldest.
size_packed : (l : ℕ) (m : Message) (ms : List Message) → all_sendable (packets_in l (m ∷ ms)) ≡ true
    → size_of (read_front (stream (packets_in l (m ∷ ms)))) ≡ length (packet_words (packet_in l m))
size_packed l m ms all =
    ap size_of (front_found (packet_in l m) (stream (packets_in l ms)) (and_parts (sendable (packet_in l m)) (all_sendable (packets_in l ms)) all).0)

fits_packed : (l : ℕ) (ms : List Message) → all_sendable (packets_in l ms) ≡ true → size_of (read_front (stream (packets_in l ms))) ≤ length (stream (packets_in l ms))
fits_packed l [] all = omega arith
fits_packed l (m ∷ ms) all =
    let size = size_packed l m ms all in
    let long = length-append (packet_words (packet_in l m)) (stream (packets_in l ms)) in
    omega arith

pub oldest_fits : (l : ℕ) (words : List ℕ) (count depth : ℕ) → Packed l words count depth → size_of (read_front words) ≤ length words
oldest_fits l words count depth packed = rw packed.whole at (fits_packed l (said words) packed.sendable)

drop_packed : (l : ℕ) (ms : List Message) → all_sendable (packets_in l ms) ≡ true
    → drop (size_of (read_front (stream (packets_in l ms)))) (stream (packets_in l ms)) ≡ stream (packets_in l (later ms))
drop_packed l [] all = refl
drop_packed l (m ∷ ms) all = drop_at (packet_words (packet_in l m)) (stream (packets_in l ms)) _ (sym (size_packed l m ms all))

later_sendable : (l : ℕ) (ms : List Message) → all_sendable (packets_in l ms) ≡ true → all_sendable (packets_in l (later ms)) ≡ true
later_sendable l [] all = refl
later_sendable l (m ∷ ms) all = (and_parts (sendable (packet_in l m)) (all_sendable (packets_in l ms)) all).1

length_later : (ms : List Message) (n : ℕ) → length ms ≡ n → length (later ms) ≡ n - 1
length_later [] n is = omega arith
length_later (m ∷ ms) n is = omega arith

pub oldest_gone : (l : ℕ) (words : List ℕ) (count depth : ℕ) → Packed l words count depth
    → Packed l (drop (size_of (read_front words)) words) (count - 1) depth × (said (drop (size_of (read_front words)) words) ≡ later (said words))
oldest_gone l words count depth packed =
    packed_as l (drop (size_of (read_front words)) words) (later (said words)) (count - 1) depth
    (ap (λ (ws : List ℕ). drop (size_of (read_front ws)) ws) (sym packed.whole) ∙ drop_packed l (said words) packed.sendable)
    (later_sendable l (said words) packed.sendable) (length_later (said words) count packed.counted) (omega (arith, packed.within))
