-- A put and a drop that are accepted, over the words of a lane.
use Rattle.std.proofs.Common.{◌≡◌, ℕ, ◌+◌, ◌-◌, ◌*◌, ◌<◌, ◌≤◌, true, List, [], ◌∷◌, ◌++◌, length, drop, sym, ap, ◌∙◌, arith}
use Rattle.std.proofs.lemmas.List.{length_push}
use Rattle.std.proofs.lemmas.Bool.{le-leb, lt-ltb}
use Rattle.message.specs.declared.Message.{Message}
use Rattle.message.specs.Lists.{with_list}
use Rattle.message.specs.Messages.{well_formed}
use Rattle.message.specs.Refusals.{accepted}
use Rattle.lanes.specs.Calls.{Contents, after_discard, after_put, discard_answer, put_answer}
use Rattle.network.specs.Traffic.{later}
use Rattle.packet.specs.Layout.{packet_words}
use Rattle.packet.specs.Streams.{stream}
use Rattle.packet_network.specs.Holds.{Packed}
use Rattle.packet_network.specs.Packets.{packet_in, packets_in, read_front, said, size_of}
use Rattle.packet_network.proofs.Fronts.{oldest_fits, oldest_gone}
use Rattle.packet_network.proofs.Packs.{few_words, length_packed, packed_as, packet_sendable, sendable_push, stream_push}

-- A lane that is there takes words for which there is room, and lets go of those that wait.
pub takes : (t : Contents ℕ) (l : ℕ) (words : List ℕ) → l < t.count → length (t.held l) + length words ≤ t.size
    → (put_answer t l words ≡ accepted) × (after_put t l words ≡ record t { held = with_list t.held l (t.held l ++ words) })
takes t l words there fits =
    let yes = lt-ltb l t.count there in
    let room = le-leb (length (t.held l) + length words) t.size fits in
    (rw (yes, room), rw (yes, room))

pub loses : (t : Contents ℕ) (l k : ℕ) → l < t.count → k ≤ length (t.held l)
    → (discard_answer k t l ≡ accepted) × (after_discard k t l ≡ record t { held = with_list t.held l (drop k (t.held l)) })
loses t l k there some =
    let yes = lt-ltb l t.count there in
    let wait = le-leb k (length (t.held l)) some in
    (rw (yes, wait), rw (yes, wait))

-- One message more: there is room for its words, and the lane is packed with them.
pub record Put (l : ℕ) (words : List ℕ) (count depth : ℕ) (m : Message) : Type 0 where
  pub fits : length words + length (packet_words (packet_in l m)) ≤ 4 * depth
  pub packed : Packed l (words ++ packet_words (packet_in l m)) (count + 1) depth
  pub says : said (words ++ packet_words (packet_in l m)) ≡ said words ++ m ∷ []

pub put_step : (l : ℕ) (words : List ℕ) (count depth : ℕ) (m : Message) → Packed l words count depth → l < 64 → well_formed m ≡ true → count < depth → Put l words count depth m
put_step l words count depth m packed there formed room =
    let new : List ℕ = packet_words (packet_in l m) in
    let short = length_packed l words count depth packed in
    let four = few_words (packet_in l m) in
    let is : words ++ new ≡ stream (packets_in l (said words ++ m ∷ [])) =
    ap (λ (ws : List ℕ). ws ++ new) (sym packed.whole) ∙ sym (stream_push l (said words) m) in
    let now = packed_as l (words ++ new) (said words ++ m ∷ []) (count + 1) depth is
    (sendable_push l (said words) m packed.sendable (packet_sendable l m (omega arith) formed))
    (length_push (said words) m ∙ ap (λ (n : ℕ). n + 1) packed.counted) (omega arith) in
    record { fits = omega arith; packed = now.0; says = now.1 }

-- One message less: its words wait, and the lane is packed without them.
pub record Drop (l : ℕ) (words : List ℕ) (count depth : ℕ) : Type 0 where
  pub fits : size_of (read_front words) ≤ length words
  pub packed : Packed l (drop (size_of (read_front words)) words) (count - 1) depth
  pub says : said (drop (size_of (read_front words)) words) ≡ later (said words)

pub drop_step : (l : ℕ) (words : List ℕ) (count depth : ℕ) → Packed l words count depth → Drop l words count depth
drop_step l words count depth packed =
    let now = oldest_gone l words count depth packed in
    record { fits = oldest_fits l words count depth packed; packed = now.0; says = now.1 }
