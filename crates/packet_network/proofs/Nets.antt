-- The steps of a packet network: what its lanes answer and leave is what the network means.
use Rattle.std.proofs.Common.{◌≡◌, ℕ, ◌+◌, ◌-◌, ◌<◌, ◌≤◌, List, length, get_or, drop, set, ◌++◌, sym, ap, ◌∙◌, subst, arith, ltb, None}
use Rattle.std.proofs.lemmas.Bool.{cond-true, lt-ltb}
use Rattle.std.specs.List.{slice_get}
use Rattle.std.specs.Option.{option_map}
use Rattle.message.specs.declared.Message.{Message}
use Rattle.message.specs.Lists.{with_list}
use Rattle.message.specs.Refusals.{accepted}
use Rattle.lanes.specs.Calls.{Contents}
use Rattle.lanes.specs.Calls as lanes
use Rattle.lanes.specs.Contents.{contents, held}
use Rattle.network.specs.Traffic.{Traffic, after_drop, after_put, drop_answer, drop_waiting, oldest, put_answer, put_waiting, with_waiting}
use Rattle.network.proofs.Takes.{Lost, Took, lost, took}
use Rattle.packet.specs.Layout.{packet_words}
use Rattle.packet_network.specs.declared.PacketNetwork.{PacketNetwork}
use Rattle.packet_network.specs.Holds.{Holds, Packed}
use Rattle.packet_network.specs.Means.{said_in, traffic_of}
use Rattle.packet_network.specs.Packets.{packet_in, read_front, said, size_of}
use Rattle.packet_network.proofs.Fronts.{head_said}
use Rattle.packet_network.proofs.Holds.{kept, said_with}
use Rattle.packet_network.proofs.Steps.{Drop, Put, drop_step, loses, put_step, takes}

-- A put that the network accepts, the lanes take.
record Taken (net : PacketNetwork) (l : ℕ) (m : Message) : Type 0 where
  pub took : Took (traffic_of net) l m
  pub step : Put l (held net.lanes l) (get_or net.counts l 0) net.depth m
  pub answer : lanes.put_answer (contents net.lanes) l (packet_words (packet_in l m)) ≡ accepted
  pub after : lanes.after_put (contents net.lanes) l (packet_words (packet_in l m))
      ≡ record (contents net.lanes) { held = with_list (held net.lanes) l (held net.lanes l ++ packet_words (packet_in l m)) }

taken : (net : PacketNetwork) (l : ℕ) (m : Message) → put_answer (traffic_of net) l m ≡ accepted → Taken net l m
taken net l m accepts =
    let took = took (traffic_of net) l m accepts in
    let packed = net.holds l took.there in
    let step = put_step l (held net.lanes l) (get_or net.counts l 0) net.depth m packed (omega (arith, took.there)) took.formed (omega (arith, packed.counted, took.room)) in
    let does = takes (contents net.lanes) l (packet_words (packet_in l m)) took.there (omega (arith, step.fits, net.words)) in
    record { took = took; step = step; answer = does.0; after = does.1 }

pub put_taken : (net : PacketNetwork) (l : ℕ) (m : Message) → put_answer (traffic_of net) l m ≡ accepted
    → lanes.put_answer (contents net.lanes) l (packet_words (packet_in l m)) ≡ accepted
put_taken net l m accepts = (taken net l m accepts).answer

-- What then holds of the lanes, and what they mean.
pub record Stands (net : PacketNetwork) (counts : List ℕ) (now : Contents ℕ) (traffic : Traffic) : Type 0 where
  pub holds : Holds now.held counts now.count net.depth
  pub after : record { lanes = now.count; depth = net.depth; waiting = said_in now.held } ≡ traffic

stands : (net : PacketNetwork) (l : ℕ) (words : List ℕ) (n : ℕ) (ms : List Message) (now : Contents ℕ) (waiting : ℕ → List Message) → l < length net.counts
    → now ≡ record (contents net.lanes) { held = with_list (held net.lanes) l words } → Packed l words n net.depth → said words ≡ ms
    → waiting ≡ with_list (said_in (held net.lanes)) l ms → Stands net (set net.counts l n) now (with_waiting (traffic_of net) waiting)
stands net l words n ms now waiting listed are packed says is = record {
  holds = subst (λ (t : Contents ℕ). Holds t.held (set net.counts l n) t.count net.depth) (sym are)
      (kept (held net.lanes) net.counts net.lanes.count net.depth l words n listed net.holds packed);
  after = ap (λ (t : Contents ℕ). record { lanes = t.count; depth = net.depth; waiting = said_in t.held }) are
      ∙ ap (with_waiting (traffic_of net)) (said_with (held net.lanes) l words ∙ ap (with_list (said_in (held net.lanes)) l) says ∙ sym is);
}

pub put_net : (net : PacketNetwork) (l : ℕ) (m : Message) (now : Contents ℕ) → put_answer (traffic_of net) l m ≡ accepted → 64 ≤ length net.counts
    → now ≡ lanes.after_put (contents net.lanes) l (packet_words (packet_in l m))
    → Stands net (set net.counts l (get_or net.counts l 0 + 1)) now (after_put (traffic_of net) l m)
put_net net l m now accepts listed is =
    let taken = taken net l m accepts in
    stands net l _ _ _ now (put_waiting (traffic_of net) l m) (omega (arith, taken.took.there)) (is ∙ taken.after) taken.step.packed taken.step.says taken.took.after

-- A drop that the network accepts, the lanes do.
record Gone (net : PacketNetwork) (l : ℕ) : Type 0 where
  pub lost : Lost (traffic_of net) l
  pub step : Drop l (held net.lanes l) (get_or net.counts l 0) net.depth
  pub answer : lanes.discard_answer (size_of (read_front (held net.lanes l))) (contents net.lanes) l ≡ accepted
  pub after : lanes.after_discard (size_of (read_front (held net.lanes l))) (contents net.lanes) l
      ≡ record (contents net.lanes) { held = with_list (held net.lanes) l (drop (size_of (read_front (held net.lanes l))) (held net.lanes l)) }

gone : (net : PacketNetwork) (l : ℕ) → drop_answer (traffic_of net) l ≡ accepted → Gone net l
gone net l accepts =
    let lost = lost (traffic_of net) l accepts in
    let step = drop_step l (held net.lanes l) (get_or net.counts l 0) net.depth (net.holds l lost.there) in
    let does = loses (contents net.lanes) l (size_of (read_front (held net.lanes l))) lost.there step.fits in
    record { lost = lost; step = step; answer = does.0; after = does.1 }

pub drop_gone : (net : PacketNetwork) (l : ℕ) → drop_answer (traffic_of net) l ≡ accepted
    → lanes.discard_answer (size_of (read_front (held net.lanes l))) (contents net.lanes) l ≡ accepted
drop_gone net l accepts = (gone net l accepts).answer

pub drop_net : (net : PacketNetwork) (l : ℕ) (now : Contents ℕ) → drop_answer (traffic_of net) l ≡ accepted → 64 ≤ length net.counts
    → now ≡ lanes.after_discard (size_of (read_front (held net.lanes l))) (contents net.lanes) l
    → Stands net (set net.counts l (get_or net.counts l 0 - 1)) now (after_drop (traffic_of net) l)
drop_net net l now accepts listed is =
    let gone = gone net l accepts in
    stands net l _ _ _ now (drop_waiting (traffic_of net) l) (omega (arith, gone.lost.there)) (is ∙ gone.after) gone.step.packed gone.step.says gone.lost.after

-- The head of a lane that is there is what the oldest packet says.
pub head_net : (net : PacketNetwork) (l : ℕ) → l < net.lanes.count
    → option_map (λ p. p.message) (read_front (held net.lanes l)) ≡ oldest (traffic_of net) l
head_net net l there =
    head_said l (held net.lanes l) _ _ (net.holds l there)
    ∙ sym (cond-true (ltb l net.lanes.count) (slice_get (said (held net.lanes l)) 0) None (lt-ltb l net.lanes.count there))
