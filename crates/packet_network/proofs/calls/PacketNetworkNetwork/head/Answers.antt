use Rattle.std.proofs.Common.{◌≡◌, ap, ◌∙◌, arith, rules}
use Rattle.std.specs.Option.{option_map}
use Rattle.packet.specs.declared.Packet.{Packet}
use Rattle.packet_network.proofs.Nets.{head_net}
use Rattle.packet_network.proofs.calls.PacketNetworkNetwork.head.Goals as goal

pub returns : goal.returns
returns c =
    let is : c.map.result ≡ option_map (λ p. p.message) c.oldest_in.result = search rules in
    is ∙ ap (option_map (λ (p : Packet). p.message)) c.oldest_in.ensures ∙ head_net c.args.self.now c.args.lane (omega arith)
