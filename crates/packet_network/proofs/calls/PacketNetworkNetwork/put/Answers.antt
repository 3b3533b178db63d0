use Rattle.std.proofs.Common.{arith}
use Rattle.lanes.specs.Contents.{contents}
use Rattle.packet_network.proofs.Nets.{put_net}
use Rattle.packet_network.proofs.calls.PacketNetworkNetwork.put.Goals as goal

pub invariant_of-self-2-clause-holds : goal.invariant_of-self-2-clause-holds
invariant_of-self-2-clause-holds c =
    (put_net c.args.self.now c.args.lane c.args.message (contents c.put_packet.new.lanes) (grind arith) (omega arith) c.put_packet.ensures.after).holds

pub returns-clause-after : goal.returns-clause-after
returns-clause-after c =
    (put_net c.args.self.now c.args.lane c.args.message (contents c.put_packet.new.lanes) (grind arith) (omega arith) c.put_packet.ensures.after).after
