use Rattle.std.proofs.Common.{ap}
use Rattle.packet_network.proofs.Holds.{holds_none}
use Rattle.packet_network.proofs.PacketNetwork.new.Goals as goal

pub invariant_of-result-clause-holds : goal.invariant_of-result-clause-holds
invariant_of-result-clause-holds c =
    holds_none _ 64 c.new.result.count c.args.depth (λ l. ap (λ t. t.held l) c.new.ensures)
