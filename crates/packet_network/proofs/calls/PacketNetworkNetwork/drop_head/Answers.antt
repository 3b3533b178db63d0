use Rattle.std.proofs.Common.{sym, ap, ◌∙◌, arith}
use Rattle.lanes.specs.Calls.{after_discard}
use Rattle.lanes.specs.Contents.{contents}
use Rattle.packet_network.proofs.Nets.{drop_net}
use Rattle.packet_network.proofs.calls.PacketNetworkNetwork.drop_head.Goals as goal

pub invariant_of-self-2-clause-holds : goal.invariant_of-self-2-clause-holds
invariant_of-self-2-clause-holds c =
    (drop_net c.args.self.now c.args.lane (contents c.discard_many.new.self) (sym c.check_drop.ensures ∙ c.in_ok-check_drop.was) (omega arith) (c.discard_many.ensures.after ∙ ap (λ k. after_discard k (contents c.args.self.now.lanes) c.args.lane) c.oldest_size-size.ensures)).holds

pub returns-clause-after : goal.returns-clause-after
returns-clause-after c =
    (drop_net c.args.self.now c.args.lane (contents c.discard_many.new.self) (sym c.check_drop.ensures ∙ c.in_ok-check_drop.was) (omega arith) (c.discard_many.ensures.after ∙ ap (λ k. after_discard k (contents c.args.self.now.lanes) c.args.lane) c.oldest_size-size.ensures)).after
