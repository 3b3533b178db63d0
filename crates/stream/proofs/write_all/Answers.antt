use Rattle.std.proofs.Common.{length, take, arith, rules}
use Rattle.std.proofs.lemmas.Grind.{common_steps}
use Rattle.stream.specs.Sending.{words_written}
use Rattle.stream.proofs.Sends.{all_taken, found_back, sending_on}
use Rattle.stream.proofs.write_all.Goals as goal

pub returns-in_err-map_err-clause-back : goal.returns-in_err-map_err-clause-back
returns-in_err-map_err-clause-back c =
    found_back c.args.packets.now (length c.args.out.now) (take (words_written c.from_residual.result) c.write_at.new.out) (grind (arith, common_steps))

pub loop-packet-preserved : goal.loop-packet-preserved
loop-packet-preserved c =
    sending_on c.args.packets.now c.args.out.now c.loop-packet.out c.write_at.new.out c.loop-packet.packet-index c.loop-packet.at c.size.result c.write_at.result
    c.loop-packet.invariant c.loop-packet-test.true (search rules) (search rules) (search rules) (search rules)

pub returns-clause-back : goal.returns-clause-back
returns-clause-back c = found_back c.args.packets.now (length c.args.out.now) (take c.loop-packet.at c.loop-packet.out) (grind (arith, common_steps))

pub returns-clause-all : goal.returns-clause-all
returns-clause-all c = all_taken c.args.packets.now (length c.args.out.now) (grind (arith, common_steps))
