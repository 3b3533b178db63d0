use Rattle.stream.proofs.Sends.{Sending}
use Rattle.stream.proofs.write_all.Given as goal

abbrev pub invariant-loop-packet : goal.invariant-loop-packet
invariant-loop-packet l = Sending l.packets l.initial.out l.out l.packet-index l.at
