use Rattle.std.proofs.Common.{◌≡◌, length, set, rules}
use Rattle.message.specs.Refusals.{accepted}
use Rattle.packet.specs.Writing.{write_answer, written}
use Rattle.packet.proofs.ReadBack.{accepted_read}
use Rattle.packet.proofs.Packet.write.Goals as goal

pub returns-then-carries_value-clause-back : goal.returns-then-carries_value-clause-back
returns-then-carries_value-clause-back c _ =
    let p = c.args.self in
    let old = c.args.out.now in
    let took : write_answer p (length old) ≡ accepted = search rules in
    let words : set (set (set (set old 0 c.from.result) 1 p.message.«record») 2 c.from-low.result.low) 3 c.from-low.result.high ≡ written p old = search rules in
    rw words (accepted_read p old took)
