use Rattle.std.proofs.Common.{arith}
use Rattle.std.proofs.lemmas.Grind.{common_steps}
use Rattle.message.proofs.Opcodes.{opcode_of_kind}
use Rattle.listing.proofs.Steps.{fault_line, packet_line}
use Rattle.listing.proofs.walking.Listing.walk_on.Goals as goal

pub returns-in-Ok : goal.returns-in-Ok
returns-in-Ok c =
    let self = c.args.self.now in
    let found = c.in-Ok.field-0 in
    let number = opcode_of_kind found.packet.message.opcode found.kind c.in-Ok.ensures.handed.kind in
    rw (c.requires.stage, c.in-Ok.ensures.words, c.in-Ok.ensures.at, c.count.ensures, c.place-place.ensures, number)
    (packet_line self.reader.words.now self.counts.0 self.reader.at self.packets found.packet found.kind self.few
    (grind (arith, common_steps)) (grind (arith, common_steps)) c.in-Ok.ensures.handed.kind)

pub returns-in-Err : goal.returns-in-Err
returns-in-Err c =
    let self = c.args.self.now in
    rw c.requires.stage
    (fault_line self.reader.words.now self.counts.0 self.reader.at self.packets c.in-Err.fault self.few (grind (arith, common_steps)) (grind (arith, common_steps)))
