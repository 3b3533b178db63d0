use Rattle.std.proofs.Common.{◌≡◌, ◌+◌, arith}
use Rattle.std.proofs.lemmas.Grind.{common_steps}
use Rattle.message.specs.Kinds.{kind_of, opcode_of}
use Rattle.listing.proofs.Steps.{count_line, counting_from}
use Rattle.listing.proofs.walking.Listing.count_on.Goals as goal

pub returns : goal.returns
returns c =
    let next : c.map_or-self.result ≡ counting_from (kind_of (opcode_of c.args.kind + 1)) = grind (arith, common_steps) in
    let self = c.args.self.now in
    rw (c.requires.stage, c.of.ensures, next) (count_line c.args.kind self.reader.words.now self.counts.0 self.reader.at self.packets)
