use Rattle.std.proofs.Common.{arith}
use Rattle.std.proofs.lemmas.Bool.Decides.{nat_tests}
use Rattle.full_map.specs.Laws.{unserved_terminal}
use Rattle.full_map.proofs.calls.FullMapDirectory.holds.Goals as goal

pub returns-else-t-self : goal.returns-else-t-self
returns-else-t-self c =
    let m = c.args.self.now in
    let no = unserved_terminal m.words m.terminals c.args.r c.args.t m.narrow (omega arith) in
    grind (arith, nat_tests)
