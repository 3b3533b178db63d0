use Rattle.std.proofs.Common.{rules, ◌≡◌, ◌≤◌, sym, arith}
use Rattle.std.proofs.lemmas.Bool.Decides.{nat_tests}
use Rattle.std.proofs.iter.runs.Made.{chains}
use Rattle.std.specs.List.{count_by}
use Rattle.std.proofs.lemmas.List.Sums.{length-filter}
use Rattle.directory.specs.Directories.{View}
use Rattle.directory.proofs.Counting.{tally_le, tally_none}
use Rattle.pointers.specs.declared.rows.Row.{Row}
use Rattle.pointers.proofs.Unions.{fresh, count_over, served_row, unserved}
use Rattle.pointers.proofs.layer.PointersDirectory.count.Goals as goal

pub returns-in_default : goal.returns-in_default
returns-in_default g c =
    let p = c.args.self.now in
    let v : View = g.D.Directory.view p.below in
    let absent : v.records ≤ c.args.r = grind (arith, nat_tests) in
    record { answer = sym (tally_none _ 64 (λ u. unserved v _ c.args.r u (g.met.D.Directory.sound p.below) absent)) }

pub returns : goal.returns
returns g c =
    let p = c.args.self.now in
    let v : View = g.D.Directory.view p.below in
    let s = g.met.D.Directory.sound p.below in
    let r = c.args.r in
    let w : Row = served_row p.table.rows v r in
    let above : c.count-above.result ≡ count_by (fresh v r) w.numbers = search (rules, chains) in
    record { answer = omega (arith, length-filter (fresh v r) w.numbers, count_over p.table.rows v r s.most_terminals (p.table.once r)) }

pub overflow_add-result : goal.overflow_add-result
overflow_add-result g c =
    let v : View = g.D.Directory.view c.args.self.now.below in
    omega (arith, tally_le (v.holders c.args.r) 64, c.count-above.ensures.bound)
