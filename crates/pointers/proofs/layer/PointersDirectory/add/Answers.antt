use Rattle.std.proofs.Common.{◌≡◌, ◌<◌, sym, ◌∙◌, ap₂, arith}
use Rattle.std.proofs.lemmas.Bool.Decides.{nat_tests}
use Rattle.directory.specs.Directories.{View}
use Rattle.directory.specs.Changes.{joined, added, with_holders}
use Rattle.pointers.specs.Layers.{over}
use Rattle.pointers.proofs.Placing.{places}
use Rattle.pointers.proofs.layer.PointersDirectory.add.Goals as goal

pub returns-clause-after : goal.returns-clause-after
returns-clause-after g c =
    let p = c.args.self.now in
    let v : View = g.D.Directory.view p.below in
    let o : View = over p.table.rows v in
    let s = g.met.D.Directory.sound p.below in
    let served : (c.args.r < v.records) × (c.args.t < v.terminals) = (grind (arith, nat_tests), grind (arith, nat_tests)) in
    let joins = places p.table.rows v c.args.r c.args.t (omega (arith, p.table.size)) served.0 served.1 s.most_terminals (omega arith) in
    let accepted : added o c.args.r c.args.t ≡ with_holders o (joined o.holders c.args.r c.args.t) = grind (arith, nat_tests) in
    ap₂ over c.place.ensures.rows c.place.ensures.below ∙ joins ∙ sym accepted
