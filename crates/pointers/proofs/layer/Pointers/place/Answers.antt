use Rattle.std.proofs.Common.{ap, ◌∙◌}
use Rattle.pointers.specs.declared.rows.Row.{Row}
use Rattle.pointers.specs.declared.rows.Placed.{Placed}
use Rattle.pointers.specs.Rows.{apart, placed, row_of}
use Rattle.pointers.proofs.Placing.{places_once}
use Rattle.pointers.proofs.layer.Pointers.place.Goals as goal

pub put-requires-clause-once : goal.put-requires-clause-once
put-requires-clause-once g c =
    let table = c.args.self.now.table in
    ap (λ (p : Placed). apart p.row.numbers) (c.place-placed.ensures.value ∙ ap (λ (w : Row). placed w c.args.t) c.row.ensures.value)
    ∙ places_once (row_of table.rows c.args.r) c.args.t (table.once c.args.r) c.requires.lacks
