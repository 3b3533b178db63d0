use Rattle.std.proofs.Common.{ap}
use Rattle.lanes.proofs.Lands.{waiting_none}
use Rattle.lanes.proofs.Lanes.new.Goals as goal

pub returns : goal.returns
returns g c =
    ap (λ held. record { count = c.args.count; size = c.args.size; held = held; lender = c.args.slots.ghost_name })
    (waiting_none 64 c.args.slots.now c.args.size c.default.result c.default.ensures)
