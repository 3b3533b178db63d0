use Rattle.std.proofs.Common.{sym, ap, ◌∙◌, arith}
use Rattle.ring.specs.Calls as ring
use Rattle.lanes.specs.Calls.{ring_of}
use Rattle.lanes.specs.Contents.{contents}
use Rattle.lanes.proofs.Lands.{found, landed, same_ring}
use Rattle.lanes.proofs.Lanes.put_all.Goals as goal

pub returns-clause-after : goal.returns-clause-after
returns-clause-after g c =
    let lanes = c.args.self.now in
    let slots = c.in_ok-part.part in
    let here = found lanes.count lanes.size c.args.lane slots (sym c.in_ok-part.was ∙ c.part.ensures.value) in
    let same = same_ring lanes c.args.lane slots here in
    landed lanes c.args.lane slots c.put_in.new.part c.put_in.new.span (ring.after_put (ring_of (contents lanes) c.args.lane) c.args.xs.now) here (omega arith)
    (c.put_in.auto.part ∙ ap (λ r. r.room) same) (c.put_in.ensures.items ∙ ap (λ r. (ring.after_put r c.args.xs.now).items) same)
