use Rattle.std.proofs.Common.{sym, ap, ◌∙◌, arith}
use Rattle.ring.specs.Calls as ring
use Rattle.lanes.specs.Calls.{ring_of}
use Rattle.lanes.specs.Contents.{contents}
use Rattle.lanes.proofs.Lands.{found, landed, same_ring}
use Rattle.lanes.proofs.Lanes.discard_many.Goals as goal

pub returns-clause-after : goal.returns-clause-after
returns-clause-after g c =
    let lanes = c.args.self.now in
    let slots = c.in_ok-part.part in
    let here = found lanes.count lanes.size c.args.lane slots (sym c.in_ok-part.was ∙ c.part.ensures.value) in
    let same = same_ring lanes c.args.lane slots here in
    landed lanes c.args.lane slots c.discard_in.new.part c.discard_in.new.span (ring.after_discard c.args.k (ring_of (contents lanes) c.args.lane)) here (omega arith)
    (c.discard_in.auto.part ∙ ap (λ r. r.room) same) (c.discard_in.ensures.items ∙ ap (λ r. (ring.after_discard c.args.k r).items) same)
