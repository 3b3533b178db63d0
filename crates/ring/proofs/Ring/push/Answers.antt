use Rattle.std.proofs.Common.{◌+◌, ◌<◌, length, set, ap, ◌∙◌, arith, length-set}
use Rattle.ring.proofs.Moves.{joins}
use Rattle.ring.proofs.Turns.{length_waiting}
use Rattle.ring.specs.Waiting.{waiting}
use Rattle.ring.proofs.Ring.push.Goals as goal

pub returns : goal.returns
returns g c =
    let ring = c.args.self.now in
    let slots = ring.slots.now in
    let long = length_waiting slots ring.span ring.within.0 ring.within.1 in
    let free : ring.span.count < length slots = omega arith in
    let is = ap (λ at. waiting (set slots at c.args.x) (record ring.span { count = ring.span.count + 1 })) c.slot-at.ensures.value ∙ joins slots ring.span c.args.x ring.within.0 free in
    rw (is, length-set)
