use Rattle.std.proofs.Common.{◌-◌, ◌≤◌, length, ap, ◌∙◌, arith}
use Rattle.std.proofs.lemmas.Bool.{le-leb}
use Rattle.ring.proofs.Moves.{goes}
use Rattle.ring.proofs.Turns.{length_waiting}
use Rattle.ring.specs.Rings.{contents}
use Rattle.ring.specs.Waiting.{waiting}
use Rattle.ring.proofs.Ring.discard_many.Goals as goal

pub returns-clause-after : goal.returns-clause-after
returns-clause-after g c =
    let ring = c.args.self.now in
    let slots = ring.slots.now in
    let long = length_waiting slots ring.span ring.within.0 ring.within.1 in
    let some : c.args.k ≤ length (waiting slots ring.span) = omega arith in
    ap (λ start. record (contents ring) { items = waiting slots (record { start = start; count = ring.span.count - c.args.k }) }) c.slot.ensures.value
    ∙ ap (λ items. record (contents ring) { items = items }) (goes slots ring.span c.args.k ring.within.0 ring.within.1 (omega arith) ∙ rw (le-leb c.args.k (length (waiting slots ring.span)) some))
