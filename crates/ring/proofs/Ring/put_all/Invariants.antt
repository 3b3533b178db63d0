use Rattle.std.proofs.Common.{◌≡◌, ◌+◌, ◌≤◌, ◌++◌, length, take}
use Rattle.ring.specs.Rings.{contents}
use Rattle.ring.proofs.Ring.put_all.Given as goal

-- So many joined, and there is room for all of them.
abbrev pub invariant-loop-x : goal.invariant-loop-x
invariant-loop-x g l =
    (contents l.self ≡ record (contents l.initial.self) { items = (contents l.initial.self).items ++ take l.x-index l.xs })
    × (length (contents l.initial.self).items + length l.xs ≤ (contents l.initial.self).room)
