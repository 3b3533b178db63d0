use Rattle.std.proofs.Common.{◌≡◌, drop}
use Rattle.pointers.specs.Layers.{spilled}
use Rattle.pointers.proofs.layer.spill.Given as goal

abbrev pub invariant-loop-n : goal.invariant-loop-n
invariant-loop-n g l = spilled (g.D.Directory.view l.d) l.r (drop l.n-index l.n-items) ≡ spilled (g.D.Directory.view l.initial.d) l.r l.n-items
