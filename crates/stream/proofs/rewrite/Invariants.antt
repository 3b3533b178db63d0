use Rattle.std.proofs.Common.{◌≡◌, ◌-◌, length}
use Rattle.stream.proofs.Rewrites.{Rewriting}
use Rattle.stream.proofs.rewrite.Given as goal

abbrev pub invariant-loop-reader : goal.invariant-loop-reader
invariant-loop-reader l = (l.reader.words.now ≡ l.words) × Rewriting l.words l.initial.out l.out l.reader.at l.count

abbrev pub decreases-loop-reader : goal.decreases-loop-reader
decreases-loop-reader l = length l.words - l.reader.at
