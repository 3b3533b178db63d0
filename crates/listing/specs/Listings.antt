-- The lines that a listing has yet to give.
use Rattle.std.specs.Prelude.{ℕ, ◌-◌, List, [], length}
use Rattle.packet.specs.Streams.{walk_from}
use Rattle.listing.specs.declared.Line.{Line}
use Rattle.listing.specs.declared.walking.Listing.{Listing}
use Rattle.listing.specs.declared.walking.Stage.{Stage}
use Rattle.listing.specs.declared.walking.Stage.TheVariants.{Walking, Counting, Ended}
use Rattle.listing.specs.Lines.{count_lines, kinds_from, walk_lines}

-- By its stage: those of the rest of the walk, or the counts from a kind on, or none.
abbrev pub lines_at : Stage → List ℕ → ℕ → ℕ → List ℕ → List Line
lines_at Walking words at packets counts = walk_lines (walk_from (length words - packets) words at) at packets counts (length words)
lines_at (Counting k) words at packets counts = count_lines (kinds_from k) counts
lines_at Ended words at packets counts = []

abbrev pub lines_left : Listing → List Line
lines_left l = lines_at l.stage l.reader.words.now l.reader.at l.packets l.counts.0
