use Rattle.std.proofs.Common.{ap, ◌∙◌}
use Rattle.directory.specs.Sets.{tally}
use Rattle.full_map.specs.Words.{bit}
use Rattle.full_map.proofs.Bits.{ones_tally}
use Rattle.full_map.proofs.calls.FullMapDirectory.count.Goals as goal

pub returns : goal.returns
returns c = record { answer = ones_tally 64 c.word.result c.word.type_inv ∙ ap (λ w. tally (bit w) 64) c.word.ensures.answer }
