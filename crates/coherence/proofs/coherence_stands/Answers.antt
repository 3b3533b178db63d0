use Rattle.coherence.proofs.Theorem.{coherence}
use Rattle.coherence.proofs.coherence_stands.Goals as goal

pub returns : goal.returns
returns c = record { coherence = coherence }
