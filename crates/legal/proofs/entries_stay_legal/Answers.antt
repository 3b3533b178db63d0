use Rattle.legal.proofs.Operations.{entries_stay_legal}
use Rattle.legal.proofs.entries_stay_legal.Goals as goal

pub returns : goal.returns
returns c = record { legal = entries_stay_legal }
