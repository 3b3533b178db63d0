use Rattle.std.proofs.Common.{◌≡◌, take}
use Rattle.network_client.specs.Runs.{after_calls}
use Rattle.network_client.proofs.run.Given as goal

-- So many of the calls were made.
abbrev pub invariant-loop-call : goal.invariant-loop-call
invariant-loop-call g l =
    g.N.Network.traffic l.net ≡ after_calls (g.N.Network.traffic l.initial.net) (take l.call-index l.calls)
