-- What lanes mean.
use Rattle.std.specs.Prelude.{ℕ, List}
use Rattle.lanes.specs.declared.Lanes.{Lanes}
use Rattle.lanes.specs.Calls.{Contents}
use Rattle.lanes.specs.Parts.{waiting_in}

-- For each lane, what waits in it, oldest first.
abbrev pub held : {X : Type 0} → Lanes X → ℕ → List X
held lanes = waiting_in lanes.slots.now lanes.spans lanes.size

abbrev pub contents : {X : Type 0} → Lanes X → Contents X
contents lanes = record { count = lanes.count; size = lanes.size; held = held lanes; lender = lanes.slots.ghost_name }
