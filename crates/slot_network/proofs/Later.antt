-- All but the oldest.
use Rattle.std.proofs.Common.{◌≡◌, List, [], ◌∷◌, drop, refl}
use Rattle.message.specs.declared.Message.{Message}
use Rattle.network.specs.Traffic.{later}

pub later_is : (ms : List Message) → later ms ≡ drop 1 ms
later_is [] = refl
later_is (m ∷ ms) = refl
