-- Messages that are sent: to one lane, or to the lanes of a set of terminals.
use Rattle.std.specs.Prelude.{ℕ, zero, suc, ◌+◌, Bool, true, cond, not, ◌&&◌, ◌||◌, List, [], ◌∷◌, ◌++◌, length, ◌==◌, nat_le, nat_lt}
use Rattle.message.specs.declared.Message.{Message}
use Rattle.message.specs.Lists.{with_list}
use Rattle.network.specs.Traffic.{Traffic}

-- Can lane l take some messages more?
abbrev pub has_room_for : ℕ → Traffic → ℕ → Bool
has_room_for some traffic l = nat_le (length (traffic.waiting l) + some) traffic.depth

-- Can lane l take one message more?
abbrev pub has_room : Traffic → ℕ → Bool
has_room traffic l = nat_lt (length (traffic.waiting l)) traffic.depth

-- What waits after a message has joined the end of lane l; the other lanes stay.
abbrev pub sent : (ℕ → List Message) → ℕ → Message → ℕ → List Message
sent waiting l m = with_list waiting l (waiting l ++ m ∷ [])

-- Does a test hold of each number below n?
unfoldable pub all_below : ℕ → (ℕ → Bool) → Bool
all_below zero test = true
all_below (suc n) test = all_below n test && test n

-- Can the lane of each member below n take one message more?
abbrev pub each_has_room : Traffic → (ℕ → Bool) → ℕ → Bool
each_has_room traffic member n = all_below n (λ i. not (member i) || has_room traffic i)

-- What waits after a message has joined the end of the lane of each member below n; the other lanes stay.
unfoldable pub sent_to_each : (ℕ → List Message) → (ℕ → Bool) → ℕ → Message → ℕ → List Message
sent_to_each waiting member n m i = cond (nat_lt i n && member i) (waiting i ++ m ∷ []) (waiting i)

-- A set of terminals without one of them.
abbrev pub besides : (ℕ → Bool) → ℕ → ℕ → Bool
besides member t i = member i && not (i == t)
