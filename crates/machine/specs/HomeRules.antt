-- What the home does about a message: its rules, state by state, and the cells after it acted.
use Rattle.std.specs.Prelude.{ℕ, ◌-◌, Bool, true, false, cond, not, ◌&&◌, ◌||◌, List, [], ◌∷◌, ◌++◌, ◌==◌, nat_lt}
use Rattle.std.proofs.Math.Option.{Option, none, some}
use Rattle.machine.specs.Machine.{Access, reading, writing, Msg, REQ, REPM, UPDATE, ACKC, INV, BUSY, DATA, Cell, cell, Phase, read_only, read_write, Transaction, Home, home, same, count, nobody, besides, join}

-- What the home does: its entry afterwards, and one message to each terminal of a set.
pub record Act (V : Type 0) : Type 0 where
  pub next : Home V
  pub to : ℕ → Bool
  pub msg : Msg V

module _ {V : Type 0} where
  -- The message is taken, and this is done about it.
  abbrev pub act : Home V → (ℕ → Bool) → Msg V → Option (Act V)
  act next receivers message = some (record { next = next; to = receivers; msg = message })

-- The state that a transaction ends in.
abbrev pub granted : Access → Phase
granted reading = read_only
granted writing = read_write

-- Whether a transaction may be owed more than one acknowledgement: one for a write may, one for a read has had one owner.
abbrev pub many_acks : Access → Bool
many_acks reading = false
many_acks writing = true

-- There is one holder among the served terminals, and it is one of the n that take part.
abbrev pub one_holder : ℕ → ℕ → (ℕ → Bool) → Bool
one_holder n served holders = count holders served == 1 && count holders n == 1

module _ {V : Type 0} where
  -- The last acknowledgement has come: the access is granted, and the one holder gets the data.
  unfoldable pub finish : ℕ → ℕ → Access → V → (ℕ → Bool) → Option (Act V)
  finish n served k value holders =
      cond (one_holder n served holders) (act (home (granted k) value 0 holders) holders (DATA k value)) none

  -- Read-Only. A reader becomes a holder and gets the data, unless the directory is at its limit. A writer that is the only
  -- holder, or finds none, owns the record; other holders are told to invalidate first. Nothing else is expected.
  unfoldable pub on_read_only : ℕ → ℕ → ℕ → V → (ℕ → Bool) → ℕ → Msg V → Option (Act V)
  on_read_only n served limit value holders t (REQ reading) =
      cond
      (holders t || nat_lt (count holders served) limit)
      (act (home read_only value 0 (join t holders)) (same t) (DATA reading value))
      (act (home read_only value 0 holders) (same t) BUSY)
  on_read_only n served limit value holders t (REQ writing) =
      cond
      (count (besides t holders) served == 0)
      (act (home read_write value 0 (same t)) (same t) (DATA writing value))
      (cond
      (count holders served == count holders n)
      (act
      (home (Transaction writing) value (count (besides t holders) served) (same t))
      (besides t holders)
      INV)
      none)
  on_read_only n served limit value holders t (REPM w) = none
  on_read_only n served limit value holders t (UPDATE w) = none
  on_read_only n served limit value holders t ACKC = none
  on_read_only n served limit value holders t INV = none
  on_read_only n served limit value holders t BUSY = none
  on_read_only n served limit value holders t (DATA k w) = none

  -- Read-Write. A request of another starts a transaction: the owner is told to invalidate. The owner's replacement brings
  -- the value home, and nobody holds the record. Nothing else is expected.
  unfoldable pub on_read_write : ℕ → ℕ → V → (ℕ → Bool) → ℕ → Msg V → Option (Act V)
  on_read_write n served value holders t (REQ k) =
      cond
      (not (holders t) && one_holder n served holders)
      (act (home (Transaction k) value 1 (same t)) holders INV)
      none
  on_read_write n served value holders t (REPM w) =
      cond (holders t && one_holder n served holders) (act (home read_only w 0 nobody) nobody BUSY) none
  on_read_write n served value holders t (UPDATE w) = none
  on_read_write n served value holders t ACKC = none
  on_read_write n served value holders t INV = none
  on_read_write n served value holders t BUSY = none
  on_read_write n served value holders t (DATA k w) = none

  -- In a transaction. A request is turned away; a replacement brings the value; an update is value and last acknowledgement
  -- in one; an acknowledgement is the last one or is counted off.
  unfoldable pub on_transaction : ℕ → ℕ → Access → V → ℕ → (ℕ → Bool) → ℕ → Msg V → Option (Act V)
  on_transaction n served k value acks holders t (REQ j) = act (home (Transaction k) value acks holders) (same t) BUSY
  on_transaction n served k value acks holders t (REPM w) = act (home (Transaction k) w acks holders) nobody BUSY
  on_transaction n served k value acks holders t (UPDATE w) = cond (acks == 1) (finish n served k w holders) none
  on_transaction n served k value acks holders t ACKC =
      cond
      (acks == 1)
      (finish n served k value holders)
      (cond
      (many_acks k && nat_lt 1 acks)
      (act (home (Transaction k) value (acks - 1) holders) nobody BUSY)
      none)
  on_transaction n served k value acks holders t INV = none
  on_transaction n served k value acks holders t BUSY = none
  on_transaction n served k value acks holders t (DATA j w) = none

  -- The rule of each state.
  abbrev pub on : ℕ → ℕ → ℕ → Phase → V → ℕ → (ℕ → Bool) → ℕ → Msg V → Option (Act V)
  on n served limit read_only value acks holders t message = on_read_only n served limit value holders t message
  on n served limit read_write value acks holders t message = on_read_write n served value holders t message
  on n served limit (Transaction k) value acks holders t message =
      on_transaction n served k value acks holders t message

  -- What the home does about a message of terminal t, or none where no rule expects it.
  abbrev pub rule : ℕ → ℕ → ℕ → Home V → ℕ → Msg V → Option (Act V)
  rule n served limit entry t message =
      on n served limit entry.phase entry.value entry.acks entry.holds t message

  -- A lane without its oldest message.
  abbrev pub rest : List (Msg V) → List (Msg V)
  rest [] = []
  rest (m ∷ ms) = ms

  -- A cell after the home took the oldest message of its up lane.
  abbrev pub pop_up : Cell V → Cell V
  pop_up c = cell c.copy c.wait (rest c.up) c.down

  -- A cell after the home sent a message down, or did not.
  abbrev pub push_down : Bool → Msg V → Cell V → Cell V
  push_down true m c = cell c.copy c.wait c.up (c.down ++ (m ∷ []))
  push_down false m c = c

  -- The cells after the home took terminal t's oldest message and sent its own to the receivers.
  abbrev pub after : ℕ → (ℕ → Bool) → Msg V → (ℕ → Cell V) → ℕ → Cell V
  after t receivers m cells u = push_down (receivers u) m (cond (same t u) (pop_up (cells u)) (cells u))

  -- 1 for a replacement, 0 for any other message.
  abbrev pub one_replacement : Msg V → ℕ
  one_replacement (REQ k) = 0
  one_replacement (REPM v) = 1
  one_replacement (UPDATE v) = 0
  one_replacement ACKC = 0
  one_replacement INV = 0
  one_replacement BUSY = 0
  one_replacement (DATA k v) = 0
