-- One record of a site: what its home keeps, what a terminal has of it, and the messages between them.
use Rattle.std.specs.Prelude.{ℕ, zero, suc, Bool, false, cond, not, ◌&&◌, ◌||◌, List, ◌==◌}

-- What a terminal asks for: to read a record, or to write it.
pub data Access : Type 0 where
  reading writing : Access

-- A terminal's copy of the record: none, one that may be read, or one that may be written too.
pub data Copy (V : Type 0) : Type 0 where
  no_copy : Copy V
  readable writable : V → Copy V

-- Whether a terminal waits for the record, and for what.
pub data Wait : Type 0 where
  still : Wait
  waits : Access → Wait

-- A message about the record. Up to the home go requests, replacements, updates and acknowledgements; down to a terminal
-- go data, invalidations and the answer that the home is busy.
pub data Msg (V : Type 0) : Type 0 where
  REQ : Access → Msg V
  REPM UPDATE : V → Msg V
  ACKC INV BUSY : Msg V
  DATA : Access → V → Msg V

-- A terminal's part of the record: its copy, its wait, and what its lanes hold about the record, oldest first.
pub record Cell (V : Type 0) : Type 0 where
  pub copy : Copy V
  pub wait : Wait
  pub up : List (Msg V)
  pub down : List (Msg V)

-- The home's state of the record. In a transaction it waits for acknowledgements before it grants an access.
pub data Phase : Type 0 where
  read_only read_write : Phase
  Transaction : Access → Phase

-- The home's entry of the record: its state, its value, how many acknowledgements are owed, and who the holders are.
pub record Home (V : Type 0) : Type 0 where
  pub phase : Phase
  pub value : V
  pub acks : ℕ
  pub holds : ℕ → Bool

module _ {V : Type 0} where
  -- A cell of these four parts.
  abbrev pub cell : Copy V → Wait → List (Msg V) → List (Msg V) → Cell V
  cell copy wait up down = record { copy = copy; wait = wait; up = up; down = down }

  -- An entry of these four parts.
  abbrev pub home : Phase → V → ℕ → (ℕ → Bool) → Home V
  home phase value acks holders = record { phase = phase; value = value; acks = acks; holds = holders }

-- Whether two numbers are the same.
unfoldable pub same : ℕ → ℕ → Bool
same t u = t == u

-- How many of the numbers below n pass a test.
unfoldable pub count : (ℕ → Bool) → ℕ → ℕ
count test zero = 0
count test (suc n) = cond (test n) (suc (count test n)) (count test n)

-- The empty set of terminals.
abbrev pub nobody : ℕ → Bool
nobody u = false

-- The holders without terminal t.
abbrev pub besides : ℕ → (ℕ → Bool) → ℕ → Bool
besides t holders u = not (same t u) && holders u

-- The holders and terminal t.
abbrev pub join : ℕ → (ℕ → Bool) → ℕ → Bool
join t holders u = same t u || holders u
