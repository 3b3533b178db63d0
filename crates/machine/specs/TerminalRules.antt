-- What a terminal does about a message.
use Rattle.std.specs.Prelude.{ℕ, Bool, true, List, [], ◌∷◌}
use Rattle.std.proofs.Math.Option.{Option, none, some}
use Rattle.machine.specs.Machine.{Access, reading, writing, Copy, no_copy, readable, writable, Wait, still, waits, Msg, REQ, REPM, UPDATE, ACKC, INV, BUSY, DATA}
use Rattle.machine.specs.Site.{Place, clear}

-- What a terminal does: its copy and its wait afterwards, and what it replies.
pub record Took (V : Type 0) : Type 0 where
  pub copy : Copy V
  pub wait : Wait
  pub reply : List (Msg V)

module _ {V : Type 0} where
  -- The message is taken, and this is done about it.
  abbrev pub took : Copy V → Wait → List (Msg V) → Option (Took V)
  took copy wait reply = some (record { copy = copy; wait = wait; reply = reply })

  -- Data ends the wait for that access and becomes the copy. Who waits to read has no copy; who waits to write may have one
  -- to read. Data that nobody waits for is not expected.
  unfoldable pub on_data : Access → V → Copy V → Wait → Option (Took V)
  on_data k v c still = none
  on_data reading v no_copy (waits reading) = took (readable v) still []
  on_data reading v (readable w) (waits reading) = none
  on_data reading v (writable w) (waits reading) = none
  on_data reading v c (waits writing) = none
  on_data writing v c (waits reading) = none
  on_data writing v no_copy (waits writing) = took (writable v) still []
  on_data writing v (readable w) (waits writing) = took (writable v) still []
  on_data writing v (writable w) (waits writing) = none

  -- Told to invalidate: the copy goes; an owned one is sent home as an update, and else an acknowledgement is sent.
  unfoldable pub on_inv : Copy V → Wait → Option (Took V)
  on_inv no_copy w = took no_copy w (ACKC ∷ [])
  on_inv (readable v) w = took no_copy w (ACKC ∷ [])
  on_inv (writable v) w = took no_copy w (UPDATE v ∷ [])

  -- The home is busy: the wait is over, without the access. The terminal may ask again.
  unfoldable pub on_busy : Copy V → Wait → Option (Took V)
  on_busy c still = none
  on_busy c (waits k) = took c still []

  -- The rule of each message; those that go up are not expected.
  abbrev pub receive : Msg V → Copy V → Wait → Option (Took V)
  receive (REQ k) c w = none
  receive (REPM v) c w = none
  receive (UPDATE v) c w = none
  receive ACKC c w = none
  receive INV c w = on_inv c w
  receive BUSY c w = on_busy c w
  receive (DATA k v) c w = on_data k v c w

  -- Whether the place can take the message: data needs one that is clear for its record.
  abbrev pub lands : Msg V → ℕ → Place V → Bool
  lands (REQ k) r place = true
  lands (REPM v) r place = true
  lands (UPDATE v) r place = true
  lands ACKC r place = true
  lands INV r place = true
  lands BUSY r place = true
  lands (DATA k v) r place = clear r place
