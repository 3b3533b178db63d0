-- The shapes that a terminal's part of one record can have. A shape's name tells what happened, in its order: what was asked,
-- told, given back or acknowledged. Each shape is written out by `decode`.
use Rattle.std.specs.Prelude.{Bool, true, false, [], ◌∷◌}
use Rattle.machine.specs.Machine.{Access, reading, writing, Copy, no_copy, readable, writable, still, waits, REQ, REPM, UPDATE, ACKC, INV, BUSY, DATA, Cell, cell}

-- What a terminal waits for: to read, or to write, with a copy to read in the meantime or without.
pub data Ask : Type 0 where
  to_read : Ask
  to_write : Bool → Ask

-- The access that is asked for.
abbrev pub access : Ask → Access
access to_read = reading
access (to_write b) = writing

-- To wait with no copy.
abbrev pub bare : Access → Ask
bare reading = to_read
bare writing = to_write false

-- Whether there is a copy in the meantime.
abbrev pub has_copy : Ask → Bool
has_copy to_read = false
has_copy (to_write b) = b

-- Not a holder, and nothing owed: quiet, asking for an access, or turned away by a busy home.
pub data Idle : Type 0 where
  quiet : Idle
  asking turned_away : Access → Idle

-- A holder of a Read-Only record: holding, with its copy or after letting it go; asking again; or waiting for data to come.
pub data Sharer : Type 0 where
  holding : Bool → Sharer
  asking_again : Ask → Sharer
  data_coming : Sharer

-- The holder of a Read-Write record: the permission to write is coming; it owns; it has given back; it asks again after that.
pub data Owner : Type 0 where
  permission_coming : Bool → Owner
  owning given_back : Owner
  given_back_asking : Access → Owner

-- Owes an acknowledgement, and has no value that the home lacks: told to invalidate, or acknowledged.
pub data Clean : Type 0 where
  told : Bool → Clean
  told_asking told_turned_away : Ask → Clean
  data_coming_told acked : Clean
  asked_acked acked_asked acked_turned_away : Access → Clean

-- Owes an acknowledgement, and has the value: in its copy, or on the way to or from the home.
pub data Dirty : Type 0 where
  permission_coming_told : Bool → Dirty
  owning_told given_back_told : Dirty
  given_back_asking_told : Access → Dirty
  update_sent given_back_acked : Dirty
  given_back_asked_acked given_back_acked_asked update_sent_asked : Access → Dirty

-- A shape. A requester is the one whose request the home's transaction is about.
pub data Shape : Type 0 where
  idle : Idle → Shape
  sharer : Sharer → Shape
  owner : Owner → Shape
  requester : Ask → Shape
  clean : Clean → Shape
  dirty : Dirty → Shape

module _ {V : Type 0} where
  -- A copy to read, if it is kept.
  abbrev pub kept : V → Bool → Copy V
  kept v true = readable v
  kept v false = no_copy

  -- The copy while it waits.
  abbrev pub ask_copy : V → Ask → Copy V
  ask_copy v to_read = no_copy
  ask_copy v (to_write b) = kept v b

  -- What a shape is: copy, wait, up lane and down lane. Every value in it is the last one written.
  abbrev pub decode : V → Shape → Cell V
  decode v (idle quiet) = cell no_copy still [] []
  decode v (idle (asking k)) = cell no_copy (waits k) (REQ k ∷ []) []
  decode v (idle (turned_away k)) = cell no_copy (waits k) [] (BUSY ∷ [])
  decode v (sharer (holding b)) = cell (kept v b) still [] []
  decode v (sharer (asking_again a)) = cell (ask_copy v a) (waits (access a)) (REQ (access a) ∷ []) []
  decode v (sharer data_coming) = cell no_copy (waits reading) [] (DATA reading v ∷ [])
  decode v (owner (permission_coming b)) = cell (kept v b) (waits writing) [] (DATA writing v ∷ [])
  decode v (owner owning) = cell (writable v) still [] []
  decode v (owner given_back) = cell no_copy still (REPM v ∷ []) []
  decode v (owner (given_back_asking k)) = cell no_copy (waits k) (REPM v ∷ REQ k ∷ []) []
  decode v (requester a) = cell (ask_copy v a) (waits (access a)) [] []
  decode v (clean (told b)) = cell (kept v b) still [] (INV ∷ [])
  decode v (clean (told_asking a)) = cell (ask_copy v a) (waits (access a)) (REQ (access a) ∷ []) (INV ∷ [])
  decode v (clean (told_turned_away a)) = cell (ask_copy v a) (waits (access a)) [] (INV ∷ BUSY ∷ [])
  decode v (clean data_coming_told) = cell no_copy (waits reading) [] (DATA reading v ∷ INV ∷ [])
  decode v (clean acked) = cell no_copy still (ACKC ∷ []) []
  decode v (clean (asked_acked k)) = cell no_copy (waits k) (REQ k ∷ ACKC ∷ []) []
  decode v (clean (acked_asked k)) = cell no_copy (waits k) (ACKC ∷ REQ k ∷ []) []
  decode v (clean (acked_turned_away k)) = cell no_copy (waits k) (ACKC ∷ []) (BUSY ∷ [])
  decode v (dirty (permission_coming_told b)) = cell (kept v b) (waits writing) [] (DATA writing v ∷ INV ∷ [])
  decode v (dirty owning_told) = cell (writable v) still [] (INV ∷ [])
  decode v (dirty given_back_told) = cell no_copy still (REPM v ∷ []) (INV ∷ [])
  decode v (dirty (given_back_asking_told k)) = cell no_copy (waits k) (REPM v ∷ REQ k ∷ []) (INV ∷ [])
  decode v (dirty update_sent) = cell no_copy still (UPDATE v ∷ []) []
  decode v (dirty given_back_acked) = cell no_copy still (REPM v ∷ ACKC ∷ []) []
  decode v (dirty (given_back_asked_acked k)) = cell no_copy (waits k) (REPM v ∷ REQ k ∷ ACKC ∷ []) []
  decode v (dirty (given_back_acked_asked k)) = cell no_copy (waits k) (REPM v ∷ ACKC ∷ REQ k ∷ []) []
  decode v (dirty (update_sent_asked k)) = cell no_copy (waits k) (UPDATE v ∷ REQ k ∷ []) []
