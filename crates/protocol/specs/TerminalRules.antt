-- What terminal t does about record r, rule by rule; v is the value that is written, or that a message carries.
use Rattle.std.specs.Prelude.{ℕ, cond, not, ◌&&◌, ◌||◌, Some, None, Option, nat_le}
use Rattle.message.specs.declared.Message.{Message}
use Rattle.message.specs.declared.refusals.Refusal.TheVariants.{Waiting, Full, NoCopy, OutOfTurn}
use Rattle.protocol.specs.declared.Code.TheVariants.{Accepted, Requested}
use Rattle.message.specs.declared.kinds.Kind.{Kind}
use Rattle.message.specs.declared.kinds.Kind.TheVariants.{ReadRequest, WriteRequest, Replacement, Update, Acknowledgement, ReadData, WriteData, Invalidate, Busy}
use Rattle.message.specs.Checks.{given}
use Rattle.message.specs.Messages.{message_of}
use Rattle.protocol.specs.declared.Place.{Place}
use Rattle.protocol.specs.declared.PlaceState.TheVariants.{ReadOnly, ReadWrite}
use Rattle.protocol.specs.declared.Wait.{Wait}
use Rattle.protocol.specs.declared.Wait.TheVariants.{Nothing, ToRead, ToWrite}
use Rattle.protocol.specs.Sends.{has_room_for, sent}
use Rattle.protocol.specs.Places.{place_of, invalid, is_invalid, is_read_write, has_copy, has_read_only, has_read_write, is_waiting, waits_to_read, waits_to_write, waits_for}
use Rattle.protocol.specs.Seats.{Seat, Turn, refuses, moves}

-- The replacement that sends the content of a place home.
abbrev pub replacement_of : Place → Message
replacement_of place = message_of Replacement place.«record» place.value

-- A request goes up, and the terminal waits. A Read-Write place is sent home first, which only a record up to 63 can be; the
-- lane must take all of it.
abbrev pub requested : Message → Wait → Place → Seat → ℕ → Turn
requested request wait place s t =
    cond (is_read_write s.place.state)
    (given (nat_le s.place.«record» 63 && has_room_for 2 s.up t) (refuses Full)
    (moves Requested 0 place wait (sent (sent s.up.waiting t (replacement_of s.place)) t request)))
    (given (has_room_for 1 s.up t) (refuses Full)
    (moves Requested 0 place wait (sent s.up.waiting t request)))

-- A miss: a terminal that waits sends nothing more.
abbrev pub missed : Message → Wait → Place → Seat → ℕ → Turn
missed request wait place s t = given (not (is_waiting s.wait)) (refuses Waiting) (requested request wait place s t)

-- Read: a copy gives its value; without one it is a miss, and the place becomes Invalid.
abbrev pub read_turn : Seat → ℕ → ℕ → Turn
read_turn s t r =
    cond (has_copy r s.place)
    (moves Accepted s.place.value s.place s.wait s.up.waiting)
    (missed (message_of ReadRequest r 0) (ToRead r) invalid s t)

-- Write: a Read-Write copy takes the value; without one it is a miss, the value is not kept, and the place becomes Invalid
-- unless it is a Read-Only copy of the record itself.
abbrev pub write_turn : Seat → ℕ → ℕ → ℕ → Turn
write_turn s t r v =
    cond (has_read_write r s.place)
    (moves Accepted 0 (place_of ReadWrite s.place.«record» v) s.wait s.up.waiting)
    (missed (message_of WriteRequest r 0) (ToWrite r) (cond (has_read_only r s.place) s.place invalid) s t)

-- Release: a Read-Write copy is sent home; a copy becomes Invalid.
abbrev pub release_turn : Seat → ℕ → ℕ → Turn
release_turn s t r =
    given (has_copy r s.place) (refuses NoCopy)
    (cond (has_read_write r s.place)
    (given (has_room_for 1 s.up t) (refuses Full)
    (moves Accepted 0 invalid s.wait (sent s.up.waiting t (message_of Replacement r s.place.value))))
    (moves Accepted 0 invalid s.wait s.up.waiting))

-- Read data: the terminal waits to read the record, and its place is Invalid.
abbrev pub read_data_turn : Seat → ℕ → ℕ → Turn
read_data_turn s r v =
    given (waits_to_read r s.wait) (refuses OutOfTurn)
    (given (is_invalid s.place.state) (refuses OutOfTurn)
    (moves Accepted 0 (place_of ReadOnly r v) Nothing s.up.waiting))

-- Write data: the terminal waits to write the record, and its place is Invalid or a Read-Only copy of the record.
abbrev pub write_data_turn : Seat → ℕ → ℕ → Turn
write_data_turn s r v =
    given (waits_to_write r s.wait) (refuses OutOfTurn)
    (given (is_invalid s.place.state || has_read_only r s.place) (refuses OutOfTurn)
    (moves Accepted 0 (place_of ReadWrite r v) Nothing s.up.waiting))

-- Invalidate: a Read-Write copy answers with an update that carries its value, anything else with an acknowledgement; a copy
-- of the record becomes Invalid.
abbrev pub invalidate_turn : Seat → ℕ → ℕ → Turn
invalidate_turn s t r =
    given (has_room_for 1 s.up t) (refuses Full)
    (cond (has_read_write r s.place)
    (moves Accepted 0 invalid s.wait (sent s.up.waiting t (message_of Update r s.place.value)))
    (moves Accepted 0 (cond (has_read_only r s.place) invalid s.place) s.wait
    (sent s.up.waiting t (message_of Acknowledgement r 0))))

-- Busy, about the record that is waited for: waiting ends.
abbrev pub busy_turn : Seat → ℕ → Turn
busy_turn s r =
    given (waits_for r s.wait) (refuses OutOfTurn)
    (moves Accepted 0 s.place Nothing s.up.waiting)

-- What a terminal does with a message, by its kind.
abbrev pub heard : Kind → Seat → ℕ → ℕ → ℕ → Turn
heard ReadRequest s t r v = refuses OutOfTurn
heard WriteRequest s t r v = refuses OutOfTurn
heard Replacement s t r v = refuses OutOfTurn
heard Update s t r v = refuses OutOfTurn
heard Acknowledgement s t r v = refuses OutOfTurn
heard ReadData s t r v = read_data_turn s r v
heard WriteData s t r v = write_data_turn s r v
heard Invalidate s t r v = invalidate_turn s t r
heard Busy s t r v = busy_turn s r

-- An opcode of no kind is out of turn.
abbrev pub heard_as : Option Kind → Seat → ℕ → ℕ → ℕ → Turn
heard_as None s t r v = refuses OutOfTurn
heard_as (Some kind) s t r v = heard kind s t r v
