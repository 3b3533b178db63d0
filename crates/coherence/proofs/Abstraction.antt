-- The abstract machine's view of a site: each record by itself, lanes of messages that the machine knows.
-- A message that the receiving side cannot take is seen as one that the machine refuses too, so every step of the site is a step of
-- the machine, and nothing need be known of what lies in the lanes.
use Rattle.std.proofs.Common.{ℕ, ◌+◌, ◌*◌, Bool, cond, ◌&&◌, ltb, List, [], ◌∷◌, get_or, Some, None, Option}
use Rattle.message.specs.declared.Message.{Message}
use Rattle.message.specs.declared.kinds.Kind.{Kind}
use Rattle.message.specs.declared.kinds.Kind.TheVariants.{ReadRequest, WriteRequest, Replacement, Update, Acknowledgement, ReadData, WriteData, Invalidate, Busy}
use Rattle.message.specs.Kinds.{kind_of}
use Rattle.directory.specs.Directories.{Holders}
use Rattle.protocol.specs.declared.Call.{Call}
use Rattle.protocol.specs.declared.Call.TheVariants.{Read, Write, Release, HomeStep, TerminalStep}
use Rattle.protocol.specs.declared.Entry.{Entry}
use Rattle.protocol.specs.declared.HomeState.{HomeState}
use Rattle.protocol.specs.declared.HomeState.TheVariants.{ReadOnly, ReadWrite, ReadTransaction, WriteTransaction}
use Rattle.protocol.specs.declared.Place.{Place}
use Rattle.protocol.specs.declared.PlaceState.{PlaceState}
use Rattle.protocol.specs.declared.PlaceState.TheVariants.{Invalid, ReadOnly as InRead, ReadWrite as InWrite}
use Rattle.protocol.specs.declared.Wait.{Wait}
use Rattle.protocol.specs.declared.Wait.TheVariants.{Nothing, ToRead, ToWrite}
use Rattle.protocol.specs.HomeSteps.{entry_at}
use Rattle.protocol.specs.Places.{invalid}
use Rattle.protocol.specs.Sites as protocol
use Rattle.machine.specs.Site as model
use Rattle.machine.specs.Calls as model_calls
use Rattle.machine.specs.Machine.{Phase, read_only, read_write, Transaction, reading, writing, Msg, REQ, REPM, UPDATE, ACKC, INV, BUSY, DATA, Home, home}
use Rattle.machine.specs.Site.{Mail, mail, Sizes, Site, empty, shared, owned, Want, rests, wants}

abbrev pub phase_of : HomeState → Phase
phase_of ReadOnly = read_only
phase_of ReadWrite = read_write
phase_of ReadTransaction = Transaction reading
phase_of WriteTransaction = Transaction writing

-- The holders that can be told apart: a directory serves at most 64 terminals.
abbrev pub within : (ℕ → Bool) → ℕ → Bool
within member u = ltb u 64 && member u

abbrev pub home_of : Entry → (ℕ → Bool) → Home ℕ
home_of entry member = home (phase_of entry.state) entry.value entry.awaited (within member)

abbrev pub place_by : PlaceState → ℕ → ℕ → model.Place ℕ
place_by Invalid x v = empty
place_by InRead x v = shared x v
place_by InWrite x v = owned x v

abbrev pub place_of : Place → model.Place ℕ
place_of place = place_by place.state place.«record» place.value

abbrev pub want_of : Wait → Want
want_of Nothing = rests
want_of (ToRead x) = wants reading x
want_of (ToWrite x) = wants writing x

-- What the home hears. It refuses BUSY.
abbrev pub up_msg : Option Kind → ℕ → Msg ℕ
up_msg None v = BUSY
up_msg (Some ReadRequest) v = REQ reading
up_msg (Some WriteRequest) v = REQ writing
up_msg (Some Replacement) v = REPM v
up_msg (Some Update) v = UPDATE v
up_msg (Some Acknowledgement) v = ACKC
up_msg (Some ReadData) v = BUSY
up_msg (Some WriteData) v = BUSY
up_msg (Some Invalidate) v = BUSY
up_msg (Some Busy) v = BUSY

abbrev pub up_of : Message → Mail ℕ
up_of m = mail m.«record» (up_msg (kind_of m.opcode) m.value)

-- What a terminal hears. It refuses ACK.
abbrev pub down_msg : Option Kind → ℕ → Msg ℕ
down_msg None v = ACKC
down_msg (Some ReadRequest) v = ACKC
down_msg (Some WriteRequest) v = ACKC
down_msg (Some Replacement) v = ACKC
down_msg (Some Update) v = ACKC
down_msg (Some Acknowledgement) v = ACKC
down_msg (Some ReadData) v = DATA reading v
down_msg (Some WriteData) v = DATA writing v
down_msg (Some Invalidate) v = INV
down_msg (Some Busy) v = BUSY

abbrev pub down_of : Message → Mail ℕ
down_of m = mail m.«record» (down_msg (kind_of m.opcode) m.value)

abbrev pub each : (Message → Mail ℕ) → List Message → List (Mail ℕ)
each f [] = []
each f (m ∷ ms) = f m ∷ each f ms

abbrev pub lanes : (Message → Mail ℕ) → (ℕ → List Message) → ℕ → List (Mail ℕ)
lanes f waiting u = each f (waiting u)

abbrev pub homes : List Entry → Holders → ℕ → Home ℕ
homes entries holders r = home_of (entry_at entries r) (holders r)

abbrev pub places : ℕ → List Place → ℕ → ℕ → model.Place ℕ
places l row t p = cond (ltb p l) (place_of (get_or row (t * l + p) invalid)) empty

abbrev pub wants_of : List Wait → ℕ → Want
wants_of waits t = want_of (get_or waits t Nothing)

abbrev pub abs : protocol.Site → Site ℕ
abs s =
    record {
      homes = homes s.home.entries s.home.directory.holders;
      place = places s.places s.row;
      wait = wants_of s.waits;
      up = lanes up_of s.home.up.waiting;
      down = lanes down_of s.home.down.waiting;
    }

abbrev pub sizes : protocol.Site → Sizes
sizes s =
    record {
      n = s.home.terminals;
      b = s.home.records;
      l = s.places;
      served = 64;
      limit = s.home.directory.limit;
      up_depth = s.home.up.depth;
      down_depth = s.home.down.depth;
    }

abbrev pub call_of : Call → model_calls.Call ℕ
call_of (Read t r) = model_calls.read t r
call_of (Write t r v) = model_calls.write t r v
call_of (Release t r) = model_calls.release t r
call_of (HomeStep t) = model_calls.home_turn t
call_of (TerminalStep t) = model_calls.terminal_turn t
