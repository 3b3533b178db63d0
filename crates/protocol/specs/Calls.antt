-- The five calls: the checks in their order, then the rules.
use Rattle.std.specs.Prelude.{ℕ, cond, Some, None, Option, nat_lt, slice_set}
use Rattle.message.specs.declared.Message.{Message}
use Rattle.message.specs.declared.refusals.Refusal.TheVariants.{Empty, OutOfTurn, NoSuchTerminal, NoSuchRecord, Unfit}
use Rattle.message.specs.Checks.{given}
use Rattle.message.specs.Kinds.{kind_of}
use Rattle.network.specs.Traffic.{Traffic, oldest, after_drop, with_waiting}
use Rattle.protocol.specs.declared.Call.{Call}
use Rattle.protocol.specs.declared.Call.TheVariants.{Read, Write, Release, HomeStep, TerminalStep}
use Rattle.protocol.specs.declared.Place.{Place}
use Rattle.protocol.specs.declared.Wait.{Wait}
use Rattle.protocol.specs.HomeSteps.{Home, Given, gives, unchanged, takes_off, home_step}
use Rattle.protocol.specs.Seats.{Turn, refuses, moves}
use Rattle.protocol.specs.TerminalRules.{read_turn, write_turn, release_turn, heard_as}
use Rattle.protocol.specs.Sites.{Site, spot, place_for, seat_at, row_fits, fits, with_networks}

-- First that the row and the parts are large enough, then that the terminal is there.
abbrev pub at_terminal : Site → ℕ → Given Site → Given Site
at_terminal site t follows =
    given (fits site) (unchanged Unfit site)
    (given (nat_lt t site.home.terminals) (unchanged NoSuchTerminal site)
    follows)

-- Then that the record is there.
abbrev pub of_record : Site → ℕ → Given Site → Given Site
of_record site r follows = given (nat_lt r site.home.records) (unchanged NoSuchRecord site) follows

-- One place, one wait and the networks are changed.
abbrev pub changed : Site → ℕ → ℕ → Place → Wait → Traffic → Traffic → Site
changed site t r place wait up down =
    record {
      home = with_networks site.home up down;
      places = site.places;
      waits = slice_set site.waits t wait;
      row = slice_set site.row (spot site t (place_for site r)) place;
    }

-- Terminal t makes its turn about record r.
abbrev pub turned : Site → ℕ → ℕ → Turn → Given Site
turned site t r (refuses refusal) = unchanged refusal site
turned site t r (moves code value place wait waiting) =
    gives code value (changed site t r place wait (with_waiting site.home.up waiting) site.home.down)

-- A terminal reads a record.
abbrev pub read : Site → ℕ → ℕ → Given Site
read site t r = at_terminal site t (of_record site r (turned site t r (read_turn (seat_at site t r) t r)))

-- A terminal writes a record.
abbrev pub write : Site → ℕ → ℕ → ℕ → Given Site
write site t r v = at_terminal site t (of_record site r (turned site t r (write_turn (seat_at site t r) t r v)))

-- A terminal releases a record.
abbrev pub release : Site → ℕ → ℕ → Given Site
release site t r = at_terminal site t (of_record site r (turned site t r (release_turn (seat_at site t r) t r)))

-- The oldest message of down lane t is taken off.
abbrev pub down_taken : Site → ℕ → Site
down_taken site t =
    record {
      home = with_networks site.home site.home.up (after_drop site.home.down t);
      places = site.places;
      waits = site.waits;
      row = site.row;
    }

-- Terminal t makes its turn about the message that it takes.
abbrev pub stepped : Site → ℕ → ℕ → Turn → Given Site
stepped site t r (refuses refusal) = unchanged refusal (cond (takes_off refusal) (down_taken site t) site)
stepped site t r (moves code value place wait waiting) =
    gives code value
    (changed site t r place wait (with_waiting site.home.up waiting) (after_drop site.home.down t))

-- A message about a record that the site has not is out of turn.
abbrev pub message_heard : Site → ℕ → Option Message → Given Site
message_heard site t None = unchanged Empty site
message_heard site t (Some m) =
    given (nat_lt m.«record» site.home.records) (stepped site t m.«record» (refuses OutOfTurn))
    (stepped site t m.«record»
    (heard_as (kind_of m.opcode) (seat_at site t m.«record») t m.«record» m.value))

-- A terminal takes the oldest message of its down lane.
abbrev pub terminal_step : Site → ℕ → Given Site
terminal_step site t = at_terminal site t (message_heard site t (oldest site.home.down t))

-- The home changed; the terminals and the row stay.
abbrev pub with_home : Site → Given Home → Given Site
with_home site given-home =
    gives given-home.code given-home.value
    (record { home = given-home.after; places = site.places; waits = site.waits; row = site.row })

-- The home takes the oldest message of a terminal's up lane.
abbrev pub site_home_step : Site → ℕ → Given Site
site_home_step site t = given (row_fits site) (unchanged Unfit site) (with_home site (home_step site.home t))

-- What a call does.
abbrev pub step : Site → Call → Given Site
step site (Read t r) = read site t r
step site (Write t r v) = write site t r v
step site (Release t r) = release site t r
step site (HomeStep t) = site_home_step site t
step site (TerminalStep t) = terminal_step site t
