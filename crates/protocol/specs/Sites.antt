-- A site: the home with its parts, the terminals, and the row of places.
use Rattle.std.specs.Prelude.{ℕ, ◌+◌, ◌*◌, ◌%◌, Bool, ◌&&◌, List, length, nat_le, slice_index_or}
use Rattle.network.specs.Traffic.{Traffic}
use Rattle.protocol.specs.declared.Place.{Place}
use Rattle.protocol.specs.declared.Wait.{Wait}
use Rattle.protocol.specs.declared.Wait.TheVariants.{Nothing}
use Rattle.protocol.specs.Places.{invalid}
use Rattle.protocol.specs.Seats.{Seat}
use Rattle.protocol.specs.HomeSteps.{Home, parts_serve}

-- The home and its parts, how many places a terminal has, what each terminal waits for, and the row of all places.
pub record Site : Type 0 where
  pub home : Home
  pub places : ℕ
  pub waits : List Wait
  pub row : List Place

-- Where place p of terminal t lies in the row.
abbrev pub spot : Site → ℕ → ℕ → ℕ
spot site t p = t * site.places + p

-- The place in which record r can lie.
abbrev pub place_for : Site → ℕ → ℕ
place_for site r = r % site.places

-- Place p of terminal t.
abbrev pub place_at : Site → ℕ → ℕ → Place
place_at site t p = slice_index_or site.row (spot site t p) invalid

-- What terminal t waits for.
abbrev pub wait_at : Site → ℕ → Wait
wait_at site t = slice_index_or site.waits t Nothing

-- What the rules of terminal t look at for record r.
abbrev pub seat_at : Site → ℕ → ℕ → Seat
seat_at site t r = record { place = place_at site t (place_for site r); wait = wait_at site t; up = site.home.up }

-- Is the row as long as the site has places?
abbrev pub row_fits : Site → Bool
row_fits site = nat_le (site.home.terminals * site.places) (length site.row)

-- Are the row and the parts large enough for the site?
abbrev pub fits : Site → Bool
fits site = parts_serve site.home && row_fits site

-- The home with other networks.
abbrev pub with_networks : Home → Traffic → Traffic → Home
with_networks home up down =
    record {
      terminals = home.terminals;
      records = home.records;
      entries = home.entries;
      directory = home.directory;
      up = up;
      down = down;
    }
