-- The opening of a site.
use Rattle.std.specs.Prelude.{ℕ, zero, suc, ◌*◌, Bool, not, ◌&&◌, List, length, nat_eq, nat_le, nat_lt, slice_index, slice_set}
use Rattle.message.specs.declared.refusals.Refusal.TheVariants.{Unfit}
use Rattle.protocol.specs.declared.Code.TheVariants.{Accepted}
use Rattle.message.specs.Checks.{given}
use Rattle.directory.specs.Directories.{Holders, size_fits}
use Rattle.directory.specs.Changes.{with_holders}
use Rattle.network.specs.Traffic.{Traffic}
use Rattle.protocol.specs.declared.Entry.{Entry}
use Rattle.protocol.specs.declared.HomeState.TheVariants.{ReadOnly}
use Rattle.protocol.specs.declared.Place.{Place}
use Rattle.protocol.specs.declared.Sizes.{Sizes}
use Rattle.protocol.specs.declared.Wait.{Wait}
use Rattle.protocol.specs.declared.Wait.TheVariants.{Nothing}
use Rattle.protocol.specs.Sends.{all_below}
use Rattle.protocol.specs.HomeRules.{entry_of}
use Rattle.protocol.specs.HomeSteps.{Home, Given, gives, unchanged}
use Rattle.protocol.specs.Places.{invalid}
use Rattle.protocol.specs.Sites.{Site, fits}

-- Is each size from 1 to 64?
abbrev pub sizes_fit : Sizes → Bool
sizes_fit sizes = size_fits sizes.terminals && (size_fits sizes.records && size_fits sizes.places)

-- The value that record r is opened with.
abbrev pub opening_value : List ℕ → ℕ → ℕ
opening_value values r = slice_index values r

-- The first k entries are Read-Only with the opening values, and await nothing.
unfoldable pub opened_entries : List Entry → List ℕ → ℕ → List Entry
opened_entries entries values zero = entries
opened_entries entries values (suc k) = slice_set (opened_entries entries values k) k (entry_of ReadOnly (opening_value values k) 0)

-- No record below k has a holder.
abbrev pub opened_holders : Holders → ℕ → Holders
opened_holders holders k r t = not (nat_lt r k) && holders r t

-- The first k places are Invalid.
unfoldable pub opened_row : List Place → ℕ → List Place
opened_row row zero = row
opened_row row (suc k) = slice_set (opened_row row k) k invalid

-- The first k terminals wait for nothing.
unfoldable pub opened_waits : List Wait → ℕ → List Wait
opened_waits waits zero = waits
opened_waits waits (suc k) = slice_set (opened_waits waits k) k Nothing

-- Does nothing wait in the first k lanes?
abbrev pub all_empty : Traffic → ℕ → Bool
all_empty traffic k = all_below k (λ l. nat_eq (length (traffic.waiting l)) 0)

-- The home, and the site, with other sizes.
abbrev pub sized_home : Home → Sizes → Home
sized_home home sizes =
    record {
      terminals = sizes.terminals;
      records = sizes.records;
      entries = home.entries;
      directory = home.directory;
      up = home.up;
      down = home.down;
    }

abbrev pub sized : Site → Sizes → Site
sized site sizes =
    record { home = sized_home site.home sizes; places = sizes.places; waits = site.waits; row = site.row }

-- May a site be opened? The sizes are in range, the row and the parts are large enough for them, there is a value for each
-- record, and nothing waits in the lanes of the terminals.
abbrev pub may_open : Site → Sizes → List ℕ → Bool
may_open site sizes values =
    sizes_fit sizes
    && (fits (sized site sizes)
    && (nat_le sizes.records (length values)
    && (all_empty site.home.up sizes.terminals && all_empty site.home.down sizes.terminals)))

-- Every record is Read-Only with its opening value and has no holder, every place is Invalid, and nobody waits.
abbrev pub opened_home : Home → Sizes → List ℕ → Home
opened_home home sizes values =
    record {
      terminals = sizes.terminals;
      records = sizes.records;
      entries = opened_entries home.entries values sizes.records;
      directory = with_holders home.directory (opened_holders home.directory.holders sizes.records);
      up = home.up;
      down = home.down;
    }

abbrev pub opened : Site → Sizes → List ℕ → Site
opened site sizes values =
    record {
      home = opened_home site.home sizes values;
      places = sizes.places;
      waits = opened_waits site.waits sizes.terminals;
      row = opened_row site.row (sizes.terminals * sizes.places);
    }

-- Open: a site as it stands, with the row and the parts that the caller hands in, is opened anew.
unfoldable pub opening : Site → Sizes → List ℕ → Given Site
opening site sizes values =
    given (may_open site sizes values) (unchanged Unfit site)
    (gives Accepted 0 (opened site sizes values))
