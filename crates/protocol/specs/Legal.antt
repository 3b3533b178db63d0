-- Legal entries, and every way in which a caller can use a site.
use Rattle.std.specs.Prelude.{◌≡◌, ℕ, zero, suc, ◌≤◌, List, [], ◌∷◌}
use Rattle.directory.specs.Directories.{View}
use Rattle.network.specs.Traffic.{Traffic}
use Rattle.protocol.specs.declared.Call.{Call}
use Rattle.protocol.specs.declared.Entry.{Entry}
use Rattle.protocol.specs.declared.HomeState.{HomeState}
use Rattle.protocol.specs.declared.HomeState.TheVariants.{ReadOnly, ReadWrite, ReadTransaction, WriteTransaction}
use Rattle.protocol.specs.declared.Place.{Place}
use Rattle.protocol.specs.declared.Sizes.{Sizes}
use Rattle.protocol.specs.declared.Wait.TheVariants.{Nothing}
use Rattle.protocol.specs.HomeSteps.{Given, blank, entry_at}
use Rattle.protocol.specs.Sites.{Site}
use Rattle.protocol.specs.Calls.{step}
use Rattle.protocol.specs.Opening.{opening}

-- How many acknowledgements may be awaited in a state.
abbrev pub LegalCount : HomeState → ℕ → Type 0
LegalCount ReadOnly awaited = awaited ≡ 0
LegalCount ReadWrite awaited = awaited ≡ 0
LegalCount ReadTransaction awaited = awaited ≡ 1
LegalCount WriteTransaction awaited = (1 ≤ awaited) × (awaited ≤ 63)

abbrev pub Legal : Entry → Type 0
Legal entry = LegalCount entry.state entry.awaited

-- Every entry of the table is legal.
abbrev pub LegalEntries : Site → Type 0
LegalEntries site = (r : ℕ) → Legal (entry_at site.home.entries r)

-- What a caller can ask of a site: to be opened, or one of the five calls.
pub data Operation : Type 0 where
  to_open : Sizes → List ℕ → Operation
  to_call : Call → Operation

-- What a caller hands in with an operation: a row, a directory and two networks, with whatever in them.
pub record Parts : Type 0 where
  pub row : List Place
  pub directory : View
  pub up : Traffic
  pub down : Traffic

-- The site with the parts that are handed in.
abbrev pub with_parts : Site → Parts → Site
with_parts site parts =
    record {
      home =
          record {
            terminals = site.home.terminals;
            records = site.home.records;
            entries = site.home.entries;
            directory = parts.directory;
            up = parts.up;
            down = parts.down;
          };
      places = site.places;
      waits = site.waits;
      row = parts.row;
    }

-- What an operation does.
abbrev pub operation : Site → Operation → Given Site
operation site (to_open sizes values) = opening site sizes values
operation site (to_call call) = step site call

-- The site after a list of operations, each with parts of its own.
unfoldable pub operated : Site → List (Operation × Parts) → Site
operated site [] = site
operated site (given ∷ more) = operated (operation (with_parts site given.1) given.0).after more

-- So many of the same.
unfoldable pub copies : {A : Type 0} → ℕ → A → List A
copies zero a = []
copies (suc n) a = a ∷ copies n a

-- A site that was never opened: it has no terminal and no record, every entry is blank, and nobody waits. (A terminal would have
-- one place.)
abbrev pub new_site : Parts → Site
new_site parts =
    record {
      home =
          record {
            terminals = 0;
            records = 0;
            entries = copies 64 blank;
            directory = parts.directory;
            up = parts.up;
            down = parts.down;
          };
      places = 0;
      waits = copies 64 Nothing;
      row = parts.row;
    }
