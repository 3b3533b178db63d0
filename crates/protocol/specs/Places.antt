-- Places of a terminal, and what a terminal waits for.
use Rattle.std.specs.Prelude.{ℕ, Bool, true, false, ◌==◌}
use Rattle.protocol.specs.declared.Place.{Place}
use Rattle.protocol.specs.declared.PlaceState.{PlaceState}
use Rattle.protocol.specs.declared.PlaceState.TheVariants.{Invalid, ReadOnly, ReadWrite}
use Rattle.protocol.specs.declared.Wait.{Wait}
use Rattle.protocol.specs.declared.Wait.TheVariants.{Nothing, ToRead, ToWrite}

abbrev pub place_of : PlaceState → ℕ → ℕ → Place
place_of state r value = record { state = state; «record» = r; value = value }

-- An Invalid place shows 0 and 0.
abbrev pub invalid : Place
invalid = place_of Invalid 0 0

abbrev pub is_invalid : PlaceState → Bool
is_invalid Invalid = true
is_invalid ReadOnly = false
is_invalid ReadWrite = false

abbrev pub is_read_write : PlaceState → Bool
is_read_write Invalid = false
is_read_write ReadOnly = false
is_read_write ReadWrite = true

-- In Read-Only or Read-Write, a test.
abbrev pub if_valid : PlaceState → Bool → Bool
if_valid Invalid test = false
if_valid ReadOnly test = test
if_valid ReadWrite test = test

-- In Read-Only, a test.
abbrev pub if_read_only : PlaceState → Bool → Bool
if_read_only Invalid test = false
if_read_only ReadOnly test = test
if_read_only ReadWrite test = false

-- In Read-Write, a test.
abbrev pub if_read_write : PlaceState → Bool → Bool
if_read_write Invalid test = false
if_read_write ReadOnly test = false
if_read_write ReadWrite test = test

-- A copy of record r: a place that shows r in Read-Only or Read-Write.
abbrev pub has_copy : ℕ → Place → Bool
has_copy r place = if_valid place.state (place.«record» == r)

-- A copy of record r in Read-Only.
abbrev pub has_read_only : ℕ → Place → Bool
has_read_only r place = if_read_only place.state (place.«record» == r)

-- A copy of record r in Read-Write: one that may be written.
abbrev pub has_read_write : ℕ → Place → Bool
has_read_write r place = if_read_write place.state (place.«record» == r)

-- Does a terminal wait at all?
abbrev pub is_waiting : Wait → Bool
is_waiting Nothing = false
is_waiting (ToRead x) = true
is_waiting (ToWrite x) = true

-- Does it wait to read record r?
abbrev pub waits_to_read : ℕ → Wait → Bool
waits_to_read r Nothing = false
waits_to_read r (ToRead x) = x == r
waits_to_read r (ToWrite x) = false

-- Does it wait to write record r?
abbrev pub waits_to_write : ℕ → Wait → Bool
waits_to_write r Nothing = false
waits_to_write r (ToRead x) = false
waits_to_write r (ToWrite x) = x == r

-- Does it wait for record r?
abbrev pub waits_for : ℕ → Wait → Bool
waits_for r Nothing = false
waits_for r (ToRead x) = x == r
waits_for r (ToWrite x) = x == r
