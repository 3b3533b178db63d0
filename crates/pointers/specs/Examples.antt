-- The worked example: with the pointers 0, 1, 2 and 3, terminal 9 joins.
use Rattle.std.specs.Prelude.{◌≡◌, ℕ, ◌<◌, ◌≤◌, ◌||◌, List, [], ◌∷◌, length, slice_set}
use Rattle.directory.specs.Directories.{View, Sound, count}
use Rattle.pointers.specs.declared.rows.Row.{Row}
use Rattle.pointers.specs.Rows.{free, has, placed, row_of}
use Rattle.pointers.specs.Layers.{over, sent}

-- A row with the pointers 0, 1, 2 and 3.
abbrev pub full_row : Row
full_row = record { numbers = 0 ∷ 1 ∷ 2 ∷ 3 ∷ [] }

-- A layer in which record r has that row, and in which one more holder is accepted, of ten terminals or more.
pub record Full (rows : List Row) (v : View) (r : ℕ) : Type 0 where
  pub sound : Sound v
  pub row : row_of rows r ≡ full_row
  pub within : r < length rows
  pub served : r < v.records
  pub terminals : 10 ≤ v.terminals
  pub room : count (over rows v) r < v.limit

-- Afterwards 9 stands above alone, and 0, 1, 2 and 3 have joined the holders below.
pub record Spilled (rows : List Row) (v : View) (r : ℕ) : Type 0 where
  pub above : (row_of (slice_set rows r (placed (row_of rows r) 9).row) r).numbers ≡ 9 ∷ free ∷ free ∷ free ∷ []
  pub below : (u : ℕ) → (sent v r (placed (row_of rows r) 9).below).holders r u ≡ has (0 ∷ 1 ∷ 2 ∷ 3 ∷ []) u || v.holders r u

-- The example holds over every directory.
abbrev pub Spills : Type 0
Spills = (rows : List Row) (v : View) (r : ℕ) → Full rows v r → Spilled rows v r
