-- Rows of pointers: four places, each with a holder number or free.
use Rattle.std.specs.Prelude.{ℕ, Bool, true, not, ◌&&◌, ◌||◌, List, [], ◌∷◌, replicate, position, Some, None, Option, ◌==◌, slice_index_or, slice_set}
use Rattle.std.specs.List.{list_any}
use Rattle.pointers.specs.declared.rows.Row.{Row}
use Rattle.pointers.specs.declared.rows.Placed.{Placed}

-- The number of a free place, which is that of no terminal.
abbrev pub free : ℕ
free = 64

-- Whether a number is among some.
abbrev pub has : List ℕ → ℕ → Bool
has xs u = list_any (λ x. x == u) xs

-- Whether no number stands twice, free places aside.
abbrev pub apart : List ℕ → Bool
apart [] = true
apart (x ∷ xs) = (x == free || not (has xs x)) && apart xs

-- A row with all places free.
abbrev pub free_row : Row
free_row = record { numbers = replicate 4 free }

-- The row of a record in a table; a record past its end has no place.
abbrev pub row_of : List Row → ℕ → Row
row_of rows r = slice_index_or rows r (record { numbers = [] })

-- The first free place of a row, or none.
abbrev pub free_place : Row → Option ℕ
free_place w = position (λ x. x == free) w.numbers

-- A new holder takes the free place; with none, the four make way and go below, and it takes the first.
abbrev pub placed_at : Option ℕ → Row → ℕ → Placed
placed_at (Some i) w t = record { row = record { numbers = slice_set w.numbers i t }; below = None }
placed_at None w t = record { row = record { numbers = t ∷ free ∷ free ∷ free ∷ [] }; below = Some w.numbers }

-- What becomes of a row when a new holder is placed.
abbrev pub placed : Row → ℕ → Placed
placed w t = placed_at (free_place w) w t
