-- Pointers over another directory.
use Rattle.std.specs.Prelude.{ℕ, Bool, ◌&&◌, ◌||◌, List, [], ◌∷◌, Some, None, Option, nat_lt}
use Rattle.directory.specs.Directories.{View}
use Rattle.directory.specs.Changes.{added, with_holders}
use Rattle.pointers.specs.Rows.{has, row_of}
use Rattle.pointers.specs.declared.rows.Row.{Row}
use Rattle.pointers.specs.declared.layer.Pointers.{Pointers}

-- Whether the pointers of record r name terminal t, where the directory below serves both.
abbrev pub pointed : View → List ℕ → ℕ → ℕ → Bool
pointed v xs r t = (nat_lt r v.records && nat_lt t v.terminals) && has xs t

-- The holders are those that the pointers name and those below; a terminal that is both is one holder.
abbrev pub over : List Row → View → View
over rows v = with_holders v (λ r t. pointed v (row_of rows r).numbers r t || v.holders r t)

-- What pointers over a directory mean, by what the directory below means.
abbrev pub layer_view : {D : Type 0} → (D → View) → Pointers D → View
layer_view view p = over p.table.rows (view p.below)

-- Each number in turn is added below.
abbrev pub spilled : View → ℕ → List ℕ → View
spilled v r [] = v
spilled v r (x ∷ xs) = spilled (added v r x) r xs

-- The numbers that make way, if any, are added below.
abbrev pub sent : View → ℕ → Option (List ℕ) → View
sent v r None = v
sent v r (Some xs) = spilled v r xs
