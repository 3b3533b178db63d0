-- A new holder is placed in the row of a record, and what makes way for it goes below.
use Rattle.std.proofs.Common.{◌≡◌, ℕ, ◌<◌, ◌≤◌, true, false, eqb, List, length, slice_set, Some, None, Option, refl, ap, ◌∙◌, arith}
use Rattle.std.proofs.Math.Path.{fun_ext}
use Rattle.std.proofs.lemmas.Bool.Decides.{nat_tests}
use Rattle.std.proofs.lemmas.Grind.{common_steps}
use Rattle.std.proofs.lemmas.List.Quantifiers.{position-Some}
use Rattle.directory.specs.Directories.{View, count}
use Rattle.directory.specs.Changes.{joined, with_holders}
use Rattle.pointers.specs.declared.rows.Row.{Row}
use Rattle.pointers.specs.Rows.{free, has, apart, row_of, free_place, placed, placed_at}
use Rattle.pointers.specs.Layers.{over, sent}
use Rattle.pointers.proofs.Places.{has_set, apart_set}
use Rattle.pointers.proofs.Sinking.{sinks}

-- no row comes to have a number twice
pub places_once : (w : Row) (t : ℕ) → apart w.numbers ≡ true → has w.numbers t ≡ false → apart (placed w t).row.numbers ≡ true
places_once w t a h = by (free_place w) where
  by : (o : Option ℕ) → apart (placed_at o w t).row.numbers ≡ true
  by None = grind (arith, nat_tests)
  by (Some i) = apart_set w.numbers i t a h

-- the new holder joins
pub places : (rows : List Row) (v : View) (r t : ℕ) → r < length rows → r < v.records → t < v.terminals → v.terminals ≤ 64
    → count (over rows v) r ≤ v.limit
    → over (slice_set rows r (placed (row_of rows r) t).row) (sent v r (placed (row_of rows r) t).below) ≡ with_holders v (joined (over rows v).holders r t)
places rows v r t l h k m few = by (free_place w) refl where
  w : Row
  w = row_of rows r

  by : (o : Option ℕ) → free_place w ≡ o
      → over (slice_set rows r (placed_at o w t).row) (sent v r (placed_at o w t).below) ≡ with_holders v (joined (over rows v).holders r t)
  by None e = ap (over (slice_set rows r (placed_at None w t).row)) (sinks w.numbers v r h m few)
      ∙ ap (with_holders v) (fun_ext (λ q. fun_ext (λ u. grind (arith, nat_tests, common_steps))))
  by (Some i) e =
      let at = position-Some (λ x. eqb x free) w.numbers i 0 e in
      ap (with_holders v) (fun_ext (λ q. fun_ext (λ u. let set = has_set w.numbers i t u in grind (arith, nat_tests, common_steps))))
