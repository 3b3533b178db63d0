use Rattle.std.proofs.Common.{◌≡◌, ℕ, ◌≤◌, List, [], ap, ◌∙◌, arith, get_or-set_same}
use Rattle.std.proofs.lemmas.Bool.Decides.{nat_tests}
use Rattle.directory.specs.Sets.{tally}
use Rattle.directory.specs.Directories.{View}
use Rattle.pointers.specs.declared.rows.Row.{Row}
use Rattle.pointers.specs.declared.rows.Placed.{Placed}
use Rattle.pointers.specs.Rows.{placed, row_of}
use Rattle.pointers.specs.Layers.{sent}
use Rattle.pointers.specs.Examples.{Spills, full_row}
use Rattle.pointers.proofs.Unions.{union}
use Rattle.pointers.proofs.Sinking.{sinks}
use Rattle.pointers.proofs.examples.worked_example.Goals as goal

spills : Spills
spills rows v r full = record {
  above = ap (λ (w : Row). w.numbers) (get_or-set_same rows r _ (record { numbers = [] }) full.within) ∙ ap (λ (p : Placed). p.row.numbers) step;
  below = λ u. ap (λ (w : View). w.holders r u) (ap (λ (p : Placed). sent v r p.below) step ∙ sinks four v r full.served full.sound.most_terminals few)
      ∙ grind (arith, nat_tests);
} where
  four : List ℕ
  four = full_row.numbers

  step : placed (row_of rows r) 9 ≡ placed full_row 9
  step = ap (λ (w : Row). placed w 9) full.row

  few : tally (union v four r) 64 ≤ v.limit
  few = omega (arith, full.room, ap (λ (w : Row). tally (union v w.numbers r) 64) full.row)

pub returns-clause-spills : goal.returns-clause-spills
returns-clause-spills c = spills
