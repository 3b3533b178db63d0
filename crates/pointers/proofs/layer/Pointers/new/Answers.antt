use Rattle.std.proofs.Common.{◌≡◌, ℕ, zero, suc, ◌<◌, false, List, replicate, refl, ap, ◌∙◌, arith}
use Rattle.std.proofs.Math.Path.{fun_ext}
use Rattle.std.proofs.lemmas.Bool.Decides.{nat_tests}
use Rattle.directory.specs.Directories.{View}
use Rattle.directory.specs.Changes.{with_holders}
use Rattle.pointers.specs.declared.rows.Row.{Row}
use Rattle.pointers.specs.Rows.{free, free_row, row_of, has}
use Rattle.pointers.specs.Layers.{over}
use Rattle.pointers.proofs.layer.Pointers.new.Goals as goal

-- no terminal stands in some free rows, or past them
none : (n r u : ℕ) → u < free → has (row_of (replicate n free_row) r).numbers u ≡ false
none zero r u h = refl
none (suc n) zero u h = grind (arith, nat_tests)
none (suc n) (suc r) u h = none n r u h

pub returns : goal.returns
returns g c =
    let v : View = g.D.Directory.view c.args.below in
    let s = g.met.D.Directory.sound c.args.below in
    record {
      holders = ap (λ (rows : List Row). over rows v) c.new.ensures.rows
          ∙ ap (with_holders v) (fun_ext (λ r. fun_ext (λ u. let no = none 64 r u in grind (arith, nat_tests, s.most_terminals))));
    }
