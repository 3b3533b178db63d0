use Rattle.std.proofs.Common.{◌≡◌, ℕ, zero, suc, true, replicate, refl, ap}
use Rattle.pointers.specs.declared.rows.Row.{Row}
use Rattle.pointers.specs.Rows.{row_of, apart}
use Rattle.pointers.proofs.table.Table.new.Goals as goal

-- where a row has no number twice, none of many such rows has, and none past them
once : (w : Row) (n r : ℕ) → apart w.numbers ≡ true → apart (row_of (replicate n w) r).numbers ≡ true
once w zero r a = refl
once w (suc n) zero a = a
once w (suc n) (suc r) a = once w n r a

pub invariant_of-result-clause-once : goal.invariant_of-result-clause-once
invariant_of-result-clause-once c = λ r. once c.free.result 64 r (ap (λ (w : Row). apart w.numbers) c.free.ensures.value)
