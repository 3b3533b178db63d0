-- Lists by number.
use Rattle.std.specs.Prelude.{ℕ, cond, List, ◌==◌}

-- The lists with another one at a number; all others stay.
unfoldable pub with_list : {X : Type 0} → (ℕ → List X) → ℕ → List X → ℕ → List X
with_list lists l new k = cond (k == l) new (lists k)
