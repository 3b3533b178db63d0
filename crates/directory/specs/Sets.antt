-- Sets of numbers, each given by a test: how many members, and which is the least.
use Rattle.std.specs.Prelude.{ℕ, zero, suc, ◌+◌, Bool, cond, Some, None, Option}

-- How many of the numbers below n are members.
unfoldable pub tally : (ℕ → Bool) → ℕ → ℕ
tally member zero = 0
tally member (suc n) = cond (member 0) 1 0 + tally (λ i. member (suc i)) n

-- The least member among the n numbers from t on, or none.
unfoldable pub least : (ℕ → Bool) → ℕ → ℕ → Option ℕ
least member t zero = None
least member t (suc n) = cond (member t) (Some t) (least member (t + 1) n)
