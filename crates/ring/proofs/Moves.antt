-- What a write at the end and a move of the start make of the list that waits.
use Rattle.std.proofs.Common.{◌≡◌, ℕ, ◌+◌, ◌-◌, ◌<◌, ◌≤◌, List, [], ◌∷◌, ◌++◌, length, drop, set, arith, rules}
use Rattle.std.proofs.lemmas.List.{places, same_lists, take_more_set}
use Rattle.ring.specs.declared.Span.{Span}
use Rattle.ring.specs.Waiting.{turned, waiting, place}
use Rattle.ring.proofs.Turns.{length_turned, set_turned}

-- One more at the end.
pub joins : {X : Type 0} (xs : List X) (span : Span) (x : X) → span.start ≤ length xs → span.count < length xs
    → waiting (set xs (place (length xs) span.start span.count) x) (record span { count = span.count + 1 }) ≡ waiting xs span ++ x ∷ []
joins xs span x within room =
    rw set_turned (take_more_set (turned xs span.start) span.count x (omega (arith, length_turned xs span.start within)))

-- The oldest go.
pub goes : {X : Type 0} (xs : List X) (span : Span) (k : ℕ) → span.start ≤ length xs → span.count ≤ length xs → k ≤ span.count
    → waiting xs (record { start = place (length xs) span.start k; count = span.count - k }) ≡ drop k (waiting xs span)
goes xs span k within few some = same_lists _ _ (search (rules, places)) (λ i d here. grind (arith, places))
