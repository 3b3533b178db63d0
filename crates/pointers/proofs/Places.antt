-- A number is put in a place of a row.
use Rattle.std.proofs.Common.{◌≡◌, ◌≢◌, ℕ, zero, suc, ◌<◌, true, false, ◌||◌, eqb, length, List, [], ◌∷◌, slice_index, slice_set, arith}
use Rattle.std.proofs.lemmas.Bool.Decides.{nat_tests}
use Rattle.pointers.specs.Rows.{has, apart}

-- it takes the place of another: it joins, and the others stay
pub has_set : (xs : List ℕ) (i t u : ℕ) → i < length xs → slice_index xs i ≢ u → has (slice_set xs i t) u ≡ (eqb u t || has xs u)
has_set [] i t u h ne = absurd (omega arith)
has_set (x ∷ xs) zero t u h ne = grind (arith, nat_tests)
has_set (x ∷ xs) (suc i) t u h ne = let more = has_set xs i t u (omega arith) ne in grind (arith, nat_tests)

-- no other number comes with it
pub lacks_set : (xs : List ℕ) (i t u : ℕ) → has xs u ≡ false → u ≢ t → has (slice_set xs i t) u ≡ false
lacks_set [] i t u h ne = h
lacks_set (x ∷ xs) zero t u h ne = grind (arith, nat_tests)
lacks_set (x ∷ xs) (suc i) t u h ne = let more = lacks_set xs i t u in grind (arith, nat_tests)

-- a number that was not there keeps them apart
pub apart_set : (xs : List ℕ) (i t : ℕ) → apart xs ≡ true → has xs t ≡ false → apart (slice_set xs i t) ≡ true
apart_set [] i t a h = a
apart_set (x ∷ xs) zero t a h = grind (arith, nat_tests)
apart_set (x ∷ xs) (suc i) t a h = let more = apart_set xs i t in let no = lacks_set xs i t x in grind (arith, nat_tests)
