-- Counts of sets of numbers.
use Rattle.std.proofs.Common.{◌≡◌, ℕ, zero, suc, ◌+◌, ◌<◌, ◌≤◌, Bool, true, false, ◌||◌, eqb, refl, ap, arith}
use Rattle.std.proofs.Math.Path.{fun_ext}
use Rattle.std.proofs.lemmas.Bool.Decides.{nat_tests}
use Rattle.directory.specs.Sets.{tally}

-- none passes
pub tally_none : (p : ℕ → Bool) (n : ℕ) → ((u : ℕ) → p u ≡ false) → tally p n ≡ 0
unfolding tally
tally_none p zero h = refl
tally_none p (suc n) h = let few = tally_none (λ i. p (suc i)) n (λ u. h (suc u)) in grind (arith, nat_tests, h 0)

pub tally_le : (p : ℕ → Bool) (n : ℕ) → tally p n ≤ n
unfolding tally
tally_le p zero = omega arith
tally_le p (suc n) = let few = tally_le (λ i. p (suc i)) n in grind (arith, nat_tests)

-- a larger set has no fewer members
pub tally_mono : (p q : ℕ → Bool) (n : ℕ) → ((u : ℕ) → p u ≡ true → q u ≡ true) → tally p n ≤ tally q n
unfolding tally
tally_mono p q zero h = omega arith
tally_mono p q (suc n) h = let more = tally_mono (λ i. p (suc i)) (λ i. q (suc i)) n (λ u. h (suc u)) in grind (arith, nat_tests, h 0)

-- a set with a number that it lacked has one member more
pub tally_more : (p : ℕ → Bool) (t n : ℕ) → t < n → p t ≡ false → tally (λ u. eqb u t || p u) n ≡ tally p n + 1
unfolding tally
tally_more p t zero h e = absurd (omega arith)
tally_more p zero (suc n) h e =
    let same : tally (λ i. eqb (suc i) 0 || p (suc i)) n ≡ tally (λ i. p (suc i)) n =
    ap (λ (f : ℕ → Bool). tally f n) (fun_ext (λ i. grind (arith, nat_tests))) in
    grind (arith, nat_tests)
tally_more p (suc t) (suc n) h e =
    let same : tally (λ i. eqb (suc i) (suc t) || p (suc i)) n ≡ tally (λ i. eqb i t || p (suc i)) n =
    ap (λ (f : ℕ → Bool). tally f n) (fun_ext (λ i. grind (arith, nat_tests))) in
    let more = tally_more (λ i. p (suc i)) t n (omega arith) e in
    grind (arith, nat_tests)

-- a set that lacks one of n numbers has fewer than n of them
pub tally_lt : (p : ℕ → Bool) (t n : ℕ) → t < n → p t ≡ false → tally p n < n
tally_lt p t n h e = omega (arith, tally_more p t n h e, tally_le (λ u. eqb u t || p u) n)
