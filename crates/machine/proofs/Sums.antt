-- Sums over the numbers below n: of two families, of a changed family, and the other way round. The potential of a site
-- is such a sum, over terminals and over records.
use Rattle.std.proofs.Common.{◌≡◌, ℕ, zero, suc, ◌+◌, ◌*◌, ◌<◌, ◌≤◌, Bool, true, false, cond, sym, refl, ap, ◌∙◌, ap₂, arith}
use Rattle.machine.specs.Machine.{same, count}
use Rattle.machine.specs.Site.{total, changed}
use Rattle.machine.proofs.Counts.{Same, eq, ne, view, same_refl, same_no}

-- Families that agree below n have the same sum.
pub total_ext : (f g : ℕ → ℕ) (n : ℕ) → ((u : ℕ) → u < n → f u ≡ g u) → total f n ≡ total g n
unfolding total
total_ext f g zero h = refl
total_ext f g (suc n) h = ap₂ (λ a b. a + b) (h n (omega arith)) (total_ext f g n (λ u l. h u (omega arith)))

-- A smaller family has a smaller sum.
pub total_le : (f g : ℕ → ℕ) (n : ℕ) → ((u : ℕ) → u < n → f u ≤ g u) → total f n ≤ total g n
unfolding total
total_le f g zero h = omega arith
total_le f g (suc n) h = omega (arith, h n (omega arith), total_le f g n (λ u l. h u (omega arith)))

-- The sum of two families.
pub total_add : (f g : ℕ → ℕ) (n : ℕ) → total (λ u. f u + g u) n ≡ total f n + total g n
unfolding total
total_add f g zero = refl
total_add f g (suc n) = omega (arith, total_add f g n)

-- The sum of a multiple.
pub total_mul : (k : ℕ) (f : ℕ → ℕ) (n : ℕ) → total (λ u. k * f u) n ≡ k * total f n
unfolding total
total_mul k f zero = omega arith
total_mul k f (suc n) = omega (arith, total_mul k f n)

-- Zeros sum to 0.
pub total_none : (n : ℕ) → total (λ u. 0) n ≡ 0
unfolding total
total_none zero = refl
total_none (suc n) = omega (arith, total_none n)

-- The sum of n equal numbers.
pub total_const : (k n : ℕ) → total (λ u. k) n ≡ k * n
unfolding total
total_const k zero = omega arith
total_const k (suc n) = omega (arith, total_const k n)

-- A number for each that passes a test.
pub total_count : (p : ℕ → Bool) (k n : ℕ) → total (λ u. cond (p u) k 0) n ≡ k * count p n
unfolding total count
total_count p k zero = omega arith
total_count p k (suc n) = go (p n) (total_count p k n)
  where
    go : (b : Bool) → total (λ u. cond (p u) k 0) n ≡ k * count p n
        → cond b k 0 + total (λ u. cond (p u) k 0) n ≡ k * cond b (suc (count p n)) (count p n)
    go true h = omega arith
    go false h = omega arith

-- Two families that differ at t alone.
pub total_at : (f g : ℕ → ℕ) (n t : ℕ) → t < n → ((u : ℕ) → u < n → (t ≡ u → ⊥) → f u ≡ g u) → total f n + g t ≡ total g n + f t
unfolding total
total_at f g zero t l h = absurd (omega arith)
total_at f g (suc n) t l h = go (same t n) (view t n) (λ m. total_at f g n t m (λ u k. h u (omega arith)))
  where
    go : (b : Bool) → Same t n b → (t < n → total f n + g t ≡ total g n + f t)
        → (f n + total f n) + g t ≡ (g n + total g n) + f t
    go true (eq e) ih =
        let i : total f n ≡ total g n = total_ext f g n (λ u m. h u (omega arith) (omega arith)) in
        omega (arith, ap f e, ap g e)
    go false (ne d) ih = omega (arith, ih (omega arith), h n (omega arith) d)

-- A family of which one member changes, by weight.
pub total_changed : {A : Type 0} (weight : A → ℕ) (f : ℕ → A) (n t : ℕ) (a : A) → t < n
    → total (λ u. weight (changed f t a u)) n + weight (f t) ≡ total (λ u. weight (f u)) n + weight a
total_changed weight f n t a l =
    let e : total (λ u. weight (changed f t a u)) n + weight (f t) ≡ total (λ u. weight (f u)) n + weight (changed f t a t)
    = total_at (λ u. weight (changed f t a u)) (λ u. weight (f u)) n t l (λ u m d. rw (same_no t u d) refl) in
    let h : weight (changed f t a t) ≡ weight a = rw (same_refl t) refl in
    omega (arith, e, h)

-- A sum of sums, the other way round.
pub total_swap : (f : ℕ → ℕ → ℕ) (n b : ℕ) → total (λ r. total (λ t. f r t) n) b ≡ total (λ t. total (λ r. f r t) b) n
unfolding total
total_swap f n zero = sym (total_none n)
total_swap f n (suc b) =
    ap (λ y. total (λ t. f b t) n + y) (total_swap f n b) ∙ sym (total_add (λ t. f b t) (λ t. total (λ r. f r t) b) n)

-- A member is at most the sum.
pub total_point : (f : ℕ → ℕ) (n t : ℕ) → t < n → f t ≤ total f n
unfolding total
total_point f zero t l = absurd (omega arith)
total_point f (suc n) t l = go (same t n) (view t n) (total_point f n t)
  where
    go : (b : Bool) → Same t n b → (t < n → f t ≤ total f n) → f t ≤ f n + total f n
    go true (eq e) ih = omega (arith, ap f e)
    go false (ne d) ih = omega (arith, ih (omega arith))
