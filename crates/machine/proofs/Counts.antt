-- Tests of numbers, and how many numbers below n pass one. The home counts holders and acknowledgements; the machine
-- counts terminals that wait or owe. All of these counts are compared by these lemmas.
use Rattle.std.proofs.Common.{◌≡◌, ℕ, zero, suc, ◌<◌, ◌≤◌, Bool, true, false, cond, not, T, eqb, ◌⊎◌, sym, refl, ap, ◌∙◌, subst, ap₂, inl, inr, arith, eq-eqb, ne_eqb, eqb-true}
use borrow.Author.Tests.{eqb-false}
use Rattle.machine.specs.Machine.{same, count, besides, join}

-- What is false is not true.
pub clash : {A : Type 0} → false ≡ true → A
clash e = absurd (subst (λ b. T (not b)) e tt)

-- Two numbers are the same or not, beside the test that tells it.
pub data Same (t u : ℕ) : Bool → Type 0 where
  eq : t ≡ u → Same t u true
  ne : (t ≡ u → ⊥) → Same t u false

-- The test tells.
pub view : (t u : ℕ) → Same t u (same t u)
unfolding same
view t u = go (eqb t u) refl
  where
    go : (b : Bool) → eqb t u ≡ b → Same t u b
    go true e = eq (eqb-true t u e)
    go false e = ne (eqb-false t u e)

-- A number is the same as itself.
pub same_refl : (t : ℕ) → same t t ≡ true
unfolding same
same_refl t = eq-eqb t t refl

-- Different numbers fail the test.
pub same_no : (t u : ℕ) → (t ≡ u → ⊥) → same t u ≡ false
unfolding same
same_no t u h = ne_eqb t u h

-- Numbers that pass the test are equal.
pub same_true : (t u : ℕ) → same t u ≡ true → t ≡ u
unfolding same
same_true t u e = eqb-true t u e

-- Tests that agree below n count the same.
pub count_ext : (p q : ℕ → Bool) (n : ℕ) → ((u : ℕ) → u < n → p u ≡ q u) → count p n ≡ count q n
unfolding count
count_ext p q zero h = refl
count_ext p q (suc n) h =
    ap₂ (λ b m. cond b (suc m) m) (h n (omega arith)) (count_ext p q n (λ u l. h u (omega arith)))

-- Where none passes the count is 0.
pub count_none : (p : ℕ → Bool) (n : ℕ) → ((u : ℕ) → u < n → p u ≡ false) → count p n ≡ 0
unfolding count
count_none p zero h = refl
count_none p (suc n) h = rw (h n (omega arith)) (count_none p n (λ u l. h u (omega arith)))

-- A test that fails at one number more counts one less.
pub count_drop : (p q : ℕ → Bool) (n t : ℕ) → t < n → p t ≡ true → q t ≡ false → ((u : ℕ) → u < n → (t ≡ u → ⊥) → p u ≡ q u)
    → count p n ≡ suc (count q n)
unfolding count
count_drop p q zero t l a b h = absurd (omega arith)
count_drop p q (suc n) t l a b h = go (same t n) (view t n) (λ m. count_drop p q n t m a b (λ u k. h u (omega arith)))
  where
    go : (x : Bool) → Same t n x → (t < n → count p n ≡ suc (count q n)) → count p (suc n) ≡ suc (count q (suc n))
    go true (eq e) ih =
        rw (subst (λ x. p x ≡ true) e a, subst (λ x. q x ≡ false) e b) (ap suc (count_ext p q n (λ u m. h u (omega arith) (omega arith))))
    go false (ne d) ih =
        let i : count p n ≡ suc (count q n) = ih (omega arith) in
        rw (h n (omega arith) d, i) (pick (q n))
      where
        pick : (x : Bool) → cond x (suc (suc (count q n))) (suc (count q n)) ≡ suc (cond x (suc (count q n)) (count q n))
        pick true = refl
        pick false = refl

-- Where one passes the count is at least 1.
pub count_pos : (p : ℕ → Bool) (n t : ℕ) → t < n → p t ≡ true → 1 ≤ count p n
count_pos p n t l a =
    omega (
      arith,
      count_drop
          p
          (besides t p)
          n
          t
          l
          a
          (rw (same_refl t) refl)
          (λ u m d. rw (same_no t u d) refl),
    )

-- Where the count is 0 none passes.
pub count_zero : (p : ℕ → Bool) (n : ℕ) → count p n ≡ 0 → (u : ℕ) → u < n → p u ≡ false
count_zero p n z u l = go (p u) refl
  where
    go : (b : Bool) → p u ≡ b → p u ≡ false
    go true e = absurd (omega (arith, count_pos p n u l e))
    go false e = e

-- One number below n is the same as h.
pub count_same : (n h : ℕ) → h < n → count (same h) n ≡ 1
count_same n h l =
    count_drop (same h) (λ u. false) n h l (same_refl h) refl (λ u m d. same_no h u d) ∙ ap suc (count_none (λ u. false) n (λ u m. refl))

-- At most n numbers below n pass.
pub count_le : (p : ℕ → Bool) (n : ℕ) → count p n ≤ n
unfolding count
count_le p zero = omega arith
count_le p (suc n) = go (p n) (count_le p n)
  where
    go : (b : Bool) → count p n ≤ n → cond b (suc (count p n)) (count p n) ≤ suc n
    go true h = omega arith
    go false h = omega arith

-- Where one of n fails, fewer than n pass.
pub count_less : (p : ℕ → Bool) (n t : ℕ) → t < n → p t ≡ false → count p n < n
count_less p n t l z =
    let e : count (join t p) n ≡ suc (count p n)
    = count_drop (join t p) p n t l (rw (same_refl t) refl) z (λ u m d. rw (same_no t u d) refl) in
    omega (arith, count_le (join t p) n)

-- Where the count is at least 1, one passes.
pub count_some : (p : ℕ → Bool) (n : ℕ) → 1 ≤ count p n → (u : ℕ) × (u < n) × (p u ≡ true)
unfolding count
count_some p zero h = absurd (omega arith)
count_some p (suc n) h = go (p n) refl h (count_some p n)
  where
    go : (b : Bool) → p n ≡ b → 1 ≤ cond b (suc (count p n)) (count p n) → (1 ≤ count p n → (u : ℕ) × (u < n) × (p u ≡ true))
        → (u : ℕ) × (u < suc n) × (p u ≡ true)
    go true e k ih = (n, omega arith, e)
    go false e k ih = let i : (u : ℕ) × (u < n) × (p u ≡ true) = ih k in (i.0, omega (arith, i.1), i.2)

-- Where none from n on passes, a longer count is the same.
pub count_inside : (p : ℕ → Bool) (n m : ℕ) → n ≤ m → ((u : ℕ) → n ≤ u → p u ≡ false) → count p m ≡ count p n
unfolding count
count_inside p n zero l h = let e : zero ≡ n = omega arith in ap (count p) e
count_inside p n (suc m) l h = go (same n (suc m)) (view n (suc m)) (λ k. count_inside p n m k h)
  where
    go : (b : Bool) → Same n (suc m) b → (n ≤ m → count p m ≡ count p n) → count p (suc m) ≡ count p n
    go true (eq e) ih = ap (count p) (sym e)
    go false (ne d) ih = rw (h m (omega arith)) (ih (omega arith))

-- The test as a choice, for `grind`.
pub same_tells : (t u : ℕ) → ((same t u ≡ true) × (t ≡ u)) ⊎ ((same t u ≡ false) × (t ≡ u → ⊥))
same_tells t u = go (same t u) (view t u)
  where
    go : (b : Bool) → Same t u b → ((b ≡ true) × (t ≡ u)) ⊎ ((b ≡ false) × (t ≡ u → ⊥))
    go true (eq e) = inl (refl, e)
    go false (ne d) = inr (refl, d)
