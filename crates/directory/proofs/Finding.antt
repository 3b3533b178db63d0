-- Least members of sets of numbers.
use Rattle.std.proofs.Common.{◌≡◌, ℕ, zero, suc, ◌+◌, ◌<◌, ◌≤◌, Bool, true, false, cond, ◌||◌, eqb, ltb, Some, None, Option, refl, ap, ◌∙◌, subst, ⊎_elim, arith}
use Rattle.std.proofs.lemmas.Bool.{cases_eq, cases_lt}
use Rattle.std.proofs.lemmas.Bool.Decides.{nat_tests}
use Rattle.directory.specs.Sets.{least}
use Rattle.directory.specs.Directories.{Sound, View, next}

-- a number is the least member among the n from s on, or there is none
abbrev pub Found : (ℕ → Bool) → ℕ → ℕ → Option ℕ → Type 0
Found p s n None = (u : ℕ) → s ≤ u → u < s + n → p u ≡ false
Found p s n (Some v) = (s ≤ v) × (v < s + n) × (p v ≡ true) × ((u : ℕ) → s ≤ u → u < v → p u ≡ false)

-- `least` finds it
pub found : (p : ℕ → Bool) (s n : ℕ) → Found p s n (least p s n)
unfolding least
found p s zero = λ u h l. absurd (omega arith)
found p s (suc n) = by (p s) refl (least p (s + 1) n) (found p (s + 1) n) where
  by : (b : Bool) → p s ≡ b → (o : Option ℕ) → Found p (s + 1) n o → Found p s (suc n) (cond b (Some s) o)
  by true e o f = (omega arith, omega arith, e, λ u h l. absurd (omega arith))
  by false e None f = λ u h l. ⊎_elim (λ q. ap p q ∙ e) (λ ne. f u (omega arith) (omega arith)) (cases_eq u s)
  by false e (Some v) f =
      (omega arith, omega arith, f.2, λ u h l. ⊎_elim (λ q. ap p q ∙ e) (λ ne. f.3 u (omega arith) l) (cases_eq u s))

-- and nothing else
pub least_is : (p : ℕ → Bool) (s n : ℕ) (o : Option ℕ) → Found p s n o → least p s n ≡ o
unfolding least
least_is p s zero None f = refl
least_is p s zero (Some v) f = absurd (omega arith)
least_is p s (suc n) None f =
    let rest = least_is p (s + 1) n None (λ u h l. f u (omega arith) (omega arith)) in
    let first = f s (omega arith) (omega arith) in
    grind (arith, nat_tests)
least_is p s (suc n) (Some v) f =
    ⊎_elim (λ (e : s ≡ v). grind (arith, nat_tests))
    (λ ne. let rest = least_is p (s + 1) n (Some v) (omega arith, omega arith, f.2, λ u h l. f.3 u (omega arith) l) in
    let first = f.3 s (omega arith) (omega arith) in
    grind (arith, nat_tests))
    (cases_eq s v)

-- the lesser of a member, if there is one, and another
abbrev pub lesser : Option ℕ → ℕ → Option ℕ
lesser None u = Some u
lesser (Some v) u = cond (ltb u v) (Some u) (Some v)

-- with one number more, at or above s or below it
pub least_more : (p : ℕ → Bool) (s n t : ℕ) → s ≤ t → t < s + n → least (λ u. eqb u t || p u) s n ≡ lesser (least p s n) t
unfolding least
least_more p s zero t h l = absurd (omega arith)
least_more p s (suc n) t h l =
    ⊎_elim (λ (k : s < t). let more = least_more p (s + 1) n t (omega arith) (omega arith) in grind (arith, nat_tests))
    (λ (k : t ≤ s). by (omega arith) (least p (s + 1) n) (found p (s + 1) n))
    (cases_lt s t) where
      by : s ≡ t → (o : Option ℕ) → Found p (s + 1) n o
          → cond (eqb s t || p s) (Some s) (least (λ u. eqb u t || p u) (s + 1) n) ≡ lesser (cond (p s) (Some s) o) t
      by k None f = grind (arith, nat_tests)
      by k (Some v) f = grind (arith, nat_tests)

pub least_less : (p : ℕ → Bool) (s n t : ℕ) → t < s → least (λ u. eqb u t || p u) s n ≡ least p s n
unfolding least
least_less p s zero t h = refl
least_less p s (suc n) t h = let e = least_less p (s + 1) n t (omega arith) in grind (arith, nat_tests)

-- The next holder is one, and served, and not below where it was looked for.
pub next_holder : (v : View) (r t u : ℕ) → Sound v → next v r t ≡ Some u → (t ≤ u) × (u < v.terminals) × (v.holders r u ≡ true)
next_holder v r t u s e =
    let f : Found (v.holders r) t 64 (Some u) = subst (Found (v.holders r) t 64) e (found (v.holders r) t 64) in
    (f.0, (s.served r u f.2).1, f.2)
