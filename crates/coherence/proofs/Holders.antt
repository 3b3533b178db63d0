-- The holders of a record, as the rules count them and as the machine does.
use Rattle.std.proofs.Common.{◌≡◌, ℕ, zero, suc, ◌+◌, ◌<◌, ◌≤◌, Bool, true, false, cond, not, ◌&&◌, eqb, ltb, Some, None, Option, sym, refl, ◌∙◌, subst, ⊎_elim, arith, ltb-false, ltb-true, le-ltb, lt-ltb, ne_eqb, eqb-true}
use mathlib.Core.Path.{fun_ext}
use Rattle.std.proofs.lemmas.Bool.{cases_lt}
use Rattle.directory.specs.Sets.{tally, least}
use Rattle.directory.specs.Directories.{View}
use Rattle.directory.proofs.Finding.{Found, found}
use Rattle.directory_client.specs.Clients.{only_holder}
use Rattle.protocol.specs.Sends as law
use Rattle.protocol.specs.HomeRules.{if_below}
use Rattle.machine.specs.Machine.{same, count, besides}
use Rattle.machine.specs.HomeRules.{one_holder}
use Rattle.machine.proofs.Counts.{Same, eq, ne, view, same_refl, same_no, count_ext, count_none, count_drop, count_zero, count_same}
use Rattle.coherence.proofs.Abstraction.{within}
use Rattle.coherence.proofs.Changes.{flip}

pub within_below : (h : ℕ → Bool) (u : ℕ) → u < 64 → within h u ≡ h u
within_below h u l = rw (lt-ltb u 64 l) refl

pub within_beyond : (h : ℕ → Bool) (u : ℕ) → 64 ≤ u → within h u ≡ false
within_beyond h u l = rw (le-ltb u 64 l) refl

-- one number more at the end
tally_last : (h : ℕ → Bool) (n : ℕ) → tally h (suc n) ≡ tally h n + cond (h n) 1 0
unfolding tally
tally_last h zero = omega arith
tally_last h (suc n) = omega (arith, tally_last (λ i. h (suc i)) n)

-- the machine counts as the directory does
pub count_tally : (h : ℕ → Bool) (n : ℕ) → count h n ≡ tally h n
unfolding count tally
count_tally h zero = refl
count_tally h (suc n) = pick (h n) (tally_last h n) (count_tally h n)
  where
    pick : (b : Bool) → tally h (suc n) ≡ tally h n + cond b 1 0 → count h n ≡ tally h n → cond b (suc (count h n)) (count h n) ≡ tally h (suc n)
    pick true l e = omega (arith, l, e)
    pick false l e = omega (arith, l, e)

pub count_within : (h : ℕ → Bool) (n : ℕ) → n ≤ 64 → count (within h) n ≡ tally h n
count_within h n l = count_ext (within h) h n (λ u k. within_below h u (omega arith)) ∙ count_tally h n

-- one member alone
pub alone_is : (i : ℕ) (h : ℕ → Bool) → i < 64 → h i ≡ true → tally h 64 ≡ 1 → within h ≡ same i
alone_is i h l hi c = fun_ext (λ u. ⊎_elim (λ (k : u < 64). inside u k) (λ (k : 64 ≤ u). within_beyond h u k ∙ sym (same_no i u (λ e. omega arith))) (cases_lt u 64))
  where
    pi : within h i ≡ true
    pi = within_below h i l ∙ hi

    drop : count (within h) 64 ≡ suc (count (besides i (within h)) 64)
    drop = count_drop (within h) (besides i (within h)) 64 i l pi (rw (same_refl i) refl) (λ u m d. rw (same_no i u d) refl)

    none : count (besides i (within h)) 64 ≡ 0
    none = omega (arith, drop, count_within h 64 (omega arith), c)

    inside : (u : ℕ) → u < 64 → within h u ≡ same i u
    inside u k = go (same i u) (view i u) (count_zero (besides i (within h)) 64 none u k)
      where
        go : (b : Bool) → Same i u b → (not (same i u) && within h u) ≡ false → within h u ≡ b
        go true (eq e) z = subst (λ (x : ℕ). within h x ≡ true) e pi
        go false (ne d) z = rw (same_no i u d) at z

-- what the one holder below n is
abbrev pub Sole : ℕ → (ℕ → Bool) → Option ℕ → Type 0
Sole n h None = one_holder n 64 (within h) ≡ false
Sole n h (Some i) = (within h ≡ same i) × (i < n)

pub one_same : (n i : ℕ) → n ≤ 64 → i < n → one_holder n 64 (same i) ≡ true
one_same n i l k = rw (count_same 64 i (omega arith), count_same n i k) refl

pub sole : (n : ℕ) (v : View) (r : ℕ) → n ≤ 64 → Sole n (v.holders r) (if_below n (only_holder v r))
sole n v r l = pick (eqb (tally (v.holders r) 64) 1) refl (least (v.holders r) 0 64) (found (v.holders r) 0 64)
  where
    h : ℕ → Bool
    h = v.holders r

    total : count (within h) 64 ≡ tally h 64
    total = count_within h 64 (omega arith)

    both : (x y : Bool) → y ≡ false → (x && y) ≡ false
    both true y q = q
    both false y q = refl

    pick : (b : Bool) → eqb (tally (v.holders r) 64) 1 ≡ b → (o : Option ℕ) → Found (v.holders r) 0 64 o → Sole n (v.holders r) (if_below n (cond b o None))
    pick true f None g =
        let q : count (within h) 64 ≡ 0 = count_none (within h) 64 (λ u k. within_below h u k ∙ g u (omega arith) (omega arith)) in
        absurd (omega (arith, q, total, eqb-true (tally h 64) 1 f))
    pick true f (Some j) g = at (ltb j n) refl
      where
        w : within h ≡ same j
        w = alone_is j h (omega (arith, g.1)) g.2 (eqb-true (tally h 64) 1 f)

        at : (b : Bool) → ltb j n ≡ b → Sole n (v.holders r) (cond b (Some j) None)
        at true k = (w, ltb-true j n k)
        at false k =
            let c : count (same j) n ≡ 0 = count_none (same j) n (λ u x. same_no j u (λ y. omega (arith, ltb-false j n k))) in
            rw w (both (eqb (count (same j) 64) 1) (eqb (count (same j) n) 1) (ne_eqb (count (same j) n) 1 (λ y. omega (arith, c, y))))
    pick false f o g = rw (total, f) refl

count_step : (p : ℕ → Bool) (n m : ℕ) → n ≤ m → count p n ≤ count p m
unfolding count
count_step p n zero l = let e : n ≡ zero = omega arith in rw e (omega arith)
count_step p n (suc m) l = go (same n (suc m)) (view n (suc m)) (count_step p n m)
  where
    up : (b : Bool) → count p n ≤ count p m → count p n ≤ cond b (suc (count p m)) (count p m)
    up true h = omega arith
    up false h = h

    go : (b : Bool) → Same n (suc m) b → (n ≤ m → count p n ≤ count p m) → count p n ≤ count p (suc m)
    go true (eq e) ih = subst (λ (x : ℕ). count p n ≤ count p x) e (omega arith)
    go false (ne d) ih = up (p m) (ih (omega arith))

-- where as many are below n as at all, none is at or above n
pub none_above : (n : ℕ) (h : ℕ → Bool) → n ≤ 64 → tally h n ≡ tally h 64 → (u : ℕ) → n ≤ u → within h u ≡ false
none_above n h l e u k = ⊎_elim (λ (b : u < 64). pick (within h u) refl b) (λ (b : 64 ≤ u). within_beyond h u b) (cases_lt u 64)
  where
    q : ℕ → Bool
    q = within h

    pick : (b : Bool) → within h u ≡ b → u < 64 → b ≡ false
    pick false f b = refl
    pick true f b =
        let d : count q 64 ≡ suc (count (besides u q) 64) = count_drop q (besides u q) 64 u b f (rw (same_refl u) refl) (λ i m z. rw (same_no u i z) refl) in
        let f' : count (besides u q) n ≡ count q n = count_ext (besides u q) q n (λ i m. rw (same_no u i (λ z. omega (arith, k, z, m))) refl) in
        let g = count_step (besides u q) n 64 l in
        absurd (omega (arith, d, f', g, e, count_within h n l, count_within h 64 (omega arith)))

-- the holders besides t
pub other_is : (h : ℕ → Bool) (t u : ℕ) → u < 64 → besides t (within h) u ≡ law.besides h t u
other_is h t u l = rw (within_below h u l, flip t u) (swap (same t u) (h u))
  where
    swap : (a b : Bool) → (not a && b) ≡ (b && not a)
    swap true true = refl
    swap true false = refl
    swap false true = refl
    swap false false = refl

pub others_count : (h : ℕ → Bool) (t : ℕ) → count (besides t (within h)) 64 ≡ tally (law.besides h t) 64
others_count h t = count_ext (besides t (within h)) (law.besides h t) 64 (λ u l. other_is h t u l) ∙ count_tally (law.besides h t) 64
