-- Places and waits as one record sees them: a change for one record is none for another. A terminal has few places and
-- one wait, which all records share.
use Rattle.std.proofs.Common.{◌≡◌, ℕ, ◌%◌, ◌<◌, Bool, true, false, cond, ◌&&◌, ◌⊎◌, sym, refl, ap, ◌∙◌, subst, arith}
use Rattle.machine.specs.Machine.{Copy, no_copy, readable, writable, Wait, still, Msg, same}
use Rattle.machine.specs.Site.{Place, empty, Want, rests, wants, copy_of, wait_of, clear, place_of, want_of, put_place}
use Rattle.machine.specs.TerminalRules.{lands}
use Rattle.machine.specs.Invariant.{InItsPlace, PlaceFree}
use Rattle.machine.proofs.Counts.{Same, eq, ne, view, same_refl, same_no, same_tells}
use Rattle.machine.proofs.TerminalTakes.{waiting}

module _ {V : Type 0} where
  -- A place shows the copy that was put.
  pub copy_place : (r : ℕ) (c : Copy V) (pl : Place V) → copy_of r (place_of r c pl) ≡ c
  unfolding place_of copy_of clear
  copy_place r c pl = grind (arith, same_tells)

  -- A place that is clear for r shows no other record.
  pub clear_other : (r q : ℕ) (pl : Place V) → (r ≡ q → ⊥) → clear r pl ≡ true → copy_of q pl ≡ no_copy
  unfolding copy_of clear
  clear_other r q pl d h = grind (arith, same_tells)

  -- Another record sees no change of the place.
  pub other_place : (r q : ℕ) (c : Copy V) (pl : Place V) → (r ≡ q → ⊥) → (clear r pl ≡ true) ⊎ (c ≡ no_copy)
      → copy_of q (place_of r c pl) ≡ copy_of q pl
  unfolding place_of copy_of clear
  other_place r q c pl d h = grind (arith, same_tells)

-- The wait of the record is what was put.
pub want_mine : (r : ℕ) (j : Wait) (w : Want) → (j ≡ still) ⊎ (j ≡ wait_of r w) → wait_of r (want_of r j w) ≡ j
unfolding want_of wait_of
want_mine r j w h = grind (arith, same_tells)

-- Another record sees no change of the wait.
pub want_other : (r q : ℕ) (j : Wait) (w : Want) → (r ≡ q → ⊥) → wait_of q (want_of r j w) ≡ wait_of q w
unfolding want_of wait_of
want_other r q j w d = grind (arith, same_tells)

module _ {V : Type 0} where
  -- A clear place can take any message.
  pub lands_clear : (m : Msg V) (r : ℕ) (pl : Place V) → clear r pl ≡ true → lands m r pl ≡ true
  lands_clear m r pl h = grind arith

  -- A row that shows the same is as free.
  pub free_ext : (l b : ℕ) (f g : ℕ → Place V) (w : Want) → ((q : ℕ) → g q ≡ f q) → PlaceFree l b f w → PlaceFree l b g w
  free_ext l b f g rests e h = tt
  free_ext l b f g (wants k r) e h = (h.0, ap (clear r) (e (r % l)) ∙ h.1)

  -- A copy that is put stays in its place.
  pub place_of_in_place : (l b r : ℕ) (c : Copy V) (pl : Place V) → r < b → InItsPlace l b (r % l) pl
      → InItsPlace l b (r % l) (place_of r c pl)
  unfolding place_of
  place_of_in_place l b r no_copy pl k h = go (clear r pl)
    where
      go : (x : Bool) → InItsPlace l b (r % l) (cond x empty pl)
      go true = tt
      go false = h
  place_of_in_place l b r (readable v) pl k h = (refl, k)
  place_of_in_place l b r (writable v) pl k h = (refl, k)

  -- Who waits for r has its place clear for r, and rests when the wait ends.
  pub waits_clear : (l b r : ℕ) (f : ℕ → Place V) (w : Want) → waiting (wait_of r w) ≡ true → PlaceFree l b f w
      → (clear r (f (r % l)) ≡ true) × (want_of r still w ≡ rests)
  unfolding wait_of want_of clear
  waits_clear l b r f w h k = grind (arith, same_tells)

  -- Losing a copy leaves a place as clear as it was.
  pub clear_void : (r q : ℕ) (pl : Place V) → clear q pl ≡ true → clear q (place_of r no_copy pl) ≡ true
  unfolding place_of clear
  clear_void r q pl h = grind (arith, same_tells)

-- A wait that goes on is the same.
pub want_keeps : (r : ℕ) (w : Want) → want_of r (wait_of r w) w ≡ w
unfolding want_of wait_of
want_keeps r w = grind (arith, same_tells)

module _ {V : Type 0} where
  -- All places of all rows, after one has changed.
  pub row_all : (P : ℕ → ℕ → Place V → Type 0) (n t p : ℕ) (a : Place V) (f : ℕ → ℕ → Place V) → (t < n → P t p a)
      → ((u q : ℕ) → u < n → P u q (f u q)) → (u q : ℕ) → u < n → P u q (put_place f t p a u q)
  row_all P n t p a f at h u q l = go (same t u) (view t u) (same p q) (view p q)
    where
      go : (b : Bool) → Same t u b → (c : Bool) → Same p q c → P u q (cond (b && c) a (f u q))
      go true (eq e) true (eq k) = subst (λ y. P u y a) k (subst (λ y. P y p a) e (at (subst (λ y. y < n) (sym e) l)))
      go true (eq e) false (ne k) = h u q l
      go false (ne e) c k = h u q l

  -- The place that has changed.
  pub row_here : (t p : ℕ) (a : Place V) (f : ℕ → ℕ → Place V) → put_place f t p a t p ≡ a
  row_here t p a f = rw (same_refl t, same_refl p) refl

  -- The rows of others stay.
  pub row_there : (t p u : ℕ) (a : Place V) (f : ℕ → ℕ → Place V) → (t ≡ u → ⊥) → (q : ℕ) → put_place f t p a u q ≡ f u q
  row_there t p u a f d q = rw (same_no t u d) refl
