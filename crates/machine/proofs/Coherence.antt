-- What the invariant says of one state: a copy that may be written excludes all others, a read gives the last value written,
-- and the home's entries are legal. A newly opened site has the invariant.
use Rattle.std.proofs.Common.{◌≡◌, ℕ, ◌+◌, ◌%◌, ◌<◌, Bool, true, false, cond, ltb, leb, [], length, sym, refl, ap, ◌∙◌, subst, arith, ltb-true}
use mathlib.Core.Option.{none, some}
use Rattle.std.proofs.lemmas.Bool.{cond_both}
use Rattle.machine.specs.Machine.{same, Copy, no_copy, readable, writable, cell, reading, writing, Phase, read_only, read_write, Transaction, Home, home, nobody, still}
use Rattle.machine.specs.Site.{Place, owned, Want, rests, Sizes, Site, copy_of, wait_of, messages_about, projection, wants}
use Rattle.machine.specs.Turns.{Out, out}
use Rattle.machine.specs.Calls.{read, step, read_at, miss, after_asking, evict}
use Rattle.machine.specs.Shapes.{quiet, Shape, idle, decode}
use Rattle.machine.specs.Invariant.{owing, RecordInvariant, Fit, InItsPlace, RecordsBelow, PlaceFree, Invariant}
use Rattle.machine.specs.Claims.{Opened, copy_at, Legal}
use Rattle.machine.proofs.Counts.{Same, eq, ne, view, same_tells, same_refl, count_less}
use Rattle.machine.proofs.NewShapes.{fit_read_only}
use Rattle.machine.proofs.Writing.{is_writable, sole-writer}
use Rattle.machine.proofs.Moves.{cell_path}
use Rattle.machine.proofs.Evictions.{owned_mine}

module _ {V : Type 0} where
  -- On a newly opened site every cell is quiet.
  opened_cell : (sizes : Sizes) (site : Site V) (opening : ℕ → V) → Opened sizes site opening → (r t : ℕ) → t < sizes.n
      → projection sizes site r t ≡ cell no_copy still [] []
  unfolding copy_of wait_of messages_about
  opened_cell sizes site opening O r t l =
      cell_path (ap (copy_of r) (O.places t (r % sizes.l) l)) (ap (wait_of r) (O.waits t l))
      (ap (messages_about r) (O.ups t l)) (ap (messages_about r) (O.downs t l))

  -- A newly opened site has the invariant.
  pub opened_invariant : (sizes : Sizes) (site : Site V) (opening : ℕ → V) → Opened sizes site opening
      → Invariant sizes site opening
  opened_invariant sizes site opening O =
      record {
        wide = O.wide;
        each =
            λ r l.
            rw
            (O.homes r l)
            (record {
              shape = λ _. idle quiet;
              is = λ t k. opened_cell sizes site opening O r t k;
              fit = fit_read_only sizes.n (opening r) (opening r) nobody (λ _. idle quiet) (λ u k. refl) (λ u k. refl) refl;
            });
        in_place = λ t p l. subst (InItsPlace sizes.l sizes.b p) (sym (O.places t p l)) tt;
        place_free = λ t l. subst (PlaceFree sizes.l sizes.b (site.place t)) (sym (O.waits t l)) tt;
        ups = λ t l. subst (RecordsBelow sizes.b) (sym (O.ups t l)) tt;
        downs = λ t l. subst (RecordsBelow sizes.b) (sym (O.downs t l)) tt;
      }

  -- A place shows no record that is not there.
  shown_below : (l b r p : ℕ) (pl : Place V) (v : V) → InItsPlace l b p pl → copy_of r pl ≡ writable v → r < b
  unfolding copy_of
  shown_below l b r p pl v h e = grind (arith, same_tells)

  -- While one terminal's copy may be written, no other has a copy in the place for the record.
  pub exclusive_in_place : (sizes : Sizes) (site : Site V) (last : ℕ → V) → Invariant sizes site last → (r t u : ℕ) (v : V)
      → t < sizes.n → u < sizes.n → (t ≡ u → ⊥) → copy_at sizes site t r ≡ writable v → copy_at sizes site u r ≡ no_copy
  exclusive_in_place sizes site last I r t u v tl ul d e =
      let rl : r < sizes.b
      = shown_below sizes.l sizes.b r (r % sizes.l) (site.place t (r % sizes.l)) v (I.in_place t (r % sizes.l) tl) e in
      let J : RecordInvariant sizes.n (last r) (site.homes r) (projection sizes site r) = I.each r rl in
      ap (λ c. c.copy) (J.is u ul)
      ∙ ((sole-writer sizes.n (last r) (last r) (site.homes r) (projection sizes site r) t tl J (ap is_writable e)).0 u ul d).1

  -- A place that is not the record's own shows no copy of it.
  shown_in_place : (l b r q : ℕ) (pl : Place V) → InItsPlace l b q pl → (r % l ≡ q → ⊥) → copy_of r pl ≡ no_copy
  unfolding copy_of
  shown_in_place l b r q pl h d = grind (arith, same_tells)

  -- While one terminal has a copy that may be written, no place of another shows the record.
  pub exclusive_at : (sizes : Sizes) (site : Site V) (last : ℕ → V) → Invariant sizes site last → (r t u p q : ℕ) (v : V)
      → t < sizes.n → u < sizes.n → (t ≡ u → ⊥) → site.place t p ≡ owned r v → copy_of r (site.place u q) ≡ no_copy
  exclusive_at sizes site last I r t u p q v tl ul d e = go (same (r % sizes.l) q) (view (r % sizes.l) q)
    where
      h : (r % sizes.l ≡ p) × (r < sizes.b)
      h = subst (InItsPlace sizes.l sizes.b p) e (I.in_place t p tl)

      mine : copy_at sizes site t r ≡ writable v
      mine = ap (λ x. copy_of r (site.place t x)) h.0 ∙ (ap (copy_of r) e ∙ owned_mine r v)

      go : (b : Bool) → Same (r % sizes.l) q b → copy_of r (site.place u q) ≡ no_copy
      go true (eq k) =
          subst (λ x. copy_of r (site.place u x) ≡ no_copy) k (exclusive_in_place sizes site last I r t u v tl ul d mine)
      go false (ne k) = shown_in_place sizes.l sizes.b r q (site.place u q) (I.in_place u q ul) k

module _ {V : Type 0} where
  -- A copy has this value, if there is one.
  abbrev Fresh : V → Copy V → Type 0
  Fresh v no_copy = Unit {0}
  Fresh v (readable w) = w ≡ v
  Fresh v (writable w) = w ≡ v

  -- The copy of every shape has the last value.
  fresh : (v : V) (s : Shape) → Fresh v (decode v s).copy
  fresh v s = grind arith

  -- A read that is accepted gives the last value written.
  pub latest_at : (sizes : Sizes) (site : Site V) (last : ℕ → V) → Invariant sizes site last → (t r : ℕ)
      → (step sizes site (read t r)).code ≡ 0 → (step sizes site (read t r)).value ≡ some (last r)
  unfolding step
  latest_at sizes site last I t r =
      cond_both (ltb t sizes.n) (cond (ltb r sizes.b) (read_at sizes site t r (copy_at sizes site t r)) (out site 8 none))
      (out site 7 none) P
      (λ a.
      cond_both (ltb r sizes.b) (read_at sizes site t r (copy_at sizes site t r)) (out site 8 none) P
      (λ b. go (copy_at sizes site t r) (fresh_at (ltb-true t sizes.n a) (ltb-true r sizes.b b)))
      (λ _ e. absurd (omega arith)))
      (λ _ e. absurd (omega arith))
    where
      P : Out V → Type 0
      P o = o.code ≡ 0 → o.value ≡ some (last r)

      fresh_at : t < sizes.n → r < sizes.b → Fresh (last r) (copy_at sizes site t r)
      fresh_at tl rl =
          subst (λ c. Fresh (last r) c.copy) (sym ((I.each r rl).is t tl)) (fresh (last r) ((I.each r rl).shape t))

      missed : (w : Want) → P (miss sizes site t r reading w)
      missed (wants j x) = λ e. absurd (omega arith)
      missed rests =
          cond_both (leb (length (site.up t) + (length (evict (site.place t (r % sizes.l))) + 1)) sizes.up_depth)
          (out (after_asking sizes site t r reading) 1 none) (out site 3 none) P (λ _ e. absurd (omega arith))
          (λ _ e. absurd (omega arith))

      go : (c : Copy V) → Fresh (last r) c → P (read_at sizes site t r c)
      go no_copy f = missed (site.wait t)
      go (readable v) f = λ e. ap some f
      go (writable v) f = λ e. ap some f

module _ {V : Type 0} where
  -- An entry that the shapes fit is legal.
  legal : (n : ℕ) (last : V) (ph : Phase) (v : V) (a : ℕ) (p : ℕ → Bool) (f : ℕ → Shape) → Fit n last (home ph v a p) f
      → Legal n ph a
  legal n last read_only v a p f F = F.owed
  legal n last read_write v a p f F = F.owed
  legal n last (Transaction reading) v a p f F = F.owed
  legal n last (Transaction writing) v a p f F =
      let h : ℕ = F.held.0 in
      let g : p h ≡ true = F.held.2 h F.held.1 ∙ same_refl h in
      let o : owing (f h) ≡ false = grind (arith, F.each h F.held.1) in
      (F.owed, omega (arith, F.counts, count_less (λ u. owing (f u)) n h F.held.1 o))

  -- The home's entries are legal.
  pub legal_at : (sizes : Sizes) (site : Site V) (last : ℕ → V) → Invariant sizes site last → (r : ℕ) → r < sizes.b
      → Legal sizes.n (site.homes r).phase (site.homes r).acks
  legal_at sizes site last I r rl =
      let J : RecordInvariant sizes.n (last r) (site.homes r) (projection sizes site r) = I.each r rl in
      let entry : Home V = site.homes r in
      legal sizes.n (last r) entry.phase entry.value entry.acks entry.holds J.shape J.fit
