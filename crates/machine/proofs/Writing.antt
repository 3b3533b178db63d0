-- A write in place: while a terminal has a copy that may be written, nobody else has a copy or a value, so the value of the
-- record is that terminal's to change. Exclusion rests on this.
use Rattle.std.proofs.Common.{◌≡◌, ℕ, ◌<◌, Bool, true, false, ◌⊎◌, sym, refl, ap, ◌∙◌, subst, inl, inr, arith}
use Rattle.machine.specs.Machine.{Access, Copy, no_copy, readable, writable, Cell, cell, Phase, read_only, read_write, Transaction, Home, home, same}
use Rattle.machine.specs.Shapes.{owning, owning_told, Shape, owner, dirty, decode}
use Rattle.machine.specs.Invariant.{owing, has_value, copyless, allowed, Settled, Valued, RecordInvariant}
use Rattle.machine.proofs.Counts.{Same, eq, ne, view, same_no, same_true, clash}
use Rattle.machine.proofs.NewShapes.{turn}
use Rattle.machine.proofs.Owing.{alone}

module _ {V : Type 0} where
  -- Whether a copy may be written.
  abbrev pub is_writable : Copy V → Bool
  is_writable no_copy = false
  is_writable (readable v) = false
  is_writable (writable v) = true

  -- Two shapes have a copy that may be written.
  pub writers : (v : V) (s : Shape) → is_writable (decode v s).copy ≡ true → (s ≡ owner owning) ⊎ (s ≡ dirty owning_told)
  writers v s h = grind arith

  -- Idle shapes have no copy and no value.
  idle_plain : (v w : V) (s : Shape) → allowed read_write false s ≡ true
      → (decode v s ≡ decode w s) × ((decode v s).copy ≡ no_copy)
  idle_plain v w s h = grind arith

  -- So have shapes of a transaction that owe nothing and keep no copy.
  free_plain : (v w : V) (k : Access) (b : Bool) (s : Shape) → allowed (Transaction k) b s ≡ true → owing s ≡ false
      → copyless s ≡ true → (decode v s ≡ decode w s) × ((decode v s).copy ≡ no_copy)
  free_plain v w k b s h o c = grind arith

  module _ (n : ℕ) (last w v : V) (a : ℕ) (p : ℕ → Bool) (cells : ℕ → Cell V) (t : ℕ) (lt : t < n) where
    -- Of the others: no copy, and the same cell whatever the last value is. The home's value may stay.
    abbrev OthersEmpty : (ph : Phase) (f : ℕ → Shape) → Type 0
    OthersEmpty ph f =
        ((u : ℕ) → u < n → (t ≡ u → ⊥) → (decode last (f u) ≡ decode w (f u)) × ((decode last (f u)).copy ≡ no_copy))
        × Valued ph n v w a f

    -- While an owner may write.
    alone_owning : (ph : Phase) (I : RecordInvariant n last (home ph v a p) cells) → I.shape t ≡ owner owning
        → OthersEmpty ph I.shape
    alone_owning read_only I e = clash (subst (λ s. allowed read_only (p t) s ≡ true) e (I.fit.each t lt))
    alone_owning (Transaction k) I e = clash (subst (λ s. allowed (Transaction k) (p t) s ≡ true) e (I.fit.each t lt))
    alone_owning read_write I e = (
      λ u l d.
          idle_plain last w (I.shape u)
          (turn read_write (p u) false (I.shape u) (I.fit.held.2 u l ∙ same_no I.fit.held.0 u (λ c. d (sym at_t ∙ c)))
          (I.fit.each u l)),
      tt,
    )
      where
        at_t : I.fit.held.0 ≡ t
        at_t =
            same_true I.fit.held.0 t
            (sym (I.fit.held.2 t lt) ∙ subst (λ s. allowed read_write (p t) s ≡ true) e (I.fit.each t lt))

    -- While an owner that was told to invalidate may still write.
    alone_dirty : (ph : Phase) (I : RecordInvariant n last (home ph v a p) cells) → I.shape t ≡ dirty owning_told
        → OthersEmpty ph I.shape
    alone_dirty read_only I e = clash (subst (λ s. allowed read_only (p t) s ≡ true) e (I.fit.each t lt))
    alone_dirty read_write I e = clash (subst (λ s. allowed read_write (p t) s ≡ true) e (I.fit.each t lt))
    alone_dirty (Transaction k) I e = go I.fit.valued
      where
        go : Settled n v last a I.shape → OthersEmpty (Transaction k) I.shape
        go (inl h) = clash (sym (h.1 t lt) ∙ ap has_value e)
        go (inr h) = (
          λ u l d.
              free_plain last w k (p u) (I.shape u) (I.fit.each u l)
              (alone n last v a k p cells I t lt (ap owing e) h.0 u l d) (h.1 u l),
          inr h,
        )

    -- In both cases.
    others_empty : (ph : Phase) (I : RecordInvariant n last (home ph v a p) cells)
        → (I.shape t ≡ owner owning) ⊎ (I.shape t ≡ dirty owning_told) → OthersEmpty ph I.shape
    others_empty ph I (inl e) = alone_owning ph I e
    others_empty ph I (inr e) = alone_dirty ph I e

  -- While t may write, nobody else has a copy or a value.
  pub sole-writer :
      (n : ℕ) (last w : V) (entry : Home V) (cells : ℕ → Cell V) (t : ℕ) (lt : t < n) (I : RecordInvariant n last entry cells)
      → is_writable (cells t).copy ≡ true
      → OthersEmpty n last w entry.value entry.acks entry.holds cells t lt entry.phase I.shape
  sole-writer n last w entry cells t lt I h =
      others_empty n last w entry.value entry.acks entry.holds cells t lt entry.phase I
      (writers last (I.shape t) (subst (λ c. is_writable c.copy ≡ true) (I.is t lt) h))

  -- The writer's cell after the write.
  wrote : (v w : V) (s : Shape) → (s ≡ owner owning) ⊎ (s ≡ dirty owning_told)
      → cell (writable w) (decode v s).wait (decode v s).up (decode v s).down ≡ decode w s
  wrote v w s (inl e) = rw e refl
  wrote v w s (inr e) = rw e refl

  -- A write in place keeps the invariant, with the value written as the last one.
  pub record_written : (n : ℕ) (last w : V) (entry : Home V) (cells new : ℕ → Cell V) (t : ℕ) (lt : t < n)
      → ((u : ℕ) → u < n → (t ≡ u → ⊥) → new u ≡ cells u) → RecordInvariant n last entry cells
      → is_writable (cells t).copy ≡ true → new t ≡ cell (writable w) (cells t).wait (cells t).up (cells t).down
      → RecordInvariant n w entry new
  record_written n last w entry cells new t lt e I h at =
      let k : OthersEmpty n last w entry.value entry.acks entry.holds cells t lt entry.phase I.shape
      = sole-writer n last w entry cells t lt I h in
      record {
        shape = I.shape;
        is = λ u l. go k u l (same t u) (view t u);
        fit =
            record {
              each = I.fit.each;
              inside = I.fit.inside;
              held = I.fit.held;
              owed = I.fit.owed;
              counts = I.fit.counts;
              valued = k.1;
            };
      }
    where
      go : OthersEmpty n last w entry.value entry.acks entry.holds cells t lt entry.phase I.shape → (u : ℕ) → u < n
          → (b : Bool) → Same t u b → new u ≡ decode w (I.shape u)
      go k u l true (eq q) =
          subst
          (λ y. new y ≡ decode w (I.shape y))
          q
          (at
          ∙ (ap (λ c. cell (writable w) c.wait c.up c.down) (I.is t lt)
          ∙ wrote last w (I.shape t) (writers last (I.shape t) (subst (λ c. is_writable c.copy ≡ true) (I.is t lt) h))))
      go k u l false (ne d) = e u l d ∙ (I.is u l ∙ (k.0 u l d).0)
