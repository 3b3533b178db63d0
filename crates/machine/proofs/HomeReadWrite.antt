-- The home's steps at a Read-Write record: a request of another, and the owner's replacement, keep the invariant.
use Rattle.std.proofs.Common.{◌≡◌, ℕ, ◌<◌, ◌≤◌, Bool, true, false, [], refl, ◌∙◌, inr, arith}
use Rattle.machine.specs.Machine.{Access, reading, writing, no_copy, waits, REQ, REPM, BUSY, INV, Cell, cell, read_only, read_write, Transaction, home, same, count, nobody}
use Rattle.machine.specs.HomeRules.{after, pop_up, on_read_write}
use Rattle.machine.specs.Shapes.{bare, Idle, Shape, idle, requester, decode}
use Rattle.machine.specs.Invariant.{owing, copyless, allowed, Sole, Owed, RecordInvariant}
use Rattle.machine.proofs.Counts.{same_refl, same_no, count_ext, same_tells, count_same, count_less, count_inside}
use Rattle.machine.proofs.NewShapes.{mark, put, fit_read_only, Good, shape_told}

-- One holder counts 1.
pub sole_count : (n : ℕ) (holders : ℕ → Bool) → Sole n holders → count holders n ≡ 1
sole_count n holders s = count_ext holders (same s.0) n s.2 ∙ count_same n s.0 s.1

-- A requester with no copy goes with a transaction that is owed one acknowledgement.
bare_allowed : (k : Access)
    → (allowed (Transaction k) true (requester (bare k)) ≡ true) × (copyless (requester (bare k)) ≡ true)
    × Owed (Transaction k) 1
bare_allowed reading = (refl, refl, refl)
bare_allowed writing = (refl, refl, omega arith)

module _ {V : Type 0} where
  module _
      (n served limit : ℕ) (last v : V) (a : ℕ) (wide : n ≤ served) (holders : ℕ → Bool) (cells : ℕ → Cell V)
      (I : RecordInvariant n last (home read_write v a holders) cells) (t : ℕ) (lt : t < n) where
    -- A request of another: the owner is told to invalidate.
    request_invalidates : (k : Access) → holders t ≡ false → pop_up (cells t) ≡ cell no_copy (waits k) [] []
        → RecordInvariant n last (home (Transaction k) v 1 (same t)) (after t holders INV cells)
    unfolding mark
    request_invalidates k z e =
        let f : ℕ → Shape = mark t (requester (bare k)) holders shape_told I.shape in
        let h : ℕ = I.fit.held.0 in
        record {
          shape = f;
          is = λ u l. grind (arith, I.is, I.fit.each, same_tells);
          fit =
              record {
                each = λ u l. grind (arith, I.fit.each, same_tells);
                inside = λ u l. same_no t u (λ c. omega arith);
                held = (t, lt, λ u l. refl);
                owed = (bare_allowed k).2;
                counts =
                    count_ext (λ u. owing (f u)) holders n (λ u l. grind (arith, I.fit.each, same_tells))
                    ∙ sole_count n holders I.fit.held;
                valued =
                    inr (
                      refl,
                      λ u l. grind (arith, I.fit.each, same_tells),
                      (h, I.fit.held.1, grind (arith, I.fit.each, I.fit.held.2, same_tells, same_refl)),
                    );
              };
        }

    -- A request.
    pub read_write_request : (k : Access) → holders t ≡ false → pop_up (cells t) ≡ cell no_copy (waits k) [] []
        → Good n served limit last (home read_write v a holders) cells t (REQ k)
    unfolding on_read_write
    read_write_request k z e = (
      _,
      rw (z, count_inside holders n served wide I.fit.inside, sole_count n holders I.fit.held) refl,
      (request_invalidates k z e, omega (arith, count_less holders n t lt z)),
    )

    -- The owner gave the record back: nobody holds it.
    comes_home : (x : Idle) → holders t ≡ true → pop_up (cells t) ≡ decode last (idle x)
        → RecordInvariant n last (home read_only last 0 nobody) (after t nobody BUSY cells)
    unfolding put
    comes_home x z e =
        record {
          shape = put t (idle x) I.shape;
          is = λ u l. grind (arith, I.is, same_tells);
          fit =
              fit_read_only n last last nobody (put t (idle x) I.shape)
              (λ u l. grind (arith, I.fit.each, I.fit.held.2, same_tells)) (λ u l. refl) refl;
        }

    -- A replacement.
    pub read_write_replaced : (x : Idle) → holders t ≡ true → pop_up (cells t) ≡ decode last (idle x)
        → Good n served limit last (home read_write v a holders) cells t (REPM last)
    unfolding on_read_write
    read_write_replaced x z e = (
      record { next = home read_only last 0 nobody; to = nobody; msg = BUSY },
      rw (z, count_inside holders n served wide I.fit.inside, sole_count n holders I.fit.held) refl,
      (comes_home x z e, omega arith),
    )
