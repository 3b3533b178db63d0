-- The home's steps at a Read-Only record: a request to read, and one to write, keep the invariant.
use Rattle.std.proofs.Common.{◌≡◌, ℕ, ◌<◌, ◌≤◌, Bool, false, ◌||◌, eqb, ltb, [], sym, refl, ◌∙◌, inl, arith, eq-eqb, eqb-true}
use borrow.Author.Tests.{eqb-false}
use Rattle.std.proofs.lemmas.Bool.{or_parts}
use Rattle.machine.specs.Machine.{reading, writing, no_copy, waits, Msg, REQ, BUSY, INV, DATA, Cell, cell, read_only, read_write, Transaction, home, same, count, besides, join}
use Rattle.machine.specs.HomeRules.{after, pop_up, Act, on_read_only}
use Rattle.machine.specs.Shapes.{kept, to_write, turned_away, data_coming, Shape, idle, sharer, owner, requester, permission_coming}
use Rattle.machine.specs.Invariant.{owing, RecordInvariant}
use Rattle.machine.proofs.Counts.{same_refl, same_no, same_tells, count_ext, count_zero, count_less, count_inside}
use Rattle.machine.proofs.NewShapes.{CostsLess, mark, put, fit_read_only, fit_read_write, pick, Good, shape_told}

module _ {V : Type 0} where
  module _
      (n served limit : ℕ) (last v : V) (a : ℕ) (wide : n ≤ served) (holders : ℕ → Bool) (cells : ℕ → Cell V)
      (I : RecordInvariant n last (home read_only v a holders) cells) (t : ℕ) (lt : t < n) where
    -- What is to be shown of what the home does about a message.
    abbrev Shown : Msg V → Act V → Type 0
    Shown y x = RecordInvariant n last x.next (after t x.to x.msg cells) × CostsLess n y x

    -- No terminal from n on is t.
    fits : (u : ℕ) → n ≤ u → same t u ≡ false
    fits u l = same_no t u (λ e. omega arith)

    -- The other holders are all below n.
    all_in : count (besides t holders) served ≡ count (besides t holders) n
    all_in = count_inside (besides t holders) n served wide (λ u l. rw (fits u l) (I.fit.inside u l))

    -- A reader gets the data.
    read_granted : pop_up (cells t) ≡ cell no_copy (waits reading) [] []
        → RecordInvariant n last (home read_only v 0 (join t holders)) (after t (same t) (DATA reading v) cells)
    unfolding put
    read_granted e =
        record {
          shape = put t (sharer data_coming) I.shape;
          is = λ u l. grind (arith, I.is, I.fit.valued, same_tells);
          fit =
              fit_read_only n last v (join t holders) (put t (sharer data_coming) I.shape)
              (λ u l. grind (arith, I.fit.each, same_tells)) (λ u l. rw (fits u l) (I.fit.inside u l)) I.fit.valued;
        }

    -- A reader is turned away where the directory is at its limit.
    read_turned_away : holders t ≡ false → pop_up (cells t) ≡ cell no_copy (waits reading) [] []
        → RecordInvariant n last (home read_only v 0 holders) (after t (same t) BUSY cells)
    unfolding put
    read_turned_away z e =
        record {
          shape = put t (idle (turned_away reading)) I.shape;
          is = λ u l. grind (arith, I.is, same_tells);
          fit =
              fit_read_only n last v holders (put t (idle (turned_away reading)) I.shape)
              (λ u l. grind (arith, I.fit.each, same_tells)) I.fit.inside I.fit.valued;
        }

    -- A request to read.
    pub read_only_read : pop_up (cells t) ≡ cell no_copy (waits reading) [] []
        → Good n served limit last (home read_only v a holders) cells t (REQ reading)
    unfolding on_read_only
    read_only_read e =
        pick
        (Shown (REQ reading))
        (holders t || ltb (count holders served) limit)
        _
        _
        (λ _. (_, refl, (read_granted e, omega arith)))
        (λ z. (_, refl, (read_turned_away (or_parts (holders t) (ltb (count holders served) limit) z).0 e, omega arith)))

    -- A writer that finds no other holder gets the permission.
    write_granted : (b : Bool) → pop_up (cells t) ≡ cell (kept last b) (waits writing) [] [] → count (besides t holders) n ≡ 0
        → RecordInvariant n last (home read_write v 0 (same t)) (after t (same t) (DATA writing v) cells)
    unfolding put
    write_granted b e z =
        let h : (u : ℕ) → u < n → besides t holders u ≡ false = count_zero (besides t holders) n z in
        record {
          shape = put t (owner (permission_coming b)) I.shape;
          is = λ u l. grind (arith, I.is, I.fit.valued, same_tells);
          fit =
              fit_read_write n last v (same t) (put t (owner (permission_coming b)) I.shape)
              (λ u l. grind (arith, I.fit.each, h, same_tells)) fits (t, lt, λ u l. refl);
        }

    -- Else the other holders are told to invalidate.
    write_invalidates : (b : Bool) → pop_up (cells t) ≡ cell (kept last b) (waits writing) [] []
        → 1 ≤ count (besides t holders) n
        → RecordInvariant n last (home (Transaction writing) v (count (besides t holders) n) (same t))
        (after t (besides t holders) INV cells)
    unfolding mark
    write_invalidates b e z =
        let f : ℕ → Shape = mark t (requester (to_write b)) (besides t holders) shape_told I.shape in
        record {
          shape = f;
          is = λ u l. grind (arith, I.is, I.fit.each, same_tells);
          fit =
              record {
                each = λ u l. grind (arith, I.fit.each, same_tells);
                inside = fits;
                held = (t, lt, λ u l. refl);
                owed = z;
                counts = count_ext (λ u. owing (f u)) (besides t holders) n (λ u l. grind (arith, I.fit.each, same_tells));
                valued = inl (I.fit.valued, λ u l. grind (arith, I.fit.each, same_tells));
              };
        }

    -- A request to write.
    pub read_only_write : (b : Bool) → pop_up (cells t) ≡ cell (kept last b) (waits writing) [] []
        → Good n served limit last (home read_only v a holders) cells t (REQ writing)
    unfolding on_read_only
    read_only_write b e =
        pick
        (Shown (REQ writing))
        (eqb (count (besides t holders) served) 0)
        _
        _
        (λ y. (_, refl, (write_granted b e (sym all_in ∙ eqb-true (count (besides t holders) served) 0 y), omega arith)))
        (λ y. (
          _,
          rw (all_in, count_inside holders n served wide I.fit.inside, eq-eqb (count holders n) (count holders n) refl) refl,
          (
            write_invalidates b e (omega (arith, all_in, eqb-false (count (besides t holders) served) 0 y)),
            omega (arith, count_less (besides t holders) n t lt (rw (same_refl t) refl)),
          ),
        ))
