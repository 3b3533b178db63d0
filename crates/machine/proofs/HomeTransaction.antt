-- The home's steps in a transaction: requests, a replacement, an update and acknowledgements keep the invariant. The
-- last acknowledgement finds the value at home, and nobody but the requester with a copy.
use Rattle.std.proofs.Common.{◌≡◌, ℕ, ◌-◌, ◌<◌, ◌≤◌, Bool, true, false, ◌&&◌, eqb, ltb, sym, refl, ◌∙◌, subst, inl, inr, arith, lt-ltb, eqb-true}
use borrow.Author.Tests.{eqb-false}
use Rattle.machine.specs.Machine.{Access, reading, writing, REQ, REPM, UPDATE, ACKC, BUSY, DATA, Cell, Transaction, home, count, besides, nobody}
use Rattle.machine.specs.HomeRules.{granted, many_acks, after, pop_up, push_down, act, on_transaction, finish}
use Rattle.machine.specs.Shapes.{Ask, to_read, to_write, Idle, Clean, data_coming, permission_coming, Shape, idle, sharer, owner, requester, clean, dirty, decode}
use Rattle.machine.specs.Invariant.{role, owing, has_value, copyless, allowed, Sole, Owed, Settled, Fit, RecordInvariant}
use Rattle.machine.proofs.Counts.{count_ext, same_tells, count_inside}
use Rattle.machine.proofs.NewShapes.{CostsLess, mark, put, fit_read_only, fit_read_write, fit_put, reply_is, pick, Good}
use Rattle.machine.proofs.HomeReadWrite.{sole_count}
use Rattle.machine.proofs.Owing.{value_is_home, fewer, others_free, one_owes}

-- What the answer makes of a requester.
abbrev answered : Ask → Shape
answered to_read = sharer data_coming
answered (to_write b) = owner (permission_coming b)

-- What the answer makes of a shape.
abbrev shape_answered : Shape → Shape
shape_answered (idle x) = idle x
shape_answered (sharer x) = sharer x
shape_answered (owner x) = owner x
shape_answered (requester a) = answered a
shape_answered (clean x) = clean x
shape_answered (dirty x) = dirty x

module _ {V : Type 0} where
  module _
      (n served limit : ℕ) (last v : V) (a : ℕ) (wide : n ≤ served) (k : Access) (holders : ℕ → Bool) (cells : ℕ → Cell V)
      (I : RecordInvariant n last (home (Transaction k) v a holders) cells) (t : ℕ) (lt : t < n) where
    -- A request is turned away.
    pub transaction_request : (j : Access) (s : Shape) → push_down true BUSY (pop_up (cells t)) ≡ decode last s
        → role s ≡ role (I.shape t) → (copyless (I.shape t) ≡ true → copyless s ≡ true)
        → Good n served limit last (home (Transaction k) v a holders) cells t (REQ j)
    unfolding on_transaction
    transaction_request j s e same-role cl = (
      _,
      refl,
      (
        record {
          shape = put t s I.shape;
          is = reply_is n last t s BUSY cells I.shape I.is e;
          fit = fit_put n last (Transaction k) v a holders I.shape t s lt I.fit same-role cl;
        },
        omega arith,
      ),
    )

    -- A replacement brings the value home; the acknowledgement is still owed.
    value_comes_home : (x : Clean) → holders t ≡ false → has_value (I.shape t) ≡ true → owing (I.shape t) ≡ true
        → pop_up (cells t) ≡ decode last (clean x)
        → RecordInvariant n last (home (Transaction k) last a holders) (after t nobody BUSY cells)
    unfolding put
    value_comes_home x z so ow e =
        let f : ℕ → Shape = put t (clean x) I.shape in
        let al : (u : ℕ) → u < n → besides t (λ u. owing (I.shape u)) u ≡ false
        = others_free n last v a k holders cells I t lt ow (one_owes n last v a k holders cells I t lt so I.fit.valued) in
        record {
          shape = f;
          is = λ u l. grind (arith, I.is, same_tells);
          fit =
              record {
                each = λ u l. grind (arith, I.fit.each, same_tells);
                inside = I.fit.inside;
                held = I.fit.held;
                owed = I.fit.owed;
                counts =
                    count_ext (λ u. owing (f u)) (λ u. owing (I.shape u)) n (λ u l. grind (arith, same_tells)) ∙ I.fit.counts;
                valued = inl (refl, λ u l. grind (arith, al, same_tells));
              };
        }

    -- A replacement.
    pub transaction_replaced : (x : Clean) → holders t ≡ false → has_value (I.shape t) ≡ true → owing (I.shape t) ≡ true
        → pop_up (cells t) ≡ decode last (clean x)
        → Good n served limit last (home (Transaction k) v a holders) cells t (REPM last)
    unfolding on_transaction
    transaction_replaced x z so ow e = (_, refl, (value_comes_home x z so ow e, omega arith))

    -- The last acknowledgement: the requester is answered.
    ends : (x : Idle) → holders t ≡ false → owing (I.shape t) ≡ true → a ≡ 1 → pop_up (cells t) ≡ decode last (idle x)
        → RecordInvariant n last (home (granted k) last 0 holders) (after t holders (DATA k last) cells)
    unfolding mark
    ends x z ow one e =
        let f : ℕ → Shape = mark t (idle x) holders shape_answered I.shape in
        let al : (u : ℕ) → u < n → besides t (λ u. owing (I.shape u)) u ≡ false = others_free n last v a k holders cells I t lt ow one in
        record {
          shape = f;
          is = λ u l. grind (arith, I.is, I.fit.each, same_tells);
          fit = made k I.fit.held (λ u l. grind (arith, I.fit.each, al, same_tells));
        }
      where
        made : (k : Access) → Sole n holders
            → ((u : ℕ) → u < n → allowed (granted k) (holders u) (mark t (idle x) holders shape_answered I.shape u) ≡ true)
            → Fit n last (home (granted k) last 0 holders) (mark t (idle x) holders shape_answered I.shape)
        made reading s h =
            fit_read_only n last last holders (mark t (idle x) holders shape_answered I.shape) h I.fit.inside refl
        made writing s h =
            fit_read_write n last last holders (mark t (idle x) holders shape_answered I.shape) h I.fit.inside s

    -- The one holder that the home looks for is there.
    finished : (w : V) → finish n served k w holders ≡ act (home (granted k) w 0 holders) holders (DATA k w)
    unfolding finish
    finished w = rw (count_inside holders n served wide I.fit.inside, sole_count n holders I.fit.held) refl

    -- An update.
    pub transaction_updated : (x : Idle) → holders t ≡ false → has_value (I.shape t) ≡ true → owing (I.shape t) ≡ true
        → pop_up (cells t) ≡ decode last (idle x)
        → Good n served limit last (home (Transaction k) v a holders) cells t (UPDATE last)
    unfolding on_transaction
    transaction_updated x z so ow e =
        let o : a ≡ 1 = one_owes n last v a k holders cells I t lt so I.fit.valued in
        (_, rw o (finished last), (ends x z ow o e, omega arith))

    -- An acknowledgement that is not the last is counted off.
    one_ack_less : (x : Idle) → holders t ≡ false → owing (I.shape t) ≡ true → (a ≡ 1 → ⊥)
        → pop_up (cells t) ≡ decode last (idle x)
        → RecordInvariant n last (home (Transaction k) v (a - 1) holders) (after t nobody BUSY cells)
    unfolding put
    one_ack_less x z ow ne e =
        let f : ℕ → Shape = put t (idle x) I.shape in
        let c : count (λ u. owing (f u)) n ≡ count (besides t (λ u. owing (I.shape u))) n
        = count_ext (λ u. owing (f u)) (besides t (λ u. owing (I.shape u))) n (λ u l. grind (arith, same_tells)) in
        record {
          shape = f;
          is = λ u l. grind (arith, I.is, same_tells);
          fit =
              record {
                each = λ u l. grind (arith, I.fit.each, same_tells);
                inside = I.fit.inside;
                held = I.fit.held;
                owed = owed' k I.fit.owed;
                counts = omega (arith, c, fewer n last v a k holders cells I t lt ow);
                valued = valued' I.fit.valued;
              };
        }
      where
        owed' : (k : Access) → Owed (Transaction k) a → Owed (Transaction k) (a - 1)
        owed' reading h = absurd (ne h)
        owed' writing h = omega arith

        valued' : Settled n v last a I.shape → Settled n v last (a - 1) (put t (idle x) I.shape)
        valued' (inl h) = inl (h.0, λ u l. grind (arith, h.1, same_tells))
        valued' (inr h) = absurd (ne h.0)

    -- Then the transaction is one to write.
    more : (k : Access) → Owed (Transaction k) a → (a ≡ 1 → ⊥) → (many_acks k && ltb 1 a) ≡ true
    more reading h ne = absurd (ne h)
    more writing h ne = lt-ltb 1 a (omega arith)

    -- An acknowledgement.
    pub transaction_acked : (x : Idle) → holders t ≡ false → has_value (I.shape t) ≡ false → owing (I.shape t) ≡ true
        → pop_up (cells t) ≡ decode last (idle x) → Good n served limit last (home (Transaction k) v a holders) cells t ACKC
    unfolding on_transaction
    transaction_acked x z so ow e =
        pick
        (λ x. RecordInvariant n last x.next (after t x.to x.msg cells) × CostsLess n ACKC x)
        (eqb a 1)
        _
        _
        (λ y. (
          record { next = home (granted k) v 0 holders; to = holders; msg = DATA k v },
          finished v,
          (
            subst
                (λ w. RecordInvariant n last (home (granted k) w 0 holders) (after t holders (DATA k w) cells))
                (sym (value_is_home n last v a k holders cells I t lt so ow I.fit.valued))
                (ends x z ow (eqb-true a 1 y) e),
            omega arith,
          ),
        ))
        (λ y. (
          record { next = home (Transaction k) v (a - 1) holders; to = nobody; msg = BUSY },
          rw (more k I.fit.owed (eqb-false a 1 y)) refl,
          (one_ack_less x z ow (eqb-false a 1 y) e, omega arith),
        ))
