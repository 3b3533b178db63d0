-- How long lanes get: two messages a record and one more on the way up, one a record and one more on the way down. A lane
-- of that depth is never full.
use Rattle.std.proofs.Common.{◌≡◌, ℕ, ◌+◌, ◌*◌, ◌<◌, ◌≤◌, Bool, true, false, cond, length, sym, refl, subst, arith}
use Rattle.machine.specs.Machine.{still, waits, same}
use Rattle.machine.specs.Site.{Want, rests, wants, Sizes, Site, messages_about, wait_of, total, Place}
use Rattle.machine.specs.Shapes.{Shape, decode}
use Rattle.machine.specs.Invariant.{PlaceFree, Invariant}
use Rattle.machine.specs.Claims.{is_waiting}
use Rattle.machine.proofs.Counts.{count_same}
use Rattle.machine.proofs.Sums.{total_ext, total_le, total_add, total_const, total_none, total_count}
use Rattle.machine.proofs.Weights.{weigh, load, split, one, length_load}
use Rattle.machine.proofs.TerminalTakes.{wait_weight}

module _ {V : Type 0} where
  -- A shape has at most two messages on the way up, and a third while it waits.
  up_length : (v : V) (s : Shape) → weigh one (decode v s).up ≤ 2 + wait_weight (decode v s).wait
  up_length v s = grind arith

  -- A shape has at most one message on the way down, and a second while it waits.
  down_length : (v : V) (s : Shape) → weigh one (decode v s).down ≤ 1 + wait_weight (decode v s).wait
  down_length v s = grind arith

-- A terminal waits for one record at the most.
pub one_wait_weighs_one : {V : Type 0} (l b : ℕ) (f : ℕ → Place V) (w : Want) → PlaceFree l b f w
    → total (λ r. wait_weight (wait_of r w)) b ≡ cond (is_waiting w) 1 0
unfolding wait_of
one_wait_weighs_one l b f rests h = total_none b
one_wait_weighs_one l b f (wants k x) h =
    let e : total (λ r. wait_weight (cond (same x r) (waits k) still)) b ≡ total (λ r. cond (same x r) 1 0) b
    = total_ext (λ r. wait_weight (cond (same x r) (waits k) still)) (λ r. cond (same x r) 1 0) b (λ r l. go (same x r)) in
    omega (arith, e, total_count (same x) 1 b, count_same b x h.0)
  where
    go : (c : Bool) → wait_weight (cond c (waits k) still) ≡ cond c 1 0
    go true = refl
    go false = refl

-- It weighs 1 at the most.
pub at_most : (w : Want) → cond (is_waiting w) 1 0 ≤ 1
at_most rests = omega arith
at_most (wants k x) = omega arith

module _ {V : Type 0} where
  module _ (sizes : Sizes) (site : Site V) (last : ℕ → V) (I : Invariant sizes site last) (t : ℕ) (lt : t < sizes.n) where
    -- A lane on the way up.
    pub up_bound : length (site.up t) ≤ 2 * sizes.b + 1
    up_bound =
        let a : load one (site.up t) ≡ total (λ r. weigh one (messages_about r (site.up t))) sizes.b
        = split one sizes.b (site.up t) (I.ups t lt) in
        let c : total (λ r. weigh one (messages_about r (site.up t))) sizes.b
        ≤ total (λ r. 2 + wait_weight (wait_of r (site.wait t))) sizes.b
        = total_le (λ r. weigh one (messages_about r (site.up t))) (λ r. 2 + wait_weight (wait_of r (site.wait t))) sizes.b
        (λ r l.
        subst (λ y. weigh one y.up ≤ 2 + wait_weight y.wait) (sym ((I.each r l).is t lt))
        (up_length (last r) ((I.each r l).shape t))) in
        omega (
          arith,
          length_load (site.up t),
          a,
          c,
          total_add (λ r. 2) (λ r. wait_weight (wait_of r (site.wait t))) sizes.b,
          total_const 2 sizes.b,
          one_wait_weighs_one sizes.l sizes.b (site.place t) (site.wait t) (I.place_free t lt),
          at_most (site.wait t),
        )

    -- A lane on the way down.
    pub down_bound : length (site.down t) ≤ sizes.b + 1
    down_bound =
        let a : load one (site.down t) ≡ total (λ r. weigh one (messages_about r (site.down t))) sizes.b
        = split one sizes.b (site.down t) (I.downs t lt) in
        let c : total (λ r. weigh one (messages_about r (site.down t))) sizes.b
        ≤ total (λ r. 1 + wait_weight (wait_of r (site.wait t))) sizes.b
        = total_le (λ r. weigh one (messages_about r (site.down t))) (λ r. 1 + wait_weight (wait_of r (site.wait t))) sizes.b
        (λ r l.
        subst (λ y. weigh one y.down ≤ 1 + wait_weight y.wait) (sym ((I.each r l).is t lt))
        (down_length (last r) ((I.each r l).shape t))) in
        omega (
          arith,
          length_load (site.down t),
          a,
          c,
          total_add (λ r. 1) (λ r. wait_weight (wait_of r (site.wait t))) sizes.b,
          total_const 1 sizes.b,
          one_wait_weighs_one sizes.l sizes.b (site.place t) (site.wait t) (I.place_free t lt),
          at_most (site.wait t),
        )
